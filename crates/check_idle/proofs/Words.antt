-- What is kept of a device is what the words of the law say, before the first event and after one more.
use Rattle.std.proofs.Common.{if◌then◌else◌, ◌≡◌, ℕ, suc, ◌==◌, Bool, true, false, not, ◌&&◌, ◌||◌, codes, List, [], ◌∷◌, ◌++◌, length, map, take, slice_get, Option, Some, refl, sym, ap, ◌∙◌}
use Rattle.std.specs.List.{filter_map}
use Rattle.wdf_base.specs.declared.plan.Plan.{Plan}
use Rattle.wdf_base.specs.declared.declared.RegisterInfo.{RegisterInfo}
use Rattle.wdf_base.specs.declared.event.Access.TheVariants as access
use Rattle.wdf_base.specs.declared.event.Action.TheVariants as action
use Rattle.wdf_base.specs.declared.event.Ask.{Ask}
use Rattle.wdf_base.specs.declared.event.Post.TheVariants as post
use Rattle.wdf_base.specs.declared.event.Stage.TheVariants as stage
use Rattle.wdf_base.specs.declared.event.Event.{Event}
use Rattle.wdf_base.specs.declared.event.Event.TheVariants as event
use Rattle.wdf_model.specs.agents.IdlePolicy.{ends_asleep, ends_awake, is_register_named}
use Rattle.wdf_model.proofs.Runs.{take_next}
use Rattle.wdf_laws.specs.Events.{is_id, passed}
use Rattle.law_idle.specs.Idling.{Rest, asked_of, asleep_rest, asleep_step, awake_rest, awake_step, has_pending, hold_register, hold_step, is_awake, is_held, refuses_removal, refuses_stop, rest_after, since, time_after}
use Rattle.law_idle.specs.Idling as law
use Rattle.law_idle.proofs.Since.{asleep_more, awake_more, held_more, since_more}
use Rattle.law_stuck_causes.proofs.Members.{map_twice}
use Rattle.check_idle.specs.Watched.{Watched, asked, asleep_after, awake_after, held_after, is_used, opened, pending_of, starts_anew, stirred, watched, watched_after}
use Rattle.check_idle.specs.Timed.{opened_by, timed_by, timed_devices, watches_after}
use Rattle.check_idle.proofs.Lists.{mapped_alike}
use Rattle.check_idle.proofs.Pending.{pending_more, used_as}

-- ---- the words, by layers

asked_is : (d : ℕ) (e : Event) → asked d e ≡ asked_of d e
asked_is d (event.Posted agent (post.Ask a n) answer) = refl
asked_is d (event.Posted agent _ answer) = refl
asked_is d _ = refl

awake_is : (d : ℕ) (e : Event) (x : Rest) → awake_after d e x ≡ awake_step d x e
awake_is d e x = ap (λ a. rest_after (is_id d (passed stage.Working e)) ends_awake (refuses_stop d e || refuses_removal d e) a x) (asked_is d e)

asleep_is : (d : ℕ) (e : Event) (x : Rest) → asleep_after d e x ≡ asleep_step d x e
asleep_is d e x = ap (λ a. rest_after (is_id d (passed stage.Sleeping e)) ends_asleep (refuses_removal d e) a x) (asked_is d e)

held_is : (register : Option ℕ) (e : Event) (held : Bool) → held_after register e held ≡ hold_step register held e
held_is register (event.Register cpu access.Write k v) held = refl
held_is register (event.Register cpu access.Read k v) held = refl
held_is register (event.Posted agent (post.Act (action.Set k v)) answer) held = refl
held_is register (event.Posted agent (post.Act _) answer) held = refl
held_is register (event.Posted agent _ answer) held = refl
held_is register _ held = refl

-- ---- one event more

-- a device with these parts
abbrev made : Watched → Rest → Rest → List ℕ → Bool → ℕ → Watched
made x awake asleep pending held since = record x { awake = awake; asleep = asleep; pending = pending; held = held; since = since }

five : (x : Watched) (a a' s s' : Rest) (p p' : List ℕ) (h h' : Bool) (n n' : ℕ) → a ≡ a' → s ≡ s' → p ≡ p' → h ≡ h' → n ≡ n' → made x a s p h n ≡ made x a' s' p' h' n'
five x a a' s s' p p' h h' n n' i j k l m = rw (i, j, k, l, m) refl

-- whether it starts anew, by what was and what is
abbrev anew : Bool → Bool → Bool → Bool → Bool → Bool → Bool
anew a b p q h k = (not a && b) || (p && not q) || (h && not k)

six : (a b p q h k b' p' q' k' : Bool) → b ≡ b' → p ≡ p' → q ≡ q' → k ≡ k' → anew a b p q h k ≡ anew a b' p' q' h k'
six a b p q h k b' p' q' k' i j l m = rw (i, j, l, m) refl

module _ (plan : Plan) (es : List Event) (e : Event) (d : ℕ) where
  abbrev x : Watched
  x = watched plan es d

  abbrev y : Watched
  y = watched plan (es ++ e ∷ []) d

  awake_same : awake_after d e (awake_rest plan d es) ≡ awake_rest plan d (es ++ e ∷ [])
  awake_same = awake_is d e (awake_rest plan d es) ∙ sym (awake_more plan d es e)

  asleep_same : asleep_after d e (asleep_rest d es) ≡ asleep_rest d (es ++ e ∷ [])
  asleep_same = asleep_is d e (asleep_rest d es) ∙ sym (asleep_more d es e)

  held_same : held_after (hold_register plan d) e (is_held plan d es) ≡ is_held plan d (es ++ e ∷ [])
  held_same = held_is (hold_register plan d) e (is_held plan d es) ∙ sym (held_more plan d es e)

  anew_same : starts_anew x (stirred es e x) ≡ law.starts_anew plan d es (es ++ e ∷ [])
  anew_same =
      six (is_awake plan d es) (awake_after d e (awake_rest plan d es)).now (is_used x) (is_used (stirred es e x)) (is_held plan d es) (held_after (hold_register plan d) e (is_held plan d es))
      (is_awake plan d (es ++ e ∷ [])) (has_pending d es) (has_pending d (es ++ e ∷ [])) (is_held plan d (es ++ e ∷ []))
      (ap (λ (r : Rest). r.now) awake_same) (used_as d es) (ap (λ rs. not (length rs == 0)) (pending_more d es e) ∙ used_as d (es ++ e ∷ [])) held_same

  pub one_more : watched_after es (time_after es) e x ≡ y
  one_more =
      five x (awake_after d e (awake_rest plan d es)) (awake_rest plan d (es ++ e ∷ [])) (asleep_after d e (asleep_rest d es)) (asleep_rest d (es ++ e ∷ []))
      (stirred es e x).pending (pending_of d (es ++ e ∷ [])) (held_after (hold_register plan d) e (is_held plan d es)) (is_held plan d (es ++ e ∷ []))
      (watched_after es (time_after es) e x).since (since plan d (es ++ e ∷ []))
      awake_same asleep_same (pending_more d es e) held_same
      (ap (λ b. if b then time_after es else since plan d es) anew_same ∙ sym (since_more plan d es e))

-- ---- all devices with a timeout

pub all_more : (plan : Plan) (all : List Event) (k : ℕ) (e : Event) → slice_get all k ≡ Some e → map (watched_after (take k all) (time_after (take k all)) e) (watches_after plan (take k all)) ≡ watches_after plan (take (suc k) all)
all_more plan all k e h =
    map_twice (watched plan (take k all)) (watched_after (take k all) (time_after (take k all)) e) (timed_devices plan)
    ∙ mapped_alike (λ d. watched_after (take k all) (time_after (take k all)) e (watched plan (take k all) d)) (watched plan (take (suc k) all))
    (λ d. one_more plan (take k all) e d ∙ ap (λ es. watched plan es d) (sym (take_next all k e h))) (timed_devices plan)

opens_one : (plan : Plan) (d : ℕ) → opened plan d ≡ watched plan [] d
unfolding awake_rest asleep_rest is_held
opens_one plan d = refl

opens_by : (plan : Plan) (r : RegisterInfo) (rs : List RegisterInfo) (b : Bool) → is_register_named plan r.device.0 (codes "IDLE_TIMEOUT") r ≡ b
    → filter_map (opened_by plan) rs ≡ map (watched plan []) (filter_map (timed_by plan) rs) → filter_map (opened_by plan) (r ∷ rs) ≡ map (watched plan []) (filter_map (timed_by plan) (r ∷ rs))
opens_by plan r rs true h rest = rw (h, opens_one plan r.device.0) (ap (λ ws. watched plan [] r.device.0 ∷ ws) rest)
opens_by plan r rs false h rest = rw h rest

opens_from : (plan : Plan) (rs : List RegisterInfo) → filter_map (opened_by plan) rs ≡ map (watched plan []) (filter_map (timed_by plan) rs)
opens_from plan [] = refl
opens_from plan (r ∷ rs) = opens_by plan r rs (is_register_named plan r.device.0 (codes "IDLE_TIMEOUT") r) refl (opens_from plan rs)

pub all_open : (plan : Plan) → filter_map (opened_by plan) plan.registers ≡ watches_after plan []
all_open plan = opens_from plan plan.registers
