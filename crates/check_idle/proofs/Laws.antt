-- The law of each device with a timeout is the law on idle runs.
use Rattle.std.proofs.Common.{◌≡◌, ℕ, zero, suc, ◌+◌, ◌==◌, Bool, true, false, not, ◌&&◌, ◌||◌, nat_lt, nat_le, min, codes, inl, inr, List, [], ◌∷◌, length, filter, find, map, unwrap_or, option_map, is_some, Option, Some, None, refl, sym, ap, subst, ◌∙◌, arith}
use Rattle.std.specs.List.{list_all}
use Rattle.std.proofs.lemmas.Bool.{eqb-true}
use Rattle.std.proofs.lemmas.Bool.Decides.{nat_tests}
use Rattle.std.proofs.lemmas.List.Folds.{list_all-map}
use Rattle.wdf_base.proofs.Tests.{both_left}
use Rattle.wdf_base.specs.declared.plan.Plan.{Plan}
use Rattle.wdf_base.specs.declared.ids.Handle.{Handle}
use Rattle.wdf_base.specs.declared.declared.DeviceInfo.{DeviceInfo}
use Rattle.wdf_base.specs.declared.declared.RegisterInfo.{RegisterInfo}
use Rattle.wdf_base.specs.declared.event.Ask.{Ask}
use Rattle.wdf_base.specs.declared.event.Ask.TheVariants as asks
use Rattle.wdf_base.specs.declared.event.Post.{Post}
use Rattle.wdf_base.specs.declared.event.Post.TheVariants as post
use Rattle.wdf_base.specs.declared.event.Event.{Event}
use Rattle.wdf_base.specs.declared.event.Event.TheVariants as event
use Rattle.wdf_model.specs.Plans.{declared_ids, device_of, devices_of}
use Rattle.wdf_model.specs.agents.IdlePolicy.{LONGEST_TIMEOUT, is_register_named, opening_value, timeout_of}
use Rattle.law_idle.specs.Idling.{has_pending, is_asleep, is_awake, is_held, since, time_after}
use Rattle.law_idle.specs.Idling as words
use Rattle.law_idle.specs.Law.{is_sent_to_sleep, is_well_rested, is_woken_by_line, keeps_idle_law, takes_part}
use Rattle.law_idle.specs.Law as law
use Rattle.law_idle.proofs.RestRuns.{device_is_declared}
use Rattle.law_idle.proofs.Told.{none_as}
use Rattle.law_stuck_causes.proofs.Members.{Has, each_here, each_kept, has_mapped, has_range}
use Rattle.law_trace_families.proofs.Families.{declared_within}
use Rattle.check_idle.specs.Watched.{Watched, is_used, keeps, keeps_ask, keeps_event, rests_well, sleeps_in_time, wakes_in_time, watched}
use Rattle.check_idle.specs.Timed.{timed_by, timed_devices, watches_after}
use Rattle.check_idle.proofs.Lists.{asked_alike, asked_nothing, asked_of_one, asked_within}
use Rattle.check_idle.proofs.Pending.{used_as}

-- ---- which devices have a timeout

record Found (p : RegisterInfo → Bool) (rs : List RegisterInfo) : Type 0 where
  register : RegisterInfo
  there : Has register rs
  passes : p register ≡ true

-- what a register with a name holds, where that isn't 0
abbrev held_in : (RegisterInfo → Bool) → List RegisterInfo → ℕ
held_in p rs = unwrap_or (option_map (λ (r : RegisterInfo). r.value) (find p rs)) 0

found_by : (p : RegisterInfo → Bool) (r : RegisterInfo) (rs : List RegisterInfo) (b : Bool) → p r ≡ b → (nat_lt 0 (held_in p rs) ≡ true → Found p rs) → nat_lt 0 (held_in p (r ∷ rs)) ≡ true → Found p (r ∷ rs)
found_by p r rs true e rest h = record { register = r; there = inl refl; passes = e }
found_by p r rs false e rest h = let f : Found p rs = rest (rw e at h) in record { register = f.register; there = inr f.there; passes = f.passes }

found : (p : RegisterInfo → Bool) (rs : List RegisterInfo) → nat_lt 0 (held_in p rs) ≡ true → Found p rs
found p [] h = absurd (let z : ⊥ = cc in z)
found p (r ∷ rs) h = found_by p r rs (p r) refl (found p rs) h

above : (v : ℕ) → nat_lt 0 (min v LONGEST_TIMEOUT) ≡ true → nat_lt 0 v ≡ true
above zero h = absurd (let z : ⊥ = cc in z)
above (suc v) h = grind (arith, nat_tests)

timed_is : (plan : Plan) (d : ℕ) (r : RegisterInfo) → is_register_named plan d (codes "IDLE_TIMEOUT") r ≡ true → timed_by plan r ≡ Some d
timed_is plan d r h =
    let same : r.device.0 ≡ d = eqb-true r.device.0 d (both_left (r.device.0 == d) _ h) in
    let named : is_register_named plan r.device.0 (codes "IDLE_TIMEOUT") r ≡ true = subst (λ n. is_register_named plan n (codes "IDLE_TIMEOUT") r ≡ true) (sym same) h in
    rw named (ap Some same)

is_timed : (plan : Plan) (d : ℕ) → takes_part plan d ≡ true → Has d (timed_devices plan)
is_timed plan d h =
    let f = found (is_register_named plan d (codes "IDLE_TIMEOUT")) plan.registers (above (opening_value plan d (codes "IDLE_TIMEOUT")) h) in
    has_mapped (timed_by plan) f.register d plan.registers f.there (timed_is plan d f.register f.passes)

-- ---- which devices are declared

kept_later : (p : ℕ → Bool) (x y : ℕ) (ys : List ℕ) (b : Bool) → p y ≡ b → Has x (filter p ys) → Has x (filter p (y ∷ ys))
kept_later p x y ys true e h = rw e (inr h)
kept_later p x y ys false e h = rw e h

kept_has : (p : ℕ → Bool) (x : ℕ) (xs : List ℕ) → Has x xs → p x ≡ true → Has x (filter p xs)
kept_has p x [] h k = absurd h
kept_has p x (y ∷ ys) (inl e) k = let is : p y ≡ true = ap p (sym e) ∙ k in rw is (inl e)
kept_has p x (y ∷ ys) (inr h) k = kept_later p x y ys (p y) refl (kept_has p x ys h k)

abbrev is_declared : Plan → ℕ → Bool
is_declared plan d = is_some (device_of plan d)

declared_by : (plan : Plan) (d : ℕ) (o : Option DeviceInfo) → device_of plan d ≡ o → is_some o ≡ true → Has d (devices_of plan)
declared_by plan d (Some info) at h =
    let within = declared_within plan d _ (device_is_declared plan d info at) in
    kept_has (is_declared plan) d (declared_ids plan) (has_range d 0 (suc (length plan.declared)) (omega arith) (omega (arith, within))) (ap is_some at)
declared_by plan d None at h = absurd (let z : ⊥ = cc in z)

is_device : (plan : Plan) (d : ℕ) → is_declared plan d ≡ true → Has d (devices_of plan)
is_device plan d h = declared_by plan d (device_of plan d) refl h

of_device : (plan : Plan) (d : ℕ) → Has d (devices_of plan) → is_declared plan d ≡ true
of_device plan d h = each_here (λ x. is_declared plan x ≡ true) (devices_of plan) d (each_kept (λ x. is_declared plan x ≡ true) (is_declared plan) (declared_ids plan) (λ x k e. e)) h

-- ---- the law of a device, in the law's words

module _ (plan : Plan) (es : List Event) where
  abbrev now : ℕ
  now = time_after es

  abbrev x : ℕ → Watched
  x d = watched plan es d

  idle_by : (a u v h : Bool) → u ≡ v → (a && not u && not h) ≡ (a && not v && not h)
  idle_by a u v h e = rw e refl

  idle_as : (d : ℕ) → (is_awake plan d es && not (is_used (x d)) && not (is_held plan d es)) ≡ words.is_idle plan d es
  idle_as d = idle_by (is_awake plan d es) (is_used (x d)) (has_pending d es) (is_held plan d es) (used_as d es)

  well_by : (s u v i j o : Bool) → u ≡ v → i ≡ j → (not (s && u) && not (i && o)) ≡ (not (s && v) && not (j && o))
  well_by s u v i j o e f = rw (e, f) refl

  rests_as : (d : ℕ) → rests_well now (x d) ≡ is_well_rested plan es d
  rests_as d = well_by (is_asleep d es) (is_used (x d)) (has_pending d es) _ (words.is_idle plan d es) (nat_le (since plan d es + timeout_of plan d) now) (used_as d es) (idle_as d)

  sleeps_by : (s i j o : Bool) → i ≡ j → (s || (i && o)) ≡ (s || (j && o))
  sleeps_by s i j o e = rw e refl

  abbrev slept_well : ℕ → Bool
  slept_well d = is_sent_to_sleep plan d || (words.is_idle plan d es && now == since plan d es + timeout_of plan d)

  sleeps_as : (d : ℕ) → sleeps_in_time now (x d) ≡ slept_well d
  sleeps_as d = sleeps_by (is_sent_to_sleep plan d) _ (words.is_idle plan d es) (now == since plan d es + timeout_of plan d) (idle_as d)

  wakes_by : (c s u v : Bool) → u ≡ v → (c || (s && u)) ≡ (c || (s && v))
  wakes_by c s u v e = rw e refl

  abbrev was_wanted : ℕ → Bool
  was_wanted d = is_woken_by_line plan d || (is_asleep d es && has_pending d es)

  wakes_as : (d : ℕ) → wakes_in_time (x d) ≡ was_wanted d
  wakes_as d = wakes_by (is_woken_by_line plan d) (is_asleep d es) (is_used (x d)) (has_pending d es) (used_as d es)

  -- ---- the law of all of them

  -- one that takes no part has no timeout
  by_part : (d : ℕ) (e : Event) → keeps now e (x d) ≡ (not (takes_part plan d) || keeps_event now e (x d))
  by_part d e = ap (λ b. b || keeps_event now e (x d)) (none_as (timeout_of plan d))

  abbrev all_keep : Event → Bool
  all_keep e = list_all (λ d. keeps now e (x d)) (timed_devices plan)

  tick_as : (time : ℕ) → keeps_idle_law plan es (event.Tick time) ≡ all_keep (event.Tick time)
  tick_as time =
      asked_within (takes_part plan) (is_declared plan) (is_well_rested plan es) (timed_devices plan) (devices_of plan) (is_timed plan) (is_device plan) (of_device plan)
      ∙ asked_alike (λ d. not (takes_part plan d) || (not (is_declared plan d) || is_well_rested plan es d)) (λ d. keeps now (event.Tick time) (x d))
      (λ d. ap (λ b. not (takes_part plan d) || (not (is_declared plan d) || b)) (sym (rests_as d)) ∙ sym (by_part d (event.Tick time))) (timed_devices plan)

  or_more : (a b c : Bool) → (a || b || c) ≡ (a || (b || c))
  or_more true b c = refl
  or_more false b c = refl

  sleep_as : (agent : ℕ) (n : Handle) (answer : Option Handle) → keeps_idle_law plan es (event.Posted agent (post.Ask asks.Sleep n) answer) ≡ all_keep (event.Posted agent (post.Ask asks.Sleep n) answer)
  sleep_as agent n answer =
      or_more (not (takes_part plan n.id.0)) (is_sent_to_sleep plan n.id.0) _
      ∙ asked_of_one (takes_part plan) slept_well n.id.0 (timed_devices plan) (is_timed plan n.id.0)
      ∙ asked_alike (λ d. not (takes_part plan d) || (not (n.id.0 == d) || slept_well d)) (λ d. keeps now (event.Posted agent (post.Ask asks.Sleep n) answer) (x d))
      (λ d. ap (λ b. not (takes_part plan d) || (not (n.id.0 == d) || b)) (sym (sleeps_as d)) ∙ sym (by_part d (event.Posted agent (post.Ask asks.Sleep n) answer))) (timed_devices plan)

  wake_as : (agent : ℕ) (n : Handle) (answer : Option Handle) → keeps_idle_law plan es (event.Posted agent (post.Ask asks.Wake n) answer) ≡ all_keep (event.Posted agent (post.Ask asks.Wake n) answer)
  wake_as agent n answer =
      or_more (not (takes_part plan n.id.0)) (is_woken_by_line plan n.id.0) _
      ∙ asked_of_one (takes_part plan) was_wanted n.id.0 (timed_devices plan) (is_timed plan n.id.0)
      ∙ asked_alike (λ d. not (takes_part plan d) || (not (n.id.0 == d) || was_wanted d)) (λ d. keeps now (event.Posted agent (post.Ask asks.Wake n) answer) (x d))
      (λ d. ap (λ b. not (takes_part plan d) || (not (n.id.0 == d) || b)) (sym (wakes_as d)) ∙ sym (by_part d (event.Posted agent (post.Ask asks.Wake n) answer))) (timed_devices plan)

  or_true : (b : Bool) → (b || true) ≡ true
  or_true true = refl
  or_true false = refl

  -- an event of which the law says nothing
  silent : (e : Event) → ((d : ℕ) → keeps_event now e (x d) ≡ true) → true ≡ all_keep e
  silent e h = sym (asked_nothing (λ d. keeps now e (x d)) (λ d. by_part d e ∙ ap (λ b. not (takes_part plan d) || b) (h d) ∙ or_true (not (takes_part plan d))) (timed_devices plan))

  other_ask : (agent : ℕ) (a : Ask) (n : Handle) (answer : Option Handle) → ((d : ℕ) → keeps_ask now a (x d) ≡ true) → true ≡ all_keep (event.Posted agent (post.Ask a n) answer)
  other_ask agent a n answer h = silent (event.Posted agent (post.Ask a n) answer) (λ d. ap (λ b. not (n.id.0 == d) || b) (h d) ∙ or_true (not (n.id.0 == d)))

  ask_as : (agent : ℕ) (a : Ask) (n : Handle) (answer : Option Handle) → keeps_idle_law plan es (event.Posted agent (post.Ask a n) answer) ≡ all_keep (event.Posted agent (post.Ask a n) answer)
  ask_as agent asks.Sleep n answer = sleep_as agent n answer
  ask_as agent asks.Wake n answer = wake_as agent n answer
  ask_as agent asks.Start n answer = other_ask agent asks.Start n answer (λ d. refl)
  ask_as agent asks.Rebalance n answer = other_ask agent asks.Rebalance n answer (λ d. refl)
  ask_as agent asks.Remove n answer = other_ask agent asks.Remove n answer (λ d. refl)
  ask_as agent asks.Surprise n answer = other_ask agent asks.Surprise n answer (λ d. refl)

  post_as : (agent : ℕ) (p : Post) (answer : Option Handle) → keeps_idle_law plan es (event.Posted agent p answer) ≡ all_keep (event.Posted agent p answer)
  post_as agent (post.Ask a n) answer = ask_as agent a n answer
  post_as agent p answer = silent (event.Posted agent p answer) (λ d. refl)

  law_by : (e : Event) → keeps_idle_law plan es e ≡ all_keep e
  law_by (event.Tick time) = tick_as time
  law_by (event.Posted agent p answer) = post_as agent p answer
  law_by e = silent e (λ d. refl)

  pub law_as : (e : Event) → keeps_idle_law plan es e ≡ list_all (keeps now e) (watches_after plan es)
  law_as e = law_by e ∙ sym (list_all-map (keeps now e) (watched plan es) (timed_devices plan))
