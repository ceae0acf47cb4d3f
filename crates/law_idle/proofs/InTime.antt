-- A device isn't idle for longer than its timeout, and the law on idle runs.
use Rattle.std.proofs.Common.{if◌then◌else◌, ◌≡◌, ◌≤◌, ◌<◌, ℕ, zero, suc, ◌+◌, ◌==◌, Bool, true, false, not, ◌&&◌, ◌||◌, nat_lt, nat_le, List, [], ◌∷◌, ◌++◌, inl, inr, Option, Some, None, filter, slice_get, take, is_some, refl, sym, ap, subst, ◌∙◌, arith, rules}
use Rattle.std.specs.List.{list_all, list_any}
use Rattle.std.proofs.lemmas.Bool.{eqb-true}
use Rattle.std.proofs.lemmas.Bool.Decides.{nat_tests}
use Rattle.wdf_base.proofs.Tests.{both_left, both_right, first as on_left, second as on_right}
use Rattle.wdf_base.specs.Meaning.{Meaning}
use Rattle.wdf_base.specs.Resolved.{IsResolved}
use Rattle.wdf_base.specs.declared.plan.Plan.{Plan}
use Rattle.wdf_base.specs.declared.ids.Handle.{Handle}
use Rattle.wdf_base.specs.declared.declared.DeviceInfo.{DeviceInfo}
use Rattle.wdf_base.specs.declared.declared.PostLine.{PostLine}
use Rattle.wdf_base.specs.declared.event.Ask.{Ask}
use Rattle.wdf_base.specs.declared.event.Ask.TheVariants as asks
use Rattle.wdf_base.specs.declared.event.Event.{Event}
use Rattle.wdf_base.specs.declared.event.Event.TheVariants as event
use Rattle.wdf_base.specs.declared.event.Post.{Post}
use Rattle.wdf_base.specs.declared.event.Post.TheVariants as post
use Rattle.wdf_base.specs.Same.{same_ask, same_handle, same_option, same_post}
use Rattle.wdf_model.specs.Plans.{declared_ids, device_of, first_there}
use Rattle.wdf_model.specs.State.{State}
use Rattle.wdf_model.specs.rules.Posts.{due_of, post_fits}
use Rattle.wdf_model.specs.rules.Ready.{IsRunOf, state_after}
use Rattle.wdf_model.specs.agents.App.{App, app_due, due_line, next_line}
use Rattle.wdf_model.specs.agents.IdlePolicy.{IdleDevice, IdlePolicy, count_of, first_post, idle_post, policy_due, timeout_of}
use Rattle.wdf_model.specs.agents.IdlePolicy as policies
use Rattle.wdf_model.proofs.Counts.{equal}
use Rattle.wdf_model.proofs.Runs.{take_ended, take_next}
use Rattle.wdf_model.proofs.Sames.{handle_decides}
use Rattle.wdf_model.proofs.Tests.{both}
use Rattle.law_trace_power.proofs.Laws.{comes_by}
use Rattle.law_idle.specs.Idling.{Rest, has_pending, is_asleep, is_awake, is_held, is_idle, since, starts_anew, time_after, time_step}
use Rattle.law_idle.specs.Law.{is_sent_to_sleep, is_sleep_of, is_wake_of, is_wanted, is_well_rested, is_woken_by_line, keeps_idle_law, rests_well, sleeps_in_time, takes_part}
use Rattle.law_idle.specs.Policies.{HasPolicy}
use Rattle.law_idle.proofs.PolicyRuns.{KnowsAll, knows_at}
use Rattle.law_idle.proofs.Since.{since_more, time_more}
use Rattle.law_idle.proofs.Ticks.{due_is, is_due, is_first, nothing_due, tick_at}
use Rattle.law_idle.proofs.Told.{Told, has_some, none_as}

-- ---- truth values

past : (a b : ℕ) → nat_le a b ≡ false → b < a
past a b h = grind (arith, nat_tests)

within : (a b : ℕ) → nat_le a b ≡ true → a ≤ b
within a b h = grind (arith, nat_tests)

some : (n : ℕ) → nat_lt 0 n ≡ true → 1 ≤ n
some n h = grind (arith, nat_tests)

-- a device that is idle and doesn't start anew was idle
was_idle : (a b p q h k : Bool) → (b && not q && not k) ≡ true → ((not a && b) || (p && not q) || (h && not k)) ≡ false → (a && not p && not h) ≡ true
was_idle true true false false false false i s = refl
was_idle true true true q h k i s = absurd (idle_not q k h i s)
  where
    idle_not : (q k h : Bool) → (true && not q && not k) ≡ true → ((not true && true) || (true && not q) || (h && not k)) ≡ false → ⊥
    idle_not true k h i s = let z : ⊥ = cc in z
    idle_not false k h i s = let z : ⊥ = cc in z
was_idle true true false q true k i s = absurd (held_not q k i s)
  where
    held_not : (q k : Bool) → (true && not q && not k) ≡ true → ((not true && true) || (false && not q) || (true && not k)) ≡ false → ⊥
    held_not true k i s = let z : ⊥ = cc in z
    held_not false true i s = let z : ⊥ = cc in z
    held_not false false i s = let z : ⊥ = cc in z
was_idle true true false true false k i s = absurd (let z : ⊥ = cc in z)
was_idle true true false false false true i s = absurd (let z : ⊥ = cc in z)
was_idle false true p q h k i s = absurd (let z : ⊥ = cc in z)
was_idle a false p q h k i s = absurd (let z : ⊥ = cc in z)

-- ---- what is idle for the policy is idle for the law

idle_as : (plan : Plan) (es : List Event) (x : IdleDevice) → Told plan es x → policies.is_idle x ≡ is_idle plan x.device.id.0 es
idle_as plan es x t =
    let a : x.awake ≡ is_awake plan x.device.id.0 es = ap (λ (r : Rest). r.now) t.awake in
    let p : (count_of x.pending == 0) ≡ not (has_pending x.device.id.0 es) = none_as (count_of x.pending) ∙ ap not t.pending in
    three x.awake (count_of x.pending == 0) x.hold (is_awake plan x.device.id.0 es) (not (has_pending x.device.id.0 es)) (is_held plan x.device.id.0 es) a p t.hold
  where
    three : (a b c a' b' c' : Bool) → a ≡ a' → b ≡ b' → c ≡ c' → (a && b && not c) ≡ (a' && b' && not c')
    three a b c a' b' c' e f g = rw (e, f, g) refl

wanted_as : (plan : Plan) (es : List Event) (x : IdleDevice) → Told plan es x → policies.is_wanted x ≡ (is_asleep x.device.id.0 es && has_pending x.device.id.0 es)
wanted_as plan es x t =
    two x.asleep (has_some x) (is_asleep x.device.id.0 es) (has_pending x.device.id.0 es) (ap (λ (r : Rest). r.now) t.asleep) t.pending
  where
    two : (a b a' b' : Bool) → a ≡ a' → b ≡ b' → (a && b) ≡ (a' && b')
    two a b a' b' e f = rw (e, f) refl

-- nothing due is neither wanted nor idle for long
record IsFree (now : ℕ) (x : IdleDevice) : Type 0 where
  unwanted : policies.is_wanted x ≡ false
  short : (policies.is_idle x && nat_le (x.since + x.timeout) now) ≡ false

free_by : (now : ℕ) (x : IdleDevice) (b c : Bool) → policies.is_wanted x ≡ b → (policies.is_idle x && nat_le (x.since + x.timeout) now) ≡ c
    → (if b then Some (post.Ask asks.Wake x.device) else if c then Some (post.Ask asks.Sleep x.device) else None) ≡ None → IsFree now x
free_by now x true c e f h = absurd (let z : ⊥ = cc in z)
free_by now x false true e f h = absurd (let z : ⊥ = cc in z)
free_by now x false false e f h = record { unwanted = e; short = f }

free : (now : ℕ) (x : IdleDevice) → idle_post now x ≡ None → IsFree now x
free now x h = free_by now x (policies.is_wanted x) (policies.is_idle x && nat_le (x.since + x.timeout) now) refl refl h

-- ---- lists

all_kept : (keep p : ℕ → Bool) (xs : List ℕ) → ((d : ℕ) → keep d ≡ true → p d ≡ true) → list_all p (filter keep xs) ≡ true
all_kept keep p [] h = refl
all_kept keep p (x ∷ xs) h = by (keep x) refl (all_kept keep p xs h)
  where
    by : (b : Bool) → keep x ≡ b → list_all p (filter keep xs) ≡ true → list_all p (filter keep (x ∷ xs)) ≡ true
    by true e rest = rw e (let one : p x ≡ true = h x e in rw (one, rest) refl)
    by false e rest = rw e rest

any_at : (p : PostLine → Bool) (xs : List PostLine) (j : ℕ) (l : PostLine) → slice_get xs j ≡ Some l → p l ≡ true → list_any p xs ≡ true
any_at p [] j l h k = absurd (let z : ⊥ = cc in z)
any_at p (x ∷ xs) zero l h k = let same : x ≡ l = cc in let is : p x ≡ true = ap p same ∙ k in rw is refl
any_at p (x ∷ xs) (suc j) l h k = on_right (p x) (list_any p xs) (any_at p xs j l h k)

-- ---- the manager's line

line_by : (now : ℕ) (line : Option PostLine) (q : Post) → due_line now line ≡ Some q → (l : PostLine) × (line ≡ Some l) × (l.post ≡ q)
line_by now None q h = absurd (let z : ⊥ = cc in z)
line_by now (Some l) q h = (l, refl, reached (nat_le l.tick now) h)
  where
    reached : (b : Bool) → (if b then Some l.post else None) ≡ Some q → l.post ≡ q
    reached true h = (let s : l.post ≡ q = cc in s)
    reached false h = absurd (let z : ⊥ = cc in z)

line_of : (p : App) (q : Post) → app_due p ≡ Some q → (l : PostLine) × (slice_get p.lines p.posted ≡ Some l) × (l.post ≡ q)
line_of p q h = line_by p.clock (next_line p) q h

-- ---- each place

module _ {A : Type 0} (plan : Plan) (m : Meaning A) (policy : A → Option IdlePolicy) (has : HasPolicy m policy) (run : List Event) (resolved : IsResolved plan) (is_run : IsRunOf plan m run) where
  abbrev k : (n : ℕ) → KnowsAll plan policy (state_after plan m (take n run)) (take n run)
  k n = knows_at plan m policy has run resolved is_run n

  -- when time passes, of a device that takes part
  record Quiet (n d : ℕ) : Type 0 where
    unwanted : (is_asleep d (take n run) && has_pending d (take n run)) ≡ false
    short : (is_idle plan d (take n run) && nat_le (since plan d (take n run) + timeout_of plan d) (time_after (take n run))) ≡ false

  quiet_for : (n : ℕ) (x : IdleDevice) → Told plan (take n run) x → IsFree (time_after (take n run)) x → Quiet n x.device.id.0
  quiet_for n x t f =
      let long : nat_le (x.since + x.timeout) (time_after (take n run)) ≡ nat_le (since plan x.device.id.0 (take n run) + timeout_of plan x.device.id.0) (time_after (take n run)) = rw (t.since, t.timeout) refl in
      record {
        unwanted = sym (wanted_as plan (take n run) x t) ∙ f.unwanted;
        short = sym (two (policies.is_idle x) (nat_le (x.since + x.timeout) (time_after (take n run))) _ _ (idle_as plan (take n run) x t) long) ∙ f.short;
      }
    where
      two : (a b a' b' : Bool) → a ≡ a' → b ≡ b' → (a && b) ≡ (a' && b')
      two a b a' b' e f = rw (e, f) refl

  quiet_at : (n d : ℕ) (info : DeviceInfo) (time : ℕ) → slice_get run n ≡ Some (event.Tick time) → device_of plan d ≡ Some info → takes_part plan d ≡ true → Quiet n d
  quiet_at n d info time at at_plan part =
      let c = (k n).covers d info at_plan part in
      let x : IdleDevice = c.1 in
      let w = (k n).devices c.0 x c.2 in
      let none : idle_post (k n).now.manager.clock x ≡ None = nothing_due plan m policy has run resolved is_run n time at c.0 x c.2 in
      subst (λ y. Quiet n y) c.3 (quiet_for n x w.told (free (time_after (take n run)) x (subst (λ t. idle_post t x ≡ None) (k n).clock none)))

  -- ---- idle for no longer than the timeout

  abbrev InTime : ℕ → List Event → Type 0
  InTime d es = is_idle plan d es ≡ true → time_after es ≤ since plan d es + timeout_of plan d

  abbrev anew : ℕ → List Event → Event → Bool
  anew d es e = starts_anew plan d es (es ++ e ∷ [])

  later_by : (d n : ℕ) (e : Event) (b : Bool) → anew d (take n run) e ≡ b → takes_part plan d ≡ true
      → time_after (take n run ++ e ∷ []) ≤ time_after (take n run) + 1
      → (is_idle plan d (take n run) ≡ true → time_after (take n run ++ e ∷ []) ≤ since plan d (take n run) + timeout_of plan d)
      → InTime d (take n run ++ e ∷ [])
  later_by d n e true s part one old i =
      let now : since plan d (take n run ++ e ∷ []) ≡ time_after (take n run) = since_more plan d (take n run) e ∙ rw s refl in
      let t = some (timeout_of plan d) part in
      omega (arith, now, t, one)
  later_by d n e false s part one old i =
      let es : List Event = take n run in
      let more : List Event = es ++ e ∷ [] in
      let now : since plan d more ≡ since plan d es = since_more plan d es e ∙ rw s refl in
      let was : is_idle plan d es ≡ true = was_idle (is_awake plan d es) (is_awake plan d more) (has_pending d es) (has_pending d more) (is_held plan d es) (is_held plan d more) i s in
      let o = old was in
      omega (arith, now, o)

  tick_by : (d n : ℕ) (info : DeviceInfo) (time : ℕ) → slice_get run n ≡ Some (event.Tick time) → device_of plan d ≡ Some info → takes_part plan d ≡ true → InTime d (take n run ++ event.Tick time ∷ [])
  tick_by d n info time at at_plan part =
      let t = tick_at plan m policy has run resolved is_run n time at in
      let is : time ≡ (state_after plan m (take n run)).clock + 1 = (let s = t.tick in let z : time ≡ (state_after plan m (take n run)).clock + 1 = cc in z) in
      let machine = (k n).machine in
      let new : time_after (take n run ++ event.Tick time ∷ []) ≡ time_after (take n run) + 1 = time_more (take n run) (event.Tick time) ∙ is ∙ ap (λ c. c + 1) machine in
      let q : Quiet n d = quiet_at n d info time at at_plan part in
      later_by d n (event.Tick time) (anew d (take n run) (event.Tick time)) refl part (omega (arith, new))
      (λ i.
      let short : nat_le (since plan d (take n run) + timeout_of plan d) (time_after (take n run)) ≡ false = sym (rw i refl) ∙ q.short in
      let less = past (since plan d (take n run) + timeout_of plan d) (time_after (take n run)) short in
      omega (arith, new, less))

  same_time : (now : ℕ) (e : Event) → ((time : ℕ) → e ≡ event.Tick time → ⊥) → time_step now e ≡ now
  same_time now (event.Tick time) h = absurd (h time refl)
  same_time now _ h = refl

  quiet_by : (d n : ℕ) (e : Event) → ((time : ℕ) → e ≡ event.Tick time → ⊥) → takes_part plan d ≡ true → InTime d (take n run) → InTime d (take n run ++ e ∷ [])
  quiet_by d n e off part old =
      let new : time_after (take n run ++ e ∷ []) ≡ time_after (take n run) = time_more (take n run) e ∙ same_time (time_after (take n run)) e off in
      later_by d n e (anew d (take n run) e) refl part (omega (arith, new)) (λ i. let o = old i in omega (arith, new, o))

  event_by : (d n : ℕ) (info : DeviceInfo) (e : Event) → slice_get run n ≡ Some e → device_of plan d ≡ Some info → takes_part plan d ≡ true → InTime d (take n run) → InTime d (take n run ++ e ∷ [])
  event_by d n info (event.Tick time) at at_plan part old = tick_by d n info time at at_plan part
  event_by d n info e at at_plan part old = quiet_by d n e (λ time h. let z : ⊥ = cc in z) part old

  opens : (d : ℕ) → InTime d []
  unfolding time_after
  opens d i = omega arith

  next : (d n : ℕ) (info : DeviceInfo) (found : Option Event) → slice_get run n ≡ found → device_of plan d ≡ Some info → takes_part plan d ≡ true → InTime d (take n run) → InTime d (take (suc n) run)
  next d n info None at at_plan part old = subst (λ es. InTime d es) (sym (take_ended run n at)) old
  next d n info (Some e) at at_plan part old = subst (λ es. InTime d es) (sym (take_next run n e at)) (event_by d n info e at at_plan part old)

  in_time : (d n : ℕ) (info : DeviceInfo) → device_of plan d ≡ Some info → takes_part plan d ≡ true → InTime d (take n run)
  in_time d zero info at_plan part = opens d
  in_time d (suc n) info at_plan part = next d n info (slice_get run n) refl at_plan part (in_time d n info at_plan part)

  -- ---- the law when time passes

  rests_by : (n time d : ℕ) (b : Bool) (o : Option DeviceInfo) → slice_get run n ≡ Some (event.Tick time) → takes_part plan d ≡ b → device_of plan d ≡ o → is_some o ≡ true → rests_well plan (take n run) d ≡ true
  rests_by n time d false o at part at_plan s = rw part refl
  rests_by n time d true None at part at_plan s = absurd (let z : ⊥ = cc in z)
  rests_by n time d true (Some info) at part at_plan s =
      let q : Quiet n d = quiet_at n d info time at at_plan part in
      let well : is_well_rested plan (take n run) d ≡ true = both (not (is_asleep d (take n run) && has_pending d (take n run))) (not (is_idle plan d (take n run) && nat_le (since plan d (take n run) + timeout_of plan d) (time_after (take n run)))) (ap not q.unwanted) (ap not q.short) in
      on_right (not (takes_part plan d)) (is_well_rested plan (take n run) d) well

  ticks : (n time : ℕ) → slice_get run n ≡ Some (event.Tick time) → keeps_idle_law plan (take n run) (event.Tick time) ≡ true
  ticks n time at = all_kept (λ id. is_some (device_of plan id)) (rests_well plan (take n run)) (declared_ids plan) (λ d s. rests_by n time d (takes_part plan d) (device_of plan d) at refl refl s)

  -- ---- the law where a device is put to sleep

  abbrev slept_well : ℕ → ℕ → Bool
  slept_well n d = is_idle plan d (take n run) && time_after (take n run) == since plan d (take n run) + timeout_of plan d

  abbrev was_wanted : ℕ → ℕ → Bool
  was_wanted n d = is_asleep d (take n run) && has_pending d (take n run)

  asleep_by : (n : ℕ) (h : Handle) (q : Post) → q ≡ post.Ask asks.Sleep h → first_post (k n).now ≡ Some q → slept_well n h.id.0 ≡ true
  asleep_by n h q is f =
      let first = is_first (k n).now.manager.clock (k n).now.devices q f in
      let d = is_due (k n).now.manager.clock first.device q first.due in
      let x : IdleDevice = first.device in
      let w = (k n).devices first.place x first.at in
      let same : post.Ask d.ask x.device ≡ post.Ask asks.Sleep h = sym d.is ∙ is in
      let device : x.device ≡ h = (let z : x.device ≡ h = cc in z) in
      elim d.why [
        | inl a ↦ absurd (let u = a.0 in let z : ⊥ = cc in z)
        | inr b ↦
            let idle : is_idle plan x.device.id.0 (take n run) ≡ true = sym (idle_as plan (take n run) x w.told) ∙ b.1 in
            let long : since plan x.device.id.0 (take n run) + timeout_of plan x.device.id.0 ≤ time_after (take n run) =
            (let l = within (x.since + x.timeout) (k n).now.manager.clock b.2 in let s = w.told.since in let t = w.told.timeout in let c = (k n).clock in omega (arith, l, s, t, c)) in
            let most = in_time x.device.id.0 n w.info w.declared w.part idle in
            let exact : time_after (take n run) ≡ since plan x.device.id.0 (take n run) + timeout_of plan x.device.id.0 = omega (arith, long, most) in
            let well : slept_well n x.device.id.0 ≡ true = both (is_idle plan x.device.id.0 (take n run)) _ idle (equal _ _ exact) in
            subst (λ (y : Handle). slept_well n y.id.0 ≡ true) device well
      ]

  -- ---- the law where a device is woken

  awake_by : (n : ℕ) (h : Handle) (q : Post) → q ≡ post.Ask asks.Wake h → first_post (k n).now ≡ Some q → was_wanted n h.id.0 ≡ true
  awake_by n h q is f =
      let first = is_first (k n).now.manager.clock (k n).now.devices q f in
      let d = is_due (k n).now.manager.clock first.device q first.due in
      let x : IdleDevice = first.device in
      let w = (k n).devices first.place x first.at in
      let same : post.Ask d.ask x.device ≡ post.Ask asks.Wake h = sym d.is ∙ is in
      let device : x.device ≡ h = (let z : x.device ≡ h = cc in z) in
      elim d.why [
        | inl a ↦
            let wanted : was_wanted n x.device.id.0 ≡ true = sym (wanted_as plan (take n run) x w.told) ∙ a.1 in
            subst (λ (y : Handle). was_wanted n y.id.0 ≡ true) device wanted
        | inr b ↦ absurd (let u = b.0 in let z : ⊥ = cc in z)
      ]

  -- ---- what a line of the manager posts

  line_at : (n : ℕ) (q : Post) → app_due (k n).now.manager ≡ Some q → (l : PostLine) × (slice_get plan.pnp (k n).now.manager.posted ≡ Some l) × (l.post ≡ q)
  line_at n q due =
      let l = line_of (k n).now.manager q due in
      (l.0, sym (ap (λ ls. slice_get ls (k n).now.manager.posted) (k n).lines) ∙ l.1, l.2)

  sleep_line : (n : ℕ) (h : Handle) (q : Post) → q ≡ post.Ask asks.Sleep h → app_due (k n).now.manager ≡ Some q → is_sent_to_sleep plan h.id.0 ≡ true
  sleep_line n h q is due =
      let l = line_at n q due in
      any_at (λ (y : PostLine). is_sleep_of h.id.0 y.post) plan.pnp (k n).now.manager.posted l.0 l.1 (ap (is_sleep_of h.id.0) (l.2 ∙ is) ∙ equal h.id.0 h.id.0 refl)

  wake_line : (n : ℕ) (h : Handle) (q : Post) → q ≡ post.Ask asks.Wake h → app_due (k n).now.manager ≡ Some q → is_woken_by_line plan h.id.0 ≡ true
  wake_line n h q is due =
      let l = line_at n q due in
      any_at (λ (y : PostLine). is_wake_of h.id.0 y.post) plan.pnp (k n).now.manager.posted l.0 l.1 (ap (is_wake_of h.id.0) (l.2 ∙ is) ∙ equal h.id.0 h.id.0 refl)

  sleeps_by : (n : ℕ) (h : Handle) (q : Post) (o : Option Post) → q ≡ post.Ask asks.Sleep h → first_post (k n).now ≡ o → first_there o (app_due (k n).now.manager) ≡ Some q → sleeps_in_time plan (take n run) h.id.0 ≡ true
  sleeps_by n h q None is f due = on_left (not (takes_part plan h.id.0) || is_sent_to_sleep plan h.id.0) (slept_well n h.id.0) (on_right (not (takes_part plan h.id.0)) (is_sent_to_sleep plan h.id.0) (sleep_line n h q is due))
  sleeps_by n h q (Some p) is f due =
      let same : p ≡ q = cc in
      on_right (not (takes_part plan h.id.0) || is_sent_to_sleep plan h.id.0) (slept_well n h.id.0) (asleep_by n h q is (f ∙ ap Some same))

  wakes_by : (n : ℕ) (h : Handle) (q : Post) (o : Option Post) → q ≡ post.Ask asks.Wake h → first_post (k n).now ≡ o → first_there o (app_due (k n).now.manager) ≡ Some q → is_wanted plan (take n run) h.id.0 ≡ true
  wakes_by n h q None is f due = on_left (not (takes_part plan h.id.0) || is_woken_by_line plan h.id.0) (was_wanted n h.id.0) (on_right (not (takes_part plan h.id.0)) (is_woken_by_line plan h.id.0) (wake_line n h q is due))
  wakes_by n h q (Some p) is f due =
      let same : p ≡ q = cc in
      on_right (not (takes_part plan h.id.0) || is_woken_by_line plan h.id.0) (was_wanted n h.id.0) (awake_by n h q is (f ∙ ap Some same))

  -- ---- each event

  ask_is : (a b : Ask) → same_ask a b ≡ true → a ≡ b
  ask_is a b h = search rules

  due_ask : (a : Ask) (h : Handle) (o : Option Post) → same_option same_post o (Some (post.Ask a h)) ≡ true → o ≡ Some (post.Ask a h)
  due_ask a h None e = absurd (let z : ⊥ = cc in z)
  due_ask a h (Some (post.Ask b g)) e =
      let one : b ≡ a = ask_is b a (both_left (same_ask b a) (same_handle g h) e) in
      let two : g ≡ h = (handle_decides g h).0 (both_right (same_ask b a) (same_handle g h) e) in
      rw (one, two) refl
  due_ask a h (Some _) e = absurd (let z : ⊥ = cc in z)

  asked : (n agent : ℕ) (a : Ask) (h : Handle) (answer : Option Handle) → slice_get run n ≡ Some (event.Posted agent (post.Ask a h) answer) → policy_due (k n).now ≡ Some (post.Ask a h)
  asked n agent a h answer at = elim (comes_by plan m run n (event.Posted agent (post.Ask a h) answer) is_run at) [
    | inl may_come ↦
        let S : State A = state_after plan m (take n run) in
        let p : Post = post.Ask a h in
        let parts : (same_option same_post (due_of m S agent) (Some p) && post_fits plan S agent p) ≡ true = both_left (same_option same_post (due_of m S agent) (Some p) && post_fits plan S agent p) _ may_come in
        let fits : post_fits plan S agent p ≡ true = both_right (same_option same_post (due_of m S agent) (Some p)) (post_fits plan S agent p) parts in
        let manager : agent ≡ 0 = eqb-true agent 0 (both_left (agent == 0) _ (both_left (agent == 0 && _) _ fits)) in
        let due : same_option same_post (due_of m S 0) (Some p) ≡ true = subst (λ a. same_option same_post (due_of m S a) (Some p) ≡ true) manager (both_left (same_option same_post (due_of m S agent) (Some p)) (post_fits plan S agent p) parts) in
        sym (due_is plan m policy has run resolved is_run n) ∙ due_ask a h (due_of m S 0) due
    | inr t ↦ absurd (let s = t.tick in let z : ⊥ = cc in z)
  ]

  asks_law : (n agent : ℕ) (a : Ask) (h : Handle) (answer : Option Handle) → slice_get run n ≡ Some (event.Posted agent (post.Ask a h) answer) → keeps_idle_law plan (take n run) (event.Posted agent (post.Ask a h) answer) ≡ true
  asks_law n agent asks.Sleep h answer at = sleeps_by n h (post.Ask asks.Sleep h) (first_post (k n).now) refl refl (asked n agent asks.Sleep h answer at)
  asks_law n agent asks.Wake h answer at = wakes_by n h (post.Ask asks.Wake h) (first_post (k n).now) refl refl (asked n agent asks.Wake h answer at)
  asks_law n agent _ h answer at = refl

  posts_law : (n agent : ℕ) (p : Post) (answer : Option Handle) → slice_get run n ≡ Some (event.Posted agent p answer) → keeps_idle_law plan (take n run) (event.Posted agent p answer) ≡ true
  posts_law n agent (post.Ask a h) answer at = asks_law n agent a h answer at
  posts_law n agent _ answer at = refl

  pub idle_law_at_each : (n : ℕ) (e : Event) → slice_get run n ≡ Some e → keeps_idle_law plan (take n run) e ≡ true
  idle_law_at_each n (event.Tick time) at = ticks n time at
  idle_law_at_each n (event.Posted agent p answer) at = posts_law n agent p answer at
  idle_law_at_each n _ at = refl
