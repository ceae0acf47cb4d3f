-- When time passes, the policy has nothing due for a device.
use Rattle.std.proofs.Common.{if◌then◌else◌, ◌≡◌, ◌<◌, ℕ, zero, suc, ◌+◌, Bool, true, false, not, ◌&&◌, nat_lt, nat_le, List, [], ◌∷◌, ◌⊎◌, inl, inr, Option, Some, None, filter, length, slice_get, take, option_and_then, refl, sym, ap, subst, ◌∙◌, arith}
use Rattle.std.specs.List.{filter_map}
use Rattle.wdf_base.proofs.Tests.{all_three, both_left, both_right}
use Rattle.wdf_base.specs.Meaning.{Meaning}
use Rattle.wdf_base.specs.Resolved.{IsResolved, is_handle}
use Rattle.wdf_base.specs.declared.plan.Plan.{Plan}
use Rattle.wdf_base.specs.declared.ids.Handle.{Handle}
use Rattle.wdf_base.specs.declared.declared.DeviceInfo.{DeviceInfo}
use Rattle.wdf_base.specs.declared.object.Kind.TheVariants as kind
use Rattle.wdf_base.specs.declared.event.Ask.{Ask}
use Rattle.wdf_base.specs.declared.event.Ask.TheVariants as asks
use Rattle.wdf_base.specs.declared.event.Event.{Event}
use Rattle.wdf_base.specs.declared.event.Event.TheVariants as event
use Rattle.wdf_base.specs.declared.event.Fault.{Fault}
use Rattle.wdf_base.specs.declared.event.Post.{Post}
use Rattle.wdf_base.specs.declared.event.Post.TheVariants as post
use Rattle.wdf_base.specs.Same.{same_ask, same_handle, same_option, same_post}
use Rattle.wdf_model.specs.declared.enums.Group.TheVariants as group
use Rattle.wdf_model.specs.Tables.{first_of_list}
use Rattle.wdf_model.specs.Plans.{device_of, first_there}
use Rattle.wdf_model.specs.parts.Pnp.{Pnp, busy, sequence_of}
use Rattle.wdf_model.specs.State.{State}
use Rattle.wdf_model.specs.rules.Posts.{due_of, post_answer, post_fits}
use Rattle.wdf_model.specs.rules.Groups.{candidate, candidates}
use Rattle.wdf_model.specs.rules.Steps.{may}
use Rattle.wdf_model.specs.rules.Ready.{IsRunOf, allowed, last_fault, or_tick, ready, ready_in, state_after, unless_fault}
use Rattle.wdf_model.specs.agents.App.{app_due}
use Rattle.wdf_model.specs.agents.IdlePolicy.{IdleDevice, IdlePolicy, first_post, idle_post, is_idle, is_wanted, policy_due}
use Rattle.wdf_model.proofs.Counts.{equal}
use Rattle.wdf_model.proofs.Sames.{handle_decides}
use Rattle.wdf_model.proofs.Tests.{in_filter}
use Rattle.law_machine_base.specs.FactsOfEvents.{IsTick}
use Rattle.law_stuck_causes.proofs.Members.{Has, none_passes}
use Rattle.law_stuck_causes.proofs.Needs.{framework_group, placed_at}
use Rattle.law_trace_power.proofs.Laws.{comes_by}
use Rattle.law_idle.specs.Idling.{Rest, asleep_rest, awake_rest}
use Rattle.law_idle.specs.Policies.{HasPolicy}
use Rattle.law_idle.specs.Resting.{IsAtRest, Rests}
use Rattle.law_idle.proofs.PolicyRuns.{Knows, KnowsAll, knows_at}
use Rattle.law_idle.proofs.RestRuns.{device_is_declared, rests_at}

-- ---- what is due

-- what the policy has due for a device
pub record IsDue (now : ℕ) (x : IdleDevice) (q : Post) : Type 0 where
  pub ask : Ask
  pub is : q ≡ post.Ask ask x.device
  pub same : same_ask ask ask ≡ true
  -- it is woken while it is asleep with a pending request, or put to sleep while it is idle long enough
  pub why : ((ask ≡ asks.Wake) × (is_wanted x ≡ true)) ⊎ ((ask ≡ asks.Sleep) × (is_idle x ≡ true) × (nat_le (x.since + x.timeout) now ≡ true))

due_by : (now : ℕ) (x : IdleDevice) (q : Post) (b c : Bool) → is_wanted x ≡ b → (is_idle x && nat_le (x.since + x.timeout) now) ≡ c
    → (if b then Some (post.Ask asks.Wake x.device) else if c then Some (post.Ask asks.Sleep x.device) else None) ≡ Some q → IsDue now x q
due_by now x q true c e f h = record { ask = asks.Wake; is = (let s : q ≡ post.Ask asks.Wake x.device = cc in s); same = refl; why = inl (refl, e) }
due_by now x q false true e f h = record {
  ask = asks.Sleep;
  is = (let s : q ≡ post.Ask asks.Sleep x.device = cc in s);
  same = refl;
  why = inr (refl, both_left (is_idle x) (nat_le (x.since + x.timeout) now) f, both_right (is_idle x) (nat_le (x.since + x.timeout) now) f);
}
due_by now x q false false e f h = absurd (let z : ⊥ = cc in z)

pub is_due : (now : ℕ) (x : IdleDevice) (q : Post) → idle_post now x ≡ Some q → IsDue now x q
is_due now x q h = due_by now x q (is_wanted x) (is_idle x && nat_le (x.since + x.timeout) now) refl refl h

-- the device of what is due first
pub record IsFirst (now : ℕ) (xs : List IdleDevice) (q : Post) : Type 0 where
  pub place : ℕ
  pub device : IdleDevice
  pub at : slice_get xs place ≡ Some device
  pub due : idle_post now device ≡ Some q

first_by : (now : ℕ) (x : IdleDevice) (xs : List IdleDevice) (q : Post) (o : Option Post) → idle_post now x ≡ o → (first_of_list (filter_map (idle_post now) xs) ≡ Some q → IsFirst now xs q)
    → first_of_list (filter_map (idle_post now) (x ∷ xs)) ≡ Some q → IsFirst now (x ∷ xs) q
first_by now x xs q None e rest h = let r = rest (rw e at h) in record { place = suc r.place; device = r.device; at = r.at; due = r.due }
first_by now x xs q (Some p) e rest h = record { place = 0; device = x; at = refl; due = e ∙ (let k : Some p ≡ Some q = (rw e at h) in k) }

pub is_first : (now : ℕ) (xs : List IdleDevice) (q : Post) → first_of_list (filter_map (idle_post now) xs) ≡ Some q → IsFirst now xs q
is_first now [] q h = absurd (let z : ⊥ = cc in z)
is_first now (x ∷ xs) q h = first_by now x xs q (idle_post now x) refl (is_first now xs q) h

none_by : (now : ℕ) (x : IdleDevice) (xs : List IdleDevice) (o : Option Post) → idle_post now x ≡ o → first_of_list (filter_map (idle_post now) (x ∷ xs)) ≡ None → (idle_post now x ≡ None) × (first_of_list (filter_map (idle_post now) xs) ≡ None)
none_by now x xs None e h = (e, rw e at h)
none_by now x xs (Some p) e h = absurd (let k : Some p ≡ None = (rw e at h) in let z : ⊥ = cc in z)

none_due : (now : ℕ) (xs : List IdleDevice) → first_of_list (filter_map (idle_post now) xs) ≡ None → (j : ℕ) (x : IdleDevice) → slice_get xs j ≡ Some x → idle_post now x ≡ None
none_due now [] h j x at = absurd (let z : ⊥ = cc in z)
none_due now (y ∷ ys) h zero x at = let same : y ≡ x = cc in ap (idle_post now) (sym same) ∙ (none_by now y ys (idle_post now y) refl h).0
none_due now (y ∷ ys) h (suc j) x at = none_due now ys (none_by now y ys (idle_post now y) refl h).1 j x at

-- ---- a post that is due may come

at_rest_free : (phase : _) (Q : Pnp) (d : ℕ) → IsAtRest phase (sequence_of Q d) → busy Q d ≡ false
at_rest_free phase Q d k = rw (k.running, k.left) refl

device_handle : (plan : Plan) (h : Handle) (info : DeviceInfo) → device_of plan h.id.0 ≡ Some info → h.name ≡ info.name → is_handle plan kind.Device h ≡ true
device_handle plan h info at name = rw (device_is_declared plan h.id.0 info at) (equal info.name h.name (sym name))

there : {T : Type 0} (xs : List T) (x : T) → slice_get xs 0 ≡ Some x → 0 < length xs
there [] x h = absurd (let z : ⊥ = cc in z)
there (y ∷ ys) x h = omega arith

module _ {A : Type 0} (plan : Plan) (m : Meaning A) (policy : A → Option IdlePolicy) (has : HasPolicy m policy) (run : List Event) (resolved : IsResolved plan) (is_run : IsRunOf plan m run) (n : ℕ) where
  abbrev S : State A
  S = state_after plan m (take n run)

  abbrev k : KnowsAll plan policy S (take n run)
  k = knows_at plan m policy has run resolved is_run n

  pub due_is : due_of m S 0 ≡ policy_due k.now
  due_is = ap (option_and_then m.due) k.is.at ∙ has.posts k.is.agent k.now k.is.is

  rested : (x : IdleDevice) → Knows plan S (take n run) x → (now : ℕ) (q : Post) → IsDue now x q → busy S.pnp x.device.id.0 ≡ false
  rested x w now q d =
      let d_ : ℕ = x.device.id.0 in
      let r : Rests (awake_rest plan d_ (take n run)) (asleep_rest d_ (take n run)) (sequence_of S.pnp d_) = rests_at plan m run resolved is_run d_ w.info w.declared n in
      elim d.why [
        | inl a ↦ at_rest_free _ S.pnp d_ (r.asleep_is (sym (ap (λ (z : Rest). z.now) w.told.asleep) ∙ both_left x.asleep _ a.1))
        | inr b ↦ at_rest_free _ S.pnp d_ (r.awake_is (sym (ap (λ (z : Rest). z.now) w.told.awake) ∙ both_left x.awake _ (both_left (x.awake && _) (not x.hold) b.1)))
      ]

  may_come : (q : Post) → first_post k.now ≡ Some q → may plan m S (event.Posted 0 q None) ≡ true
  may_come q h =
      let f = is_first k.now.manager.clock k.now.devices q h in
      let d = is_due k.now.manager.clock f.device q f.due in
      let w = k.devices f.place f.device f.at in
      let due : due_of m S 0 ≡ Some q = due_is ∙ ap (λ o. first_there o (app_due k.now.manager)) h in
      let same : same_post q q ≡ true = ap (λ y. same_post y y) d.is ∙ rw d.same ((handle_decides f.device.device f.device.device).1 refl) in
      let free : busy S.pnp f.device.device.id.0 ≡ false = rested f.device w k.now.manager.clock q d in
      let fits : post_fits plan S 0 q ≡ true = ap (post_fits plan S 0) d.is ∙ rw (device_handle plan f.device.device w.info w.declared w.name, free) refl in
      let answer : same_option same_handle (post_answer plan S 0 q) None ≡ true = ap (λ y. same_option same_handle (post_answer plan S 0 y) None) d.is in
      all_three (same_option same_post (due_of m S 0) (Some q)) (post_fits plan S 0 q) (same_option same_handle (post_answer plan S 0 q) None) (rw due same) fits answer

  offered : (q : Post) → first_post k.now ≡ Some q → Has (event.Posted 0 q None) (candidates plan m S)
  offered q h =
      let f = is_first k.now.manager.clock k.now.devices q h in
      let d = is_due k.now.manager.clock f.device q f.due in
      let due : due_of m S 0 ≡ Some q = due_is ∙ ap (λ o. first_there o (app_due k.now.manager)) h in
      let answer : post_answer plan S 0 q ≡ None = ap (post_answer plan S 0) d.is in
      let here : candidate plan m S group.Posts 0 ≡ Some (event.Posted 0 q None) = rw due (ap (λ a. Some (event.Posted 0 q a)) answer) in
      framework_group plan m S group.Posts (event.Posted 0 q None) (inr (inr (inr (inr (inl refl)))))
      (placed_at plan m S group.Posts (length S.agents) 0 (event.Posted 0 q None) (there S.agents k.is.agent k.is.at) here)

  -- ---- when time passes

  first_is_tick : (es : List Event) (t : ℕ) → filter (may plan m S) (candidates plan m S) ≡ es → or_tick m S es ≡ event.Tick t ∷ [] → es ≡ []
  first_is_tick [] t e h = refl
  first_is_tick (x ∷ xs) t e h =
      let same : x ≡ event.Tick t = cc in
      let ok : may plan m S x ≡ true = in_filter (may plan m S) (candidates plan m S) 0 x (ap (λ ys. slice_get ys 0) e) in
      absurd (let off : may plan m S (event.Tick t) ≡ true = subst (λ y. may plan m S y ≡ true) same ok in let z : ⊥ = cc in z)

  nothing_in : (b : Bool) (t : ℕ) → nat_lt S.number plan.limit ≡ b → (if b then or_tick m S (allowed plan m S) else []) ≡ event.Tick t ∷ [] → allowed plan m S ≡ []
  nothing_in true t e h = first_is_tick (allowed plan m S) t refl h
  nothing_in false t e h = absurd (let z : ⊥ = cc in z)

  nothing_by : (x : Option Fault) (t : ℕ) → unless_fault x (ready_in plan m S) ≡ event.Tick t ∷ [] → allowed plan m S ≡ []
  nothing_by None t h = nothing_in (nat_lt S.number plan.limit) t refl h
  nothing_by (Some x) t h = absurd (let z : ⊥ = cc in z)

  nothing_else : (t : ℕ) → ready plan m (take n run) ≡ event.Tick t ∷ [] → allowed plan m S ≡ []
  unfolding ready
  nothing_else t h = nothing_by (last_fault (take n run)) t h

  none_first : (o : Option Post) → first_post k.now ≡ o → allowed plan m S ≡ [] → o ≡ None
  none_first None e h = refl
  none_first (Some q) e h =
      absurd (let off : may plan m S (event.Posted 0 q None) ≡ false = none_passes (may plan m S) (candidates plan m S) h (event.Posted 0 q None) (offered q e) in let on_ = may_come q e in let z : ⊥ = cc in z)

  tick_by : (time : ℕ) → (may plan m S (event.Tick time) ≡ true) ⊎ IsTick m S (ready plan m (take n run)) (event.Tick time) → IsTick m S (ready plan m (take n run)) (event.Tick time)
  tick_by time (inl h) = absurd (let z : ⊥ = cc in z)
  tick_by time (inr t) = t

  pub tick_at : (time : ℕ) → slice_get run n ≡ Some (event.Tick time) → IsTick m S (ready plan m (take n run)) (event.Tick time)
  tick_at time at = tick_by time (comes_by plan m run n (event.Tick time) is_run at)

  pub nothing_due : (time : ℕ) → slice_get run n ≡ Some (event.Tick time) → (j : ℕ) (x : IdleDevice) → slice_get k.now.devices j ≡ Some x → idle_post k.now.manager.clock x ≡ None
  nothing_due time at =
      let t = tick_at time at in
      none_due k.now.manager.clock k.now.devices (none_first (first_post k.now) refl (nothing_else (S.clock + 1) t.alone))
