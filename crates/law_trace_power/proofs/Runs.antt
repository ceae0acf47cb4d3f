-- What holds of devices holds at each place of every run of a resolved plan.
use Rattle.std.proofs.Common.{◌≡◌, ℕ, zero, suc, ◌+◌, ◌==◌, ◌≤◌, Bool, true, false, not, ◌||◌, List, [], ◌∷◌, ◌++◌, ◌⊎◌, inl, inr, Option, Some, None, is_some, length, map, take, refl, sym, ap, subst, ◌∙◌, arith}
use Rattle.std.specs.List.{range_with_len}
use Rattle.std.proofs.Math.Bool.{and-false}
use Rattle.wdf_base.specs.Meaning.{Meaning}
use Rattle.wdf_base.specs.Resolved.{IsResolved, is_working}
use Rattle.wdf_base.specs.Plan.{declared_of}
use Rattle.wdf_base.specs.declared.plan.Plan.{Plan}
use Rattle.wdf_base.specs.declared.declared.Declared.{Declared}
use Rattle.wdf_base.specs.declared.declared.Declared.TheVariants as declared
use Rattle.wdf_base.specs.declared.declared.DeviceInfo.{DeviceInfo}
use Rattle.wdf_base.specs.declared.call.Callback.TheVariants as callback
use Rattle.wdf_base.specs.declared.event.Event.{Event}
use Rattle.wdf_base.specs.declared.event.Event.TheVariants as event
use Rattle.wdf_base.specs.declared.event.Step.{Step}
use Rattle.wdf_base.specs.declared.event.Step.TheVariants as step
use Rattle.wdf_model.specs.declared.enums.Phase.TheVariants.{Removed}
use Rattle.wdf_model.specs.Tables.{entry}
use Rattle.wdf_model.specs.Plans.{as_device, declared_ids, declares, device_of, interrupt_of, is_interrupt_of}
use Rattle.wdf_model.specs.parts.Power.{no_device_power, opening_device_power}
use Rattle.wdf_model.specs.parts.Pnp.{no_sequence, opening_phase, opening_sequence, running_step, steps_left}
use Rattle.wdf_model.specs.State.{State, opening}
use Rattle.wdf_model.specs.declared.deed.Deed.TheVariants.{PassTick}
use Rattle.wdf_model.specs.rules.Deeds.{counted, do_deeds}
use Rattle.wdf_model.specs.rules.Steps.{after, deeds, may}
use Rattle.wdf_model.specs.rules.Ready.{IsRunOf, ready, state_after}
use Rattle.law_machine_base.specs.FactsOfEvents.{IsTick}
use Rattle.wdf_model.proofs.Runs.{along_run}
use Rattle.law_machine_base.proofs.Follows.{follows, state_goes_on}
use Rattle.wdf_model.proofs.Tests.{both, both_right, first}
use Rattle.law_machine_lives.proofs.SoundRuns.{all_known}
use Rattle.wdf_laws.specs.Words.{stands}
use Rattle.wdf_laws.specs.declared.sign.Sign.TheVariants as sign
use Rattle.law_trace_power.specs.Steps.{StepsAndPowerAgree, enabled_says, hardware_says, queues_say}
use Rattle.law_trace_power.proofs.Standings.{Standing, Watch, could_fail, owed, rests, safe, succeeds, succeeded_same}
use Rattle.law_trace_power.proofs.Begun.{enabled_agrees, hardware_agrees, queues_agree}
use Rattle.law_trace_power.proofs.Tellings.{powered_yet}
use Rattle.law_trace_power.proofs.Holding.{Holds, watch}
use Rattle.law_trace_power.proofs.Lists.{not_either}
use Rattle.law_trace_power.proofs.Declares.{declares_device, entry_declared, is_device, no_working, once_by}
use Rattle.law_trace_power.proofs.Events.{Kept, keeps, quiet}
use Rattle.law_machine_counts.proofs.StepsOverRuns.{no_device, none_yet}

-- ---- the opening

pub mapped : {T : Type 0} (blank : T) (f : ℕ → T) (a n d : ℕ) → ((x : ℕ) → a + n ≤ x → f x ≡ blank) → entry blank (map f (range_with_len a n)) d ≡ f (a + d)
mapped blank f a zero d past = sym (past (a + d) (omega arith))
mapped blank f a (suc n) zero past = let e : a + 0 ≡ a = omega arith in rw e refl
mapped blank f a (suc n) (suc d) past = let e : a + suc d ≡ a + 1 + d = omega arith in rw e (mapped blank f (a + 1) n d (λ x h. past x (omega arith)))

by_plan : {T : Type 0} (plan : Plan) (blank : T) (f : ℕ → T) (d : ℕ) → ((x : ℕ) → device_of plan x ≡ None → f x ≡ blank) → entry blank (map f (declared_ids plan)) d ≡ f d
by_plan plan blank f d off = let e : 0 + d ≡ d = omega arith in rw e at (mapped blank f 0 (suc (length plan.declared)) d (λ x h. off x (no_device plan x (omega arith))))

works_as : (x : Option Declared) (i : DeviceInfo) → as_device x ≡ Some i → is_working x ≡ i.working
works_as (Some (declared.Device d)) i h = let same : d ≡ i = cc in ap (λ (y : DeviceInfo). y.working) same
works_as None i h = absurd (let z : ⊥ = cc in z)
works_as (Some _) i h = absurd (let z : ⊥ = cc in z)

none_is : (x : Option Declared) → is_device x ≡ true → is_some (as_device x) ≡ true
none_is (Some (declared.Device d)) h = refl
none_is None h = absurd (let z : ⊥ = cc in z)
none_is (Some _) h = absurd (let z : ⊥ = cc in z)

module _ (plan : Plan) (resolved : IsResolved plan) (d i : ℕ) where
  entered_yet : not (declares plan callback.EvtDeviceD0Entry d) ≡ true → (not (declares plan callback.EvtDeviceD0Entry d) || stands (sign.Entered d) (sign.NotEntered d) []) ≡ true
  entered_yet h = first (not (declares plan callback.EvtDeviceD0Entry d)) (stands (sign.Entered d) (sign.NotEntered d) []) h

  undeclared : (b : Bool) → declares plan callback.EvtDeviceD0Entry d ≡ b → device_of plan d ≡ None → false ≡ b
  undeclared false e h = refl
  undeclared true e h = absurd (let is : is_some (device_of plan d) ≡ true = none_is (declared_of plan d) (declares_device plan callback.EvtDeviceD0Entry (declared_of plan d) resolved refl e) in let z : ⊥ = cc in z)

  unwatched_if : (b : Bool) → is_interrupt_of d (interrupt_of plan i) ≡ b → is_working (declared_of plan d) ≡ true → b ≡ false
  unwatched_if true e h = absurd (let n : is_working (declared_of plan d) ≡ false = no_working plan d i resolved e in let z : ⊥ = cc in z)
  unwatched_if false e h = refl

  rests_first : (info : DeviceInfo) (b : Bool) → info.working ≡ b → device_of plan d ≡ Some info
      → rests (watch plan d i) (record { phase = opening_phase b; hardware = b; entered = not (watch plan d i).entry; up = b; on = false; since = false; clean = false }) ≡ true
  rests_first info false e at = refl
  rests_first info true e at =
      let off : is_interrupt_of d (interrupt_of plan i) ≡ false = unwatched_if (is_interrupt_of d (interrupt_of plan i)) refl (works_as (declared_of plan d) info at ∙ e) in
      let none : (watch plan d i).watched ≡ false = rw off (and-false (is_some (device_of plan d))) in
      rw none refl

  holds_first : (x : Option DeviceInfo) → device_of plan d ≡ x → Holds plan (opening_sequence plan d x) (opening_device_power x) false [] d i
  holds_first None at = record {
    standing = record { phase = Removed; hardware = false; entered = not (watch plan d i).entry; up = false; on = false; since = false; clean = false };
    suits = record { entry = undeclared (declares plan callback.EvtDeviceD0Entry d) refl at; once = rw at refl };
    phase = refl;
    up = refl;
    hardware = refl;
    on = sym (and-false (watch plan d i).watched);
    plain = not_either (watch plan d i) (watch plan d i).entry;
    owed = refl;
    told = record { entered = entered_yet; since = λ w h. absurd (let z : ⊥ = cc in z); on = λ h. absurd (let z : ⊥ = cc in z); lasting = λ h. absurd (let z : ⊥ = cc in z); power = λ h. absurd (let z : ⊥ = cc in z) };
  }
  holds_first (Some info) at = record {
    standing = record { phase = opening_phase info.working; hardware = info.working; entered = not (watch plan d i).entry; up = info.working; on = false; since = false; clean = false };
    suits = record { entry = entry_declared plan d; once = once_by plan d i (is_interrupt_of d (interrupt_of plan i)) refl ∙ rw at refl };
    phase = refl;
    up = refl;
    hardware = refl;
    on = sym (and-false (watch plan d i).watched);
    plain = not_either (watch plan d i) (watch plan d i).entry;
    owed = rests_first info info.working refl at;
    told = record { entered = entered_yet; since = λ w h. absurd (let z : ⊥ = cc in z); on = λ h. absurd (let z : ⊥ = cc in z); lasting = λ h. absurd (let z : ⊥ = cc in z); power = λ h. powered_yet plan d (rw at h) };
  }

kept_first : {A : Type 0} (plan : Plan) (m : Meaning A) → IsResolved plan → Kept plan (opening plan m) []
kept_first plan m resolved = record {
  hold = λ d i.
      subst (λ q. Holds plan q (entry no_device_power (map (λ x. opening_device_power (device_of plan x)) (declared_ids plan)) d) (entry false [] i) [] d i) (sym (by_plan plan no_sequence (λ x. opening_sequence plan x (device_of plan x)) d (λ x e. ap (opening_sequence plan x) e)))
      (subst (λ p. Holds plan (opening_sequence plan d (device_of plan d)) p (entry false [] i) [] d i) (sym (by_plan plan no_device_power (λ x. opening_device_power (device_of plan x)) d (λ x e. ap opening_device_power e)))
      (holds_first plan resolved d i (device_of plan d) refl));
  frames = record {
    steps = λ f h is. absurd (let e = none_yet plan (λ x. x == f) in omega arith);
    single = λ f g h l is too e. absurd (let n = none_yet plan (λ x. x == f) in omega arith);
    entries = λ f h. absurd (let e = none_yet plan (λ x. x == f) in omega arith);
  };
}

-- ---- each place

kept_at_first : {A : Type 0} (plan : Plan) (m : Meaning A) → IsResolved plan → Kept plan (state_after plan m []) []
unfolding state_after
kept_at_first plan m resolved = kept_first plan m resolved

told_more : {A : Type 0} (plan : Plan) (m : Meaning A) (e : Event) (S : State A) (es : List Event) → Kept plan S es → Kept plan (counted m e S) es
told_more plan m e S es k = record { hold = k.hold; frames = k.frames }

goes_on : {A : Type 0} (plan : Plan) (m : Meaning A) (before : List Event) (offered : List Event) (e : Event) → IsResolved plan → IsRunOf plan m before → (may plan m (state_after plan m before) e ≡ true) ⊎ IsTick m (state_after plan m before) offered e
    → Kept plan (state_after plan m before) before → Kept plan (after plan m (state_after plan m before) e) (before ++ e ∷ [])
goes_on plan m before offered e resolved so_far (inl h) k =
    let S = state_after plan m before in
    told_more plan m e (do_deeds plan (deeds plan S e) S) (before ++ e ∷ []) (keeps plan m S before resolved (all_known plan m before so_far) k e h)
goes_on {A} plan m before offered e resolved so_far (inr t) k =
    let S = state_after plan m before in
    subst (λ x. Kept plan (after plan m S x) (before ++ x ∷ [])) (sym t.tick)
    (told_more plan m (event.Tick (S.clock + 1)) (do_deeds plan (PassTick ∷ []) S) (before ++ event.Tick (S.clock + 1) ∷ [])
    (quiet plan S before (event.Tick (S.clock + 1)) (PassTick ∷ []) refl (tt, tt) (λ d i. record { entered = refl; exit = refl; enabled = refl; disabled = refl; up = refl; down = refl }) k))

pub kept_at_each : {A : Type 0} (plan : Plan) (m : Meaning A) (run : List Event) → IsResolved plan → IsRunOf plan m run → (n : ℕ) → Kept plan (state_after plan m (take n run)) (take n run)
kept_at_each {A} plan m run resolved is_run n = along_run (λ es. Kept plan (state_after plan m es) es) (ready plan m) run (kept_at_first plan m resolved)
    (λ before e place so_far held at. subst (λ (T : State A). Kept plan T (before ++ e ∷ [])) (sym (state_goes_on plan m before e))
    (goes_on plan m before (ready plan m before) e resolved so_far (follows plan m before place e at) held))
    is_run n

-- ---- the law on what is left

module _ (w : Watch) where
  queues_owed : (r : Option Step) (ss : List Step) (a : Standing) → owed w r ss a ≡ true → a.up ≡ queues_say a.phase ss
  queues_owed None ss a h = queues_agree w ss a h
  queues_owed (Some (step.Pass s j)) ss a h = absurd (let z : ⊥ = cc in z)
  queues_owed (Some (step.Run c j)) ss a h =
      let t = succeeded_same c a in
      sym t.1 ∙ queues_agree w ss (succeeds c a) (both_right (could_fail w c a) (safe w ss (succeeds c a)) h) ∙ ap (λ q. queues_say q ss) t.0

  hardware_owed : (r : Option Step) (ss : List Step) (a : Standing) → owed w r ss a ≡ true → a.hardware ≡ hardware_says a.phase ss
  hardware_owed None ss a h = hardware_agrees w ss a h
  hardware_owed (Some (step.Pass s j)) ss a h = absurd (let z : ⊥ = cc in z)
  hardware_owed (Some (step.Run c j)) ss a h =
      let t = succeeded_same c a in
      sym t.2 ∙ hardware_agrees w ss (succeeds c a) (both_right (could_fail w c a) (safe w ss (succeeds c a)) h) ∙ ap (λ q. hardware_says q ss) t.0

  enabled_owed : (r : Option Step) (ss : List Step) (a : Standing) → w.watched ≡ true → owed w r ss a ≡ true → a.on ≡ enabled_says w.interrupt a.phase ss
  enabled_owed None ss a is h = enabled_agrees w ss a is h
  enabled_owed (Some (step.Pass s j)) ss a is h = absurd (let z : ⊥ = cc in z)
  enabled_owed (Some (step.Run c j)) ss a is h =
      let t = succeeded_same c a in
      sym t.3 ∙ enabled_agrees w ss (succeeds c a) is (both_right (could_fail w c a) (safe w ss (succeeds c a)) h) ∙ ap (λ q. enabled_says w.interrupt q ss) t.0

pub steps_agree_at_each : {A : Type 0} (plan : Plan) (m : Meaning A) (run : List Event) → IsResolved plan → IsRunOf plan m run → (n : ℕ) → StepsAndPowerAgree plan (state_after plan m (take n run))
steps_agree_at_each plan m run resolved is_run n =
    let S = state_after plan m (take n run) in
    let k = kept_at_each plan m run resolved is_run n in
    record {
      queues = λ d is. let h = k.hold d 0 in sym h.up ∙ queues_owed (watch plan d 0) (running_step S.pnp d) (steps_left S.pnp d) h.standing h.owed ∙ ap (λ q. queues_say q (steps_left S.pnp d)) h.phase;
      hardware = λ d is. let h = k.hold d 0 in sym h.hardware ∙ hardware_owed (watch plan d 0) (running_step S.pnp d) (steps_left S.pnp d) h.standing h.owed ∙ ap (λ q. hardware_says q (steps_left S.pnp d)) h.phase;
      interrupts = λ d i is of.
          let h = k.hold d i in
          let w : (watch plan d i).watched ≡ true = both (is_some (device_of plan d)) (is_interrupt_of d (interrupt_of plan i)) is of in
          sym (h.on ∙ rw w refl) ∙ enabled_owed (watch plan d i) (running_step S.pnp d) (steps_left S.pnp d) h.standing w h.owed ∙ ap (λ q. enabled_says i q (steps_left S.pnp d)) h.phase;
    }
