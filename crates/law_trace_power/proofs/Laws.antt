-- The laws of a trace on power and on interrupts, as far as they follow from where devices are.
use Rattle.std.proofs.Common.{if◌then◌else◌, ◌≡◌, ℕ, ◌==◌, Bool, true, false, not, ◌&&◌, ◌||◌, List, ◌∷◌, ◌⊎◌, inl, inr, Option, Some, None, drop, is_some, slice_get, take, refl, sym, ap, subst, ◌∙◌}
use Rattle.std.proofs.lemmas.Bool.{eqb-true}
use Rattle.wdf_base.specs.Meaning.{Meaning}
use Rattle.wdf_base.specs.Resolved.{IsResolved}
use Rattle.wdf_base.specs.declared.plan.Plan.{Plan}
use Rattle.wdf_base.specs.declared.ids.Cpu.{Cpu}
use Rattle.wdf_base.specs.declared.ids.Handle.{Handle}
use Rattle.wdf_base.specs.declared.declared.InterruptInfo.{InterruptInfo}
use Rattle.wdf_base.specs.declared.declared.QueueInfo.{QueueInfo}
use Rattle.wdf_base.specs.declared.call.Callback.{Callback}
use Rattle.wdf_base.specs.declared.call.Callback.TheVariants as callback
use Rattle.wdf_base.specs.declared.rank.Rank.{Rank}
use Rattle.wdf_base.specs.declared.rank.Rank.TheVariants as rank
use Rattle.wdf_base.specs.declared.event.Event.{Event}
use Rattle.wdf_base.specs.declared.event.Event.TheVariants as event
use Rattle.wdf_base.specs.declared.event.Step.TheVariants as step
use Rattle.wdf_base.specs.Callbacks.{row_of}
use Rattle.wdf_base.specs.Same.{same_option, same_step}
use Rattle.wdf_model.specs.Plans.{device_of, interrupt_of, is_interrupt_of, is_managed, queue_of}
use Rattle.wdf_model.specs.parts.Tree.{nearest_device}
use Rattle.wdf_model.specs.parts.Power.{queues_up}
use Rattle.wdf_model.specs.parts.Pnp.{is_running_step, next_step, running_step, steps_left}
use Rattle.wdf_model.specs.State.{State, is_powered, queue_delivers, up_for}
use Rattle.wdf_base.specs.declared.value.Value.{Value}
use Rattle.wdf_base.specs.declared.value.Value.TheVariants.{Num, Obj, Stat}
use Rattle.wdf_base.specs.declared.value.Status.TheVariants as status
use Rattle.wdf_base.specs.declared.call.Arg.{Arg}
use Rattle.wdf_base.specs.declared.call.Arg.TheVariants.{Val}
use Rattle.wdf_base.specs.declared.call.CallKind.{CallKind}
use Rattle.wdf_base.specs.declared.call.CallKind.TheVariants as call
use Rattle.wdf_base.specs.Same.{same_call_kind}
use Rattle.wdf_model.specs.Plans.{is_parallel_queue}
use Rattle.wdf_model.specs.parts.Queues.{front}
use Rattle.wdf_model.specs.State.{handle_in, object_in}
use Rattle.wdf_model.specs.rules.Calls.{outcome, refused, retrieve_front, retrieve_outcome}
use Rattle.law_machine_base.specs.Agreement.{is_sequence}
use Rattle.law_machine_base.proofs.OwnEvents.{did_tells}
use Rattle.wdf_model.proofs.Tests.{itself}
use Rattle.wdf_model.specs.Runs.{IsRun}
use Rattle.wdf_model.specs.rules.Starts.{interrupt_of_step, is_ready_for, may_start, rank_ready, rank_ready_for, step_of, step_ready}
use Rattle.wdf_model.specs.rules.Steps.{is_cpu, is_proper_if_any, may}
use Rattle.wdf_model.specs.State.{is_proper}
use Rattle.wdf_model.specs.rules.Ready.{IsRunOf, ready, state_after}
use Rattle.law_machine_base.specs.FactsOfEvents.{IsTick}
use Rattle.law_machine_base.proofs.Follows.{follows}
use Rattle.wdf_model.proofs.Tests.{both_left, both_right, not_true}
use Rattle.wdf_laws.specs.Laws.{has_power, is_enabled_in_power, is_entered, is_up_from_opening, presented_with_power, went_up}
use Rattle.wdf_laws.specs.Events.{argument_object, id_in, is_handler, pair_of, presented, value_object, where_so}
use Rattle.law_trace_power.proofs.Standings.{begins, could_fail, may_begin, owed, safe}
use Rattle.law_trace_power.proofs.Holding.{watch}
use Rattle.law_trace_power.proofs.Happens.{found_run, not_running}
use Rattle.law_trace_power.proofs.Events.{Kept}
use Rattle.law_trace_power.proofs.Runs.{kept_at_each}
use Rattle.law_machine_counts.proofs.StepEvents.{sequence_is}

-- ---- a queue that has power

power_by_first : (a b c : Bool) → (b || c) ≡ true → (a || b || c) ≡ true
power_by_first true b c h = refl
power_by_first false b c h = h

pub power_of : {A : Type 0} (plan : Plan) (S : State A) (es : List Event) → Kept plan S es → (q : ℕ) (x : Option QueueInfo) → queue_of plan q ≡ x → is_powered plan S q ≡ true → has_power plan es x ≡ true
power_of plan S es k q None at h = refl
power_of plan S es k q (Some i) at h = by_manage i.powered refl
  where
    by_manage : (b : Bool) → i.powered ≡ b → (not i.powered || went_up plan es i.device.0 || is_up_from_opening plan es i.device.0) ≡ true
    by_manage false e = rw e refl
    by_manage true e =
        let managed : is_managed plan q ≡ true = rw at e in
        let up : queues_up S.power i.device.0 ≡ true = let t : (not (is_managed plan q) || up_for plan S q) ≡ true = h in let u : up_for plan S q ≡ true = rw managed at t in rw at at u in
        let held = k.hold i.device.0 0 in
        power_by_first (not i.powered) (went_up plan es i.device.0) (is_up_from_opening plan es i.device.0) (held.told.power (held.up ∙ up))

pub queue_has_power : {A : Type 0} (plan : Plan) (S : State A) (es : List Event) → Kept plan S es → (q : ℕ) → queue_delivers plan S q ≡ true → has_power plan es (queue_of plan q) ≡ true
queue_has_power plan S es k q h = power_of plan S es k q (queue_of plan q) refl (search both_right)

-- ---- presentations

module _ {A : Type 0} (plan : Plan) (m : Meaning A) (S : State A) (es : List Event) (k : Kept plan S es) where
  no_pair : (x : Option ℕ) → presented_with_power plan es (pair_of x None) ≡ true
  no_pair None = refl
  no_pair (Some r) = refl

  handler_is : (x : Rank) → is_handler x ≡ true → x ≡ rank.Handler
  handler_is rank.Handler h = refl
  handler_is _ h = absurd (let z : ⊥ = cc in z)

  starts_present : (cpu : ℕ) (c : Callback) (o : ℕ) (r : Option Handle) (b : Bool) → is_handler (row_of c).rank ≡ b → is_ready_for plan m S cpu c o r ≡ true → presented_with_power plan es (pair_of (where_so b (id_in r)) (Some o)) ≡ true
  starts_present cpu c o None true e h = refl
  starts_present cpu c o None false e h = refl
  starts_present cpu c o (Some x) false e h = refl
  starts_present cpu c o (Some x) true e h =
      let ready_ : rank_ready_for plan S rank.Handler c o x.id.0 ≡ true = subst (λ y. rank_ready_for plan S y c o x.id.0 ≡ true) (handler_is (row_of c).rank e) h in
      let delivered : queue_delivers plan S o ≡ true = search (both_left, both_right) in
      queue_has_power plan S es k o delivered

  front_answers : (q : ℕ) (x : Option ℕ) (p d : Bool) (g : Handle) → (if p then refused status.InvalidDeviceState else if not d then refused status.WdfPaused else retrieve_front plan S q x).answer ≡ Obj g → d ≡ true
  front_answers q x true d g h = absurd (let z : ⊥ = cc in z)
  front_answers q x false true g h = refl
  front_answers q x false false g h = absurd (let z : ⊥ = cc in z)

  retrieves : (a : Arg) (v : Value) → v ≡ (retrieve_outcome plan S (object_in a)).answer → presented_with_power plan es (pair_of (value_object v) (argument_object a)) ≡ true
  retrieves (Val (Obj q)) (Num n) h = refl
  retrieves (Val (Obj q)) (Stat s) h = refl
  retrieves (Val (Obj q)) (Obj g) h = queue_has_power plan S es k q.id.0 (front_answers q.id.0 (front S.queues q.id.0) (is_parallel_queue plan q.id.0) (queue_delivers plan S q.id.0) g (sym h))
  retrieves _ v h = no_pair (value_object v)

  calls_present : (cpu f : ℕ) (x : CallKind) (n : ℕ) (a b c : Arg) (v : Value) → v ≡ (outcome plan S cpu f (record { kind = x; count = n; a = a; b = b; c = c })).answer
      → presented_with_power plan es (pair_of (where_so (same_call_kind x call.WdfIoQueueRetrieveNextRequest) (value_object v)) (argument_object a)) ≡ true
  calls_present cpu f call.WdfIoQueueRetrieveNextRequest n a b c v h = retrieves a v h
  calls_present cpu f _ n a b c v h = refl

  pub event_presents : (e : Event) → may plan m S e ≡ true → presented_with_power plan es (presented e) ≡ true
  event_presents (event.Start cpu c o r) h =
      let start : may_start plan m S cpu.0 c o.id.0 r ≡ true = both_right (is_cpu plan cpu && is_proper plan S o && is_proper_if_any plan S r) (may_start plan m S cpu.0 c o.id.0 r) h in
      let ready_ : is_ready_for plan m S cpu.0 c o.id.0 r ≡ true = search (both_left, both_right) in
      starts_present cpu.0 c o.id.0 r (is_handler (row_of c).rank) refl ready_
  event_presents (event.Did cpu c v) h = let d = did_tells plan m S cpu c v h in calls_present cpu.0 d.frame c.kind c.count c.a c.b c.c v d.answer
  event_presents _ h = refl

  -- ---- callbacks of interrupts that are steps

  module _ (resolved : IsResolved plan) (c : Callback) (o : ℕ) (x : InterruptInfo) (at : interrupt_of plan o ≡ Some x) where
    -- the interrupt's device takes the step
    steps_by : (is_sequence (row_of c).rank ≡ true) → (cpu : ℕ) → is_ready_for plan m S cpu c o None ≡ true → may_begin (watch plan (nearest_device S.tree o) o) c (Some (handle_in plan S o)) (k.hold (nearest_device S.tree o) o).standing ≡ true
    steps_by is cpu h =
        let n : ℕ = nearest_device S.tree o in
        let j : interrupt_of_step plan S o ≡ Some (handle_in plan S o) = rw at refl in
        let ready_ : step_ready S n (step_of plan S c o) ≡ true = sym (ap (λ y. rank_ready plan m S y cpu c o) (sequence_is (row_of c).rank is)) ∙ h in
        let now : (same_option same_step (next_step S.pnp n) (Some (step.Run c (interrupt_of_step plan S o))) && not (is_running_step S.pnp n)) ≡ true = both_left (same_option same_step (next_step S.pnp n) (Some (step.Run c (interrupt_of_step plan S o))) && not (is_running_step S.pnp n)) _ ready_ in
        let next_ : steps_left S.pnp n ≡ step.Run c (interrupt_of_step plan S o) ∷ drop 1 (steps_left S.pnp n) = found_run (steps_left S.pnp n) c (interrupt_of_step plan S o) (both_left _ (not (is_running_step S.pnp n)) now) in
        let idle : running_step S.pnp n ≡ None = not_running (running_step S.pnp n) (not_true (is_running_step S.pnp n) (both_right (same_option same_step (next_step S.pnp n) (Some (step.Run c (interrupt_of_step plan S o)))) (not (is_running_step S.pnp n)) now)) in
        let held = k.hold n o in
        let w = watch plan n o in
        let is_safe : safe w (step.Run c (interrupt_of_step plan S o) ∷ drop 1 (steps_left S.pnp n)) held.standing ≡ true = subst (λ y. owed w y (step.Run c (interrupt_of_step plan S o) ∷ drop 1 (steps_left S.pnp n)) held.standing ≡ true) idle (subst (λ ts. owed w (running_step S.pnp n) ts held.standing ≡ true) next_ held.owed) in
        subst (λ y. may_begin w c y held.standing ≡ true) j
        (both_left (may_begin w c (interrupt_of_step plan S o) held.standing) (could_fail w c (begins w c held.standing)) (both_left (may_begin w c (interrupt_of_step plan S o) held.standing && could_fail w c (begins w c held.standing)) _ is_safe))

    device_is : (n : ℕ) → (watch plan n o).watched ≡ true → n ≡ x.device.0
    device_is n w =
        let t : is_interrupt_of n (interrupt_of plan o) ≡ true = both_right (is_some (device_of plan n)) (is_interrupt_of n (interrupt_of plan o)) w in
        let u : is_interrupt_of n (Some x) ≡ true = subst (λ y. is_interrupt_of n y ≡ true) at t in
        sym (eqb-true x.device.0 n u)

  pub enables_entered : (cpu o : ℕ) (x : InterruptInfo) → IsResolved plan → interrupt_of plan o ≡ Some x → is_ready_for plan m S cpu callback.EvtInterruptEnable o None ≡ true → is_entered plan es x.device.0 ≡ true
  enables_entered cpu o x resolved at h =
      let n : ℕ = nearest_device S.tree o in
      let held = k.hold n o in
      let t : (held.standing.entered && (not (o == o) || (watch plan n o).watched)) ≡ true = steps_by resolved callback.EvtInterruptEnable o x at refl cpu h in
      let w : (not (o == o) || (watch plan n o).watched) ≡ true = both_right held.standing.entered (not (o == o) || (watch plan n o).watched) t in
      let mine : (watch plan n o).watched ≡ true = subst (λ b. (not b || (watch plan n o).watched) ≡ true) (itself o) w in
      subst (λ y. is_entered plan es y ≡ true) (device_is resolved callback.EvtInterruptEnable o x at n mine) (held.told.entered (both_left held.standing.entered (not (o == o) || (watch plan n o).watched) t))

  pub disables_enabled : (cpu o : ℕ) (x : InterruptInfo) → IsResolved plan → interrupt_of plan o ≡ Some x → is_ready_for plan m S cpu callback.EvtInterruptDisable o None ≡ true → is_enabled_in_power plan es o x.device.0 ≡ true
  disables_enabled cpu o x resolved at h =
      let n : ℕ = nearest_device S.tree o in
      let held = k.hold n o in
      let t : (not (o == o) || ((watch plan n o).watched && held.standing.since)) ≡ true = steps_by resolved callback.EvtInterruptDisable o x at refl cpu h in
      let u : ((watch plan n o).watched && held.standing.since) ≡ true = subst (λ b. (not b || ((watch plan n o).watched && held.standing.since)) ≡ true) (itself o) t in
      let mine : (watch plan n o).watched ≡ true = both_left (watch plan n o).watched held.standing.since u in
      subst (λ y. is_enabled_in_power plan es o y ≡ true) (device_is resolved callback.EvtInterruptDisable o x at n mine) (held.told.since mine (both_right (watch plan n o).watched held.standing.since u))

-- ---- each place of a run

-- an event of a run is one that may come, or the clock's
pub comes_by : {A : Type 0} (plan : Plan) (m : Meaning A) (run : List Event) (k : ℕ) (e : Event) → IsRunOf plan m run → slice_get run k ≡ Some e → (may plan m (state_after plan m (take k run)) e ≡ true) ⊎ IsTick m (state_after plan m (take k run)) (ready plan m (take k run)) e
unfolding IsRun
comes_by plan m run k e is_run at = let p = is_run k e at in follows plan m (take k run) p.0 e p.1

pub presents_at_each : {A : Type 0} (plan : Plan) (m : Meaning A) (run : List Event) (k : ℕ) (e : Event) → IsResolved plan → IsRunOf plan m run → slice_get run k ≡ Some e → presented_with_power plan (take k run) (presented e) ≡ true
presents_at_each plan m run k e resolved is_run at = elim (comes_by plan m run k e is_run at) [
  | inl h ↦ event_presents plan m (state_after plan m (take k run)) (take k run) (kept_at_each plan m run resolved is_run k) e h
  | inr t ↦ subst (λ x. presented_with_power plan (take k run) (presented x) ≡ true) (sym t.tick) refl
]

no_request : {A : Type 0} (plan : Plan) (m : Meaning A) (S : State A) (cpu : ℕ) (c : Callback) (o : ℕ) (r : Option Handle) → is_sequence (row_of c).rank ≡ true → is_ready_for plan m S cpu c o r ≡ true → is_ready_for plan m S cpu c o None ≡ true
no_request plan m S cpu c o None is h = h
no_request plan m S cpu c o (Some r) is h = absurd (let f : rank_ready_for plan S rank.Sequence c o r.id.0 ≡ true = subst (λ y. rank_ready_for plan S y c o r.id.0 ≡ true) (sequence_is (row_of c).rank is) h in let z : ⊥ = cc in z)

-- a callback of a run begins when it is ready
pub ready_at : {A : Type 0} (plan : Plan) (m : Meaning A) (run : List Event) (k : ℕ) (cpu : Cpu) (c : Callback) (o : Handle) (r : Option Handle) → IsRunOf plan m run → slice_get run k ≡ Some (event.Start cpu c o r)
    → is_ready_for plan m (state_after plan m (take k run)) cpu.0 c o.id.0 r ≡ true
ready_at plan m run k cpu c o r is_run at = elim (comes_by plan m run k (event.Start cpu c o r) is_run at) [
  | inl h ↦
      let S = state_after plan m (take k run) in
      let start : may_start plan m S cpu.0 c o.id.0 r ≡ true = both_right (is_cpu plan cpu && is_proper plan S o && is_proper_if_any plan S r) (may_start plan m S cpu.0 c o.id.0 r) h in
      search (both_left, both_right)
  | inr t ↦ absurd (let e = t.tick in let z : ⊥ = cc in z)
]

pub enables_at_each : {A : Type 0} (plan : Plan) (m : Meaning A) (run : List Event) (k : ℕ) (cpu : Cpu) (o : Handle) (r : Option Handle) (x : InterruptInfo) → IsResolved plan → IsRunOf plan m run
    → slice_get run k ≡ Some (event.Start cpu callback.EvtInterruptEnable o r) → interrupt_of plan o.id.0 ≡ Some x → is_entered plan (take k run) x.device.0 ≡ true
enables_at_each plan m run k cpu o r x resolved is_run at info =
    let S = state_after plan m (take k run) in
    enables_entered plan m S (take k run) (kept_at_each plan m run resolved is_run k) cpu.0 o.id.0 x resolved info (no_request plan m S cpu.0 callback.EvtInterruptEnable o.id.0 r refl (ready_at plan m run k cpu callback.EvtInterruptEnable o r is_run at))

pub disables_at_each : {A : Type 0} (plan : Plan) (m : Meaning A) (run : List Event) (k : ℕ) (cpu : Cpu) (o : Handle) (r : Option Handle) (x : InterruptInfo) → IsResolved plan → IsRunOf plan m run
    → slice_get run k ≡ Some (event.Start cpu callback.EvtInterruptDisable o r) → interrupt_of plan o.id.0 ≡ Some x → is_enabled_in_power plan (take k run) o.id.0 x.device.0 ≡ true
disables_at_each plan m run k cpu o r x resolved is_run at info =
    let S = state_after plan m (take k run) in
    disables_enabled plan m S (take k run) (kept_at_each plan m run resolved is_run k) cpu.0 o.id.0 x resolved info (no_request plan m S cpu.0 callback.EvtInterruptDisable o.id.0 r refl (ready_at plan m run k cpu callback.EvtInterruptDisable o r is_run at))
