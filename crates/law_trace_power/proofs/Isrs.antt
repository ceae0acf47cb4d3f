-- The service routine of an interrupt, and EvtIoQueueState, begin only with power.
use Rattle.std.proofs.Common.{◌≡◌, ℕ, true, ◌&&◌, List, Option, Some, None, is_some, slice_get, take, sym, subst, ◌∙◌}
use Rattle.wdf_base.specs.Meaning.{Meaning}
use Rattle.wdf_base.specs.Resolved.{IsResolved}
use Rattle.wdf_base.specs.declared.ids.Cpu.{Cpu}
use Rattle.wdf_base.specs.declared.ids.Handle.{Handle}
use Rattle.wdf_base.specs.declared.plan.Plan.{Plan}
use Rattle.wdf_base.specs.declared.declared.InterruptInfo.{InterruptInfo}
use Rattle.wdf_base.specs.declared.call.Callback.TheVariants as callback
use Rattle.wdf_base.specs.declared.event.Event.{Event}
use Rattle.wdf_base.specs.declared.event.Event.TheVariants as event
use Rattle.wdf_model.specs.Plans.{device_of, interrupt_of, is_interrupt_of, queue_of}
use Rattle.wdf_model.specs.parts.Control.{notify_due}
use Rattle.wdf_model.specs.parts.Interrupts.{is_enabled}
use Rattle.wdf_model.specs.State.{State, queue_delivers}
use Rattle.wdf_model.specs.rules.Ready.{IsRunOf, state_after}
use Rattle.wdf_model.specs.rules.Starts.{is_ready_for, line_is_up}
use Rattle.wdf_model.proofs.Tests.{both, both_right, itself}
use Rattle.wdf_laws.specs.declared.sign.Sign.TheVariants as sign
use Rattle.wdf_laws.specs.Words.{stands}
use Rattle.wdf_laws.specs.Laws.{has_power, is_enabled_in_power}
use Rattle.law_trace_power.proofs.Belonging.{device_of_interrupt}
use Rattle.law_trace_power.proofs.Holding.{watch}
use Rattle.law_trace_power.proofs.Laws.{queue_has_power, ready_at}
use Rattle.law_trace_power.proofs.Runs.{kept_at_each}

-- ---- EvtIoQueueState

notifies_by : {A : Type 0} (plan : Plan) (m : Meaning A) (S : State A) (cpu o : ℕ) (r : Option Handle) → is_ready_for plan m S cpu callback.EvtIoQueueState o r ≡ true → queue_delivers plan S o ≡ true
notifies_by plan m S cpu o None h = both_right (notify_due S.control o) (queue_delivers plan S o) h
notifies_by plan m S cpu o (Some r) h = absurd (let z : ⊥ = cc in z)

pub notifies_at_each : {A : Type 0} (plan : Plan) (m : Meaning A) (run : List Event) (k : ℕ) (cpu : Cpu) (o : Handle) (r : Option Handle) → IsResolved plan → IsRunOf plan m run
    → slice_get run k ≡ Some (event.Start cpu callback.EvtIoQueueState o r) → has_power plan (take k run) (queue_of plan o.id.0) ≡ true
notifies_at_each plan m run k cpu o r resolved is_run at =
    let S = state_after plan m (take k run) in
    queue_has_power plan S (take k run) (kept_at_each plan m run resolved is_run k) o.id.0 (notifies_by plan m S cpu.0 o.id.0 r (ready_at plan m run k cpu callback.EvtIoQueueState o r is_run at))

-- ---- EvtInterruptIsr

serves_by : {A : Type 0} (plan : Plan) (m : Meaning A) (S : State A) (cpu o : ℕ) (r : Option Handle) → is_ready_for plan m S cpu callback.EvtInterruptIsr o r ≡ true → is_enabled S.interrupts o ≡ true
serves_by plan m S cpu o None h = both_right (line_is_up plan m S o) (is_enabled S.interrupts o) h
serves_by plan m S cpu o (Some r) h = absurd (let z : ⊥ = cc in z)

pub serves_at_each : {A : Type 0} (plan : Plan) (m : Meaning A) (run : List Event) (k : ℕ) (cpu : Cpu) (o : Handle) (r : Option Handle) (x : InterruptInfo) → IsResolved plan → IsRunOf plan m run
    → slice_get run k ≡ Some (event.Start cpu callback.EvtInterruptIsr o r) → interrupt_of plan o.id.0 ≡ Some x
    → (is_enabled_in_power plan (take k run) o.id.0 x.device.0 && stands (sign.Enabled o.id.0) (sign.Disabled o.id.0) (take k run)) ≡ true
serves_at_each plan m run k cpu o r x resolved is_run at info =
    let S = state_after plan m (take k run) in
    let held = (kept_at_each plan m run resolved is_run k).hold x.device.0 o.id.0 in
    let on_ : is_enabled S.interrupts o.id.0 ≡ true = serves_by plan m S cpu.0 o.id.0 r (ready_at plan m run k cpu callback.EvtInterruptIsr o r is_run at) in
    let mine : is_interrupt_of x.device.0 (interrupt_of plan o.id.0) ≡ true = subst (λ y. is_interrupt_of x.device.0 y ≡ true) (sym info) (itself x.device.0) in
    let w : (watch plan x.device.0 o.id.0).watched ≡ true = both (is_some (device_of plan x.device.0)) (is_interrupt_of x.device.0 (interrupt_of plan o.id.0)) (device_of_interrupt plan resolved o.id.0 x info) mine in
    let up : held.standing.on ≡ true = held.on ∙ both (watch plan x.device.0 o.id.0).watched (is_enabled S.interrupts o.id.0) w on_ in
    both (is_enabled_in_power plan (take k run) o.id.0 x.device.0) (stands (sign.Enabled o.id.0) (sign.Disabled o.id.0) (take k run)) (held.told.on up) (held.told.lasting up)
