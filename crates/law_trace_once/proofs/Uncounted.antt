-- References change by two calls and by the end of an object alone: no other event has a deed that changes them.
use Rattle.std.proofs.Common.{◌≡◌, Bool, true, false, not, ◌||◌, List, refl}
use Rattle.std.specs.List.{list_all}
use Rattle.wdf_base.specs.declared.plan.Plan.{Plan}
use Rattle.wdf_base.specs.declared.call.CallKind.{CallKind}
use Rattle.wdf_base.specs.declared.call.CallKind.TheVariants as call
use Rattle.wdf_base.specs.declared.event.Event.{Event}
use Rattle.wdf_base.specs.Same.{same_call_kind}
use Rattle.wdf_model.specs.State.{State}
use Rattle.wdf_model.specs.declared.deed.Deed.{Deed}
use Rattle.wdf_model.specs.declared.deed.Deed.TheVariants.{EndLife, Refer, Unrefer}
use Rattle.wdf_model.specs.rules.Steps.{deeds}
use Rattle.wdf_model.proofs.Tests.{either_false}
use Rattle.law_machine_deeds.specs.MayDo.{first_part, is_destruction, may_do}
use Rattle.law_machine_deeds.proofs.Passing.{calls_among, event_passes}

-- references are taken or given back, or the object is gone
abbrev pub is_counting : Deed → Bool
is_counting (Refer o) = true
is_counting (Unrefer o) = true
is_counting (EndLife o) = true
is_counting _ = false

abbrev pub none_counts : List Deed → Bool
none_counts ds = list_all (λ d. not (is_counting d)) ds

-- the calls that change references
abbrev pub is_reference_call : CallKind → Bool
is_reference_call k = same_call_kind k call.WdfObjectReference || same_call_kind k call.WdfObjectDereference

-- an event by which references may change
abbrev pub is_counting_event : Event → Bool
is_counting_event e = is_destruction e || first_part is_reference_call e

uncounted : (e : Event) → is_counting_event e ≡ false → (d : Deed) → may_do e d ≡ true → not (is_counting d) ≡ true
uncounted e h (Refer o) k = absurd (let off = either_false (is_destruction e) (first_part is_reference_call e) h in let on_ = calls_among call.WdfObjectReference is_reference_call e refl k in let z : ⊥ = cc in z)
uncounted e h (Unrefer o) k = absurd (let off = either_false (is_destruction e) (first_part is_reference_call e) h in let on_ = calls_among call.WdfObjectDereference is_reference_call e refl k in let z : ⊥ = cc in z)
uncounted e h (EndLife o) k = absurd (let off = either_false (is_destruction e) (first_part is_reference_call e) h in let z : ⊥ = cc in z)
uncounted e h _ k = refl

pub event_none : {A : Type 0} (plan : Plan) (S : State A) (e : Event) → is_counting_event e ≡ false → none_counts (deeds plan S e) ≡ true
event_none plan S e h = event_passes (λ d. not (is_counting d)) plan S e (uncounted e h)
