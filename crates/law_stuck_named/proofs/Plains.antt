-- The deeds of which nothing is asked, and which outcomes and events have no others.
use Rattle.std.proofs.Common.{◌≡◌, ℕ, Bool, true, false, List, ◌++◌, refl}
use Rattle.std.specs.List.{list_all}
use Rattle.wdf_base.specs.declared.plan.Plan.{Plan}
use Rattle.wdf_base.specs.declared.call.Call.{Call}
use Rattle.wdf_base.specs.declared.call.CallKind.{CallKind}
use Rattle.wdf_base.specs.declared.call.CallKind.TheVariants as call
use Rattle.wdf_base.specs.declared.event.Event.{Event}
use Rattle.wdf_base.specs.declared.event.Event.TheVariants as event
use Rattle.wdf_base.specs.Posts.{is_request}
use Rattle.wdf_model.specs.State.{State}
use Rattle.wdf_model.specs.declared.deed.Deed.{Deed}
use Rattle.wdf_model.specs.declared.deed.Deed.TheVariants.{Arrive, AskDeletion, CompleteRequest, EndStep, EnqueueDpc}
use Rattle.wdf_model.specs.rules.Calls.{outcome, second_deeds}
use Rattle.wdf_model.specs.rules.Deeds.{do_deeds}
use Rattle.wdf_model.specs.rules.Steps.{deeds}
use Rattle.law_machine_deeds.specs.MayDo.{may_do, queues_dpcs}
use Rattle.law_machine_deeds.proofs.Walk.{plain_frame}
use Rattle.law_machine_deeds.proofs.Passing.{PassesBeside, calls_among, event_passes, first_of, outcome_passes, second_of, second_passes}
use Rattle.law_stuck_named.proofs.Standing.{AllComes, Comes}
use Rattle.law_machine_lives.proofs.AllOf.{all_behind, all_such}

abbrev pub is_plain : Deed → Bool
is_plain (AskDeletion o) = false
is_plain (CompleteRequest r) = false
is_plain (EndStep d s v) = false
is_plain (EnqueueDpc cpu o) = false
is_plain (Arrive device info p) = false
is_plain _ = true

abbrev pub all_plain : List Deed → Bool
all_plain ds = list_all is_plain ds

plain_one : {A : Type 0} (plan : Plan) (d : Deed) (S : State A) → is_plain d ≡ true → Comes plan d S
plain_one plan (AskDeletion o) S h = absurd (let z : ⊥ = cc in z)
plain_one plan (CompleteRequest r) S h = absurd (let z : ⊥ = cc in z)
plain_one plan (EndStep d s v) S h = absurd (let z : ⊥ = cc in z)
plain_one plan (EnqueueDpc cpu o) S h = absurd (let z : ⊥ = cc in z)
plain_one plan (Arrive device info p) S h = absurd (let z : ⊥ = cc in z)
plain_one plan _ S h = tt

pub plain_comes : {A : Type 0} (plan : Plan) (ds : List Deed) (S : State A) → all_plain ds ≡ true → AllComes plan ds S
plain_comes {A} plan ds S h = all_such plan (λ (d : Deed) (U : State A). Comes plan d U) is_plain (plain_one plan) ds S h

pub comes_after : {A : Type 0} (plan : Plan) (ds es : List Deed) (S : State A) → AllComes plan ds S → AllComes plan es (do_deeds plan ds S) → AllComes plan (ds ++ es) S
comes_after {A} plan ds es S h k = all_behind plan (λ (d : Deed) (U : State A). Comes plan d U) ds es S h k

-- the calls of whose deeds something is asked
abbrev pub is_asking_call : CallKind → Bool
is_asking_call call.WdfObjectDelete = true
is_asking_call call.WdfRequestComplete = true
is_asking_call call.WdfInterruptQueueDpcForIsr = true
is_asking_call call.WdfDpcEnqueue = true
is_asking_call _ = false

dpcs_ask : (k : CallKind) → queues_dpcs k ≡ true → is_asking_call k ≡ true
dpcs_ask call.WdfInterruptQueueDpcForIsr h = refl
dpcs_ask call.WdfDpcEnqueue h = refl
dpcs_ask _ h = absurd (let z : ⊥ = cc in z)

call_plain : (c : Call) → is_asking_call c.kind ≡ false → PassesBeside is_plain plain_frame (first_of c)
call_plain c off (AskDeletion o) h n = absurd (let on_ = calls_among call.WdfObjectDelete is_asking_call (first_of c) refl h in let z : ⊥ = cc in z)
call_plain c off (CompleteRequest r) h n = absurd (let on_ = calls_among call.WdfRequestComplete is_asking_call (first_of c) refl h in let z : ⊥ = cc in z)
call_plain c off (EnqueueDpc cpu o) h n = absurd (let on_ = dpcs_ask c.kind h in let z : ⊥ = cc in z)
call_plain c off _ h n = cc

pub outcome_plain : {A : Type 0} (plan : Plan) (S : State A) (cpu f : ℕ) (c : Call) → is_asking_call c.kind ≡ false → all_plain (outcome plan S cpu f c).deeds ≡ true
outcome_plain plan S cpu f c off = outcome_passes is_plain plan S cpu f c (call_plain c off)

second_still : (c : Call) → PassesBeside is_plain plain_frame (second_of c)
second_still c (AskDeletion o) h n = h
second_still c _ h n = cc

pub second_plain : (f : ℕ) (c : Call) → all_plain (second_deeds f c) ≡ true
second_plain f c = second_passes is_plain f c (second_still c)

-- the events of whose deeds something may be asked
abbrev pub is_asking_event : Event → Bool
is_asking_event (event.Did cpu c v) = true
is_asking_event (event.Waiting cpu c) = true
is_asking_event (event.End cpu c o v) = true
is_asking_event (event.Stage d s i) = true
is_asking_event (event.Complete r s) = true
is_asking_event (event.Posted agent p answer) = is_request p
is_asking_event _ = false

event_still : (e : Event) → is_asking_event e ≡ false → (d : Deed) → may_do e d ≡ true → is_plain d ≡ true
event_still (event.Did cpu c v) off d h = absurd (let z : ⊥ = cc in z)
event_still (event.Waiting cpu c) off d h = absurd (let z : ⊥ = cc in z)
event_still (event.End cpu c o v) off d h = absurd (let z : ⊥ = cc in z)
event_still (event.Stage n s i) off d h = absurd (let z : ⊥ = cc in z)
event_still (event.Complete r s) off d h = absurd (let z : ⊥ = cc in z)
event_still (event.Posted agent p answer) off (Arrive device info x) h = absurd (let z : ⊥ = cc in z)
event_still e off (AskDeletion o) h = h
event_still e off _ h = cc

pub event_plain : {A : Type 0} (plan : Plan) (S : State A) (e : Event) → is_asking_event e ≡ false → all_plain (deeds plan S e) ≡ true
event_plain plan S e off = event_passes is_plain plan S e (event_still e off)
