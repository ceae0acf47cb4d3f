-- The row of each call fits where no fault is in its way.
use Rattle.std.proofs.Common.{◌≡◌, ℕ, Bool, true, false, not, ◌&&◌, ◌||◌, [], ◌∷◌, refl}
use Rattle.wdf_base.specs.declared.plan.Plan.{Plan}
use Rattle.wdf_base.specs.declared.call.Arg.{Arg}
use Rattle.wdf_base.specs.declared.call.Call.{Call}
use Rattle.wdf_base.specs.declared.call.CallKind.{CallKind}
use Rattle.wdf_base.specs.declared.call.CallKind.TheVariants as call
use Rattle.wdf_base.specs.declared.call.Callback.TheVariants as callback
use Rattle.wdf_base.specs.declared.event.Fault.{Fault}
use Rattle.wdf_base.specs.declared.event.Fault.TheVariants as fault
use Rattle.wdf_base.specs.declared.object.Kind.TheVariants as kind
use Rattle.wdf_base.specs.declared.value.Status.TheVariants as status
use Rattle.wdf_base.specs.Same.{same_kind}
use Rattle.wdf_base.specs.Lives.{is_live}
use Rattle.wdf_base.specs.Places.{is_owned}
use Rattle.wdf_model.specs.Tables.{flag}
use Rattle.wdf_model.specs.Plans.{declares, is_manual_queue, parent_of_class}
use Rattle.wdf_model.specs.parts.Tree.{kind_of, life_of, references_of}
use Rattle.wdf_model.specs.parts.Requests.{place_of}
use Rattle.wdf_model.specs.parts.Interrupts.{is_enabled}
use Rattle.wdf_model.specs.parts.Deferred.Dpcs.{is_dpc_queued}
use Rattle.wdf_model.specs.parts.Deferred.Timers.{is_timer_queued}
use Rattle.wdf_model.specs.parts.Power.{acknowledged}
use Rattle.wdf_model.specs.State.{State, is_with_driver, object_in}
use Rattle.wdf_model.specs.Ids.{cpu_of, object_id}
use Rattle.wdf_model.specs.declared.deed.Deed.TheVariants.{Acknowledge, EnqueueDpc, EnqueueWork, RegisterQueue, StartTimer}
use Rattle.wdf_model.specs.rules.Faults.{call_faults, is_stop_of}
use Rattle.wdf_base.specs.Values.{arg_is}
use Rattle.wdf_model.specs.rules.Calls.{acknowledge_outcome, class_in, dpc_outcome, isr_dpc_outcome, notify_outcome, number, number_in, origin_or_none, outcome, refused, requeue_outcome, success, timer_outcome, work_outcome}
use Rattle.wdf_model.specs.rules.Steps.{view_of}
use Rattle.law_machine_base.specs.Fits.{all_fit, is_given}
use Rattle.wdf_model.proofs.Tests.{alone, both, either_false, not_false, positive, second}
use Rattle.law_machine_base.proofs.Fits.{create_fits, either_fits, first_kind, forgets_none, forgotten_arrived, forward_fits, given, mark_fits, requeue_fits, retrieve_fits, send_fits, wrong_kind_of_first}

-- a call
abbrev made : CallKind → ℕ → Arg → Arg → Arg → Call
made k n a b x = record { kind = k; count = n; a = a; b = b; c = x }

-- no fault is in the way of a call of frame f
abbrev pub Clean : {A : Type 0} → Plan → State A → ℕ → ℕ → Call → Type 0
Clean plan S cpu f c = (x : Fault) → call_faults (view_of plan S cpu f) c x ≡ false

dpc_fits : {A : Type 0} (plan : Plan) (S : State A) (cpu o : ℕ) → all_fit plan (dpc_outcome S cpu o).deeds S ≡ true
dpc_fits plan S cpu o =
    either_fits plan S (is_live (life_of S.tree o) && not (is_dpc_queued S.dpcs o)) (number 1 (EnqueueDpc (cpu_of cpu) (object_id o) ∷ [])) (number 0 []) (λ _. refl) (λ _. refl)

isr_fits : {A : Type 0} (plan : Plan) (S : State A) (cpu i : ℕ) → all_fit plan (isr_dpc_outcome plan S cpu i).deeds S ≡ true
isr_fits plan S cpu i =
    either_fits plan S (is_enabled S.interrupts i && declares plan callback.EvtInterruptDpc i && not (is_dpc_queued S.dpcs i)) (number 1 (EnqueueDpc (cpu_of cpu) (object_id i) ∷ [])) (number 0 []) (λ _. refl) (λ _. refl)

timer_fits : {A : Type 0} (plan : Plan) (S : State A) (o n : ℕ) → all_fit plan (timer_outcome S o n).deeds S ≡ true
timer_fits plan S o n = either_fits plan S (is_live (life_of S.tree o)) (number (flag (is_timer_queued S.timers o)) (StartTimer (object_id o) n ∷ [])) (number 0 []) (λ _. refl) (λ _. refl)

work_fits : {A : Type 0} (plan : Plan) (S : State A) (o : ℕ) → all_fit plan (work_outcome S o).deeds S ≡ true
work_fits plan S o = either_fits plan S (is_live (life_of S.tree o)) (success (EnqueueWork (object_id o) ∷ [])) (success []) (λ _. refl) (λ _. refl)

notify_fits : {A : Type 0} (plan : Plan) (S : State A) (q : ℕ) (x : Arg) → all_fit plan (notify_outcome plan q x).deeds S ≡ true
notify_fits plan S q x =
    either_fits plan S (is_manual_queue plan q && declares plan callback.EvtIoQueueState q) (success (RegisterQueue (object_id q) (not (arg_is x 0)) ∷ [])) (refused status.InvalidDeviceRequest) (λ _. refl) (λ _. refl)

-- either it is acknowledged, or it is given back
acknowledge_fits : {A : Type 0} (plan : Plan) (S : State A) (r : ℕ) (b : Arg) (stopping : Bool)
    → (not (is_with_driver S r) || (not (arg_is b 0) && not (is_owned (place_of S.requests r)))) ≡ false
    → (not stopping || acknowledged S.power r) ≡ false → same_kind (kind_of S.tree r) kind.Request ≡ true
    → all_fit plan (acknowledge_outcome S r b).deeds S ≡ true
acknowledge_fits plan S r b stopping held once k =
    either_fits plan S (arg_is b 0) (success (Acknowledge (object_id r) ∷ [])) (requeue_outcome S r (origin_or_none S r))
    (λ _. alone (is_with_driver S r && not (acknowledged S.power r))
    (both (is_with_driver S r) (not (acknowledged S.power r)) (not_false (is_with_driver S r) (either_false (not (is_with_driver S r)) (not (arg_is b 0) && not (is_owned (place_of S.requests r))) held).0)
    (let e : acknowledged S.power r ≡ false = (either_false (not stopping) (acknowledged S.power r) once).1 in rw e refl)))
    (λ back. requeue_fits plan S r (origin_or_none S r)
    (given S r
    (let e : (not (arg_is b 0) && not (is_owned (place_of S.requests r))) ≡ false = (either_false (not (is_with_driver S r)) (not (arg_is b 0) && not (is_owned (place_of S.requests r))) held).1 in rw back at e)
    k))

pub outcome_fits : {A : Type 0} (plan : Plan) (S : State A) (cpu f : ℕ) (k : CallKind) (n : ℕ) (a b x : Arg) → Clean plan S cpu f (made k n a b x)
    → all_fit plan (outcome plan S cpu f (made k n a b x)).deeds S ≡ true
outcome_fits plan S cpu f call.WdfObjectCreate n a b x h = create_fits plan S (class_in a) (object_in b)
outcome_fits plan S cpu f call.WdfSpinLockCreate n a b x h = create_fits plan S (class_in a) (object_in b)
outcome_fits plan S cpu f call.WdfWaitLockCreate n a b x h = create_fits plan S (class_in a) (object_in b)
outcome_fits plan S cpu f call.WdfRequestCreate n a b x h = create_fits plan S (class_in a) (object_in b)
outcome_fits plan S cpu f call.WdfDpcCreate n a b x h = create_fits plan S (class_in a) (parent_of_class plan (class_in a))
outcome_fits plan S cpu f call.WdfTimerCreate n a b x h = create_fits plan S (class_in a) (parent_of_class plan (class_in a))
outcome_fits plan S cpu f call.WdfWorkItemCreate n a b x h = create_fits plan S (class_in a) (parent_of_class plan (class_in a))
outcome_fits plan S cpu f call.WdfObjectDelete n a b x h = refl
outcome_fits plan S cpu f call.WdfObjectReference n a b x h = refl
outcome_fits plan S cpu f call.WdfObjectDereference n a b x h = alone _ (positive (references_of S.tree (object_in a)) (h fault.NoReferenceHeld))
outcome_fits plan S cpu f call.GetContext n a b x h = refl
outcome_fits plan S cpu f call.SetContext n a b x h = refl
outcome_fits plan S cpu f call.WdfSpinLockAcquire n a b x h = refl
outcome_fits plan S cpu f call.WdfSpinLockRelease n a b x h = refl
outcome_fits plan S cpu f call.WdfWaitLockAcquire n a b x h = refl
outcome_fits plan S cpu f call.WdfWaitLockRelease n a b x h = refl
outcome_fits plan S cpu f call.WdfInterruptAcquireLock n a b x h = refl
outcome_fits plan S cpu f call.WdfInterruptReleaseLock n a b x h = refl
outcome_fits plan S cpu f call.WdfRequestComplete n a b x h =
    alone _ (second _ (is_given S (object_in a)) (given S (object_in a) (h fault.NotOwned) (first_kind (view_of plan S cpu f) kind.Request a (wrong_kind_of_first (view_of plan S cpu f) (made call.WdfRequestComplete n a b x) (h fault.WrongKind)))))
outcome_fits plan S cpu f call.WdfRequestMarkCancelableEx n a b x h =
    mark_fits plan S (object_in a) (given S (object_in a) (h fault.NotOwned) (first_kind (view_of plan S cpu f) kind.Request a (wrong_kind_of_first (view_of plan S cpu f) (made call.WdfRequestMarkCancelableEx n a b x) (h fault.WrongKind))))
outcome_fits plan S cpu f call.WdfRequestUnmarkCancelable n a b x h =
    alone (same_kind (kind_of S.tree (object_in a)) kind.Request) (first_kind (view_of plan S cpu f) kind.Request a (wrong_kind_of_first (view_of plan S cpu f) (made call.WdfRequestUnmarkCancelable n a b x) (h fault.WrongKind)))
outcome_fits plan S cpu f call.WdfRequestIsCanceled n a b x h = refl
outcome_fits plan S cpu f call.WdfRequestRequeue n a b x h =
    requeue_fits plan S (object_in a) (origin_or_none S (object_in a)) (given S (object_in a) (h fault.NotOwned) (first_kind (view_of plan S cpu f) kind.Request a (wrong_kind_of_first (view_of plan S cpu f) (made call.WdfRequestRequeue n a b x) (h fault.WrongKind))))
outcome_fits plan S cpu f call.WdfRequestForwardToIoQueue n a b x h =
    forward_fits plan S (object_in a) (object_in b) (given S (object_in a) (h fault.NotOwned) (first_kind (view_of plan S cpu f) kind.Request a (wrong_kind_of_first (view_of plan S cpu f) (made call.WdfRequestForwardToIoQueue n a b x) (h fault.WrongKind))))
outcome_fits plan S cpu f call.WdfRequestStopAcknowledge n a b x h =
    acknowledge_fits plan S (object_in a) b (is_stop_of (view_of plan S cpu f) (object_in a)) (h fault.NotOwned) (h fault.AckOutsideStop)
    (first_kind (view_of plan S cpu f) kind.Request a (wrong_kind_of_first (view_of plan S cpu f) (made call.WdfRequestStopAcknowledge n a b x) (h fault.WrongKind)))
outcome_fits plan S cpu f call.WdfRequestSend n a b x h =
    send_fits plan S (object_in a) (object_in b) (arg_is x 1) (not_false (is_owned (place_of S.requests (object_in a))) (h fault.NotOwned))
    (forgotten_arrived (view_of plan S cpu f) a (arg_is x 1) (wrong_kind_of_first (view_of plan S cpu f) (made call.WdfRequestSend n a b x) (h fault.WrongKind)) (forgets_none (view_of plan S cpu f) (made call.WdfRequestSend n a b x) (h fault.WrongKind)))
outcome_fits plan S cpu f call.WdfRequestCancelSentRequest n a b x h = refl
outcome_fits plan S cpu f call.WdfIoQueueStart n a b x h = refl
outcome_fits plan S cpu f call.WdfIoQueueStop n a b x h = refl
outcome_fits plan S cpu f call.WdfIoQueueDrain n a b x h = refl
outcome_fits plan S cpu f call.WdfIoQueuePurge n a b x h = refl
outcome_fits plan S cpu f call.WdfIoQueueStopSynchronously n a b x h = refl
outcome_fits plan S cpu f call.WdfIoQueueDrainSynchronously n a b x h = refl
outcome_fits plan S cpu f call.WdfIoQueuePurgeSynchronously n a b x h = refl
outcome_fits plan S cpu f call.WdfIoQueueRetrieveNextRequest n a b x h = retrieve_fits plan S (object_in a)
outcome_fits plan S cpu f call.WdfIoQueueReadyNotify n a b x h = notify_fits plan S (object_in a) b
outcome_fits plan S cpu f call.WdfInterruptQueueDpcForIsr n a b x h = isr_fits plan S cpu (object_in a)
outcome_fits plan S cpu f call.WdfDpcEnqueue n a b x h = dpc_fits plan S cpu (object_in a)
outcome_fits plan S cpu f call.WdfDpcCancel n a b x h = refl
outcome_fits plan S cpu f call.WdfTimerStart n a b x h = timer_fits plan S (object_in a) (number_in b)
outcome_fits plan S cpu f call.WdfTimerStop n a b x h = refl
outcome_fits plan S cpu f call.WdfWorkItemEnqueue n a b x h = work_fits plan S (object_in a)
outcome_fits plan S cpu f call.WdfWorkItemFlush n a b x h = refl
outcome_fits plan S cpu f call.WdfIoTargetStop n a b x h = refl
outcome_fits plan S cpu f call.WdfIoTargetStart n a b x h = refl
