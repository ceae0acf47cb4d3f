-- The framework calls: what each answers and what it does, one row a call; and, for the calls that
-- wait, when the wait is over and what is done then. (KMDF, but for what is marked own)
use Rattle.std.specs.Prelude.{if◌then◌else◌, ℕ, Bool, true, ◌==◌, not, ◌&&◌, ◌||◌, List, [], ◌∷◌, Option, Some, None, unwrap_or}
use Rattle.std.specs.List.{list_any}
use Rattle.wdf_base.specs.declared.plan.Plan.{Plan}
use Rattle.wdf_base.specs.declared.ids.Handle.{Handle}
use Rattle.wdf_base.specs.declared.value.Value.{Value}
use Rattle.wdf_base.specs.declared.value.Value.TheVariants.{Num, Obj, Stat}
use Rattle.wdf_base.specs.declared.value.Status.{Status}
use Rattle.wdf_base.specs.declared.value.Status.TheVariants as status
use Rattle.wdf_base.specs.declared.object.Kind.{Kind}
use Rattle.wdf_base.specs.declared.object.Kind.TheVariants as kind
use Rattle.wdf_base.specs.declared.call.Arg.{Arg}
use Rattle.wdf_base.specs.declared.call.Arg.TheVariants.{Val, Class}
use Rattle.wdf_base.specs.declared.call.Call.{Call}
use Rattle.wdf_base.specs.declared.call.CallKind.TheVariants as call
use Rattle.wdf_base.specs.declared.call.Callback.TheVariants as callback
use Rattle.wdf_base.specs.Lives.{is_live}
use Rattle.wdf_base.specs.Places.{is_returning_to}
use Rattle.wdf_model.specs.declared.enums.Mode.TheVariants as mode
use Rattle.wdf_model.specs.declared.entries.Request.{Request}
use Rattle.wdf_model.specs.Tables.{flag}
use Rattle.wdf_model.specs.Plans.{declares, device_of_queue, has_handler, interrupt_level, is_manual_queue, is_parallel_queue, kind_of_class, name_of_class, parent_of_class}
use Rattle.wdf_model.specs.parts.Tree.{life_of, is_full, next_id, cell_of, kind_of}
use Rattle.wdf_model.specs.parts.Cpus.{nobody_on}
use Rattle.wdf_model.specs.parts.Locks.{object_lock, is_free_lock}
use Rattle.wdf_model.specs.parts.Requests.{info_of, origin_of, is_cancelled, mark_answer, unmark_answer}
use Rattle.wdf_model.specs.parts.Queues.{front, held_count, is_empty_queue, waiting_in}
use Rattle.wdf_model.specs.parts.Control.{accepts, mode_of, is_purged}
use Rattle.wdf_model.specs.parts.Interrupts.{is_enabled}
use Rattle.wdf_model.specs.parts.Deferred.Dpcs.{is_dpc_queued}
use Rattle.wdf_model.specs.parts.Deferred.WorkItems.{is_work_queued}
use Rattle.wdf_model.specs.parts.Deferred.Timers.{is_timer_queued}
use Rattle.wdf_model.specs.parts.Targets.{takes_more, is_undone}
use Rattle.wdf_model.specs.State.{State, object_in, queue_delivers, nothing_at, handle_in, returns_to}
use Rattle.wdf_model.specs.Ids.{cpu_of, frame_id, irql_of, object_id}
use Rattle.wdf_model.specs.declared.deed.Deed.{Deed}
use Rattle.wdf_model.specs.declared.deed.Deed.TheVariants.{Create, MakeRequest, AskDeletion, Refer, Unrefer, WriteCell, Raise, Lower, TakeLock, ReleaseLock, Present, Requeue, Forward, GiveBack, MarkRequest, UnmarkRequest, SendRequest, CompleteRequest, SetMode, PurgeQueue, RegisterQueue, Acknowledge, EnqueueDpc, CancelDpc, EnqueueWork, StartTimer, StopTimer, StopTarget, StartTarget}
use Rattle.wdf_base.specs.Values.{arg_is}

-- what a call answers, and what it does. Of a call that waits it is the answer that comes when the wait is over,
-- and what is done before.
pub record Outcome : Type 0 where
  -- a status, a number or a handle
  pub answer : Value
  -- what changes, in this order
  pub deeds : List Deed

-- ---- arguments

-- the value of an argument; the number 0 for a class
abbrev pub value_in : Arg → Value
value_in (Val v) = v
value_in (Class c) = Num 0

-- the number that an argument is; 0 for what is no number
abbrev pub number_in : Arg → ℕ
number_in (Val (Num n)) = n
number_in _ = 0

-- the number of the class that an argument names, as the plan counts classes from 0; 0 also for what names none
abbrev pub class_in : Arg → ℕ
class_in (Class c) = c
class_in (Val v) = 0

-- ---- outcomes

-- a call that is refused: this status, and nothing is done
abbrev pub refused : Status → Outcome
refused s = record { answer = Stat s; deeds = [] }

-- SUCCESS, with this done
abbrev pub success : List Deed → Outcome
success ds = record { answer = Stat status.Success; deeds = ds }

-- the number n, with this done
abbrev pub number : ℕ → List Deed → Outcome
number n ds = record { answer = Num n; deeds = ds }

-- ---- objects

-- the handle of the object that is made next: the next id, and the name of its class
abbrev pub new_handle : {A : Type 0} → Plan → State A → ℕ → Handle
new_handle plan S class = record { id = record { 0 = next_id S.tree }; name = name_of_class plan class }

-- the deed by which an object of kind k and of this class is made under a parent; a request that the driver makes
-- has a place and a mark besides
abbrev pub creation : Kind → ℕ → ℕ → Deed
creation kind.Made class parent = MakeRequest class (object_id parent)
creation k class parent = Create k class (object_id parent)

-- an object of this class is made under object `parent`. DELETE_PENDING where the parent isn't live;
-- INSUFFICIENT_RESOURCES where the counted objects are at the scenario's limit. (KMDF)
abbrev pub create_outcome : {A : Type 0} → Plan → State A → ℕ → ℕ → Outcome
create_outcome plan S class parent =
    if not (is_live (life_of S.tree parent)) then refused status.DeletePending
    else if is_full S.tree then refused status.InsufficientResources
    else record { answer = Obj (new_handle plan S class); deeds = creation (kind_of_class plan class) class parent ∷ [] }

-- ---- requests

-- the queue from which request r last came to the driver; 0, which no object has, for a request that the driver
-- made
abbrev pub origin_or_none : {A : Type 0} → State A → ℕ → ℕ
origin_or_none S r = unwrap_or (origin_of S.requests r) 0

-- request r is marked cancelable, or answers CANCELLED where it is cancelled already (KMDF); own: marking a request
-- of a queue without EvtRequestCancel is refused
abbrev pub mark_outcome : {A : Type 0} → Plan → State A → ℕ → Outcome
mark_outcome plan S r =
    if declares plan callback.EvtRequestCancel (origin_or_none S r) then record { answer = Stat (mark_answer S.requests r); deeds = MarkRequest (object_id r) ∷ [] }
    else refused status.InvalidDeviceRequest

-- request r goes to the head of queue q, from which it came. One that is cancelled, or whose queue is Purged, is
-- cancelled in the queue at once. (KMDF)
abbrev pub requeue_outcome : {A : Type 0} → State A → ℕ → ℕ → Outcome
requeue_outcome S r q =
    if is_cancelled S.requests r || is_purged (mode_of S.control q) then success (GiveBack (object_id r) (object_id q) ∷ []) else success (Requeue (object_id r) (object_id q) ∷ [])

-- own: request r can't be forwarded to queue q, because it came from q, or q is of another device, or q is neither
-- manual nor has a handler for its type
abbrev pub forwards_nowhere : {A : Type 0} → Plan → State A → ℕ → ℕ → Bool
forwards_nowhere plan S r q =
    origin_or_none S r == q || not (device_of_queue plan q == (info_of S.requests r).device.0)
    || not (is_manual_queue plan q || has_handler plan q (info_of S.requests r).form)

-- request r goes to the tail of queue q; WDF_BUSY where q doesn't accept. One that is cancelled is cancelled in q
-- at once. (KMDF)
abbrev pub forward_outcome : {A : Type 0} → Plan → State A → ℕ → ℕ → Outcome
forward_outcome plan S r q =
    if forwards_nowhere plan S r q then refused status.InvalidDeviceRequest
    else if not (accepts S.control q) then refused status.WdfBusy
    else if is_cancelled S.requests r then success (GiveBack (object_id r) (object_id q) ∷ [])
    else success (Forward (object_id r) (object_id q) ∷ [])

-- request r is acknowledged and kept where f is 0; with any other number it goes back to the head of its queue
-- (KMDF)
abbrev pub acknowledge_outcome : {A : Type 0} → State A → ℕ → Arg → Outcome
acknowledge_outcome S r f = if arg_is f 0 then success (Acknowledge (object_id r) ∷ []) else requeue_outcome S r (origin_or_none S r)

-- own: request r may be sent to target t: t is live, isn't stopped and holds fewer requests than its depth, and r
-- isn't cancelled
abbrev pub may_send : {A : Type 0} → State A → ℕ → ℕ → Bool
may_send S r t = is_live (life_of S.tree t) && takes_more S.targets t && not (is_cancelled S.requests r)

-- request r is sent to target t and the answer is 1, or the answer is 0 and the driver keeps it; with `forget` it
-- won't come back (KMDF)
abbrev pub send_outcome : {A : Type 0} → State A → ℕ → ℕ → Bool → Outcome
send_outcome S r t forget = if may_send S r t then number 1 (SendRequest (object_id r) (object_id t) forget ∷ []) else number 0 []

-- ---- queues

-- the front request of queue q is the driver's; NO_MORE_ENTRIES where nothing waits (KMDF)
abbrev pub retrieve_front : {A : Type 0} → Plan → State A → ℕ → Option ℕ → Outcome
retrieve_front plan S q None = refused status.NoMoreEntries
retrieve_front plan S q (Some r) = record { answer = Obj (handle_in plan S r); deeds = Present (object_id q) (object_id r) ∷ [] }

-- the driver asks queue q for a request: INVALID_DEVICE_STATE for a parallel queue, then WDF_PAUSED where q doesn't
-- deliver, else the front (KMDF)
abbrev pub retrieve_outcome : {A : Type 0} → Plan → State A → ℕ → Outcome
retrieve_outcome plan S q =
    if is_parallel_queue plan q then refused status.InvalidDeviceState
    else if not (queue_delivers plan S q) then refused status.WdfPaused
    else retrieve_front plan S q (front S.queues q)

-- notification of queue q is registered where f isn't 0, and ended where it is 0 (KMDF). INVALID_DEVICE_REQUEST
-- where q isn't manual or has no EvtIoQueueState. (own)
abbrev pub notify_outcome : Plan → ℕ → Arg → Outcome
notify_outcome plan q f =
    if is_manual_queue plan q && declares plan callback.EvtIoQueueState q then success (RegisterQueue (object_id q) (not (arg_is f 0)) ∷ [])
    else refused status.InvalidDeviceRequest

-- ---- deferred work; what isn't live is never queued

-- the DPC of interrupt i is queued on processor cpu, and the answer is 1. The answer is 0 where i isn't enabled,
-- has no EvtInterruptDpc, or its DPC is queued already. (KMDF)
abbrev pub isr_dpc_outcome : {A : Type 0} → Plan → State A → ℕ → ℕ → Outcome
isr_dpc_outcome plan S cpu i =
    if is_enabled S.interrupts i && declares plan callback.EvtInterruptDpc i && not (is_dpc_queued S.dpcs i) then number 1 (EnqueueDpc (cpu_of cpu) (object_id i) ∷ [])
    else number 0 []

-- the DPC o is queued last on processor cpu, and the answer is 1; it is 0 where o is queued on some processor or
-- isn't live (KMDF)
abbrev pub dpc_outcome : {A : Type 0} → State A → ℕ → ℕ → Outcome
dpc_outcome S cpu o =
    if is_live (life_of S.tree o) && not (is_dpc_queued S.dpcs o) then number 1 (EnqueueDpc (cpu_of cpu) (object_id o) ∷ []) else number 0 []

-- timer o is due n ticks from now, anew if it was queued, which the answer says: 1 or 0 (KMDF). A timer that isn't
-- live isn't queued. (own)
abbrev pub timer_outcome : {A : Type 0} → State A → ℕ → ℕ → Outcome
timer_outcome S o n =
    if is_live (life_of S.tree o) then number (flag (is_timer_queued S.timers o)) (StartTimer (object_id o) n ∷ []) else number 0 []

-- work item o is queued, unless it isn't live; the answer is SUCCESS all the same (KMDF)
abbrev pub work_outcome : {A : Type 0} → State A → ℕ → Outcome
work_outcome S o = if is_live (life_of S.tree o) then success (EnqueueWork (object_id o) ∷ []) else success []

-- ---- locks

-- the level of the lock of object o, by its kind k: DISPATCH_LEVEL for a spin lock, the interrupt's level for an
-- interrupt, 0 for a wait lock (KMDF)
abbrev pub level_of_kind : Plan → ℕ → Kind → ℕ
level_of_kind plan o kind.SpinLock = 2
level_of_kind plan o kind.Interrupt = interrupt_level plan o
-- 0 is PASSIVE_LEVEL
level_of_kind plan o _ = 0

-- the level of the lock of object o
abbrev pub lock_level : {A : Type 0} → Plan → State A → ℕ → ℕ
lock_level plan S o = level_of_kind plan o (kind_of S.tree o)

-- frame f asks for a lock of this level: it has the level while it spins for the lock and while it holds it (KMDF).
-- The lock itself is taken when the wait is over.
abbrev pub acquire_outcome : ℕ → ℕ → Outcome
acquire_outcome f level = success (Raise (frame_id f) (irql_of level) ∷ [])

-- frame f gives the lock of object o back, and its level falls to that of its callback and of what else it holds
-- (KMDF)
abbrev pub release_outcome : ℕ → ℕ → ℕ → Outcome
release_outcome f o level = success (ReleaseLock (object_lock o) ∷ Lower (frame_id f) (irql_of level) ∷ [])

-- ---- the table: what a call of frame f on a processor answers and does; of a call that waits, its first part

-- the table: what call c of frame f on processor cpu answers and does; of a call that waits, its first part
abbrev pub outcome : {A : Type 0} → Plan → State A → ℕ → ℕ → Call → Outcome
outcome plan S cpu f c = elim c.kind as (λ _. Outcome) [
  -- KMDF: DELETE_PENDING where the parent isn't live; INSUFFICIENT_RESOURCES where the counted objects are at their limit; else the new object
  | call.WdfObjectCreate ↦ create_outcome plan S (class_in c.a) (object_in c.b)
  -- KMDF: the same
  | call.WdfSpinLockCreate ↦ create_outcome plan S (class_in c.a) (object_in c.b)
  -- KMDF: the same
  | call.WdfWaitLockCreate ↦ create_outcome plan S (class_in c.a) (object_in c.b)
  -- KMDF: the same; the driver owns the request
  | call.WdfRequestCreate ↦ create_outcome plan S (class_in c.a) (object_in c.b)
  -- KMDF: the same, under the parent that the class names
  | call.WdfDpcCreate ↦ create_outcome plan S (class_in c.a) (parent_of_class plan (class_in c.a))
  -- KMDF: the same, under the parent that the class names
  | call.WdfTimerCreate ↦ create_outcome plan S (class_in c.a) (parent_of_class plan (class_in c.a))
  -- KMDF: the same, under the parent that the class names
  | call.WdfWorkItemCreate ↦ create_outcome plan S (class_in c.a) (parent_of_class plan (class_in c.a))
  -- KMDF, own in that it only asks: the deletion is asked; nothing if it was asked already
  | call.WdfObjectDelete ↦ success (AskDeletion (object_id (object_in c.a)) ∷ [])
  -- KMDF: one reference more
  | call.WdfObjectReference ↦ success (Refer (object_id (object_in c.a)) ∷ [])
  -- KMDF: one reference less
  | call.WdfObjectDereference ↦ success (Unrefer (object_id (object_in c.a)) ∷ [])
  -- own: the value of a context cell
  | call.GetContext ↦ record { answer = cell_of S.tree (object_in c.a) (number_in c.b); deeds = [] }
  -- own: a context cell takes a value
  | call.SetContext ↦ success (WriteCell (object_id (object_in c.a)) (number_in c.b) (value_in c.c) ∷ [])
  -- KMDF: waits on its processor at DISPATCH_LEVEL until the lock is free
  | call.WdfSpinLockAcquire ↦ acquire_outcome f (lock_level plan S (object_in c.a))
  -- KMDF: the lock is free
  | call.WdfSpinLockRelease ↦ release_outcome f (object_in c.a) (lock_level plan S (object_in c.a))
  -- KMDF: waits until the lock is free
  | call.WdfWaitLockAcquire ↦ acquire_outcome f (lock_level plan S (object_in c.a))
  -- KMDF: the lock is free
  | call.WdfWaitLockRelease ↦ release_outcome f (object_in c.a) (lock_level plan S (object_in c.a))
  -- KMDF: waits on its processor at the interrupt's level; for a passive interrupt at level 0
  | call.WdfInterruptAcquireLock ↦ acquire_outcome f (lock_level plan S (object_in c.a))
  -- KMDF: the lock is free
  | call.WdfInterruptReleaseLock ↦ release_outcome f (object_in c.a) (lock_level plan S (object_in c.a))
  -- KMDF: the request is done; it and what is below it are deleted
  | call.WdfRequestComplete ↦ success (CompleteRequest (object_id (object_in c.a)) ∷ [])
  -- KMDF: cancelable, or CANCELLED where it is cancelled; own: INVALID_DEVICE_REQUEST without an EvtRequestCancel
  | call.WdfRequestMarkCancelableEx ↦ mark_outcome plan S (object_in c.a)
  -- KMDF: no longer cancelable; CANCELLED where its cancel is due or taken; INVALID_DEVICE_REQUEST where it wasn't marked
  | call.WdfRequestUnmarkCancelable ↦ record { answer = Stat (unmark_answer S.requests (object_in c.a)); deeds = UnmarkRequest (object_id (object_in c.a)) ∷ [] }
  -- KMDF: whether it is cancelled
  | call.WdfRequestIsCanceled ↦ number (flag (is_cancelled S.requests (object_in c.a))) []
  -- KMDF: to the head of the queue that it came from
  | call.WdfRequestRequeue ↦ requeue_outcome S (object_in c.a) (origin_or_none S (object_in c.a))
  -- KMDF: to the tail of another queue of the device that accepts; own: what is refused
  | call.WdfRequestForwardToIoQueue ↦ forward_outcome plan S (object_in c.a) (object_in c.b)
  -- KMDF: with 0 acknowledged and kept, else requeued
  | call.WdfRequestStopAcknowledge ↦ acknowledge_outcome S (object_in c.a) c.b
  -- KMDF: to the target, which has it from then on; own: when it fails
  | call.WdfRequestSend ↦ send_outcome S (object_in c.a) (object_in c.b) (arg_is c.c 1)
  -- KMDF: the target is told to cancel it, if it is there and isn't done
  | call.WdfRequestCancelSentRequest ↦ number (flag (is_undone S.targets (object_in c.a))) []
  -- KMDF: the queue accepts and delivers
  | call.WdfIoQueueStart ↦ success (SetMode (object_id (object_in c.a)) mode.Started ∷ [])
  -- KMDF: it accepts and doesn't deliver
  | call.WdfIoQueueStop ↦ success (SetMode (object_id (object_in c.a)) mode.Stopped ∷ [])
  -- KMDF: it delivers and doesn't accept
  | call.WdfIoQueueDrain ↦ success (SetMode (object_id (object_in c.a)) mode.Drained ∷ [])
  -- KMDF: it does neither, and what waits is cancelled in it; own: what the driver holds stays as it is
  | call.WdfIoQueuePurge ↦ success (PurgeQueue (object_id (object_in c.a)) ∷ [])
  -- KMDF: the same as Stop, and waits
  | call.WdfIoQueueStopSynchronously ↦ success (SetMode (object_id (object_in c.a)) mode.Stopped ∷ [])
  -- KMDF: the same as Drain, and waits
  | call.WdfIoQueueDrainSynchronously ↦ success (SetMode (object_id (object_in c.a)) mode.Drained ∷ [])
  -- KMDF: the same as Purge, and waits
  | call.WdfIoQueuePurgeSynchronously ↦ success (PurgeQueue (object_id (object_in c.a)) ∷ [])
  -- KMDF: the front request, owned; INVALID_DEVICE_STATE if parallel, WDF_PAUSED if it doesn't deliver, NO_MORE_ENTRIES if empty; own: without asking whether a sequential queue is free
  | call.WdfIoQueueRetrieveNextRequest ↦ retrieve_outcome plan S (object_in c.a)
  -- KMDF: notification is registered or not; own: at any time; INVALID_DEVICE_REQUEST if not manual or without an EvtIoQueueState
  | call.WdfIoQueueReadyNotify ↦ notify_outcome plan (object_in c.a) c.b
  -- KMDF: queued on this processor; 0 if not enabled, without an EvtInterruptDpc or queued already
  | call.WdfInterruptQueueDpcForIsr ↦ isr_dpc_outcome plan S cpu (object_in c.a)
  -- KMDF: queued last on this processor; 0 if queued already
  | call.WdfDpcEnqueue ↦ dpc_outcome S cpu (object_in c.a)
  -- KMDF: taken out of its queue; 1 if it was there; waits if it is asked to
  | call.WdfDpcCancel ↦ number (flag (is_dpc_queued S.dpcs (object_in c.a))) (CancelDpc (object_id (object_in c.a)) ∷ [])
  -- KMDF: due so many ticks from now; 1 if it was queued
  | call.WdfTimerStart ↦ timer_outcome S (object_in c.a) (number_in c.b)
  -- KMDF: taken out of its queue; 1 if it was there; waits if it is asked to
  | call.WdfTimerStop ↦ number (flag (is_timer_queued S.timers (object_in c.a))) (StopTimer (object_id (object_in c.a)) ∷ [])
  -- KMDF: queued, once
  | call.WdfWorkItemEnqueue ↦ work_outcome S (object_in c.a)
  -- KMDF: waits for the work item
  | call.WdfWorkItemFlush ↦ success []
  -- KMDF: the target takes no more; waits, but for 2; own: the numbers of the actions
  | call.WdfIoTargetStop ↦ success (StopTarget (object_id (object_in c.a)) ∷ [])
  -- KMDF: the target takes requests again
  | call.WdfIoTargetStart ↦ success (StartTarget (object_id (object_in c.a)) ∷ [])
]

-- ---- the calls that wait

-- the driver holds no request from queue q
abbrev pub nothing_held : {A : Type 0} → State A → ℕ → Bool
nothing_held S q = held_count S.queues q == 0

-- no request waits for the EvtIoCanceledOnQueue of queue q
abbrev pub nothing_returns : {A : Type 0} → State A → ℕ → Bool
nothing_returns S q = not (list_any (λ (r : Request). is_returning_to q r.place) S.requests.all)

-- whether the wait of call c is over
abbrev pub is_met : {A : Type 0} → State A → Call → Bool
is_met S c = elim c.kind as (λ _. Bool) [
  -- KMDF: the lock is free
  | call.WdfSpinLockAcquire ↦ is_free_lock S.locks (object_lock (object_in c.a))
  -- KMDF: the lock is free
  | call.WdfWaitLockAcquire ↦ is_free_lock S.locks (object_lock (object_in c.a))
  -- KMDF: the lock is free
  | call.WdfInterruptAcquireLock ↦ is_free_lock S.locks (object_lock (object_in c.a))
  -- KMDF: nothing is held from the queue
  | call.WdfIoQueueStopSynchronously ↦ nothing_held S (object_in c.a)
  -- KMDF: nothing waits in it, and nothing is held from it
  | call.WdfIoQueueDrainSynchronously ↦ nothing_held S (object_in c.a) && is_empty_queue S.queues (object_in c.a)
  -- KMDF: nothing is held from it, and nothing returns from it
  | call.WdfIoQueuePurgeSynchronously ↦ nothing_held S (object_in c.a) && nothing_returns S (object_in c.a)
  -- KMDF: no frame runs on it, if that is asked for
  | call.WdfDpcCancel ↦ arg_is c.b 0 || nobody_on S.cpus (object_in c.a)
  -- KMDF: the same
  | call.WdfTimerStop ↦ arg_is c.b 0 || nobody_on S.cpus (object_in c.a)
  -- KMDF: it isn't queued, and no frame runs on it
  | call.WdfWorkItemFlush ↦ not (is_work_queued S.work_items (object_in c.a)) && nobody_on S.cpus (object_in c.a)
  -- KMDF: nothing is sent to the target, unless it is left there
  | call.WdfIoTargetStop ↦ arg_is c.b 2 || nothing_at S (object_in c.a)
  -- the other calls never wait
  | _ ↦ true
]

-- whether a purge of queue q makes a request return to it: one waits there that the driver had before, and q would
-- give it back
abbrev pub purge_returns : {A : Type 0} → Plan → State A → ℕ → Bool
purge_returns plan S q = returns_to plan S q && list_any (λ r. (info_of S.requests r).received) (waiting_in S.queues q)

-- whether the wait of call c is over once its first part is done, said of the state before it
abbrev pub is_met_then : {A : Type 0} → Plan → State A → Call → Bool
is_met_then plan S c = elim c.kind as (λ _. Bool) [
  -- KMDF: its purge makes nothing return either
  | call.WdfIoQueuePurgeSynchronously ↦ is_met S c && not (purge_returns plan S (object_in c.a))
  -- the first part of another call leaves alone what it waits for
  | _ ↦ is_met S c
]

-- what is done when the wait of frame f's call c is over: the lock is the frame's (KMDF)
abbrev pub second_deeds : ℕ → Call → List Deed
second_deeds f c = elim c.kind as (λ _. List Deed) [
  | call.WdfSpinLockAcquire ↦ TakeLock (object_lock (object_in c.a)) (frame_id f) true ∷ []
  | call.WdfWaitLockAcquire ↦ TakeLock (object_lock (object_in c.a)) (frame_id f) true ∷ []
  | call.WdfInterruptAcquireLock ↦ TakeLock (object_lock (object_in c.a)) (frame_id f) true ∷ []
  -- no other call has a second part
  | _ ↦ []
]
