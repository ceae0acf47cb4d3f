-- The faults of a driver: for each a test of what a frame is about to do, in a view of the state. The
-- names are own; the rules are KMDF's, but for the script errors.
use Rattle.std.specs.Prelude.{if◌then◌else◌, ℕ, Bool, true, false, ◌==◌, nat_lt, not, ◌&&◌, ◌||◌, find, Option, Some, None}
use Rattle.wdf_base.specs.declared.ids.Handle.{Handle}
use Rattle.wdf_base.specs.declared.value.Value.TheVariants.{Num, Obj, Stat}
use Rattle.wdf_base.specs.declared.object.Kind.{Kind}
use Rattle.wdf_base.specs.declared.object.Kind.TheVariants as kind
use Rattle.wdf_base.specs.declared.object.Life.{Life}
use Rattle.wdf_base.specs.declared.object.Place.{Place}
use Rattle.wdf_base.specs.declared.object.Mark.{Mark}
use Rattle.wdf_base.specs.declared.object.LockRef.{LockRef}
use Rattle.wdf_base.specs.declared.call.Arg.{Arg}
use Rattle.wdf_base.specs.declared.call.Arg.TheVariants.{Val}
use Rattle.wdf_base.specs.declared.call.Call.{Call}
use Rattle.wdf_base.specs.declared.call.CallKind.{CallKind}
use Rattle.wdf_base.specs.declared.call.CallKind.TheVariants as call
use Rattle.wdf_base.specs.declared.call.Callback.TheVariants as callback
use Rattle.wdf_base.specs.declared.signature.Sort.{Sort}
use Rattle.wdf_base.specs.declared.signature.Sort.TheVariants as sort
use Rattle.wdf_base.specs.declared.signature.CallLevel.{CallLevel}
use Rattle.wdf_base.specs.declared.signature.CallLevel.TheVariants as level
use Rattle.wdf_base.specs.declared.event.Fault.{Fault}
use Rattle.wdf_base.specs.declared.event.Fault.TheVariants as fault
use Rattle.wdf_base.specs.declared.frame.Frame.{Frame}
use Rattle.wdf_base.specs.declared.frame.Intent.{Intent}
use Rattle.wdf_base.specs.declared.frame.Intent.TheVariants as intent
use Rattle.wdf_base.specs.declared.words.TheConstants.{FAULTS}
use Rattle.wdf_base.specs.Calls.{is_acquire, is_release, signature_of}
use Rattle.wdf_base.specs.Same.{same_kind, same_callback, same_call_kind}
use Rattle.wdf_base.specs.Lives.{is_cleaned, is_gone}
use Rattle.wdf_base.specs.Places.{is_due, is_marked, is_owned}
use Rattle.wdf_base.specs.Values.{arg_is}
use Rattle.wdf_model.specs.Tables.{same_id}
use Rattle.wdf_model.specs.parts.Locks.{object_lock}
use Rattle.wdf_model.specs.State.{object_in}

-- what one top frame sees of one state
pub record View : Type 0 where
  -- the frame itself
  pub frame : Frame
  -- its number
  pub number : ℕ
  -- the level of its processor
  pub irql : ℕ
  -- the life of the object with an id
  pub life : ℕ → Life
  -- the kind of the object with an id
  pub kind : ℕ → Kind
  -- how many references the driver holds to an object
  pub references : ℕ → ℕ
  -- the level of an interrupt
  pub level_of : ℕ → ℕ
  -- the scope lock that the callbacks of an object need
  pub scope : ℕ → Option LockRef
  -- the place of a request
  pub place : ℕ → Place
  -- the queue from which a request last came to the driver; none for a made one
  pub origin : ℕ → Option ℕ
  -- whether a request is cancelable, and how far its cancel has come
  pub mark : ℕ → Mark
  -- whether the driver holds a request
  pub held : ℕ → Bool
  -- whether the stop of a request is acknowledged
  pub acknowledged : ℕ → Bool
  -- the number of the frame that holds a lock
  pub holder : LockRef → Option ℕ
  -- whether this frame took a lock by a call
  pub by_call : LockRef → Bool
  -- how many locks this frame took by calls
  pub held_by_call : ℕ
  -- whether the device of a register, by the register's number, has its hardware
  pub hardware : ℕ → Bool

-- ---- arguments

-- a call's row asks for an object where an argument has this sort
abbrev pub is_object_sort : Sort → Bool
is_object_sort sort.AnyObject = true
is_object_sort (sort.ObjectOf k) = true
is_object_sort sort.AnyRequest = true
is_object_sort _ = false

-- an argument of sort s names an object that is gone, or one that is cleaned up where the call may not name such
-- (KMDF)
abbrev pub is_stale : View → Bool → Sort → Arg → Bool
is_stale v cleaned_too s (Val (Obj h)) =
    is_object_sort s && (is_gone (v.life h.id.0) || (is_cleaned (v.life h.id.0) && not cleaned_too))
is_stale v cleaned_too s _ = false

-- an arrived request, or one that the driver made
abbrev pub is_request_kind : Kind → Bool
is_request_kind kind.Request = true
is_request_kind kind.Made = true
is_request_kind _ = false

-- an object of kind k is what sort s asks for; what asks for no kind takes each
abbrev pub has_sort : Kind → Sort → Bool
has_sort k (sort.ObjectOf wanted) = same_kind k wanted
has_sort k sort.AnyRequest = is_request_kind k
has_sort k _ = true

-- an argument of sort s isn't an object of the kind that s asks for; a number is none (KMDF)
abbrev pub is_wrong_kind : View → Sort → Arg → Bool
is_wrong_kind v s (Val (Obj h)) = is_object_sort s && not (has_sort (v.kind h.id.0) s)
is_wrong_kind v s _ = is_object_sort s

-- an argument of sort s, which asks for a status or a number, is of another kind or too great (own)
abbrev pub is_script_error : Sort → Arg → Bool
is_script_error sort.AnyStatus (Val (Stat s)) = false
is_script_error sort.AnyStatus _ = true
is_script_error sort.AnyNumber (Val (Num n)) = false
is_script_error sort.AnyNumber _ = true
is_script_error (sort.UpTo most) (Val (Num n)) = nat_lt most n
is_script_error (sort.UpTo most) _ = true
-- the sorts of objects and classes are judged by other rows
is_script_error _ _ = false

-- a test of sort and argument holds of one of the three arguments of call c
abbrev pub any_argument : (Sort → Arg → Bool) → Call → Bool
any_argument test c =
    test (signature_of c.kind).a c.a || test (signature_of c.kind).b c.b || test (signature_of c.kind).c c.c

-- ---- groups of calls

-- the calls on a request that need it Owned (KMDF)
abbrev pub needs_owned : CallKind → Bool
needs_owned call.WdfRequestComplete = true
needs_owned call.WdfRequestMarkCancelableEx = true
needs_owned call.WdfRequestRequeue = true
needs_owned call.WdfRequestForwardToIoQueue = true
needs_owned call.WdfRequestSend = true
needs_owned _ = false

-- call c is a StopAcknowledge that gives the request back
abbrev pub is_return_at_stop : Call → Bool
is_return_at_stop c = elim c.kind as (λ _. Bool) [
  | call.WdfRequestStopAcknowledge ↦ not (arg_is c.b 0)
  | _ ↦ false
]

-- the calls by which the driver gives up a request (KMDF)
abbrev pub gives_up : Call → Bool
gives_up c = elim c.kind as (λ _. Bool) [
  | call.WdfRequestComplete ↦ true
  | call.WdfRequestRequeue ↦ true
  | call.WdfRequestForwardToIoQueue ↦ true
  | call.WdfRequestSend ↦ true
  | _ ↦ is_return_at_stop c
]

-- the calls that wait for what runs on an object or is held from it; two of them only where their second argument
-- isn't 0
abbrev pub waits_for_others : Call → Bool
waits_for_others c = elim c.kind as (λ _. Bool) [
  | call.WdfIoQueueStopSynchronously ↦ true
  | call.WdfIoQueueDrainSynchronously ↦ true
  | call.WdfIoQueuePurgeSynchronously ↦ true
  | call.WdfWorkItemFlush ↦ true
  | call.WdfDpcCancel ↦ not (arg_is c.b 0)
  | call.WdfTimerStop ↦ not (arg_is c.b 0)
  | _ ↦ false
]

-- ---- levels

-- the greatest level at which call c may be made, by its row (KMDF)
abbrev pub greatest_level : View → Call → CallLevel → ℕ
greatest_level v c (level.AtMost n) = n.0
greatest_level v c level.OfInterrupt = v.level_of (object_in c.a)
-- with the number n as second argument the call doesn't wait
greatest_level v c (level.DispatchIf n) = if arg_is c.b n then 2 else 0

-- ---- who has what

-- request r isn't in the driver's hands as call c needs it: Owned, or at least held (KMDF)
abbrev pub is_not_owned : View → Call → ℕ → Bool
is_not_owned v c r = elim c.kind as (λ _. Bool) [
  | call.WdfRequestStopAcknowledge ↦ not (v.held r) || (is_return_at_stop c && not (is_owned (v.place r)))
  | call.WdfRequestIsCanceled ↦ not (v.held r)
  | _ ↦ needs_owned c.kind && not (is_owned (v.place r))
]

-- a handle is that of request r; no where there is none
abbrev pub is_handle_of : Option Handle → ℕ → Bool
is_handle_of None r = false
is_handle_of (Some h) r = h.id.0 == r

-- this frame is the EvtIoStop of request r, on the queue from which r came
abbrev pub is_stop_of : View → ℕ → Bool
is_stop_of v r = same_callback v.frame.callback callback.EvtIoStop && is_handle_of v.frame.request r && same_id (v.origin r) v.frame.object.id.0

-- this frame holds lock l, by a call or by its start
abbrev pub holds_lock : View → LockRef → Bool
holds_lock v l = same_id (v.holder l) v.number

-- this frame holds lock l; no where there is none
abbrev pub holds_if_any : View → Option LockRef → Bool
holds_if_any v None = false
holds_if_any v (Some l) = holds_lock v l

-- the kinds that only the framework or the system deletes (KMDF)
abbrev pub is_never_deleted : Kind → Bool
is_never_deleted kind.Driver = true
is_never_deleted kind.Device = true
is_never_deleted kind.Queue = true
is_never_deleted kind.Interrupt = true
is_never_deleted kind.Target = true
is_never_deleted kind.Request = true
is_never_deleted _ = false

-- call c is a SendAndForget of a request that the driver made
abbrev pub forgets_made : View → Call → Bool
forgets_made v c =
    same_call_kind c.kind call.WdfRequestSend && arg_is c.c 1 && same_kind (v.kind (object_in c.a)) kind.Made

-- ---- the table: whether a fault's row holds of a call

-- whether the row of fault f holds of call c: the table of faults (KMDF, but for script errors)
abbrev pub call_faults : View → Call → Fault → Bool
-- an object argument is gone, or is cleaned up and the call isn't one that may come then
call_faults v c fault.StaleHandle = any_argument (is_stale v (signature_of c.kind).cleaned) c
-- an argument isn't an object of the needed kind; SendAndForget of a made request
call_faults v c fault.WrongKind = any_argument (is_wrong_kind v) c || forgets_made v c
-- the processor's level is above the call's
call_faults v c fault.IrqlTooHigh = nat_lt (greatest_level v c (signature_of c.kind).level) v.irql
-- the request isn't the driver's, as the call needs it
call_faults v c fault.NotOwned = is_not_owned v c (object_in c.a)
-- a request is given up that is still cancelable
call_faults v c fault.CompleteWhileMarked = gives_up c && is_marked (v.mark (object_in c.a))
-- or whose EvtRequestCancel is due
call_faults v c fault.CompleteBeforeCancelCallback = gives_up c && is_due (v.mark (object_in c.a))
-- a request is marked that is cancelable already
call_faults v c fault.MarkedTwice =
    same_call_kind c.kind call.WdfRequestMarkCancelableEx && (is_marked (v.mark (object_in c.a)) || is_due (v.mark (object_in c.a)))
-- StopAcknowledge outside the request's EvtIoStop, or a second time
call_faults v c fault.AckOutsideStop =
    same_call_kind c.kind call.WdfRequestStopAcknowledge && (not (is_stop_of v (object_in c.a)) || v.acknowledged (object_in c.a))
-- a reference is given up that isn't held
call_faults v c fault.NoReferenceHeld = same_call_kind c.kind call.WdfObjectDereference && v.references (object_in c.a) == 0
-- an object is deleted that isn't the driver's to delete
call_faults v c fault.DeleteNotAllowed = same_call_kind c.kind call.WdfObjectDelete && is_never_deleted (v.kind (object_in c.a))
-- a lock is acquired that this frame holds
call_faults v c fault.LockHeldAlready = is_acquire c.kind && holds_lock v (object_lock (object_in c.a))
-- a release of a lock that this frame didn't acquire by a call
call_faults v c fault.LockNotHeld = is_release c.kind && not (v.by_call (object_lock (object_in c.a)))
-- this is no fault of a call
call_faults v c fault.ReturnHoldingLock = false
-- nor is this
call_faults v c fault.HardwareReleased = false
-- a call waits for what can't end before this frame does
call_faults v c fault.SyncInOwnScope =
    waits_for_others c && (v.frame.object.id.0 == object_in c.a || holds_if_any v (v.scope (object_in c.a)))
-- a number or status argument is none, or too great
call_faults v c fault.ScriptError = any_argument is_script_error c

-- the one fault of a callback's end
abbrev pub is_fault_of_return : Fault → Bool
is_fault_of_return fault.ReturnHoldingLock = true
is_fault_of_return _ = false

-- the one fault of a register's access
abbrev pub is_fault_of_access : Fault → Bool
is_fault_of_access fault.HardwareReleased = true
is_fault_of_access _ = false

-- the one fault of a statement that has no meaning
abbrev pub is_script_fault : Fault → Bool
is_script_fault fault.ScriptError = true
is_script_fault _ = false

-- whether the row of fault f holds of what a frame is about to do
abbrev pub holds_of : View → Intent → Fault → Bool
-- a call, by the table of calls
holds_of v (intent.Do c) f = call_faults v c f
-- the callback would end with a lock acquired by a call
holds_of v (intent.Return value) f = is_fault_of_return f && nat_lt 0 v.held_by_call
-- a register is accessed while its device has no hardware
holds_of v (intent.Get register) f = is_fault_of_access f && not (v.hardware register)
holds_of v (intent.Put register value) f = is_fault_of_access f && not (v.hardware register)
-- own: a statement that isn't a call has a script error
holds_of v intent.Broken f = is_script_fault f
-- the other statements have no fault
holds_of v (intent.Local change next) f = false
holds_of v (intent.Log value) f = false
holds_of v (intent.Spend ticks) f = false

-- the first row that holds of what a frame is about to do, in the order of the table; none where it is allowed
abbrev pub fault_of : View → Intent → Option Fault
fault_of v i = find (holds_of v i) FAULTS
