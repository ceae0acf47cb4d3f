-- What one event is: which request it brings, completes, takes or gives up, and what it says of an object.
use Rattle.std.specs.Prelude.{if◌then◌else◌, ℕ, Bool, true, false, ◌==◌, not, ◌&&◌, ◌||◌, Option, Some, None}
use Rattle.wdf_base.specs.declared.ids.Handle.{Handle}
use Rattle.wdf_base.specs.declared.plan.Plan.{Plan}
use Rattle.wdf_base.specs.declared.value.Status.TheVariants as status
use Rattle.wdf_base.specs.declared.value.Value.{Value}
use Rattle.wdf_base.specs.declared.value.Value.TheVariants.{Num, Obj, Stat}
use Rattle.wdf_base.specs.declared.rank.Rank.{Rank}
use Rattle.wdf_base.specs.declared.rank.Rank.TheVariants as rank
use Rattle.wdf_base.specs.declared.call.Arg.{Arg}
use Rattle.wdf_base.specs.declared.call.Arg.TheVariants.{Val, Class}
use Rattle.wdf_base.specs.declared.call.Call.{Call}
use Rattle.wdf_base.specs.declared.call.CallKind.{CallKind}
use Rattle.wdf_base.specs.declared.call.CallKind.TheVariants as call
use Rattle.wdf_base.specs.declared.call.Callback.{Callback}
use Rattle.wdf_base.specs.declared.call.Callback.TheVariants as callback
use Rattle.wdf_base.specs.declared.event.Stage.{Stage}
use Rattle.wdf_base.specs.declared.event.Post.{Post}
use Rattle.wdf_base.specs.declared.event.Post.TheVariants as post
use Rattle.wdf_base.specs.declared.event.Event.{Event}
use Rattle.wdf_base.specs.declared.event.Event.TheVariants as event
use Rattle.wdf_base.specs.Callbacks.{row_of}
use Rattle.wdf_base.specs.Same.{same_callback, same_call_kind, same_stage}
use Rattle.wdf_model.specs.Plans.{parent_of_class}
use Rattle.wdf_laws.specs.declared.sign.Taking.{Taking}
use Rattle.wdf_laws.specs.declared.sign.Told.{Told}
use Rattle.wdf_base.specs.Values.{arg_is, is_one, is_success}

-- ---- ids

-- an id is this one
abbrev pub is_id : ℕ → Option ℕ → Bool
is_id x None = false
is_id x (Some y) = y == x

-- the id of a handle that is there
abbrev pub id_in : Option Handle → Option ℕ
id_in None = None
id_in (Some h) = Some h.id.0

-- the object that a value names
abbrev pub value_object : Value → Option ℕ
value_object (Obj h) = Some h.id.0
value_object (Num n) = None
value_object (Stat s) = None

-- the object that an argument names
abbrev pub argument_object : Arg → Option ℕ
argument_object (Val v) = value_object v
argument_object (Class c) = None

-- what there is where a test holds
abbrev pub where_so : Bool → Option ℕ → Option ℕ
where_so true x = x
where_so false x = None

-- ---- calls, callbacks, stages

-- the first argument's object, where an event is this call, made and answered
abbrev pub called : CallKind → Event → Option ℕ
called k (event.Did cpu c answer) = where_so (same_call_kind c.kind k) (argument_object c.a)
called k _ = None

-- the same, where the answer is SUCCESS
abbrev pub called_well : CallKind → Event → Option ℕ
called_well k (event.Did cpu c answer) = where_so (same_call_kind c.kind k && is_success answer) (argument_object c.a)
called_well k _ = None

-- the object on which this callback begins
abbrev pub begun_on : Callback → Event → Option ℕ
begun_on k (event.Start cpu c object request) = where_so (same_callback c k) (Some object.id.0)
begun_on k _ = None

-- the request for which this callback begins
abbrev pub begun_for : Callback → Event → Option ℕ
begun_for k (event.Start cpu c object request) = where_so (same_callback c k) (id_in request)
begun_for k _ = None

-- the object on which this callback ends, with SUCCESS or not
abbrev pub ended_on : Callback → Bool → Event → Option ℕ
ended_on k well (event.End cpu c object answer) = where_so (same_callback c k && (if well then is_success answer else not (is_success answer))) (Some object.id.0)
ended_on k well _ = None

-- the device that passes this stage
abbrev pub passed : Stage → Event → Option ℕ
passed k (event.Stage device s interrupt) = where_so (same_stage s k) (Some device.id.0)
passed k _ = None

-- the interrupt for which a device passes this stage
abbrev pub passed_for : Stage → Event → Option ℕ
passed_for k (event.Stage device s interrupt) = where_so (same_stage s k) (id_in interrupt)
passed_for k _ = None

-- ---- requests

-- the device for which a post brings a request
abbrev pub brought_to : Post → Option ℕ
brought_to (post.Read device length) = Some device.id.0
brought_to (post.Write device length) = Some device.id.0
brought_to (post.Control device code length) = Some device.id.0
brought_to _ = None

abbrev pub is_there : Option ℕ → Bool
is_there None = false
is_there (Some x) = true

-- the request that arrives
abbrev pub arrived : Event → Option ℕ
arrived (event.Posted agent p answer) = where_so (is_there (brought_to p)) (id_in answer)
arrived _ = None

-- the device to which a read, a write or a control is posted, whatever the answer
abbrev pub arrived_at : Event → Option ℕ
arrived_at (event.Posted agent p answer) = brought_to p
arrived_at _ = None

-- the request whose cancel is posted
abbrev pub cancelled_in : Post → Option Handle → Option ℕ
cancelled_in (post.Cancel arrival) answer = id_in answer
cancelled_in _ answer = None

abbrev pub cancel_posted : Event → Option ℕ
cancel_posted (event.Posted agent p answer) = cancelled_in p answer
cancel_posted _ = None

-- a completion: the driver's call, or the framework
abbrev pub completed : Event → Option ℕ
completed (event.Did cpu c answer) = where_so (same_call_kind c.kind call.WdfRequestComplete) (argument_object c.a)
completed (event.Complete request s) = Some request.id.0
completed _ = None

abbrev pub is_handler : Rank → Bool
is_handler rank.Handler = true
is_handler _ = false

-- a request of a queue, where both are there
abbrev pub pair_of : Option ℕ → Option ℕ → Option Taking
pair_of (Some r) (Some q) = Some (record { request = r; queue = q })
pair_of _ _ = None

-- A presentation: a handler begins on a queue with a request, or the driver retrieves a request from the queue.
abbrev pub presented : Event → Option Taking
presented (event.Start cpu c object request) = pair_of (where_so (is_handler (row_of c).rank) (id_in request)) (Some object.id.0)
presented (event.Did cpu c answer) = pair_of (where_so (same_call_kind c.kind call.WdfIoQueueRetrieveNextRequest) (value_object answer)) (argument_object c.a)
presented _ = None

-- A taking: a presentation, or EvtIoCanceledOnQueue begins on the queue with the request.
abbrev pub taken : Event → Option Taking
taken (event.Start cpu c object request) = pair_of (where_so (is_handler (row_of c).rank || same_callback c callback.EvtIoCanceledOnQueue) (id_in request)) (Some object.id.0)
taken (event.Did cpu c answer) = presented (event.Did cpu c answer)
taken _ = None

-- the driver's call gives its request up: it completes it, requeues it, forwards it well, gives it back at a stop, or
-- sends and forgets it
abbrev pub is_giving_up : Call → Value → Bool
is_giving_up c answer = elim c.kind as (λ _. Bool) [
  | call.WdfRequestComplete ↦ true
  | call.WdfRequestRequeue ↦ true
  | call.WdfRequestForwardToIoQueue ↦ is_success answer
  | call.WdfRequestStopAcknowledge ↦ not (arg_is c.b 0)
  | call.WdfRequestSend ↦ arg_is c.c 1 && is_one answer
  | _ ↦ false
]

-- a giving up: such a call, or the framework's completion
abbrev pub given_up : Event → Option ℕ
given_up (event.Did cpu c answer) = where_so (is_giving_up c answer) (argument_object c.a)
given_up (event.Complete request s) = Some request.id.0
given_up _ = None

-- the driver's call puts its request at the head of a queue
abbrev pub is_heading : Call → Bool
is_heading c = elim c.kind as (λ _. Bool) [
  | call.WdfRequestRequeue ↦ true
  | call.WdfRequestStopAcknowledge ↦ not (arg_is c.b 0)
  | _ ↦ false
]

-- the request that enters a queue at its head
abbrev pub headed : Event → Option ℕ
headed (event.Did cpu c answer) = where_so (is_heading c) (argument_object c.a)
headed _ = None

-- the request that enters a queue at its tail: it arrives, or is forwarded well
abbrev pub tailed : Event → Option ℕ
tailed (event.Did cpu c answer) = where_so (same_call_kind c.kind call.WdfRequestForwardToIoQueue && is_success answer) (argument_object c.a)
tailed (event.Posted agent p answer) = where_so (is_there (brought_to p)) (id_in answer)
tailed _ = None

-- the request that is acknowledged at a stop and kept
abbrev pub acknowledged : Event → Option ℕ
acknowledged (event.Did cpu c answer) = where_so (same_call_kind c.kind call.WdfRequestStopAcknowledge && arg_is c.b 0) (argument_object c.a)
acknowledged _ = None

-- the request whose mark is undone: it is unmarked well, given up, or sent
abbrev pub is_undoing : Call → Value → Bool
is_undoing c answer = elim c.kind as (λ _. Bool) [
  | call.WdfRequestUnmarkCancelable ↦ is_success answer
  | call.WdfRequestSend ↦ is_one answer
  | _ ↦ is_giving_up c answer
]

abbrev pub mark_undone : Event → Option ℕ
mark_undone (event.Did cpu c answer) = where_so (is_undoing c answer) (argument_object c.a)
mark_undone (event.Complete request s) = Some request.id.0
mark_undone _ = None

-- ---- objects

-- the object whose cleanup an event is
abbrev pub cleaned : Event → Option ℕ
cleaned (event.Cleanup object) = Some object.id.0
cleaned _ = None

-- the object whose end an event is
abbrev pub destroyed : Event → Option ℕ
destroyed (event.Destroy object) = Some object.id.0
destroyed _ = None

-- what is told of an object that is there
abbrev pub told_of : ℕ → Option ℕ → Option ℕ → Option Told
told_of parent class None = None
told_of parent class (Some o) = Some (record { object = o; parent = parent; class = class })

-- 0 for no object
abbrev pub or_none : Option ℕ → ℕ
or_none None = 0
or_none (Some o) = o

-- the call makes an object of a class, under the parent that the class names
abbrev pub is_made_under_class : CallKind → Bool
is_made_under_class call.WdfDpcCreate = true
is_made_under_class call.WdfTimerCreate = true
is_made_under_class call.WdfWorkItemCreate = true
is_made_under_class _ = false

-- the call makes an object of a class, under the parent that it names
abbrev pub is_made_under_argument : CallKind → Bool
is_made_under_argument call.WdfObjectCreate = true
is_made_under_argument call.WdfSpinLockCreate = true
is_made_under_argument call.WdfWaitLockCreate = true
is_made_under_argument call.WdfRequestCreate = true
is_made_under_argument _ = false

-- what the answer of a create call says of the new object
abbrev pub told_by_call : Plan → CallKind → Arg → Arg → Value → Option Told
told_by_call plan k (Val v) b answer = None
told_by_call plan k (Class c) b answer =
    if is_made_under_class k then told_of (parent_of_class plan c) (Some c) (value_object answer)
    else if is_made_under_argument k then told_of (or_none (argument_object b)) (Some c) (value_object answer)
    else None

-- what an event says of an object: an arrival, or the answer of a create call
abbrev pub told : Plan → Event → Option Told
told plan (event.Posted agent p answer) = told_of (or_none (brought_to p)) None (where_so (is_there (brought_to p)) (id_in answer))
told plan (event.Did cpu c answer) = told_by_call plan c.kind c.a c.b answer
told plan _ = None
