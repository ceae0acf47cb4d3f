-- When two values of a plain type are one: exactly where their variants and fields are.
use Rattle.std.specs.Prelude.{Bool, true, false, ℕ, List, Option, Some, None, ◌==◌, ◌&&◌}
use Rattle.std.specs.Bool.{beq}
use Rattle.std.specs.Cmp.Lexicographic.{pointwise}
use Rattle.std.specs.Str.{bytes_eq}
use denote.Enum.Bare.{sameb}
use Rattle.wdf_base.specs.declared.ids.ObjectId.{ObjectId}
use Rattle.wdf_base.specs.declared.ids.Irql.{Irql}
use Rattle.wdf_base.specs.declared.ids.Cpu.{Cpu}
use Rattle.wdf_base.specs.declared.ids.FrameId.{FrameId}
use Rattle.wdf_base.specs.declared.ids.Handle.{Handle}
use Rattle.wdf_base.specs.declared.value.Status.{Status}
use Rattle.wdf_base.specs.declared.value.Value.{Value}
use Rattle.wdf_base.specs.declared.object.Kind.{Kind}
use Rattle.wdf_base.specs.declared.object.Life.{Life}
use Rattle.wdf_base.specs.declared.object.Place.{Place}
use Rattle.wdf_base.specs.declared.object.Mark.{Mark}
use Rattle.wdf_base.specs.declared.object.RequestForm.{RequestForm}
use Rattle.wdf_base.specs.declared.object.LockRef.{LockRef}
use Rattle.wdf_base.specs.declared.object.RequestInfo.{RequestInfo}
use Rattle.wdf_base.specs.declared.call.Callback.{Callback}
use Rattle.wdf_base.specs.declared.call.CallKind.{CallKind}
use Rattle.wdf_base.specs.declared.call.Arg.{Arg}
use Rattle.wdf_base.specs.declared.call.Call.{Call}
use Rattle.wdf_base.specs.declared.event.Actor.{Actor}
use Rattle.wdf_base.specs.declared.event.Ask.{Ask}
use Rattle.wdf_base.specs.declared.event.Stage.{Stage}
use Rattle.wdf_base.specs.declared.event.Step.{Step}
use Rattle.wdf_base.specs.declared.event.Access.{Access}
use Rattle.wdf_base.specs.declared.event.Action.{Action}
use Rattle.wdf_base.specs.declared.event.Post.{Post}
use Rattle.wdf_base.specs.declared.event.Event.{Event}
use Rattle.wdf_base.specs.declared.event.Fault.{Fault}
use Rattle.wdf_base.specs.declared.event.Ending.{Ending}
use Rattle.wdf_base.specs.declared.wait.OpenThing.{OpenThing}
use Rattle.wdf_base.specs.declared.wait.Cause.{Cause}
use Rattle.wdf_base.specs.declared.wait.WaitLine.{WaitLine}
use Rattle.wdf_base.specs.declared.frame.Frame.{Frame}
use Rattle.wdf_base.specs.declared.frame.Pending.{Pending}
use Rattle.wdf_base.specs.declared.frame.Change.{Change}
use Rattle.wdf_base.specs.declared.frame.Intent.{Intent}
use Rattle.wdf_base.specs.declared.value.Value.TheVariants as value
use Rattle.wdf_base.specs.declared.object.Place.TheVariants as place
use Rattle.wdf_base.specs.declared.object.LockRef.TheVariants as lock
use Rattle.wdf_base.specs.declared.call.Arg.TheVariants as arg
use Rattle.wdf_base.specs.declared.event.Step.TheVariants as step
use Rattle.wdf_base.specs.declared.event.Action.TheVariants as action
use Rattle.wdf_base.specs.declared.event.Post.TheVariants as post
use Rattle.wdf_base.specs.declared.event.Event.TheVariants as event
use Rattle.wdf_base.specs.declared.event.Actor.TheVariants as actor
use Rattle.wdf_base.specs.declared.event.Ending.TheVariants as ending
use Rattle.wdf_base.specs.declared.wait.OpenThing.TheVariants as thing
use Rattle.wdf_base.specs.declared.wait.Cause.TheVariants as cause
use Rattle.wdf_base.specs.declared.frame.Change.TheVariants as change
use Rattle.wdf_base.specs.declared.frame.Intent.TheVariants as intent
use Rattle.wdf_base.specs.contracts.value.Status as status
use Rattle.wdf_base.specs.contracts.object.Kind as kind
use Rattle.wdf_base.specs.contracts.object.Life as life
use Rattle.wdf_base.specs.contracts.object.Mark as mark
use Rattle.wdf_base.specs.contracts.object.RequestForm as request_form
use Rattle.wdf_base.specs.contracts.call.Callback as callback
use Rattle.wdf_base.specs.contracts.call.CallKind as call_kind
use Rattle.wdf_base.specs.contracts.event.Ask as ask
use Rattle.wdf_base.specs.contracts.event.Stage as stage
use Rattle.wdf_base.specs.contracts.event.Access as access
use Rattle.wdf_base.specs.contracts.event.Fault as fault

-- ---- numbers, and enums without fields by the place of the variant

-- equal ids of objects
abbrev pub same_object_id : ObjectId → ObjectId → Bool
same_object_id a b = a.0 == b.0

-- equal levels
abbrev pub same_irql : Irql → Irql → Bool
same_irql a b = a.0 == b.0

-- equal numbers of processors
abbrev pub same_cpu : Cpu → Cpu → Bool
same_cpu a b = a.0 == b.0

-- equal numbers of frames
abbrev pub same_frame_id : FrameId → FrameId → Bool
same_frame_id a b = a.0 == b.0

-- equal statuses
abbrev pub same_status : Status → Status → Bool
same_status a b = sameb status.the_type a b

-- equal kinds of objects
abbrev pub same_kind : Kind → Kind → Bool
same_kind a b = sameb kind.the_type a b

-- equal lives of objects
abbrev pub same_life : Life → Life → Bool
same_life a b = sameb life.the_type a b

-- equal marks of requests
abbrev pub same_mark : Mark → Mark → Bool
same_mark a b = sameb mark.the_type a b

-- equal forms of requests: read, write or control
abbrev pub same_request_form : RequestForm → RequestForm → Bool
same_request_form a b = sameb request_form.the_type a b

-- equal callbacks
abbrev pub same_callback : Callback → Callback → Bool
same_callback a b = sameb callback.the_type a b

-- equal framework calls, without their arguments
abbrev pub same_call_kind : CallKind → CallKind → Bool
same_call_kind a b = sameb call_kind.the_type a b

-- equal asks of the Plug and Play manager
abbrev pub same_ask : Ask → Ask → Bool
same_ask a b = sameb ask.the_type a b

-- equal stages
abbrev pub same_stage : Stage → Stage → Bool
same_stage a b = sameb stage.the_type a b

-- equal accesses of a register: a read or a write
abbrev pub same_access : Access → Access → Bool
same_access a b = sameb access.the_type a b

-- equal faults of a driver
abbrev pub same_fault : Fault → Fault → Bool
same_fault a b = sameb fault.the_type a b

-- ---- optional values

-- both are there and equal, or neither is there
abbrev pub same_option : {T : Type 0} → (T → T → Bool) → Option T → Option T → Bool
same_option same (Some a) (Some b) = same a b
same_option same None None = true
same_option same _ _ = false

-- ---- the rest, field by field; names by their bytes

-- equal bytes of names
abbrev pub same_name : List ℕ → List ℕ → Bool
same_name a b = bytes_eq a b

-- equal ids, with equal numbers of names
abbrev pub same_handle : Handle → Handle → Bool
same_handle a b = same_object_id a.id b.id && (a.name == b.name)

-- equal values of scripts: numbers, handles or statuses, of one sort
abbrev pub same_value : Value → Value → Bool
same_value (value.Num a) (value.Num b) = (a == b)
same_value (value.Obj a) (value.Obj b) = same_handle a b
same_value (value.Stat a) (value.Stat b) = same_status a b
same_value _ _ = false

-- equal places of requests, with the queue, the target or the status that a place has
abbrev pub same_place : Place → Place → Bool
same_place (place.Queued a) (place.Queued b) = same_object_id a b
same_place (place.Returning a) (place.Returning b) = same_object_id a b
same_place (place.Closing a) (place.Closing b) = same_status a b
same_place place.Owned place.Owned = true
same_place (place.Sent a) (place.Sent b) = same_object_id a b
same_place place.Done place.Done = true
same_place _ _ = false

-- equal locks: of an object, or of a device's or a queue's scope
abbrev pub same_lock : LockRef → LockRef → Bool
same_lock (lock.Object a) (lock.Object b) = same_object_id a b
same_lock (lock.DeviceScope a) (lock.DeviceScope b) = same_object_id a b
same_lock (lock.QueueScope a) (lock.QueueScope b) = same_object_id a b
same_lock _ _ = false

-- equal in all that is kept of a request beside its place
abbrev pub same_request_info : RequestInfo → RequestInfo → Bool
same_request_info a b = same_object_id a.device b.device && same_request_form a.form b.form && (a.length == b.length) && (a.code == b.code) && same_option same_object_id a.origin b.origin && (a.agent == b.agent) && (a.arrival == b.arrival) && same_mark a.mark b.mark && beq a.cancelled b.cancelled && beq a.received b.received

-- equal arguments of calls: values, or numbers of classes
abbrev pub same_arg : Arg → Arg → Bool
same_arg (arg.Val a) (arg.Val b) = same_value a b
same_arg (arg.Class a) (arg.Class b) = (a == b)
same_arg _ _ = false

-- equal calls with equal arguments
abbrev pub same_call : Call → Call → Bool
same_call a b = same_call_kind a.kind b.kind && (a.count == b.count) && same_arg a.a b.a && same_arg a.b b.b && same_arg a.c b.c

-- equal actors of events
abbrev pub same_actor : Actor → Actor → Bool
same_actor (actor.Cpu a) (actor.Cpu b) = (a == b)
same_actor actor.Framework actor.Framework = true
same_actor (actor.Agent a) (actor.Agent b) = (a == b)
same_actor actor.Clock actor.Clock = true
same_actor _ _ = false

-- equal steps of sequences: a callback that runs or a stage that is passed, each for one interrupt or none
abbrev pub same_step : Step → Step → Bool
same_step (step.Run callback interrupt) (step.Run callback' interrupt') = same_callback callback callback' && same_option same_handle interrupt interrupt'
same_step (step.Pass stage interrupt) (step.Pass stage' interrupt') = same_stage stage stage' && same_option same_handle interrupt interrupt'
same_step _ _ = false

-- equal actions of a device
abbrev pub same_action : Action → Action → Bool
same_action (action.Set register value) (action.Set register' value') = (register == register') && (value == value')
same_action (action.Raise interrupt) (action.Raise interrupt') = same_handle interrupt interrupt'
same_action (action.Lower interrupt) (action.Lower interrupt') = same_handle interrupt interrupt'
same_action _ _ = false

-- equal posts of agents
abbrev pub same_post : Post → Post → Bool
same_post (post.Read device length) (post.Read device' length') = same_handle device device' && (length == length')
same_post (post.Write device length) (post.Write device' length') = same_handle device device' && (length == length')
same_post (post.Control device code length) (post.Control device' code' length') = same_handle device device' && (code == code') && (length == length')
same_post (post.Cancel arrival) (post.Cancel arrival') = (arrival == arrival')
same_post (post.Ask ask device) (post.Ask ask' device') = same_ask ask ask' && same_handle device device'
same_post (post.Act action) (post.Act action') = same_action action action'
same_post (post.Done request status) (post.Done request' status') = same_handle request request' && same_status status status'
same_post _ _ = false

-- equal events: of one kind, and equal in each field
abbrev pub same_event : Event → Event → Bool
same_event (event.Start cpu callback object request) (event.Start cpu' callback' object' request') = same_cpu cpu cpu' && same_callback callback callback' && same_handle object object' && same_option same_handle request request'
same_event (event.Local cpu line) (event.Local cpu' line') = same_cpu cpu cpu' && (line == line')
same_event (event.Log cpu value) (event.Log cpu' value') = same_cpu cpu cpu' && same_value value value'
same_event (event.Spend cpu ticks) (event.Spend cpu' ticks') = same_cpu cpu cpu' && (ticks == ticks')
same_event (event.Register cpu access register value) (event.Register cpu' access' register' value') = same_cpu cpu cpu' && same_access access access' && (register == register') && (value == value')
same_event (event.Did cpu call answer) (event.Did cpu' call' answer') = same_cpu cpu cpu' && same_call call call' && same_value answer answer'
same_event (event.Waiting cpu call) (event.Waiting cpu' call') = same_cpu cpu cpu' && same_call call call'
same_event (event.Woke cpu call answer) (event.Woke cpu' call' answer') = same_cpu cpu cpu' && same_call call call' && same_value answer answer'
same_event (event.Park cpu frame) (event.Park cpu' frame') = same_cpu cpu cpu' && same_frame_id frame frame'
same_event (event.Unpark cpu frame) (event.Unpark cpu' frame') = same_cpu cpu cpu' && same_frame_id frame frame'
same_event (event.End cpu callback object value) (event.End cpu' callback' object' value') = same_cpu cpu cpu' && same_callback callback callback' && same_handle object object' && same_value value value'
same_event (event.Fault cpu fault line) (event.Fault cpu' fault' line') = same_cpu cpu cpu' && same_fault fault fault' && (line == line')
same_event (event.Stage device stage interrupt) (event.Stage device' stage' interrupt') = same_handle device device' && same_stage stage stage' && same_option same_handle interrupt interrupt'
same_event (event.Complete request status) (event.Complete request' status') = same_handle request request' && same_status status status'
same_event (event.Cleanup object) (event.Cleanup object') = same_handle object object'
same_event (event.Destroy object) (event.Destroy object') = same_handle object object'
same_event (event.Posted agent post answer) (event.Posted agent' post' answer') = (agent == agent') && same_post post post' && same_option same_handle answer answer'
same_event (event.Tick time) (event.Tick time') = (time == time')
same_event _ _ = false

-- equal endings of runs
abbrev pub same_ending : Ending → Ending → Bool
same_ending ending.Running ending.Running = true
same_ending ending.Finished ending.Finished = true
same_ending ending.Limit ending.Limit = true
same_ending (ending.Fault a) (ending.Fault b) = same_fault a b
same_ending ending.Stuck ending.Stuck = true
same_ending _ _ = false

-- equal open things of a wait list
abbrev pub same_open_thing : OpenThing → OpenThing → Bool
same_open_thing (thing.Waiting frame callback object) (thing.Waiting frame' callback' object') = same_frame_id frame frame' && same_callback callback callback' && same_handle object object'
same_open_thing (thing.Owned request) (thing.Owned request') = same_handle request request'
same_open_thing (thing.Sent request target) (thing.Sent request' target') = same_handle request request' && same_handle target target'
same_open_thing (thing.Queued request queue) (thing.Queued request' queue') = same_handle request request' && same_handle queue queue'
same_open_thing (thing.Returning request queue) (thing.Returning request' queue') = same_handle request request' && same_handle queue queue'
same_open_thing (thing.Sequence device step) (thing.Sequence device' step') = same_handle device device' && same_step step step'
same_open_thing (thing.Leaving object) (thing.Leaving object') = same_handle object object'
same_open_thing (thing.Deferred object) (thing.Deferred object') = same_handle object object'
same_open_thing (thing.Asking device) (thing.Asking device') = same_handle device device'
same_open_thing _ _ = false

-- equal causes of a wait list
abbrev pub same_cause : Cause → Cause → Bool
same_cause (cause.ByFrame frame) (cause.ByFrame frame') = same_frame_id frame frame'
same_cause (cause.ByLock lock frame) (cause.ByLock lock' frame') = same_handle lock lock' && same_frame_id frame frame'
same_cause (cause.ByRequest request) (cause.ByRequest request') = same_handle request request'
same_cause (cause.ByWork work) (cause.ByWork work') = same_handle work work'
same_cause cause.Stopped cause.Stopped = true
same_cause cause.Unpowered cause.Unpowered = true
same_cause cause.Manual cause.Manual = true
same_cause (cause.Behind request) (cause.Behind request') = same_handle request request'
same_cause cause.Full cause.Full = true
same_cause cause.ScopeHeld cause.ScopeHeld = true
same_cause cause.NoCpu cause.NoCpu = true
same_cause (cause.References count) (cause.References count') = (count == count')
same_cause (cause.ByChild child) (cause.ByChild child') = same_handle child child'
same_cause (cause.AtTarget target) (cause.AtTarget target') = same_handle target target'
same_cause _ _ = false

-- equal lines of a wait list
abbrev pub same_wait_line : WaitLine → WaitLine → Bool
same_wait_line a b = same_open_thing a.thing b.thing && same_option same_cause a.cause b.cause

-- equal calls in which frames wait, with equal answers
abbrev pub same_pending : Pending → Pending → Bool
same_pending a b = same_call a.call b.call && same_value a.answer b.answer

-- equal changes that a statement makes to what a frame keeps
abbrev pub same_change : Change → Change → Bool
same_change (change.Assign variable value) (change.Assign variable' value') = (variable == variable') && same_value value value'
same_change change.Branch change.Branch = true
same_change (change.Count depth left) (change.Count depth' left') = (depth == depth') && (left == left')
same_change _ _ = false

-- equal next steps of scripts
abbrev pub same_intent : Intent → Intent → Bool
same_intent (intent.Local change next) (intent.Local change' next') = same_change change change' && (next == next')
same_intent (intent.Log a) (intent.Log b) = same_value a b
same_intent (intent.Spend a) (intent.Spend b) = (a == b)
same_intent (intent.Get a) (intent.Get b) = (a == b)
same_intent (intent.Put register value) (intent.Put register' value') = (register == register') && (value == value')
same_intent (intent.Do a) (intent.Do b) = same_call a b
same_intent (intent.Return a) (intent.Return b) = same_value a b
same_intent intent.Broken intent.Broken = true
same_intent _ _ = false

-- equal in all that is kept of a frame
abbrev pub same_frame : Frame → Frame → Bool
same_frame a b =
    same_callback a.callback b.callback && same_handle a.object b.object && same_handle a.device b.device && same_option same_handle a.request b.request
    && (a.length == b.length) && (a.code == b.code) && same_status a.status b.status && (a.script == b.script) && (a.at == b.at)
    && pointwise same_value a.variables b.variables && pointwise ◌==◌ a.counters b.counters && (a.until == b.until) && same_option same_pending a.pending b.pending
