-- Which events of a run are about an object, which bring it where it is, and in which callback an event came. (own)
use Rattle.std.specs.Prelude.{if◌then◌else◌, ℕ, zero, suc, ◌+◌, ◌-◌, ◌==◌, Bool, true, false, not, ◌&&◌, ◌||◌, List, [], ◌∷◌, ◌++◌, codes, drop, length, Option, Some, None, slice_get}
use Rattle.wdf_base.specs.declared.plan.Plan.{Plan}
use Rattle.wdf_base.specs.declared.ids.Cpu.{Cpu}
use Rattle.wdf_base.specs.declared.ids.Handle.{Handle}
use Rattle.wdf_base.specs.declared.value.Value.{Value}
use Rattle.wdf_base.specs.declared.value.Value.TheVariants.{Obj}
use Rattle.wdf_base.specs.declared.value.Status.TheVariants as status
use Rattle.wdf_base.specs.declared.call.Arg.{Arg}
use Rattle.wdf_base.specs.declared.call.Arg.TheVariants.{Val, Class}
use Rattle.wdf_base.specs.declared.call.Call.{Call}
use Rattle.wdf_base.specs.declared.call.CallKind.{CallKind}
use Rattle.wdf_base.specs.declared.call.CallKind.TheVariants as call
use Rattle.wdf_base.specs.declared.call.Callback.{Callback}
use Rattle.wdf_base.specs.declared.call.Callback.TheVariants as callback
use Rattle.wdf_base.specs.declared.event.Post.{Post}
use Rattle.wdf_base.specs.declared.event.Post.TheVariants as post
use Rattle.wdf_base.specs.declared.event.Action.TheVariants as action
use Rattle.wdf_base.specs.declared.event.Event.{Event}
use Rattle.wdf_base.specs.declared.event.Event.TheVariants as event
use Rattle.wdf_base.specs.Calls.{is_acquire}
use Rattle.wdf_lines.specs.Lines.{line_text}
use Rattle.wdf_explain.specs.declared.asked.Asked.{Asked}
use Rattle.wdf_explain.specs.declared.asked.Asked.TheVariants.{About, Moves, Takes, OnCpu}
use Rattle.wdf_explain.specs.declared.turns.Turn.{Turn}
use Rattle.wdf_explain.specs.declared.turns.Turn.TheVariants as turn
use Rattle.wdf_base.specs.Values.{arg_is, is_one, is_success}

-- ---- what names an object

abbrev pub is_object : ℕ → Handle → Bool
is_object o h = h.id.0 == o

abbrev pub is_if_any : ℕ → Option Handle → Bool
is_if_any o None = false
is_if_any o (Some h) = is_object o h

abbrev pub is_value : ℕ → Value → Bool
is_value o (Obj h) = is_object o h
is_value o _ = false

abbrev pub is_argument : ℕ → Arg → Bool
is_argument o (Val v) = is_value o v
is_argument o (Class c) = false

-- one of the arguments of a call is this object
abbrev pub is_in_call : ℕ → Call → Bool
is_in_call o c = is_argument o c.a || is_argument o c.b || is_argument o c.c

-- what an app, the Plug and Play manager, a device or a target posts names this object
abbrev pub is_in_post : ℕ → Post → Bool
is_in_post o (post.Read d n) = is_object o d
is_in_post o (post.Write d n) = is_object o d
is_in_post o (post.Control d c n) = is_object o d
is_in_post o (post.Cancel k) = false
is_in_post o (post.Ask a d) = is_object o d
is_in_post o (post.Act (action.Set r n)) = false
is_in_post o (post.Act (action.Raise i)) = is_object o i
is_in_post o (post.Act (action.Lower i)) = is_object o i
is_in_post o (post.Done r s) = is_object o r

-- An event is about an object: its line names it.
abbrev pub is_about : ℕ → Event → Bool
is_about o (event.Start cpu c object request) = is_object o object || is_if_any o request
is_about o (event.Did cpu c answer) = is_in_call o c || is_value o answer
is_about o (event.Waiting cpu c) = is_in_call o c
is_about o (event.Woke cpu c answer) = is_in_call o c || is_value o answer
is_about o (event.End cpu c object v) = is_object o object || is_value o v
is_about o (event.Log cpu v) = is_value o v
is_about o (event.Stage d s i) = is_object o d || is_if_any o i
is_about o (event.Complete r s) = is_object o r
is_about o (event.Cleanup object) = is_object o object
is_about o (event.Destroy object) = is_object o object
is_about o (event.Posted agent p answer) = is_in_post o p || is_if_any o answer
is_about o _ = false

-- ---- what brings a request where it is

-- the callbacks whose start gives the driver their request
abbrev pub is_giving : Callback → Bool
is_giving callback.EvtIoRead = true
is_giving callback.EvtIoWrite = true
is_giving callback.EvtIoDeviceControl = true
is_giving callback.EvtIoDefault = true
is_giving callback.EvtIoCanceledOnQueue = true
is_giving callback.EvtRequestCompletion = true
is_giving _ = false

-- a call with this answer moves the request of its first argument
abbrev pub is_moving : CallKind → Arg → Value → Bool
is_moving call.WdfRequestComplete b answer = true
is_moving call.WdfRequestRequeue b answer = true
is_moving call.WdfRequestForwardToIoQueue b answer = is_success answer
is_moving call.WdfRequestStopAcknowledge b answer = not (arg_is b 0)
is_moving call.WdfRequestSend b answer = is_one answer
is_moving _ b answer = false

-- a call whose answer is a request that the driver has from then on
abbrev pub is_getting : CallKind → Bool
is_getting call.WdfIoQueueRetrieveNextRequest = true
is_getting call.WdfRequestCreate = true
is_getting _ = false

-- a post brings a request where it is: it arrives, or its target is done with it
abbrev pub is_moving_post : ℕ → Post → Option Handle → Bool
is_moving_post r (post.Cancel k) answer = false
is_moving_post r (post.Done request s) answer = is_object r request
is_moving_post r _ answer = is_if_any r answer

-- An event brings a request where it is: to a queue, to the driver, to a target, or to its completion.
abbrev pub moves : ℕ → Event → Bool
moves r (event.Start cpu c object request) = is_giving c && is_if_any r request
moves r (event.Did cpu c answer) = (is_moving c.kind c.b answer && is_argument r c.a) || (is_getting c.kind && is_value r answer)
moves r (event.Complete request s) = is_object r request
moves r (event.Posted agent p answer) = is_moving_post r p answer
moves r _ = false

-- An event is a call that took the lock of this object.
abbrev pub takes : ℕ → Event → Bool
takes o (event.Did cpu c answer) = is_acquire c.kind && is_argument o c.a
takes o (event.Woke cpu c answer) = is_acquire c.kind && is_argument o c.a
takes o _ = false

-- ---- where an event comes from

-- the processor of an event, if it has one
abbrev pub cpu_of : Event → Option Cpu
cpu_of (event.Start cpu c object request) = Some cpu
cpu_of (event.Local cpu line) = Some cpu
cpu_of (event.Log cpu v) = Some cpu
cpu_of (event.Spend cpu n) = Some cpu
cpu_of (event.Register cpu a k v) = Some cpu
cpu_of (event.Did cpu c answer) = Some cpu
cpu_of (event.Waiting cpu c) = Some cpu
cpu_of (event.Woke cpu c answer) = Some cpu
cpu_of (event.Park cpu f) = Some cpu
cpu_of (event.Unpark cpu f) = Some cpu
cpu_of (event.End cpu c object v) = Some cpu
cpu_of (event.Fault cpu x line) = Some cpu
cpu_of _ = None

abbrev pub is_cpu : ℕ → Option Cpu → Bool
is_cpu cpu None = false
is_cpu cpu (Some c) = c.0 == cpu

-- ---- numbers of events

-- an event is one that is asked for
abbrev pub is_asked : Asked → Event → Bool
is_asked (About o) e = is_about o.0 e
is_asked (Moves r) e = moves r.0 e
is_asked (Takes o) e = takes o.0 e
is_asked (OnCpu cpu) e = is_cpu cpu.0 (cpu_of e)

abbrev pub number_if : Bool → ℕ → List ℕ
number_if true n = n ∷ []
number_if false n = []

-- The numbers of the events that are asked for, in their order, among events whose numbers begin here.
abbrev pub numbers_from : Asked → ℕ → List Event → List ℕ
numbers_from asked n [] = []
numbers_from asked n (e ∷ es) = number_if (is_asked asked e) n ++ numbers_from asked (n + 1) es

-- the same of a whole run
abbrev pub numbers_of : Asked → List Event → List ℕ
numbers_of asked run = numbers_from asked 1 run

-- how many events are shown
abbrev pub SHOWN : ℕ
SHOWN = 6

-- the last number of a list
abbrev pub last_number : List ℕ → Option ℕ
last_number numbers = slice_get numbers (length numbers - 1)

-- the last numbers of a list, as many as are shown
abbrev pub last_of : List ℕ → List ℕ
last_of numbers = drop (length numbers - SHOWN) numbers

-- the line of an event of a run, two blanks before it
abbrev pub event_if_any : Plan → ℕ → Option Event → List ℕ
event_if_any plan n None = []
event_if_any plan n (Some e) = codes "  " ++ line_text plan n e ++ codes "\n"

-- the lines of the events of a run with these numbers
abbrev pub event_lines : Plan → List Event → List ℕ → List ℕ
event_lines plan run [] = []
event_lines plan run (n ∷ ns) = event_if_any plan n (slice_get run (n - 1)) ++ event_lines plan run ns

-- ---- the callback in which an event came

-- what an event with this number does to the stack of its processor: a frame comes on top, by its number; or the top one goes
abbrev pub own_turn : ℕ → Event → Turn
own_turn n (event.Start c k object request) = turn.Comes n
own_turn n (event.Unpark c f) = turn.Comes f.0
own_turn n (event.End c k object v) = turn.Goes
own_turn n (event.Park c f) = turn.Goes
own_turn n _ = turn.Stays

-- what it does to that of a processor
abbrev pub turn_of : ℕ → ℕ → Event → Turn
turn_of cpu n e = if is_cpu cpu (cpu_of e) then own_turn n e else turn.Stays

abbrev pub turn_if_any : ℕ → ℕ → Option Event → Turn
turn_if_any cpu n None = turn.Stays
turn_if_any cpu n (Some e) = turn_of cpu n e

-- the frame that comes by a turn, where none is to be above it
abbrev pub found : Turn → ℕ → Option ℕ
found (turn.Comes f) depth = if depth == 0 then Some f else None
found _ depth = None

-- how many frames are above it before a turn, where so many are after it
abbrev pub depth_before : Turn → ℕ → ℕ
depth_before (turn.Comes f) depth = depth - 1
depth_before turn.Goes depth = depth + 1
depth_before turn.Stays depth = depth

-- a frame that was found, else another one
abbrev pub or_else : Option ℕ → Option ℕ → Option ℕ
or_else (Some f) other = Some f
or_else None other = other

-- The frame with so many above it on a processor, after the first events of a run, so many: looked for backwards.
abbrev pub frame_under : ℕ → List Event → ℕ → ℕ → Option ℕ
frame_under cpu run zero depth = None
frame_under cpu run (suc n) depth =
    or_else (found (turn_if_any cpu (suc n) (slice_get run n)) depth) (frame_under cpu run n (depth_before (turn_if_any cpu (suc n) (slice_get run n)) depth))

-- the frame of an event with this number, where it has a processor
abbrev pub frame_on : List Event → ℕ → Option Cpu → Option ℕ
frame_on run n None = None
frame_on run n (Some cpu) = frame_under cpu.0 run n 0

abbrev pub frame_if_any : List Event → ℕ → Option Event → Option ℕ
frame_if_any run n None = None
frame_if_any run n (Some e) = frame_on run n (cpu_of e)

-- the frame in which the event with this number came
abbrev pub frame_of : List Event → ℕ → Option ℕ
frame_of run n = frame_if_any run n (slice_get run (n - 1))
