-- The event that the words of a line give, if they give any: each word is taken for what is at its place.
use Rattle.std.specs.Prelude.{if◌then◌else◌, ℕ, ◌==◌, ◌+◌, nat_lt, Bool, true, false, List, length, Option, Some, None, unwrap_or}
use Rattle.wdf_base.specs.declared.plan.Plan.{Plan}
use Rattle.wdf_base.specs.declared.ids.Handle.{Handle}
use Rattle.wdf_base.specs.declared.value.Value.{Value}
use Rattle.wdf_base.specs.declared.value.Value.TheVariants.{Num, Obj, Stat}
use Rattle.wdf_base.specs.declared.value.Status.{Status}
use Rattle.wdf_base.specs.declared.value.Status.TheVariants as status
use Rattle.wdf_base.specs.declared.call.Arg.{Arg}
use Rattle.wdf_base.specs.declared.call.Arg.TheVariants.{Val, Class}
use Rattle.wdf_base.specs.declared.call.Call.{Call}
use Rattle.wdf_base.specs.declared.call.CallKind.{CallKind}
use Rattle.wdf_base.specs.declared.call.CallKind.TheVariants as call
use Rattle.wdf_base.specs.declared.call.Callback.{Callback}
use Rattle.wdf_base.specs.declared.call.Callback.TheVariants as callback
use Rattle.wdf_base.specs.declared.event.Access.TheVariants as access
use Rattle.wdf_base.specs.declared.event.Action.TheVariants as action
use Rattle.wdf_base.specs.declared.event.Ask.{Ask}
use Rattle.wdf_base.specs.declared.event.Ask.TheVariants as ask
use Rattle.wdf_base.specs.declared.event.Stage.{Stage}
use Rattle.wdf_base.specs.declared.event.Stage.TheVariants as stage
use Rattle.wdf_base.specs.declared.event.Fault.{Fault}
use Rattle.wdf_base.specs.declared.event.Fault.TheVariants as fault
use Rattle.wdf_base.specs.declared.event.Post.{Post}
use Rattle.wdf_base.specs.declared.event.Post.TheVariants as post
use Rattle.wdf_base.specs.declared.event.Event.{Event}
use Rattle.wdf_base.specs.declared.event.Event.TheVariants as event
use Rattle.wdf_base.specs.Calls.{signature_of, argument_count}
use Rattle.wdf_base.specs.Words.{status_of, callback_of, call_of, fault_of, stage_of, ask_of}
use Rattle.wdf_trace.specs.declared.verb.Verb.{Verb}
use Rattle.wdf_trace.specs.declared.verb.Verb.TheVariants as verb
use Rattle.wdf_trace.specs.Reading.{word, number_of, short_of, cpu_of, has_dot, object_of, class_of, register_of, agent_of}
use Rattle.wdf_trace.specs.Verbs.{verb_of}

-- ---- values and calls

-- a status, or else a number
abbrev pub status_or_number : Option Status → List ℕ → Value
status_or_number None w = Num (number_of w)
status_or_number (Some s) w = Stat s

-- the value that a word names
abbrev pub value_of : Plan → List ℕ → Value
value_of plan w = if has_dot w then Obj (object_of plan w) else status_or_number (status_of w) w

-- a class, or else a value
abbrev pub class_or_value : Option ℕ → Value → Arg
class_or_value None v = Val v
class_or_value (Some c) v = Class c

-- the argument that a word names; one that isn't taken is the number 0
abbrev pub argument_of : Plan → Bool → List ℕ → Arg
argument_of plan false w = Val (Num 0)
argument_of plan true w = class_or_value (class_of plan w) (value_of plan w)

-- the call of this kind whose arguments a line has
abbrev pub call_with : Plan → CallKind → List (List ℕ) → Call
call_with plan k ws = record {
  kind = k;
  count = argument_count (signature_of k);
  a = argument_of plan (nat_lt 0 (argument_count (signature_of k))) (word 4 ws);
  b = argument_of plan (nat_lt 1 (argument_count (signature_of k))) (word 5 ws);
  c = argument_of plan (nat_lt 2 (argument_count (signature_of k))) (word 6 ws);
}

-- the kind of call of a word
unfoldable pub kind_in : List ℕ → CallKind
kind_in w = unwrap_or (call_of w) call.GetContext

-- the call of a line
abbrev pub call_in : Plan → List (List ℕ) → Call
call_in plan ws = call_with plan (kind_in (word 3 ws)) ws

-- the answer of a line with a call, after its arguments and an arrow
abbrev pub answer_in : Plan → Call → List (List ℕ) → Value
answer_in plan call ws = value_of plan (word (call.count + 5) ws)

-- ---- parts that may be missing

-- the object that a word names, where there is a word
abbrev pub optional_of : Plan → List ℕ → Option Handle
optional_of plan w = if length w == 0 then None else Some (object_of plan w)

-- the answer to a post
abbrev pub answer_of : Plan → List ℕ → Option Handle
answer_of plan w = if has_dot w then Some (object_of plan w) else None

-- ---- events

-- an agent posts
abbrev pub posted_in : Plan → List (List ℕ) → Post → Option Handle → Event
posted_in plan ws p a = event.Posted (agent_of plan (word 1 ws)) p a

-- the Plug and Play manager asks
abbrev pub asked_in : Plan → List (List ℕ) → Ask → Event
asked_in plan ws a = posted_in plan ws (post.Ask a (object_of plan (word 3 ws))) None

-- the callback of a word, if it is one
unfoldable pub callback_named : List ℕ → Option Callback
callback_named w = callback_of w

-- a callback starts, or else a device is asked to start
abbrev pub start_with : Plan → List (List ℕ) → Option Callback → Event
start_with plan ws None = asked_in plan ws ask.Start
start_with plan ws (Some c) = event.Start (cpu_of (word 1 ws)) c (object_of plan (word 4 ws)) (optional_of plan (word 5 ws))

abbrev pub start_in : Plan → List (List ℕ) → Event
start_in plan ws = start_with plan ws (callback_named (word 3 ws))

-- the callback, the fault, the stage and the status of a word
unfoldable pub callback_in : List ℕ → Callback
callback_in w = unwrap_or (callback_of w) callback.EvtIoRead

abbrev pub fault_in : List ℕ → Fault
fault_in w = unwrap_or (fault_of w) fault.ScriptError

abbrev pub stage_in : List ℕ → Stage
stage_in w = unwrap_or (stage_of w) stage.Working

abbrev pub status_in : List ℕ → Status
status_in w = unwrap_or (status_of w) status.Success

-- a callback ends
abbrev pub end_in : Plan → List (List ℕ) → Event
end_in plan ws = event.End (cpu_of (word 1 ws)) (callback_in (word 3 ws)) (object_of plan (word 4 ws)) (value_of plan (word 5 ws))

-- The event of a line with this verb, a row for each verb.
abbrev pub told : Plan → List (List ℕ) → Option Verb → Event
told plan ws None = asked_in plan ws (unwrap_or (ask_of (word 2 ws)) ask.Start)
told plan ws (Some verb.Start) = start_in plan ws
told plan ws (Some verb.Step) = event.Local (cpu_of (word 1 ws)) (short_of (word 3 ws))
told plan ws (Some verb.Log) = event.Log (cpu_of (word 1 ws)) (value_of plan (word 3 ws))
told plan ws (Some verb.Spend) = event.Spend (cpu_of (word 1 ws)) (number_of (word 3 ws))
told plan ws (Some verb.Get) = event.Register (cpu_of (word 1 ws)) access.Read (register_of plan (word 3 ws)) (number_of (word 5 ws))
told plan ws (Some verb.Put) = event.Register (cpu_of (word 1 ws)) access.Write (register_of plan (word 3 ws)) (number_of (word 4 ws))
told plan ws (Some verb.Call) = event.Did (cpu_of (word 1 ws)) (call_in plan ws) (answer_in plan (call_in plan ws) ws)
told plan ws (Some verb.Wait) = event.Waiting (cpu_of (word 1 ws)) (call_in plan ws)
told plan ws (Some verb.Woke) = event.Woke (cpu_of (word 1 ws)) (call_in plan ws) (answer_in plan (call_in plan ws) ws)
told plan ws (Some verb.Park) = event.Park (cpu_of (word 1 ws)) (record { 0 = short_of (word 3 ws) })
told plan ws (Some verb.Unpark) = event.Unpark (cpu_of (word 1 ws)) (record { 0 = short_of (word 3 ws) })
told plan ws (Some verb.End) = end_in plan ws
told plan ws (Some verb.Fault) = event.Fault (cpu_of (word 1 ws)) (fault_in (word 3 ws)) (short_of (word 4 ws))
told plan ws (Some verb.Stage) = event.Stage (object_of plan (word 3 ws)) (stage_in (word 4 ws)) (optional_of plan (word 5 ws))
told plan ws (Some verb.Complete) = event.Complete (object_of plan (word 3 ws)) (status_in (word 4 ws))
told plan ws (Some verb.Cleanup) = event.Cleanup (object_of plan (word 3 ws))
told plan ws (Some verb.Destroy) = event.Destroy (object_of plan (word 3 ws))
told plan ws (Some verb.Read) = posted_in plan ws (post.Read (object_of plan (word 3 ws)) (number_of (word 4 ws))) (answer_of plan (word 6 ws))
told plan ws (Some verb.Write) = posted_in plan ws (post.Write (object_of plan (word 3 ws)) (number_of (word 4 ws))) (answer_of plan (word 6 ws))
told plan ws (Some verb.Control) = posted_in plan ws (post.Control (object_of plan (word 3 ws)) (number_of (word 4 ws)) (number_of (word 5 ws))) (answer_of plan (word 7 ws))
told plan ws (Some verb.Cancel) = posted_in plan ws (post.Cancel (number_of (word 3 ws))) (answer_of plan (word 5 ws))
told plan ws (Some verb.Set) = posted_in plan ws (post.Act (action.Set (register_of plan (word 3 ws)) (number_of (word 4 ws)))) None
told plan ws (Some verb.Raise) = posted_in plan ws (post.Act (action.Raise (object_of plan (word 3 ws)))) None
told plan ws (Some verb.Lower) = posted_in plan ws (post.Act (action.Lower (object_of plan (word 3 ws)))) None
told plan ws (Some verb.Done) = posted_in plan ws (post.Done (object_of plan (word 3 ws)) (status_in (word 4 ws))) None
told plan ws (Some verb.Tick) = event.Tick (number_of (word 3 ws))

-- the event that the words of a line give
abbrev pub event_in : Plan → List (List ℕ) → Event
event_in plan ws = told plan ws (verb_of (word 2 ws))
