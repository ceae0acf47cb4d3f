-- Worked runs: the plan of each, its events, and what it waits for where it is stuck. Made by
-- tools/scene_to_plan.py from the scenarios and traces of tools/stack.
use Rattle.std.specs.Prelude.{List, [], ◌∷◌, Some, None, true, false, codes}
use Rattle.wdf_base.specs.declared.declared.Declared.TheVariants as declared
use Rattle.wdf_base.specs.declared.declared.Scope.TheVariants as scope
use Rattle.wdf_base.specs.declared.declared.ExecutionLevel.TheVariants as level
use Rattle.wdf_base.specs.declared.declared.DispatchKind.TheVariants as dispatch
use Rattle.wdf_base.specs.declared.event.Ask.TheVariants as ask
use Rattle.wdf_base.specs.declared.event.Post.TheVariants as post
use Rattle.wdf_base.specs.declared.event.Stage.TheVariants as stage
use Rattle.wdf_base.specs.declared.event.Event.{Event}
use Rattle.wdf_base.specs.declared.event.Event.TheVariants as event
use Rattle.wdf_base.specs.declared.script.ExprNode.TheVariants as node
use Rattle.wdf_base.specs.declared.script.ContextWord.TheVariants as context
use Rattle.wdf_base.specs.declared.script.Operator.TheVariants as operator
use Rattle.wdf_base.specs.declared.script.ArgNode.TheVariants as arg
use Rattle.wdf_base.specs.declared.script.Act.TheVariants as act
use Rattle.wdf_base.specs.declared.call.Arg.TheVariants.{Val}
use Rattle.wdf_base.specs.declared.call.CallKind.TheVariants as call
use Rattle.wdf_base.specs.declared.call.Callback.TheVariants as callback
use Rattle.wdf_base.specs.declared.value.Status.TheVariants as status
use Rattle.wdf_base.specs.declared.value.Value.TheVariants.{Num, Obj, Stat}
use Rattle.wdf_base.specs.declared.plan.Plan.{Plan}
use Rattle.wdf_base.specs.declared.wait.OpenThing.TheVariants as thing
use Rattle.wdf_base.specs.declared.wait.Cause.TheVariants as cause
use Rattle.wdf_base.specs.declared.wait.WaitLine.{WaitLine}
use Rattle.law_machine_worked.specs.Writing.{h, p, c, at, s, line, a_plan, a_device, a_queue, serves, a_target, an_agent, a_script}

abbrev pub a_query_is_refused_plan : Plan
a_query_is_refused_plan = record (a_plan 1 200 32) {
  names = (codes "driver") ∷ (codes "req") ∷ (codes "D") ∷ (codes "Q") ∷ (codes "TO_E") ∷ (codes "E") ∷ (codes "R") ∷ (codes "TO_F") ∷ (codes "F") ∷ (codes "S") ∷ [];
  declared = declared.Driver
      ∷ a_device 2 false scope.Unscoped level.Dispatch
      ∷ a_queue 3 2 dispatch.Sequential (serves true false false false) true false scope.Unscoped level.Dispatch
      ∷ a_target 4 2 0 status.Success 4
      ∷ a_device 5 false scope.Unscoped level.Dispatch
      ∷ a_queue 6 5 dispatch.Sequential (serves true false false false) true false scope.Unscoped level.Dispatch
      ∷ a_target 7 5 0 status.Success 4
      ∷ a_device 8 false scope.Unscoped level.Dispatch
      ∷ a_queue 9 8 dispatch.Sequential (serves true false false false) true false scope.Unscoped level.Dispatch
      ∷ [];
  pnp = (at 42 0 (post.Ask ask.Start (h 8 8))) ∷ (at 43 0 (post.Ask ask.Remove (h 8 8))) ∷ (at 44 0 (post.Ask ask.Sleep (h 2 2))) ∷ [];
  agents = (an_agent 2 []) ∷ (an_agent 5 []) ∷ (an_agent 8 []) ∷ (an_agent 4 []) ∷ (an_agent 7 []) ∷ [];
  exprs = (node.Context context.OwnRequest) ∷ (node.Object (h 4 4)) ∷ (node.Number 0) ∷ (node.Context context.OwnRequest) ∷ (node.Context context.CompletionStatus) ∷ (node.Literal status.Unsuccessful) ∷ (node.Context context.OwnRequest) ∷ (node.Object (h 7 7)) ∷ (node.Number 0) ∷ (node.Context context.OwnRequest) ∷ (node.Context context.CompletionStatus) ∷ (node.Context context.OwnRequest) ∷ (node.Literal status.Success) ∷ [];
  scripts = a_script callback.EvtIoRead (a_queue 3 2 dispatch.Sequential (serves true false false false) true false scope.Unscoped level.Dispatch) 7 (s 8 1 (act.Call call.WdfRequestSend None (arg.Expression 0) (arg.Expression 1) (arg.Expression 2)) ∷ [])
      ∷ a_script callback.EvtRequestCompletion (a_target 4 2 0 status.Success 4) 12 (s 13 1 (act.Call call.WdfRequestComplete None (arg.Expression 3) (arg.Expression 4) arg.NoArgument) ∷ [])
      ∷ a_script callback.EvtDeviceQueryRemove (a_device 5 false scope.Unscoped level.Dispatch) 18 (s 19 1 (act.Return 5) ∷ [])
      ∷ a_script callback.EvtIoRead (a_queue 6 5 dispatch.Sequential (serves true false false false) true false scope.Unscoped level.Dispatch) 23 (s 24 1 (act.Call call.WdfRequestSend None (arg.Expression 6) (arg.Expression 7) (arg.Expression 8)) ∷ [])
      ∷ a_script callback.EvtRequestCompletion (a_target 7 5 0 status.Success 4) 28 (s 29 1 (act.Call call.WdfRequestComplete None (arg.Expression 9) (arg.Expression 10) arg.NoArgument) ∷ [])
      ∷ a_script callback.EvtIoRead (a_queue 9 8 dispatch.Sequential (serves true false false false) true false scope.Unscoped level.Dispatch) 36 (s 37 1 (act.Call call.WdfRequestComplete None (arg.Expression 11) (arg.Expression 12) arg.NoArgument) ∷ [])
      ∷ [];
}

abbrev pub a_query_is_refused_events : List Event
a_query_is_refused_events = event.Posted 0 (post.Ask ask.Start (h 8 8)) None
    ∷ event.Stage (h 8 8) stage.Hardware None
    ∷ event.Stage (h 8 8) stage.QueuesUp None
    ∷ event.Stage (h 8 8) stage.Working None
    ∷ event.Posted 0 (post.Ask ask.Start (h 5 5)) None
    ∷ event.Stage (h 5 5) stage.Hardware None
    ∷ event.Stage (h 5 5) stage.QueuesUp None
    ∷ event.Stage (h 5 5) stage.Working None
    ∷ event.Posted 0 (post.Ask ask.Start (h 2 2)) None
    ∷ event.Stage (h 2 2) stage.Hardware None
    ∷ event.Stage (h 2 2) stage.QueuesUp None
    ∷ event.Stage (h 2 2) stage.Working None
    ∷ event.Posted 0 (post.Ask ask.Remove (h 2 2)) None
    ∷ event.Stage (h 2 2) stage.QueuesDown None
    ∷ event.Stage (h 2 2) stage.Settled None
    ∷ event.Stage (h 2 2) stage.NoHardware None
    ∷ event.Stage (h 2 2) stage.Closed None
    ∷ event.Stage (h 2 2) stage.Removed None
    ∷ event.Cleanup (h 4 4)
    ∷ event.Cleanup (h 3 3)
    ∷ event.Cleanup (h 2 2)
    ∷ event.Destroy (h 3 3)
    ∷ event.Destroy (h 4 4)
    ∷ event.Destroy (h 2 2)
    ∷ event.Posted 0 (post.Ask ask.Remove (h 5 5)) None
    ∷ event.Start (p 0) callback.EvtDeviceQueryRemove (h 5 5) None
    ∷ event.End (p 0) callback.EvtDeviceQueryRemove (h 5 5) (Stat status.Unsuccessful)
    ∷ event.Posted 0 (post.Ask ask.Sleep (h 2 2)) None
    ∷ event.Posted 0 (post.Ask ask.Sleep (h 5 5)) None
    ∷ event.Stage (h 5 5) stage.QueuesDown None
    ∷ event.Stage (h 5 5) stage.Settled None
    ∷ event.Stage (h 5 5) stage.Sleeping None
    ∷ event.Posted 0 (post.Ask ask.Sleep (h 8 8)) None
    ∷ event.Stage (h 8 8) stage.QueuesDown None
    ∷ event.Stage (h 8 8) stage.Settled None
    ∷ event.Stage (h 8 8) stage.Sleeping None
    ∷ []

abbrev pub sleeps_and_wakes_plan : Plan
sleeps_and_wakes_plan = record (a_plan 1 200 32) {
  names = (codes "driver") ∷ (codes "req") ∷ (codes "D") ∷ (codes "Q") ∷ (codes "TO_E") ∷ (codes "E") ∷ (codes "R") ∷ (codes "TO_F") ∷ (codes "F") ∷ (codes "S") ∷ (codes "A") ∷ [];
  declared = declared.Driver
      ∷ a_device 2 false scope.Unscoped level.Dispatch
      ∷ a_queue 3 2 dispatch.Sequential (serves true false false false) true false scope.Unscoped level.Dispatch
      ∷ a_target 4 2 0 status.Success 4
      ∷ a_device 5 false scope.Unscoped level.Dispatch
      ∷ a_queue 6 5 dispatch.Sequential (serves true false false false) true false scope.Unscoped level.Dispatch
      ∷ a_target 7 5 0 status.Success 4
      ∷ a_device 8 false scope.Unscoped level.Dispatch
      ∷ a_queue 9 8 dispatch.Sequential (serves true false false false) true false scope.Unscoped level.Dispatch
      ∷ [];
  pnp = (at 42 0 (post.Ask ask.Start (h 2 2))) ∷ (at 43 1 (post.Ask ask.Sleep (h 5 5))) ∷ (at 44 3 (post.Ask ask.Wake (h 8 8))) ∷ [];
  agents = (an_agent 10 ((at 39 2 (post.Read (h 2 2) 16)) ∷ [])) ∷ (an_agent 2 []) ∷ (an_agent 5 []) ∷ (an_agent 8 []) ∷ (an_agent 4 []) ∷ (an_agent 7 []) ∷ [];
  exprs = (node.Context context.OwnRequest) ∷ (node.Object (h 4 4)) ∷ (node.Number 0) ∷ (node.Context context.OwnRequest) ∷ (node.Context context.CompletionStatus) ∷ (node.Context context.OwnRequest) ∷ (node.Object (h 7 7)) ∷ (node.Number 0) ∷ (node.Context context.OwnRequest) ∷ (node.Context context.CompletionStatus) ∷ (node.Context context.OwnRequest) ∷ (node.Literal status.Success) ∷ [];
  scripts = a_script callback.EvtIoRead (a_queue 3 2 dispatch.Sequential (serves true false false false) true false scope.Unscoped level.Dispatch) 7 (s 8 1 (act.Call call.WdfRequestSend None (arg.Expression 0) (arg.Expression 1) (arg.Expression 2)) ∷ [])
      ∷ a_script callback.EvtRequestCompletion (a_target 4 2 0 status.Success 4) 12 (s 13 1 (act.Call call.WdfRequestComplete None (arg.Expression 3) (arg.Expression 4) arg.NoArgument) ∷ [])
      ∷ a_script callback.EvtIoRead (a_queue 6 5 dispatch.Sequential (serves true false false false) true false scope.Unscoped level.Dispatch) 20 (s 21 1 (act.Call call.WdfRequestSend None (arg.Expression 5) (arg.Expression 6) (arg.Expression 7)) ∷ [])
      ∷ a_script callback.EvtRequestCompletion (a_target 7 5 0 status.Success 4) 25 (s 26 1 (act.Call call.WdfRequestComplete None (arg.Expression 8) (arg.Expression 9) arg.NoArgument) ∷ [])
      ∷ a_script callback.EvtIoRead (a_queue 9 8 dispatch.Sequential (serves true false false false) true false scope.Unscoped level.Dispatch) 33 (s 34 1 (act.Call call.WdfRequestComplete None (arg.Expression 10) (arg.Expression 11) arg.NoArgument) ∷ [])
      ∷ [];
}

abbrev pub sleeps_and_wakes_events : List Event
sleeps_and_wakes_events = event.Posted 0 (post.Ask ask.Start (h 8 8)) None
    ∷ event.Stage (h 8 8) stage.Hardware None
    ∷ event.Stage (h 8 8) stage.QueuesUp None
    ∷ event.Stage (h 8 8) stage.Working None
    ∷ event.Posted 0 (post.Ask ask.Start (h 5 5)) None
    ∷ event.Stage (h 5 5) stage.Hardware None
    ∷ event.Stage (h 5 5) stage.QueuesUp None
    ∷ event.Stage (h 5 5) stage.Working None
    ∷ event.Posted 0 (post.Ask ask.Start (h 2 2)) None
    ∷ event.Stage (h 2 2) stage.Hardware None
    ∷ event.Stage (h 2 2) stage.QueuesUp None
    ∷ event.Stage (h 2 2) stage.Working None
    ∷ event.Tick 1
    ∷ event.Posted 0 (post.Ask ask.Sleep (h 2 2)) None
    ∷ event.Stage (h 2 2) stage.QueuesDown None
    ∷ event.Stage (h 2 2) stage.Settled None
    ∷ event.Stage (h 2 2) stage.Sleeping None
    ∷ event.Posted 0 (post.Ask ask.Sleep (h 5 5)) None
    ∷ event.Stage (h 5 5) stage.QueuesDown None
    ∷ event.Stage (h 5 5) stage.Settled None
    ∷ event.Stage (h 5 5) stage.Sleeping None
    ∷ event.Posted 0 (post.Ask ask.Sleep (h 8 8)) None
    ∷ event.Stage (h 8 8) stage.QueuesDown None
    ∷ event.Stage (h 8 8) stage.Settled None
    ∷ event.Stage (h 8 8) stage.Sleeping None
    ∷ event.Tick 2
    ∷ event.Posted 1 (post.Read (h 2 2) 16) (Some (h 10 1))
    ∷ event.Tick 3
    ∷ event.Posted 0 (post.Ask ask.Wake (h 8 8)) None
    ∷ event.Stage (h 8 8) stage.QueuesUp None
    ∷ event.Stage (h 8 8) stage.Working None
    ∷ event.Posted 0 (post.Ask ask.Wake (h 5 5)) None
    ∷ event.Stage (h 5 5) stage.QueuesUp None
    ∷ event.Stage (h 5 5) stage.Working None
    ∷ event.Posted 0 (post.Ask ask.Wake (h 2 2)) None
    ∷ event.Stage (h 2 2) stage.QueuesUp None
    ∷ event.Start (p 0) callback.EvtIoRead (h 3 3) (Some (h 10 1))
    ∷ event.Did (p 0) (c call.WdfRequestSend 3 (Val (Obj (h 10 1))) (Val (Obj (h 4 4))) (Val (Num 0))) (Num 1)
    ∷ event.End (p 0) callback.EvtIoRead (h 3 3) (Stat status.Success)
    ∷ event.Stage (h 2 2) stage.Working None
    ∷ event.Posted 5 (post.Read (h 5 5) 16) (Some (h 11 1))
    ∷ event.Start (p 0) callback.EvtIoRead (h 6 6) (Some (h 11 1))
    ∷ event.Did (p 0) (c call.WdfRequestSend 3 (Val (Obj (h 11 1))) (Val (Obj (h 7 7))) (Val (Num 0))) (Num 1)
    ∷ event.End (p 0) callback.EvtIoRead (h 6 6) (Stat status.Success)
    ∷ event.Posted 6 (post.Read (h 8 8) 16) (Some (h 12 1))
    ∷ event.Start (p 0) callback.EvtIoRead (h 9 9) (Some (h 12 1))
    ∷ event.Did (p 0) (c call.WdfRequestComplete 2 (Val (Obj (h 12 1))) (Val (Stat status.Success)) (Val (Num 0))) (Stat status.Success)
    ∷ event.End (p 0) callback.EvtIoRead (h 9 9) (Stat status.Success)
    ∷ event.Cleanup (h 12 1)
    ∷ event.Destroy (h 12 1)
    ∷ event.Posted 6 (post.Done (h 11 1) status.Success) None
    ∷ event.Start (p 0) callback.EvtRequestCompletion (h 7 7) (Some (h 11 1))
    ∷ event.Did (p 0) (c call.WdfRequestComplete 2 (Val (Obj (h 11 1))) (Val (Stat status.Success)) (Val (Num 0))) (Stat status.Success)
    ∷ event.End (p 0) callback.EvtRequestCompletion (h 7 7) (Stat status.Success)
    ∷ event.Cleanup (h 11 1)
    ∷ event.Destroy (h 11 1)
    ∷ event.Posted 5 (post.Done (h 10 1) status.Success) None
    ∷ event.Start (p 0) callback.EvtRequestCompletion (h 4 4) (Some (h 10 1))
    ∷ event.Did (p 0) (c call.WdfRequestComplete 2 (Val (Obj (h 10 1))) (Val (Stat status.Success)) (Val (Num 0))) (Stat status.Success)
    ∷ event.End (p 0) callback.EvtRequestCompletion (h 4 4) (Stat status.Success)
    ∷ event.Cleanup (h 10 1)
    ∷ event.Destroy (h 10 1)
    ∷ []

abbrev pub starts_from_the_bottom_plan : Plan
starts_from_the_bottom_plan = record (a_plan 1 100 16) {
  names = (codes "driver") ∷ (codes "req") ∷ (codes "D") ∷ (codes "TO_E") ∷ (codes "E") ∷ [];
  declared = declared.Driver
      ∷ a_device 2 false scope.Unscoped level.Dispatch
      ∷ a_target 3 2 0 status.Success 4
      ∷ a_device 4 false scope.Unscoped level.Dispatch
      ∷ [];
  pnp = (at 13 0 (post.Ask ask.Start (h 2 2))) ∷ [];
  agents = (an_agent 2 []) ∷ (an_agent 4 []) ∷ (an_agent 3 []) ∷ [];
  scripts = a_script callback.EvtRequestCompletion (a_target 3 2 0 status.Success 4) 6 []
      ∷ [];
}

abbrev pub starts_from_the_bottom_events : List Event
starts_from_the_bottom_events = event.Posted 0 (post.Ask ask.Start (h 4 4)) None
    ∷ event.Stage (h 4 4) stage.Hardware None
    ∷ event.Stage (h 4 4) stage.QueuesUp None
    ∷ event.Stage (h 4 4) stage.Working None
    ∷ event.Posted 0 (post.Ask ask.Start (h 2 2)) None
    ∷ event.Stage (h 2 2) stage.Hardware None
    ∷ event.Stage (h 2 2) stage.QueuesUp None
    ∷ event.Stage (h 2 2) stage.Working None
    ∷ []

abbrev pub the_bottom_fails_to_start_plan : Plan
the_bottom_fails_to_start_plan = record (a_plan 1 200 32) {
  names = (codes "driver") ∷ (codes "req") ∷ (codes "D") ∷ (codes "Q") ∷ (codes "TO_E") ∷ (codes "E") ∷ (codes "R") ∷ (codes "TO_F") ∷ (codes "F") ∷ (codes "S") ∷ [];
  declared = declared.Driver
      ∷ a_device 2 false scope.Unscoped level.Dispatch
      ∷ a_queue 3 2 dispatch.Sequential (serves true false false false) true false scope.Unscoped level.Dispatch
      ∷ a_target 4 2 0 status.Success 4
      ∷ a_device 5 false scope.Unscoped level.Dispatch
      ∷ a_queue 6 5 dispatch.Sequential (serves true false false false) true false scope.Unscoped level.Dispatch
      ∷ a_target 7 5 0 status.Success 4
      ∷ a_device 8 false scope.Unscoped level.Dispatch
      ∷ a_queue 9 8 dispatch.Sequential (serves true false false false) true false scope.Unscoped level.Dispatch
      ∷ [];
  pnp = (at 42 0 (post.Ask ask.Start (h 2 2))) ∷ (at 43 0 (post.Ask ask.Surprise (h 2 2))) ∷ [];
  agents = (an_agent 2 []) ∷ (an_agent 5 []) ∷ (an_agent 8 []) ∷ (an_agent 4 []) ∷ (an_agent 7 []) ∷ [];
  exprs = (node.Context context.OwnRequest) ∷ (node.Object (h 4 4)) ∷ (node.Number 0) ∷ (node.Context context.OwnRequest) ∷ (node.Context context.CompletionStatus) ∷ (node.Context context.OwnRequest) ∷ (node.Object (h 7 7)) ∷ (node.Number 0) ∷ (node.Context context.OwnRequest) ∷ (node.Context context.CompletionStatus) ∷ (node.Literal status.Unsuccessful) ∷ (node.Context context.OwnRequest) ∷ (node.Literal status.Success) ∷ [];
  scripts = a_script callback.EvtIoRead (a_queue 3 2 dispatch.Sequential (serves true false false false) true false scope.Unscoped level.Dispatch) 7 (s 8 1 (act.Call call.WdfRequestSend None (arg.Expression 0) (arg.Expression 1) (arg.Expression 2)) ∷ [])
      ∷ a_script callback.EvtRequestCompletion (a_target 4 2 0 status.Success 4) 12 (s 13 1 (act.Call call.WdfRequestComplete None (arg.Expression 3) (arg.Expression 4) arg.NoArgument) ∷ [])
      ∷ a_script callback.EvtIoRead (a_queue 6 5 dispatch.Sequential (serves true false false false) true false scope.Unscoped level.Dispatch) 20 (s 21 1 (act.Call call.WdfRequestSend None (arg.Expression 5) (arg.Expression 6) (arg.Expression 7)) ∷ [])
      ∷ a_script callback.EvtRequestCompletion (a_target 7 5 0 status.Success 4) 25 (s 26 1 (act.Call call.WdfRequestComplete None (arg.Expression 8) (arg.Expression 9) arg.NoArgument) ∷ [])
      ∷ a_script callback.EvtDevicePrepareHardware (a_device 8 false scope.Unscoped level.Dispatch) 31 (s 32 1 (act.Return 10) ∷ [])
      ∷ a_script callback.EvtIoRead (a_queue 9 8 dispatch.Sequential (serves true false false false) true false scope.Unscoped level.Dispatch) 36 (s 37 1 (act.Call call.WdfRequestComplete None (arg.Expression 11) (arg.Expression 12) arg.NoArgument) ∷ [])
      ∷ [];
}

abbrev pub the_bottom_fails_to_start_events : List Event
the_bottom_fails_to_start_events = event.Posted 0 (post.Ask ask.Start (h 8 8)) None
    ∷ event.Stage (h 8 8) stage.Hardware None
    ∷ event.Start (p 0) callback.EvtDevicePrepareHardware (h 8 8) None
    ∷ event.End (p 0) callback.EvtDevicePrepareHardware (h 8 8) (Stat status.Unsuccessful)
    ∷ event.Stage (h 8 8) stage.NoHardware None
    ∷ event.Stage (h 8 8) stage.Closed None
    ∷ event.Stage (h 8 8) stage.Removed None
    ∷ event.Cleanup (h 9 9)
    ∷ event.Cleanup (h 8 8)
    ∷ event.Destroy (h 9 9)
    ∷ event.Destroy (h 8 8)
    ∷ event.Posted 0 (post.Ask ask.Surprise (h 2 2)) None
    ∷ event.Stage (h 2 2) stage.Closed None
    ∷ event.Stage (h 2 2) stage.Removed None
    ∷ event.Cleanup (h 4 4)
    ∷ event.Cleanup (h 3 3)
    ∷ event.Cleanup (h 2 2)
    ∷ event.Destroy (h 3 3)
    ∷ event.Destroy (h 4 4)
    ∷ event.Destroy (h 2 2)
    ∷ event.Posted 0 (post.Ask ask.Surprise (h 5 5)) None
    ∷ event.Stage (h 5 5) stage.Closed None
    ∷ event.Stage (h 5 5) stage.Removed None
    ∷ event.Cleanup (h 7 7)
    ∷ event.Cleanup (h 6 6)
    ∷ event.Cleanup (h 5 5)
    ∷ event.Destroy (h 6 6)
    ∷ event.Destroy (h 7 7)
    ∷ event.Destroy (h 5 5)
    ∷ event.Posted 0 (post.Ask ask.Surprise (h 8 8)) None
    ∷ []

abbrev pub the_lower_device_is_gone_plan : Plan
the_lower_device_is_gone_plan = record (a_plan 1 200 32) {
  names = (codes "driver") ∷ (codes "req") ∷ (codes "D") ∷ (codes "Q") ∷ (codes "TO_E") ∷ (codes "E") ∷ (codes "R") ∷ (codes "A") ∷ [];
  declared = declared.Driver
      ∷ a_device 2 true scope.Unscoped level.Dispatch
      ∷ a_queue 3 2 (dispatch.Parallel 4) (serves true false false false) true false scope.Unscoped level.Dispatch
      ∷ a_target 4 2 0 status.Success 4
      ∷ a_device 5 false scope.Unscoped level.Dispatch
      ∷ a_queue 6 5 dispatch.Sequential (serves true false false false) true false scope.Unscoped level.Dispatch
      ∷ [];
  pnp = (at 39 0 (post.Ask ask.Start (h 5 5))) ∷ (at 40 0 (post.Ask ask.Rebalance (h 5 5))) ∷ [];
  agents = (an_agent 7 ((at 36 1 (post.Read (h 2 2) 16)) ∷ [])) ∷ (an_agent 2 []) ∷ (an_agent 5 []) ∷ (an_agent 4 []) ∷ [];
  exprs = (node.Context context.OwnRequest) ∷ (node.Object (h 4 4)) ∷ (node.Number 0) ∷ (node.Variable 0) ∷ (node.Number 0) ∷ (node.Binary operator.Equals 3 4) ∷ (node.Context context.OwnRequest) ∷ (node.Literal status.Unsuccessful) ∷ (node.Context context.OwnRequest) ∷ (node.Context context.CompletionStatus) ∷ (node.Context context.NearestDevice) ∷ (node.Number 0) ∷ (node.Context context.NearestDevice) ∷ (node.Number 0) ∷ (node.Number 1) ∷ (node.Variable 0) ∷ (node.Number 1) ∷ (node.Binary operator.Equals 15 16) ∷ (node.Literal status.Unsuccessful) ∷ (node.Context context.OwnRequest) ∷ (node.Literal status.Success) ∷ [];
  scripts = a_script callback.EvtIoDefault (a_queue 3 2 (dispatch.Parallel 4) (serves true false false false) true false scope.Unscoped level.Dispatch) 7
      (s 8 1 (act.Call call.WdfRequestSend (Some 0) (arg.Expression 0) (arg.Expression 1) (arg.Expression 2))
      ∷ s 9 2 (act.If 5 3)
      ∷ s 10 3 (act.Call call.WdfRequestComplete None (arg.Expression 6) (arg.Expression 7) arg.NoArgument) ∷ [])
      ∷ a_script callback.EvtRequestCompletion (a_target 4 2 0 status.Success 4) 15 (s 16 1 (act.Call call.WdfRequestComplete None (arg.Expression 8) (arg.Expression 9) arg.NoArgument) ∷ [])
      ∷ a_script callback.EvtDevicePrepareHardware (a_device 5 false scope.Unscoped level.Dispatch) 21
      (s 22 1 (act.Call call.GetContext (Some 0) (arg.Expression 10) (arg.Expression 11) arg.NoArgument)
      ∷ s 23 2 (act.Call call.SetContext None (arg.Expression 12) (arg.Expression 13) (arg.Expression 14))
      ∷ s 24 3 (act.If 17 4)
      ∷ s 25 4 (act.Return 18) ∷ [])
      ∷ a_script callback.EvtIoRead (a_queue 6 5 dispatch.Sequential (serves true false false false) true false scope.Unscoped level.Dispatch) 30 (s 31 1 (act.Call call.WdfRequestComplete None (arg.Expression 19) (arg.Expression 20) arg.NoArgument) ∷ [])
      ∷ [];
}

abbrev pub the_lower_device_is_gone_events : List Event
the_lower_device_is_gone_events = event.Posted 0 (post.Ask ask.Start (h 5 5)) None
    ∷ event.Stage (h 5 5) stage.Hardware None
    ∷ event.Start (p 0) callback.EvtDevicePrepareHardware (h 5 5) None
    ∷ event.Did (p 0) (c call.GetContext 2 (Val (Obj (h 5 5))) (Val (Num 0)) (Val (Num 0))) (Num 0)
    ∷ event.Did (p 0) (c call.SetContext 3 (Val (Obj (h 5 5))) (Val (Num 0)) (Val (Num 1))) (Stat status.Success)
    ∷ event.Local (p 0) 24
    ∷ event.End (p 0) callback.EvtDevicePrepareHardware (h 5 5) (Stat status.Success)
    ∷ event.Stage (h 5 5) stage.QueuesUp None
    ∷ event.Stage (h 5 5) stage.Working None
    ∷ event.Posted 0 (post.Ask ask.Start (h 2 2)) None
    ∷ event.Posted 0 (post.Ask ask.Rebalance (h 5 5)) None
    ∷ event.Stage (h 5 5) stage.QueuesDown None
    ∷ event.Stage (h 5 5) stage.Settled None
    ∷ event.Stage (h 5 5) stage.NoHardware None
    ∷ event.Stage (h 5 5) stage.Hardware None
    ∷ event.Start (p 0) callback.EvtDevicePrepareHardware (h 5 5) None
    ∷ event.Did (p 0) (c call.GetContext 2 (Val (Obj (h 5 5))) (Val (Num 0)) (Val (Num 0))) (Num 1)
    ∷ event.Did (p 0) (c call.SetContext 3 (Val (Obj (h 5 5))) (Val (Num 0)) (Val (Num 1))) (Stat status.Success)
    ∷ event.Local (p 0) 24
    ∷ event.End (p 0) callback.EvtDevicePrepareHardware (h 5 5) (Stat status.Unsuccessful)
    ∷ event.Stage (h 5 5) stage.NoHardware None
    ∷ event.Stage (h 5 5) stage.Closed None
    ∷ event.Stage (h 5 5) stage.Removed None
    ∷ event.Cleanup (h 6 6)
    ∷ event.Cleanup (h 5 5)
    ∷ event.Destroy (h 6 6)
    ∷ event.Destroy (h 5 5)
    ∷ event.Tick 1
    ∷ event.Posted 1 (post.Read (h 2 2) 16) (Some (h 7 1))
    ∷ event.Start (p 0) callback.EvtIoDefault (h 3 3) (Some (h 7 1))
    ∷ event.Did (p 0) (c call.WdfRequestSend 3 (Val (Obj (h 7 1))) (Val (Obj (h 4 4))) (Val (Num 0))) (Num 1)
    ∷ event.Local (p 0) 9
    ∷ event.End (p 0) callback.EvtIoDefault (h 3 3) (Stat status.Success)
    ∷ event.Posted 4 (post.Read (h 5 5) 16) None
    ∷ event.Posted 4 (post.Done (h 7 1) status.InvalidDeviceState) None
    ∷ event.Start (p 0) callback.EvtRequestCompletion (h 4 4) (Some (h 7 1))
    ∷ event.Did (p 0) (c call.WdfRequestComplete 2 (Val (Obj (h 7 1))) (Val (Stat status.InvalidDeviceState)) (Val (Num 0))) (Stat status.Success)
    ∷ event.End (p 0) callback.EvtRequestCompletion (h 4 4) (Stat status.Success)
    ∷ event.Cleanup (h 7 1)
    ∷ event.Destroy (h 7 1)
    ∷ []

abbrev pub the_lower_queue_is_stopped_plan : Plan
the_lower_queue_is_stopped_plan = record (a_plan 1 200 32) {
  names = (codes "driver") ∷ (codes "req") ∷ (codes "D") ∷ (codes "Q") ∷ (codes "TO_E") ∷ (codes "E") ∷ (codes "R") ∷ (codes "A") ∷ [];
  declared = declared.Driver
      ∷ a_device 2 true scope.Unscoped level.Dispatch
      ∷ a_queue 3 2 (dispatch.Parallel 4) (serves true false false false) true false scope.Unscoped level.Dispatch
      ∷ a_target 4 2 0 status.Success 4
      ∷ a_device 5 false scope.Unscoped level.Dispatch
      ∷ a_queue 6 5 dispatch.Sequential (serves true false false false) true false scope.Unscoped level.Dispatch
      ∷ [];
  pnp = (at 35 0 (post.Ask ask.Start (h 2 2))) ∷ [];
  agents = (an_agent 7 ((at 32 0 (post.Read (h 2 2) 16)) ∷ [])) ∷ (an_agent 2 []) ∷ (an_agent 5 []) ∷ (an_agent 4 []) ∷ [];
  exprs = (node.Context context.OwnRequest) ∷ (node.Object (h 4 4)) ∷ (node.Number 0) ∷ (node.Variable 0) ∷ (node.Number 0) ∷ (node.Binary operator.Equals 3 4) ∷ (node.Context context.OwnRequest) ∷ (node.Literal status.Unsuccessful) ∷ (node.Context context.OwnRequest) ∷ (node.Context context.CompletionStatus) ∷ (node.Object (h 6 6)) ∷ (node.Context context.OwnRequest) ∷ (node.Literal status.Success) ∷ [];
  scripts = a_script callback.EvtIoDefault (a_queue 3 2 (dispatch.Parallel 4) (serves true false false false) true false scope.Unscoped level.Dispatch) 7
      (s 8 1 (act.Call call.WdfRequestSend (Some 0) (arg.Expression 0) (arg.Expression 1) (arg.Expression 2))
      ∷ s 9 2 (act.If 5 3)
      ∷ s 10 3 (act.Call call.WdfRequestComplete None (arg.Expression 6) (arg.Expression 7) arg.NoArgument) ∷ [])
      ∷ a_script callback.EvtRequestCompletion (a_target 4 2 0 status.Success 4) 15 (s 16 1 (act.Call call.WdfRequestComplete None (arg.Expression 8) (arg.Expression 9) arg.NoArgument) ∷ [])
      ∷ a_script callback.EvtDeviceD0Entry (a_device 5 false scope.Unscoped level.Dispatch) 21 (s 22 1 (act.Call call.WdfIoQueueStop None (arg.Expression 10) arg.NoArgument arg.NoArgument) ∷ [])
      ∷ a_script callback.EvtIoRead (a_queue 6 5 dispatch.Sequential (serves true false false false) true false scope.Unscoped level.Dispatch) 26 (s 27 1 (act.Call call.WdfRequestComplete None (arg.Expression 11) (arg.Expression 12) arg.NoArgument) ∷ [])
      ∷ [];
}

abbrev pub the_lower_queue_is_stopped_events : List Event
the_lower_queue_is_stopped_events = event.Posted 0 (post.Ask ask.Start (h 5 5)) None
    ∷ event.Stage (h 5 5) stage.Hardware None
    ∷ event.Start (p 0) callback.EvtDeviceD0Entry (h 5 5) None
    ∷ event.Did (p 0) (c call.WdfIoQueueStop 1 (Val (Obj (h 6 6))) (Val (Num 0)) (Val (Num 0))) (Stat status.Success)
    ∷ event.End (p 0) callback.EvtDeviceD0Entry (h 5 5) (Stat status.Success)
    ∷ event.Stage (h 5 5) stage.QueuesUp None
    ∷ event.Stage (h 5 5) stage.Working None
    ∷ event.Posted 0 (post.Ask ask.Start (h 2 2)) None
    ∷ event.Posted 1 (post.Read (h 2 2) 16) (Some (h 7 1))
    ∷ event.Start (p 0) callback.EvtIoDefault (h 3 3) (Some (h 7 1))
    ∷ event.Did (p 0) (c call.WdfRequestSend 3 (Val (Obj (h 7 1))) (Val (Obj (h 4 4))) (Val (Num 0))) (Num 1)
    ∷ event.Local (p 0) 9
    ∷ event.End (p 0) callback.EvtIoDefault (h 3 3) (Stat status.Success)
    ∷ event.Posted 4 (post.Read (h 5 5) 16) (Some (h 8 1))
    ∷ []

abbrev pub the_lower_queue_is_stopped_waits : List WaitLine
the_lower_queue_is_stopped_waits = (line (thing.Sent (h 7 1) (h 4 4)) None) ∷ (line (thing.Queued (h 8 1) (h 6 6)) (Some (cause.Stopped))) ∷ []

abbrev pub the_middle_device_is_removed_plan : Plan
the_middle_device_is_removed_plan = record (a_plan 1 200 32) {
  names = (codes "driver") ∷ (codes "req") ∷ (codes "D") ∷ (codes "Q") ∷ (codes "TO_E") ∷ (codes "E") ∷ (codes "R") ∷ (codes "TO_F") ∷ (codes "F") ∷ (codes "S") ∷ [];
  declared = declared.Driver
      ∷ a_device 2 false scope.Unscoped level.Dispatch
      ∷ a_queue 3 2 dispatch.Sequential (serves true false false false) true false scope.Unscoped level.Dispatch
      ∷ a_target 4 2 0 status.Success 4
      ∷ a_device 5 false scope.Unscoped level.Dispatch
      ∷ a_queue 6 5 dispatch.Sequential (serves true false false false) true false scope.Unscoped level.Dispatch
      ∷ a_target 7 5 0 status.Success 4
      ∷ a_device 8 false scope.Unscoped level.Dispatch
      ∷ a_queue 9 8 dispatch.Sequential (serves true false false false) true false scope.Unscoped level.Dispatch
      ∷ [];
  pnp = (at 39 0 (post.Ask ask.Start (h 5 5))) ∷ (at 40 1 (post.Ask ask.Remove (h 5 5))) ∷ [];
  agents = (an_agent 2 []) ∷ (an_agent 5 []) ∷ (an_agent 8 []) ∷ (an_agent 4 []) ∷ (an_agent 7 []) ∷ [];
  exprs = (node.Context context.OwnRequest) ∷ (node.Object (h 4 4)) ∷ (node.Number 0) ∷ (node.Context context.OwnRequest) ∷ (node.Context context.CompletionStatus) ∷ (node.Context context.OwnRequest) ∷ (node.Object (h 7 7)) ∷ (node.Number 0) ∷ (node.Context context.OwnRequest) ∷ (node.Context context.CompletionStatus) ∷ (node.Context context.OwnRequest) ∷ (node.Literal status.Success) ∷ [];
  scripts = a_script callback.EvtIoRead (a_queue 3 2 dispatch.Sequential (serves true false false false) true false scope.Unscoped level.Dispatch) 7 (s 8 1 (act.Call call.WdfRequestSend None (arg.Expression 0) (arg.Expression 1) (arg.Expression 2)) ∷ [])
      ∷ a_script callback.EvtRequestCompletion (a_target 4 2 0 status.Success 4) 12 (s 13 1 (act.Call call.WdfRequestComplete None (arg.Expression 3) (arg.Expression 4) arg.NoArgument) ∷ [])
      ∷ a_script callback.EvtIoRead (a_queue 6 5 dispatch.Sequential (serves true false false false) true false scope.Unscoped level.Dispatch) 20 (s 21 1 (act.Call call.WdfRequestSend None (arg.Expression 5) (arg.Expression 6) (arg.Expression 7)) ∷ [])
      ∷ a_script callback.EvtRequestCompletion (a_target 7 5 0 status.Success 4) 25 (s 26 1 (act.Call call.WdfRequestComplete None (arg.Expression 8) (arg.Expression 9) arg.NoArgument) ∷ [])
      ∷ a_script callback.EvtIoRead (a_queue 9 8 dispatch.Sequential (serves true false false false) true false scope.Unscoped level.Dispatch) 33 (s 34 1 (act.Call call.WdfRequestComplete None (arg.Expression 10) (arg.Expression 11) arg.NoArgument) ∷ [])
      ∷ [];
}

abbrev pub the_middle_device_is_removed_events : List Event
the_middle_device_is_removed_events = event.Posted 0 (post.Ask ask.Start (h 8 8)) None
    ∷ event.Stage (h 8 8) stage.Hardware None
    ∷ event.Stage (h 8 8) stage.QueuesUp None
    ∷ event.Stage (h 8 8) stage.Working None
    ∷ event.Posted 0 (post.Ask ask.Start (h 5 5)) None
    ∷ event.Stage (h 5 5) stage.Hardware None
    ∷ event.Stage (h 5 5) stage.QueuesUp None
    ∷ event.Stage (h 5 5) stage.Working None
    ∷ event.Posted 0 (post.Ask ask.Start (h 2 2)) None
    ∷ event.Stage (h 2 2) stage.Hardware None
    ∷ event.Stage (h 2 2) stage.QueuesUp None
    ∷ event.Stage (h 2 2) stage.Working None
    ∷ event.Tick 1
    ∷ event.Posted 0 (post.Ask ask.Remove (h 2 2)) None
    ∷ event.Stage (h 2 2) stage.QueuesDown None
    ∷ event.Stage (h 2 2) stage.Settled None
    ∷ event.Stage (h 2 2) stage.NoHardware None
    ∷ event.Stage (h 2 2) stage.Closed None
    ∷ event.Stage (h 2 2) stage.Removed None
    ∷ event.Cleanup (h 4 4)
    ∷ event.Cleanup (h 3 3)
    ∷ event.Cleanup (h 2 2)
    ∷ event.Destroy (h 3 3)
    ∷ event.Destroy (h 4 4)
    ∷ event.Destroy (h 2 2)
    ∷ event.Posted 0 (post.Ask ask.Remove (h 5 5)) None
    ∷ event.Stage (h 5 5) stage.QueuesDown None
    ∷ event.Stage (h 5 5) stage.Settled None
    ∷ event.Stage (h 5 5) stage.NoHardware None
    ∷ event.Stage (h 5 5) stage.Closed None
    ∷ event.Stage (h 5 5) stage.Removed None
    ∷ event.Cleanup (h 7 7)
    ∷ event.Cleanup (h 6 6)
    ∷ event.Cleanup (h 5 5)
    ∷ event.Destroy (h 6 6)
    ∷ event.Destroy (h 7 7)
    ∷ event.Destroy (h 5 5)
    ∷ event.Posted 0 (post.Ask ask.Remove (h 8 8)) None
    ∷ event.Stage (h 8 8) stage.QueuesDown None
    ∷ event.Stage (h 8 8) stage.Settled None
    ∷ event.Stage (h 8 8) stage.NoHardware None
    ∷ event.Stage (h 8 8) stage.Closed None
    ∷ event.Stage (h 8 8) stage.Removed None
    ∷ event.Cleanup (h 9 9)
    ∷ event.Cleanup (h 8 8)
    ∷ event.Destroy (h 9 9)
    ∷ event.Destroy (h 8 8)
    ∷ []
