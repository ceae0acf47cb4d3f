-- Worked runs: the plan of each, its events, and what it waits for where it is stuck. Made by
-- tools/scene_to_plan.py from the scenarios and traces of tools/runs.
use Rattle.std.specs.Prelude.{List, [], ◌∷◌, Some, None, true, false, codes}
use Rattle.wdf_base.specs.declared.declared.Declared.TheVariants as declared
use Rattle.wdf_base.specs.declared.declared.ClassInfo.TheVariants as class
use Rattle.wdf_base.specs.declared.declared.PlainKind.TheVariants as plain
use Rattle.wdf_base.specs.declared.declared.DeferredKind.TheVariants as deferred
use Rattle.wdf_base.specs.declared.declared.Scope.TheVariants as scope
use Rattle.wdf_base.specs.declared.declared.ExecutionLevel.TheVariants as level
use Rattle.wdf_base.specs.declared.declared.DispatchKind.TheVariants as dispatch
use Rattle.wdf_base.specs.declared.event.Ask.TheVariants as ask
use Rattle.wdf_base.specs.declared.event.Post.TheVariants as post
use Rattle.wdf_base.specs.declared.event.Stage.TheVariants as stage
use Rattle.wdf_base.specs.declared.event.Event.{Event}
use Rattle.wdf_base.specs.declared.event.Event.TheVariants as event
use Rattle.wdf_base.specs.declared.script.ExprNode.TheVariants as node
use Rattle.wdf_base.specs.declared.script.ContextWord.TheVariants as context
use Rattle.wdf_base.specs.declared.script.Operator.TheVariants as operator
use Rattle.wdf_base.specs.declared.script.ArgNode.TheVariants as arg
use Rattle.wdf_base.specs.declared.script.Act.TheVariants as act
use Rattle.wdf_base.specs.declared.call.Arg.TheVariants.{Val, Class}
use Rattle.wdf_base.specs.declared.call.CallKind.TheVariants as call
use Rattle.wdf_base.specs.declared.call.Callback.TheVariants as callback
use Rattle.wdf_base.specs.declared.value.Status.TheVariants as status
use Rattle.wdf_base.specs.declared.value.Value.TheVariants.{Num, Obj, Stat}
use Rattle.wdf_base.specs.declared.plan.Plan.{Plan}
use Rattle.wdf_base.specs.declared.event.Step.TheVariants as step
use Rattle.wdf_base.specs.declared.wait.OpenThing.TheVariants as thing
use Rattle.wdf_base.specs.declared.wait.Cause.TheVariants as cause
use Rattle.wdf_base.specs.declared.wait.WaitLine.{WaitLine}
use Rattle.law_machine_worked.specs.Writing.{h, p, c, at, s, line, a_plan, a_device, a_queue, serves, an_interrupt, a_target, an_agent, a_script}

abbrev pub deleted_timer_plan : Plan
deleted_timer_plan = record (a_plan 1 100 16) {
  names = (codes "driver") ∷ (codes "req") ∷ (codes "T") ∷ (codes "D") ∷ [];
  declared = declared.Driver
      ∷ a_device 3 false scope.Unscoped level.Dispatch
      ∷ [];
  classes = (class.Deferred 2 deferred.Timer (record { 0 = 2 }) false 0) ∷ [];
  pnp = (at 22 0 (post.Ask ask.Start (h 2 3))) ∷ [];
  agents = (an_agent 3 []) ∷ [];
  exprs = (node.Context context.OwnObject) ∷ (node.Number 1) ∷ (node.Number 2) ∷ (node.Variable 0) ∷ (node.Number 1) ∷ [];
  scripts = a_script callback.EvtTimerFunc (declared.OfClass 0) 5 (s 6 1 (act.Call call.WdfObjectDelete None (arg.Expression 0) arg.NoArgument arg.NoArgument) ∷ [])
      ∷ a_script callback.EvtCleanupCallback (declared.OfClass 0) 8 (s 9 1 (act.Log 1) ∷ [])
      ∷ a_script callback.EvtDestroyCallback (declared.OfClass 0) 11 (s 12 1 (act.Log 2) ∷ [])
      ∷ a_script callback.EvtDeviceD0Entry (a_device 3 false scope.Unscoped level.Dispatch) 16
      (s 17 1 (act.Call call.WdfTimerCreate (Some 0) (arg.OfClass 0) arg.NoArgument arg.NoArgument)
      ∷ s 18 2 (act.Call call.WdfTimerStart None (arg.Expression 3) (arg.Expression 4) arg.NoArgument) ∷ [])
      ∷ [];
}

abbrev pub deleted_timer_events : List Event
deleted_timer_events = event.Posted 0 (post.Ask ask.Start (h 2 3)) None
    ∷ event.Stage (h 2 3) stage.Hardware None
    ∷ event.Start (p 0) callback.EvtDeviceD0Entry (h 2 3) None
    ∷ event.Did (p 0) (c call.WdfTimerCreate 1 (Class 0) (Val (Num 0)) (Val (Num 0))) (Obj (h 3 2))
    ∷ event.Did (p 0) (c call.WdfTimerStart 2 (Val (Obj (h 3 2))) (Val (Num 1)) (Val (Num 0))) (Num 0)
    ∷ event.End (p 0) callback.EvtDeviceD0Entry (h 2 3) (Stat status.Success)
    ∷ event.Stage (h 2 3) stage.QueuesUp None
    ∷ event.Stage (h 2 3) stage.Working None
    ∷ event.Tick 1
    ∷ event.Start (p 0) callback.EvtTimerFunc (h 3 2) None
    ∷ event.Did (p 0) (c call.WdfObjectDelete 1 (Val (Obj (h 3 2))) (Val (Num 0)) (Val (Num 0))) (Stat status.Success)
    ∷ event.End (p 0) callback.EvtTimerFunc (h 3 2) (Stat status.Success)
    ∷ event.Start (p 0) callback.EvtCleanupCallback (h 3 2) None
    ∷ event.Log (p 0) (Num 1)
    ∷ event.End (p 0) callback.EvtCleanupCallback (h 3 2) (Stat status.Success)
    ∷ event.Cleanup (h 3 2)
    ∷ event.Start (p 0) callback.EvtDestroyCallback (h 3 2) None
    ∷ event.Log (p 0) (Num 2)
    ∷ event.End (p 0) callback.EvtDestroyCallback (h 3 2) (Stat status.Success)
    ∷ event.Destroy (h 3 2)
    ∷ []

abbrev pub failed_start_plan : Plan
failed_start_plan = record (a_plan 1 100 16) {
  names = (codes "driver") ∷ (codes "req") ∷ (codes "D") ∷ (codes "I") ∷ [];
  declared = declared.Driver
      ∷ a_device 2 false scope.Unscoped level.Dispatch
      ∷ an_interrupt 3 2 5
      ∷ [];
  pnp = (at 18 0 (post.Ask ask.Start (h 2 2))) ∷ [];
  agents = (an_agent 2 []) ∷ [];
  exprs = (node.Literal status.Unsuccessful) ∷ [];
  scripts = a_script callback.EvtInterruptIsr (an_interrupt 3 2 5) 6 []
      ∷ a_script callback.EvtDeviceD0Entry (a_device 2 false scope.Unscoped level.Dispatch) 9 (s 10 1 (act.Return 0) ∷ [])
      ∷ a_script callback.EvtDeviceReleaseHardware (a_device 2 false scope.Unscoped level.Dispatch) 12 []
      ∷ a_script callback.EvtDeviceD0Exit (a_device 2 false scope.Unscoped level.Dispatch) 14 []
      ∷ [];
}

abbrev pub failed_start_events : List Event
failed_start_events = event.Posted 0 (post.Ask ask.Start (h 2 2)) None
    ∷ event.Stage (h 2 2) stage.Hardware None
    ∷ event.Start (p 0) callback.EvtDeviceD0Entry (h 2 2) None
    ∷ event.End (p 0) callback.EvtDeviceD0Entry (h 2 2) (Stat status.Unsuccessful)
    ∷ event.Start (p 0) callback.EvtDeviceReleaseHardware (h 2 2) None
    ∷ event.End (p 0) callback.EvtDeviceReleaseHardware (h 2 2) (Stat status.Success)
    ∷ event.Stage (h 2 2) stage.NoHardware None
    ∷ event.Stage (h 2 2) stage.Closed None
    ∷ event.Stage (h 2 2) stage.Removed None
    ∷ event.Cleanup (h 3 3)
    ∷ event.Cleanup (h 2 2)
    ∷ event.Destroy (h 3 3)
    ∷ event.Destroy (h 2 2)
    ∷ []

abbrev pub leaked_reference_plan : Plan
leaked_reference_plan = record (a_plan 1 100 16) {
  names = (codes "driver") ∷ (codes "req") ∷ (codes "O") ∷ (codes "D") ∷ (codes "Q") ∷ (codes "A") ∷ [];
  declared = declared.Driver
      ∷ a_device 3 true scope.Unscoped level.Dispatch
      ∷ a_queue 4 2 dispatch.Sequential (serves true false false false) true false scope.Unscoped level.Dispatch
      ∷ [];
  classes = (class.Plain 2 plain.Object) ∷ [];
  agents = (an_agent 5 ((at 18 0 (post.Read (h 2 3) 16)) ∷ [])) ∷ (an_agent 3 []) ∷ [];
  exprs = (node.Context context.NearestDevice) ∷ (node.Variable 0) ∷ (node.Variable 0) ∷ (node.Context context.OwnRequest) ∷ (node.Literal status.Success) ∷ [];
  scripts = a_script callback.EvtIoRead (a_queue 4 2 dispatch.Sequential (serves true false false false) true false scope.Unscoped level.Dispatch) 9
      (s 10 1 (act.Call call.WdfObjectCreate (Some 0) (arg.OfClass 0) (arg.Expression 0) arg.NoArgument)
      ∷ s 11 2 (act.Call call.WdfObjectReference None (arg.Expression 1) arg.NoArgument arg.NoArgument)
      ∷ s 12 3 (act.Call call.WdfObjectDelete None (arg.Expression 2) arg.NoArgument arg.NoArgument)
      ∷ s 13 4 (act.Call call.WdfRequestComplete None (arg.Expression 3) (arg.Expression 4) arg.NoArgument) ∷ [])
      ∷ [];
}

abbrev pub leaked_reference_events : List Event
leaked_reference_events = event.Posted 1 (post.Read (h 2 3) 16) (Some (h 4 1))
    ∷ event.Start (p 0) callback.EvtIoRead (h 3 4) (Some (h 4 1))
    ∷ event.Did (p 0) (c call.WdfObjectCreate 2 (Class 0) (Val (Obj (h 2 3))) (Val (Num 0))) (Obj (h 5 2))
    ∷ event.Did (p 0) (c call.WdfObjectReference 1 (Val (Obj (h 5 2))) (Val (Num 0)) (Val (Num 0))) (Stat status.Success)
    ∷ event.Did (p 0) (c call.WdfObjectDelete 1 (Val (Obj (h 5 2))) (Val (Num 0)) (Val (Num 0))) (Stat status.Success)
    ∷ event.Did (p 0) (c call.WdfRequestComplete 2 (Val (Obj (h 4 1))) (Val (Stat status.Success)) (Val (Num 0))) (Stat status.Success)
    ∷ event.End (p 0) callback.EvtIoRead (h 3 4) (Stat status.Success)
    ∷ event.Cleanup (h 4 1)
    ∷ event.Cleanup (h 5 2)
    ∷ event.Destroy (h 4 1)
    ∷ []

abbrev pub leaked_reference_waits : List WaitLine
leaked_reference_waits = (line (thing.Leaving (h 5 2)) (Some (cause.References 1))) ∷ []

abbrev pub never_acknowledged_plan : Plan
never_acknowledged_plan = record (a_plan 1 100 16) {
  names = (codes "driver") ∷ (codes "req") ∷ (codes "D") ∷ (codes "Q") ∷ (codes "A") ∷ [];
  declared = declared.Driver
      ∷ a_device 2 true scope.Unscoped level.Dispatch
      ∷ a_queue 3 2 dispatch.Sequential (serves true false false false) true false scope.Unscoped level.Dispatch
      ∷ [];
  pnp = (at 15 1 (post.Ask ask.Sleep (h 2 2))) ∷ [];
  agents = (an_agent 4 ((at 12 0 (post.Read (h 2 2) 16)) ∷ [])) ∷ (an_agent 2 []) ∷ [];
  scripts = a_script callback.EvtIoRead (a_queue 3 2 dispatch.Sequential (serves true false false false) true false scope.Unscoped level.Dispatch) 7 []
      ∷ [];
}

abbrev pub never_acknowledged_events : List Event
never_acknowledged_events = event.Posted 1 (post.Read (h 2 2) 16) (Some (h 4 1))
    ∷ event.Start (p 0) callback.EvtIoRead (h 3 3) (Some (h 4 1))
    ∷ event.End (p 0) callback.EvtIoRead (h 3 3) (Stat status.Success)
    ∷ event.Tick 1
    ∷ event.Posted 0 (post.Ask ask.Sleep (h 2 2)) None
    ∷ event.Stage (h 2 2) stage.QueuesDown None
    ∷ []

abbrev pub never_acknowledged_waits : List WaitLine
never_acknowledged_waits = (line (thing.Owned (h 4 1)) None) ∷ (line (thing.Sequence (h 2 2) (step.Pass stage.Settled None)) (Some (cause.ByRequest (h 4 1)))) ∷ []

abbrev pub removed_plan : Plan
removed_plan = record (a_plan 1 100 16) {
  names = (codes "driver") ∷ (codes "req") ∷ (codes "D") ∷ (codes "R") ∷ (codes "W") ∷ (codes "T") ∷ (codes "A") ∷ [];
  declared = declared.Driver
      ∷ a_device 2 true scope.Unscoped level.Dispatch
      ∷ a_queue 3 2 dispatch.Sequential (serves false true false false) true false scope.Unscoped level.Dispatch
      ∷ a_queue 4 2 dispatch.Sequential (serves false false true false) true false scope.Unscoped level.Dispatch
      ∷ a_target 5 2 2 status.Success 4
      ∷ [];
  pnp = (at 31 1 (post.Ask ask.Remove (h 2 2))) ∷ [];
  agents = (an_agent 6 ((at 26 0 (post.Read (h 2 2) 1)) ∷ (at 27 0 (post.Read (h 2 2) 1)) ∷ (at 28 0 (post.Write (h 2 2) 1)) ∷ [])) ∷ (an_agent 2 []) ∷ (an_agent 5 []) ∷ [];
  exprs = (node.Context context.OwnRequest) ∷ (node.Literal status.Cancelled) ∷ (node.Context context.OwnRequest) ∷ (node.Object (h 5 5)) ∷ (node.Number 0) ∷ (node.Context context.OwnRequest) ∷ (node.Context context.CompletionStatus) ∷ [];
  scripts = a_script callback.EvtIoRead (a_queue 3 2 dispatch.Sequential (serves false true false false) true false scope.Unscoped level.Dispatch) 7 []
      ∷ a_script callback.EvtIoStop (a_queue 3 2 dispatch.Sequential (serves false true false false) true false scope.Unscoped level.Dispatch) 9 (s 10 1 (act.Call call.WdfRequestComplete None (arg.Expression 0) (arg.Expression 1) arg.NoArgument) ∷ [])
      ∷ a_script callback.EvtIoWrite (a_queue 4 2 dispatch.Sequential (serves false false true false) true false scope.Unscoped level.Dispatch) 15 (s 16 1 (act.Call call.WdfRequestSend None (arg.Expression 2) (arg.Expression 3) (arg.Expression 4)) ∷ [])
      ∷ a_script callback.EvtRequestCompletion (a_target 5 2 2 status.Success 4) 20 (s 21 1 (act.Call call.WdfRequestComplete None (arg.Expression 5) (arg.Expression 6) arg.NoArgument) ∷ [])
      ∷ [];
}

abbrev pub removed_events : List Event
removed_events = event.Posted 1 (post.Read (h 2 2) 1) (Some (h 6 1))
    ∷ event.Start (p 0) callback.EvtIoRead (h 3 3) (Some (h 6 1))
    ∷ event.End (p 0) callback.EvtIoRead (h 3 3) (Stat status.Success)
    ∷ event.Posted 1 (post.Read (h 2 2) 1) (Some (h 7 1))
    ∷ event.Posted 1 (post.Write (h 2 2) 1) (Some (h 8 1))
    ∷ event.Start (p 0) callback.EvtIoWrite (h 4 4) (Some (h 8 1))
    ∷ event.Did (p 0) (c call.WdfRequestSend 3 (Val (Obj (h 8 1))) (Val (Obj (h 5 5))) (Val (Num 0))) (Num 1)
    ∷ event.End (p 0) callback.EvtIoWrite (h 4 4) (Stat status.Success)
    ∷ event.Tick 1
    ∷ event.Posted 0 (post.Ask ask.Remove (h 2 2)) None
    ∷ event.Stage (h 2 2) stage.QueuesDown None
    ∷ event.Start (p 0) callback.EvtIoStop (h 3 3) (Some (h 6 1))
    ∷ event.Did (p 0) (c call.WdfRequestComplete 2 (Val (Obj (h 6 1))) (Val (Stat status.Cancelled)) (Val (Num 0))) (Stat status.Success)
    ∷ event.End (p 0) callback.EvtIoStop (h 3 3) (Stat status.Success)
    ∷ event.Cleanup (h 6 1)
    ∷ event.Destroy (h 6 1)
    ∷ event.Tick 2
    ∷ event.Posted 3 (post.Done (h 8 1) status.Success) None
    ∷ event.Start (p 0) callback.EvtRequestCompletion (h 5 5) (Some (h 8 1))
    ∷ event.Did (p 0) (c call.WdfRequestComplete 2 (Val (Obj (h 8 1))) (Val (Stat status.Success)) (Val (Num 0))) (Stat status.Success)
    ∷ event.End (p 0) callback.EvtRequestCompletion (h 5 5) (Stat status.Success)
    ∷ event.Stage (h 2 2) stage.Settled None
    ∷ event.Stage (h 2 2) stage.NoHardware None
    ∷ event.Stage (h 2 2) stage.Closed None
    ∷ event.Complete (h 7 1) status.Cancelled
    ∷ event.Stage (h 2 2) stage.Removed None
    ∷ event.Cleanup (h 8 1)
    ∷ event.Cleanup (h 7 1)
    ∷ event.Cleanup (h 5 5)
    ∷ event.Cleanup (h 4 4)
    ∷ event.Cleanup (h 3 3)
    ∷ event.Cleanup (h 2 2)
    ∷ event.Destroy (h 3 3)
    ∷ event.Destroy (h 4 4)
    ∷ event.Destroy (h 5 5)
    ∷ event.Destroy (h 7 1)
    ∷ event.Destroy (h 8 1)
    ∷ event.Destroy (h 2 2)
    ∷ []

abbrev pub sleep_and_wake_plan : Plan
sleep_and_wake_plan = record (a_plan 1 200 16) {
  names = (codes "driver") ∷ (codes "req") ∷ (codes "D") ∷ (codes "Q") ∷ (codes "A") ∷ [];
  declared = declared.Driver
      ∷ a_device 2 true scope.Unscoped level.Dispatch
      ∷ a_queue 3 2 (dispatch.Parallel 3) (serves true false false false) true false scope.Unscoped level.Dispatch
      ∷ [];
  pnp = (at 39 1 (post.Ask ask.Sleep (h 2 2))) ∷ (at 40 2 (post.Ask ask.Wake (h 2 2))) ∷ [];
  agents = (an_agent 4 ((at 34 0 (post.Read (h 2 2) 1)) ∷ (at 35 0 (post.Read (h 2 2) 2)) ∷ (at 36 0 (post.Read (h 2 2) 3)) ∷ [])) ∷ (an_agent 2 []) ∷ [];
  exprs = (node.Context context.OwnRequest) ∷ (node.Number 0) ∷ (node.Variable 0) ∷ (node.Number 1) ∷ (node.Binary operator.Equals 2 3) ∷ (node.Context context.OwnRequest) ∷ (node.Literal status.Success) ∷ (node.Context context.OwnRequest) ∷ (node.Number 0) ∷ (node.Number 1) ∷ (node.Context context.RequestLength) ∷ (node.Number 1) ∷ (node.Binary operator.Equals 10 11) ∷ (node.Context context.OwnRequest) ∷ (node.Number 0) ∷ (node.Context context.RequestLength) ∷ (node.Number 2) ∷ (node.Binary operator.Equals 15 16) ∷ (node.Context context.OwnRequest) ∷ (node.Number 1) ∷ (node.Context context.RequestLength) ∷ (node.Number 3) ∷ (node.Binary operator.Equals 20 21) ∷ (node.Context context.OwnRequest) ∷ (node.Literal status.Success) ∷ (node.Context context.OwnRequest) ∷ (node.Literal status.Success) ∷ [];
  scripts = a_script callback.EvtIoRead (a_queue 3 2 (dispatch.Parallel 3) (serves true false false false) true false scope.Unscoped level.Dispatch) 7
      (s 8 1 (act.Call call.GetContext (Some 0) (arg.Expression 0) (arg.Expression 1) arg.NoArgument)
      ∷ s 9 2 (act.If 4 3)
      ∷ s 10 4 (act.Call call.WdfRequestComplete None (arg.Expression 5) (arg.Expression 6) arg.NoArgument)
      ∷ s 12 4 (act.Call call.SetContext None (arg.Expression 7) (arg.Expression 8) (arg.Expression 9)) ∷ [])
      ∷ a_script callback.EvtIoStop (a_queue 3 2 (dispatch.Parallel 3) (serves true false false false) true false scope.Unscoped level.Dispatch) 15
      (s 16 1 (act.If 12 2)
      ∷ s 17 2 (act.Call call.WdfRequestStopAcknowledge None (arg.Expression 13) (arg.Expression 14) arg.NoArgument)
      ∷ s 19 3 (act.If 17 4)
      ∷ s 20 4 (act.Call call.WdfRequestStopAcknowledge None (arg.Expression 18) (arg.Expression 19) arg.NoArgument)
      ∷ s 22 5 (act.If 22 6)
      ∷ s 23 6 (act.Call call.WdfRequestComplete None (arg.Expression 23) (arg.Expression 24) arg.NoArgument) ∷ [])
      ∷ a_script callback.EvtIoResume (a_queue 3 2 (dispatch.Parallel 3) (serves true false false false) true false scope.Unscoped level.Dispatch) 26 (s 27 1 (act.Call call.WdfRequestComplete None (arg.Expression 25) (arg.Expression 26) arg.NoArgument) ∷ [])
      ∷ a_script callback.EvtDeviceD0Exit (a_device 2 true scope.Unscoped level.Dispatch) 30 []
      ∷ [];
}

abbrev pub sleep_and_wake_events : List Event
sleep_and_wake_events = event.Posted 1 (post.Read (h 2 2) 1) (Some (h 4 1))
    ∷ event.Start (p 0) callback.EvtIoRead (h 3 3) (Some (h 4 1))
    ∷ event.Did (p 0) (c call.GetContext 2 (Val (Obj (h 4 1))) (Val (Num 0)) (Val (Num 0))) (Num 0)
    ∷ event.Local (p 0) 9
    ∷ event.Did (p 0) (c call.SetContext 3 (Val (Obj (h 4 1))) (Val (Num 0)) (Val (Num 1))) (Stat status.Success)
    ∷ event.End (p 0) callback.EvtIoRead (h 3 3) (Stat status.Success)
    ∷ event.Posted 1 (post.Read (h 2 2) 2) (Some (h 5 1))
    ∷ event.Start (p 0) callback.EvtIoRead (h 3 3) (Some (h 5 1))
    ∷ event.Did (p 0) (c call.GetContext 2 (Val (Obj (h 5 1))) (Val (Num 0)) (Val (Num 0))) (Num 0)
    ∷ event.Local (p 0) 9
    ∷ event.Did (p 0) (c call.SetContext 3 (Val (Obj (h 5 1))) (Val (Num 0)) (Val (Num 1))) (Stat status.Success)
    ∷ event.End (p 0) callback.EvtIoRead (h 3 3) (Stat status.Success)
    ∷ event.Posted 1 (post.Read (h 2 2) 3) (Some (h 6 1))
    ∷ event.Start (p 0) callback.EvtIoRead (h 3 3) (Some (h 6 1))
    ∷ event.Did (p 0) (c call.GetContext 2 (Val (Obj (h 6 1))) (Val (Num 0)) (Val (Num 0))) (Num 0)
    ∷ event.Local (p 0) 9
    ∷ event.Did (p 0) (c call.SetContext 3 (Val (Obj (h 6 1))) (Val (Num 0)) (Val (Num 1))) (Stat status.Success)
    ∷ event.End (p 0) callback.EvtIoRead (h 3 3) (Stat status.Success)
    ∷ event.Tick 1
    ∷ event.Posted 0 (post.Ask ask.Sleep (h 2 2)) None
    ∷ event.Stage (h 2 2) stage.QueuesDown None
    ∷ event.Start (p 0) callback.EvtIoStop (h 3 3) (Some (h 4 1))
    ∷ event.Local (p 0) 16
    ∷ event.Did (p 0) (c call.WdfRequestStopAcknowledge 2 (Val (Obj (h 4 1))) (Val (Num 0)) (Val (Num 0))) (Stat status.Success)
    ∷ event.Local (p 0) 19
    ∷ event.Local (p 0) 22
    ∷ event.End (p 0) callback.EvtIoStop (h 3 3) (Stat status.Success)
    ∷ event.Start (p 0) callback.EvtIoStop (h 3 3) (Some (h 5 1))
    ∷ event.Local (p 0) 16
    ∷ event.Local (p 0) 19
    ∷ event.Did (p 0) (c call.WdfRequestStopAcknowledge 2 (Val (Obj (h 5 1))) (Val (Num 1)) (Val (Num 0))) (Stat status.Success)
    ∷ event.Local (p 0) 22
    ∷ event.End (p 0) callback.EvtIoStop (h 3 3) (Stat status.Success)
    ∷ event.Start (p 0) callback.EvtIoStop (h 3 3) (Some (h 6 1))
    ∷ event.Local (p 0) 16
    ∷ event.Local (p 0) 19
    ∷ event.Local (p 0) 22
    ∷ event.Did (p 0) (c call.WdfRequestComplete 2 (Val (Obj (h 6 1))) (Val (Stat status.Success)) (Val (Num 0))) (Stat status.Success)
    ∷ event.End (p 0) callback.EvtIoStop (h 3 3) (Stat status.Success)
    ∷ event.Stage (h 2 2) stage.Settled None
    ∷ event.Start (p 0) callback.EvtDeviceD0Exit (h 2 2) None
    ∷ event.End (p 0) callback.EvtDeviceD0Exit (h 2 2) (Stat status.Success)
    ∷ event.Stage (h 2 2) stage.Sleeping None
    ∷ event.Cleanup (h 6 1)
    ∷ event.Destroy (h 6 1)
    ∷ event.Tick 2
    ∷ event.Posted 0 (post.Ask ask.Wake (h 2 2)) None
    ∷ event.Stage (h 2 2) stage.QueuesUp None
    ∷ event.Start (p 0) callback.EvtIoResume (h 3 3) (Some (h 4 1))
    ∷ event.Did (p 0) (c call.WdfRequestComplete 2 (Val (Obj (h 4 1))) (Val (Stat status.Success)) (Val (Num 0))) (Stat status.Success)
    ∷ event.End (p 0) callback.EvtIoResume (h 3 3) (Stat status.Success)
    ∷ event.Start (p 0) callback.EvtIoRead (h 3 3) (Some (h 5 1))
    ∷ event.Did (p 0) (c call.GetContext 2 (Val (Obj (h 5 1))) (Val (Num 0)) (Val (Num 0))) (Num 1)
    ∷ event.Local (p 0) 9
    ∷ event.Did (p 0) (c call.WdfRequestComplete 2 (Val (Obj (h 5 1))) (Val (Stat status.Success)) (Val (Num 0))) (Stat status.Success)
    ∷ event.End (p 0) callback.EvtIoRead (h 3 3) (Stat status.Success)
    ∷ event.Stage (h 2 2) stage.Working None
    ∷ event.Cleanup (h 4 1)
    ∷ event.Cleanup (h 5 1)
    ∷ event.Destroy (h 4 1)
    ∷ event.Destroy (h 5 1)
    ∷ []
