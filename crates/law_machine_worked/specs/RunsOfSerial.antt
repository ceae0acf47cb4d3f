-- Worked runs: the plan of each, its events, and what it waits for where it is stuck. Made by
-- tools/scene_to_plan.py from the scenarios and traces of tools/runs.
use Rattle.std.specs.Prelude.{List, [], ◌∷◌, Some, None, true, false, codes}
use Rattle.wdf_base.specs.declared.declared.Declared.TheVariants as declared
use Rattle.wdf_base.specs.declared.declared.ClassInfo.TheVariants as class
use Rattle.wdf_base.specs.declared.declared.DeferredKind.TheVariants as deferred
use Rattle.wdf_base.specs.declared.declared.Scope.TheVariants as scope
use Rattle.wdf_base.specs.declared.declared.ExecutionLevel.TheVariants as level
use Rattle.wdf_base.specs.declared.declared.DispatchKind.TheVariants as dispatch
use Rattle.wdf_base.specs.declared.event.Access.TheVariants as access
use Rattle.wdf_base.specs.declared.event.Action.TheVariants as action
use Rattle.wdf_base.specs.declared.event.Ask.TheVariants as ask
use Rattle.wdf_base.specs.declared.event.Post.TheVariants as post
use Rattle.wdf_base.specs.declared.event.Stage.TheVariants as stage
use Rattle.wdf_base.specs.declared.event.Event.{Event}
use Rattle.wdf_base.specs.declared.event.Event.TheVariants as event
use Rattle.wdf_base.specs.declared.script.ExprNode.TheVariants as node
use Rattle.wdf_base.specs.declared.script.ContextWord.TheVariants as context
use Rattle.wdf_base.specs.declared.script.Operator.TheVariants as operator
use Rattle.wdf_base.specs.declared.script.ArgNode.TheVariants as arg
use Rattle.wdf_base.specs.declared.script.Act.TheVariants as act
use Rattle.wdf_base.specs.declared.call.Arg.TheVariants.{Val, Class}
use Rattle.wdf_base.specs.declared.call.CallKind.TheVariants as call
use Rattle.wdf_base.specs.declared.call.Callback.TheVariants as callback
use Rattle.wdf_base.specs.declared.value.Status.TheVariants as status
use Rattle.wdf_base.specs.declared.value.Value.TheVariants.{Num, Obj, Stat}
use Rattle.wdf_base.specs.declared.plan.Plan.{Plan}
use Rattle.law_machine_worked.specs.Writing.{h, p, c, at, s, line, a_plan, a_device, a_queue, serves, an_interrupt, an_agent, a_script}

abbrev pub serial_port_plan : Plan
serial_port_plan = record (a_plan 2 1000 32) {
  names = (codes "driver") ∷ (codes "req") ∷ (codes "TM") ∷ (codes "D") ∷ (codes "RX") ∷ (codes "CTL") ∷ (codes "IRQ") ∷ (codes "WQ") ∷ (codes "RQ") ∷ (codes "PEND") ∷ (codes "A") ∷ [];
  declared = declared.Driver
      ∷ a_device 3 false scope.PerDevice level.Dispatch
      ∷ an_interrupt 6 2 6
      ∷ a_queue 7 2 (dispatch.Parallel 2) (serves false false true false) true false scope.PerDevice level.Dispatch
      ∷ a_queue 8 2 (dispatch.Parallel 4) (serves false true false false) true false scope.PerDevice level.Dispatch
      ∷ a_queue 9 2 dispatch.Manual (serves false false false false) false false scope.PerDevice level.Dispatch
      ∷ [];
  classes = (class.Deferred 2 deferred.Timer (record { 0 = 2 }) false 0) ∷ [];
  registers = (record { name = 4; device = record { 0 = 2 }; value = 0 }) ∷ (record { name = 5; device = record { 0 = 2 }; value = 0 }) ∷ [];
  whens = (record { access = access.Write; register = 1; action = action.Set 0 65; after = 3; line = 13 }) ∷ (record { access = access.Write; register = 1; action = action.Raise (h 3 6); after = 3; line = 14 }) ∷ (record { access = access.Read; register = 0; action = action.Lower (h 3 6); after = 0; line = 15 }) ∷ [];
  pnp = (at 69 0 (post.Ask ask.Start (h 2 3))) ∷ (at 70 10 (post.Ask ask.Sleep (h 2 3))) ∷ (at 71 15 (post.Ask ask.Wake (h 2 3))) ∷ (at 72 40 (post.Ask ask.Surprise (h 2 3))) ∷ [];
  agents = (an_agent 10 ((at 62 0 (post.Read (h 2 3) 16)) ∷ (at 63 1 (post.Read (h 2 3) 16)) ∷ (at 64 4 (post.Write (h 2 3) 1)) ∷ (at 65 20 (post.Write (h 2 3) 1)) ∷ (at 66 25 (post.Read (h 2 3) 16)) ∷ [])) ∷ (an_agent 3 []) ∷ [];
  exprs = (node.Number 99) ∷ (node.Context context.NearestDevice) ∷ (node.Number 1) ∷ (node.Variable 0) ∷ (node.Context context.OwnObject) ∷ (node.Object (h 6 9)) ∷ (node.Variable 0) ∷ (node.Literal status.NoMoreEntries) ∷ (node.Binary operator.Differs 6 7) ∷ (node.Variable 0) ∷ (node.Literal status.Success) ∷ (node.Number 1) ∷ (node.Context context.OwnRequest) ∷ (node.Literal status.Success) ∷ (node.Context context.OwnRequest) ∷ (node.Object (h 6 9)) ∷ (node.Variable 0) ∷ (node.Literal status.Success) ∷ (node.Binary operator.Differs 16 17) ∷ (node.Context context.OwnRequest) ∷ (node.Variable 0) ∷ (node.Context context.NearestDevice) ∷ (node.Number 0) ∷ (node.Variable 0) ∷ (node.Context context.NearestDevice) ∷ (node.Number 0) ∷ (node.Variable 0) ∷ (node.Number 2) ∷ (node.Context context.NearestDevice) ∷ (node.Number 0) ∷ (node.Variable 0) ∷ (node.Number 1) ∷ [];
  scripts = a_script callback.EvtTimerFunc (declared.OfClass 0) 5 (s 6 1 (act.Log 0) ∷ [])
      ∷ a_script callback.EvtInterruptIsr (an_interrupt 6 2 6) 17
      (s 18 1 (act.Get 0 0)
      ∷ s 19 2 (act.Call call.SetContext None (arg.Expression 1) (arg.Expression 2) (arg.Expression 3))
      ∷ s 20 3 (act.Call call.WdfInterruptQueueDpcForIsr None (arg.Expression 4) arg.NoArgument arg.NoArgument) ∷ [])
      ∷ a_script callback.EvtInterruptDpc (an_interrupt 6 2 6) 22
      (s 23 1 (act.Call call.WdfIoQueueRetrieveNextRequest (Some 0) (arg.Expression 5) arg.NoArgument arg.NoArgument)
      ∷ s 24 2 (act.If 8 3)
      ∷ s 25 3 (act.Call call.WdfRequestComplete None (arg.Expression 9) (arg.Expression 10) arg.NoArgument) ∷ [])
      ∷ a_script callback.EvtIoWrite (a_queue 7 2 (dispatch.Parallel 2) (serves false false true false) true false scope.PerDevice level.Dispatch) 31
      (s 32 1 (act.Put 1 11)
      ∷ s 33 2 (act.Call call.WdfRequestComplete None (arg.Expression 12) (arg.Expression 13) arg.NoArgument) ∷ [])
      ∷ a_script callback.EvtIoRead (a_queue 8 2 (dispatch.Parallel 4) (serves false true false false) true false scope.PerDevice level.Dispatch) 38
      (s 39 1 (act.Call call.WdfRequestForwardToIoQueue (Some 0) (arg.Expression 14) (arg.Expression 15) arg.NoArgument)
      ∷ s 40 2 (act.If 18 3)
      ∷ s 41 3 (act.Call call.WdfRequestComplete None (arg.Expression 19) (arg.Expression 20) arg.NoArgument) ∷ [])
      ∷ a_script callback.EvtDevicePrepareHardware (a_device 3 false scope.PerDevice level.Dispatch) 48
      (s 49 1 (act.Call call.WdfTimerCreate (Some 0) (arg.OfClass 0) arg.NoArgument arg.NoArgument)
      ∷ s 50 2 (act.Call call.SetContext None (arg.Expression 21) (arg.Expression 22) (arg.Expression 23)) ∷ [])
      ∷ a_script callback.EvtDeviceD0Entry (a_device 3 false scope.PerDevice level.Dispatch) 52
      (s 53 1 (act.Call call.GetContext (Some 0) (arg.Expression 24) (arg.Expression 25) arg.NoArgument)
      ∷ s 54 2 (act.Call call.WdfTimerStart None (arg.Expression 26) (arg.Expression 27) arg.NoArgument) ∷ [])
      ∷ a_script callback.EvtDeviceD0Exit (a_device 3 false scope.PerDevice level.Dispatch) 56
      (s 57 1 (act.Call call.GetContext (Some 0) (arg.Expression 28) (arg.Expression 29) arg.NoArgument)
      ∷ s 58 2 (act.Call call.WdfTimerStop None (arg.Expression 30) (arg.Expression 31) arg.NoArgument) ∷ [])
      ∷ [];
}

abbrev pub serial_port_events : List Event
serial_port_events = event.Posted 0 (post.Ask ask.Start (h 2 3)) None
    ∷ event.Stage (h 2 3) stage.Hardware None
    ∷ event.Start (p 0) callback.EvtDevicePrepareHardware (h 2 3) None
    ∷ event.Did (p 0) (c call.WdfTimerCreate 1 (Class 0) (Val (Num 0)) (Val (Num 0))) (Obj (h 7 2))
    ∷ event.Did (p 0) (c call.SetContext 3 (Val (Obj (h 2 3))) (Val (Num 0)) (Val (Obj (h 7 2)))) (Stat status.Success)
    ∷ event.End (p 0) callback.EvtDevicePrepareHardware (h 2 3) (Stat status.Success)
    ∷ event.Start (p 0) callback.EvtDeviceD0Entry (h 2 3) None
    ∷ event.Did (p 0) (c call.GetContext 2 (Val (Obj (h 2 3))) (Val (Num 0)) (Val (Num 0))) (Obj (h 7 2))
    ∷ event.Did (p 0) (c call.WdfTimerStart 2 (Val (Obj (h 7 2))) (Val (Num 2)) (Val (Num 0))) (Num 0)
    ∷ event.End (p 0) callback.EvtDeviceD0Entry (h 2 3) (Stat status.Success)
    ∷ event.Stage (h 2 3) stage.Enabled (Some (h 3 6))
    ∷ event.Stage (h 2 3) stage.QueuesUp None
    ∷ event.Stage (h 2 3) stage.Working None
    ∷ event.Posted 1 (post.Read (h 2 3) 16) (Some (h 8 1))
    ∷ event.Start (p 0) callback.EvtIoRead (h 5 8) (Some (h 8 1))
    ∷ event.Did (p 0) (c call.WdfRequestForwardToIoQueue 2 (Val (Obj (h 8 1))) (Val (Obj (h 6 9))) (Val (Num 0))) (Stat status.Success)
    ∷ event.Local (p 0) 40
    ∷ event.End (p 0) callback.EvtIoRead (h 5 8) (Stat status.Success)
    ∷ event.Tick 1
    ∷ event.Posted 1 (post.Read (h 2 3) 16) (Some (h 9 1))
    ∷ event.Start (p 0) callback.EvtIoRead (h 5 8) (Some (h 9 1))
    ∷ event.Did (p 0) (c call.WdfRequestForwardToIoQueue 2 (Val (Obj (h 9 1))) (Val (Obj (h 6 9))) (Val (Num 0))) (Stat status.Success)
    ∷ event.Local (p 0) 40
    ∷ event.End (p 0) callback.EvtIoRead (h 5 8) (Stat status.Success)
    ∷ event.Tick 2
    ∷ event.Start (p 0) callback.EvtTimerFunc (h 7 2) None
    ∷ event.Log (p 0) (Num 99)
    ∷ event.End (p 0) callback.EvtTimerFunc (h 7 2) (Stat status.Success)
    ∷ event.Tick 3
    ∷ event.Tick 4
    ∷ event.Posted 1 (post.Write (h 2 3) 1) (Some (h 10 1))
    ∷ event.Start (p 0) callback.EvtIoWrite (h 4 7) (Some (h 10 1))
    ∷ event.Register (p 0) access.Write 1 1
    ∷ event.Did (p 0) (c call.WdfRequestComplete 2 (Val (Obj (h 10 1))) (Val (Stat status.Success)) (Val (Num 0))) (Stat status.Success)
    ∷ event.End (p 0) callback.EvtIoWrite (h 4 7) (Stat status.Success)
    ∷ event.Cleanup (h 10 1)
    ∷ event.Destroy (h 10 1)
    ∷ event.Tick 5
    ∷ event.Tick 6
    ∷ event.Tick 7
    ∷ event.Posted 2 (post.Act (action.Set 0 65)) None
    ∷ event.Posted 2 (post.Act (action.Raise (h 3 6))) None
    ∷ event.Start (p 0) callback.EvtInterruptIsr (h 3 6) None
    ∷ event.Register (p 0) access.Read 0 65
    ∷ event.Did (p 0) (c call.SetContext 3 (Val (Obj (h 2 3))) (Val (Num 1)) (Val (Num 65))) (Stat status.Success)
    ∷ event.Did (p 0) (c call.WdfInterruptQueueDpcForIsr 1 (Val (Obj (h 3 6))) (Val (Num 0)) (Val (Num 0))) (Num 1)
    ∷ event.End (p 0) callback.EvtInterruptIsr (h 3 6) (Stat status.Success)
    ∷ event.Start (p 0) callback.EvtInterruptDpc (h 3 6) None
    ∷ event.Did (p 0) (c call.WdfIoQueueRetrieveNextRequest 1 (Val (Obj (h 6 9))) (Val (Num 0)) (Val (Num 0))) (Obj (h 8 1))
    ∷ event.Local (p 0) 24
    ∷ event.Did (p 0) (c call.WdfRequestComplete 2 (Val (Obj (h 8 1))) (Val (Stat status.Success)) (Val (Num 0))) (Stat status.Success)
    ∷ event.End (p 0) callback.EvtInterruptDpc (h 3 6) (Stat status.Success)
    ∷ event.Cleanup (h 8 1)
    ∷ event.Destroy (h 8 1)
    ∷ event.Tick 8
    ∷ event.Tick 9
    ∷ event.Tick 10
    ∷ event.Posted 0 (post.Ask ask.Sleep (h 2 3)) None
    ∷ event.Stage (h 2 3) stage.QueuesDown None
    ∷ event.Stage (h 2 3) stage.Settled None
    ∷ event.Stage (h 2 3) stage.Disabled (Some (h 3 6))
    ∷ event.Stage (h 2 3) stage.Quiet None
    ∷ event.Start (p 0) callback.EvtDeviceD0Exit (h 2 3) None
    ∷ event.Did (p 0) (c call.GetContext 2 (Val (Obj (h 2 3))) (Val (Num 0)) (Val (Num 0))) (Obj (h 7 2))
    ∷ event.Did (p 0) (c call.WdfTimerStop 2 (Val (Obj (h 7 2))) (Val (Num 1)) (Val (Num 0))) (Num 0)
    ∷ event.End (p 0) callback.EvtDeviceD0Exit (h 2 3) (Stat status.Success)
    ∷ event.Stage (h 2 3) stage.Sleeping None
    ∷ event.Tick 11
    ∷ event.Tick 12
    ∷ event.Tick 13
    ∷ event.Tick 14
    ∷ event.Tick 15
    ∷ event.Posted 0 (post.Ask ask.Wake (h 2 3)) None
    ∷ event.Start (p 0) callback.EvtDeviceD0Entry (h 2 3) None
    ∷ event.Did (p 0) (c call.GetContext 2 (Val (Obj (h 2 3))) (Val (Num 0)) (Val (Num 0))) (Obj (h 7 2))
    ∷ event.Did (p 0) (c call.WdfTimerStart 2 (Val (Obj (h 7 2))) (Val (Num 2)) (Val (Num 0))) (Num 0)
    ∷ event.End (p 0) callback.EvtDeviceD0Entry (h 2 3) (Stat status.Success)
    ∷ event.Stage (h 2 3) stage.Enabled (Some (h 3 6))
    ∷ event.Stage (h 2 3) stage.QueuesUp None
    ∷ event.Stage (h 2 3) stage.Working None
    ∷ event.Tick 16
    ∷ event.Tick 17
    ∷ event.Start (p 0) callback.EvtTimerFunc (h 7 2) None
    ∷ event.Log (p 0) (Num 99)
    ∷ event.End (p 0) callback.EvtTimerFunc (h 7 2) (Stat status.Success)
    ∷ event.Tick 18
    ∷ event.Tick 19
    ∷ event.Tick 20
    ∷ event.Posted 1 (post.Write (h 2 3) 1) (Some (h 11 1))
    ∷ event.Start (p 0) callback.EvtIoWrite (h 4 7) (Some (h 11 1))
    ∷ event.Register (p 0) access.Write 1 1
    ∷ event.Did (p 0) (c call.WdfRequestComplete 2 (Val (Obj (h 11 1))) (Val (Stat status.Success)) (Val (Num 0))) (Stat status.Success)
    ∷ event.End (p 0) callback.EvtIoWrite (h 4 7) (Stat status.Success)
    ∷ event.Cleanup (h 11 1)
    ∷ event.Destroy (h 11 1)
    ∷ event.Tick 21
    ∷ event.Tick 22
    ∷ event.Tick 23
    ∷ event.Posted 2 (post.Act (action.Set 0 65)) None
    ∷ event.Posted 2 (post.Act (action.Raise (h 3 6))) None
    ∷ event.Start (p 0) callback.EvtInterruptIsr (h 3 6) None
    ∷ event.Register (p 0) access.Read 0 65
    ∷ event.Did (p 0) (c call.SetContext 3 (Val (Obj (h 2 3))) (Val (Num 1)) (Val (Num 65))) (Stat status.Success)
    ∷ event.Did (p 0) (c call.WdfInterruptQueueDpcForIsr 1 (Val (Obj (h 3 6))) (Val (Num 0)) (Val (Num 0))) (Num 1)
    ∷ event.End (p 0) callback.EvtInterruptIsr (h 3 6) (Stat status.Success)
    ∷ event.Start (p 0) callback.EvtInterruptDpc (h 3 6) None
    ∷ event.Did (p 0) (c call.WdfIoQueueRetrieveNextRequest 1 (Val (Obj (h 6 9))) (Val (Num 0)) (Val (Num 0))) (Obj (h 9 1))
    ∷ event.Local (p 0) 24
    ∷ event.Did (p 0) (c call.WdfRequestComplete 2 (Val (Obj (h 9 1))) (Val (Stat status.Success)) (Val (Num 0))) (Stat status.Success)
    ∷ event.End (p 0) callback.EvtInterruptDpc (h 3 6) (Stat status.Success)
    ∷ event.Cleanup (h 9 1)
    ∷ event.Destroy (h 9 1)
    ∷ event.Tick 24
    ∷ event.Tick 25
    ∷ event.Posted 1 (post.Read (h 2 3) 16) (Some (h 12 1))
    ∷ event.Start (p 0) callback.EvtIoRead (h 5 8) (Some (h 12 1))
    ∷ event.Did (p 0) (c call.WdfRequestForwardToIoQueue 2 (Val (Obj (h 12 1))) (Val (Obj (h 6 9))) (Val (Num 0))) (Stat status.Success)
    ∷ event.Local (p 0) 40
    ∷ event.End (p 0) callback.EvtIoRead (h 5 8) (Stat status.Success)
    ∷ event.Tick 26
    ∷ event.Tick 27
    ∷ event.Tick 28
    ∷ event.Tick 29
    ∷ event.Tick 30
    ∷ event.Tick 31
    ∷ event.Tick 32
    ∷ event.Tick 33
    ∷ event.Tick 34
    ∷ event.Tick 35
    ∷ event.Tick 36
    ∷ event.Tick 37
    ∷ event.Tick 38
    ∷ event.Tick 39
    ∷ event.Tick 40
    ∷ event.Posted 0 (post.Ask ask.Surprise (h 2 3)) None
    ∷ event.Stage (h 2 3) stage.QueuesDown None
    ∷ event.Stage (h 2 3) stage.Settled None
    ∷ event.Stage (h 2 3) stage.Disabled (Some (h 3 6))
    ∷ event.Stage (h 2 3) stage.Quiet None
    ∷ event.Start (p 0) callback.EvtDeviceD0Exit (h 2 3) None
    ∷ event.Did (p 0) (c call.GetContext 2 (Val (Obj (h 2 3))) (Val (Num 0)) (Val (Num 0))) (Obj (h 7 2))
    ∷ event.Did (p 0) (c call.WdfTimerStop 2 (Val (Obj (h 7 2))) (Val (Num 1)) (Val (Num 0))) (Num 0)
    ∷ event.End (p 0) callback.EvtDeviceD0Exit (h 2 3) (Stat status.Success)
    ∷ event.Stage (h 2 3) stage.NoHardware None
    ∷ event.Stage (h 2 3) stage.Closed None
    ∷ event.Complete (h 12 1) status.Cancelled
    ∷ event.Stage (h 2 3) stage.Removed None
    ∷ event.Cleanup (h 12 1)
    ∷ event.Cleanup (h 7 2)
    ∷ event.Cleanup (h 6 9)
    ∷ event.Cleanup (h 5 8)
    ∷ event.Cleanup (h 4 7)
    ∷ event.Cleanup (h 3 6)
    ∷ event.Cleanup (h 2 3)
    ∷ event.Destroy (h 3 6)
    ∷ event.Destroy (h 4 7)
    ∷ event.Destroy (h 5 8)
    ∷ event.Destroy (h 6 9)
    ∷ event.Destroy (h 7 2)
    ∷ event.Destroy (h 12 1)
    ∷ event.Destroy (h 2 3)
    ∷ []
