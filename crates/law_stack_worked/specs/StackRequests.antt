-- Worked runs: the plan of each, its events, and what it waits for where it is stuck. Made by
-- tools/scene_to_plan.py from the scenarios and traces of tools/stack.
use Rattle.std.specs.Prelude.{List, [], ◌∷◌, Some, None, true, false, codes}
use Rattle.wdf_base.specs.declared.declared.Declared.TheVariants as declared
use Rattle.wdf_base.specs.declared.declared.ClassInfo.TheVariants as class
use Rattle.wdf_base.specs.declared.declared.PlainKind.TheVariants as plain
use Rattle.wdf_base.specs.declared.declared.DeferredKind.TheVariants as deferred
use Rattle.wdf_base.specs.declared.declared.Scope.TheVariants as scope
use Rattle.wdf_base.specs.declared.declared.ExecutionLevel.TheVariants as level
use Rattle.wdf_base.specs.declared.declared.DispatchKind.TheVariants as dispatch
use Rattle.wdf_base.specs.declared.event.Post.TheVariants as post
use Rattle.wdf_base.specs.declared.event.Event.{Event}
use Rattle.wdf_base.specs.declared.event.Event.TheVariants as event
use Rattle.wdf_base.specs.declared.script.ExprNode.TheVariants as node
use Rattle.wdf_base.specs.declared.script.ContextWord.TheVariants as context
use Rattle.wdf_base.specs.declared.script.Operator.TheVariants as operator
use Rattle.wdf_base.specs.declared.script.ArgNode.TheVariants as arg
use Rattle.wdf_base.specs.declared.script.Act.TheVariants as act
use Rattle.wdf_base.specs.declared.call.Arg.TheVariants.{Val, Class}
use Rattle.wdf_base.specs.declared.call.CallKind.TheVariants as call
use Rattle.wdf_base.specs.declared.call.Callback.TheVariants as callback
use Rattle.wdf_base.specs.declared.value.Status.TheVariants as status
use Rattle.wdf_base.specs.declared.value.Value.TheVariants.{Num, Obj, Stat}
use Rattle.wdf_base.specs.declared.plan.Plan.{Plan}
use Rattle.law_machine_worked.specs.Writing.{h, p, f, c, at, s, a_plan, a_device, a_queue, serves, a_target, an_agent, a_script}

abbrev pub a_cancel_goes_down_plan : Plan
a_cancel_goes_down_plan = record (a_plan 1 200 32) {
  names = (codes "driver") ∷ (codes "req") ∷ (codes "D") ∷ (codes "Q") ∷ (codes "TO_E") ∷ (codes "E") ∷ (codes "R") ∷ (codes "TO_F") ∷ (codes "F") ∷ (codes "S") ∷ (codes "A") ∷ [];
  declared = declared.Driver
      ∷ a_device 2 true scope.Unscoped level.Dispatch
      ∷ a_queue 3 2 (dispatch.Parallel 4) (serves true false false false) true false scope.Unscoped level.Dispatch
      ∷ a_target 4 2 0 status.Success 4
      ∷ a_device 5 true scope.Unscoped level.Dispatch
      ∷ a_queue 6 5 (dispatch.Parallel 4) (serves true false false false) true false scope.Unscoped level.Dispatch
      ∷ a_target 7 5 0 status.Success 4
      ∷ a_device 8 true scope.Unscoped level.Dispatch
      ∷ a_queue 9 8 dispatch.Sequential (serves true false false false) true false scope.Unscoped level.Dispatch
      ∷ [];
  agents = (an_agent 10 ((at 48 0 (post.Read (h 2 2) 16)) ∷ (at 49 1 (post.Cancel 1)) ∷ [])) ∷ (an_agent 2 []) ∷ (an_agent 5 []) ∷ (an_agent 8 []) ∷ (an_agent 4 []) ∷ (an_agent 7 []) ∷ [];
  exprs = (node.Context context.OwnRequest) ∷ (node.Object (h 4 4)) ∷ (node.Number 0) ∷ (node.Variable 0) ∷ (node.Number 0) ∷ (node.Binary operator.Equals 3 4) ∷ (node.Context context.OwnRequest) ∷ (node.Literal status.Unsuccessful) ∷ (node.Context context.OwnRequest) ∷ (node.Context context.CompletionStatus) ∷ (node.Context context.OwnRequest) ∷ (node.Object (h 7 7)) ∷ (node.Number 0) ∷ (node.Variable 0) ∷ (node.Number 0) ∷ (node.Binary operator.Equals 13 14) ∷ (node.Context context.OwnRequest) ∷ (node.Literal status.Unsuccessful) ∷ (node.Context context.OwnRequest) ∷ (node.Context context.CompletionStatus) ∷ (node.Context context.OwnRequest) ∷ (node.Context context.OwnRequest) ∷ (node.Literal status.Cancelled) ∷ [];
  scripts = a_script callback.EvtIoDefault (a_queue 3 2 (dispatch.Parallel 4) (serves true false false false) true false scope.Unscoped level.Dispatch) 7
      (s 8 1 (act.Call call.WdfRequestSend (Some 0) (arg.Expression 0) (arg.Expression 1) (arg.Expression 2))
      ∷ s 9 2 (act.If 5 3)
      ∷ s 10 3 (act.Call call.WdfRequestComplete None (arg.Expression 6) (arg.Expression 7) arg.NoArgument) ∷ [])
      ∷ a_script callback.EvtRequestCompletion (a_target 4 2 0 status.Success 4) 15 (s 16 1 (act.Call call.WdfRequestComplete None (arg.Expression 8) (arg.Expression 9) arg.NoArgument) ∷ [])
      ∷ a_script callback.EvtIoDefault (a_queue 6 5 (dispatch.Parallel 4) (serves true false false false) true false scope.Unscoped level.Dispatch) 23
      (s 24 1 (act.Call call.WdfRequestSend (Some 0) (arg.Expression 10) (arg.Expression 11) (arg.Expression 12))
      ∷ s 25 2 (act.If 15 3)
      ∷ s 26 3 (act.Call call.WdfRequestComplete None (arg.Expression 16) (arg.Expression 17) arg.NoArgument) ∷ [])
      ∷ a_script callback.EvtRequestCompletion (a_target 7 5 0 status.Success 4) 31 (s 32 1 (act.Call call.WdfRequestComplete None (arg.Expression 18) (arg.Expression 19) arg.NoArgument) ∷ [])
      ∷ a_script callback.EvtIoRead (a_queue 9 8 dispatch.Sequential (serves true false false false) true false scope.Unscoped level.Dispatch) 39 (s 40 1 (act.Call call.WdfRequestMarkCancelableEx None (arg.Expression 20) arg.NoArgument arg.NoArgument) ∷ [])
      ∷ a_script callback.EvtRequestCancel (a_queue 9 8 dispatch.Sequential (serves true false false false) true false scope.Unscoped level.Dispatch) 42 (s 43 1 (act.Call call.WdfRequestComplete None (arg.Expression 21) (arg.Expression 22) arg.NoArgument) ∷ [])
      ∷ [];
}

abbrev pub a_cancel_goes_down_events : List Event
a_cancel_goes_down_events = event.Posted 1 (post.Read (h 2 2) 16) (Some (h 10 1))
    ∷ event.Start (p 0) callback.EvtIoDefault (h 3 3) (Some (h 10 1))
    ∷ event.Did (p 0) (c call.WdfRequestSend 3 (Val (Obj (h 10 1))) (Val (Obj (h 4 4))) (Val (Num 0))) (Num 1)
    ∷ event.Local (p 0) 9
    ∷ event.End (p 0) callback.EvtIoDefault (h 3 3) (Stat status.Success)
    ∷ event.Posted 5 (post.Read (h 5 5) 16) (Some (h 11 1))
    ∷ event.Start (p 0) callback.EvtIoDefault (h 6 6) (Some (h 11 1))
    ∷ event.Did (p 0) (c call.WdfRequestSend 3 (Val (Obj (h 11 1))) (Val (Obj (h 7 7))) (Val (Num 0))) (Num 1)
    ∷ event.Local (p 0) 25
    ∷ event.End (p 0) callback.EvtIoDefault (h 6 6) (Stat status.Success)
    ∷ event.Posted 6 (post.Read (h 8 8) 16) (Some (h 12 1))
    ∷ event.Start (p 0) callback.EvtIoRead (h 9 9) (Some (h 12 1))
    ∷ event.Did (p 0) (c call.WdfRequestMarkCancelableEx 1 (Val (Obj (h 12 1))) (Val (Num 0)) (Val (Num 0))) (Stat status.Success)
    ∷ event.End (p 0) callback.EvtIoRead (h 9 9) (Stat status.Success)
    ∷ event.Tick 1
    ∷ event.Posted 1 (post.Cancel 1) (Some (h 10 1))
    ∷ event.Posted 5 (post.Cancel 1) (Some (h 11 1))
    ∷ event.Posted 6 (post.Cancel 1) (Some (h 12 1))
    ∷ event.Start (p 0) callback.EvtRequestCancel (h 9 9) (Some (h 12 1))
    ∷ event.Did (p 0) (c call.WdfRequestComplete 2 (Val (Obj (h 12 1))) (Val (Stat status.Cancelled)) (Val (Num 0))) (Stat status.Success)
    ∷ event.End (p 0) callback.EvtRequestCancel (h 9 9) (Stat status.Success)
    ∷ event.Cleanup (h 12 1)
    ∷ event.Destroy (h 12 1)
    ∷ event.Posted 6 (post.Done (h 11 1) status.Cancelled) None
    ∷ event.Start (p 0) callback.EvtRequestCompletion (h 7 7) (Some (h 11 1))
    ∷ event.Did (p 0) (c call.WdfRequestComplete 2 (Val (Obj (h 11 1))) (Val (Stat status.Cancelled)) (Val (Num 0))) (Stat status.Success)
    ∷ event.End (p 0) callback.EvtRequestCompletion (h 7 7) (Stat status.Success)
    ∷ event.Cleanup (h 11 1)
    ∷ event.Destroy (h 11 1)
    ∷ event.Posted 5 (post.Done (h 10 1) status.Cancelled) None
    ∷ event.Start (p 0) callback.EvtRequestCompletion (h 4 4) (Some (h 10 1))
    ∷ event.Did (p 0) (c call.WdfRequestComplete 2 (Val (Obj (h 10 1))) (Val (Stat status.Cancelled)) (Val (Num 0))) (Stat status.Success)
    ∷ event.End (p 0) callback.EvtRequestCompletion (h 4 4) (Stat status.Success)
    ∷ event.Cleanup (h 10 1)
    ∷ event.Destroy (h 10 1)
    ∷ []

abbrev pub a_made_request_goes_down_plan : Plan
a_made_request_goes_down_plan = record (a_plan 1 200 32) {
  names = (codes "driver") ∷ (codes "req") ∷ (codes "M") ∷ (codes "D") ∷ (codes "Q") ∷ (codes "TO_E") ∷ (codes "E") ∷ (codes "R") ∷ (codes "A") ∷ [];
  declared = declared.Driver
      ∷ a_device 3 true scope.Unscoped level.Dispatch
      ∷ a_queue 4 2 dispatch.Sequential (serves true false false false) true false scope.Unscoped level.Dispatch
      ∷ a_target 5 2 7 status.Unsuccessful 4
      ∷ a_device 6 true scope.Unscoped level.Dispatch
      ∷ a_queue 7 5 dispatch.Sequential (serves true false false false) true false scope.Unscoped level.Dispatch
      ∷ [];
  classes = (class.Plain 2 plain.Request) ∷ [];
  agents = (an_agent 8 ((at 31 0 (post.Read (h 2 3) 16)) ∷ [])) ∷ (an_agent 3 []) ∷ (an_agent 6 []) ∷ (an_agent 5 []) ∷ [];
  exprs = (node.Context context.NearestDevice) ∷ (node.Context context.NearestDevice) ∷ (node.Number 0) ∷ (node.Context context.OwnRequest) ∷ (node.Variable 0) ∷ (node.Object (h 4 5)) ∷ (node.Number 0) ∷ (node.Context context.NearestDevice) ∷ (node.Number 0) ∷ (node.Variable 0) ∷ (node.Context context.CompletionStatus) ∷ (node.Context context.OwnRequest) ∷ (node.Literal status.Success) ∷ [];
  scripts = a_script callback.EvtIoRead (a_queue 4 2 dispatch.Sequential (serves true false false false) true false scope.Unscoped level.Dispatch) 9
      (s 10 1 (act.Call call.WdfRequestCreate (Some 0) (arg.OfClass 0) (arg.Expression 0) arg.NoArgument)
      ∷ s 11 2 (act.Call call.SetContext None (arg.Expression 1) (arg.Expression 2) (arg.Expression 3))
      ∷ s 12 3 (act.Call call.WdfRequestSend (Some 1) (arg.Expression 4) (arg.Expression 5) (arg.Expression 6)) ∷ [])
      ∷ a_script callback.EvtRequestCompletion (a_target 5 2 7 status.Unsuccessful 4) 16
      (s 17 1 (act.Call call.GetContext (Some 0) (arg.Expression 7) (arg.Expression 8) arg.NoArgument)
      ∷ s 18 2 (act.Call call.WdfRequestComplete None (arg.Expression 9) (arg.Expression 10) arg.NoArgument) ∷ [])
      ∷ a_script callback.EvtIoDeviceControl (a_queue 7 5 dispatch.Sequential (serves true false false false) true false scope.Unscoped level.Dispatch) 25 (s 26 1 (act.Call call.WdfRequestComplete None (arg.Expression 11) (arg.Expression 12) arg.NoArgument) ∷ [])
      ∷ [];
}

abbrev pub a_made_request_goes_down_events : List Event
a_made_request_goes_down_events = event.Posted 1 (post.Read (h 2 3) 16) (Some (h 7 1))
    ∷ event.Start (p 0) callback.EvtIoRead (h 3 4) (Some (h 7 1))
    ∷ event.Did (p 0) (c call.WdfRequestCreate 2 (Class 0) (Val (Obj (h 2 3))) (Val (Num 0))) (Obj (h 8 2))
    ∷ event.Did (p 0) (c call.SetContext 3 (Val (Obj (h 2 3))) (Val (Num 0)) (Val (Obj (h 7 1)))) (Stat status.Success)
    ∷ event.Did (p 0) (c call.WdfRequestSend 3 (Val (Obj (h 8 2))) (Val (Obj (h 4 5))) (Val (Num 0))) (Num 1)
    ∷ event.End (p 0) callback.EvtIoRead (h 3 4) (Stat status.Success)
    ∷ event.Posted 4 (post.Control (h 5 6) 0 0) (Some (h 9 1))
    ∷ event.Start (p 0) callback.EvtIoDeviceControl (h 6 7) (Some (h 9 1))
    ∷ event.Did (p 0) (c call.WdfRequestComplete 2 (Val (Obj (h 9 1))) (Val (Stat status.Success)) (Val (Num 0))) (Stat status.Success)
    ∷ event.End (p 0) callback.EvtIoDeviceControl (h 6 7) (Stat status.Success)
    ∷ event.Cleanup (h 9 1)
    ∷ event.Destroy (h 9 1)
    ∷ event.Posted 4 (post.Done (h 8 2) status.Success) None
    ∷ event.Start (p 0) callback.EvtRequestCompletion (h 4 5) (Some (h 8 2))
    ∷ event.Did (p 0) (c call.GetContext 2 (Val (Obj (h 2 3))) (Val (Num 0)) (Val (Num 0))) (Obj (h 7 1))
    ∷ event.Did (p 0) (c call.WdfRequestComplete 2 (Val (Obj (h 7 1))) (Val (Stat status.Success)) (Val (Num 0))) (Stat status.Success)
    ∷ event.End (p 0) callback.EvtRequestCompletion (h 4 5) (Stat status.Success)
    ∷ event.Cleanup (h 7 1)
    ∷ event.Destroy (h 7 1)
    ∷ []

abbrev pub a_sent_request_is_cancelled_plan : Plan
a_sent_request_is_cancelled_plan = record (a_plan 1 200 32) {
  names = (codes "driver") ∷ (codes "req") ∷ (codes "D") ∷ (codes "Q") ∷ (codes "TO_E") ∷ (codes "E") ∷ (codes "R") ∷ (codes "A") ∷ [];
  declared = declared.Driver
      ∷ a_device 2 true scope.Unscoped level.Dispatch
      ∷ a_queue 3 2 (dispatch.Parallel 4) (serves true false false false) true false scope.Unscoped level.Dispatch
      ∷ a_target 4 2 0 status.Success 4
      ∷ a_device 5 true scope.Unscoped level.Dispatch
      ∷ a_queue 6 5 dispatch.Manual (serves true false false false) true false scope.Unscoped level.Dispatch
      ∷ [];
  agents = (an_agent 7 ((at 29 0 (post.Read (h 2 2) 16)) ∷ (at 30 0 (post.Write (h 2 2) 8)) ∷ [])) ∷ (an_agent 2 []) ∷ (an_agent 5 []) ∷ (an_agent 4 []) ∷ [];
  exprs = (node.Context context.OwnRequest) ∷ (node.Object (h 4 4)) ∷ (node.Number 0) ∷ (node.Context context.OwnRequest) ∷ (node.Context context.OwnRequest) ∷ (node.Object (h 4 4)) ∷ (node.Number 0) ∷ (node.Number 2) ∷ (node.Context context.OwnRequest) ∷ (node.Context context.OwnRequest) ∷ (node.Context context.CompletionStatus) ∷ [];
  scripts = a_script callback.EvtIoRead (a_queue 3 2 (dispatch.Parallel 4) (serves true false false false) true false scope.Unscoped level.Dispatch) 7
      (s 8 1 (act.Call call.WdfRequestSend (Some 0) (arg.Expression 0) (arg.Expression 1) (arg.Expression 2))
      ∷ s 9 2 (act.Call call.WdfRequestCancelSentRequest None (arg.Expression 3) arg.NoArgument arg.NoArgument) ∷ [])
      ∷ a_script callback.EvtIoWrite (a_queue 3 2 (dispatch.Parallel 4) (serves true false false false) true false scope.Unscoped level.Dispatch) 11
      (s 12 1 (act.Call call.WdfRequestSend (Some 0) (arg.Expression 4) (arg.Expression 5) (arg.Expression 6))
      ∷ s 13 2 (act.Spend 7)
      ∷ s 14 3 (act.Call call.WdfRequestCancelSentRequest None (arg.Expression 8) arg.NoArgument arg.NoArgument) ∷ [])
      ∷ a_script callback.EvtRequestCompletion (a_target 4 2 0 status.Success 4) 18 (s 19 1 (act.Call call.WdfRequestComplete None (arg.Expression 9) (arg.Expression 10) arg.NoArgument) ∷ [])
      ∷ [];
}

abbrev pub a_sent_request_is_cancelled_events : List Event
a_sent_request_is_cancelled_events = event.Posted 1 (post.Read (h 2 2) 16) (Some (h 7 1))
    ∷ event.Start (p 0) callback.EvtIoRead (h 3 3) (Some (h 7 1))
    ∷ event.Did (p 0) (c call.WdfRequestSend 3 (Val (Obj (h 7 1))) (Val (Obj (h 4 4))) (Val (Num 0))) (Num 1)
    ∷ event.Did (p 0) (c call.WdfRequestCancelSentRequest 1 (Val (Obj (h 7 1))) (Val (Num 0)) (Val (Num 0))) (Num 1)
    ∷ event.End (p 0) callback.EvtIoRead (h 3 3) (Stat status.Success)
    ∷ event.Posted 1 (post.Write (h 2 2) 8) (Some (h 8 1))
    ∷ event.Start (p 0) callback.EvtIoWrite (h 3 3) (Some (h 8 1))
    ∷ event.Did (p 0) (c call.WdfRequestSend 3 (Val (Obj (h 8 1))) (Val (Obj (h 4 4))) (Val (Num 0))) (Num 1)
    ∷ event.Spend (p 0) 2
    ∷ event.Posted 4 (post.Done (h 7 1) status.Cancelled) None
    ∷ event.Posted 4 (post.Write (h 5 5) 8) (Some (h 9 1))
    ∷ event.Tick 1
    ∷ event.Tick 2
    ∷ event.Did (p 0) (c call.WdfRequestCancelSentRequest 1 (Val (Obj (h 8 1))) (Val (Num 0)) (Val (Num 0))) (Num 1)
    ∷ event.End (p 0) callback.EvtIoWrite (h 3 3) (Stat status.Success)
    ∷ event.Start (p 0) callback.EvtRequestCompletion (h 4 4) (Some (h 7 1))
    ∷ event.Did (p 0) (c call.WdfRequestComplete 2 (Val (Obj (h 7 1))) (Val (Stat status.Cancelled)) (Val (Num 0))) (Stat status.Success)
    ∷ event.End (p 0) callback.EvtRequestCompletion (h 4 4) (Stat status.Success)
    ∷ event.Cleanup (h 7 1)
    ∷ event.Destroy (h 7 1)
    ∷ event.Posted 4 (post.Cancel 1) (Some (h 9 1))
    ∷ event.Complete (h 9 1) status.Cancelled
    ∷ event.Cleanup (h 9 1)
    ∷ event.Destroy (h 9 1)
    ∷ event.Posted 4 (post.Done (h 8 1) status.Cancelled) None
    ∷ event.Start (p 0) callback.EvtRequestCompletion (h 4 4) (Some (h 8 1))
    ∷ event.Did (p 0) (c call.WdfRequestComplete 2 (Val (Obj (h 8 1))) (Val (Stat status.Cancelled)) (Val (Num 0))) (Stat status.Success)
    ∷ event.End (p 0) callback.EvtRequestCompletion (h 4 4) (Stat status.Success)
    ∷ event.Cleanup (h 8 1)
    ∷ event.Destroy (h 8 1)
    ∷ []

abbrev pub a_stopped_target_cancels_plan : Plan
a_stopped_target_cancels_plan = record (a_plan 1 200 32) {
  names = (codes "driver") ∷ (codes "req") ∷ (codes "W") ∷ (codes "D") ∷ (codes "Q") ∷ (codes "TO_E") ∷ (codes "E") ∷ (codes "R") ∷ (codes "A") ∷ [];
  declared = declared.Driver
      ∷ a_device 3 true scope.Unscoped level.Passive
      ∷ a_queue 4 2 (dispatch.Parallel 4) (serves true false false false) true false scope.Unscoped level.Passive
      ∷ a_target 5 2 0 status.Success 4
      ∷ a_device 6 true scope.Unscoped level.Passive
      ∷ a_queue 7 5 dispatch.Manual (serves true false false false) true false scope.Unscoped level.Passive
      ∷ [];
  classes = (class.Deferred 2 deferred.WorkItem (record { 0 = 2 }) false 0) ∷ [];
  agents = (an_agent 8 ((at 37 0 (post.Read (h 2 3) 16)) ∷ (at 38 1 (post.Control (h 2 3) 3 0)) ∷ [])) ∷ (an_agent 3 []) ∷ (an_agent 6 []) ∷ (an_agent 5 []) ∷ [];
  exprs = (node.Object (h 4 5)) ∷ (node.Number 0) ∷ (node.Number 1) ∷ (node.Context context.OwnRequest) ∷ (node.Object (h 4 5)) ∷ (node.Number 0) ∷ (node.Variable 0) ∷ (node.Context context.OwnRequest) ∷ (node.Literal status.Success) ∷ (node.Context context.OwnRequest) ∷ (node.Context context.CompletionStatus) ∷ [];
  scripts = a_script callback.EvtWorkItem (declared.OfClass 0) 8
      (s 9 1 (act.Call call.WdfIoTargetStop None (arg.Expression 0) (arg.Expression 1) arg.NoArgument)
      ∷ s 10 2 (act.Log 2) ∷ [])
      ∷ a_script callback.EvtIoDefault (a_queue 4 2 (dispatch.Parallel 4) (serves true false false false) true false scope.Unscoped level.Passive) 16 (s 17 1 (act.Call call.WdfRequestSend None (arg.Expression 3) (arg.Expression 4) (arg.Expression 5)) ∷ [])
      ∷ a_script callback.EvtIoDeviceControl (a_queue 4 2 (dispatch.Parallel 4) (serves true false false false) true false scope.Unscoped level.Passive) 19
      (s 20 1 (act.Call call.WdfWorkItemCreate (Some 0) (arg.OfClass 0) arg.NoArgument arg.NoArgument)
      ∷ s 21 2 (act.Call call.WdfWorkItemEnqueue None (arg.Expression 6) arg.NoArgument arg.NoArgument)
      ∷ s 22 3 (act.Call call.WdfRequestComplete None (arg.Expression 7) (arg.Expression 8) arg.NoArgument) ∷ [])
      ∷ a_script callback.EvtRequestCompletion (a_target 5 2 0 status.Success 4) 26 (s 27 1 (act.Call call.WdfRequestComplete None (arg.Expression 9) (arg.Expression 10) arg.NoArgument) ∷ [])
      ∷ [];
}

abbrev pub a_stopped_target_cancels_events : List Event
a_stopped_target_cancels_events = event.Posted 1 (post.Read (h 2 3) 16) (Some (h 7 1))
    ∷ event.Start (p 0) callback.EvtIoDefault (h 3 4) (Some (h 7 1))
    ∷ event.Did (p 0) (c call.WdfRequestSend 3 (Val (Obj (h 7 1))) (Val (Obj (h 4 5))) (Val (Num 0))) (Num 1)
    ∷ event.End (p 0) callback.EvtIoDefault (h 3 4) (Stat status.Success)
    ∷ event.Posted 4 (post.Read (h 5 6) 16) (Some (h 8 1))
    ∷ event.Tick 1
    ∷ event.Posted 1 (post.Control (h 2 3) 3 0) (Some (h 9 1))
    ∷ event.Start (p 0) callback.EvtIoDeviceControl (h 3 4) (Some (h 9 1))
    ∷ event.Did (p 0) (c call.WdfWorkItemCreate 1 (Class 0) (Val (Num 0)) (Val (Num 0))) (Obj (h 10 2))
    ∷ event.Did (p 0) (c call.WdfWorkItemEnqueue 1 (Val (Obj (h 10 2))) (Val (Num 0)) (Val (Num 0))) (Stat status.Success)
    ∷ event.Did (p 0) (c call.WdfRequestComplete 2 (Val (Obj (h 9 1))) (Val (Stat status.Success)) (Val (Num 0))) (Stat status.Success)
    ∷ event.End (p 0) callback.EvtIoDeviceControl (h 3 4) (Stat status.Success)
    ∷ event.Start (p 0) callback.EvtWorkItem (h 10 2) None
    ∷ event.Waiting (p 0) (c call.WdfIoTargetStop 2 (Val (Obj (h 4 5))) (Val (Num 0)) (Val (Num 0)))
    ∷ event.Park (p 0) (f 13)
    ∷ event.Cleanup (h 9 1)
    ∷ event.Destroy (h 9 1)
    ∷ event.Posted 4 (post.Cancel 1) (Some (h 8 1))
    ∷ event.Complete (h 8 1) status.Cancelled
    ∷ event.Cleanup (h 8 1)
    ∷ event.Destroy (h 8 1)
    ∷ event.Posted 4 (post.Done (h 7 1) status.Cancelled) None
    ∷ event.Start (p 0) callback.EvtRequestCompletion (h 4 5) (Some (h 7 1))
    ∷ event.Did (p 0) (c call.WdfRequestComplete 2 (Val (Obj (h 7 1))) (Val (Stat status.Cancelled)) (Val (Num 0))) (Stat status.Success)
    ∷ event.End (p 0) callback.EvtRequestCompletion (h 4 5) (Stat status.Success)
    ∷ event.Unpark (p 0) (f 13)
    ∷ event.Woke (p 0) (c call.WdfIoTargetStop 2 (Val (Obj (h 4 5))) (Val (Num 0)) (Val (Num 0))) (Stat status.Success)
    ∷ event.Log (p 0) (Num 1)
    ∷ event.End (p 0) callback.EvtWorkItem (h 10 2) (Stat status.Success)
    ∷ event.Cleanup (h 7 1)
    ∷ event.Destroy (h 7 1)
    ∷ []

abbrev pub depth_is_reached_plan : Plan
depth_is_reached_plan = record (a_plan 1 200 32) {
  names = (codes "driver") ∷ (codes "req") ∷ (codes "D") ∷ (codes "Q") ∷ (codes "TO_E") ∷ (codes "E") ∷ (codes "R") ∷ (codes "A") ∷ [];
  declared = declared.Driver
      ∷ a_device 2 true scope.Unscoped level.Dispatch
      ∷ a_queue 3 2 (dispatch.Parallel 4) (serves true false false false) true false scope.Unscoped level.Dispatch
      ∷ a_target 4 2 0 status.Success 1
      ∷ a_device 5 true scope.Unscoped level.Dispatch
      ∷ a_queue 6 5 dispatch.Sequential (serves true false false false) true false scope.Unscoped level.Dispatch
      ∷ [];
  agents = (an_agent 7 ((at 33 0 (post.Read (h 2 2) 16)) ∷ (at 34 0 (post.Write (h 2 2) 8)) ∷ [])) ∷ (an_agent 2 []) ∷ (an_agent 5 []) ∷ (an_agent 4 []) ∷ [];
  exprs = (node.Context context.OwnRequest) ∷ (node.Object (h 4 4)) ∷ (node.Number 0) ∷ (node.Variable 0) ∷ (node.Number 0) ∷ (node.Binary operator.Equals 3 4) ∷ (node.Context context.OwnRequest) ∷ (node.Literal status.Unsuccessful) ∷ (node.Context context.OwnRequest) ∷ (node.Context context.CompletionStatus) ∷ (node.Context context.OwnRequest) ∷ (node.Literal status.Success) ∷ (node.Number 1) ∷ (node.Context context.OwnRequest) ∷ (node.Literal status.Success) ∷ [];
  scripts = a_script callback.EvtIoDefault (a_queue 3 2 (dispatch.Parallel 4) (serves true false false false) true false scope.Unscoped level.Dispatch) 7
      (s 8 1 (act.Call call.WdfRequestSend (Some 0) (arg.Expression 0) (arg.Expression 1) (arg.Expression 2))
      ∷ s 9 2 (act.If 5 3)
      ∷ s 10 3 (act.Call call.WdfRequestComplete None (arg.Expression 6) (arg.Expression 7) arg.NoArgument) ∷ [])
      ∷ a_script callback.EvtRequestCompletion (a_target 4 2 0 status.Success 1) 15 (s 16 1 (act.Call call.WdfRequestComplete None (arg.Expression 8) (arg.Expression 9) arg.NoArgument) ∷ [])
      ∷ a_script callback.EvtIoWrite (a_queue 6 5 dispatch.Sequential (serves true false false false) true false scope.Unscoped level.Dispatch) 23 (s 24 1 (act.Call call.WdfRequestComplete None (arg.Expression 10) (arg.Expression 11) arg.NoArgument) ∷ [])
      ∷ a_script callback.EvtIoRead (a_queue 6 5 dispatch.Sequential (serves true false false false) true false scope.Unscoped level.Dispatch) 26
      (s 27 1 (act.Spend 12)
      ∷ s 28 2 (act.Call call.WdfRequestComplete None (arg.Expression 13) (arg.Expression 14) arg.NoArgument) ∷ [])
      ∷ [];
}

abbrev pub depth_is_reached_events : List Event
depth_is_reached_events = event.Posted 1 (post.Read (h 2 2) 16) (Some (h 7 1))
    ∷ event.Start (p 0) callback.EvtIoDefault (h 3 3) (Some (h 7 1))
    ∷ event.Did (p 0) (c call.WdfRequestSend 3 (Val (Obj (h 7 1))) (Val (Obj (h 4 4))) (Val (Num 0))) (Num 1)
    ∷ event.Local (p 0) 9
    ∷ event.End (p 0) callback.EvtIoDefault (h 3 3) (Stat status.Success)
    ∷ event.Posted 1 (post.Write (h 2 2) 8) (Some (h 8 1))
    ∷ event.Start (p 0) callback.EvtIoDefault (h 3 3) (Some (h 8 1))
    ∷ event.Did (p 0) (c call.WdfRequestSend 3 (Val (Obj (h 8 1))) (Val (Obj (h 4 4))) (Val (Num 0))) (Num 0)
    ∷ event.Local (p 0) 9
    ∷ event.Did (p 0) (c call.WdfRequestComplete 2 (Val (Obj (h 8 1))) (Val (Stat status.Unsuccessful)) (Val (Num 0))) (Stat status.Success)
    ∷ event.End (p 0) callback.EvtIoDefault (h 3 3) (Stat status.Success)
    ∷ event.Cleanup (h 8 1)
    ∷ event.Destroy (h 8 1)
    ∷ event.Posted 4 (post.Read (h 5 5) 16) (Some (h 9 1))
    ∷ event.Start (p 0) callback.EvtIoRead (h 6 6) (Some (h 9 1))
    ∷ event.Spend (p 0) 1
    ∷ event.Tick 1
    ∷ event.Did (p 0) (c call.WdfRequestComplete 2 (Val (Obj (h 9 1))) (Val (Stat status.Success)) (Val (Num 0))) (Stat status.Success)
    ∷ event.End (p 0) callback.EvtIoRead (h 6 6) (Stat status.Success)
    ∷ event.Cleanup (h 9 1)
    ∷ event.Destroy (h 9 1)
    ∷ event.Posted 4 (post.Done (h 7 1) status.Success) None
    ∷ event.Start (p 0) callback.EvtRequestCompletion (h 4 4) (Some (h 7 1))
    ∷ event.Did (p 0) (c call.WdfRequestComplete 2 (Val (Obj (h 7 1))) (Val (Stat status.Success)) (Val (Num 0))) (Stat status.Success)
    ∷ event.End (p 0) callback.EvtRequestCompletion (h 4 4) (Stat status.Success)
    ∷ event.Cleanup (h 7 1)
    ∷ event.Destroy (h 7 1)
    ∷ []

abbrev pub one_target_is_connected_plan : Plan
one_target_is_connected_plan = record (a_plan 1 200 32) {
  names = (codes "driver") ∷ (codes "req") ∷ (codes "D") ∷ (codes "Q") ∷ (codes "TO_F") ∷ (codes "TO_E") ∷ (codes "E") ∷ (codes "R") ∷ (codes "F") ∷ (codes "S") ∷ (codes "A") ∷ [];
  declared = declared.Driver
      ∷ a_device 2 true scope.Unscoped level.Dispatch
      ∷ a_queue 3 2 dispatch.Sequential (serves true false false false) true false scope.Unscoped level.Dispatch
      ∷ a_target 4 2 0 status.Success 4
      ∷ a_target 5 2 3 status.Unsuccessful 4
      ∷ a_device 6 true scope.Unscoped level.Dispatch
      ∷ a_queue 7 6 dispatch.Sequential (serves true false false false) true false scope.Unscoped level.Dispatch
      ∷ a_device 8 true scope.Unscoped level.Dispatch
      ∷ a_queue 9 8 dispatch.Sequential (serves true false false false) true false scope.Unscoped level.Dispatch
      ∷ [];
  agents = (an_agent 10 ((at 42 0 (post.Read (h 2 2) 8)) ∷ (at 43 0 (post.Write (h 2 2) 8)) ∷ [])) ∷ (an_agent 2 []) ∷ (an_agent 6 []) ∷ (an_agent 8 []) ∷ (an_agent 4 []) ∷ (an_agent 5 []) ∷ [];
  exprs = (node.Context context.OwnRequest) ∷ (node.Object (h 4 4)) ∷ (node.Number 0) ∷ (node.Context context.OwnRequest) ∷ (node.Object (h 5 5)) ∷ (node.Number 0) ∷ (node.Context context.OwnRequest) ∷ (node.Context context.CompletionStatus) ∷ (node.Context context.OwnRequest) ∷ (node.Context context.CompletionStatus) ∷ (node.Context context.OwnRequest) ∷ (node.Literal status.Success) ∷ (node.Context context.OwnRequest) ∷ (node.Literal status.Success) ∷ [];
  scripts = a_script callback.EvtIoRead (a_queue 3 2 dispatch.Sequential (serves true false false false) true false scope.Unscoped level.Dispatch) 7 (s 8 1 (act.Call call.WdfRequestSend (Some 0) (arg.Expression 0) (arg.Expression 1) (arg.Expression 2)) ∷ [])
      ∷ a_script callback.EvtIoWrite (a_queue 3 2 dispatch.Sequential (serves true false false false) true false scope.Unscoped level.Dispatch) 10 (s 11 1 (act.Call call.WdfRequestSend (Some 0) (arg.Expression 3) (arg.Expression 4) (arg.Expression 5)) ∷ [])
      ∷ a_script callback.EvtRequestCompletion (a_target 4 2 0 status.Success 4) 15 (s 16 1 (act.Call call.WdfRequestComplete None (arg.Expression 6) (arg.Expression 7) arg.NoArgument) ∷ [])
      ∷ a_script callback.EvtRequestCompletion (a_target 5 2 3 status.Unsuccessful 4) 20 (s 21 1 (act.Call call.WdfRequestComplete None (arg.Expression 8) (arg.Expression 9) arg.NoArgument) ∷ [])
      ∷ a_script callback.EvtIoDefault (a_queue 7 6 dispatch.Sequential (serves true false false false) true false scope.Unscoped level.Dispatch) 28 (s 29 1 (act.Call call.WdfRequestComplete None (arg.Expression 10) (arg.Expression 11) arg.NoArgument) ∷ [])
      ∷ a_script callback.EvtIoDefault (a_queue 9 8 dispatch.Sequential (serves true false false false) true false scope.Unscoped level.Dispatch) 36 (s 37 1 (act.Call call.WdfRequestComplete None (arg.Expression 12) (arg.Expression 13) arg.NoArgument) ∷ [])
      ∷ [];
}

abbrev pub one_target_is_connected_events : List Event
one_target_is_connected_events = event.Posted 1 (post.Read (h 2 2) 8) (Some (h 10 1))
    ∷ event.Start (p 0) callback.EvtIoRead (h 3 3) (Some (h 10 1))
    ∷ event.Did (p 0) (c call.WdfRequestSend 3 (Val (Obj (h 10 1))) (Val (Obj (h 4 4))) (Val (Num 0))) (Num 1)
    ∷ event.End (p 0) callback.EvtIoRead (h 3 3) (Stat status.Success)
    ∷ event.Posted 1 (post.Write (h 2 2) 8) (Some (h 11 1))
    ∷ event.Posted 5 (post.Read (h 8 8) 8) (Some (h 12 1))
    ∷ event.Start (p 0) callback.EvtIoDefault (h 9 9) (Some (h 12 1))
    ∷ event.Did (p 0) (c call.WdfRequestComplete 2 (Val (Obj (h 12 1))) (Val (Stat status.Success)) (Val (Num 0))) (Stat status.Success)
    ∷ event.End (p 0) callback.EvtIoDefault (h 9 9) (Stat status.Success)
    ∷ event.Cleanup (h 12 1)
    ∷ event.Destroy (h 12 1)
    ∷ event.Posted 5 (post.Done (h 10 1) status.Success) None
    ∷ event.Start (p 0) callback.EvtRequestCompletion (h 4 4) (Some (h 10 1))
    ∷ event.Did (p 0) (c call.WdfRequestComplete 2 (Val (Obj (h 10 1))) (Val (Stat status.Success)) (Val (Num 0))) (Stat status.Success)
    ∷ event.End (p 0) callback.EvtRequestCompletion (h 4 4) (Stat status.Success)
    ∷ event.Start (p 0) callback.EvtIoWrite (h 3 3) (Some (h 11 1))
    ∷ event.Did (p 0) (c call.WdfRequestSend 3 (Val (Obj (h 11 1))) (Val (Obj (h 5 5))) (Val (Num 0))) (Num 1)
    ∷ event.End (p 0) callback.EvtIoWrite (h 3 3) (Stat status.Success)
    ∷ event.Cleanup (h 10 1)
    ∷ event.Destroy (h 10 1)
    ∷ event.Tick 1
    ∷ event.Tick 2
    ∷ event.Tick 3
    ∷ event.Posted 6 (post.Done (h 11 1) status.Unsuccessful) None
    ∷ event.Start (p 0) callback.EvtRequestCompletion (h 5 5) (Some (h 11 1))
    ∷ event.Did (p 0) (c call.WdfRequestComplete 2 (Val (Obj (h 11 1))) (Val (Stat status.Unsuccessful)) (Val (Num 0))) (Stat status.Success)
    ∷ event.End (p 0) callback.EvtRequestCompletion (h 5 5) (Stat status.Success)
    ∷ event.Cleanup (h 11 1)
    ∷ event.Destroy (h 11 1)
    ∷ []

abbrev pub status_comes_up_plan : Plan
status_comes_up_plan = record (a_plan 1 100 16) {
  names = (codes "driver") ∷ (codes "req") ∷ (codes "D") ∷ (codes "Q") ∷ (codes "TO_E") ∷ (codes "E") ∷ (codes "F") ∷ (codes "A") ∷ [];
  declared = declared.Driver
      ∷ a_device 2 true scope.Unscoped level.Dispatch
      ∷ a_queue 3 2 dispatch.Sequential (serves true false false false) true false scope.Unscoped level.Dispatch
      ∷ a_target 4 2 0 status.Success 4
      ∷ a_device 5 true scope.Unscoped level.Dispatch
      ∷ a_queue 6 5 dispatch.Sequential (serves true false false false) true false scope.Unscoped level.Dispatch
      ∷ [];
  agents = (an_agent 7 ((at 26 0 (post.Read (h 2 2) 16)) ∷ [])) ∷ (an_agent 2 []) ∷ (an_agent 5 []) ∷ (an_agent 4 []) ∷ [];
  exprs = (node.Context context.OwnRequest) ∷ (node.Object (h 4 4)) ∷ (node.Number 0) ∷ (node.Context context.OwnRequest) ∷ (node.Context context.CompletionStatus) ∷ (node.Context context.OwnRequest) ∷ (node.Literal status.Unsuccessful) ∷ [];
  scripts = a_script callback.EvtIoRead (a_queue 3 2 dispatch.Sequential (serves true false false false) true false scope.Unscoped level.Dispatch) 7 (s 8 1 (act.Call call.WdfRequestSend None (arg.Expression 0) (arg.Expression 1) (arg.Expression 2)) ∷ [])
      ∷ a_script callback.EvtRequestCompletion (a_target 4 2 0 status.Success 4) 12 (s 13 1 (act.Call call.WdfRequestComplete None (arg.Expression 3) (arg.Expression 4) arg.NoArgument) ∷ [])
      ∷ a_script callback.EvtIoRead (a_queue 6 5 dispatch.Sequential (serves true false false false) true false scope.Unscoped level.Dispatch) 20 (s 21 1 (act.Call call.WdfRequestComplete None (arg.Expression 5) (arg.Expression 6) arg.NoArgument) ∷ [])
      ∷ [];
}

abbrev pub status_comes_up_events : List Event
status_comes_up_events = event.Posted 1 (post.Read (h 2 2) 16) (Some (h 7 1))
    ∷ event.Start (p 0) callback.EvtIoRead (h 3 3) (Some (h 7 1))
    ∷ event.Did (p 0) (c call.WdfRequestSend 3 (Val (Obj (h 7 1))) (Val (Obj (h 4 4))) (Val (Num 0))) (Num 1)
    ∷ event.End (p 0) callback.EvtIoRead (h 3 3) (Stat status.Success)
    ∷ event.Posted 4 (post.Read (h 5 5) 16) (Some (h 8 1))
    ∷ event.Start (p 0) callback.EvtIoRead (h 6 6) (Some (h 8 1))
    ∷ event.Did (p 0) (c call.WdfRequestComplete 2 (Val (Obj (h 8 1))) (Val (Stat status.Unsuccessful)) (Val (Num 0))) (Stat status.Success)
    ∷ event.End (p 0) callback.EvtIoRead (h 6 6) (Stat status.Success)
    ∷ event.Cleanup (h 8 1)
    ∷ event.Destroy (h 8 1)
    ∷ event.Posted 4 (post.Done (h 7 1) status.Unsuccessful) None
    ∷ event.Start (p 0) callback.EvtRequestCompletion (h 4 4) (Some (h 7 1))
    ∷ event.Did (p 0) (c call.WdfRequestComplete 2 (Val (Obj (h 7 1))) (Val (Stat status.Unsuccessful)) (Val (Num 0))) (Stat status.Success)
    ∷ event.End (p 0) callback.EvtRequestCompletion (h 4 4) (Stat status.Success)
    ∷ event.Cleanup (h 7 1)
    ∷ event.Destroy (h 7 1)
    ∷ []
