-- Worked runs: the plan of each, its events, and what it waits for where it is stuck. Made by
-- tools/scene_to_plan.py from the scenarios and traces of tools/runs.
use Rattle.std.specs.Prelude.{List, [], ◌∷◌, Some, None, true, false, codes}
use Rattle.wdf_base.specs.declared.declared.Declared.TheVariants as declared
use Rattle.wdf_base.specs.declared.declared.ClassInfo.TheVariants as class
use Rattle.wdf_base.specs.declared.declared.DeferredKind.TheVariants as deferred
use Rattle.wdf_base.specs.declared.declared.Scope.TheVariants as scope
use Rattle.wdf_base.specs.declared.declared.ExecutionLevel.TheVariants as level
use Rattle.wdf_base.specs.declared.declared.DispatchKind.TheVariants as dispatch
use Rattle.wdf_base.specs.declared.event.Post.TheVariants as post
use Rattle.wdf_base.specs.declared.event.Fault.TheVariants as fault
use Rattle.wdf_base.specs.declared.event.Event.{Event}
use Rattle.wdf_base.specs.declared.event.Event.TheVariants as event
use Rattle.wdf_base.specs.declared.script.ExprNode.TheVariants as node
use Rattle.wdf_base.specs.declared.script.ContextWord.TheVariants as context
use Rattle.wdf_base.specs.declared.script.Operator.TheVariants as operator
use Rattle.wdf_base.specs.declared.script.ArgNode.TheVariants as arg
use Rattle.wdf_base.specs.declared.script.Act.TheVariants as act
use Rattle.wdf_base.specs.declared.call.Arg.TheVariants.{Val, Class}
use Rattle.wdf_base.specs.declared.call.CallKind.TheVariants as call
use Rattle.wdf_base.specs.declared.call.Callback.TheVariants as callback
use Rattle.wdf_base.specs.declared.value.Status.TheVariants as status
use Rattle.wdf_base.specs.declared.value.Value.TheVariants.{Num, Obj, Stat}
use Rattle.wdf_base.specs.declared.plan.Plan.{Plan}
use Rattle.law_machine_worked.specs.Writing.{h, p, f, c, at, s, a_plan, a_device, a_queue, serves, an_agent, a_script}

abbrev pub cancel_comes_first_plan : Plan
cancel_comes_first_plan = record (a_plan 1 100 16) {
  names = (codes "driver") ∷ (codes "req") ∷ (codes "D") ∷ (codes "Q") ∷ (codes "A") ∷ [];
  declared = declared.Driver
      ∷ a_device 2 true scope.Unscoped level.Dispatch
      ∷ a_queue 3 2 dispatch.Sequential (serves true false false false) true false scope.Unscoped level.Dispatch
      ∷ [];
  agents = (an_agent 4 ((at 20 0 (post.Read (h 2 2) 16)) ∷ (at 21 0 (post.Cancel 1)) ∷ [])) ∷ (an_agent 2 []) ∷ [];
  exprs = (node.Context context.OwnRequest) ∷ (node.Context context.OwnRequest) ∷ (node.Variable 1) ∷ (node.Literal status.Success) ∷ (node.Binary operator.Equals 2 3) ∷ (node.Context context.OwnRequest) ∷ (node.Literal status.Success) ∷ (node.Context context.OwnRequest) ∷ (node.Literal status.Cancelled) ∷ [];
  scripts = a_script callback.EvtIoRead (a_queue 3 2 dispatch.Sequential (serves true false false false) true false scope.Unscoped level.Dispatch) 7
      (s 8 1 (act.Call call.WdfRequestMarkCancelableEx (Some 0) (arg.Expression 0) arg.NoArgument arg.NoArgument)
      ∷ s 9 2 (act.Call call.WdfRequestUnmarkCancelable (Some 1) (arg.Expression 1) arg.NoArgument arg.NoArgument)
      ∷ s 10 3 (act.If 4 4)
      ∷ s 11 4 (act.Call call.WdfRequestComplete None (arg.Expression 5) (arg.Expression 6) arg.NoArgument) ∷ [])
      ∷ a_script callback.EvtRequestCancel (a_queue 3 2 dispatch.Sequential (serves true false false false) true false scope.Unscoped level.Dispatch) 14 (s 15 1 (act.Call call.WdfRequestComplete None (arg.Expression 7) (arg.Expression 8) arg.NoArgument) ∷ [])
      ∷ [];
  picks = (0) ∷ (0) ∷ (0) ∷ (1) ∷ [];
}

abbrev pub cancel_comes_first_events : List Event
cancel_comes_first_events = event.Posted 1 (post.Read (h 2 2) 16) (Some (h 4 1))
    ∷ event.Start (p 0) callback.EvtIoRead (h 3 3) (Some (h 4 1))
    ∷ event.Did (p 0) (c call.WdfRequestMarkCancelableEx 1 (Val (Obj (h 4 1))) (Val (Num 0)) (Val (Num 0))) (Stat status.Success)
    ∷ event.Posted 1 (post.Cancel 1) (Some (h 4 1))
    ∷ event.Did (p 0) (c call.WdfRequestUnmarkCancelable 1 (Val (Obj (h 4 1))) (Val (Num 0)) (Val (Num 0))) (Stat status.Cancelled)
    ∷ event.Local (p 0) 10
    ∷ event.End (p 0) callback.EvtIoRead (h 3 3) (Stat status.Success)
    ∷ event.Start (p 0) callback.EvtRequestCancel (h 3 3) (Some (h 4 1))
    ∷ event.Did (p 0) (c call.WdfRequestComplete 2 (Val (Obj (h 4 1))) (Val (Stat status.Cancelled)) (Val (Num 0))) (Stat status.Success)
    ∷ event.End (p 0) callback.EvtRequestCancel (h 3 3) (Stat status.Success)
    ∷ event.Cleanup (h 4 1)
    ∷ event.Destroy (h 4 1)
    ∷ []

abbrev pub completed_too_early_plan : Plan
completed_too_early_plan = record (a_plan 1 100 16) {
  names = (codes "driver") ∷ (codes "req") ∷ (codes "D") ∷ (codes "Q") ∷ (codes "A") ∷ [];
  declared = declared.Driver
      ∷ a_device 2 true scope.Unscoped level.Dispatch
      ∷ a_queue 3 2 dispatch.Sequential (serves true false false false) true false scope.Unscoped level.Dispatch
      ∷ [];
  agents = (an_agent 4 ((at 18 0 (post.Read (h 2 2) 16)) ∷ (at 19 0 (post.Cancel 1)) ∷ [])) ∷ (an_agent 2 []) ∷ [];
  exprs = (node.Context context.OwnRequest) ∷ (node.Context context.OwnRequest) ∷ (node.Context context.OwnRequest) ∷ (node.Literal status.Success) ∷ (node.Context context.OwnRequest) ∷ (node.Literal status.Cancelled) ∷ [];
  scripts = a_script callback.EvtIoRead (a_queue 3 2 dispatch.Sequential (serves true false false false) true false scope.Unscoped level.Dispatch) 7
      (s 8 1 (act.Call call.WdfRequestMarkCancelableEx (Some 0) (arg.Expression 0) arg.NoArgument arg.NoArgument)
      ∷ s 9 2 (act.Call call.WdfRequestUnmarkCancelable (Some 1) (arg.Expression 1) arg.NoArgument arg.NoArgument)
      ∷ s 10 3 (act.Call call.WdfRequestComplete None (arg.Expression 2) (arg.Expression 3) arg.NoArgument) ∷ [])
      ∷ a_script callback.EvtRequestCancel (a_queue 3 2 dispatch.Sequential (serves true false false false) true false scope.Unscoped level.Dispatch) 12 (s 13 1 (act.Call call.WdfRequestComplete None (arg.Expression 4) (arg.Expression 5) arg.NoArgument) ∷ [])
      ∷ [];
  picks = (0) ∷ (0) ∷ (0) ∷ (1) ∷ [];
}

abbrev pub completed_too_early_events : List Event
completed_too_early_events = event.Posted 1 (post.Read (h 2 2) 16) (Some (h 4 1))
    ∷ event.Start (p 0) callback.EvtIoRead (h 3 3) (Some (h 4 1))
    ∷ event.Did (p 0) (c call.WdfRequestMarkCancelableEx 1 (Val (Obj (h 4 1))) (Val (Num 0)) (Val (Num 0))) (Stat status.Success)
    ∷ event.Posted 1 (post.Cancel 1) (Some (h 4 1))
    ∷ event.Did (p 0) (c call.WdfRequestUnmarkCancelable 1 (Val (Obj (h 4 1))) (Val (Num 0)) (Val (Num 0))) (Stat status.Cancelled)
    ∷ event.Fault (p 0) fault.CompleteBeforeCancelCallback 10
    ∷ []

abbrev pub notified_plan : Plan
notified_plan = record (a_plan 1 100 16) {
  names = (codes "driver") ∷ (codes "req") ∷ (codes "D") ∷ (codes "R") ∷ (codes "M") ∷ (codes "A") ∷ [];
  declared = declared.Driver
      ∷ a_device 2 true scope.Unscoped level.Dispatch
      ∷ a_queue 3 2 dispatch.Sequential (serves true false false false) true false scope.Unscoped level.Dispatch
      ∷ a_queue 4 2 dispatch.Manual (serves false false false false) true false scope.Unscoped level.Dispatch
      ∷ [];
  agents = (an_agent 5 ((at 21 0 (post.Read (h 2 2) 16)) ∷ [])) ∷ (an_agent 2 []) ∷ [];
  exprs = (node.Object (h 4 4)) ∷ (node.Number 1) ∷ (node.Context context.OwnRequest) ∷ (node.Object (h 4 4)) ∷ (node.Context context.OwnObject) ∷ (node.Context context.OwnObject) ∷ (node.Variable 0) ∷ (node.Literal status.Success) ∷ [];
  scripts = a_script callback.EvtIoRead (a_queue 3 2 dispatch.Sequential (serves true false false false) true false scope.Unscoped level.Dispatch) 7
      (s 8 1 (act.Call call.WdfIoQueueReadyNotify None (arg.Expression 0) (arg.Expression 1) arg.NoArgument)
      ∷ s 9 2 (act.Call call.WdfRequestForwardToIoQueue (Some 0) (arg.Expression 2) (arg.Expression 3) arg.NoArgument) ∷ [])
      ∷ a_script callback.EvtIoQueueState (a_queue 4 2 dispatch.Manual (serves false false false false) true false scope.Unscoped level.Dispatch) 13
      (s 14 1 (act.Call call.WdfIoQueueRetrieveNextRequest (Some 0) (arg.Expression 4) arg.NoArgument arg.NoArgument)
      ∷ s 15 2 (act.Call call.WdfIoQueueRetrieveNextRequest (Some 1) (arg.Expression 5) arg.NoArgument arg.NoArgument)
      ∷ s 16 3 (act.Call call.WdfRequestComplete None (arg.Expression 6) (arg.Expression 7) arg.NoArgument) ∷ [])
      ∷ [];
}

abbrev pub notified_events : List Event
notified_events = event.Posted 1 (post.Read (h 2 2) 16) (Some (h 5 1))
    ∷ event.Start (p 0) callback.EvtIoRead (h 3 3) (Some (h 5 1))
    ∷ event.Did (p 0) (c call.WdfIoQueueReadyNotify 2 (Val (Obj (h 4 4))) (Val (Num 1)) (Val (Num 0))) (Stat status.Success)
    ∷ event.Did (p 0) (c call.WdfRequestForwardToIoQueue 2 (Val (Obj (h 5 1))) (Val (Obj (h 4 4))) (Val (Num 0))) (Stat status.Success)
    ∷ event.End (p 0) callback.EvtIoRead (h 3 3) (Stat status.Success)
    ∷ event.Start (p 0) callback.EvtIoQueueState (h 4 4) None
    ∷ event.Did (p 0) (c call.WdfIoQueueRetrieveNextRequest 1 (Val (Obj (h 4 4))) (Val (Num 0)) (Val (Num 0))) (Obj (h 5 1))
    ∷ event.Did (p 0) (c call.WdfIoQueueRetrieveNextRequest 1 (Val (Obj (h 4 4))) (Val (Num 0)) (Val (Num 0))) (Stat status.NoMoreEntries)
    ∷ event.Did (p 0) (c call.WdfRequestComplete 2 (Val (Obj (h 5 1))) (Val (Stat status.Success)) (Val (Num 0))) (Stat status.Success)
    ∷ event.End (p 0) callback.EvtIoQueueState (h 4 4) (Stat status.Success)
    ∷ event.Cleanup (h 5 1)
    ∷ event.Destroy (h 5 1)
    ∷ []

abbrev pub one_read_plan : Plan
one_read_plan = record (a_plan 1 100 16) {
  names = (codes "driver") ∷ (codes "req") ∷ (codes "D") ∷ (codes "Q") ∷ (codes "A") ∷ [];
  declared = declared.Driver
      ∷ a_device 2 true scope.Unscoped level.Dispatch
      ∷ a_queue 3 2 dispatch.Sequential (serves true false false false) true false scope.Unscoped level.Dispatch
      ∷ [];
  agents = (an_agent 4 ((at 13 0 (post.Read (h 2 2) 16)) ∷ [])) ∷ (an_agent 2 []) ∷ [];
  exprs = (node.Context context.OwnRequest) ∷ (node.Literal status.Success) ∷ [];
  scripts = a_script callback.EvtIoRead (a_queue 3 2 dispatch.Sequential (serves true false false false) true false scope.Unscoped level.Dispatch) 7 (s 8 1 (act.Call call.WdfRequestComplete None (arg.Expression 0) (arg.Expression 1) arg.NoArgument) ∷ [])
      ∷ [];
}

abbrev pub one_read_events : List Event
one_read_events = event.Posted 1 (post.Read (h 2 2) 16) (Some (h 4 1))
    ∷ event.Start (p 0) callback.EvtIoRead (h 3 3) (Some (h 4 1))
    ∷ event.Did (p 0) (c call.WdfRequestComplete 2 (Val (Obj (h 4 1))) (Val (Stat status.Success)) (Val (Num 0))) (Stat status.Success)
    ∷ event.End (p 0) callback.EvtIoRead (h 3 3) (Stat status.Success)
    ∷ event.Cleanup (h 4 1)
    ∷ event.Destroy (h 4 1)
    ∷ []

abbrev pub purged_plan : Plan
purged_plan = record (a_plan 1 100 16) {
  names = (codes "driver") ∷ (codes "req") ∷ (codes "W") ∷ (codes "D") ∷ (codes "Q") ∷ (codes "P") ∷ (codes "A") ∷ [];
  declared = declared.Driver
      ∷ a_device 3 true scope.Unscoped level.Passive
      ∷ a_queue 4 2 (dispatch.Parallel 4) (serves true false false false) true false scope.Unscoped level.Passive
      ∷ a_queue 5 2 dispatch.Manual (serves false false false false) false false scope.Unscoped level.Passive
      ∷ [];
  classes = (class.Deferred 2 deferred.WorkItem (record { 0 = 2 }) false 0) ∷ [];
  agents = (an_agent 6 ((at 36 0 (post.Read (h 2 3) 1)) ∷ (at 37 0 (post.Read (h 2 3) 2)) ∷ (at 38 0 (post.Read (h 2 3) 3)) ∷ (at 39 1 (post.Cancel 1)) ∷ [])) ∷ (an_agent 3 []) ∷ [];
  exprs = (node.Object (h 4 5)) ∷ (node.Variable 0) ∷ (node.Object (h 4 5)) ∷ (node.Context context.RequestLength) ∷ (node.Number 3) ∷ (node.Binary operator.Equals 3 4) ∷ (node.Variable 0) ∷ (node.Context context.OwnRequest) ∷ (node.Literal status.Success) ∷ (node.Context context.OwnRequest) ∷ (node.Object (h 4 5)) ∷ (node.Context context.RequestLength) ∷ (node.Context context.OwnRequest) ∷ (node.Literal status.Cancelled) ∷ [];
  scripts = a_script callback.EvtWorkItem (declared.OfClass 0) 8
      (s 9 1 (act.Call call.WdfIoQueuePurgeSynchronously (Some 0) (arg.Expression 0) arg.NoArgument arg.NoArgument)
      ∷ s 10 2 (act.Log 1)
      ∷ s 11 3 (act.Call call.WdfIoQueueStart None (arg.Expression 2) arg.NoArgument arg.NoArgument) ∷ [])
      ∷ a_script callback.EvtIoRead (a_queue 4 2 (dispatch.Parallel 4) (serves true false false false) true false scope.Unscoped level.Passive) 17
      (s 18 1 (act.If 5 4)
      ∷ s 19 2 (act.Call call.WdfWorkItemCreate (Some 0) (arg.OfClass 0) arg.NoArgument arg.NoArgument)
      ∷ s 20 3 (act.Call call.WdfWorkItemEnqueue None (arg.Expression 6) arg.NoArgument arg.NoArgument)
      ∷ s 21 5 (act.Call call.WdfRequestComplete None (arg.Expression 7) (arg.Expression 8) arg.NoArgument)
      ∷ s 23 5 (act.Call call.WdfRequestForwardToIoQueue (Some 1) (arg.Expression 9) (arg.Expression 10) arg.NoArgument) ∷ [])
      ∷ a_script callback.EvtIoCanceledOnQueue (a_queue 5 2 dispatch.Manual (serves false false false false) false false scope.Unscoped level.Passive) 29
      (s 30 1 (act.Log 11)
      ∷ s 31 2 (act.Call call.WdfRequestComplete None (arg.Expression 12) (arg.Expression 13) arg.NoArgument) ∷ [])
      ∷ [];
}

abbrev pub purged_events : List Event
purged_events = event.Posted 1 (post.Read (h 2 3) 1) (Some (h 5 1))
    ∷ event.Start (p 0) callback.EvtIoRead (h 3 4) (Some (h 5 1))
    ∷ event.Local (p 0) 18
    ∷ event.Did (p 0) (c call.WdfRequestForwardToIoQueue 2 (Val (Obj (h 5 1))) (Val (Obj (h 4 5))) (Val (Num 0))) (Stat status.Success)
    ∷ event.End (p 0) callback.EvtIoRead (h 3 4) (Stat status.Success)
    ∷ event.Posted 1 (post.Read (h 2 3) 2) (Some (h 6 1))
    ∷ event.Start (p 0) callback.EvtIoRead (h 3 4) (Some (h 6 1))
    ∷ event.Local (p 0) 18
    ∷ event.Did (p 0) (c call.WdfRequestForwardToIoQueue 2 (Val (Obj (h 6 1))) (Val (Obj (h 4 5))) (Val (Num 0))) (Stat status.Success)
    ∷ event.End (p 0) callback.EvtIoRead (h 3 4) (Stat status.Success)
    ∷ event.Posted 1 (post.Read (h 2 3) 3) (Some (h 7 1))
    ∷ event.Start (p 0) callback.EvtIoRead (h 3 4) (Some (h 7 1))
    ∷ event.Local (p 0) 18
    ∷ event.Did (p 0) (c call.WdfWorkItemCreate 1 (Class 0) (Val (Num 0)) (Val (Num 0))) (Obj (h 8 2))
    ∷ event.Did (p 0) (c call.WdfWorkItemEnqueue 1 (Val (Obj (h 8 2))) (Val (Num 0)) (Val (Num 0))) (Stat status.Success)
    ∷ event.Did (p 0) (c call.WdfRequestComplete 2 (Val (Obj (h 7 1))) (Val (Stat status.Success)) (Val (Num 0))) (Stat status.Success)
    ∷ event.End (p 0) callback.EvtIoRead (h 3 4) (Stat status.Success)
    ∷ event.Start (p 0) callback.EvtWorkItem (h 8 2) None
    ∷ event.Waiting (p 0) (c call.WdfIoQueuePurgeSynchronously 1 (Val (Obj (h 4 5))) (Val (Num 0)) (Val (Num 0)))
    ∷ event.Park (p 0) (f 18)
    ∷ event.Start (p 0) callback.EvtIoCanceledOnQueue (h 4 5) (Some (h 5 1))
    ∷ event.Log (p 0) (Num 1)
    ∷ event.Did (p 0) (c call.WdfRequestComplete 2 (Val (Obj (h 5 1))) (Val (Stat status.Cancelled)) (Val (Num 0))) (Stat status.Success)
    ∷ event.End (p 0) callback.EvtIoCanceledOnQueue (h 4 5) (Stat status.Success)
    ∷ event.Start (p 0) callback.EvtIoCanceledOnQueue (h 4 5) (Some (h 6 1))
    ∷ event.Log (p 0) (Num 2)
    ∷ event.Did (p 0) (c call.WdfRequestComplete 2 (Val (Obj (h 6 1))) (Val (Stat status.Cancelled)) (Val (Num 0))) (Stat status.Success)
    ∷ event.End (p 0) callback.EvtIoCanceledOnQueue (h 4 5) (Stat status.Success)
    ∷ event.Unpark (p 0) (f 18)
    ∷ event.Woke (p 0) (c call.WdfIoQueuePurgeSynchronously 1 (Val (Obj (h 4 5))) (Val (Num 0)) (Val (Num 0))) (Stat status.Success)
    ∷ event.Log (p 0) (Stat status.Success)
    ∷ event.Did (p 0) (c call.WdfIoQueueStart 1 (Val (Obj (h 4 5))) (Val (Num 0)) (Val (Num 0))) (Stat status.Success)
    ∷ event.End (p 0) callback.EvtWorkItem (h 8 2) (Stat status.Success)
    ∷ event.Cleanup (h 5 1)
    ∷ event.Cleanup (h 6 1)
    ∷ event.Cleanup (h 7 1)
    ∷ event.Destroy (h 5 1)
    ∷ event.Destroy (h 6 1)
    ∷ event.Destroy (h 7 1)
    ∷ event.Tick 1
    ∷ event.Posted 1 (post.Cancel 1) None
    ∷ []

abbrev pub returned_by_cancel_plan : Plan
returned_by_cancel_plan = record (a_plan 1 100 16) {
  names = (codes "driver") ∷ (codes "req") ∷ (codes "D") ∷ (codes "Q") ∷ (codes "A") ∷ [];
  declared = declared.Driver
      ∷ a_device 2 true scope.Unscoped level.Dispatch
      ∷ a_queue 3 2 dispatch.Sequential (serves true false false false) true false scope.Unscoped level.Dispatch
      ∷ [];
  agents = (an_agent 4 ((at 17 0 (post.Read (h 2 2) 16)) ∷ (at 18 0 (post.Cancel 1)) ∷ [])) ∷ (an_agent 2 []) ∷ [];
  exprs = (node.Context context.OwnObject) ∷ (node.Context context.OwnRequest) ∷ (node.Context context.OwnRequest) ∷ (node.Literal status.Cancelled) ∷ [];
  scripts = a_script callback.EvtIoRead (a_queue 3 2 dispatch.Sequential (serves true false false false) true false scope.Unscoped level.Dispatch) 7
      (s 8 1 (act.Call call.WdfIoQueueStop None (arg.Expression 0) arg.NoArgument arg.NoArgument)
      ∷ s 9 2 (act.Call call.WdfRequestRequeue (Some 0) (arg.Expression 1) arg.NoArgument arg.NoArgument) ∷ [])
      ∷ a_script callback.EvtIoCanceledOnQueue (a_queue 3 2 dispatch.Sequential (serves true false false false) true false scope.Unscoped level.Dispatch) 11 (s 12 1 (act.Call call.WdfRequestComplete None (arg.Expression 2) (arg.Expression 3) arg.NoArgument) ∷ [])
      ∷ [];
}

abbrev pub returned_by_cancel_events : List Event
returned_by_cancel_events = event.Posted 1 (post.Read (h 2 2) 16) (Some (h 4 1))
    ∷ event.Start (p 0) callback.EvtIoRead (h 3 3) (Some (h 4 1))
    ∷ event.Did (p 0) (c call.WdfIoQueueStop 1 (Val (Obj (h 3 3))) (Val (Num 0)) (Val (Num 0))) (Stat status.Success)
    ∷ event.Did (p 0) (c call.WdfRequestRequeue 1 (Val (Obj (h 4 1))) (Val (Num 0)) (Val (Num 0))) (Stat status.Success)
    ∷ event.End (p 0) callback.EvtIoRead (h 3 3) (Stat status.Success)
    ∷ event.Posted 1 (post.Cancel 1) (Some (h 4 1))
    ∷ event.Start (p 0) callback.EvtIoCanceledOnQueue (h 3 3) (Some (h 4 1))
    ∷ event.Did (p 0) (c call.WdfRequestComplete 2 (Val (Obj (h 4 1))) (Val (Stat status.Cancelled)) (Val (Num 0))) (Stat status.Success)
    ∷ event.End (p 0) callback.EvtIoCanceledOnQueue (h 3 3) (Stat status.Success)
    ∷ event.Cleanup (h 4 1)
    ∷ event.Destroy (h 4 1)
    ∷ []

abbrev pub unmark_comes_first_plan : Plan
unmark_comes_first_plan = record (a_plan 1 100 16) {
  names = (codes "driver") ∷ (codes "req") ∷ (codes "D") ∷ (codes "Q") ∷ (codes "A") ∷ [];
  declared = declared.Driver
      ∷ a_device 2 true scope.Unscoped level.Dispatch
      ∷ a_queue 3 2 dispatch.Sequential (serves true false false false) true false scope.Unscoped level.Dispatch
      ∷ [];
  agents = (an_agent 4 ((at 20 0 (post.Read (h 2 2) 16)) ∷ (at 21 0 (post.Cancel 1)) ∷ [])) ∷ (an_agent 2 []) ∷ [];
  exprs = (node.Context context.OwnRequest) ∷ (node.Context context.OwnRequest) ∷ (node.Variable 1) ∷ (node.Literal status.Success) ∷ (node.Binary operator.Equals 2 3) ∷ (node.Context context.OwnRequest) ∷ (node.Literal status.Success) ∷ (node.Context context.OwnRequest) ∷ (node.Literal status.Cancelled) ∷ [];
  scripts = a_script callback.EvtIoRead (a_queue 3 2 dispatch.Sequential (serves true false false false) true false scope.Unscoped level.Dispatch) 7
      (s 8 1 (act.Call call.WdfRequestMarkCancelableEx (Some 0) (arg.Expression 0) arg.NoArgument arg.NoArgument)
      ∷ s 9 2 (act.Call call.WdfRequestUnmarkCancelable (Some 1) (arg.Expression 1) arg.NoArgument arg.NoArgument)
      ∷ s 10 3 (act.If 4 4)
      ∷ s 11 4 (act.Call call.WdfRequestComplete None (arg.Expression 5) (arg.Expression 6) arg.NoArgument) ∷ [])
      ∷ a_script callback.EvtRequestCancel (a_queue 3 2 dispatch.Sequential (serves true false false false) true false scope.Unscoped level.Dispatch) 14 (s 15 1 (act.Call call.WdfRequestComplete None (arg.Expression 7) (arg.Expression 8) arg.NoArgument) ∷ [])
      ∷ [];
  picks = (0) ∷ (0) ∷ (0) ∷ (0) ∷ (1) ∷ [];
}

abbrev pub unmark_comes_first_events : List Event
unmark_comes_first_events = event.Posted 1 (post.Read (h 2 2) 16) (Some (h 4 1))
    ∷ event.Start (p 0) callback.EvtIoRead (h 3 3) (Some (h 4 1))
    ∷ event.Did (p 0) (c call.WdfRequestMarkCancelableEx 1 (Val (Obj (h 4 1))) (Val (Num 0)) (Val (Num 0))) (Stat status.Success)
    ∷ event.Did (p 0) (c call.WdfRequestUnmarkCancelable 1 (Val (Obj (h 4 1))) (Val (Num 0)) (Val (Num 0))) (Stat status.Success)
    ∷ event.Posted 1 (post.Cancel 1) (Some (h 4 1))
    ∷ event.Local (p 0) 10
    ∷ event.Did (p 0) (c call.WdfRequestComplete 2 (Val (Obj (h 4 1))) (Val (Stat status.Success)) (Val (Num 0))) (Stat status.Success)
    ∷ event.End (p 0) callback.EvtIoRead (h 3 3) (Stat status.Success)
    ∷ event.Cleanup (h 4 1)
    ∷ event.Destroy (h 4 1)
    ∷ []
