-- Worked runs: the plan of each, its events, and what it waits for where it is stuck. Made by
-- tools/scene_to_plan.py from the scenarios and traces of tools/runs.
use Rattle.std.specs.Prelude.{List, [], ◌∷◌, Some, None, true, false, codes}
use Rattle.wdf_base.specs.declared.declared.Declared.TheVariants as declared
use Rattle.wdf_base.specs.declared.declared.ClassInfo.TheVariants as class
use Rattle.wdf_base.specs.declared.declared.PlainKind.TheVariants as plain
use Rattle.wdf_base.specs.declared.declared.DeferredKind.TheVariants as deferred
use Rattle.wdf_base.specs.declared.declared.Scope.TheVariants as scope
use Rattle.wdf_base.specs.declared.declared.ExecutionLevel.TheVariants as level
use Rattle.wdf_base.specs.declared.declared.DispatchKind.TheVariants as dispatch
use Rattle.wdf_base.specs.declared.event.Ask.TheVariants as ask
use Rattle.wdf_base.specs.declared.event.Post.TheVariants as post
use Rattle.wdf_base.specs.declared.event.Stage.TheVariants as stage
use Rattle.wdf_base.specs.declared.event.Fault.TheVariants as fault
use Rattle.wdf_base.specs.declared.event.Event.{Event}
use Rattle.wdf_base.specs.declared.event.Event.TheVariants as event
use Rattle.wdf_base.specs.declared.script.ExprNode.TheVariants as node
use Rattle.wdf_base.specs.declared.script.ContextWord.TheVariants as context
use Rattle.wdf_base.specs.declared.script.Operator.TheVariants as operator
use Rattle.wdf_base.specs.declared.script.ArgNode.TheVariants as arg
use Rattle.wdf_base.specs.declared.script.Act.TheVariants as act
use Rattle.wdf_base.specs.declared.call.Arg.TheVariants.{Val, Class}
use Rattle.wdf_base.specs.declared.call.CallKind.TheVariants as call
use Rattle.wdf_base.specs.declared.call.Callback.TheVariants as callback
use Rattle.wdf_base.specs.declared.value.Status.TheVariants as status
use Rattle.wdf_base.specs.declared.value.Value.TheVariants.{Num, Obj, Stat}
use Rattle.wdf_base.specs.declared.plan.Plan.{Plan}
use Rattle.law_machine_worked.specs.Writing.{h, p, f, c, at, s, a_plan, a_device, a_queue, serves, a_target, an_agent, a_script}

abbrev pub drained_plan : Plan
drained_plan = record (a_plan 2 200 32) {
  names = (codes "driver") ∷ (codes "req") ∷ (codes "W") ∷ (codes "D") ∷ (codes "Q") ∷ (codes "P") ∷ (codes "A") ∷ [];
  declared = declared.Driver
      ∷ a_device 3 true scope.Unscoped level.Passive
      ∷ a_queue 4 2 dispatch.Sequential (serves true false false false) true false scope.Unscoped level.Passive
      ∷ a_queue 5 2 dispatch.Manual (serves false false false false) true false scope.Unscoped level.Passive
      ∷ [];
  classes = (class.Deferred 2 deferred.WorkItem (record { 0 = 2 }) false 0) ∷ [];
  agents = (an_agent 6 ((at 37 0 (post.Read (h 2 3) 1)) ∷ (at 38 0 (post.Read (h 2 3) 2)) ∷ [])) ∷ (an_agent 3 []) ∷ [];
  exprs = (node.Object (h 4 5)) ∷ (node.Variable 0) ∷ (node.Object (h 4 5)) ∷ (node.Context context.OwnRequest) ∷ (node.Object (h 4 5)) ∷ (node.Context context.RequestLength) ∷ (node.Number 2) ∷ (node.Binary operator.Equals 5 6) ∷ (node.Variable 1) ∷ (node.Number 1) ∷ (node.Object (h 4 5)) ∷ (node.Variable 2) ∷ (node.Literal status.Success) ∷ (node.Object (h 4 5)) ∷ (node.Variable 2) ∷ (node.Literal status.Success) ∷ (node.Context context.OwnRequest) ∷ (node.Literal status.Cancelled) ∷ [];
  scripts = a_script callback.EvtWorkItem (declared.OfClass 0) 8
      (s 9 1 (act.Call call.WdfIoQueueDrainSynchronously (Some 0) (arg.Expression 0) arg.NoArgument arg.NoArgument)
      ∷ s 10 2 (act.Log 1)
      ∷ s 11 3 (act.Call call.WdfIoQueueRetrieveNextRequest (Some 1) (arg.Expression 2) arg.NoArgument arg.NoArgument) ∷ [])
      ∷ a_script callback.EvtIoRead (a_queue 4 2 dispatch.Sequential (serves true false false false) true false scope.Unscoped level.Passive) 17
      (s 18 1 (act.Call call.WdfRequestForwardToIoQueue (Some 0) (arg.Expression 3) (arg.Expression 4) arg.NoArgument)
      ∷ s 19 2 (act.If 7 9)
      ∷ s 20 3 (act.Call call.WdfWorkItemCreate (Some 1) (arg.OfClass 0) arg.NoArgument arg.NoArgument)
      ∷ s 21 4 (act.Call call.WdfWorkItemEnqueue None (arg.Expression 8) arg.NoArgument arg.NoArgument)
      ∷ s 22 5 (act.Spend 9)
      ∷ s 23 6 (act.Call call.WdfIoQueueRetrieveNextRequest (Some 2) (arg.Expression 10) arg.NoArgument arg.NoArgument)
      ∷ s 24 7 (act.Call call.WdfRequestComplete None (arg.Expression 11) (arg.Expression 12) arg.NoArgument)
      ∷ s 25 8 (act.Call call.WdfIoQueueRetrieveNextRequest (Some 2) (arg.Expression 13) arg.NoArgument arg.NoArgument)
      ∷ s 26 9 (act.Call call.WdfRequestComplete None (arg.Expression 14) (arg.Expression 15) arg.NoArgument) ∷ [])
      ∷ a_script callback.EvtIoCanceledOnQueue (a_queue 5 2 dispatch.Manual (serves false false false false) true false scope.Unscoped level.Passive) 31 (s 32 1 (act.Call call.WdfRequestComplete None (arg.Expression 16) (arg.Expression 17) arg.NoArgument) ∷ [])
      ∷ [];
}

abbrev pub drained_events : List Event
drained_events = event.Posted 1 (post.Read (h 2 3) 1) (Some (h 5 1))
    ∷ event.Start (p 0) callback.EvtIoRead (h 3 4) (Some (h 5 1))
    ∷ event.Did (p 0) (c call.WdfRequestForwardToIoQueue 2 (Val (Obj (h 5 1))) (Val (Obj (h 4 5))) (Val (Num 0))) (Stat status.Success)
    ∷ event.Local (p 0) 19
    ∷ event.End (p 0) callback.EvtIoRead (h 3 4) (Stat status.Success)
    ∷ event.Posted 1 (post.Read (h 2 3) 2) (Some (h 6 1))
    ∷ event.Start (p 0) callback.EvtIoRead (h 3 4) (Some (h 6 1))
    ∷ event.Did (p 0) (c call.WdfRequestForwardToIoQueue 2 (Val (Obj (h 6 1))) (Val (Obj (h 4 5))) (Val (Num 0))) (Stat status.Success)
    ∷ event.Local (p 0) 19
    ∷ event.Did (p 0) (c call.WdfWorkItemCreate 1 (Class 0) (Val (Num 0)) (Val (Num 0))) (Obj (h 7 2))
    ∷ event.Did (p 0) (c call.WdfWorkItemEnqueue 1 (Val (Obj (h 7 2))) (Val (Num 0)) (Val (Num 0))) (Stat status.Success)
    ∷ event.Spend (p 0) 1
    ∷ event.Start (p 1) callback.EvtWorkItem (h 7 2) None
    ∷ event.Waiting (p 1) (c call.WdfIoQueueDrainSynchronously 1 (Val (Obj (h 4 5))) (Val (Num 0)) (Val (Num 0)))
    ∷ event.Park (p 1) (f 13)
    ∷ event.Tick 1
    ∷ event.Did (p 0) (c call.WdfIoQueueRetrieveNextRequest 1 (Val (Obj (h 4 5))) (Val (Num 0)) (Val (Num 0))) (Obj (h 5 1))
    ∷ event.Did (p 0) (c call.WdfRequestComplete 2 (Val (Obj (h 5 1))) (Val (Stat status.Success)) (Val (Num 0))) (Stat status.Success)
    ∷ event.Did (p 0) (c call.WdfIoQueueRetrieveNextRequest 1 (Val (Obj (h 4 5))) (Val (Num 0)) (Val (Num 0))) (Obj (h 6 1))
    ∷ event.Did (p 0) (c call.WdfRequestComplete 2 (Val (Obj (h 6 1))) (Val (Stat status.Success)) (Val (Num 0))) (Stat status.Success)
    ∷ event.End (p 0) callback.EvtIoRead (h 3 4) (Stat status.Success)
    ∷ event.Unpark (p 0) (f 13)
    ∷ event.Woke (p 0) (c call.WdfIoQueueDrainSynchronously 1 (Val (Obj (h 4 5))) (Val (Num 0)) (Val (Num 0))) (Stat status.Success)
    ∷ event.Log (p 0) (Stat status.Success)
    ∷ event.Did (p 0) (c call.WdfIoQueueRetrieveNextRequest 1 (Val (Obj (h 4 5))) (Val (Num 0)) (Val (Num 0))) (Stat status.NoMoreEntries)
    ∷ event.End (p 0) callback.EvtWorkItem (h 7 2) (Stat status.Success)
    ∷ event.Cleanup (h 5 1)
    ∷ event.Cleanup (h 6 1)
    ∷ event.Destroy (h 5 1)
    ∷ event.Destroy (h 6 1)
    ∷ []

abbrev pub every_statement_plan : Plan
every_statement_plan = record (a_plan 1 100 16) {
  names = (codes "driver") ∷ (codes "req") ∷ (codes "D") ∷ (codes "Q") ∷ (codes "A") ∷ [];
  declared = declared.Driver
      ∷ a_device 2 true scope.Unscoped level.Dispatch
      ∷ a_queue 3 2 dispatch.Sequential (serves true false false false) true false scope.Unscoped level.Dispatch
      ∷ [];
  agents = (an_agent 4 ((at 33 0 (post.Control (h 2 2) 5 9)) ∷ [])) ∷ (an_agent 2 []) ∷ [];
  exprs = (node.Number 0) ∷ (node.Number 3) ∷ (node.Variable 0) ∷ (node.Number 2) ∷ (node.Binary operator.Add 2 3) ∷ (node.Variable 0) ∷ (node.Number 4) ∷ (node.Binary operator.Equals 5 6) ∷ (node.Variable 0) ∷ (node.Number 0) ∷ (node.Number 1) ∷ (node.Number 0) ∷ (node.Number 1) ∷ (node.Binary operator.Subtract 11 12) ∷ (node.Variable 1) ∷ (node.Variable 1) ∷ (node.Number 2) ∷ (node.Binary operator.Multiply 15 16) ∷ (node.Number 3) ∷ (node.Binary operator.Divide 17 18) ∷ (node.Literal status.Success) ∷ (node.Number 0) ∷ (node.Binary operator.Equals 20 21) ∷ (node.Context context.OwnObject) ∷ (node.Context context.OwnObject) ∷ (node.Binary operator.Equals 23 24) ∷ (node.Number 7) ∷ (node.Number 3) ∷ (node.Binary operator.BitAnd 26 27) ∷ (node.Number 7) ∷ (node.Number 2) ∷ (node.Binary operator.BitXor 29 30) ∷ (node.Number 3) ∷ (node.Number 3) ∷ (node.Binary operator.AtMost 32 33) ∷ (node.Number 3) ∷ (node.Number 3) ∷ (node.Binary operator.Below 35 36) ∷ (node.Context context.OwnRequest) ∷ (node.Context context.RequestCode) ∷ [];
  scripts = a_script callback.EvtIoDefault (a_queue 3 2 dispatch.Sequential (serves true false false false) true false scope.Unscoped level.Dispatch) 7
      (s 8 1 (act.Let 0 0)
      ∷ s 9 2 (act.Repeat 1 0 6)
      ∷ s 10 3 (act.Let 0 4)
      ∷ s 11 4 (act.If 7 5)
      ∷ s 12 5 (act.Log 8)
      ∷ s 9 6 (act.Again 0 2)
      ∷ s 16 7 (act.Repeat 9 0 9)
      ∷ s 17 8 (act.Log 10)
      ∷ s 16 9 (act.Again 0 7)
      ∷ s 19 10 (act.Let 1 13)
      ∷ s 20 11 (act.Log 14)
      ∷ s 21 12 (act.Log 19)
      ∷ s 22 13 (act.Log 22)
      ∷ s 23 14 (act.Log 25)
      ∷ s 24 15 (act.Log 28)
      ∷ s 25 16 (act.Log 31)
      ∷ s 26 17 (act.Log 34)
      ∷ s 27 18 (act.Log 37)
      ∷ s 28 19 (act.Call call.WdfRequestComplete None (arg.Expression 38) (arg.Expression 39) arg.NoArgument) ∷ [])
      ∷ [];
}

abbrev pub every_statement_events : List Event
every_statement_events = event.Posted 1 (post.Control (h 2 2) 5 9) (Some (h 4 1))
    ∷ event.Start (p 0) callback.EvtIoDefault (h 3 3) (Some (h 4 1))
    ∷ event.Local (p 0) 8
    ∷ event.Local (p 0) 9
    ∷ event.Local (p 0) 10
    ∷ event.Local (p 0) 11
    ∷ event.Local (p 0) 9
    ∷ event.Local (p 0) 10
    ∷ event.Local (p 0) 11
    ∷ event.Log (p 0) (Num 4)
    ∷ event.Local (p 0) 9
    ∷ event.Local (p 0) 10
    ∷ event.Local (p 0) 11
    ∷ event.Local (p 0) 9
    ∷ event.Local (p 0) 16
    ∷ event.Local (p 0) 19
    ∷ event.Log (p 0) (Num 18446744073709551615)
    ∷ event.Log (p 0) (Num 6148914691236517204)
    ∷ event.Log (p 0) (Num 0)
    ∷ event.Log (p 0) (Num 1)
    ∷ event.Log (p 0) (Num 3)
    ∷ event.Log (p 0) (Num 5)
    ∷ event.Log (p 0) (Num 1)
    ∷ event.Log (p 0) (Num 0)
    ∷ event.Fault (p 0) fault.ScriptError 28
    ∷ []

abbrev pub sent_and_cancelled_plan : Plan
sent_and_cancelled_plan = record (a_plan 1 200 32) {
  names = (codes "driver") ∷ (codes "req") ∷ (codes "M") ∷ (codes "D") ∷ (codes "Q") ∷ (codes "T") ∷ (codes "A") ∷ [];
  declared = declared.Driver
      ∷ a_device 3 true scope.Unscoped level.Dispatch
      ∷ a_queue 4 2 (dispatch.Parallel 4) (serves true false false false) true false scope.Unscoped level.Dispatch
      ∷ a_target 5 2 5 status.Unsuccessful 4
      ∷ [];
  classes = (class.Plain 2 plain.Request) ∷ [];
  agents = (an_agent 6 ((at 34 0 (post.Read (h 2 3) 1)) ∷ (at 35 0 (post.Read (h 2 3) 2)) ∷ (at 36 1 (post.Cancel 2)) ∷ [])) ∷ (an_agent 3 []) ∷ (an_agent 5 []) ∷ [];
  exprs = (node.Context context.RequestLength) ∷ (node.Number 1) ∷ (node.Binary operator.Equals 0 1) ∷ (node.Context context.OwnRequest) ∷ (node.Object (h 4 5)) ∷ (node.Number 1) ∷ (node.Context context.RequestLength) ∷ (node.Number 2) ∷ (node.Binary operator.Equals 6 7) ∷ (node.Context context.OwnRequest) ∷ (node.Variable 0) ∷ (node.Object (h 4 5)) ∷ (node.Number 0) ∷ (node.Variable 0) ∷ (node.Context context.OwnRequest) ∷ (node.Context context.OwnRequest) ∷ (node.Object (h 4 5)) ∷ (node.Number 0) ∷ (node.Object (h 4 5)) ∷ (node.Number 2) ∷ (node.Context context.CompletionStatus) ∷ (node.Context context.RequestLength) ∷ (node.Number 2) ∷ (node.Binary operator.Equals 21 22) ∷ (node.Context context.OwnRequest) ∷ (node.Context context.OwnRequest) ∷ (node.Context context.CompletionStatus) ∷ [];
  scripts = a_script callback.EvtIoRead (a_queue 4 2 (dispatch.Parallel 4) (serves true false false false) true false scope.Unscoped level.Dispatch) 9
      (s 10 1 (act.If 2 2)
      ∷ s 11 2 (act.Call call.WdfRequestSend None (arg.Expression 3) (arg.Expression 4) (arg.Expression 5))
      ∷ s 13 3 (act.If 8 9)
      ∷ s 14 4 (act.Call call.WdfRequestCreate (Some 0) (arg.OfClass 0) (arg.Expression 9) arg.NoArgument)
      ∷ s 15 5 (act.Call call.WdfRequestSend None (arg.Expression 10) (arg.Expression 11) (arg.Expression 12))
      ∷ s 16 6 (act.Call call.WdfRequestCancelSentRequest (Some 1) (arg.Expression 13) arg.NoArgument arg.NoArgument)
      ∷ s 17 7 (act.Call call.WdfRequestCancelSentRequest (Some 2) (arg.Expression 14) arg.NoArgument arg.NoArgument)
      ∷ s 18 8 (act.Call call.WdfRequestSend None (arg.Expression 15) (arg.Expression 16) (arg.Expression 17))
      ∷ s 19 9 (act.Call call.WdfIoTargetStop None (arg.Expression 18) (arg.Expression 19) arg.NoArgument) ∷ [])
      ∷ a_script callback.EvtRequestCompletion (a_target 5 2 5 status.Unsuccessful 4) 24
      (s 25 1 (act.Log 20)
      ∷ s 26 2 (act.If 23 4)
      ∷ s 27 3 (act.Call call.WdfRequestIsCanceled (Some 0) (arg.Expression 24) arg.NoArgument arg.NoArgument)
      ∷ s 28 4 (act.Call call.WdfRequestComplete None (arg.Expression 25) (arg.Expression 26) arg.NoArgument) ∷ [])
      ∷ [];
}

abbrev pub sent_and_cancelled_events : List Event
sent_and_cancelled_events = event.Posted 1 (post.Read (h 2 3) 1) (Some (h 5 1))
    ∷ event.Start (p 0) callback.EvtIoRead (h 3 4) (Some (h 5 1))
    ∷ event.Local (p 0) 10
    ∷ event.Did (p 0) (c call.WdfRequestSend 3 (Val (Obj (h 5 1))) (Val (Obj (h 4 5))) (Val (Num 1))) (Num 1)
    ∷ event.Local (p 0) 13
    ∷ event.End (p 0) callback.EvtIoRead (h 3 4) (Stat status.Success)
    ∷ event.Posted 1 (post.Read (h 2 3) 2) (Some (h 6 1))
    ∷ event.Start (p 0) callback.EvtIoRead (h 3 4) (Some (h 6 1))
    ∷ event.Local (p 0) 10
    ∷ event.Local (p 0) 13
    ∷ event.Did (p 0) (c call.WdfRequestCreate 2 (Class 0) (Val (Obj (h 6 1))) (Val (Num 0))) (Obj (h 7 2))
    ∷ event.Did (p 0) (c call.WdfRequestSend 3 (Val (Obj (h 7 2))) (Val (Obj (h 4 5))) (Val (Num 0))) (Num 1)
    ∷ event.Did (p 0) (c call.WdfRequestCancelSentRequest 1 (Val (Obj (h 7 2))) (Val (Num 0)) (Val (Num 0))) (Num 1)
    ∷ event.Did (p 0) (c call.WdfRequestCancelSentRequest 1 (Val (Obj (h 6 1))) (Val (Num 0)) (Val (Num 0))) (Num 0)
    ∷ event.Did (p 0) (c call.WdfRequestSend 3 (Val (Obj (h 6 1))) (Val (Obj (h 4 5))) (Val (Num 0))) (Num 1)
    ∷ event.Did (p 0) (c call.WdfIoTargetStop 2 (Val (Obj (h 4 5))) (Val (Num 2)) (Val (Num 0))) (Stat status.Success)
    ∷ event.End (p 0) callback.EvtIoRead (h 3 4) (Stat status.Success)
    ∷ event.Posted 3 (post.Done (h 7 2) status.Cancelled) None
    ∷ event.Start (p 0) callback.EvtRequestCompletion (h 4 5) (Some (h 7 2))
    ∷ event.Log (p 0) (Stat status.Cancelled)
    ∷ event.Local (p 0) 26
    ∷ event.End (p 0) callback.EvtRequestCompletion (h 4 5) (Stat status.Success)
    ∷ event.Tick 1
    ∷ event.Posted 1 (post.Cancel 2) (Some (h 6 1))
    ∷ event.Posted 3 (post.Done (h 6 1) status.Cancelled) None
    ∷ event.Start (p 0) callback.EvtRequestCompletion (h 4 5) (Some (h 6 1))
    ∷ event.Log (p 0) (Stat status.Cancelled)
    ∷ event.Local (p 0) 26
    ∷ event.Did (p 0) (c call.WdfRequestIsCanceled 1 (Val (Obj (h 6 1))) (Val (Num 0)) (Val (Num 0))) (Num 1)
    ∷ event.Did (p 0) (c call.WdfRequestComplete 2 (Val (Obj (h 6 1))) (Val (Stat status.Cancelled)) (Val (Num 0))) (Stat status.Success)
    ∷ event.End (p 0) callback.EvtRequestCompletion (h 4 5) (Stat status.Success)
    ∷ event.Cleanup (h 7 2)
    ∷ event.Cleanup (h 6 1)
    ∷ event.Destroy (h 7 2)
    ∷ event.Destroy (h 6 1)
    ∷ event.Tick 2
    ∷ event.Tick 3
    ∷ event.Tick 4
    ∷ event.Tick 5
    ∷ event.Posted 3 (post.Done (h 5 1) status.Unsuccessful) None
    ∷ event.Complete (h 5 1) status.Unsuccessful
    ∷ event.Cleanup (h 5 1)
    ∷ event.Destroy (h 5 1)
    ∷ []

abbrev pub stopped_while_sent_plan : Plan
stopped_while_sent_plan = record (a_plan 1 100 16) {
  names = (codes "driver") ∷ (codes "req") ∷ (codes "D") ∷ (codes "R") ∷ (codes "T") ∷ (codes "A") ∷ [];
  declared = declared.Driver
      ∷ a_device 2 true scope.Unscoped level.Dispatch
      ∷ a_queue 3 2 dispatch.Sequential (serves true false false false) true false scope.Unscoped level.Dispatch
      ∷ a_target 4 2 3 status.Success 1
      ∷ [];
  pnp = (at 27 1 (post.Ask ask.Sleep (h 2 2))) ∷ (at 28 2 (post.Ask ask.Wake (h 2 2))) ∷ [];
  agents = (an_agent 5 ((at 24 0 (post.Read (h 2 2) 7)) ∷ [])) ∷ (an_agent 2 []) ∷ (an_agent 4 []) ∷ [];
  exprs = (node.Context context.OwnRequest) ∷ (node.Object (h 4 4)) ∷ (node.Number 0) ∷ (node.Context context.OwnRequest) ∷ (node.Number 0) ∷ (node.Context context.CompletionStatus) ∷ (node.Context context.OwnRequest) ∷ (node.Context context.CompletionStatus) ∷ [];
  scripts = a_script callback.EvtIoRead (a_queue 3 2 dispatch.Sequential (serves true false false false) true false scope.Unscoped level.Dispatch) 7 (s 8 1 (act.Call call.WdfRequestSend None (arg.Expression 0) (arg.Expression 1) (arg.Expression 2)) ∷ [])
      ∷ a_script callback.EvtIoStop (a_queue 3 2 dispatch.Sequential (serves true false false false) true false scope.Unscoped level.Dispatch) 10 (s 11 1 (act.Call call.WdfRequestStopAcknowledge None (arg.Expression 3) (arg.Expression 4) arg.NoArgument) ∷ [])
      ∷ a_script callback.EvtIoResume (a_queue 3 2 dispatch.Sequential (serves true false false false) true false scope.Unscoped level.Dispatch) 13 (s 14 1 (act.Log 5) ∷ [])
      ∷ a_script callback.EvtRequestCompletion (a_target 4 2 3 status.Success 1) 18 (s 19 1 (act.Call call.WdfRequestComplete None (arg.Expression 6) (arg.Expression 7) arg.NoArgument) ∷ [])
      ∷ [];
}

abbrev pub stopped_while_sent_events : List Event
stopped_while_sent_events = event.Posted 1 (post.Read (h 2 2) 7) (Some (h 5 1))
    ∷ event.Start (p 0) callback.EvtIoRead (h 3 3) (Some (h 5 1))
    ∷ event.Did (p 0) (c call.WdfRequestSend 3 (Val (Obj (h 5 1))) (Val (Obj (h 4 4))) (Val (Num 0))) (Num 1)
    ∷ event.End (p 0) callback.EvtIoRead (h 3 3) (Stat status.Success)
    ∷ event.Tick 1
    ∷ event.Posted 0 (post.Ask ask.Sleep (h 2 2)) None
    ∷ event.Stage (h 2 2) stage.QueuesDown None
    ∷ event.Start (p 0) callback.EvtIoStop (h 3 3) (Some (h 5 1))
    ∷ event.Did (p 0) (c call.WdfRequestStopAcknowledge 2 (Val (Obj (h 5 1))) (Val (Num 0)) (Val (Num 0))) (Stat status.Success)
    ∷ event.End (p 0) callback.EvtIoStop (h 3 3) (Stat status.Success)
    ∷ event.Stage (h 2 2) stage.Settled None
    ∷ event.Stage (h 2 2) stage.Sleeping None
    ∷ event.Tick 2
    ∷ event.Posted 0 (post.Ask ask.Wake (h 2 2)) None
    ∷ event.Stage (h 2 2) stage.QueuesUp None
    ∷ event.Start (p 0) callback.EvtIoResume (h 3 3) (Some (h 5 1))
    ∷ event.Log (p 0) (Stat status.Success)
    ∷ event.End (p 0) callback.EvtIoResume (h 3 3) (Stat status.Success)
    ∷ event.Stage (h 2 2) stage.Working None
    ∷ event.Tick 3
    ∷ event.Posted 3 (post.Done (h 5 1) status.Success) None
    ∷ event.Start (p 0) callback.EvtRequestCompletion (h 4 4) (Some (h 5 1))
    ∷ event.Did (p 0) (c call.WdfRequestComplete 2 (Val (Obj (h 5 1))) (Val (Stat status.Success)) (Val (Num 0))) (Stat status.Success)
    ∷ event.End (p 0) callback.EvtRequestCompletion (h 4 4) (Stat status.Success)
    ∷ event.Cleanup (h 5 1)
    ∷ event.Destroy (h 5 1)
    ∷ []

abbrev pub target_stopped_plan : Plan
target_stopped_plan = record (a_plan 1 100 16) {
  names = (codes "driver") ∷ (codes "req") ∷ (codes "W") ∷ (codes "D") ∷ (codes "Q") ∷ (codes "T") ∷ (codes "A") ∷ [];
  declared = declared.Driver
      ∷ a_device 3 true scope.Unscoped level.Dispatch
      ∷ a_queue 4 2 (dispatch.Parallel 2) (serves true false false false) true false scope.Unscoped level.Dispatch
      ∷ a_target 5 2 9 status.Success 2
      ∷ [];
  classes = (class.Deferred 2 deferred.WorkItem (record { 0 = 2 }) false 0) ∷ [];
  agents = (an_agent 6 ((at 28 0 (post.Read (h 2 3) 1)) ∷ (at 29 0 (post.Read (h 2 3) 2)) ∷ [])) ∷ (an_agent 3 []) ∷ (an_agent 5 []) ∷ [];
  exprs = (node.Object (h 4 5)) ∷ (node.Number 0) ∷ (node.Object (h 4 5)) ∷ (node.Context context.OwnRequest) ∷ (node.Object (h 4 5)) ∷ (node.Number 0) ∷ (node.Context context.RequestLength) ∷ (node.Number 2) ∷ (node.Binary operator.Equals 6 7) ∷ (node.Variable 0) ∷ (node.Context context.OwnRequest) ∷ (node.Context context.CompletionStatus) ∷ [];
  scripts = a_script callback.EvtWorkItem (declared.OfClass 0) 5
      (s 6 1 (act.Call call.WdfIoTargetStop None (arg.Expression 0) (arg.Expression 1) arg.NoArgument)
      ∷ s 7 2 (act.Call call.WdfIoTargetStart None (arg.Expression 2) arg.NoArgument arg.NoArgument) ∷ [])
      ∷ a_script callback.EvtIoRead (a_queue 4 2 (dispatch.Parallel 2) (serves true false false false) true false scope.Unscoped level.Dispatch) 13
      (s 14 1 (act.Call call.WdfRequestSend None (arg.Expression 3) (arg.Expression 4) (arg.Expression 5))
      ∷ s 15 2 (act.If 8 4)
      ∷ s 16 3 (act.Call call.WdfWorkItemCreate (Some 0) (arg.OfClass 0) arg.NoArgument arg.NoArgument)
      ∷ s 17 4 (act.Call call.WdfWorkItemEnqueue None (arg.Expression 9) arg.NoArgument arg.NoArgument) ∷ [])
      ∷ a_script callback.EvtRequestCompletion (a_target 5 2 9 status.Success 2) 22 (s 23 1 (act.Call call.WdfRequestComplete None (arg.Expression 10) (arg.Expression 11) arg.NoArgument) ∷ [])
      ∷ [];
}

abbrev pub target_stopped_events : List Event
target_stopped_events = event.Posted 1 (post.Read (h 2 3) 1) (Some (h 5 1))
    ∷ event.Start (p 0) callback.EvtIoRead (h 3 4) (Some (h 5 1))
    ∷ event.Did (p 0) (c call.WdfRequestSend 3 (Val (Obj (h 5 1))) (Val (Obj (h 4 5))) (Val (Num 0))) (Num 1)
    ∷ event.Local (p 0) 15
    ∷ event.End (p 0) callback.EvtIoRead (h 3 4) (Stat status.Success)
    ∷ event.Posted 1 (post.Read (h 2 3) 2) (Some (h 6 1))
    ∷ event.Start (p 0) callback.EvtIoRead (h 3 4) (Some (h 6 1))
    ∷ event.Did (p 0) (c call.WdfRequestSend 3 (Val (Obj (h 6 1))) (Val (Obj (h 4 5))) (Val (Num 0))) (Num 1)
    ∷ event.Local (p 0) 15
    ∷ event.Did (p 0) (c call.WdfWorkItemCreate 1 (Class 0) (Val (Num 0)) (Val (Num 0))) (Obj (h 7 2))
    ∷ event.Did (p 0) (c call.WdfWorkItemEnqueue 1 (Val (Obj (h 7 2))) (Val (Num 0)) (Val (Num 0))) (Stat status.Success)
    ∷ event.End (p 0) callback.EvtIoRead (h 3 4) (Stat status.Success)
    ∷ event.Start (p 0) callback.EvtWorkItem (h 7 2) None
    ∷ event.Waiting (p 0) (c call.WdfIoTargetStop 2 (Val (Obj (h 4 5))) (Val (Num 0)) (Val (Num 0)))
    ∷ event.Park (p 0) (f 13)
    ∷ event.Posted 3 (post.Done (h 5 1) status.Cancelled) None
    ∷ event.Start (p 0) callback.EvtRequestCompletion (h 4 5) (Some (h 5 1))
    ∷ event.Did (p 0) (c call.WdfRequestComplete 2 (Val (Obj (h 5 1))) (Val (Stat status.Cancelled)) (Val (Num 0))) (Stat status.Success)
    ∷ event.End (p 0) callback.EvtRequestCompletion (h 4 5) (Stat status.Success)
    ∷ event.Cleanup (h 5 1)
    ∷ event.Destroy (h 5 1)
    ∷ event.Posted 3 (post.Done (h 6 1) status.Cancelled) None
    ∷ event.Start (p 0) callback.EvtRequestCompletion (h 4 5) (Some (h 6 1))
    ∷ event.Did (p 0) (c call.WdfRequestComplete 2 (Val (Obj (h 6 1))) (Val (Stat status.Cancelled)) (Val (Num 0))) (Stat status.Success)
    ∷ event.End (p 0) callback.EvtRequestCompletion (h 4 5) (Stat status.Success)
    ∷ event.Unpark (p 0) (f 13)
    ∷ event.Woke (p 0) (c call.WdfIoTargetStop 2 (Val (Obj (h 4 5))) (Val (Num 0)) (Val (Num 0))) (Stat status.Success)
    ∷ event.Did (p 0) (c call.WdfIoTargetStart 1 (Val (Obj (h 4 5))) (Val (Num 0)) (Val (Num 0))) (Stat status.Success)
    ∷ event.End (p 0) callback.EvtWorkItem (h 7 2) (Stat status.Success)
    ∷ event.Cleanup (h 6 1)
    ∷ event.Destroy (h 6 1)
    ∷ []
