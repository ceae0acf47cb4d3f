-- Worked runs of requests and of calls that wait for them: the plan of each, its events, and what it waits for where it is stuck. Made by
-- tools/scene_to_plan.py from the scenarios and traces of scenarios/stuck.
use Rattle.std.specs.Prelude.{List, [], ◌∷◌, Some, None, true, false, codes}
use Rattle.wdf_base.specs.declared.declared.Declared.TheVariants as declared
use Rattle.wdf_base.specs.declared.declared.ClassInfo.TheVariants as class
use Rattle.wdf_base.specs.declared.declared.PlainKind.TheVariants as plain
use Rattle.wdf_base.specs.declared.declared.DeferredKind.TheVariants as deferred
use Rattle.wdf_base.specs.declared.declared.Scope.TheVariants as scope
use Rattle.wdf_base.specs.declared.declared.ExecutionLevel.TheVariants as level
use Rattle.wdf_base.specs.declared.declared.DispatchKind.TheVariants as dispatch
use Rattle.wdf_base.specs.declared.event.Post.TheVariants as post
use Rattle.wdf_base.specs.declared.event.Event.{Event}
use Rattle.wdf_base.specs.declared.event.Event.TheVariants as event
use Rattle.wdf_base.specs.declared.script.ExprNode.TheVariants as node
use Rattle.wdf_base.specs.declared.script.ContextWord.TheVariants as context
use Rattle.wdf_base.specs.declared.script.ArgNode.TheVariants as arg
use Rattle.wdf_base.specs.declared.script.Act.TheVariants as act
use Rattle.wdf_base.specs.declared.call.Arg.TheVariants.{Val, Class}
use Rattle.wdf_base.specs.declared.call.CallKind.TheVariants as call
use Rattle.wdf_base.specs.declared.call.Callback.TheVariants as callback
use Rattle.wdf_base.specs.declared.value.Status.TheVariants as status
use Rattle.wdf_base.specs.declared.value.Value.TheVariants.{Num, Obj, Stat}
use Rattle.wdf_base.specs.declared.plan.Plan.{Plan}
use Rattle.wdf_base.specs.declared.wait.OpenThing.TheVariants as thing
use Rattle.wdf_base.specs.declared.wait.Cause.TheVariants as cause
use Rattle.wdf_base.specs.declared.wait.WaitLine.{WaitLine}
use Rattle.law_machine_worked.specs.Writing.{h, p, f, c, at, s, line, a_plan, a_device, a_queue, serves, an_agent, a_script}

abbrev pub cannot_return_plan : Plan
cannot_return_plan = record (a_plan 2 100 16) {
  names = (codes "driver") ∷ (codes "req") ∷ (codes "Lock") ∷ (codes "Purge") ∷ (codes "D") ∷ (codes "Kept") ∷ (codes "Writes") ∷ (codes "A") ∷ (codes "B") ∷ [];
  declared = declared.Driver
      ∷ a_device 4 true scope.PerDevice level.Passive
      ∷ a_queue 5 2 dispatch.Manual (serves false true false false) true false scope.PerDevice level.Passive
      ∷ a_queue 6 2 dispatch.Sequential (serves false false true false) true false scope.PerDevice level.Passive
      ∷ [];
  classes = (class.Plain 2 plain.WaitLock) ∷ (class.Deferred 3 deferred.WorkItem (record { 0 = 2 }) false 0) ∷ [];
  agents = (an_agent 7 ((at 40 0 (post.Read (h 2 4) 16)) ∷ [])) ∷ (an_agent 8 ((at 43 1 (post.Write (h 2 4) 16)) ∷ [])) ∷ (an_agent 4 []) ∷ [];
  exprs = (node.Context context.NearestDevice) ∷ (node.Number 0) ∷ (node.Variable 0) ∷ (node.Object (h 3 5)) ∷ (node.Variable 0) ∷ (node.Context context.OwnRequest) ∷ (node.Literal status.Cancelled) ∷ (node.Context context.NearestDevice) ∷ (node.Context context.NearestDevice) ∷ (node.Number 0) ∷ (node.Variable 0) ∷ (node.Object (h 3 5)) ∷ (node.Variable 1) ∷ (node.Variable 2) ∷ (node.Number 1) ∷ (node.Variable 0) ∷ (node.Variable 0) ∷ (node.Context context.OwnRequest) ∷ (node.Literal status.Success) ∷ [];
  scripts = a_script callback.EvtWorkItem (declared.OfClass 1) 7
      (s 8 1 (act.Call call.GetContext (Some 0) (arg.Expression 0) (arg.Expression 1) arg.NoArgument)
      ∷ s 9 2 (act.Call call.WdfWaitLockAcquire None (arg.Expression 2) arg.NoArgument arg.NoArgument)
      ∷ s 10 3 (act.Call call.WdfIoQueuePurgeSynchronously None (arg.Expression 3) arg.NoArgument arg.NoArgument)
      ∷ s 11 4 (act.Call call.WdfWaitLockRelease None (arg.Expression 4) arg.NoArgument arg.NoArgument) ∷ [])
      ∷ a_script callback.EvtIoCanceledOnQueue (a_queue 5 2 dispatch.Manual (serves false true false false) true false scope.PerDevice level.Passive) 19 (s 20 1 (act.Call call.WdfRequestComplete None (arg.Expression 5) (arg.Expression 6) arg.NoArgument) ∷ [])
      ∷ a_script callback.EvtIoWrite (a_queue 6 2 dispatch.Sequential (serves false false true false) true false scope.PerDevice level.Passive) 25
      (s 26 1 (act.Call call.WdfWaitLockCreate (Some 0) (arg.OfClass 0) (arg.Expression 7) arg.NoArgument)
      ∷ s 27 2 (act.Call call.SetContext None (arg.Expression 8) (arg.Expression 9) (arg.Expression 10))
      ∷ s 28 3 (act.Call call.WdfIoQueueRetrieveNextRequest (Some 1) (arg.Expression 11) arg.NoArgument arg.NoArgument)
      ∷ s 29 4 (act.Call call.WdfRequestRequeue None (arg.Expression 12) arg.NoArgument arg.NoArgument)
      ∷ s 30 5 (act.Call call.WdfWorkItemCreate (Some 2) (arg.OfClass 1) arg.NoArgument arg.NoArgument)
      ∷ s 31 6 (act.Call call.WdfWorkItemEnqueue None (arg.Expression 13) arg.NoArgument arg.NoArgument)
      ∷ s 32 7 (act.Spend 14)
      ∷ s 33 8 (act.Call call.WdfWaitLockAcquire None (arg.Expression 15) arg.NoArgument arg.NoArgument)
      ∷ s 34 9 (act.Call call.WdfWaitLockRelease None (arg.Expression 16) arg.NoArgument arg.NoArgument)
      ∷ s 35 10 (act.Call call.WdfRequestComplete None (arg.Expression 17) (arg.Expression 18) arg.NoArgument) ∷ [])
      ∷ [];
}

abbrev pub cannot_return_events : List Event
cannot_return_events = event.Posted 1 (post.Read (h 2 4) 16) (Some (h 5 1))
    ∷ event.Tick 1
    ∷ event.Posted 2 (post.Write (h 2 4) 16) (Some (h 6 1))
    ∷ event.Start (p 0) callback.EvtIoWrite (h 4 6) (Some (h 6 1))
    ∷ event.Did (p 0) (c call.WdfWaitLockCreate 2 (Class 0) (Val (Obj (h 2 4))) (Val (Num 0))) (Obj (h 7 2))
    ∷ event.Did (p 0) (c call.SetContext 3 (Val (Obj (h 2 4))) (Val (Num 0)) (Val (Obj (h 7 2)))) (Stat status.Success)
    ∷ event.Did (p 0) (c call.WdfIoQueueRetrieveNextRequest 1 (Val (Obj (h 3 5))) (Val (Num 0)) (Val (Num 0))) (Obj (h 5 1))
    ∷ event.Did (p 0) (c call.WdfRequestRequeue 1 (Val (Obj (h 5 1))) (Val (Num 0)) (Val (Num 0))) (Stat status.Success)
    ∷ event.Did (p 0) (c call.WdfWorkItemCreate 1 (Class 1) (Val (Num 0)) (Val (Num 0))) (Obj (h 8 3))
    ∷ event.Did (p 0) (c call.WdfWorkItemEnqueue 1 (Val (Obj (h 8 3))) (Val (Num 0)) (Val (Num 0))) (Stat status.Success)
    ∷ event.Spend (p 0) 1
    ∷ event.Start (p 1) callback.EvtWorkItem (h 8 3) None
    ∷ event.Did (p 1) (c call.GetContext 2 (Val (Obj (h 2 4))) (Val (Num 0)) (Val (Num 0))) (Obj (h 7 2))
    ∷ event.Did (p 1) (c call.WdfWaitLockAcquire 1 (Val (Obj (h 7 2))) (Val (Num 0)) (Val (Num 0))) (Stat status.Success)
    ∷ event.Waiting (p 1) (c call.WdfIoQueuePurgeSynchronously 1 (Val (Obj (h 3 5))) (Val (Num 0)) (Val (Num 0)))
    ∷ event.Park (p 1) (f 12)
    ∷ event.Tick 2
    ∷ event.Waiting (p 0) (c call.WdfWaitLockAcquire 1 (Val (Obj (h 7 2))) (Val (Num 0)) (Val (Num 0)))
    ∷ event.Park (p 0) (f 4)
    ∷ []

abbrev pub cannot_return_waits : List WaitLine
cannot_return_waits = (line (thing.Waiting (f 4) callback.EvtIoWrite (h 4 6)) (Some (cause.ByLock (h 7 2) (f 12)))) ∷ (line (thing.Waiting (f 12) callback.EvtWorkItem (h 8 3)) (Some (cause.ByRequest (h 5 1)))) ∷ (line (thing.Returning (h 5 1) (h 3 5)) (Some (cause.ScopeHeld))) ∷ (line (thing.Owned (h 6 1)) None) ∷ []

abbrev pub full_and_behind_plan : Plan
full_and_behind_plan = record (a_plan 1 100 16) {
  names = (codes "driver") ∷ (codes "req") ∷ (codes "D") ∷ (codes "Q") ∷ (codes "A") ∷ [];
  declared = declared.Driver
      ∷ a_device 2 true scope.Unscoped level.Dispatch
      ∷ a_queue 3 2 dispatch.Sequential (serves true false false false) true false scope.Unscoped level.Dispatch
      ∷ [];
  agents = (an_agent 4 ((at 12 0 (post.Read (h 2 2) 1)) ∷ (at 13 0 (post.Read (h 2 2) 1)) ∷ (at 14 0 (post.Read (h 2 2) 1)) ∷ [])) ∷ (an_agent 2 []) ∷ [];
  scripts = a_script callback.EvtIoRead (a_queue 3 2 dispatch.Sequential (serves true false false false) true false scope.Unscoped level.Dispatch) 7 []
      ∷ [];
}

abbrev pub full_and_behind_events : List Event
full_and_behind_events = event.Posted 1 (post.Read (h 2 2) 1) (Some (h 4 1))
    ∷ event.Start (p 0) callback.EvtIoRead (h 3 3) (Some (h 4 1))
    ∷ event.End (p 0) callback.EvtIoRead (h 3 3) (Stat status.Success)
    ∷ event.Posted 1 (post.Read (h 2 2) 1) (Some (h 5 1))
    ∷ event.Posted 1 (post.Read (h 2 2) 1) (Some (h 6 1))
    ∷ []

abbrev pub full_and_behind_waits : List WaitLine
full_and_behind_waits = (line (thing.Owned (h 4 1)) None) ∷ (line (thing.Queued (h 5 1) (h 3 3)) (Some (cause.Full))) ∷ (line (thing.Queued (h 6 1) (h 3 3)) (Some (cause.Behind (h 5 1)))) ∷ []

abbrev pub stopped_plan : Plan
stopped_plan = record (a_plan 1 100 16) {
  names = (codes "driver") ∷ (codes "req") ∷ (codes "D") ∷ (codes "Q") ∷ (codes "A") ∷ [];
  declared = declared.Driver
      ∷ a_device 2 true scope.Unscoped level.Dispatch
      ∷ a_queue 3 2 dispatch.Sequential (serves true false false false) true false scope.Unscoped level.Dispatch
      ∷ [];
  agents = (an_agent 4 ((at 14 0 (post.Read (h 2 2) 1)) ∷ (at 15 1 (post.Read (h 2 2) 1)) ∷ [])) ∷ (an_agent 2 []) ∷ [];
  exprs = (node.Context context.OwnObject) ∷ (node.Context context.OwnRequest) ∷ (node.Literal status.Success) ∷ [];
  scripts = a_script callback.EvtIoRead (a_queue 3 2 dispatch.Sequential (serves true false false false) true false scope.Unscoped level.Dispatch) 7
      (s 8 1 (act.Call call.WdfIoQueueStop None (arg.Expression 0) arg.NoArgument arg.NoArgument)
      ∷ s 9 2 (act.Call call.WdfRequestComplete None (arg.Expression 1) (arg.Expression 2) arg.NoArgument) ∷ [])
      ∷ [];
}

abbrev pub stopped_events : List Event
stopped_events = event.Posted 1 (post.Read (h 2 2) 1) (Some (h 4 1))
    ∷ event.Start (p 0) callback.EvtIoRead (h 3 3) (Some (h 4 1))
    ∷ event.Did (p 0) (c call.WdfIoQueueStop 1 (Val (Obj (h 3 3))) (Val (Num 0)) (Val (Num 0))) (Stat status.Success)
    ∷ event.Did (p 0) (c call.WdfRequestComplete 2 (Val (Obj (h 4 1))) (Val (Stat status.Success)) (Val (Num 0))) (Stat status.Success)
    ∷ event.End (p 0) callback.EvtIoRead (h 3 3) (Stat status.Success)
    ∷ event.Cleanup (h 4 1)
    ∷ event.Destroy (h 4 1)
    ∷ event.Tick 1
    ∷ event.Posted 1 (post.Read (h 2 2) 1) (Some (h 5 1))
    ∷ []

abbrev pub stopped_waits : List WaitLine
stopped_waits = (line (thing.Queued (h 5 1) (h 3 3)) (Some (cause.Stopped))) ∷ []

abbrev pub unpowered_and_manual_plan : Plan
unpowered_and_manual_plan = record (a_plan 1 100 16) {
  names = (codes "driver") ∷ (codes "req") ∷ (codes "D") ∷ (codes "Q") ∷ (codes "M") ∷ (codes "A") ∷ [];
  declared = declared.Driver
      ∷ a_device 2 false scope.Unscoped level.Dispatch
      ∷ a_queue 3 2 dispatch.Sequential (serves true false false false) true false scope.Unscoped level.Dispatch
      ∷ a_queue 4 2 dispatch.Manual (serves false false true false) false false scope.Unscoped level.Dispatch
      ∷ [];
  agents = (an_agent 5 ((at 17 0 (post.Read (h 2 2) 1)) ∷ (at 18 0 (post.Write (h 2 2) 1)) ∷ [])) ∷ (an_agent 2 []) ∷ [];
  exprs = (node.Context context.OwnRequest) ∷ (node.Literal status.Success) ∷ [];
  scripts = a_script callback.EvtIoRead (a_queue 3 2 dispatch.Sequential (serves true false false false) true false scope.Unscoped level.Dispatch) 7 (s 8 1 (act.Call call.WdfRequestComplete None (arg.Expression 0) (arg.Expression 1) arg.NoArgument) ∷ [])
      ∷ [];
}

abbrev pub unpowered_and_manual_events : List Event
unpowered_and_manual_events = event.Posted 1 (post.Read (h 2 2) 1) (Some (h 5 1))
    ∷ event.Posted 1 (post.Write (h 2 2) 1) (Some (h 6 1))
    ∷ []

abbrev pub unpowered_and_manual_waits : List WaitLine
unpowered_and_manual_waits = (line (thing.Queued (h 5 1) (h 3 3)) (Some (cause.Unpowered))) ∷ (line (thing.Queued (h 6 1) (h 4 4)) (Some (cause.Manual))) ∷ []
