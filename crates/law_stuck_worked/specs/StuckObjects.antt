-- Worked runs of objects that are deleted or queued: the plan of each, its events, and what it waits for where it is stuck. Made by
-- tools/scene_to_plan.py from the scenarios and traces of scenarios/stuck.
use Rattle.std.specs.Prelude.{List, [], ◌∷◌, Some, None, true, false, codes}
use Rattle.wdf_base.specs.declared.declared.Declared.TheVariants as declared
use Rattle.wdf_base.specs.declared.declared.ClassInfo.TheVariants as class
use Rattle.wdf_base.specs.declared.declared.PlainKind.TheVariants as plain
use Rattle.wdf_base.specs.declared.declared.DeferredKind.TheVariants as deferred
use Rattle.wdf_base.specs.declared.declared.Scope.TheVariants as scope
use Rattle.wdf_base.specs.declared.declared.ExecutionLevel.TheVariants as level
use Rattle.wdf_base.specs.declared.declared.DispatchKind.TheVariants as dispatch
use Rattle.wdf_base.specs.declared.event.Post.TheVariants as post
use Rattle.wdf_base.specs.declared.event.Event.{Event}
use Rattle.wdf_base.specs.declared.event.Event.TheVariants as event
use Rattle.wdf_base.specs.declared.script.ExprNode.TheVariants as node
use Rattle.wdf_base.specs.declared.script.ContextWord.TheVariants as context
use Rattle.wdf_base.specs.declared.script.ArgNode.TheVariants as arg
use Rattle.wdf_base.specs.declared.script.Act.TheVariants as act
use Rattle.wdf_base.specs.declared.call.Arg.TheVariants.{Val, Class}
use Rattle.wdf_base.specs.declared.call.CallKind.TheVariants as call
use Rattle.wdf_base.specs.declared.call.Callback.TheVariants as callback
use Rattle.wdf_base.specs.declared.value.Status.TheVariants as status
use Rattle.wdf_base.specs.declared.value.Value.TheVariants.{Num, Obj, Stat}
use Rattle.wdf_base.specs.declared.plan.Plan.{Plan}
use Rattle.wdf_base.specs.declared.wait.OpenThing.TheVariants as thing
use Rattle.wdf_base.specs.declared.wait.Cause.TheVariants as cause
use Rattle.wdf_base.specs.declared.wait.WaitLine.{WaitLine}
use Rattle.law_machine_worked.specs.Writing.{h, p, f, c, at, s, line, a_plan, a_device, a_queue, serves, an_agent, a_script}

abbrev pub child_with_a_reference_plan : Plan
child_with_a_reference_plan = record (a_plan 1 100 16) {
  names = (codes "driver") ∷ (codes "req") ∷ (codes "P") ∷ (codes "C") ∷ (codes "D") ∷ (codes "Q") ∷ (codes "A") ∷ [];
  declared = declared.Driver
      ∷ a_device 4 true scope.Unscoped level.Dispatch
      ∷ a_queue 5 2 dispatch.Sequential (serves true false false false) true false scope.Unscoped level.Dispatch
      ∷ [];
  classes = (class.Plain 2 plain.Object) ∷ (class.Plain 3 plain.Object) ∷ [];
  agents = (an_agent 6 ((at 21 0 (post.Read (h 2 4) 1)) ∷ [])) ∷ (an_agent 4 []) ∷ [];
  exprs = (node.Context context.NearestDevice) ∷ (node.Variable 0) ∷ (node.Variable 1) ∷ (node.Variable 0) ∷ (node.Context context.OwnRequest) ∷ (node.Literal status.Success) ∷ [];
  scripts = a_script callback.EvtIoRead (a_queue 5 2 dispatch.Sequential (serves true false false false) true false scope.Unscoped level.Dispatch) 11
      (s 12 1 (act.Call call.WdfObjectCreate (Some 0) (arg.OfClass 0) (arg.Expression 0) arg.NoArgument)
      ∷ s 13 2 (act.Call call.WdfObjectCreate (Some 1) (arg.OfClass 1) (arg.Expression 1) arg.NoArgument)
      ∷ s 14 3 (act.Call call.WdfObjectReference None (arg.Expression 2) arg.NoArgument arg.NoArgument)
      ∷ s 15 4 (act.Call call.WdfObjectDelete None (arg.Expression 3) arg.NoArgument arg.NoArgument)
      ∷ s 16 5 (act.Call call.WdfRequestComplete None (arg.Expression 4) (arg.Expression 5) arg.NoArgument) ∷ [])
      ∷ [];
}

abbrev pub child_with_a_reference_events : List Event
child_with_a_reference_events = event.Posted 1 (post.Read (h 2 4) 1) (Some (h 4 1))
    ∷ event.Start (p 0) callback.EvtIoRead (h 3 5) (Some (h 4 1))
    ∷ event.Did (p 0) (c call.WdfObjectCreate 2 (Class 0) (Val (Obj (h 2 4))) (Val (Num 0))) (Obj (h 5 2))
    ∷ event.Did (p 0) (c call.WdfObjectCreate 2 (Class 1) (Val (Obj (h 5 2))) (Val (Num 0))) (Obj (h 6 3))
    ∷ event.Did (p 0) (c call.WdfObjectReference 1 (Val (Obj (h 6 3))) (Val (Num 0)) (Val (Num 0))) (Stat status.Success)
    ∷ event.Did (p 0) (c call.WdfObjectDelete 1 (Val (Obj (h 5 2))) (Val (Num 0)) (Val (Num 0))) (Stat status.Success)
    ∷ event.Did (p 0) (c call.WdfRequestComplete 2 (Val (Obj (h 4 1))) (Val (Stat status.Success)) (Val (Num 0))) (Stat status.Success)
    ∷ event.End (p 0) callback.EvtIoRead (h 3 5) (Stat status.Success)
    ∷ event.Cleanup (h 4 1)
    ∷ event.Cleanup (h 6 3)
    ∷ event.Cleanup (h 5 2)
    ∷ event.Destroy (h 4 1)
    ∷ []

abbrev pub child_with_a_reference_waits : List WaitLine
child_with_a_reference_waits = (line (thing.Leaving (h 5 2)) (Some (cause.ByChild (h 6 3)))) ∷ (line (thing.Leaving (h 6 3)) (Some (cause.References 1))) ∷ []

abbrev pub deleted_while_it_is_held_plan : Plan
deleted_while_it_is_held_plan = record (a_plan 2 100 16) {
  names = (codes "driver") ∷ (codes "req") ∷ (codes "Pair") ∷ (codes "Note") ∷ (codes "Lock") ∷ (codes "D") ∷ (codes "M") ∷ (codes "Q") ∷ (codes "W") ∷ (codes "A") ∷ [];
  declared = declared.Driver
      ∷ a_device 5 true scope.Unscoped level.Passive
      ∷ a_queue 6 2 dispatch.Manual (serves false false false true) true false scope.Unscoped level.Passive
      ∷ a_queue 7 2 dispatch.Sequential (serves false true false false) true false scope.Unscoped level.Passive
      ∷ a_queue 8 2 dispatch.Sequential (serves false false true false) true false scope.Unscoped level.Passive
      ∷ [];
  classes = (class.Plain 2 plain.Object) ∷ (class.Plain 3 plain.Object) ∷ (class.Plain 4 plain.WaitLock) ∷ [];
  agents = (an_agent 9 ((at 37 0 (post.Control (h 2 5) 1 0)) ∷ (at 38 0 (post.Read (h 2 5) 1)) ∷ (at 39 0 (post.Write (h 2 5) 1)) ∷ [])) ∷ (an_agent 5 []) ∷ [];
  exprs = (node.Context context.NearestDevice) ∷ (node.Variable 0) ∷ (node.Variable 0) ∷ (node.Context context.NearestDevice) ∷ (node.Number 0) ∷ (node.Variable 1) ∷ (node.Number 1) ∷ (node.Variable 0) ∷ (node.Variable 1) ∷ (node.Context context.NearestDevice) ∷ (node.Number 0) ∷ (node.Variable 0) ∷ (node.Object (h 3 6)) ∷ [];
  scripts = a_script callback.EvtIoRead (a_queue 7 2 dispatch.Sequential (serves false true false false) true false scope.Unscoped level.Passive) 17
      (s 18 1 (act.Call call.WdfObjectCreate (Some 0) (arg.OfClass 0) (arg.Expression 0) arg.NoArgument)
      ∷ s 19 2 (act.Call call.WdfObjectCreate None (arg.OfClass 1) (arg.Expression 1) arg.NoArgument)
      ∷ s 20 3 (act.Call call.WdfWaitLockCreate (Some 1) (arg.OfClass 2) (arg.Expression 2) arg.NoArgument)
      ∷ s 21 4 (act.Call call.SetContext None (arg.Expression 3) (arg.Expression 4) (arg.Expression 5))
      ∷ s 22 5 (act.Spend 6)
      ∷ s 23 6 (act.Call call.WdfObjectDelete None (arg.Expression 7) arg.NoArgument arg.NoArgument)
      ∷ s 24 7 (act.Call call.WdfWaitLockAcquire None (arg.Expression 8) arg.NoArgument arg.NoArgument) ∷ [])
      ∷ a_script callback.EvtIoWrite (a_queue 8 2 dispatch.Sequential (serves false false true false) true false scope.Unscoped level.Passive) 29
      (s 30 1 (act.Call call.GetContext (Some 0) (arg.Expression 9) (arg.Expression 10) arg.NoArgument)
      ∷ s 31 2 (act.Call call.WdfWaitLockAcquire None (arg.Expression 11) arg.NoArgument arg.NoArgument)
      ∷ s 32 3 (act.Call call.WdfIoQueueDrainSynchronously None (arg.Expression 12) arg.NoArgument arg.NoArgument) ∷ [])
      ∷ [];
}

abbrev pub deleted_while_it_is_held_events : List Event
deleted_while_it_is_held_events = event.Posted 1 (post.Control (h 2 5) 1 0) (Some (h 6 1))
    ∷ event.Posted 1 (post.Read (h 2 5) 1) (Some (h 7 1))
    ∷ event.Start (p 0) callback.EvtIoRead (h 4 7) (Some (h 7 1))
    ∷ event.Did (p 0) (c call.WdfObjectCreate 2 (Class 0) (Val (Obj (h 2 5))) (Val (Num 0))) (Obj (h 8 2))
    ∷ event.Did (p 0) (c call.WdfObjectCreate 2 (Class 1) (Val (Obj (h 8 2))) (Val (Num 0))) (Obj (h 9 3))
    ∷ event.Did (p 0) (c call.WdfWaitLockCreate 2 (Class 2) (Val (Obj (h 8 2))) (Val (Num 0))) (Obj (h 10 4))
    ∷ event.Did (p 0) (c call.SetContext 3 (Val (Obj (h 2 5))) (Val (Num 0)) (Val (Obj (h 10 4)))) (Stat status.Success)
    ∷ event.Spend (p 0) 1
    ∷ event.Posted 1 (post.Write (h 2 5) 1) (Some (h 11 1))
    ∷ event.Start (p 1) callback.EvtIoWrite (h 5 8) (Some (h 11 1))
    ∷ event.Did (p 1) (c call.GetContext 2 (Val (Obj (h 2 5))) (Val (Num 0)) (Val (Num 0))) (Obj (h 10 4))
    ∷ event.Did (p 1) (c call.WdfWaitLockAcquire 1 (Val (Obj (h 10 4))) (Val (Num 0)) (Val (Num 0))) (Stat status.Success)
    ∷ event.Waiting (p 1) (c call.WdfIoQueueDrainSynchronously 1 (Val (Obj (h 3 6))) (Val (Num 0)) (Val (Num 0)))
    ∷ event.Park (p 1) (f 10)
    ∷ event.Tick 1
    ∷ event.Did (p 0) (c call.WdfObjectDelete 1 (Val (Obj (h 8 2))) (Val (Num 0)) (Val (Num 0))) (Stat status.Success)
    ∷ event.Waiting (p 0) (c call.WdfWaitLockAcquire 1 (Val (Obj (h 10 4))) (Val (Num 0)) (Val (Num 0)))
    ∷ event.Park (p 0) (f 3)
    ∷ []

abbrev pub deleted_while_it_is_held_waits : List WaitLine
deleted_while_it_is_held_waits = (line (thing.Waiting (f 3) callback.EvtIoRead (h 4 7)) (Some (cause.ByLock (h 10 4) (f 10)))) ∷ (line (thing.Waiting (f 10) callback.EvtIoWrite (h 5 8)) (Some (cause.ByRequest (h 6 1)))) ∷ (line (thing.Queued (h 6 1) (h 3 6)) (Some (cause.Manual))) ∷ (line (thing.Owned (h 7 1)) None) ∷ (line (thing.Owned (h 11 1)) None) ∷ (line (thing.Leaving (h 8 2)) (Some (cause.ByChild (h 9 3)))) ∷ (line (thing.Leaving (h 9 3)) (Some (cause.ByChild (h 10 4)))) ∷ (line (thing.Leaving (h 10 4)) (Some (cause.ByFrame (f 3)))) ∷ []

abbrev pub deleted_while_it_runs_plan : Plan
deleted_while_it_runs_plan = record (a_plan 1 100 16) {
  names = (codes "driver") ∷ (codes "req") ∷ (codes "W") ∷ (codes "D") ∷ (codes "M") ∷ (codes "Q") ∷ (codes "A") ∷ [];
  declared = declared.Driver
      ∷ a_device 3 true scope.Unscoped level.Passive
      ∷ a_queue 4 2 dispatch.Manual (serves false false true false) true false scope.Unscoped level.Passive
      ∷ a_queue 5 2 dispatch.Sequential (serves false true false false) true false scope.Unscoped level.Passive
      ∷ [];
  classes = (class.Deferred 2 deferred.WorkItem (record { 0 = 2 }) false 0) ∷ [];
  agents = (an_agent 6 ((at 25 0 (post.Write (h 2 3) 1)) ∷ (at 26 0 (post.Read (h 2 3) 1)) ∷ [])) ∷ (an_agent 3 []) ∷ [];
  exprs = (node.Context context.OwnObject) ∷ (node.Object (h 3 4)) ∷ (node.Variable 0) ∷ (node.Context context.OwnRequest) ∷ (node.Literal status.Success) ∷ [];
  scripts = a_script callback.EvtWorkItem (declared.OfClass 0) 5
      (s 6 1 (act.Call call.WdfObjectDelete None (arg.Expression 0) arg.NoArgument arg.NoArgument)
      ∷ s 7 2 (act.Call call.WdfIoQueueDrainSynchronously None (arg.Expression 1) arg.NoArgument arg.NoArgument) ∷ [])
      ∷ a_script callback.EvtIoRead (a_queue 5 2 dispatch.Sequential (serves false true false false) true false scope.Unscoped level.Passive) 17
      (s 18 1 (act.Call call.WdfWorkItemCreate (Some 0) (arg.OfClass 0) arg.NoArgument arg.NoArgument)
      ∷ s 19 2 (act.Call call.WdfWorkItemEnqueue None (arg.Expression 2) arg.NoArgument arg.NoArgument)
      ∷ s 20 3 (act.Call call.WdfRequestComplete None (arg.Expression 3) (arg.Expression 4) arg.NoArgument) ∷ [])
      ∷ [];
}

abbrev pub deleted_while_it_runs_events : List Event
deleted_while_it_runs_events = event.Posted 1 (post.Write (h 2 3) 1) (Some (h 5 1))
    ∷ event.Posted 1 (post.Read (h 2 3) 1) (Some (h 6 1))
    ∷ event.Start (p 0) callback.EvtIoRead (h 4 5) (Some (h 6 1))
    ∷ event.Did (p 0) (c call.WdfWorkItemCreate 1 (Class 0) (Val (Num 0)) (Val (Num 0))) (Obj (h 7 2))
    ∷ event.Did (p 0) (c call.WdfWorkItemEnqueue 1 (Val (Obj (h 7 2))) (Val (Num 0)) (Val (Num 0))) (Stat status.Success)
    ∷ event.Did (p 0) (c call.WdfRequestComplete 2 (Val (Obj (h 6 1))) (Val (Stat status.Success)) (Val (Num 0))) (Stat status.Success)
    ∷ event.End (p 0) callback.EvtIoRead (h 4 5) (Stat status.Success)
    ∷ event.Start (p 0) callback.EvtWorkItem (h 7 2) None
    ∷ event.Did (p 0) (c call.WdfObjectDelete 1 (Val (Obj (h 7 2))) (Val (Num 0)) (Val (Num 0))) (Stat status.Success)
    ∷ event.Waiting (p 0) (c call.WdfIoQueueDrainSynchronously 1 (Val (Obj (h 3 4))) (Val (Num 0)) (Val (Num 0)))
    ∷ event.Park (p 0) (f 8)
    ∷ event.Cleanup (h 6 1)
    ∷ event.Destroy (h 6 1)
    ∷ []

abbrev pub deleted_while_it_runs_waits : List WaitLine
deleted_while_it_runs_waits = (line (thing.Waiting (f 8) callback.EvtWorkItem (h 7 2)) (Some (cause.ByRequest (h 5 1)))) ∷ (line (thing.Queued (h 5 1) (h 3 4)) (Some (cause.Manual))) ∷ (line (thing.Leaving (h 7 2)) (Some (cause.ByFrame (f 8)))) ∷ []

abbrev pub destroyed_never_plan : Plan
destroyed_never_plan = record (a_plan 1 100 16) {
  names = (codes "driver") ∷ (codes "req") ∷ (codes "Note") ∷ (codes "D") ∷ (codes "M") ∷ (codes "Q") ∷ (codes "A") ∷ [];
  declared = declared.Driver
      ∷ a_device 3 true scope.Unscoped level.Dispatch
      ∷ a_queue 4 2 dispatch.Manual (serves false false true false) true false scope.Unscoped level.Dispatch
      ∷ a_queue 5 2 dispatch.Sequential (serves false true false false) true false scope.Unscoped level.Dispatch
      ∷ [];
  classes = (class.Plain 2 plain.Object) ∷ [];
  agents = (an_agent 6 ((at 23 0 (post.Write (h 2 3) 1)) ∷ (at 24 0 (post.Read (h 2 3) 1)) ∷ [])) ∷ (an_agent 3 []) ∷ [];
  exprs = (node.Object (h 3 4)) ∷ (node.Context context.NearestDevice) ∷ (node.Variable 0) ∷ (node.Context context.OwnRequest) ∷ (node.Literal status.Success) ∷ [];
  scripts = a_script callback.EvtDestroyCallback (declared.OfClass 0) 5 (s 6 1 (act.Call call.WdfIoQueueDrainSynchronously None (arg.Expression 0) arg.NoArgument arg.NoArgument) ∷ [])
      ∷ a_script callback.EvtIoRead (a_queue 5 2 dispatch.Sequential (serves false true false false) true false scope.Unscoped level.Dispatch) 15
      (s 16 1 (act.Call call.WdfObjectCreate (Some 0) (arg.OfClass 0) (arg.Expression 1) arg.NoArgument)
      ∷ s 17 2 (act.Call call.WdfObjectDelete None (arg.Expression 2) arg.NoArgument arg.NoArgument)
      ∷ s 18 3 (act.Call call.WdfRequestComplete None (arg.Expression 3) (arg.Expression 4) arg.NoArgument) ∷ [])
      ∷ [];
}

abbrev pub destroyed_never_events : List Event
destroyed_never_events = event.Posted 1 (post.Write (h 2 3) 1) (Some (h 5 1))
    ∷ event.Posted 1 (post.Read (h 2 3) 1) (Some (h 6 1))
    ∷ event.Start (p 0) callback.EvtIoRead (h 4 5) (Some (h 6 1))
    ∷ event.Did (p 0) (c call.WdfObjectCreate 2 (Class 0) (Val (Obj (h 2 3))) (Val (Num 0))) (Obj (h 7 2))
    ∷ event.Did (p 0) (c call.WdfObjectDelete 1 (Val (Obj (h 7 2))) (Val (Num 0)) (Val (Num 0))) (Stat status.Success)
    ∷ event.Did (p 0) (c call.WdfRequestComplete 2 (Val (Obj (h 6 1))) (Val (Stat status.Success)) (Val (Num 0))) (Stat status.Success)
    ∷ event.End (p 0) callback.EvtIoRead (h 4 5) (Stat status.Success)
    ∷ event.Cleanup (h 6 1)
    ∷ event.Cleanup (h 7 2)
    ∷ event.Start (p 0) callback.EvtDestroyCallback (h 7 2) None
    ∷ event.Waiting (p 0) (c call.WdfIoQueueDrainSynchronously 1 (Val (Obj (h 3 4))) (Val (Num 0)) (Val (Num 0)))
    ∷ event.Park (p 0) (f 10)
    ∷ event.Destroy (h 6 1)
    ∷ []

abbrev pub destroyed_never_waits : List WaitLine
destroyed_never_waits = (line (thing.Waiting (f 10) callback.EvtDestroyCallback (h 7 2)) (Some (cause.ByRequest (h 5 1)))) ∷ (line (thing.Queued (h 5 1) (h 3 4)) (Some (cause.Manual))) ∷ (line (thing.Leaving (h 7 2)) (Some (cause.ByFrame (f 10)))) ∷ []

abbrev pub queued_while_it_runs_plan : Plan
queued_while_it_runs_plan = record (a_plan 1 100 16) {
  names = (codes "driver") ∷ (codes "req") ∷ (codes "Work") ∷ (codes "D") ∷ (codes "M") ∷ (codes "Q") ∷ (codes "A") ∷ [];
  declared = declared.Driver
      ∷ a_device 3 true scope.Unscoped level.Passive
      ∷ a_queue 4 2 dispatch.Manual (serves false false true false) true false scope.Unscoped level.Passive
      ∷ a_queue 5 2 dispatch.Sequential (serves false true false false) true false scope.Unscoped level.Passive
      ∷ [];
  classes = (class.Deferred 2 deferred.WorkItem (record { 0 = 2 }) false 0) ∷ [];
  agents = (an_agent 6 ((at 25 0 (post.Write (h 2 3) 1)) ∷ (at 26 0 (post.Read (h 2 3) 1)) ∷ [])) ∷ (an_agent 3 []) ∷ [];
  exprs = (node.Context context.OwnObject) ∷ (node.Object (h 3 4)) ∷ (node.Variable 0) ∷ (node.Context context.OwnRequest) ∷ (node.Literal status.Success) ∷ [];
  scripts = a_script callback.EvtWorkItem (declared.OfClass 0) 5
      (s 6 1 (act.Call call.WdfWorkItemEnqueue None (arg.Expression 0) arg.NoArgument arg.NoArgument)
      ∷ s 7 2 (act.Call call.WdfIoQueueDrainSynchronously None (arg.Expression 1) arg.NoArgument arg.NoArgument) ∷ [])
      ∷ a_script callback.EvtIoRead (a_queue 5 2 dispatch.Sequential (serves false true false false) true false scope.Unscoped level.Passive) 17
      (s 18 1 (act.Call call.WdfWorkItemCreate (Some 0) (arg.OfClass 0) arg.NoArgument arg.NoArgument)
      ∷ s 19 2 (act.Call call.WdfWorkItemEnqueue None (arg.Expression 2) arg.NoArgument arg.NoArgument)
      ∷ s 20 3 (act.Call call.WdfRequestComplete None (arg.Expression 3) (arg.Expression 4) arg.NoArgument) ∷ [])
      ∷ [];
}

abbrev pub queued_while_it_runs_events : List Event
queued_while_it_runs_events = event.Posted 1 (post.Write (h 2 3) 1) (Some (h 5 1))
    ∷ event.Posted 1 (post.Read (h 2 3) 1) (Some (h 6 1))
    ∷ event.Start (p 0) callback.EvtIoRead (h 4 5) (Some (h 6 1))
    ∷ event.Did (p 0) (c call.WdfWorkItemCreate 1 (Class 0) (Val (Num 0)) (Val (Num 0))) (Obj (h 7 2))
    ∷ event.Did (p 0) (c call.WdfWorkItemEnqueue 1 (Val (Obj (h 7 2))) (Val (Num 0)) (Val (Num 0))) (Stat status.Success)
    ∷ event.Did (p 0) (c call.WdfRequestComplete 2 (Val (Obj (h 6 1))) (Val (Stat status.Success)) (Val (Num 0))) (Stat status.Success)
    ∷ event.End (p 0) callback.EvtIoRead (h 4 5) (Stat status.Success)
    ∷ event.Start (p 0) callback.EvtWorkItem (h 7 2) None
    ∷ event.Did (p 0) (c call.WdfWorkItemEnqueue 1 (Val (Obj (h 7 2))) (Val (Num 0)) (Val (Num 0))) (Stat status.Success)
    ∷ event.Waiting (p 0) (c call.WdfIoQueueDrainSynchronously 1 (Val (Obj (h 3 4))) (Val (Num 0)) (Val (Num 0)))
    ∷ event.Park (p 0) (f 8)
    ∷ event.Cleanup (h 6 1)
    ∷ event.Destroy (h 6 1)
    ∷ []

abbrev pub queued_while_it_runs_waits : List WaitLine
queued_while_it_runs_waits = (line (thing.Waiting (f 8) callback.EvtWorkItem (h 7 2)) (Some (cause.ByRequest (h 5 1)))) ∷ (line (thing.Queued (h 5 1) (h 3 4)) (Some (cause.Manual))) ∷ (line (thing.Deferred (h 7 2)) (Some (cause.ByFrame (f 8)))) ∷ []
