-- Worked runs: the plan of each, its events, and what it waits for where it is stuck. Made by
-- tools/scene_to_plan.py from the scenarios and traces of scenarios/spinning.
use Rattle.std.specs.Prelude.{List, [], ◌∷◌, Some, None, true, false, codes}
use Rattle.wdf_base.specs.declared.declared.Declared.TheVariants as declared
use Rattle.wdf_base.specs.declared.declared.ClassInfo.TheVariants as class
use Rattle.wdf_base.specs.declared.declared.PlainKind.TheVariants as plain
use Rattle.wdf_base.specs.declared.declared.DeferredKind.TheVariants as deferred
use Rattle.wdf_base.specs.declared.declared.Scope.TheVariants as scope
use Rattle.wdf_base.specs.declared.declared.ExecutionLevel.TheVariants as level
use Rattle.wdf_base.specs.declared.declared.DispatchKind.TheVariants as dispatch
use Rattle.wdf_base.specs.declared.event.Ask.TheVariants as ask
use Rattle.wdf_base.specs.declared.event.Post.TheVariants as post
use Rattle.wdf_base.specs.declared.event.Stage.TheVariants as stage
use Rattle.wdf_base.specs.declared.event.Event.{Event}
use Rattle.wdf_base.specs.declared.event.Event.TheVariants as event
use Rattle.wdf_base.specs.declared.script.ExprNode.TheVariants as node
use Rattle.wdf_base.specs.declared.script.ContextWord.TheVariants as context
use Rattle.wdf_base.specs.declared.script.Operator.TheVariants as operator
use Rattle.wdf_base.specs.declared.script.ArgNode.TheVariants as arg
use Rattle.wdf_base.specs.declared.script.Act.TheVariants as act
use Rattle.wdf_base.specs.declared.call.Arg.TheVariants.{Val, Class}
use Rattle.wdf_base.specs.declared.call.CallKind.TheVariants as call
use Rattle.wdf_base.specs.declared.call.Callback.TheVariants as callback
use Rattle.wdf_base.specs.declared.value.Status.TheVariants as status
use Rattle.wdf_base.specs.declared.value.Value.TheVariants.{Num, Obj, Stat}
use Rattle.wdf_base.specs.declared.plan.Plan.{Plan}
use Rattle.wdf_base.specs.declared.event.Step.TheVariants as step
use Rattle.wdf_base.specs.declared.wait.OpenThing.TheVariants as thing
use Rattle.wdf_base.specs.declared.wait.Cause.TheVariants as cause
use Rattle.wdf_base.specs.declared.wait.WaitLine.{WaitLine}
use Rattle.law_machine_worked.specs.Writing.{h, p, f, c, at, s, line, a_plan, a_device, a_queue, serves, an_interrupt, a_target, an_agent, a_script}

abbrev pub interrupted_plan : Plan
interrupted_plan = record (a_plan 2 100 32) {
  names = (codes "driver") ∷ (codes "req") ∷ (codes "Guard") ∷ (codes "Clock") ∷ (codes "D") ∷ (codes "R") ∷ (codes "W") ∷ (codes "A") ∷ [];
  declared = declared.Driver
      ∷ a_device 4 true scope.Unscoped level.Passive
      ∷ a_queue 5 2 dispatch.Sequential (serves false true false false) true false scope.Unscoped level.Passive
      ∷ a_queue 6 2 dispatch.Sequential (serves false false true false) true false scope.Unscoped level.Dispatch
      ∷ [];
  classes = (class.Plain 2 plain.SpinLock) ∷ (class.Deferred 3 deferred.Timer (record { 0 = 2 }) false 1) ∷ [];
  agents = (an_agent 7 ((at 43 0 (post.Read (h 2 4) 1)) ∷ (at 44 1 (post.Write (h 2 4) 1)) ∷ [])) ∷ (an_agent 4 []) ∷ [];
  exprs = (node.Context context.NearestDevice) ∷ (node.Number 0) ∷ (node.Variable 0) ∷ (node.Number 1) ∷ (node.Context context.NearestDevice) ∷ (node.Number 1) ∷ (node.Variable 1) ∷ (node.Context context.NearestDevice) ∷ (node.Context context.NearestDevice) ∷ (node.Number 0) ∷ (node.Variable 0) ∷ (node.Context context.NearestDevice) ∷ (node.Context context.NearestDevice) ∷ (node.Number 1) ∷ (node.Variable 1) ∷ (node.Variable 2) ∷ (node.Number 1) ∷ (node.Number 2) ∷ (node.Context context.NearestDevice) ∷ (node.Number 1) ∷ (node.Variable 0) ∷ (node.Number 1) ∷ (node.Context context.NearestDevice) ∷ (node.Number 0) ∷ (node.Variable 1) ∷ [];
  scripts = a_script callback.EvtTimerFunc (declared.OfClass 1) 8
      (s 9 1 (act.Call call.GetContext (Some 0) (arg.Expression 0) (arg.Expression 1) arg.NoArgument)
      ∷ s 10 2 (act.Call call.WdfSpinLockAcquire None (arg.Expression 2) arg.NoArgument arg.NoArgument)
      ∷ s 11 3 (act.Spend 3)
      ∷ s 12 4 (act.Call call.GetContext (Some 1) (arg.Expression 4) (arg.Expression 5) arg.NoArgument)
      ∷ s 13 5 (act.Call call.WdfSpinLockAcquire None (arg.Expression 6) arg.NoArgument arg.NoArgument) ∷ [])
      ∷ a_script callback.EvtIoRead (a_queue 5 2 dispatch.Sequential (serves false true false false) true false scope.Unscoped level.Passive) 20
      (s 21 1 (act.Call call.WdfSpinLockCreate (Some 0) (arg.OfClass 0) (arg.Expression 7) arg.NoArgument)
      ∷ s 22 2 (act.Call call.SetContext None (arg.Expression 8) (arg.Expression 9) (arg.Expression 10))
      ∷ s 23 3 (act.Call call.WdfSpinLockCreate (Some 1) (arg.OfClass 0) (arg.Expression 11) arg.NoArgument)
      ∷ s 24 4 (act.Call call.SetContext None (arg.Expression 12) (arg.Expression 13) (arg.Expression 14))
      ∷ s 25 5 (act.Call call.WdfTimerCreate (Some 2) (arg.OfClass 1) arg.NoArgument arg.NoArgument)
      ∷ s 26 6 (act.Call call.WdfTimerStart None (arg.Expression 15) (arg.Expression 16) arg.NoArgument)
      ∷ s 27 7 (act.Spend 17) ∷ [])
      ∷ a_script callback.EvtIoWrite (a_queue 6 2 dispatch.Sequential (serves false false true false) true false scope.Unscoped level.Dispatch) 33
      (s 34 1 (act.Call call.GetContext (Some 0) (arg.Expression 18) (arg.Expression 19) arg.NoArgument)
      ∷ s 35 2 (act.Call call.WdfSpinLockAcquire None (arg.Expression 20) arg.NoArgument arg.NoArgument)
      ∷ s 36 3 (act.Spend 21)
      ∷ s 37 4 (act.Call call.GetContext (Some 1) (arg.Expression 22) (arg.Expression 23) arg.NoArgument)
      ∷ s 38 5 (act.Call call.WdfSpinLockAcquire None (arg.Expression 24) arg.NoArgument arg.NoArgument) ∷ [])
      ∷ [];
}

abbrev pub interrupted_events : List Event
interrupted_events = event.Posted 1 (post.Read (h 2 4) 1) (Some (h 5 1))
    ∷ event.Start (p 0) callback.EvtIoRead (h 3 5) (Some (h 5 1))
    ∷ event.Did (p 0) (c call.WdfSpinLockCreate 2 (Class 0) (Val (Obj (h 2 4))) (Val (Num 0))) (Obj (h 6 2))
    ∷ event.Did (p 0) (c call.SetContext 3 (Val (Obj (h 2 4))) (Val (Num 0)) (Val (Obj (h 6 2)))) (Stat status.Success)
    ∷ event.Did (p 0) (c call.WdfSpinLockCreate 2 (Class 0) (Val (Obj (h 2 4))) (Val (Num 0))) (Obj (h 7 2))
    ∷ event.Did (p 0) (c call.SetContext 3 (Val (Obj (h 2 4))) (Val (Num 1)) (Val (Obj (h 7 2)))) (Stat status.Success)
    ∷ event.Did (p 0) (c call.WdfTimerCreate 1 (Class 1) (Val (Num 0)) (Val (Num 0))) (Obj (h 8 3))
    ∷ event.Did (p 0) (c call.WdfTimerStart 2 (Val (Obj (h 8 3))) (Val (Num 1)) (Val (Num 0))) (Num 0)
    ∷ event.Spend (p 0) 2
    ∷ event.Tick 1
    ∷ event.Start (p 0) callback.EvtTimerFunc (h 8 3) None
    ∷ event.Did (p 0) (c call.GetContext 2 (Val (Obj (h 2 4))) (Val (Num 0)) (Val (Num 0))) (Obj (h 6 2))
    ∷ event.Did (p 0) (c call.WdfSpinLockAcquire 1 (Val (Obj (h 6 2))) (Val (Num 0)) (Val (Num 0))) (Stat status.Success)
    ∷ event.Spend (p 0) 1
    ∷ event.Posted 1 (post.Write (h 2 4) 1) (Some (h 9 1))
    ∷ event.Start (p 1) callback.EvtIoWrite (h 4 6) (Some (h 9 1))
    ∷ event.Did (p 1) (c call.GetContext 2 (Val (Obj (h 2 4))) (Val (Num 1)) (Val (Num 0))) (Obj (h 7 2))
    ∷ event.Did (p 1) (c call.WdfSpinLockAcquire 1 (Val (Obj (h 7 2))) (Val (Num 0)) (Val (Num 0))) (Stat status.Success)
    ∷ event.Spend (p 1) 1
    ∷ event.Tick 2
    ∷ event.Did (p 0) (c call.GetContext 2 (Val (Obj (h 2 4))) (Val (Num 1)) (Val (Num 0))) (Obj (h 7 2))
    ∷ event.Waiting (p 0) (c call.WdfSpinLockAcquire 1 (Val (Obj (h 7 2))) (Val (Num 0)) (Val (Num 0)))
    ∷ event.Did (p 1) (c call.GetContext 2 (Val (Obj (h 2 4))) (Val (Num 0)) (Val (Num 0))) (Obj (h 6 2))
    ∷ event.Waiting (p 1) (c call.WdfSpinLockAcquire 1 (Val (Obj (h 6 2))) (Val (Num 0)) (Val (Num 0)))
    ∷ []

abbrev pub interrupted_waits : List WaitLine
interrupted_waits = (line (thing.Waiting (f 2) callback.EvtIoRead (h 3 5)) (Some (cause.ByFrame (f 11)))) ∷ (line (thing.Waiting (f 11) callback.EvtTimerFunc (h 8 3)) (Some (cause.ByLock (h 7 2) (f 16)))) ∷ (line (thing.Waiting (f 16) callback.EvtIoWrite (h 4 6)) (Some (cause.ByLock (h 6 2) (f 11)))) ∷ (line (thing.Owned (h 5 1)) None) ∷ (line (thing.Owned (h 9 1)) None) ∷ (line (thing.Deferred (h 8 3)) (Some (cause.ByFrame (f 11)))) ∷ []

abbrev pub no_processor_for_a_step_plan : Plan
no_processor_for_a_step_plan = record (a_plan 2 100 32) {
  names = (codes "driver") ∷ (codes "req") ∷ (codes "Guard") ∷ (codes "D") ∷ (codes "P") ∷ (codes "H") ∷ (codes "W") ∷ (codes "A") ∷ [];
  declared = declared.Driver
      ∷ a_device 3 true scope.Unscoped level.Passive
      ∷ a_queue 4 2 dispatch.Sequential (serves false false false true) false false scope.Unscoped level.Passive
      ∷ a_queue 5 2 dispatch.Sequential (serves false true false false) false false scope.Unscoped level.Passive
      ∷ a_queue 6 2 (dispatch.Parallel 2) (serves false false true false) false false scope.Unscoped level.Dispatch
      ∷ [];
  classes = (class.Plain 2 plain.SpinLock) ∷ [];
  pnp = (at 55 1 (post.Ask ask.Sleep (h 2 3))) ∷ [];
  agents = (an_agent 7 ((at 49 0 (post.Read (h 2 3) 1)) ∷ (at 50 0 (post.Control (h 2 3) 1 0)) ∷ (at 51 0 (post.Write (h 2 3) 1)) ∷ (at 52 0 (post.Write (h 2 3) 2)) ∷ [])) ∷ (an_agent 3 []) ∷ [];
  exprs = (node.Object (h 4 5)) ∷ (node.Context context.NearestDevice) ∷ (node.Number 2) ∷ (node.Context context.OwnRequest) ∷ (node.Context context.RequestLength) ∷ (node.Number 1) ∷ (node.Binary operator.Equals 4 5) ∷ (node.Context context.NearestDevice) ∷ (node.Context context.NearestDevice) ∷ (node.Number 0) ∷ (node.Variable 0) ∷ (node.Variable 0) ∷ (node.Number 1) ∷ (node.Context context.NearestDevice) ∷ (node.Number 1) ∷ (node.Variable 1) ∷ (node.Context context.NearestDevice) ∷ (node.Context context.NearestDevice) ∷ (node.Number 1) ∷ (node.Variable 1) ∷ (node.Variable 1) ∷ (node.Context context.NearestDevice) ∷ (node.Number 2) ∷ (node.Variable 2) ∷ (node.Literal status.Success) ∷ (node.Context context.NearestDevice) ∷ (node.Number 0) ∷ (node.Variable 0) ∷ [];
  scripts = a_script callback.EvtIoDeviceControl (a_queue 4 2 dispatch.Sequential (serves false false false true) false false scope.Unscoped level.Passive) 11 (s 12 1 (act.Call call.WdfIoQueueStopSynchronously None (arg.Expression 0) arg.NoArgument arg.NoArgument) ∷ [])
      ∷ a_script callback.EvtIoRead (a_queue 5 2 dispatch.Sequential (serves false true false false) false false scope.Unscoped level.Passive) 18 (s 19 1 (act.Call call.SetContext None (arg.Expression 1) (arg.Expression 2) (arg.Expression 3)) ∷ [])
      ∷ a_script callback.EvtIoWrite (a_queue 6 2 (dispatch.Parallel 2) (serves false false true false) false false scope.Unscoped level.Dispatch) 26
      (s 27 1 (act.If 6 7)
      ∷ s 28 2 (act.Call call.WdfSpinLockCreate (Some 0) (arg.OfClass 0) (arg.Expression 7) arg.NoArgument)
      ∷ s 29 3 (act.Call call.SetContext None (arg.Expression 8) (arg.Expression 9) (arg.Expression 10))
      ∷ s 30 4 (act.Call call.WdfSpinLockAcquire None (arg.Expression 11) arg.NoArgument arg.NoArgument)
      ∷ s 31 5 (act.Spend 12)
      ∷ s 32 6 (act.Call call.GetContext (Some 1) (arg.Expression 13) (arg.Expression 14) arg.NoArgument)
      ∷ s 33 14 (act.Call call.WdfSpinLockAcquire None (arg.Expression 15) arg.NoArgument arg.NoArgument)
      ∷ s 35 8 (act.Call call.WdfSpinLockCreate (Some 1) (arg.OfClass 0) (arg.Expression 16) arg.NoArgument)
      ∷ s 36 9 (act.Call call.SetContext None (arg.Expression 17) (arg.Expression 18) (arg.Expression 19))
      ∷ s 37 10 (act.Call call.WdfSpinLockAcquire None (arg.Expression 20) arg.NoArgument arg.NoArgument)
      ∷ s 38 11 (act.Call call.GetContext (Some 2) (arg.Expression 21) (arg.Expression 22) arg.NoArgument)
      ∷ s 39 12 (act.Call call.WdfRequestComplete None (arg.Expression 23) (arg.Expression 24) arg.NoArgument)
      ∷ s 40 13 (act.Call call.GetContext (Some 0) (arg.Expression 25) (arg.Expression 26) arg.NoArgument)
      ∷ s 41 14 (act.Call call.WdfSpinLockAcquire None (arg.Expression 27) arg.NoArgument arg.NoArgument) ∷ [])
      ∷ a_script callback.EvtDeviceSelfManagedIoSuspend (a_device 3 true scope.Unscoped level.Passive) 45 []
      ∷ [];
}

abbrev pub no_processor_for_a_step_events : List Event
no_processor_for_a_step_events = event.Posted 1 (post.Read (h 2 3) 1) (Some (h 6 1))
    ∷ event.Start (p 0) callback.EvtIoRead (h 4 5) (Some (h 6 1))
    ∷ event.Did (p 0) (c call.SetContext 3 (Val (Obj (h 2 3))) (Val (Num 2)) (Val (Obj (h 6 1)))) (Stat status.Success)
    ∷ event.End (p 0) callback.EvtIoRead (h 4 5) (Stat status.Success)
    ∷ event.Posted 1 (post.Control (h 2 3) 1 0) (Some (h 7 1))
    ∷ event.Start (p 0) callback.EvtIoDeviceControl (h 3 4) (Some (h 7 1))
    ∷ event.Waiting (p 0) (c call.WdfIoQueueStopSynchronously 1 (Val (Obj (h 4 5))) (Val (Num 0)) (Val (Num 0)))
    ∷ event.Park (p 0) (f 6)
    ∷ event.Posted 1 (post.Write (h 2 3) 1) (Some (h 8 1))
    ∷ event.Start (p 0) callback.EvtIoWrite (h 5 6) (Some (h 8 1))
    ∷ event.Local (p 0) 27
    ∷ event.Did (p 0) (c call.WdfSpinLockCreate 2 (Class 0) (Val (Obj (h 2 3))) (Val (Num 0))) (Obj (h 9 2))
    ∷ event.Did (p 0) (c call.SetContext 3 (Val (Obj (h 2 3))) (Val (Num 0)) (Val (Obj (h 9 2)))) (Stat status.Success)
    ∷ event.Did (p 0) (c call.WdfSpinLockAcquire 1 (Val (Obj (h 9 2))) (Val (Num 0)) (Val (Num 0))) (Stat status.Success)
    ∷ event.Spend (p 0) 1
    ∷ event.Posted 1 (post.Write (h 2 3) 2) (Some (h 10 1))
    ∷ event.Start (p 1) callback.EvtIoWrite (h 5 6) (Some (h 10 1))
    ∷ event.Local (p 1) 27
    ∷ event.Did (p 1) (c call.WdfSpinLockCreate 2 (Class 0) (Val (Obj (h 2 3))) (Val (Num 0))) (Obj (h 11 2))
    ∷ event.Did (p 1) (c call.SetContext 3 (Val (Obj (h 2 3))) (Val (Num 1)) (Val (Obj (h 11 2)))) (Stat status.Success)
    ∷ event.Did (p 1) (c call.WdfSpinLockAcquire 1 (Val (Obj (h 11 2))) (Val (Num 0)) (Val (Num 0))) (Stat status.Success)
    ∷ event.Did (p 1) (c call.GetContext 2 (Val (Obj (h 2 3))) (Val (Num 2)) (Val (Num 0))) (Obj (h 6 1))
    ∷ event.Did (p 1) (c call.WdfRequestComplete 2 (Val (Obj (h 6 1))) (Val (Stat status.Success)) (Val (Num 0))) (Stat status.Success)
    ∷ event.Did (p 1) (c call.GetContext 2 (Val (Obj (h 2 3))) (Val (Num 0)) (Val (Num 0))) (Obj (h 9 2))
    ∷ event.Waiting (p 1) (c call.WdfSpinLockAcquire 1 (Val (Obj (h 9 2))) (Val (Num 0)) (Val (Num 0)))
    ∷ event.Cleanup (h 6 1)
    ∷ event.Destroy (h 6 1)
    ∷ event.Tick 1
    ∷ event.Did (p 0) (c call.GetContext 2 (Val (Obj (h 2 3))) (Val (Num 1)) (Val (Num 0))) (Obj (h 11 2))
    ∷ event.Waiting (p 0) (c call.WdfSpinLockAcquire 1 (Val (Obj (h 11 2))) (Val (Num 0)) (Val (Num 0)))
    ∷ event.Posted 0 (post.Ask ask.Sleep (h 2 3)) None
    ∷ []

abbrev pub no_processor_for_a_step_waits : List WaitLine
no_processor_for_a_step_waits = (line (thing.Waiting (f 6) callback.EvtIoDeviceControl (h 3 4)) (Some (cause.NoCpu))) ∷ (line (thing.Waiting (f 10) callback.EvtIoWrite (h 5 6)) (Some (cause.ByLock (h 11 2) (f 17)))) ∷ (line (thing.Waiting (f 17) callback.EvtIoWrite (h 5 6)) (Some (cause.ByLock (h 9 2) (f 10)))) ∷ (line (thing.Owned (h 7 1)) None) ∷ (line (thing.Owned (h 8 1)) None) ∷ (line (thing.Owned (h 10 1)) None) ∷ (line (thing.Sequence (h 2 3) (step.Run callback.EvtDeviceSelfManagedIoSuspend None)) (Some (cause.NoCpu))) ∷ []

abbrev pub no_processor_for_cleanup_plan : Plan
no_processor_for_cleanup_plan = record (a_plan 2 100 32) {
  names = (codes "driver") ∷ (codes "req") ∷ (codes "Guard") ∷ (codes "Note") ∷ (codes "Page") ∷ (codes "D") ∷ (codes "R") ∷ (codes "M") ∷ (codes "A") ∷ [];
  declared = declared.Driver
      ∷ a_device 5 true scope.Unscoped level.Dispatch
      ∷ a_queue 6 2 (dispatch.Parallel 2) (serves false true false false) true false scope.Unscoped level.Dispatch
      ∷ a_queue 7 2 dispatch.Manual (serves false false true false) true false scope.Unscoped level.Dispatch
      ∷ [];
  classes = (class.Plain 2 plain.SpinLock) ∷ (class.Plain 3 plain.Object) ∷ (class.Plain 4 plain.Object) ∷ [];
  agents = (an_agent 8 ((at 48 0 (post.Write (h 2 5) 1)) ∷ (at 49 0 (post.Read (h 2 5) 1)) ∷ (at 50 0 (post.Read (h 2 5) 2)) ∷ (at 51 1 (post.Cancel 1)) ∷ [])) ∷ (an_agent 5 []) ∷ [];
  exprs = (node.Context context.RequestLength) ∷ (node.Number 1) ∷ (node.Binary operator.Equals 0 1) ∷ (node.Context context.NearestDevice) ∷ (node.Context context.NearestDevice) ∷ (node.Number 0) ∷ (node.Variable 0) ∷ (node.Variable 0) ∷ (node.Number 1) ∷ (node.Context context.NearestDevice) ∷ (node.Number 1) ∷ (node.Variable 1) ∷ (node.Context context.NearestDevice) ∷ (node.Context context.NearestDevice) ∷ (node.Number 1) ∷ (node.Variable 1) ∷ (node.Variable 1) ∷ (node.Context context.NearestDevice) ∷ (node.Variable 2) ∷ (node.Context context.NearestDevice) ∷ (node.Variable 3) ∷ (node.Object (h 4 7)) ∷ (node.Variable 4) ∷ (node.Context context.NearestDevice) ∷ (node.Number 0) ∷ (node.Variable 0) ∷ (node.Context context.OwnRequest) ∷ (node.Literal status.Cancelled) ∷ [];
  scripts = a_script callback.EvtCleanupCallback (declared.OfClass 1) 7 []
      ∷ a_script callback.EvtDestroyCallback (declared.OfClass 2) 11 []
      ∷ a_script callback.EvtIoRead (a_queue 6 2 (dispatch.Parallel 2) (serves false true false false) true false scope.Unscoped level.Dispatch) 17
      (s 18 1 (act.If 2 7)
      ∷ s 19 2 (act.Call call.WdfSpinLockCreate (Some 0) (arg.OfClass 0) (arg.Expression 3) arg.NoArgument)
      ∷ s 20 3 (act.Call call.SetContext None (arg.Expression 4) (arg.Expression 5) (arg.Expression 6))
      ∷ s 21 4 (act.Call call.WdfSpinLockAcquire None (arg.Expression 7) arg.NoArgument arg.NoArgument)
      ∷ s 22 5 (act.Spend 8)
      ∷ s 23 6 (act.Call call.GetContext (Some 1) (arg.Expression 9) (arg.Expression 10) arg.NoArgument)
      ∷ s 24 18 (act.Call call.WdfSpinLockAcquire None (arg.Expression 11) arg.NoArgument arg.NoArgument)
      ∷ s 26 8 (act.Call call.WdfSpinLockCreate (Some 1) (arg.OfClass 0) (arg.Expression 12) arg.NoArgument)
      ∷ s 27 9 (act.Call call.SetContext None (arg.Expression 13) (arg.Expression 14) (arg.Expression 15))
      ∷ s 28 10 (act.Call call.WdfSpinLockAcquire None (arg.Expression 16) arg.NoArgument arg.NoArgument)
      ∷ s 29 11 (act.Call call.WdfObjectCreate (Some 2) (arg.OfClass 1) (arg.Expression 17) arg.NoArgument)
      ∷ s 30 12 (act.Call call.WdfObjectDelete None (arg.Expression 18) arg.NoArgument arg.NoArgument)
      ∷ s 31 13 (act.Call call.WdfObjectCreate (Some 3) (arg.OfClass 2) (arg.Expression 19) arg.NoArgument)
      ∷ s 32 14 (act.Call call.WdfObjectDelete None (arg.Expression 20) arg.NoArgument arg.NoArgument)
      ∷ s 33 15 (act.Call call.WdfIoQueueRetrieveNextRequest (Some 4) (arg.Expression 21) arg.NoArgument arg.NoArgument)
      ∷ s 34 16 (act.Call call.WdfRequestRequeue None (arg.Expression 22) arg.NoArgument arg.NoArgument)
      ∷ s 35 17 (act.Call call.GetContext (Some 0) (arg.Expression 23) (arg.Expression 24) arg.NoArgument)
      ∷ s 36 18 (act.Call call.WdfSpinLockAcquire None (arg.Expression 25) arg.NoArgument arg.NoArgument) ∷ [])
      ∷ a_script callback.EvtIoCanceledOnQueue (a_queue 7 2 dispatch.Manual (serves false false true false) true false scope.Unscoped level.Dispatch) 42 (s 43 1 (act.Call call.WdfRequestComplete None (arg.Expression 26) (arg.Expression 27) arg.NoArgument) ∷ [])
      ∷ [];
}

abbrev pub no_processor_for_cleanup_events : List Event
no_processor_for_cleanup_events = event.Posted 1 (post.Write (h 2 5) 1) (Some (h 5 1))
    ∷ event.Posted 1 (post.Read (h 2 5) 1) (Some (h 6 1))
    ∷ event.Start (p 0) callback.EvtIoRead (h 3 6) (Some (h 6 1))
    ∷ event.Local (p 0) 18
    ∷ event.Did (p 0) (c call.WdfSpinLockCreate 2 (Class 0) (Val (Obj (h 2 5))) (Val (Num 0))) (Obj (h 7 2))
    ∷ event.Did (p 0) (c call.SetContext 3 (Val (Obj (h 2 5))) (Val (Num 0)) (Val (Obj (h 7 2)))) (Stat status.Success)
    ∷ event.Did (p 0) (c call.WdfSpinLockAcquire 1 (Val (Obj (h 7 2))) (Val (Num 0)) (Val (Num 0))) (Stat status.Success)
    ∷ event.Spend (p 0) 1
    ∷ event.Posted 1 (post.Read (h 2 5) 2) (Some (h 8 1))
    ∷ event.Start (p 1) callback.EvtIoRead (h 3 6) (Some (h 8 1))
    ∷ event.Local (p 1) 18
    ∷ event.Did (p 1) (c call.WdfSpinLockCreate 2 (Class 0) (Val (Obj (h 2 5))) (Val (Num 0))) (Obj (h 9 2))
    ∷ event.Did (p 1) (c call.SetContext 3 (Val (Obj (h 2 5))) (Val (Num 1)) (Val (Obj (h 9 2)))) (Stat status.Success)
    ∷ event.Did (p 1) (c call.WdfSpinLockAcquire 1 (Val (Obj (h 9 2))) (Val (Num 0)) (Val (Num 0))) (Stat status.Success)
    ∷ event.Did (p 1) (c call.WdfObjectCreate 2 (Class 1) (Val (Obj (h 2 5))) (Val (Num 0))) (Obj (h 10 3))
    ∷ event.Did (p 1) (c call.WdfObjectDelete 1 (Val (Obj (h 10 3))) (Val (Num 0)) (Val (Num 0))) (Stat status.Success)
    ∷ event.Did (p 1) (c call.WdfObjectCreate 2 (Class 2) (Val (Obj (h 2 5))) (Val (Num 0))) (Obj (h 11 4))
    ∷ event.Did (p 1) (c call.WdfObjectDelete 1 (Val (Obj (h 11 4))) (Val (Num 0)) (Val (Num 0))) (Stat status.Success)
    ∷ event.Did (p 1) (c call.WdfIoQueueRetrieveNextRequest 1 (Val (Obj (h 4 7))) (Val (Num 0)) (Val (Num 0))) (Obj (h 5 1))
    ∷ event.Did (p 1) (c call.WdfRequestRequeue 1 (Val (Obj (h 5 1))) (Val (Num 0)) (Val (Num 0))) (Stat status.Success)
    ∷ event.Did (p 1) (c call.GetContext 2 (Val (Obj (h 2 5))) (Val (Num 0)) (Val (Num 0))) (Obj (h 7 2))
    ∷ event.Waiting (p 1) (c call.WdfSpinLockAcquire 1 (Val (Obj (h 7 2))) (Val (Num 0)) (Val (Num 0)))
    ∷ event.Cleanup (h 11 4)
    ∷ event.Tick 1
    ∷ event.Did (p 0) (c call.GetContext 2 (Val (Obj (h 2 5))) (Val (Num 1)) (Val (Num 0))) (Obj (h 9 2))
    ∷ event.Waiting (p 0) (c call.WdfSpinLockAcquire 1 (Val (Obj (h 9 2))) (Val (Num 0)) (Val (Num 0)))
    ∷ event.Posted 1 (post.Cancel 1) (Some (h 5 1))
    ∷ []

abbrev pub no_processor_for_cleanup_waits : List WaitLine
no_processor_for_cleanup_waits = (line (thing.Waiting (f 3) callback.EvtIoRead (h 3 6)) (Some (cause.ByLock (h 9 2) (f 10)))) ∷ (line (thing.Waiting (f 10) callback.EvtIoRead (h 3 6)) (Some (cause.ByLock (h 7 2) (f 3)))) ∷ (line (thing.Returning (h 5 1) (h 4 7)) (Some (cause.NoCpu))) ∷ (line (thing.Owned (h 6 1)) None) ∷ (line (thing.Owned (h 8 1)) None) ∷ (line (thing.Leaving (h 10 3)) (Some (cause.NoCpu))) ∷ (line (thing.Leaving (h 11 4)) (Some (cause.NoCpu))) ∷ []

abbrev pub no_processor_for_quiet_plan : Plan
no_processor_for_quiet_plan = record (a_plan 2 100 16) {
  names = (codes "driver") ∷ (codes "req") ∷ (codes "Guard") ∷ (codes "D") ∷ (codes "W") ∷ (codes "I") ∷ (codes "A") ∷ [];
  declared = declared.Driver
      ∷ a_device 3 false scope.Unscoped level.Dispatch
      ∷ a_queue 4 2 (dispatch.Parallel 2) (serves false false true false) false false scope.Unscoped level.Dispatch
      ∷ an_interrupt 5 2 5
      ∷ [];
  classes = (class.Plain 2 plain.SpinLock) ∷ [];
  pnp = (at 40 0 (post.Ask ask.Start (h 2 3))) ∷ (at 41 1 (post.Ask ask.Sleep (h 2 3))) ∷ [];
  agents = (an_agent 6 ((at 36 0 (post.Write (h 2 3) 1)) ∷ (at 37 0 (post.Write (h 2 3) 2)) ∷ [])) ∷ (an_agent 3 []) ∷ [];
  exprs = (node.Context context.RequestLength) ∷ (node.Number 1) ∷ (node.Binary operator.Equals 0 1) ∷ (node.Context context.NearestDevice) ∷ (node.Context context.NearestDevice) ∷ (node.Number 0) ∷ (node.Variable 0) ∷ (node.Variable 0) ∷ (node.Number 1) ∷ (node.Context context.NearestDevice) ∷ (node.Number 1) ∷ (node.Variable 1) ∷ (node.Context context.NearestDevice) ∷ (node.Context context.NearestDevice) ∷ (node.Number 1) ∷ (node.Variable 1) ∷ (node.Variable 1) ∷ (node.Object (h 4 5)) ∷ (node.Context context.NearestDevice) ∷ (node.Number 0) ∷ (node.Variable 0) ∷ [];
  scripts = a_script callback.EvtIoWrite (a_queue 4 2 (dispatch.Parallel 2) (serves false false true false) false false scope.Unscoped level.Dispatch) 10
      (s 11 1 (act.If 2 7)
      ∷ s 12 2 (act.Call call.WdfSpinLockCreate (Some 0) (arg.OfClass 0) (arg.Expression 3) arg.NoArgument)
      ∷ s 13 3 (act.Call call.SetContext None (arg.Expression 4) (arg.Expression 5) (arg.Expression 6))
      ∷ s 14 4 (act.Call call.WdfSpinLockAcquire None (arg.Expression 7) arg.NoArgument arg.NoArgument)
      ∷ s 15 5 (act.Spend 8)
      ∷ s 16 6 (act.Call call.GetContext (Some 1) (arg.Expression 9) (arg.Expression 10) arg.NoArgument)
      ∷ s 17 13 (act.Call call.WdfSpinLockAcquire None (arg.Expression 11) arg.NoArgument arg.NoArgument)
      ∷ s 19 8 (act.Call call.WdfSpinLockCreate (Some 1) (arg.OfClass 0) (arg.Expression 12) arg.NoArgument)
      ∷ s 20 9 (act.Call call.SetContext None (arg.Expression 13) (arg.Expression 14) (arg.Expression 15))
      ∷ s 21 10 (act.Call call.WdfSpinLockAcquire None (arg.Expression 16) arg.NoArgument arg.NoArgument)
      ∷ s 22 11 (act.Call call.WdfInterruptQueueDpcForIsr None (arg.Expression 17) arg.NoArgument arg.NoArgument)
      ∷ s 23 12 (act.Call call.GetContext (Some 0) (arg.Expression 18) (arg.Expression 19) arg.NoArgument)
      ∷ s 24 13 (act.Call call.WdfSpinLockAcquire None (arg.Expression 20) arg.NoArgument arg.NoArgument) ∷ [])
      ∷ a_script callback.EvtInterruptIsr (an_interrupt 5 2 5) 29 []
      ∷ a_script callback.EvtInterruptDpc (an_interrupt 5 2 5) 31 []
      ∷ [];
}

abbrev pub no_processor_for_quiet_events : List Event
no_processor_for_quiet_events = event.Posted 0 (post.Ask ask.Start (h 2 3)) None
    ∷ event.Stage (h 2 3) stage.Hardware None
    ∷ event.Stage (h 2 3) stage.Enabled (Some (h 4 5))
    ∷ event.Stage (h 2 3) stage.QueuesUp None
    ∷ event.Stage (h 2 3) stage.Working None
    ∷ event.Posted 1 (post.Write (h 2 3) 1) (Some (h 5 1))
    ∷ event.Start (p 0) callback.EvtIoWrite (h 3 4) (Some (h 5 1))
    ∷ event.Local (p 0) 11
    ∷ event.Did (p 0) (c call.WdfSpinLockCreate 2 (Class 0) (Val (Obj (h 2 3))) (Val (Num 0))) (Obj (h 6 2))
    ∷ event.Did (p 0) (c call.SetContext 3 (Val (Obj (h 2 3))) (Val (Num 0)) (Val (Obj (h 6 2)))) (Stat status.Success)
    ∷ event.Did (p 0) (c call.WdfSpinLockAcquire 1 (Val (Obj (h 6 2))) (Val (Num 0)) (Val (Num 0))) (Stat status.Success)
    ∷ event.Spend (p 0) 1
    ∷ event.Posted 1 (post.Write (h 2 3) 2) (Some (h 7 1))
    ∷ event.Start (p 1) callback.EvtIoWrite (h 3 4) (Some (h 7 1))
    ∷ event.Local (p 1) 11
    ∷ event.Did (p 1) (c call.WdfSpinLockCreate 2 (Class 0) (Val (Obj (h 2 3))) (Val (Num 0))) (Obj (h 8 2))
    ∷ event.Did (p 1) (c call.SetContext 3 (Val (Obj (h 2 3))) (Val (Num 1)) (Val (Obj (h 8 2)))) (Stat status.Success)
    ∷ event.Did (p 1) (c call.WdfSpinLockAcquire 1 (Val (Obj (h 8 2))) (Val (Num 0)) (Val (Num 0))) (Stat status.Success)
    ∷ event.Did (p 1) (c call.WdfInterruptQueueDpcForIsr 1 (Val (Obj (h 4 5))) (Val (Num 0)) (Val (Num 0))) (Num 1)
    ∷ event.Did (p 1) (c call.GetContext 2 (Val (Obj (h 2 3))) (Val (Num 0)) (Val (Num 0))) (Obj (h 6 2))
    ∷ event.Waiting (p 1) (c call.WdfSpinLockAcquire 1 (Val (Obj (h 6 2))) (Val (Num 0)) (Val (Num 0)))
    ∷ event.Tick 1
    ∷ event.Did (p 0) (c call.GetContext 2 (Val (Obj (h 2 3))) (Val (Num 1)) (Val (Num 0))) (Obj (h 8 2))
    ∷ event.Waiting (p 0) (c call.WdfSpinLockAcquire 1 (Val (Obj (h 8 2))) (Val (Num 0)) (Val (Num 0)))
    ∷ event.Posted 0 (post.Ask ask.Sleep (h 2 3)) None
    ∷ event.Stage (h 2 3) stage.QueuesDown None
    ∷ event.Stage (h 2 3) stage.Settled None
    ∷ event.Stage (h 2 3) stage.Disabled (Some (h 4 5))
    ∷ []

abbrev pub no_processor_for_quiet_waits : List WaitLine
no_processor_for_quiet_waits = (line (thing.Waiting (f 7) callback.EvtIoWrite (h 3 4)) (Some (cause.ByLock (h 8 2) (f 14)))) ∷ (line (thing.Waiting (f 14) callback.EvtIoWrite (h 3 4)) (Some (cause.ByLock (h 6 2) (f 7)))) ∷ (line (thing.Owned (h 5 1)) None) ∷ (line (thing.Owned (h 7 1)) None) ∷ (line (thing.Sequence (h 2 3) (step.Pass stage.Quiet None)) (Some (cause.NoCpu))) ∷ (line (thing.Deferred (h 4 5)) (Some (cause.NoCpu))) ∷ []

abbrev pub no_processor_for_resume_plan : Plan
no_processor_for_resume_plan = record (a_plan 2 100 16) {
  names = (codes "driver") ∷ (codes "req") ∷ (codes "Guard") ∷ (codes "D") ∷ (codes "Q") ∷ (codes "W") ∷ (codes "A") ∷ [];
  declared = declared.Driver
      ∷ a_device 3 true scope.Unscoped level.Dispatch
      ∷ a_queue 4 2 dispatch.Sequential (serves false true false false) true false scope.Unscoped level.Dispatch
      ∷ a_queue 5 2 (dispatch.Parallel 2) (serves false false true false) false false scope.Unscoped level.Dispatch
      ∷ [];
  classes = (class.Plain 2 plain.SpinLock) ∷ [];
  pnp = (at 44 1 (post.Ask ask.Sleep (h 2 3))) ∷ (at 45 2 (post.Ask ask.Wake (h 2 3))) ∷ [];
  agents = (an_agent 6 ((at 39 0 (post.Read (h 2 3) 1)) ∷ (at 40 1 (post.Write (h 2 3) 1)) ∷ (at 41 1 (post.Write (h 2 3) 2)) ∷ [])) ∷ (an_agent 3 []) ∷ [];
  exprs = (node.Context context.OwnRequest) ∷ (node.Number 0) ∷ (node.Context context.RequestLength) ∷ (node.Number 1) ∷ (node.Binary operator.Equals 2 3) ∷ (node.Context context.NearestDevice) ∷ (node.Context context.NearestDevice) ∷ (node.Number 0) ∷ (node.Variable 0) ∷ (node.Variable 0) ∷ (node.Number 1) ∷ (node.Context context.NearestDevice) ∷ (node.Number 1) ∷ (node.Variable 1) ∷ (node.Context context.NearestDevice) ∷ (node.Context context.NearestDevice) ∷ (node.Number 1) ∷ (node.Variable 1) ∷ (node.Variable 1) ∷ (node.Context context.NearestDevice) ∷ (node.Number 0) ∷ (node.Variable 0) ∷ [];
  scripts = a_script callback.EvtIoRead (a_queue 4 2 dispatch.Sequential (serves false true false false) true false scope.Unscoped level.Dispatch) 9 []
      ∷ a_script callback.EvtIoStop (a_queue 4 2 dispatch.Sequential (serves false true false false) true false scope.Unscoped level.Dispatch) 11 (s 12 1 (act.Call call.WdfRequestStopAcknowledge None (arg.Expression 0) (arg.Expression 1) arg.NoArgument) ∷ [])
      ∷ a_script callback.EvtIoResume (a_queue 4 2 dispatch.Sequential (serves false true false false) true false scope.Unscoped level.Dispatch) 14 []
      ∷ a_script callback.EvtIoWrite (a_queue 5 2 (dispatch.Parallel 2) (serves false false true false) false false scope.Unscoped level.Dispatch) 20
      (s 21 1 (act.If 4 7)
      ∷ s 22 2 (act.Call call.WdfSpinLockCreate (Some 0) (arg.OfClass 0) (arg.Expression 5) arg.NoArgument)
      ∷ s 23 3 (act.Call call.SetContext None (arg.Expression 6) (arg.Expression 7) (arg.Expression 8))
      ∷ s 24 4 (act.Call call.WdfSpinLockAcquire None (arg.Expression 9) arg.NoArgument arg.NoArgument)
      ∷ s 25 5 (act.Spend 10)
      ∷ s 26 6 (act.Call call.GetContext (Some 1) (arg.Expression 11) (arg.Expression 12) arg.NoArgument)
      ∷ s 27 12 (act.Call call.WdfSpinLockAcquire None (arg.Expression 13) arg.NoArgument arg.NoArgument)
      ∷ s 29 8 (act.Call call.WdfSpinLockCreate (Some 1) (arg.OfClass 0) (arg.Expression 14) arg.NoArgument)
      ∷ s 30 9 (act.Call call.SetContext None (arg.Expression 15) (arg.Expression 16) (arg.Expression 17))
      ∷ s 31 10 (act.Call call.WdfSpinLockAcquire None (arg.Expression 18) arg.NoArgument arg.NoArgument)
      ∷ s 32 11 (act.Call call.GetContext (Some 0) (arg.Expression 19) (arg.Expression 20) arg.NoArgument)
      ∷ s 33 12 (act.Call call.WdfSpinLockAcquire None (arg.Expression 21) arg.NoArgument arg.NoArgument) ∷ [])
      ∷ [];
}

abbrev pub no_processor_for_resume_events : List Event
no_processor_for_resume_events = event.Posted 1 (post.Read (h 2 3) 1) (Some (h 5 1))
    ∷ event.Start (p 0) callback.EvtIoRead (h 3 4) (Some (h 5 1))
    ∷ event.End (p 0) callback.EvtIoRead (h 3 4) (Stat status.Success)
    ∷ event.Tick 1
    ∷ event.Posted 0 (post.Ask ask.Sleep (h 2 3)) None
    ∷ event.Stage (h 2 3) stage.QueuesDown None
    ∷ event.Start (p 0) callback.EvtIoStop (h 3 4) (Some (h 5 1))
    ∷ event.Did (p 0) (c call.WdfRequestStopAcknowledge 2 (Val (Obj (h 5 1))) (Val (Num 0)) (Val (Num 0))) (Stat status.Success)
    ∷ event.End (p 0) callback.EvtIoStop (h 3 4) (Stat status.Success)
    ∷ event.Stage (h 2 3) stage.Settled None
    ∷ event.Stage (h 2 3) stage.Sleeping None
    ∷ event.Posted 1 (post.Write (h 2 3) 1) (Some (h 6 1))
    ∷ event.Start (p 0) callback.EvtIoWrite (h 4 5) (Some (h 6 1))
    ∷ event.Local (p 0) 21
    ∷ event.Did (p 0) (c call.WdfSpinLockCreate 2 (Class 0) (Val (Obj (h 2 3))) (Val (Num 0))) (Obj (h 7 2))
    ∷ event.Did (p 0) (c call.SetContext 3 (Val (Obj (h 2 3))) (Val (Num 0)) (Val (Obj (h 7 2)))) (Stat status.Success)
    ∷ event.Did (p 0) (c call.WdfSpinLockAcquire 1 (Val (Obj (h 7 2))) (Val (Num 0)) (Val (Num 0))) (Stat status.Success)
    ∷ event.Spend (p 0) 1
    ∷ event.Posted 1 (post.Write (h 2 3) 2) (Some (h 8 1))
    ∷ event.Start (p 1) callback.EvtIoWrite (h 4 5) (Some (h 8 1))
    ∷ event.Local (p 1) 21
    ∷ event.Did (p 1) (c call.WdfSpinLockCreate 2 (Class 0) (Val (Obj (h 2 3))) (Val (Num 0))) (Obj (h 9 2))
    ∷ event.Did (p 1) (c call.SetContext 3 (Val (Obj (h 2 3))) (Val (Num 1)) (Val (Obj (h 9 2)))) (Stat status.Success)
    ∷ event.Did (p 1) (c call.WdfSpinLockAcquire 1 (Val (Obj (h 9 2))) (Val (Num 0)) (Val (Num 0))) (Stat status.Success)
    ∷ event.Did (p 1) (c call.GetContext 2 (Val (Obj (h 2 3))) (Val (Num 0)) (Val (Num 0))) (Obj (h 7 2))
    ∷ event.Waiting (p 1) (c call.WdfSpinLockAcquire 1 (Val (Obj (h 7 2))) (Val (Num 0)) (Val (Num 0)))
    ∷ event.Tick 2
    ∷ event.Did (p 0) (c call.GetContext 2 (Val (Obj (h 2 3))) (Val (Num 1)) (Val (Num 0))) (Obj (h 9 2))
    ∷ event.Waiting (p 0) (c call.WdfSpinLockAcquire 1 (Val (Obj (h 9 2))) (Val (Num 0)) (Val (Num 0)))
    ∷ event.Posted 0 (post.Ask ask.Wake (h 2 3)) None
    ∷ event.Stage (h 2 3) stage.QueuesUp None
    ∷ []

abbrev pub no_processor_for_resume_waits : List WaitLine
no_processor_for_resume_waits = (line (thing.Waiting (f 13) callback.EvtIoWrite (h 4 5)) (Some (cause.ByLock (h 9 2) (f 20)))) ∷ (line (thing.Waiting (f 20) callback.EvtIoWrite (h 4 5)) (Some (cause.ByLock (h 7 2) (f 13)))) ∷ (line (thing.Owned (h 5 1)) None) ∷ (line (thing.Owned (h 6 1)) None) ∷ (line (thing.Owned (h 8 1)) None) ∷ (line (thing.Sequence (h 2 3) (step.Pass stage.Working None)) (Some (cause.NoCpu))) ∷ []

abbrev pub no_processor_for_work_plan : Plan
no_processor_for_work_plan = record (a_plan 2 100 32) {
  names = (codes "driver") ∷ (codes "req") ∷ (codes "Guard") ∷ (codes "Own") ∷ (codes "Work") ∷ (codes "Clock") ∷ (codes "Call") ∷ (codes "D") ∷ (codes "R") ∷ (codes "W") ∷ (codes "C") ∷ (codes "T") ∷ (codes "A") ∷ [];
  declared = declared.Driver
      ∷ a_device 7 true scope.Unscoped level.Dispatch
      ∷ a_queue 8 2 dispatch.Sequential (serves false true false false) true false scope.Unscoped level.Dispatch
      ∷ a_queue 9 2 dispatch.Sequential (serves false false true false) true false scope.Unscoped level.Dispatch
      ∷ a_queue 10 2 dispatch.Sequential (serves false false false true) true false scope.Unscoped level.Dispatch
      ∷ a_target 11 2 1 status.Success 4
      ∷ [];
  classes = (class.Plain 2 plain.SpinLock) ∷ (class.Plain 3 plain.Request) ∷ (class.Deferred 4 deferred.WorkItem (record { 0 = 2 }) false 0) ∷ (class.Deferred 5 deferred.Timer (record { 0 = 2 }) false 0) ∷ (class.Deferred 6 deferred.Dpc (record { 0 = 2 }) false 0) ∷ [];
  agents = (an_agent 12 ((at 62 0 (post.Read (h 2 7) 1)) ∷ (at 63 0 (post.Write (h 2 7) 1)) ∷ (at 64 1 (post.Control (h 2 7) 1 0)) ∷ [])) ∷ (an_agent 7 []) ∷ (an_agent 11 []) ∷ [];
  exprs = (node.Context context.NearestDevice) ∷ (node.Context context.NearestDevice) ∷ (node.Number 0) ∷ (node.Variable 0) ∷ (node.Variable 0) ∷ (node.Number 1) ∷ (node.Context context.NearestDevice) ∷ (node.Number 1) ∷ (node.Variable 1) ∷ (node.Context context.NearestDevice) ∷ (node.Context context.NearestDevice) ∷ (node.Number 1) ∷ (node.Variable 0) ∷ (node.Context context.NearestDevice) ∷ (node.Variable 1) ∷ (node.Object (h 6 11)) ∷ (node.Number 0) ∷ (node.Variable 1) ∷ (node.Variable 2) ∷ (node.Number 1) ∷ (node.Variable 0) ∷ (node.Variable 3) ∷ (node.Variable 4) ∷ (node.Context context.NearestDevice) ∷ (node.Number 0) ∷ (node.Variable 5) ∷ [];
  scripts = a_script callback.EvtWorkItem (declared.OfClass 2) 9 []
      ∷ a_script callback.EvtTimerFunc (declared.OfClass 3) 13 []
      ∷ a_script callback.EvtDpcFunc (declared.OfClass 4) 17 []
      ∷ a_script callback.EvtIoRead (a_queue 8 2 dispatch.Sequential (serves false true false false) true false scope.Unscoped level.Dispatch) 23
      (s 24 1 (act.Call call.WdfSpinLockCreate (Some 0) (arg.OfClass 0) (arg.Expression 0) arg.NoArgument)
      ∷ s 25 2 (act.Call call.SetContext None (arg.Expression 1) (arg.Expression 2) (arg.Expression 3))
      ∷ s 26 3 (act.Call call.WdfSpinLockAcquire None (arg.Expression 4) arg.NoArgument arg.NoArgument)
      ∷ s 27 4 (act.Spend 5)
      ∷ s 28 5 (act.Call call.GetContext (Some 1) (arg.Expression 6) (arg.Expression 7) arg.NoArgument)
      ∷ s 29 6 (act.Call call.WdfSpinLockAcquire None (arg.Expression 8) arg.NoArgument arg.NoArgument) ∷ [])
      ∷ a_script callback.EvtIoWrite (a_queue 9 2 dispatch.Sequential (serves false false true false) true false scope.Unscoped level.Dispatch) 34
      (s 35 1 (act.Call call.WdfSpinLockCreate (Some 0) (arg.OfClass 0) (arg.Expression 9) arg.NoArgument)
      ∷ s 36 2 (act.Call call.SetContext None (arg.Expression 10) (arg.Expression 11) (arg.Expression 12))
      ∷ s 37 3 (act.Call call.WdfRequestCreate (Some 1) (arg.OfClass 1) (arg.Expression 13) arg.NoArgument)
      ∷ s 38 4 (act.Call call.WdfRequestSend None (arg.Expression 14) (arg.Expression 15) (arg.Expression 16))
      ∷ s 39 5 (act.Call call.WdfObjectDelete None (arg.Expression 17) arg.NoArgument arg.NoArgument)
      ∷ s 40 6 (act.Call call.WdfTimerCreate (Some 2) (arg.OfClass 3) arg.NoArgument arg.NoArgument)
      ∷ s 41 7 (act.Call call.WdfTimerStart None (arg.Expression 18) (arg.Expression 19) arg.NoArgument)
      ∷ s 42 8 (act.Call call.WdfSpinLockAcquire None (arg.Expression 20) arg.NoArgument arg.NoArgument)
      ∷ s 43 9 (act.Call call.WdfDpcCreate (Some 3) (arg.OfClass 4) arg.NoArgument arg.NoArgument)
      ∷ s 44 10 (act.Call call.WdfDpcEnqueue None (arg.Expression 21) arg.NoArgument arg.NoArgument)
      ∷ s 45 11 (act.Call call.WdfWorkItemCreate (Some 4) (arg.OfClass 2) arg.NoArgument arg.NoArgument)
      ∷ s 46 12 (act.Call call.WdfWorkItemEnqueue None (arg.Expression 22) arg.NoArgument arg.NoArgument)
      ∷ s 47 13 (act.Call call.GetContext (Some 5) (arg.Expression 23) (arg.Expression 24) arg.NoArgument)
      ∷ s 48 14 (act.Call call.WdfSpinLockAcquire None (arg.Expression 25) arg.NoArgument arg.NoArgument) ∷ [])
      ∷ a_script callback.EvtIoDeviceControl (a_queue 10 2 dispatch.Sequential (serves false false false true) true false scope.Unscoped level.Dispatch) 53 []
      ∷ a_script callback.EvtRequestCompletion (a_target 11 2 1 status.Success 4) 57 []
      ∷ [];
}

abbrev pub no_processor_for_work_events : List Event
no_processor_for_work_events = event.Posted 1 (post.Read (h 2 7) 1) (Some (h 7 1))
    ∷ event.Start (p 0) callback.EvtIoRead (h 3 8) (Some (h 7 1))
    ∷ event.Did (p 0) (c call.WdfSpinLockCreate 2 (Class 0) (Val (Obj (h 2 7))) (Val (Num 0))) (Obj (h 8 2))
    ∷ event.Did (p 0) (c call.SetContext 3 (Val (Obj (h 2 7))) (Val (Num 0)) (Val (Obj (h 8 2)))) (Stat status.Success)
    ∷ event.Did (p 0) (c call.WdfSpinLockAcquire 1 (Val (Obj (h 8 2))) (Val (Num 0)) (Val (Num 0))) (Stat status.Success)
    ∷ event.Spend (p 0) 1
    ∷ event.Posted 1 (post.Write (h 2 7) 1) (Some (h 9 1))
    ∷ event.Start (p 1) callback.EvtIoWrite (h 4 9) (Some (h 9 1))
    ∷ event.Did (p 1) (c call.WdfSpinLockCreate 2 (Class 0) (Val (Obj (h 2 7))) (Val (Num 0))) (Obj (h 10 2))
    ∷ event.Did (p 1) (c call.SetContext 3 (Val (Obj (h 2 7))) (Val (Num 1)) (Val (Obj (h 10 2)))) (Stat status.Success)
    ∷ event.Did (p 1) (c call.WdfRequestCreate 2 (Class 1) (Val (Obj (h 2 7))) (Val (Num 0))) (Obj (h 11 3))
    ∷ event.Did (p 1) (c call.WdfRequestSend 3 (Val (Obj (h 11 3))) (Val (Obj (h 6 11))) (Val (Num 0))) (Num 1)
    ∷ event.Did (p 1) (c call.WdfObjectDelete 1 (Val (Obj (h 11 3))) (Val (Num 0)) (Val (Num 0))) (Stat status.Success)
    ∷ event.Did (p 1) (c call.WdfTimerCreate 1 (Class 3) (Val (Num 0)) (Val (Num 0))) (Obj (h 12 5))
    ∷ event.Did (p 1) (c call.WdfTimerStart 2 (Val (Obj (h 12 5))) (Val (Num 1)) (Val (Num 0))) (Num 0)
    ∷ event.Did (p 1) (c call.WdfSpinLockAcquire 1 (Val (Obj (h 10 2))) (Val (Num 0)) (Val (Num 0))) (Stat status.Success)
    ∷ event.Did (p 1) (c call.WdfDpcCreate 1 (Class 4) (Val (Num 0)) (Val (Num 0))) (Obj (h 13 6))
    ∷ event.Did (p 1) (c call.WdfDpcEnqueue 1 (Val (Obj (h 13 6))) (Val (Num 0)) (Val (Num 0))) (Num 1)
    ∷ event.Did (p 1) (c call.WdfWorkItemCreate 1 (Class 2) (Val (Num 0)) (Val (Num 0))) (Obj (h 14 4))
    ∷ event.Did (p 1) (c call.WdfWorkItemEnqueue 1 (Val (Obj (h 14 4))) (Val (Num 0)) (Val (Num 0))) (Stat status.Success)
    ∷ event.Did (p 1) (c call.GetContext 2 (Val (Obj (h 2 7))) (Val (Num 0)) (Val (Num 0))) (Obj (h 8 2))
    ∷ event.Waiting (p 1) (c call.WdfSpinLockAcquire 1 (Val (Obj (h 8 2))) (Val (Num 0)) (Val (Num 0)))
    ∷ event.Tick 1
    ∷ event.Did (p 0) (c call.GetContext 2 (Val (Obj (h 2 7))) (Val (Num 1)) (Val (Num 0))) (Obj (h 10 2))
    ∷ event.Waiting (p 0) (c call.WdfSpinLockAcquire 1 (Val (Obj (h 10 2))) (Val (Num 0)) (Val (Num 0)))
    ∷ event.Posted 1 (post.Control (h 2 7) 1 0) (Some (h 15 1))
    ∷ event.Posted 3 (post.Done (h 11 3) status.Success) None
    ∷ []

abbrev pub no_processor_for_work_waits : List WaitLine
no_processor_for_work_waits = (line (thing.Waiting (f 2) callback.EvtIoRead (h 3 8)) (Some (cause.ByLock (h 10 2) (f 8)))) ∷ (line (thing.Waiting (f 8) callback.EvtIoWrite (h 4 9)) (Some (cause.ByLock (h 8 2) (f 2)))) ∷ (line (thing.Owned (h 7 1)) None) ∷ (line (thing.Owned (h 9 1)) None) ∷ (line (thing.Sent (h 11 3) (h 6 11)) None) ∷ (line (thing.Queued (h 15 1) (h 5 10)) (Some (cause.NoCpu))) ∷ (line (thing.Leaving (h 11 3)) (Some (cause.NoCpu))) ∷ (line (thing.Deferred (h 12 5)) (Some (cause.NoCpu))) ∷ (line (thing.Deferred (h 13 6)) (Some (cause.NoCpu))) ∷ (line (thing.Deferred (h 14 4)) (Some (cause.NoCpu))) ∷ []

abbrev pub target_never_stops_plan : Plan
target_never_stops_plan = record (a_plan 2 100 16) {
  names = (codes "driver") ∷ (codes "req") ∷ (codes "Guard") ∷ (codes "D") ∷ (codes "C") ∷ (codes "W") ∷ (codes "T") ∷ (codes "A") ∷ [];
  declared = declared.Driver
      ∷ a_device 3 true scope.Unscoped level.Dispatch
      ∷ a_queue 4 2 dispatch.Sequential (serves false false false true) true false scope.Unscoped level.Passive
      ∷ a_queue 5 2 (dispatch.Parallel 2) (serves false false true false) true false scope.Unscoped level.Dispatch
      ∷ a_target 6 2 1 status.Success 4
      ∷ [];
  classes = (class.Plain 2 plain.SpinLock) ∷ [];
  agents = (an_agent 7 ((at 40 0 (post.Control (h 2 3) 1 0)) ∷ (at 41 0 (post.Write (h 2 3) 1)) ∷ (at 42 0 (post.Write (h 2 3) 2)) ∷ [])) ∷ (an_agent 3 []) ∷ (an_agent 6 []) ∷ [];
  exprs = (node.Context context.OwnRequest) ∷ (node.Object (h 5 6)) ∷ (node.Number 0) ∷ (node.Object (h 5 6)) ∷ (node.Number 1) ∷ (node.Context context.RequestLength) ∷ (node.Number 1) ∷ (node.Binary operator.Equals 5 6) ∷ (node.Context context.NearestDevice) ∷ (node.Context context.NearestDevice) ∷ (node.Number 0) ∷ (node.Variable 0) ∷ (node.Variable 0) ∷ (node.Number 1) ∷ (node.Context context.NearestDevice) ∷ (node.Number 1) ∷ (node.Variable 1) ∷ (node.Context context.NearestDevice) ∷ (node.Context context.NearestDevice) ∷ (node.Number 1) ∷ (node.Variable 1) ∷ (node.Variable 1) ∷ (node.Context context.NearestDevice) ∷ (node.Number 0) ∷ (node.Variable 0) ∷ [];
  scripts = a_script callback.EvtIoDeviceControl (a_queue 4 2 dispatch.Sequential (serves false false false true) true false scope.Unscoped level.Passive) 10
      (s 11 1 (act.Call call.WdfRequestSend None (arg.Expression 0) (arg.Expression 1) (arg.Expression 2))
      ∷ s 12 2 (act.Call call.WdfIoTargetStop None (arg.Expression 3) (arg.Expression 4) arg.NoArgument) ∷ [])
      ∷ a_script callback.EvtIoWrite (a_queue 5 2 (dispatch.Parallel 2) (serves false false true false) true false scope.Unscoped level.Dispatch) 17
      (s 18 1 (act.If 7 7)
      ∷ s 19 2 (act.Call call.WdfSpinLockCreate (Some 0) (arg.OfClass 0) (arg.Expression 8) arg.NoArgument)
      ∷ s 20 3 (act.Call call.SetContext None (arg.Expression 9) (arg.Expression 10) (arg.Expression 11))
      ∷ s 21 4 (act.Call call.WdfSpinLockAcquire None (arg.Expression 12) arg.NoArgument arg.NoArgument)
      ∷ s 22 5 (act.Spend 13)
      ∷ s 23 6 (act.Call call.GetContext (Some 1) (arg.Expression 14) (arg.Expression 15) arg.NoArgument)
      ∷ s 24 12 (act.Call call.WdfSpinLockAcquire None (arg.Expression 16) arg.NoArgument arg.NoArgument)
      ∷ s 26 8 (act.Call call.WdfSpinLockCreate (Some 1) (arg.OfClass 0) (arg.Expression 17) arg.NoArgument)
      ∷ s 27 9 (act.Call call.SetContext None (arg.Expression 18) (arg.Expression 19) (arg.Expression 20))
      ∷ s 28 10 (act.Call call.WdfSpinLockAcquire None (arg.Expression 21) arg.NoArgument arg.NoArgument)
      ∷ s 29 11 (act.Call call.GetContext (Some 0) (arg.Expression 22) (arg.Expression 23) arg.NoArgument)
      ∷ s 30 12 (act.Call call.WdfSpinLockAcquire None (arg.Expression 24) arg.NoArgument arg.NoArgument) ∷ [])
      ∷ a_script callback.EvtRequestCompletion (a_target 6 2 1 status.Success 4) 35 []
      ∷ [];
}

abbrev pub target_never_stops_events : List Event
target_never_stops_events = event.Posted 1 (post.Control (h 2 3) 1 0) (Some (h 6 1))
    ∷ event.Start (p 0) callback.EvtIoDeviceControl (h 3 4) (Some (h 6 1))
    ∷ event.Did (p 0) (c call.WdfRequestSend 3 (Val (Obj (h 6 1))) (Val (Obj (h 5 6))) (Val (Num 0))) (Num 1)
    ∷ event.Waiting (p 0) (c call.WdfIoTargetStop 2 (Val (Obj (h 5 6))) (Val (Num 1)) (Val (Num 0)))
    ∷ event.Park (p 0) (f 2)
    ∷ event.Posted 1 (post.Write (h 2 3) 1) (Some (h 7 1))
    ∷ event.Start (p 0) callback.EvtIoWrite (h 4 5) (Some (h 7 1))
    ∷ event.Local (p 0) 18
    ∷ event.Did (p 0) (c call.WdfSpinLockCreate 2 (Class 0) (Val (Obj (h 2 3))) (Val (Num 0))) (Obj (h 8 2))
    ∷ event.Did (p 0) (c call.SetContext 3 (Val (Obj (h 2 3))) (Val (Num 0)) (Val (Obj (h 8 2)))) (Stat status.Success)
    ∷ event.Did (p 0) (c call.WdfSpinLockAcquire 1 (Val (Obj (h 8 2))) (Val (Num 0)) (Val (Num 0))) (Stat status.Success)
    ∷ event.Spend (p 0) 1
    ∷ event.Posted 1 (post.Write (h 2 3) 2) (Some (h 9 1))
    ∷ event.Start (p 1) callback.EvtIoWrite (h 4 5) (Some (h 9 1))
    ∷ event.Local (p 1) 18
    ∷ event.Did (p 1) (c call.WdfSpinLockCreate 2 (Class 0) (Val (Obj (h 2 3))) (Val (Num 0))) (Obj (h 10 2))
    ∷ event.Did (p 1) (c call.SetContext 3 (Val (Obj (h 2 3))) (Val (Num 1)) (Val (Obj (h 10 2)))) (Stat status.Success)
    ∷ event.Did (p 1) (c call.WdfSpinLockAcquire 1 (Val (Obj (h 10 2))) (Val (Num 0)) (Val (Num 0))) (Stat status.Success)
    ∷ event.Did (p 1) (c call.GetContext 2 (Val (Obj (h 2 3))) (Val (Num 0)) (Val (Num 0))) (Obj (h 8 2))
    ∷ event.Waiting (p 1) (c call.WdfSpinLockAcquire 1 (Val (Obj (h 8 2))) (Val (Num 0)) (Val (Num 0)))
    ∷ event.Tick 1
    ∷ event.Did (p 0) (c call.GetContext 2 (Val (Obj (h 2 3))) (Val (Num 1)) (Val (Num 0))) (Obj (h 10 2))
    ∷ event.Waiting (p 0) (c call.WdfSpinLockAcquire 1 (Val (Obj (h 10 2))) (Val (Num 0)) (Val (Num 0)))
    ∷ event.Posted 3 (post.Done (h 6 1) status.Success) None
    ∷ []

abbrev pub target_never_stops_waits : List WaitLine
target_never_stops_waits = (line (thing.Waiting (f 2) callback.EvtIoDeviceControl (h 3 4)) (Some (cause.ByRequest (h 6 1)))) ∷ (line (thing.Waiting (f 7) callback.EvtIoWrite (h 4 5)) (Some (cause.ByLock (h 10 2) (f 14)))) ∷ (line (thing.Waiting (f 14) callback.EvtIoWrite (h 4 5)) (Some (cause.ByLock (h 8 2) (f 7)))) ∷ (line (thing.Sent (h 6 1) (h 5 6)) None) ∷ (line (thing.Owned (h 7 1)) None) ∷ (line (thing.Owned (h 9 1)) None) ∷ []
