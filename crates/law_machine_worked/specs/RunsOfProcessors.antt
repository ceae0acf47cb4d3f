-- Worked runs: the plan of each, its events, and what it waits for where it is stuck. Made by
-- tools/scene_to_plan.py from the scenarios and traces of tools/runs.
use Rattle.std.specs.Prelude.{List, [], ◌∷◌, Some, None, true, false, codes}
use Rattle.wdf_base.specs.declared.declared.Declared.TheVariants as declared
use Rattle.wdf_base.specs.declared.declared.ClassInfo.TheVariants as class
use Rattle.wdf_base.specs.declared.declared.PlainKind.TheVariants as plain
use Rattle.wdf_base.specs.declared.declared.DeferredKind.TheVariants as deferred
use Rattle.wdf_base.specs.declared.declared.Scope.TheVariants as scope
use Rattle.wdf_base.specs.declared.declared.ExecutionLevel.TheVariants as level
use Rattle.wdf_base.specs.declared.declared.DispatchKind.TheVariants as dispatch
use Rattle.wdf_base.specs.declared.event.Access.TheVariants as access
use Rattle.wdf_base.specs.declared.event.Action.TheVariants as action
use Rattle.wdf_base.specs.declared.event.Ask.TheVariants as ask
use Rattle.wdf_base.specs.declared.event.Post.TheVariants as post
use Rattle.wdf_base.specs.declared.event.Stage.TheVariants as stage
use Rattle.wdf_base.specs.declared.event.Event.{Event}
use Rattle.wdf_base.specs.declared.event.Event.TheVariants as event
use Rattle.wdf_base.specs.declared.script.ExprNode.TheVariants as node
use Rattle.wdf_base.specs.declared.script.ContextWord.TheVariants as context
use Rattle.wdf_base.specs.declared.script.ArgNode.TheVariants as arg
use Rattle.wdf_base.specs.declared.script.Act.TheVariants as act
use Rattle.wdf_base.specs.declared.call.Arg.TheVariants.{Val, Class}
use Rattle.wdf_base.specs.declared.call.CallKind.TheVariants as call
use Rattle.wdf_base.specs.declared.call.Callback.TheVariants as callback
use Rattle.wdf_base.specs.declared.value.Status.TheVariants as status
use Rattle.wdf_base.specs.declared.value.Value.TheVariants.{Num, Obj, Stat}
use Rattle.wdf_base.specs.declared.plan.Plan.{Plan}
use Rattle.wdf_base.specs.declared.wait.OpenThing.TheVariants as thing
use Rattle.wdf_base.specs.declared.wait.Cause.TheVariants as cause
use Rattle.wdf_base.specs.declared.wait.WaitLine.{WaitLine}
use Rattle.law_machine_worked.specs.Writing.{h, p, f, c, at, s, line, a_plan, a_device, a_queue, serves, an_interrupt, an_agent, a_script}

abbrev pub blocked_dpc_plan : Plan
blocked_dpc_plan = record (a_plan 2 100 16) {
  names = (codes "driver") ∷ (codes "req") ∷ (codes "L") ∷ (codes "W") ∷ (codes "C") ∷ (codes "D") ∷ (codes "Q") ∷ (codes "A") ∷ [];
  declared = declared.Driver
      ∷ a_device 5 true scope.PerDevice level.Dispatch
      ∷ a_queue 6 2 dispatch.Sequential (serves true false false false) true false scope.PerDevice level.Dispatch
      ∷ [];
  classes = (class.Plain 2 plain.SpinLock) ∷ (class.Deferred 3 deferred.WorkItem (record { 0 = 2 }) false 0) ∷ (class.Deferred 4 deferred.Dpc (record { 0 = 2 }) true 0) ∷ [];
  agents = (an_agent 7 ((at 41 0 (post.Read (h 2 5) 1)) ∷ (at 42 0 (post.Read (h 2 5) 1)) ∷ [])) ∷ (an_agent 5 []) ∷ [];
  exprs = (node.Context context.NearestDevice) ∷ (node.Number 0) ∷ (node.Context context.NearestDevice) ∷ (node.Number 1) ∷ (node.Variable 1) ∷ (node.Number 1) ∷ (node.Variable 0) ∷ (node.Number 1) ∷ (node.Context context.NearestDevice) ∷ (node.Context context.NearestDevice) ∷ (node.Context context.NearestDevice) ∷ (node.Number 0) ∷ (node.Variable 0) ∷ (node.Context context.NearestDevice) ∷ (node.Number 1) ∷ (node.Variable 1) ∷ (node.Variable 2) ∷ (node.Variable 3) ∷ (node.Variable 0) ∷ (node.Number 1) ∷ (node.Variable 1) ∷ [];
  scripts = a_script callback.EvtWorkItem (declared.OfClass 1) 7
      (s 8 1 (act.Call call.GetContext (Some 0) (arg.Expression 0) (arg.Expression 1) arg.NoArgument)
      ∷ s 9 2 (act.Call call.GetContext (Some 1) (arg.Expression 2) (arg.Expression 3) arg.NoArgument)
      ∷ s 10 3 (act.Call call.WdfSpinLockAcquire None (arg.Expression 4) arg.NoArgument arg.NoArgument)
      ∷ s 11 4 (act.Spend 5)
      ∷ s 12 5 (act.Call call.WdfSpinLockAcquire None (arg.Expression 6) arg.NoArgument arg.NoArgument) ∷ [])
      ∷ a_script callback.EvtDpcFunc (declared.OfClass 2) 17 (s 18 1 (act.Log 7) ∷ [])
      ∷ a_script callback.EvtIoRead (a_queue 6 2 dispatch.Sequential (serves true false false false) true false scope.PerDevice level.Dispatch) 25
      (s 26 1 (act.Call call.WdfSpinLockCreate (Some 0) (arg.OfClass 0) (arg.Expression 8) arg.NoArgument)
      ∷ s 27 2 (act.Call call.WdfSpinLockCreate (Some 1) (arg.OfClass 0) (arg.Expression 9) arg.NoArgument)
      ∷ s 28 3 (act.Call call.SetContext None (arg.Expression 10) (arg.Expression 11) (arg.Expression 12))
      ∷ s 29 4 (act.Call call.SetContext None (arg.Expression 13) (arg.Expression 14) (arg.Expression 15))
      ∷ s 30 5 (act.Call call.WdfDpcCreate (Some 2) (arg.OfClass 2) arg.NoArgument arg.NoArgument)
      ∷ s 31 6 (act.Call call.WdfDpcEnqueue None (arg.Expression 16) arg.NoArgument arg.NoArgument)
      ∷ s 32 7 (act.Call call.WdfWorkItemCreate (Some 3) (arg.OfClass 1) arg.NoArgument arg.NoArgument)
      ∷ s 33 8 (act.Call call.WdfWorkItemEnqueue None (arg.Expression 17) arg.NoArgument arg.NoArgument)
      ∷ s 34 9 (act.Call call.WdfSpinLockAcquire None (arg.Expression 18) arg.NoArgument arg.NoArgument)
      ∷ s 35 10 (act.Spend 19)
      ∷ s 36 11 (act.Call call.WdfSpinLockAcquire None (arg.Expression 20) arg.NoArgument arg.NoArgument) ∷ [])
      ∷ [];
}

abbrev pub blocked_dpc_events : List Event
blocked_dpc_events = event.Posted 1 (post.Read (h 2 5) 1) (Some (h 4 1))
    ∷ event.Start (p 0) callback.EvtIoRead (h 3 6) (Some (h 4 1))
    ∷ event.Did (p 0) (c call.WdfSpinLockCreate 2 (Class 0) (Val (Obj (h 2 5))) (Val (Num 0))) (Obj (h 5 2))
    ∷ event.Did (p 0) (c call.WdfSpinLockCreate 2 (Class 0) (Val (Obj (h 2 5))) (Val (Num 0))) (Obj (h 6 2))
    ∷ event.Did (p 0) (c call.SetContext 3 (Val (Obj (h 2 5))) (Val (Num 0)) (Val (Obj (h 5 2)))) (Stat status.Success)
    ∷ event.Did (p 0) (c call.SetContext 3 (Val (Obj (h 2 5))) (Val (Num 1)) (Val (Obj (h 6 2)))) (Stat status.Success)
    ∷ event.Did (p 0) (c call.WdfDpcCreate 1 (Class 2) (Val (Num 0)) (Val (Num 0))) (Obj (h 7 4))
    ∷ event.Did (p 0) (c call.WdfDpcEnqueue 1 (Val (Obj (h 7 4))) (Val (Num 0)) (Val (Num 0))) (Num 1)
    ∷ event.Did (p 0) (c call.WdfWorkItemCreate 1 (Class 1) (Val (Num 0)) (Val (Num 0))) (Obj (h 8 3))
    ∷ event.Did (p 0) (c call.WdfWorkItemEnqueue 1 (Val (Obj (h 8 3))) (Val (Num 0)) (Val (Num 0))) (Stat status.Success)
    ∷ event.Did (p 0) (c call.WdfSpinLockAcquire 1 (Val (Obj (h 5 2))) (Val (Num 0)) (Val (Num 0))) (Stat status.Success)
    ∷ event.Spend (p 0) 1
    ∷ event.Start (p 1) callback.EvtWorkItem (h 8 3) None
    ∷ event.Did (p 1) (c call.GetContext 2 (Val (Obj (h 2 5))) (Val (Num 0)) (Val (Num 0))) (Obj (h 5 2))
    ∷ event.Did (p 1) (c call.GetContext 2 (Val (Obj (h 2 5))) (Val (Num 1)) (Val (Num 0))) (Obj (h 6 2))
    ∷ event.Did (p 1) (c call.WdfSpinLockAcquire 1 (Val (Obj (h 6 2))) (Val (Num 0)) (Val (Num 0))) (Stat status.Success)
    ∷ event.Spend (p 1) 1
    ∷ event.Posted 1 (post.Read (h 2 5) 1) (Some (h 9 1))
    ∷ event.Tick 1
    ∷ event.Waiting (p 0) (c call.WdfSpinLockAcquire 1 (Val (Obj (h 6 2))) (Val (Num 0)) (Val (Num 0)))
    ∷ event.Waiting (p 1) (c call.WdfSpinLockAcquire 1 (Val (Obj (h 5 2))) (Val (Num 0)) (Val (Num 0)))
    ∷ []

abbrev pub blocked_dpc_waits : List WaitLine
blocked_dpc_waits = (line (thing.Waiting (f 2) callback.EvtIoRead (h 3 6)) (Some (cause.ByLock (h 6 2) (f 13)))) ∷ (line (thing.Waiting (f 13) callback.EvtWorkItem (h 8 3)) (Some (cause.ByLock (h 5 2) (f 2)))) ∷ (line (thing.Owned (h 4 1)) None) ∷ (line (thing.Queued (h 9 1) (h 3 6)) (Some (cause.Full))) ∷ (line (thing.Deferred (h 7 4)) (Some (cause.ScopeHeld))) ∷ []

abbrev pub deadlock_plan : Plan
deadlock_plan = record (a_plan 2 100 16) {
  names = (codes "driver") ∷ (codes "req") ∷ (codes "L") ∷ (codes "X") ∷ (codes "Y") ∷ (codes "D") ∷ [];
  declared = declared.Driver
      ∷ a_device 5 false scope.Unscoped level.Dispatch
      ∷ [];
  classes = (class.Plain 2 plain.WaitLock) ∷ (class.Deferred 3 deferred.WorkItem (record { 0 = 2 }) false 0) ∷ (class.Deferred 4 deferred.WorkItem (record { 0 = 2 }) false 0) ∷ [];
  pnp = (at 37 0 (post.Ask ask.Start (h 2 5))) ∷ [];
  agents = (an_agent 5 []) ∷ [];
  exprs = (node.Context context.NearestDevice) ∷ (node.Number 0) ∷ (node.Context context.NearestDevice) ∷ (node.Number 1) ∷ (node.Variable 0) ∷ (node.Number 1) ∷ (node.Variable 1) ∷ (node.Context context.NearestDevice) ∷ (node.Number 0) ∷ (node.Context context.NearestDevice) ∷ (node.Number 1) ∷ (node.Variable 1) ∷ (node.Number 1) ∷ (node.Variable 0) ∷ (node.Context context.NearestDevice) ∷ (node.Context context.NearestDevice) ∷ (node.Context context.NearestDevice) ∷ (node.Number 0) ∷ (node.Variable 0) ∷ (node.Context context.NearestDevice) ∷ (node.Number 1) ∷ (node.Variable 1) ∷ (node.Variable 2) ∷ (node.Variable 3) ∷ [];
  scripts = a_script callback.EvtWorkItem (declared.OfClass 1) 7
      (s 8 1 (act.Call call.GetContext (Some 0) (arg.Expression 0) (arg.Expression 1) arg.NoArgument)
      ∷ s 9 2 (act.Call call.GetContext (Some 1) (arg.Expression 2) (arg.Expression 3) arg.NoArgument)
      ∷ s 10 3 (act.Call call.WdfWaitLockAcquire None (arg.Expression 4) arg.NoArgument arg.NoArgument)
      ∷ s 11 4 (act.Spend 5)
      ∷ s 12 5 (act.Call call.WdfWaitLockAcquire None (arg.Expression 6) arg.NoArgument arg.NoArgument) ∷ [])
      ∷ a_script callback.EvtWorkItem (declared.OfClass 2) 16
      (s 17 1 (act.Call call.GetContext (Some 0) (arg.Expression 7) (arg.Expression 8) arg.NoArgument)
      ∷ s 18 2 (act.Call call.GetContext (Some 1) (arg.Expression 9) (arg.Expression 10) arg.NoArgument)
      ∷ s 19 3 (act.Call call.WdfWaitLockAcquire None (arg.Expression 11) arg.NoArgument arg.NoArgument)
      ∷ s 20 4 (act.Spend 12)
      ∷ s 21 5 (act.Call call.WdfWaitLockAcquire None (arg.Expression 13) arg.NoArgument arg.NoArgument) ∷ [])
      ∷ a_script callback.EvtDeviceD0Entry (a_device 5 false scope.Unscoped level.Dispatch) 25
      (s 26 1 (act.Call call.WdfWaitLockCreate (Some 0) (arg.OfClass 0) (arg.Expression 14) arg.NoArgument)
      ∷ s 27 2 (act.Call call.WdfWaitLockCreate (Some 1) (arg.OfClass 0) (arg.Expression 15) arg.NoArgument)
      ∷ s 28 3 (act.Call call.SetContext None (arg.Expression 16) (arg.Expression 17) (arg.Expression 18))
      ∷ s 29 4 (act.Call call.SetContext None (arg.Expression 19) (arg.Expression 20) (arg.Expression 21))
      ∷ s 30 5 (act.Call call.WdfWorkItemCreate (Some 2) (arg.OfClass 1) arg.NoArgument arg.NoArgument)
      ∷ s 31 6 (act.Call call.WdfWorkItemCreate (Some 3) (arg.OfClass 2) arg.NoArgument arg.NoArgument)
      ∷ s 32 7 (act.Call call.WdfWorkItemEnqueue None (arg.Expression 22) arg.NoArgument arg.NoArgument)
      ∷ s 33 8 (act.Call call.WdfWorkItemEnqueue None (arg.Expression 23) arg.NoArgument arg.NoArgument) ∷ [])
      ∷ [];
}

abbrev pub deadlock_events : List Event
deadlock_events = event.Posted 0 (post.Ask ask.Start (h 2 5)) None
    ∷ event.Stage (h 2 5) stage.Hardware None
    ∷ event.Start (p 0) callback.EvtDeviceD0Entry (h 2 5) None
    ∷ event.Did (p 0) (c call.WdfWaitLockCreate 2 (Class 0) (Val (Obj (h 2 5))) (Val (Num 0))) (Obj (h 3 2))
    ∷ event.Did (p 0) (c call.WdfWaitLockCreate 2 (Class 0) (Val (Obj (h 2 5))) (Val (Num 0))) (Obj (h 4 2))
    ∷ event.Did (p 0) (c call.SetContext 3 (Val (Obj (h 2 5))) (Val (Num 0)) (Val (Obj (h 3 2)))) (Stat status.Success)
    ∷ event.Did (p 0) (c call.SetContext 3 (Val (Obj (h 2 5))) (Val (Num 1)) (Val (Obj (h 4 2)))) (Stat status.Success)
    ∷ event.Did (p 0) (c call.WdfWorkItemCreate 1 (Class 1) (Val (Num 0)) (Val (Num 0))) (Obj (h 5 3))
    ∷ event.Did (p 0) (c call.WdfWorkItemCreate 1 (Class 2) (Val (Num 0)) (Val (Num 0))) (Obj (h 6 4))
    ∷ event.Did (p 0) (c call.WdfWorkItemEnqueue 1 (Val (Obj (h 5 3))) (Val (Num 0)) (Val (Num 0))) (Stat status.Success)
    ∷ event.Did (p 0) (c call.WdfWorkItemEnqueue 1 (Val (Obj (h 6 4))) (Val (Num 0)) (Val (Num 0))) (Stat status.Success)
    ∷ event.End (p 0) callback.EvtDeviceD0Entry (h 2 5) (Stat status.Success)
    ∷ event.Start (p 0) callback.EvtWorkItem (h 5 3) None
    ∷ event.Did (p 0) (c call.GetContext 2 (Val (Obj (h 2 5))) (Val (Num 0)) (Val (Num 0))) (Obj (h 3 2))
    ∷ event.Did (p 0) (c call.GetContext 2 (Val (Obj (h 2 5))) (Val (Num 1)) (Val (Num 0))) (Obj (h 4 2))
    ∷ event.Did (p 0) (c call.WdfWaitLockAcquire 1 (Val (Obj (h 3 2))) (Val (Num 0)) (Val (Num 0))) (Stat status.Success)
    ∷ event.Spend (p 0) 1
    ∷ event.Start (p 1) callback.EvtWorkItem (h 6 4) None
    ∷ event.Did (p 1) (c call.GetContext 2 (Val (Obj (h 2 5))) (Val (Num 0)) (Val (Num 0))) (Obj (h 3 2))
    ∷ event.Did (p 1) (c call.GetContext 2 (Val (Obj (h 2 5))) (Val (Num 1)) (Val (Num 0))) (Obj (h 4 2))
    ∷ event.Did (p 1) (c call.WdfWaitLockAcquire 1 (Val (Obj (h 4 2))) (Val (Num 0)) (Val (Num 0))) (Stat status.Success)
    ∷ event.Spend (p 1) 1
    ∷ event.Stage (h 2 5) stage.QueuesUp None
    ∷ event.Stage (h 2 5) stage.Working None
    ∷ event.Tick 1
    ∷ event.Waiting (p 0) (c call.WdfWaitLockAcquire 1 (Val (Obj (h 4 2))) (Val (Num 0)) (Val (Num 0)))
    ∷ event.Park (p 0) (f 13)
    ∷ event.Waiting (p 1) (c call.WdfWaitLockAcquire 1 (Val (Obj (h 3 2))) (Val (Num 0)) (Val (Num 0)))
    ∷ event.Park (p 1) (f 18)
    ∷ []

abbrev pub deadlock_waits : List WaitLine
deadlock_waits = (line (thing.Waiting (f 13) callback.EvtWorkItem (h 5 3)) (Some (cause.ByLock (h 4 2) (f 18)))) ∷ (line (thing.Waiting (f 18) callback.EvtWorkItem (h 6 4)) (Some (cause.ByLock (h 3 2) (f 13)))) ∷ []

abbrev pub device_scope_plan : Plan
device_scope_plan = record (a_plan 2 100 16) {
  names = (codes "driver") ∷ (codes "req") ∷ (codes "D") ∷ (codes "R") ∷ (codes "W") ∷ (codes "A") ∷ [];
  declared = declared.Driver
      ∷ a_device 2 true scope.PerDevice level.Dispatch
      ∷ a_queue 3 2 dispatch.Sequential (serves false true false false) true false scope.PerDevice level.Dispatch
      ∷ a_queue 4 2 dispatch.Sequential (serves false false true false) true false scope.PerDevice level.Dispatch
      ∷ [];
  agents = (an_agent 5 ((at 21 0 (post.Read (h 2 2) 8)) ∷ (at 22 0 (post.Write (h 2 2) 8)) ∷ [])) ∷ (an_agent 2 []) ∷ [];
  exprs = (node.Number 1) ∷ (node.Context context.OwnRequest) ∷ (node.Literal status.Success) ∷ (node.Context context.OwnRequest) ∷ (node.Literal status.Success) ∷ [];
  scripts = a_script callback.EvtIoRead (a_queue 3 2 dispatch.Sequential (serves false true false false) true false scope.PerDevice level.Dispatch) 8
      (s 9 1 (act.Spend 0)
      ∷ s 10 2 (act.Call call.WdfRequestComplete None (arg.Expression 1) (arg.Expression 2) arg.NoArgument) ∷ [])
      ∷ a_script callback.EvtIoWrite (a_queue 4 2 dispatch.Sequential (serves false false true false) true false scope.PerDevice level.Dispatch) 15 (s 16 1 (act.Call call.WdfRequestComplete None (arg.Expression 3) (arg.Expression 4) arg.NoArgument) ∷ [])
      ∷ [];
}

abbrev pub device_scope_events : List Event
device_scope_events = event.Posted 1 (post.Read (h 2 2) 8) (Some (h 5 1))
    ∷ event.Start (p 0) callback.EvtIoRead (h 3 3) (Some (h 5 1))
    ∷ event.Spend (p 0) 1
    ∷ event.Posted 1 (post.Write (h 2 2) 8) (Some (h 6 1))
    ∷ event.Tick 1
    ∷ event.Did (p 0) (c call.WdfRequestComplete 2 (Val (Obj (h 5 1))) (Val (Stat status.Success)) (Val (Num 0))) (Stat status.Success)
    ∷ event.End (p 0) callback.EvtIoRead (h 3 3) (Stat status.Success)
    ∷ event.Start (p 0) callback.EvtIoWrite (h 4 4) (Some (h 6 1))
    ∷ event.Did (p 0) (c call.WdfRequestComplete 2 (Val (Obj (h 6 1))) (Val (Stat status.Success)) (Val (Num 0))) (Stat status.Success)
    ∷ event.End (p 0) callback.EvtIoWrite (h 4 4) (Stat status.Success)
    ∷ event.Cleanup (h 5 1)
    ∷ event.Cleanup (h 6 1)
    ∷ event.Destroy (h 5 1)
    ∷ event.Destroy (h 6 1)
    ∷ []

abbrev pub isr_and_dpc_plan : Plan
isr_and_dpc_plan = record (a_plan 1 100 16) {
  names = (codes "driver") ∷ (codes "req") ∷ (codes "L") ∷ (codes "D") ∷ (codes "STS") ∷ (codes "CTL") ∷ (codes "I") ∷ [];
  declared = declared.Driver
      ∷ a_device 3 false scope.Unscoped level.Dispatch
      ∷ an_interrupt 6 2 5
      ∷ [];
  classes = (class.Plain 2 plain.SpinLock) ∷ [];
  registers = (record { name = 4; device = record { 0 = 2 }; value = 1 }) ∷ (record { name = 5; device = record { 0 = 2 }; value = 0 }) ∷ [];
  whens = (record { access = access.Write; register = 1; action = action.Raise (h 3 6); after = 0; line = 9 }) ∷ (record { access = access.Read; register = 0; action = action.Lower (h 3 6); after = 0; line = 10 }) ∷ [];
  pnp = (at 29 0 (post.Ask ask.Start (h 2 3))) ∷ [];
  agents = (an_agent 3 []) ∷ [];
  exprs = (node.Context context.OwnObject) ∷ (node.Context context.OwnObject) ∷ (node.Number 7) ∷ (node.Context context.NearestDevice) ∷ (node.Variable 0) ∷ (node.Number 1) ∷ (node.Variable 0) ∷ [];
  scripts = a_script callback.EvtInterruptIsr (an_interrupt 6 2 5) 12
      (s 13 1 (act.Get 0 0)
      ∷ s 14 2 (act.Call call.WdfInterruptQueueDpcForIsr None (arg.Expression 0) arg.NoArgument arg.NoArgument)
      ∷ s 15 3 (act.Call call.WdfInterruptQueueDpcForIsr None (arg.Expression 1) arg.NoArgument arg.NoArgument) ∷ [])
      ∷ a_script callback.EvtInterruptDpc (an_interrupt 6 2 5) 17 (s 18 1 (act.Log 2) ∷ [])
      ∷ a_script callback.EvtDeviceD0EntryPostInterruptsEnabled (a_device 3 false scope.Unscoped level.Dispatch) 21
      (s 22 1 (act.Call call.WdfSpinLockCreate (Some 0) (arg.OfClass 0) (arg.Expression 3) arg.NoArgument)
      ∷ s 23 2 (act.Call call.WdfSpinLockAcquire None (arg.Expression 4) arg.NoArgument arg.NoArgument)
      ∷ s 24 3 (act.Put 1 5)
      ∷ s 25 4 (act.Call call.WdfSpinLockRelease None (arg.Expression 6) arg.NoArgument arg.NoArgument) ∷ [])
      ∷ [];
  picks = (0) ∷ (0) ∷ (0) ∷ (0) ∷ (0) ∷ (0) ∷ (0) ∷ (1) ∷ [];
}

abbrev pub isr_and_dpc_events : List Event
isr_and_dpc_events = event.Posted 0 (post.Ask ask.Start (h 2 3)) None
    ∷ event.Stage (h 2 3) stage.Hardware None
    ∷ event.Stage (h 2 3) stage.Enabled (Some (h 3 6))
    ∷ event.Start (p 0) callback.EvtDeviceD0EntryPostInterruptsEnabled (h 2 3) None
    ∷ event.Did (p 0) (c call.WdfSpinLockCreate 2 (Class 0) (Val (Obj (h 2 3))) (Val (Num 0))) (Obj (h 4 2))
    ∷ event.Did (p 0) (c call.WdfSpinLockAcquire 1 (Val (Obj (h 4 2))) (Val (Num 0)) (Val (Num 0))) (Stat status.Success)
    ∷ event.Register (p 0) access.Write 1 1
    ∷ event.Start (p 0) callback.EvtInterruptIsr (h 3 6) None
    ∷ event.Register (p 0) access.Read 0 1
    ∷ event.Did (p 0) (c call.WdfInterruptQueueDpcForIsr 1 (Val (Obj (h 3 6))) (Val (Num 0)) (Val (Num 0))) (Num 1)
    ∷ event.Did (p 0) (c call.WdfInterruptQueueDpcForIsr 1 (Val (Obj (h 3 6))) (Val (Num 0)) (Val (Num 0))) (Num 0)
    ∷ event.End (p 0) callback.EvtInterruptIsr (h 3 6) (Stat status.Success)
    ∷ event.Did (p 0) (c call.WdfSpinLockRelease 1 (Val (Obj (h 4 2))) (Val (Num 0)) (Val (Num 0))) (Stat status.Success)
    ∷ event.End (p 0) callback.EvtDeviceD0EntryPostInterruptsEnabled (h 2 3) (Stat status.Success)
    ∷ event.Start (p 0) callback.EvtInterruptDpc (h 3 6) None
    ∷ event.Log (p 0) (Num 7)
    ∷ event.End (p 0) callback.EvtInterruptDpc (h 3 6) (Stat status.Success)
    ∷ event.Stage (h 2 3) stage.QueuesUp None
    ∷ event.Stage (h 2 3) stage.Working None
    ∷ []

abbrev pub passive_interrupt_plan : Plan
passive_interrupt_plan = record (a_plan 2 100 16) {
  names = (codes "driver") ∷ (codes "req") ∷ (codes "D") ∷ (codes "C") ∷ (codes "I") ∷ [];
  declared = declared.Driver
      ∷ a_device 2 false scope.Unscoped level.Dispatch
      ∷ an_interrupt 4 2 0
      ∷ [];
  registers = (record { name = 3; device = record { 0 = 2 }; value = 0 }) ∷ [];
  whens = (record { access = access.Write; register = 0; action = action.Raise (h 3 4); after = 0; line = 7 }) ∷ (record { access = access.Read; register = 0; action = action.Lower (h 3 4); after = 0; line = 8 }) ∷ [];
  pnp = (at 31 0 (post.Ask ask.Start (h 2 2))) ∷ (at 32 3 (post.Ask ask.Surprise (h 2 2))) ∷ [];
  agents = (an_agent 2 []) ∷ [];
  exprs = (node.Variable 0) ∷ (node.Number 1) ∷ (node.Number 2) ∷ (node.Object (h 3 4)) ∷ (node.Number 5) ∷ (node.Number 1) ∷ (node.Object (h 3 4)) ∷ (node.Object (h 3 4)) ∷ (node.Object (h 3 4)) ∷ [];
  scripts = a_script callback.EvtInterruptIsr (an_interrupt 4 2 0) 10
      (s 11 1 (act.Get 0 0)
      ∷ s 12 2 (act.Log 0) ∷ [])
      ∷ a_script callback.EvtInterruptEnable (an_interrupt 4 2 0) 14 (s 15 1 (act.Log 1) ∷ [])
      ∷ a_script callback.EvtInterruptDisable (an_interrupt 4 2 0) 17 (s 18 1 (act.Log 2) ∷ [])
      ∷ a_script callback.EvtDeviceD0EntryPostInterruptsEnabled (a_device 2 false scope.Unscoped level.Dispatch) 21
      (s 22 1 (act.Call call.WdfInterruptAcquireLock None (arg.Expression 3) arg.NoArgument arg.NoArgument)
      ∷ s 23 2 (act.Put 0 4)
      ∷ s 24 3 (act.Spend 5)
      ∷ s 25 4 (act.Call call.WdfInterruptReleaseLock None (arg.Expression 6) arg.NoArgument arg.NoArgument)
      ∷ s 26 5 (act.Call call.WdfInterruptAcquireLock None (arg.Expression 7) arg.NoArgument arg.NoArgument)
      ∷ s 27 6 (act.Call call.WdfInterruptReleaseLock None (arg.Expression 8) arg.NoArgument arg.NoArgument) ∷ [])
      ∷ [];
  picks = (0) ∷ (0) ∷ (0) ∷ (0) ∷ (0) ∷ (0) ∷ (0) ∷ (0) ∷ (0) ∷ (0) ∷ (0) ∷ (0) ∷ (1) ∷ [];
}

abbrev pub passive_interrupt_events : List Event
passive_interrupt_events = event.Posted 0 (post.Ask ask.Start (h 2 2)) None
    ∷ event.Stage (h 2 2) stage.Hardware None
    ∷ event.Start (p 0) callback.EvtInterruptEnable (h 3 4) None
    ∷ event.Log (p 0) (Num 1)
    ∷ event.End (p 0) callback.EvtInterruptEnable (h 3 4) (Stat status.Success)
    ∷ event.Stage (h 2 2) stage.Enabled (Some (h 3 4))
    ∷ event.Start (p 0) callback.EvtDeviceD0EntryPostInterruptsEnabled (h 2 2) None
    ∷ event.Did (p 0) (c call.WdfInterruptAcquireLock 1 (Val (Obj (h 3 4))) (Val (Num 0)) (Val (Num 0))) (Stat status.Success)
    ∷ event.Register (p 0) access.Write 0 5
    ∷ event.Spend (p 0) 1
    ∷ event.Tick 1
    ∷ event.Did (p 0) (c call.WdfInterruptReleaseLock 1 (Val (Obj (h 3 4))) (Val (Num 0)) (Val (Num 0))) (Stat status.Success)
    ∷ event.Start (p 1) callback.EvtInterruptIsr (h 3 4) None
    ∷ event.Waiting (p 0) (c call.WdfInterruptAcquireLock 1 (Val (Obj (h 3 4))) (Val (Num 0)) (Val (Num 0)))
    ∷ event.Park (p 0) (f 7)
    ∷ event.Register (p 1) access.Read 0 5
    ∷ event.Log (p 1) (Num 5)
    ∷ event.End (p 1) callback.EvtInterruptIsr (h 3 4) (Stat status.Success)
    ∷ event.Unpark (p 0) (f 7)
    ∷ event.Woke (p 0) (c call.WdfInterruptAcquireLock 1 (Val (Obj (h 3 4))) (Val (Num 0)) (Val (Num 0))) (Stat status.Success)
    ∷ event.Did (p 0) (c call.WdfInterruptReleaseLock 1 (Val (Obj (h 3 4))) (Val (Num 0)) (Val (Num 0))) (Stat status.Success)
    ∷ event.End (p 0) callback.EvtDeviceD0EntryPostInterruptsEnabled (h 2 2) (Stat status.Success)
    ∷ event.Stage (h 2 2) stage.QueuesUp None
    ∷ event.Stage (h 2 2) stage.Working None
    ∷ event.Tick 2
    ∷ event.Tick 3
    ∷ event.Posted 0 (post.Ask ask.Surprise (h 2 2)) None
    ∷ event.Stage (h 2 2) stage.QueuesDown None
    ∷ event.Stage (h 2 2) stage.Settled None
    ∷ event.Stage (h 2 2) stage.Disabled (Some (h 3 4))
    ∷ event.Start (p 0) callback.EvtInterruptDisable (h 3 4) None
    ∷ event.Log (p 0) (Num 2)
    ∷ event.End (p 0) callback.EvtInterruptDisable (h 3 4) (Stat status.Success)
    ∷ event.Stage (h 2 2) stage.Quiet None
    ∷ event.Stage (h 2 2) stage.NoHardware None
    ∷ event.Stage (h 2 2) stage.Closed None
    ∷ event.Stage (h 2 2) stage.Removed None
    ∷ event.Cleanup (h 3 4)
    ∷ event.Cleanup (h 2 2)
    ∷ event.Destroy (h 3 4)
    ∷ event.Destroy (h 2 2)
    ∷ []

abbrev pub periodic_timer_plan : Plan
periodic_timer_plan = record (a_plan 2 60 16) {
  names = (codes "driver") ∷ (codes "req") ∷ (codes "T") ∷ (codes "W") ∷ (codes "D") ∷ [];
  declared = declared.Driver
      ∷ a_device 4 false scope.PerDevice level.Dispatch
      ∷ [];
  classes = (class.Deferred 2 deferred.Timer (record { 0 = 2 }) true 2) ∷ (class.Deferred 3 deferred.WorkItem (record { 0 = 2 }) false 0) ∷ [];
  pnp = (at 33 0 (post.Ask ask.Start (h 2 4))) ∷ [];
  agents = (an_agent 4 []) ∷ [];
  exprs = (node.Number 1) ∷ (node.Number 1) ∷ (node.Context context.NearestDevice) ∷ (node.Number 0) ∷ (node.Variable 0) ∷ (node.Number 1) ∷ (node.Variable 1) ∷ (node.Variable 0) ∷ (node.Context context.NearestDevice) ∷ (node.Number 0) ∷ (node.Variable 0) ∷ (node.Variable 0) ∷ (node.Number 1) ∷ (node.Variable 0) ∷ (node.Number 1) ∷ (node.Number 3) ∷ (node.Variable 2) ∷ [];
  scripts = a_script callback.EvtTimerFunc (declared.OfClass 0) 7
      (s 8 1 (act.Log 0)
      ∷ s 9 2 (act.Spend 1) ∷ [])
      ∷ a_script callback.EvtWorkItem (declared.OfClass 1) 13
      (s 14 1 (act.Call call.GetContext (Some 0) (arg.Expression 2) (arg.Expression 3) arg.NoArgument)
      ∷ s 15 2 (act.Call call.WdfTimerStop (Some 1) (arg.Expression 4) (arg.Expression 5) arg.NoArgument)
      ∷ s 16 3 (act.Log 6)
      ∷ s 17 4 (act.Call call.WdfObjectDelete None (arg.Expression 7) arg.NoArgument arg.NoArgument) ∷ [])
      ∷ a_script callback.EvtDeviceD0Entry (a_device 4 false scope.PerDevice level.Dispatch) 22
      (s 23 1 (act.Call call.WdfTimerCreate (Some 0) (arg.OfClass 0) arg.NoArgument arg.NoArgument)
      ∷ s 24 2 (act.Call call.SetContext None (arg.Expression 8) (arg.Expression 9) (arg.Expression 10))
      ∷ s 25 3 (act.Call call.WdfTimerStart (Some 1) (arg.Expression 11) (arg.Expression 12) arg.NoArgument)
      ∷ s 26 4 (act.Call call.WdfTimerStart (Some 1) (arg.Expression 13) (arg.Expression 14) arg.NoArgument)
      ∷ s 27 5 (act.Spend 15)
      ∷ s 28 6 (act.Call call.WdfWorkItemCreate (Some 2) (arg.OfClass 1) arg.NoArgument arg.NoArgument)
      ∷ s 29 7 (act.Call call.WdfWorkItemEnqueue None (arg.Expression 16) arg.NoArgument arg.NoArgument) ∷ [])
      ∷ [];
}

abbrev pub periodic_timer_events : List Event
periodic_timer_events = event.Posted 0 (post.Ask ask.Start (h 2 4)) None
    ∷ event.Stage (h 2 4) stage.Hardware None
    ∷ event.Start (p 0) callback.EvtDeviceD0Entry (h 2 4) None
    ∷ event.Did (p 0) (c call.WdfTimerCreate 1 (Class 0) (Val (Num 0)) (Val (Num 0))) (Obj (h 3 2))
    ∷ event.Did (p 0) (c call.SetContext 3 (Val (Obj (h 2 4))) (Val (Num 0)) (Val (Obj (h 3 2)))) (Stat status.Success)
    ∷ event.Did (p 0) (c call.WdfTimerStart 2 (Val (Obj (h 3 2))) (Val (Num 1)) (Val (Num 0))) (Num 0)
    ∷ event.Did (p 0) (c call.WdfTimerStart 2 (Val (Obj (h 3 2))) (Val (Num 1)) (Val (Num 0))) (Num 1)
    ∷ event.Spend (p 0) 3
    ∷ event.Tick 1
    ∷ event.Start (p 0) callback.EvtTimerFunc (h 3 2) None
    ∷ event.Log (p 0) (Num 1)
    ∷ event.Spend (p 0) 1
    ∷ event.Tick 2
    ∷ event.End (p 0) callback.EvtTimerFunc (h 3 2) (Stat status.Success)
    ∷ event.Tick 3
    ∷ event.Did (p 0) (c call.WdfWorkItemCreate 1 (Class 1) (Val (Num 0)) (Val (Num 0))) (Obj (h 4 3))
    ∷ event.Did (p 0) (c call.WdfWorkItemEnqueue 1 (Val (Obj (h 4 3))) (Val (Num 0)) (Val (Num 0))) (Stat status.Success)
    ∷ event.End (p 0) callback.EvtDeviceD0Entry (h 2 4) (Stat status.Success)
    ∷ event.Start (p 0) callback.EvtTimerFunc (h 3 2) None
    ∷ event.Log (p 0) (Num 1)
    ∷ event.Spend (p 0) 1
    ∷ event.Start (p 1) callback.EvtWorkItem (h 4 3) None
    ∷ event.Did (p 1) (c call.GetContext 2 (Val (Obj (h 2 4))) (Val (Num 0)) (Val (Num 0))) (Obj (h 3 2))
    ∷ event.Waiting (p 1) (c call.WdfTimerStop 2 (Val (Obj (h 3 2))) (Val (Num 1)) (Val (Num 0)))
    ∷ event.Park (p 1) (f 22)
    ∷ event.Stage (h 2 4) stage.QueuesUp None
    ∷ event.Stage (h 2 4) stage.Working None
    ∷ event.Tick 4
    ∷ event.End (p 0) callback.EvtTimerFunc (h 3 2) (Stat status.Success)
    ∷ event.Unpark (p 0) (f 22)
    ∷ event.Woke (p 0) (c call.WdfTimerStop 2 (Val (Obj (h 3 2))) (Val (Num 1)) (Val (Num 0))) (Num 1)
    ∷ event.Log (p 0) (Num 1)
    ∷ event.Did (p 0) (c call.WdfObjectDelete 1 (Val (Obj (h 3 2))) (Val (Num 0)) (Val (Num 0))) (Stat status.Success)
    ∷ event.End (p 0) callback.EvtWorkItem (h 4 3) (Stat status.Success)
    ∷ event.Cleanup (h 3 2)
    ∷ event.Destroy (h 3 2)
    ∷ []
