-- Worked runs of Plug and Play sequences: the plan of each, its events, and what it waits for where it is stuck. Made by
-- tools/scene_to_plan.py from the scenarios and traces of scenarios/stuck.
use Rattle.std.specs.Prelude.{List, [], ◌∷◌, Some, None, true, false, codes}
use Rattle.wdf_base.specs.declared.declared.Declared.TheVariants as declared
use Rattle.wdf_base.specs.declared.declared.ClassInfo.TheVariants as class
use Rattle.wdf_base.specs.declared.declared.DeferredKind.TheVariants as deferred
use Rattle.wdf_base.specs.declared.declared.Scope.TheVariants as scope
use Rattle.wdf_base.specs.declared.declared.ExecutionLevel.TheVariants as level
use Rattle.wdf_base.specs.declared.declared.DispatchKind.TheVariants as dispatch
use Rattle.wdf_base.specs.declared.event.Ask.TheVariants as ask
use Rattle.wdf_base.specs.declared.event.Post.TheVariants as post
use Rattle.wdf_base.specs.declared.event.Stage.TheVariants as stage
use Rattle.wdf_base.specs.declared.event.Event.{Event}
use Rattle.wdf_base.specs.declared.event.Event.TheVariants as event
use Rattle.wdf_base.specs.declared.script.ExprNode.TheVariants as node
use Rattle.wdf_base.specs.declared.script.ContextWord.TheVariants as context
use Rattle.wdf_base.specs.declared.script.ArgNode.TheVariants as arg
use Rattle.wdf_base.specs.declared.script.Act.TheVariants as act
use Rattle.wdf_base.specs.declared.call.Arg.TheVariants.{Val, Class}
use Rattle.wdf_base.specs.declared.call.CallKind.TheVariants as call
use Rattle.wdf_base.specs.declared.call.Callback.TheVariants as callback
use Rattle.wdf_base.specs.declared.value.Status.TheVariants as status
use Rattle.wdf_base.specs.declared.value.Value.TheVariants.{Num, Obj, Stat}
use Rattle.wdf_base.specs.declared.plan.Plan.{Plan}
use Rattle.wdf_base.specs.declared.event.Step.TheVariants as step
use Rattle.wdf_base.specs.declared.wait.OpenThing.TheVariants as thing
use Rattle.wdf_base.specs.declared.wait.Cause.TheVariants as cause
use Rattle.wdf_base.specs.declared.wait.WaitLine.{WaitLine}
use Rattle.law_machine_worked.specs.Writing.{h, p, f, c, at, s, line, a_plan, a_device, a_queue, serves, an_interrupt, an_agent, a_script}

abbrev pub callback_of_a_step_plan : Plan
callback_of_a_step_plan = record (a_plan 1 100 16) {
  names = (codes "driver") ∷ (codes "req") ∷ (codes "D") ∷ (codes "Q") ∷ (codes "A") ∷ [];
  declared = declared.Driver
      ∷ a_device 2 false scope.Unscoped level.Dispatch
      ∷ a_queue 3 2 dispatch.Sequential (serves true false false false) true false scope.Unscoped level.Dispatch
      ∷ [];
  pnp = (at 19 1 (post.Ask ask.Start (h 2 2))) ∷ (at 20 1 (post.Ask ask.Sleep (h 2 2))) ∷ [];
  agents = (an_agent 4 ((at 16 0 (post.Read (h 2 2) 1)) ∷ [])) ∷ (an_agent 2 []) ∷ [];
  exprs = (node.Context context.OwnRequest) ∷ (node.Literal status.Success) ∷ (node.Object (h 3 3)) ∷ [];
  scripts = a_script callback.EvtIoRead (a_queue 3 2 dispatch.Sequential (serves true false false false) true false scope.Unscoped level.Dispatch) 7 (s 8 1 (act.Call call.WdfRequestComplete None (arg.Expression 0) (arg.Expression 1) arg.NoArgument) ∷ [])
      ∷ a_script callback.EvtDeviceD0Entry (a_device 2 false scope.Unscoped level.Dispatch) 11 (s 12 1 (act.Call call.WdfIoQueueDrainSynchronously None (arg.Expression 2) arg.NoArgument arg.NoArgument) ∷ [])
      ∷ [];
}

abbrev pub callback_of_a_step_events : List Event
callback_of_a_step_events = event.Posted 1 (post.Read (h 2 2) 1) (Some (h 4 1))
    ∷ event.Tick 1
    ∷ event.Posted 0 (post.Ask ask.Start (h 2 2)) None
    ∷ event.Stage (h 2 2) stage.Hardware None
    ∷ event.Start (p 0) callback.EvtDeviceD0Entry (h 2 2) None
    ∷ event.Waiting (p 0) (c call.WdfIoQueueDrainSynchronously 1 (Val (Obj (h 3 3))) (Val (Num 0)) (Val (Num 0)))
    ∷ event.Park (p 0) (f 5)
    ∷ []

abbrev pub callback_of_a_step_waits : List WaitLine
callback_of_a_step_waits = (line (thing.Waiting (f 5) callback.EvtDeviceD0Entry (h 2 2)) (Some (cause.ByRequest (h 4 1)))) ∷ (line (thing.Queued (h 4 1) (h 3 3)) (Some (cause.Unpowered))) ∷ (line (thing.Sequence (h 2 2) (step.Run callback.EvtDeviceD0Entry None)) (Some (cause.ByFrame (f 5)))) ∷ (line (thing.Asking (h 2 2)) None) ∷ []

abbrev pub disabled_waits_for_a_frame_plan : Plan
disabled_waits_for_a_frame_plan = record (a_plan 1 100 16) {
  names = (codes "driver") ∷ (codes "req") ∷ (codes "D") ∷ (codes "M") ∷ (codes "Q") ∷ (codes "I") ∷ (codes "A") ∷ [];
  declared = declared.Driver
      ∷ a_device 2 false scope.Unscoped level.Passive
      ∷ a_queue 3 2 dispatch.Manual (serves false false true false) false false scope.Unscoped level.Passive
      ∷ a_queue 4 2 (dispatch.Parallel 2) (serves false true false false) false false scope.Unscoped level.Passive
      ∷ an_interrupt 5 2 0
      ∷ [];
  pnp = (at 30 0 (post.Ask ask.Start (h 2 2))) ∷ (at 31 1 (post.Ask ask.Sleep (h 2 2))) ∷ [];
  agents = (an_agent 6 ((at 25 0 (post.Write (h 2 2) 1)) ∷ (at 26 0 (post.Read (h 2 2) 1)) ∷ (at 27 0 (post.Read (h 2 2) 1)) ∷ [])) ∷ (an_agent 2 []) ∷ [];
  exprs = (node.Object (h 5 5)) ∷ (node.Object (h 3 3)) ∷ [];
  scripts = a_script callback.EvtIoRead (a_queue 4 2 (dispatch.Parallel 2) (serves false true false false) false false scope.Unscoped level.Passive) 14
      (s 15 1 (act.Call call.WdfInterruptAcquireLock None (arg.Expression 0) arg.NoArgument arg.NoArgument)
      ∷ s 16 2 (act.Call call.WdfIoQueueDrainSynchronously None (arg.Expression 1) arg.NoArgument arg.NoArgument) ∷ [])
      ∷ a_script callback.EvtInterruptIsr (an_interrupt 5 2 0) 20 []
      ∷ [];
}

abbrev pub disabled_waits_for_a_frame_events : List Event
disabled_waits_for_a_frame_events = event.Posted 0 (post.Ask ask.Start (h 2 2)) None
    ∷ event.Stage (h 2 2) stage.Hardware None
    ∷ event.Stage (h 2 2) stage.Enabled (Some (h 5 5))
    ∷ event.Stage (h 2 2) stage.QueuesUp None
    ∷ event.Stage (h 2 2) stage.Working None
    ∷ event.Posted 1 (post.Write (h 2 2) 1) (Some (h 6 1))
    ∷ event.Posted 1 (post.Read (h 2 2) 1) (Some (h 7 1))
    ∷ event.Start (p 0) callback.EvtIoRead (h 4 4) (Some (h 7 1))
    ∷ event.Did (p 0) (c call.WdfInterruptAcquireLock 1 (Val (Obj (h 5 5))) (Val (Num 0)) (Val (Num 0))) (Stat status.Success)
    ∷ event.Waiting (p 0) (c call.WdfIoQueueDrainSynchronously 1 (Val (Obj (h 3 3))) (Val (Num 0)) (Val (Num 0)))
    ∷ event.Park (p 0) (f 8)
    ∷ event.Posted 1 (post.Read (h 2 2) 1) (Some (h 8 1))
    ∷ event.Start (p 0) callback.EvtIoRead (h 4 4) (Some (h 8 1))
    ∷ event.Waiting (p 0) (c call.WdfInterruptAcquireLock 1 (Val (Obj (h 5 5))) (Val (Num 0)) (Val (Num 0)))
    ∷ event.Park (p 0) (f 13)
    ∷ event.Tick 1
    ∷ event.Posted 0 (post.Ask ask.Sleep (h 2 2)) None
    ∷ event.Stage (h 2 2) stage.QueuesDown None
    ∷ event.Stage (h 2 2) stage.Settled None
    ∷ []

abbrev pub disabled_waits_for_a_frame_waits : List WaitLine
disabled_waits_for_a_frame_waits = (line (thing.Waiting (f 8) callback.EvtIoRead (h 4 4)) (Some (cause.ByRequest (h 6 1)))) ∷ (line (thing.Waiting (f 13) callback.EvtIoRead (h 4 4)) (Some (cause.ByLock (h 5 5) (f 8)))) ∷ (line (thing.Queued (h 6 1) (h 3 3)) (Some (cause.Manual))) ∷ (line (thing.Owned (h 7 1)) None) ∷ (line (thing.Owned (h 8 1)) None) ∷ (line (thing.Sequence (h 2 2) (step.Pass stage.Disabled (Some (h 5 5)))) (Some (cause.ByFrame (f 8)))) ∷ []

abbrev pub enable_waits_for_a_frame_plan : Plan
enable_waits_for_a_frame_plan = record (a_plan 1 100 16) {
  names = (codes "driver") ∷ (codes "req") ∷ (codes "D") ∷ (codes "M") ∷ (codes "Q") ∷ (codes "I") ∷ (codes "A") ∷ [];
  declared = declared.Driver
      ∷ a_device 2 false scope.Unscoped level.Passive
      ∷ a_queue 3 2 dispatch.Manual (serves false false true false) false false scope.Unscoped level.Passive
      ∷ a_queue 4 2 dispatch.Sequential (serves false true false false) false false scope.Unscoped level.Passive
      ∷ an_interrupt 5 2 0
      ∷ [];
  pnp = (at 31 1 (post.Ask ask.Start (h 2 2))) ∷ [];
  agents = (an_agent 6 ((at 27 0 (post.Write (h 2 2) 1)) ∷ (at 28 0 (post.Read (h 2 2) 1)) ∷ [])) ∷ (an_agent 2 []) ∷ [];
  exprs = (node.Object (h 5 5)) ∷ (node.Object (h 3 3)) ∷ [];
  scripts = a_script callback.EvtIoRead (a_queue 4 2 dispatch.Sequential (serves false true false false) false false scope.Unscoped level.Passive) 14
      (s 15 1 (act.Call call.WdfInterruptAcquireLock None (arg.Expression 0) arg.NoArgument arg.NoArgument)
      ∷ s 16 2 (act.Call call.WdfIoQueueDrainSynchronously None (arg.Expression 1) arg.NoArgument arg.NoArgument) ∷ [])
      ∷ a_script callback.EvtInterruptIsr (an_interrupt 5 2 0) 20 []
      ∷ a_script callback.EvtInterruptEnable (an_interrupt 5 2 0) 22 []
      ∷ [];
}

abbrev pub enable_waits_for_a_frame_events : List Event
enable_waits_for_a_frame_events = event.Posted 1 (post.Write (h 2 2) 1) (Some (h 6 1))
    ∷ event.Posted 1 (post.Read (h 2 2) 1) (Some (h 7 1))
    ∷ event.Start (p 0) callback.EvtIoRead (h 4 4) (Some (h 7 1))
    ∷ event.Did (p 0) (c call.WdfInterruptAcquireLock 1 (Val (Obj (h 5 5))) (Val (Num 0)) (Val (Num 0))) (Stat status.Success)
    ∷ event.Waiting (p 0) (c call.WdfIoQueueDrainSynchronously 1 (Val (Obj (h 3 3))) (Val (Num 0)) (Val (Num 0)))
    ∷ event.Park (p 0) (f 3)
    ∷ event.Tick 1
    ∷ event.Posted 0 (post.Ask ask.Start (h 2 2)) None
    ∷ event.Stage (h 2 2) stage.Hardware None
    ∷ []

abbrev pub enable_waits_for_a_frame_waits : List WaitLine
enable_waits_for_a_frame_waits = (line (thing.Waiting (f 3) callback.EvtIoRead (h 4 4)) (Some (cause.ByRequest (h 6 1)))) ∷ (line (thing.Queued (h 6 1) (h 3 3)) (Some (cause.Manual))) ∷ (line (thing.Owned (h 7 1)) None) ∷ (line (thing.Sequence (h 2 2) (step.Run callback.EvtInterruptEnable (Some (h 5 5)))) (Some (cause.ByFrame (f 3)))) ∷ []

abbrev pub flush_of_what_is_kept_plan : Plan
flush_of_what_is_kept_plan = record (a_plan 1 100 16) {
  names = (codes "driver") ∷ (codes "req") ∷ (codes "W") ∷ (codes "D") ∷ (codes "M") ∷ (codes "Q") ∷ (codes "F") ∷ (codes "A") ∷ [];
  declared = declared.Driver
      ∷ a_device 3 true scope.PerDevice level.Passive
      ∷ a_queue 4 2 dispatch.Manual (serves false false false true) true false scope.Unscoped level.Passive
      ∷ a_queue 5 2 dispatch.Sequential (serves false true false false) true false scope.PerDevice level.Passive
      ∷ a_queue 6 2 dispatch.Sequential (serves false false true false) true false scope.Unscoped level.Passive
      ∷ [];
  classes = (class.Deferred 2 deferred.WorkItem (record { 0 = 2 }) true 0) ∷ [];
  agents = (an_agent 7 ((at 33 0 (post.Control (h 2 3) 1 0)) ∷ (at 34 0 (post.Read (h 2 3) 1)) ∷ (at 35 0 (post.Write (h 2 3) 1)) ∷ [])) ∷ (an_agent 3 []) ∷ [];
  exprs = (node.Object (h 3 4)) ∷ (node.Variable 0) ∷ (node.Variable 0) ∷ [];
  scripts = a_script callback.EvtWorkItem (declared.OfClass 0) 6 []
      ∷ a_script callback.EvtIoRead (a_queue 5 2 dispatch.Sequential (serves false true false false) true false scope.PerDevice level.Passive) 18 (s 19 1 (act.Call call.WdfIoQueueDrainSynchronously None (arg.Expression 0) arg.NoArgument arg.NoArgument) ∷ [])
      ∷ a_script callback.EvtIoWrite (a_queue 6 2 dispatch.Sequential (serves false false true false) true false scope.Unscoped level.Passive) 25
      (s 26 1 (act.Call call.WdfWorkItemCreate (Some 0) (arg.OfClass 0) arg.NoArgument arg.NoArgument)
      ∷ s 27 2 (act.Call call.WdfWorkItemEnqueue None (arg.Expression 1) arg.NoArgument arg.NoArgument)
      ∷ s 28 3 (act.Call call.WdfWorkItemFlush None (arg.Expression 2) arg.NoArgument arg.NoArgument) ∷ [])
      ∷ [];
}

abbrev pub flush_of_what_is_kept_events : List Event
flush_of_what_is_kept_events = event.Posted 1 (post.Control (h 2 3) 1 0) (Some (h 6 1))
    ∷ event.Posted 1 (post.Read (h 2 3) 1) (Some (h 7 1))
    ∷ event.Start (p 0) callback.EvtIoRead (h 4 5) (Some (h 7 1))
    ∷ event.Waiting (p 0) (c call.WdfIoQueueDrainSynchronously 1 (Val (Obj (h 3 4))) (Val (Num 0)) (Val (Num 0)))
    ∷ event.Park (p 0) (f 3)
    ∷ event.Posted 1 (post.Write (h 2 3) 1) (Some (h 8 1))
    ∷ event.Start (p 0) callback.EvtIoWrite (h 5 6) (Some (h 8 1))
    ∷ event.Did (p 0) (c call.WdfWorkItemCreate 1 (Class 0) (Val (Num 0)) (Val (Num 0))) (Obj (h 9 2))
    ∷ event.Did (p 0) (c call.WdfWorkItemEnqueue 1 (Val (Obj (h 9 2))) (Val (Num 0)) (Val (Num 0))) (Stat status.Success)
    ∷ event.Waiting (p 0) (c call.WdfWorkItemFlush 1 (Val (Obj (h 9 2))) (Val (Num 0)) (Val (Num 0)))
    ∷ event.Park (p 0) (f 7)
    ∷ []

abbrev pub flush_of_what_is_kept_waits : List WaitLine
flush_of_what_is_kept_waits = (line (thing.Waiting (f 3) callback.EvtIoRead (h 4 5)) (Some (cause.ByRequest (h 6 1)))) ∷ (line (thing.Waiting (f 7) callback.EvtIoWrite (h 5 6)) (Some (cause.ByWork (h 9 2)))) ∷ (line (thing.Queued (h 6 1) (h 3 4)) (Some (cause.Manual))) ∷ (line (thing.Owned (h 7 1)) None) ∷ (line (thing.Owned (h 8 1)) None) ∷ (line (thing.Deferred (h 9 2)) (Some (cause.ScopeHeld))) ∷ []

abbrev pub flush_of_what_runs_plan : Plan
flush_of_what_runs_plan = record (a_plan 1 100 16) {
  names = (codes "driver") ∷ (codes "req") ∷ (codes "W") ∷ (codes "D") ∷ (codes "M") ∷ (codes "Q") ∷ (codes "A") ∷ [];
  declared = declared.Driver
      ∷ a_device 3 true scope.Unscoped level.Passive
      ∷ a_queue 4 2 dispatch.Manual (serves false false true false) true false scope.Unscoped level.Passive
      ∷ a_queue 5 2 dispatch.Sequential (serves false true false false) true false scope.Unscoped level.Passive
      ∷ [];
  classes = (class.Deferred 2 deferred.WorkItem (record { 0 = 2 }) false 0) ∷ [];
  agents = (an_agent 6 ((at 24 0 (post.Write (h 2 3) 1)) ∷ (at 25 0 (post.Read (h 2 3) 1)) ∷ [])) ∷ (an_agent 3 []) ∷ [];
  exprs = (node.Object (h 3 4)) ∷ (node.Variable 0) ∷ (node.Variable 0) ∷ [];
  scripts = a_script callback.EvtWorkItem (declared.OfClass 0) 5 (s 6 1 (act.Call call.WdfIoQueueDrainSynchronously None (arg.Expression 0) arg.NoArgument arg.NoArgument) ∷ [])
      ∷ a_script callback.EvtIoRead (a_queue 5 2 dispatch.Sequential (serves false true false false) true false scope.Unscoped level.Passive) 16
      (s 17 1 (act.Call call.WdfWorkItemCreate (Some 0) (arg.OfClass 0) arg.NoArgument arg.NoArgument)
      ∷ s 18 2 (act.Call call.WdfWorkItemEnqueue None (arg.Expression 1) arg.NoArgument arg.NoArgument)
      ∷ s 19 3 (act.Call call.WdfWorkItemFlush None (arg.Expression 2) arg.NoArgument arg.NoArgument) ∷ [])
      ∷ [];
}

abbrev pub flush_of_what_runs_events : List Event
flush_of_what_runs_events = event.Posted 1 (post.Write (h 2 3) 1) (Some (h 5 1))
    ∷ event.Posted 1 (post.Read (h 2 3) 1) (Some (h 6 1))
    ∷ event.Start (p 0) callback.EvtIoRead (h 4 5) (Some (h 6 1))
    ∷ event.Did (p 0) (c call.WdfWorkItemCreate 1 (Class 0) (Val (Num 0)) (Val (Num 0))) (Obj (h 7 2))
    ∷ event.Did (p 0) (c call.WdfWorkItemEnqueue 1 (Val (Obj (h 7 2))) (Val (Num 0)) (Val (Num 0))) (Stat status.Success)
    ∷ event.Waiting (p 0) (c call.WdfWorkItemFlush 1 (Val (Obj (h 7 2))) (Val (Num 0)) (Val (Num 0)))
    ∷ event.Park (p 0) (f 3)
    ∷ event.Start (p 0) callback.EvtWorkItem (h 7 2) None
    ∷ event.Waiting (p 0) (c call.WdfIoQueueDrainSynchronously 1 (Val (Obj (h 3 4))) (Val (Num 0)) (Val (Num 0)))
    ∷ event.Park (p 0) (f 8)
    ∷ []

abbrev pub flush_of_what_runs_waits : List WaitLine
flush_of_what_runs_waits = (line (thing.Waiting (f 3) callback.EvtIoRead (h 4 5)) (Some (cause.ByFrame (f 8)))) ∷ (line (thing.Waiting (f 8) callback.EvtWorkItem (h 7 2)) (Some (cause.ByRequest (h 5 1)))) ∷ (line (thing.Queued (h 5 1) (h 3 4)) (Some (cause.Manual))) ∷ (line (thing.Owned (h 6 1)) None) ∷ []

abbrev pub quiet_waits_for_a_frame_plan : Plan
quiet_waits_for_a_frame_plan = record (a_plan 1 100 16) {
  names = (codes "driver") ∷ (codes "req") ∷ (codes "Call") ∷ (codes "Clock") ∷ (codes "D") ∷ (codes "M") ∷ (codes "Q") ∷ (codes "W") ∷ (codes "I") ∷ (codes "A") ∷ [];
  declared = declared.Driver
      ∷ a_device 4 false scope.PerDevice level.Dispatch
      ∷ a_queue 5 2 dispatch.Manual (serves false false false true) false false scope.Unscoped level.Dispatch
      ∷ a_queue 6 2 dispatch.Sequential (serves false true false false) false false scope.PerDevice level.Passive
      ∷ a_queue 7 2 dispatch.Sequential (serves false false true false) false false scope.PerDevice level.Dispatch
      ∷ an_interrupt 8 2 5
      ∷ [];
  classes = (class.Deferred 2 deferred.Dpc (record { 0 = 2 }) true 0) ∷ (class.Deferred 3 deferred.Timer (record { 0 = 2 }) true 0) ∷ [];
  pnp = (at 53 0 (post.Ask ask.Start (h 2 4))) ∷ (at 54 1 (post.Ask ask.Sleep (h 2 4))) ∷ [];
  agents = (an_agent 9 ((at 48 0 (post.Control (h 2 4) 1 0)) ∷ (at 49 0 (post.Read (h 2 4) 1)) ∷ (at 50 1 (post.Write (h 2 4) 1)) ∷ [])) ∷ (an_agent 4 []) ∷ [];
  exprs = (node.Variable 0) ∷ (node.Object (h 6 8)) ∷ (node.Variable 1) ∷ (node.Number 1) ∷ (node.Object (h 3 5)) ∷ [];
  scripts = a_script callback.EvtDpcFunc (declared.OfClass 0) 6 []
      ∷ a_script callback.EvtTimerFunc (declared.OfClass 1) 11 []
      ∷ a_script callback.EvtIoRead (a_queue 6 2 dispatch.Sequential (serves false true false false) false false scope.PerDevice level.Passive) 25
      (s 26 1 (act.Call call.WdfDpcCreate (Some 0) (arg.OfClass 0) arg.NoArgument arg.NoArgument)
      ∷ s 27 2 (act.Call call.WdfDpcEnqueue None (arg.Expression 0) arg.NoArgument arg.NoArgument)
      ∷ s 28 3 (act.Call call.WdfInterruptQueueDpcForIsr None (arg.Expression 1) arg.NoArgument arg.NoArgument)
      ∷ s 29 4 (act.Call call.WdfTimerCreate (Some 1) (arg.OfClass 1) arg.NoArgument arg.NoArgument)
      ∷ s 30 5 (act.Call call.WdfTimerStart None (arg.Expression 2) (arg.Expression 3) arg.NoArgument)
      ∷ s 31 6 (act.Call call.WdfIoQueueDrainSynchronously None (arg.Expression 4) arg.NoArgument arg.NoArgument) ∷ [])
      ∷ a_script callback.EvtIoWrite (a_queue 7 2 dispatch.Sequential (serves false false true false) false false scope.PerDevice level.Dispatch) 37 []
      ∷ a_script callback.EvtInterruptIsr (an_interrupt 8 2 5) 41 []
      ∷ a_script callback.EvtInterruptDpc (an_interrupt 8 2 5) 43 []
      ∷ [];
}

abbrev pub quiet_waits_for_a_frame_events : List Event
quiet_waits_for_a_frame_events = event.Posted 0 (post.Ask ask.Start (h 2 4)) None
    ∷ event.Stage (h 2 4) stage.Hardware None
    ∷ event.Stage (h 2 4) stage.Enabled (Some (h 6 8))
    ∷ event.Stage (h 2 4) stage.QueuesUp None
    ∷ event.Stage (h 2 4) stage.Working None
    ∷ event.Posted 1 (post.Control (h 2 4) 1 0) (Some (h 7 1))
    ∷ event.Posted 1 (post.Read (h 2 4) 1) (Some (h 8 1))
    ∷ event.Start (p 0) callback.EvtIoRead (h 4 6) (Some (h 8 1))
    ∷ event.Did (p 0) (c call.WdfDpcCreate 1 (Class 0) (Val (Num 0)) (Val (Num 0))) (Obj (h 9 2))
    ∷ event.Did (p 0) (c call.WdfDpcEnqueue 1 (Val (Obj (h 9 2))) (Val (Num 0)) (Val (Num 0))) (Num 1)
    ∷ event.Did (p 0) (c call.WdfInterruptQueueDpcForIsr 1 (Val (Obj (h 6 8))) (Val (Num 0)) (Val (Num 0))) (Num 1)
    ∷ event.Did (p 0) (c call.WdfTimerCreate 1 (Class 1) (Val (Num 0)) (Val (Num 0))) (Obj (h 10 3))
    ∷ event.Did (p 0) (c call.WdfTimerStart 2 (Val (Obj (h 10 3))) (Val (Num 1)) (Val (Num 0))) (Num 0)
    ∷ event.Waiting (p 0) (c call.WdfIoQueueDrainSynchronously 1 (Val (Obj (h 3 5))) (Val (Num 0)) (Val (Num 0)))
    ∷ event.Park (p 0) (f 8)
    ∷ event.Tick 1
    ∷ event.Posted 0 (post.Ask ask.Sleep (h 2 4)) None
    ∷ event.Stage (h 2 4) stage.QueuesDown None
    ∷ event.Stage (h 2 4) stage.Settled None
    ∷ event.Stage (h 2 4) stage.Disabled (Some (h 6 8))
    ∷ event.Posted 1 (post.Write (h 2 4) 1) (Some (h 11 1))
    ∷ []

abbrev pub quiet_waits_for_a_frame_waits : List WaitLine
quiet_waits_for_a_frame_waits = (line (thing.Waiting (f 8) callback.EvtIoRead (h 4 6)) (Some (cause.ByRequest (h 7 1)))) ∷ (line (thing.Queued (h 7 1) (h 3 5)) (Some (cause.Manual))) ∷ (line (thing.Owned (h 8 1)) None) ∷ (line (thing.Queued (h 11 1) (h 5 7)) (Some (cause.ScopeHeld))) ∷ (line (thing.Sequence (h 2 4) (step.Pass stage.Quiet None)) (Some (cause.ByFrame (f 8)))) ∷ (line (thing.Deferred (h 6 8)) (Some (cause.ScopeHeld))) ∷ (line (thing.Deferred (h 9 2)) (Some (cause.ScopeHeld))) ∷ (line (thing.Deferred (h 10 3)) (Some (cause.ScopeHeld))) ∷ []

abbrev pub removed_waits_for_a_request_plan : Plan
removed_waits_for_a_request_plan = record (a_plan 1 100 16) {
  names = (codes "driver") ∷ (codes "req") ∷ (codes "D") ∷ (codes "Q") ∷ (codes "A") ∷ [];
  declared = declared.Driver
      ∷ a_device 2 false scope.Unscoped level.Dispatch
      ∷ a_queue 3 2 dispatch.Sequential (serves true false false false) false false scope.Unscoped level.Dispatch
      ∷ [];
  pnp = (at 16 1 (post.Ask ask.Remove (h 2 2))) ∷ [];
  agents = (an_agent 4 ((at 13 0 (post.Read (h 2 2) 1)) ∷ [])) ∷ (an_agent 2 []) ∷ [];
  scripts = a_script callback.EvtIoRead (a_queue 3 2 dispatch.Sequential (serves true false false false) false false scope.Unscoped level.Dispatch) 8 []
      ∷ [];
}

abbrev pub removed_waits_for_a_request_events : List Event
removed_waits_for_a_request_events = event.Posted 1 (post.Read (h 2 2) 1) (Some (h 4 1))
    ∷ event.Start (p 0) callback.EvtIoRead (h 3 3) (Some (h 4 1))
    ∷ event.End (p 0) callback.EvtIoRead (h 3 3) (Stat status.Success)
    ∷ event.Tick 1
    ∷ event.Posted 0 (post.Ask ask.Remove (h 2 2)) None
    ∷ event.Stage (h 2 2) stage.Closed None
    ∷ []

abbrev pub removed_waits_for_a_request_waits : List WaitLine
removed_waits_for_a_request_waits = (line (thing.Owned (h 4 1)) None) ∷ (line (thing.Sequence (h 2 2) (step.Pass stage.Removed None)) (Some (cause.ByRequest (h 4 1)))) ∷ []

abbrev pub resume_never_ends_plan : Plan
resume_never_ends_plan = record (a_plan 1 100 16) {
  names = (codes "driver") ∷ (codes "req") ∷ (codes "D") ∷ (codes "M") ∷ (codes "Q") ∷ (codes "A") ∷ [];
  declared = declared.Driver
      ∷ a_device 2 true scope.Unscoped level.Passive
      ∷ a_queue 3 2 dispatch.Manual (serves false false true false) false false scope.Unscoped level.Passive
      ∷ a_queue 4 2 dispatch.Sequential (serves false true false false) true false scope.Unscoped level.Passive
      ∷ [];
  pnp = (at 27 1 (post.Ask ask.Sleep (h 2 2))) ∷ (at 28 2 (post.Ask ask.Wake (h 2 2))) ∷ [];
  agents = (an_agent 5 ((at 23 0 (post.Write (h 2 2) 1)) ∷ (at 24 0 (post.Read (h 2 2) 1)) ∷ [])) ∷ (an_agent 2 []) ∷ [];
  exprs = (node.Context context.OwnRequest) ∷ (node.Number 0) ∷ (node.Object (h 3 3)) ∷ [];
  scripts = a_script callback.EvtIoRead (a_queue 4 2 dispatch.Sequential (serves false true false false) true false scope.Unscoped level.Passive) 12 []
      ∷ a_script callback.EvtIoStop (a_queue 4 2 dispatch.Sequential (serves false true false false) true false scope.Unscoped level.Passive) 14 (s 15 1 (act.Call call.WdfRequestStopAcknowledge None (arg.Expression 0) (arg.Expression 1) arg.NoArgument) ∷ [])
      ∷ a_script callback.EvtIoResume (a_queue 4 2 dispatch.Sequential (serves false true false false) true false scope.Unscoped level.Passive) 17 (s 18 1 (act.Call call.WdfIoQueueDrainSynchronously None (arg.Expression 2) arg.NoArgument arg.NoArgument) ∷ [])
      ∷ [];
}

abbrev pub resume_never_ends_events : List Event
resume_never_ends_events = event.Posted 1 (post.Write (h 2 2) 1) (Some (h 5 1))
    ∷ event.Posted 1 (post.Read (h 2 2) 1) (Some (h 6 1))
    ∷ event.Start (p 0) callback.EvtIoRead (h 4 4) (Some (h 6 1))
    ∷ event.End (p 0) callback.EvtIoRead (h 4 4) (Stat status.Success)
    ∷ event.Tick 1
    ∷ event.Posted 0 (post.Ask ask.Sleep (h 2 2)) None
    ∷ event.Stage (h 2 2) stage.QueuesDown None
    ∷ event.Start (p 0) callback.EvtIoStop (h 4 4) (Some (h 6 1))
    ∷ event.Did (p 0) (c call.WdfRequestStopAcknowledge 2 (Val (Obj (h 6 1))) (Val (Num 0)) (Val (Num 0))) (Stat status.Success)
    ∷ event.End (p 0) callback.EvtIoStop (h 4 4) (Stat status.Success)
    ∷ event.Stage (h 2 2) stage.Settled None
    ∷ event.Stage (h 2 2) stage.Sleeping None
    ∷ event.Tick 2
    ∷ event.Posted 0 (post.Ask ask.Wake (h 2 2)) None
    ∷ event.Stage (h 2 2) stage.QueuesUp None
    ∷ event.Start (p 0) callback.EvtIoResume (h 4 4) (Some (h 6 1))
    ∷ event.Waiting (p 0) (c call.WdfIoQueueDrainSynchronously 1 (Val (Obj (h 3 3))) (Val (Num 0)) (Val (Num 0)))
    ∷ event.Park (p 0) (f 16)
    ∷ []

abbrev pub resume_never_ends_waits : List WaitLine
resume_never_ends_waits = (line (thing.Waiting (f 16) callback.EvtIoResume (h 4 4)) (Some (cause.ByRequest (h 5 1)))) ∷ (line (thing.Queued (h 5 1) (h 3 3)) (Some (cause.Manual))) ∷ (line (thing.Owned (h 6 1)) None) ∷ (line (thing.Sequence (h 2 2) (step.Pass stage.Working None)) (Some (cause.ByFrame (f 16)))) ∷ []

abbrev pub settled_waits_for_a_frame_plan : Plan
settled_waits_for_a_frame_plan = record (a_plan 1 100 16) {
  names = (codes "driver") ∷ (codes "req") ∷ (codes "D") ∷ (codes "M") ∷ (codes "Q") ∷ (codes "A") ∷ [];
  declared = declared.Driver
      ∷ a_device 2 true scope.Unscoped level.Passive
      ∷ a_queue 3 2 dispatch.Manual (serves false false true false) true false scope.Unscoped level.Passive
      ∷ a_queue 4 2 dispatch.Sequential (serves false true false false) true false scope.Unscoped level.Passive
      ∷ [];
  pnp = (at 22 1 (post.Ask ask.Sleep (h 2 2))) ∷ [];
  agents = (an_agent 5 ((at 18 0 (post.Write (h 2 2) 1)) ∷ (at 19 0 (post.Read (h 2 2) 1)) ∷ [])) ∷ (an_agent 2 []) ∷ [];
  exprs = (node.Context context.OwnRequest) ∷ (node.Literal status.Success) ∷ (node.Object (h 3 3)) ∷ [];
  scripts = a_script callback.EvtIoRead (a_queue 4 2 dispatch.Sequential (serves false true false false) true false scope.Unscoped level.Passive) 11
      (s 12 1 (act.Call call.WdfRequestComplete None (arg.Expression 0) (arg.Expression 1) arg.NoArgument)
      ∷ s 13 2 (act.Call call.WdfIoQueueDrainSynchronously None (arg.Expression 2) arg.NoArgument arg.NoArgument) ∷ [])
      ∷ [];
}

abbrev pub settled_waits_for_a_frame_events : List Event
settled_waits_for_a_frame_events = event.Posted 1 (post.Write (h 2 2) 1) (Some (h 5 1))
    ∷ event.Posted 1 (post.Read (h 2 2) 1) (Some (h 6 1))
    ∷ event.Start (p 0) callback.EvtIoRead (h 4 4) (Some (h 6 1))
    ∷ event.Did (p 0) (c call.WdfRequestComplete 2 (Val (Obj (h 6 1))) (Val (Stat status.Success)) (Val (Num 0))) (Stat status.Success)
    ∷ event.Waiting (p 0) (c call.WdfIoQueueDrainSynchronously 1 (Val (Obj (h 3 3))) (Val (Num 0)) (Val (Num 0)))
    ∷ event.Park (p 0) (f 3)
    ∷ event.Cleanup (h 6 1)
    ∷ event.Destroy (h 6 1)
    ∷ event.Tick 1
    ∷ event.Posted 0 (post.Ask ask.Sleep (h 2 2)) None
    ∷ event.Stage (h 2 2) stage.QueuesDown None
    ∷ []

abbrev pub settled_waits_for_a_frame_waits : List WaitLine
settled_waits_for_a_frame_waits = (line (thing.Waiting (f 3) callback.EvtIoRead (h 4 4)) (Some (cause.ByRequest (h 5 1)))) ∷ (line (thing.Queued (h 5 1) (h 3 3)) (Some (cause.Unpowered))) ∷ (line (thing.Sequence (h 2 2) (step.Pass stage.Settled None)) (Some (cause.ByFrame (f 3)))) ∷ []
