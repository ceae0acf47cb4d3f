-- Worked runs: the plan of each, its events, and what it waits for where it is stuck. Made by
-- tools/scene_to_plan.py from the scenarios and traces of tools/idle.
use Rattle.std.specs.Prelude.{List, [], ◌∷◌, Some, None, true, false, codes}
use Rattle.wdf_base.specs.declared.declared.Declared.TheVariants as declared
use Rattle.wdf_base.specs.declared.declared.Scope.TheVariants as scope
use Rattle.wdf_base.specs.declared.declared.ExecutionLevel.TheVariants as level
use Rattle.wdf_base.specs.declared.declared.DispatchKind.TheVariants as dispatch
use Rattle.wdf_base.specs.declared.event.Access.TheVariants as access
use Rattle.wdf_base.specs.declared.event.Action.TheVariants as action
use Rattle.wdf_base.specs.declared.event.Ask.TheVariants as ask
use Rattle.wdf_base.specs.declared.event.Post.TheVariants as post
use Rattle.wdf_base.specs.declared.event.Stage.TheVariants as stage
use Rattle.wdf_base.specs.declared.event.Event.{Event}
use Rattle.wdf_base.specs.declared.event.Event.TheVariants as event
use Rattle.wdf_base.specs.declared.script.ExprNode.TheVariants as node
use Rattle.wdf_base.specs.declared.script.ContextWord.TheVariants as context
use Rattle.wdf_base.specs.declared.script.ArgNode.TheVariants as arg
use Rattle.wdf_base.specs.declared.script.Act.TheVariants as act
use Rattle.wdf_base.specs.declared.call.Arg.TheVariants.{Val}
use Rattle.wdf_base.specs.declared.call.CallKind.TheVariants as call
use Rattle.wdf_base.specs.declared.call.Callback.TheVariants as callback
use Rattle.wdf_base.specs.declared.value.Status.TheVariants as status
use Rattle.wdf_base.specs.declared.value.Value.TheVariants.{Num, Obj, Stat}
use Rattle.wdf_base.specs.declared.plan.Plan.{Plan}
use Rattle.law_machine_worked.specs.Writing.{h, p, c, at, s, a_plan, a_device, a_queue, serves, an_agent, a_script}

abbrev pub arrival_after_sleep_plan : Plan
arrival_after_sleep_plan = record (a_plan 1 100 16) {
  names = (codes "driver") ∷ (codes "req") ∷ (codes "D") ∷ (codes "IDLE_TIMEOUT") ∷ (codes "Q") ∷ (codes "A") ∷ [];
  declared = declared.Driver
      ∷ a_device 2 true scope.Unscoped level.Dispatch
      ∷ a_queue 4 2 dispatch.Sequential (serves true false false false) true false scope.Unscoped level.Dispatch
      ∷ [];
  registers = (record { name = 3; device = record { 0 = 2 }; value = 2 }) ∷ [];
  agents = (an_agent 5 ((at 14 2 (post.Read (h 2 2) 16)) ∷ [])) ∷ (an_agent 2 []) ∷ [];
  exprs = (node.Context context.OwnRequest) ∷ (node.Literal status.Success) ∷ [];
  scripts = a_script callback.EvtIoRead (a_queue 4 2 dispatch.Sequential (serves true false false false) true false scope.Unscoped level.Dispatch) 8 (s 9 1 (act.Call call.WdfRequestComplete None (arg.Expression 0) (arg.Expression 1) arg.NoArgument) ∷ [])
      ∷ [];
}

abbrev pub arrival_after_sleep_events : List Event
arrival_after_sleep_events = event.Tick 1
    ∷ event.Tick 2
    ∷ event.Posted 0 (post.Ask ask.Sleep (h 2 2)) None
    ∷ event.Stage (h 2 2) stage.QueuesDown None
    ∷ event.Stage (h 2 2) stage.Settled None
    ∷ event.Stage (h 2 2) stage.Sleeping None
    ∷ event.Posted 1 (post.Read (h 2 2) 16) (Some (h 4 1))
    ∷ event.Posted 0 (post.Ask ask.Wake (h 2 2)) None
    ∷ event.Stage (h 2 2) stage.QueuesUp None
    ∷ event.Start (p 0) callback.EvtIoRead (h 3 4) (Some (h 4 1))
    ∷ event.Did (p 0) (c call.WdfRequestComplete 2 (Val (Obj (h 4 1))) (Val (Stat status.Success)) (Val (Num 0))) (Stat status.Success)
    ∷ event.End (p 0) callback.EvtIoRead (h 3 4) (Stat status.Success)
    ∷ event.Stage (h 2 2) stage.Working None
    ∷ event.Cleanup (h 4 1)
    ∷ event.Destroy (h 4 1)
    ∷ event.Tick 3
    ∷ event.Tick 4
    ∷ event.Posted 0 (post.Ask ask.Sleep (h 2 2)) None
    ∷ event.Stage (h 2 2) stage.QueuesDown None
    ∷ event.Stage (h 2 2) stage.Settled None
    ∷ event.Stage (h 2 2) stage.Sleeping None
    ∷ []

abbrev pub arrival_before_sleep_plan : Plan
arrival_before_sleep_plan = record (a_plan 1 100 16) {
  names = (codes "driver") ∷ (codes "req") ∷ (codes "D") ∷ (codes "IDLE_TIMEOUT") ∷ (codes "Q") ∷ (codes "A") ∷ [];
  declared = declared.Driver
      ∷ a_device 2 true scope.Unscoped level.Dispatch
      ∷ a_queue 4 2 dispatch.Sequential (serves true false false false) true false scope.Unscoped level.Dispatch
      ∷ [];
  registers = (record { name = 3; device = record { 0 = 2 }; value = 2 }) ∷ [];
  agents = (an_agent 5 ((at 14 2 (post.Read (h 2 2) 16)) ∷ [])) ∷ (an_agent 2 []) ∷ [];
  exprs = (node.Context context.OwnRequest) ∷ (node.Literal status.Success) ∷ [];
  scripts = a_script callback.EvtIoRead (a_queue 4 2 dispatch.Sequential (serves true false false false) true false scope.Unscoped level.Dispatch) 8 (s 9 1 (act.Call call.WdfRequestComplete None (arg.Expression 0) (arg.Expression 1) arg.NoArgument) ∷ [])
      ∷ [];
  picks = (0) ∷ (0) ∷ (1) ∷ [];
}

abbrev pub arrival_before_sleep_events : List Event
arrival_before_sleep_events = event.Tick 1
    ∷ event.Tick 2
    ∷ event.Posted 1 (post.Read (h 2 2) 16) (Some (h 4 1))
    ∷ event.Start (p 0) callback.EvtIoRead (h 3 4) (Some (h 4 1))
    ∷ event.Did (p 0) (c call.WdfRequestComplete 2 (Val (Obj (h 4 1))) (Val (Stat status.Success)) (Val (Num 0))) (Stat status.Success)
    ∷ event.End (p 0) callback.EvtIoRead (h 3 4) (Stat status.Success)
    ∷ event.Cleanup (h 4 1)
    ∷ event.Destroy (h 4 1)
    ∷ event.Tick 3
    ∷ event.Tick 4
    ∷ event.Posted 0 (post.Ask ask.Sleep (h 2 2)) None
    ∷ event.Stage (h 2 2) stage.QueuesDown None
    ∷ event.Stage (h 2 2) stage.Settled None
    ∷ event.Stage (h 2 2) stage.Sleeping None
    ∷ []

abbrev pub arrival_within_sleep_plan : Plan
arrival_within_sleep_plan = record (a_plan 1 100 16) {
  names = (codes "driver") ∷ (codes "req") ∷ (codes "D") ∷ (codes "IDLE_TIMEOUT") ∷ (codes "Q") ∷ (codes "A") ∷ [];
  declared = declared.Driver
      ∷ a_device 2 true scope.Unscoped level.Dispatch
      ∷ a_queue 4 2 dispatch.Sequential (serves true false false false) true false scope.Unscoped level.Dispatch
      ∷ [];
  registers = (record { name = 3; device = record { 0 = 2 }; value = 2 }) ∷ [];
  agents = (an_agent 5 ((at 14 2 (post.Read (h 2 2) 16)) ∷ [])) ∷ (an_agent 2 []) ∷ [];
  exprs = (node.Context context.OwnRequest) ∷ (node.Literal status.Success) ∷ [];
  scripts = a_script callback.EvtIoRead (a_queue 4 2 dispatch.Sequential (serves true false false false) true false scope.Unscoped level.Dispatch) 8 (s 9 1 (act.Call call.WdfRequestComplete None (arg.Expression 0) (arg.Expression 1) arg.NoArgument) ∷ [])
      ∷ [];
  picks = (0) ∷ (0) ∷ (0) ∷ (1) ∷ (1) ∷ [];
}

abbrev pub arrival_within_sleep_events : List Event
arrival_within_sleep_events = event.Tick 1
    ∷ event.Tick 2
    ∷ event.Posted 0 (post.Ask ask.Sleep (h 2 2)) None
    ∷ event.Posted 1 (post.Read (h 2 2) 16) (Some (h 4 1))
    ∷ event.Stage (h 2 2) stage.QueuesDown None
    ∷ event.Stage (h 2 2) stage.Settled None
    ∷ event.Stage (h 2 2) stage.Sleeping None
    ∷ event.Posted 0 (post.Ask ask.Wake (h 2 2)) None
    ∷ event.Stage (h 2 2) stage.QueuesUp None
    ∷ event.Start (p 0) callback.EvtIoRead (h 3 4) (Some (h 4 1))
    ∷ event.Did (p 0) (c call.WdfRequestComplete 2 (Val (Obj (h 4 1))) (Val (Stat status.Success)) (Val (Num 0))) (Stat status.Success)
    ∷ event.End (p 0) callback.EvtIoRead (h 3 4) (Stat status.Success)
    ∷ event.Stage (h 2 2) stage.Working None
    ∷ event.Cleanup (h 4 1)
    ∷ event.Destroy (h 4 1)
    ∷ event.Tick 3
    ∷ event.Tick 4
    ∷ event.Posted 0 (post.Ask ask.Sleep (h 2 2)) None
    ∷ event.Stage (h 2 2) stage.QueuesDown None
    ∷ event.Stage (h 2 2) stage.Settled None
    ∷ event.Stage (h 2 2) stage.Sleeping None
    ∷ []

abbrev pub cancelled_in_sleep_plan : Plan
cancelled_in_sleep_plan = record (a_plan 1 100 16) {
  names = (codes "driver") ∷ (codes "req") ∷ (codes "D") ∷ (codes "IDLE_TIMEOUT") ∷ (codes "Q") ∷ (codes "A") ∷ [];
  declared = declared.Driver
      ∷ a_device 2 true scope.Unscoped level.Dispatch
      ∷ a_queue 4 2 dispatch.Sequential (serves true false false false) true false scope.Unscoped level.Dispatch
      ∷ [];
  registers = (record { name = 3; device = record { 0 = 2 }; value = 2 }) ∷ [];
  agents = (an_agent 5 ((at 14 3 (post.Read (h 2 2) 16)) ∷ (at 15 3 (post.Cancel 1)) ∷ [])) ∷ (an_agent 2 []) ∷ [];
  exprs = (node.Context context.OwnRequest) ∷ (node.Literal status.Success) ∷ [];
  scripts = a_script callback.EvtIoRead (a_queue 4 2 dispatch.Sequential (serves true false false false) true false scope.Unscoped level.Dispatch) 8 (s 9 1 (act.Call call.WdfRequestComplete None (arg.Expression 0) (arg.Expression 1) arg.NoArgument) ∷ [])
      ∷ [];
  picks = (0) ∷ (0) ∷ (0) ∷ (0) ∷ (0) ∷ (0) ∷ (0) ∷ (0) ∷ (1) ∷ [];
}

abbrev pub cancelled_in_sleep_events : List Event
cancelled_in_sleep_events = event.Tick 1
    ∷ event.Tick 2
    ∷ event.Posted 0 (post.Ask ask.Sleep (h 2 2)) None
    ∷ event.Stage (h 2 2) stage.QueuesDown None
    ∷ event.Stage (h 2 2) stage.Settled None
    ∷ event.Stage (h 2 2) stage.Sleeping None
    ∷ event.Tick 3
    ∷ event.Posted 1 (post.Read (h 2 2) 16) (Some (h 4 1))
    ∷ event.Posted 1 (post.Cancel 1) (Some (h 4 1))
    ∷ event.Complete (h 4 1) status.Cancelled
    ∷ event.Cleanup (h 4 1)
    ∷ event.Destroy (h 4 1)
    ∷ []

abbrev pub held_awake_plan : Plan
held_awake_plan = record (a_plan 1 100 16) {
  names = (codes "driver") ∷ (codes "req") ∷ (codes "D") ∷ (codes "IDLE_TIMEOUT") ∷ (codes "IDLE_HOLD") ∷ (codes "Q") ∷ (codes "A") ∷ [];
  declared = declared.Driver
      ∷ a_device 2 true scope.Unscoped level.Dispatch
      ∷ a_queue 5 2 dispatch.Sequential (serves true false false false) true false scope.Unscoped level.Dispatch
      ∷ [];
  registers = (record { name = 3; device = record { 0 = 2 }; value = 2 }) ∷ (record { name = 4; device = record { 0 = 2 }; value = 0 }) ∷ [];
  agents = (an_agent 6 ((at 16 0 (post.Read (h 2 2) 16)) ∷ (at 17 5 (post.Read (h 2 2) 16)) ∷ [])) ∷ (an_agent 2 []) ∷ [];
  exprs = (node.Number 1) ∷ (node.Context context.OwnRequest) ∷ (node.Literal status.Success) ∷ [];
  scripts = a_script callback.EvtIoRead (a_queue 5 2 dispatch.Sequential (serves true false false false) true false scope.Unscoped level.Dispatch) 9
      (s 10 1 (act.Put 1 0)
      ∷ s 11 2 (act.Call call.WdfRequestComplete None (arg.Expression 1) (arg.Expression 2) arg.NoArgument) ∷ [])
      ∷ [];
}

abbrev pub held_awake_events : List Event
held_awake_events = event.Posted 1 (post.Read (h 2 2) 16) (Some (h 4 1))
    ∷ event.Start (p 0) callback.EvtIoRead (h 3 5) (Some (h 4 1))
    ∷ event.Register (p 0) access.Write 1 1
    ∷ event.Did (p 0) (c call.WdfRequestComplete 2 (Val (Obj (h 4 1))) (Val (Stat status.Success)) (Val (Num 0))) (Stat status.Success)
    ∷ event.End (p 0) callback.EvtIoRead (h 3 5) (Stat status.Success)
    ∷ event.Cleanup (h 4 1)
    ∷ event.Destroy (h 4 1)
    ∷ event.Tick 1
    ∷ event.Tick 2
    ∷ event.Tick 3
    ∷ event.Tick 4
    ∷ event.Tick 5
    ∷ event.Posted 1 (post.Read (h 2 2) 16) (Some (h 5 1))
    ∷ event.Start (p 0) callback.EvtIoRead (h 3 5) (Some (h 5 1))
    ∷ event.Register (p 0) access.Write 1 1
    ∷ event.Did (p 0) (c call.WdfRequestComplete 2 (Val (Obj (h 5 1))) (Val (Stat status.Success)) (Val (Num 0))) (Stat status.Success)
    ∷ event.End (p 0) callback.EvtIoRead (h 3 5) (Stat status.Success)
    ∷ event.Cleanup (h 5 1)
    ∷ event.Destroy (h 5 1)
    ∷ []

abbrev pub hold_by_device_plan : Plan
hold_by_device_plan = record (a_plan 1 100 16) {
  names = (codes "driver") ∷ (codes "req") ∷ (codes "D") ∷ (codes "IDLE_TIMEOUT") ∷ (codes "IDLE_HOLD") ∷ [];
  declared = declared.Driver
      ∷ a_device 2 true scope.Unscoped level.Dispatch
      ∷ [];
  registers = (record { name = 3; device = record { 0 = 2 }; value = 2 }) ∷ (record { name = 4; device = record { 0 = 2 }; value = 0 }) ∷ [];
  agents = (an_agent 2 ((at 7 1 (post.Act (action.Set 1 1))) ∷ (at 8 5 (post.Act (action.Set 1 0))) ∷ [])) ∷ [];
}

abbrev pub hold_by_device_events : List Event
hold_by_device_events = event.Tick 1
    ∷ event.Posted 1 (post.Act (action.Set 1 1)) None
    ∷ event.Tick 2
    ∷ event.Tick 3
    ∷ event.Tick 4
    ∷ event.Tick 5
    ∷ event.Posted 1 (post.Act (action.Set 1 0)) None
    ∷ event.Tick 6
    ∷ event.Tick 7
    ∷ event.Posted 0 (post.Ask ask.Sleep (h 2 2)) None
    ∷ event.Stage (h 2 2) stage.QueuesDown None
    ∷ event.Stage (h 2 2) stage.Settled None
    ∷ event.Stage (h 2 2) stage.Sleeping None
    ∷ []

abbrev pub hold_by_driver_plan : Plan
hold_by_driver_plan = record (a_plan 1 100 16) {
  names = (codes "driver") ∷ (codes "req") ∷ (codes "D") ∷ (codes "IDLE_TIMEOUT") ∷ (codes "IDLE_HOLD") ∷ (codes "Q") ∷ (codes "A") ∷ [];
  declared = declared.Driver
      ∷ a_device 2 true scope.Unscoped level.Dispatch
      ∷ a_queue 5 2 dispatch.Sequential (serves true false false false) true false scope.Unscoped level.Dispatch
      ∷ [];
  registers = (record { name = 3; device = record { 0 = 2 }; value = 3 }) ∷ (record { name = 4; device = record { 0 = 2 }; value = 7 }) ∷ [];
  agents = (an_agent 6 ((at 16 5 (post.Control (h 2 2) 0 8)) ∷ (at 17 6 (post.Control (h 2 2) 1 8)) ∷ (at 18 12 (post.Control (h 2 2) 0 8)) ∷ [])) ∷ (an_agent 2 []) ∷ [];
  exprs = (node.Context context.RequestCode) ∷ (node.Context context.OwnRequest) ∷ (node.Literal status.Success) ∷ [];
  scripts = a_script callback.EvtIoDeviceControl (a_queue 5 2 dispatch.Sequential (serves true false false false) true false scope.Unscoped level.Dispatch) 9
      (s 10 1 (act.Put 1 0)
      ∷ s 11 2 (act.Call call.WdfRequestComplete None (arg.Expression 1) (arg.Expression 2) arg.NoArgument) ∷ [])
      ∷ [];
}

abbrev pub hold_by_driver_events : List Event
hold_by_driver_events = event.Tick 1
    ∷ event.Tick 2
    ∷ event.Tick 3
    ∷ event.Tick 4
    ∷ event.Tick 5
    ∷ event.Posted 1 (post.Control (h 2 2) 0 8) (Some (h 4 1))
    ∷ event.Start (p 0) callback.EvtIoDeviceControl (h 3 5) (Some (h 4 1))
    ∷ event.Register (p 0) access.Write 1 0
    ∷ event.Did (p 0) (c call.WdfRequestComplete 2 (Val (Obj (h 4 1))) (Val (Stat status.Success)) (Val (Num 0))) (Stat status.Success)
    ∷ event.End (p 0) callback.EvtIoDeviceControl (h 3 5) (Stat status.Success)
    ∷ event.Cleanup (h 4 1)
    ∷ event.Destroy (h 4 1)
    ∷ event.Tick 6
    ∷ event.Posted 1 (post.Control (h 2 2) 1 8) (Some (h 5 1))
    ∷ event.Start (p 0) callback.EvtIoDeviceControl (h 3 5) (Some (h 5 1))
    ∷ event.Register (p 0) access.Write 1 1
    ∷ event.Did (p 0) (c call.WdfRequestComplete 2 (Val (Obj (h 5 1))) (Val (Stat status.Success)) (Val (Num 0))) (Stat status.Success)
    ∷ event.End (p 0) callback.EvtIoDeviceControl (h 3 5) (Stat status.Success)
    ∷ event.Cleanup (h 5 1)
    ∷ event.Destroy (h 5 1)
    ∷ event.Tick 7
    ∷ event.Tick 8
    ∷ event.Tick 9
    ∷ event.Tick 10
    ∷ event.Tick 11
    ∷ event.Tick 12
    ∷ event.Posted 1 (post.Control (h 2 2) 0 8) (Some (h 6 1))
    ∷ event.Start (p 0) callback.EvtIoDeviceControl (h 3 5) (Some (h 6 1))
    ∷ event.Register (p 0) access.Write 1 0
    ∷ event.Did (p 0) (c call.WdfRequestComplete 2 (Val (Obj (h 6 1))) (Val (Stat status.Success)) (Val (Num 0))) (Stat status.Success)
    ∷ event.End (p 0) callback.EvtIoDeviceControl (h 3 5) (Stat status.Success)
    ∷ event.Cleanup (h 6 1)
    ∷ event.Destroy (h 6 1)
    ∷ event.Tick 13
    ∷ event.Tick 14
    ∷ event.Tick 15
    ∷ event.Posted 0 (post.Ask ask.Sleep (h 2 2)) None
    ∷ event.Stage (h 2 2) stage.QueuesDown None
    ∷ event.Stage (h 2 2) stage.Settled None
    ∷ event.Stage (h 2 2) stage.Sleeping None
    ∷ []

abbrev pub sleeps_when_unused_plan : Plan
sleeps_when_unused_plan = record (a_plan 1 100 16) {
  names = (codes "driver") ∷ (codes "req") ∷ (codes "D") ∷ (codes "IDLE_TIMEOUT") ∷ (codes "IDLE_HOLD") ∷ (codes "Q") ∷ (codes "A") ∷ [];
  declared = declared.Driver
      ∷ a_device 2 true scope.Unscoped level.Dispatch
      ∷ a_queue 5 2 dispatch.Sequential (serves true false false false) true false scope.Unscoped level.Dispatch
      ∷ [];
  registers = (record { name = 3; device = record { 0 = 2 }; value = 2 }) ∷ (record { name = 4; device = record { 0 = 2 }; value = 0 }) ∷ [];
  agents = (an_agent 6 ((at 15 0 (post.Read (h 2 2) 16)) ∷ (at 16 5 (post.Read (h 2 2) 16)) ∷ [])) ∷ (an_agent 2 []) ∷ [];
  exprs = (node.Context context.OwnRequest) ∷ (node.Literal status.Success) ∷ [];
  scripts = a_script callback.EvtIoRead (a_queue 5 2 dispatch.Sequential (serves true false false false) true false scope.Unscoped level.Dispatch) 9 (s 10 1 (act.Call call.WdfRequestComplete None (arg.Expression 0) (arg.Expression 1) arg.NoArgument) ∷ [])
      ∷ [];
}

abbrev pub sleeps_when_unused_events : List Event
sleeps_when_unused_events = event.Posted 1 (post.Read (h 2 2) 16) (Some (h 4 1))
    ∷ event.Start (p 0) callback.EvtIoRead (h 3 5) (Some (h 4 1))
    ∷ event.Did (p 0) (c call.WdfRequestComplete 2 (Val (Obj (h 4 1))) (Val (Stat status.Success)) (Val (Num 0))) (Stat status.Success)
    ∷ event.End (p 0) callback.EvtIoRead (h 3 5) (Stat status.Success)
    ∷ event.Cleanup (h 4 1)
    ∷ event.Destroy (h 4 1)
    ∷ event.Tick 1
    ∷ event.Tick 2
    ∷ event.Posted 0 (post.Ask ask.Sleep (h 2 2)) None
    ∷ event.Stage (h 2 2) stage.QueuesDown None
    ∷ event.Stage (h 2 2) stage.Settled None
    ∷ event.Stage (h 2 2) stage.Sleeping None
    ∷ event.Tick 3
    ∷ event.Tick 4
    ∷ event.Tick 5
    ∷ event.Posted 1 (post.Read (h 2 2) 16) (Some (h 5 1))
    ∷ event.Posted 0 (post.Ask ask.Wake (h 2 2)) None
    ∷ event.Stage (h 2 2) stage.QueuesUp None
    ∷ event.Start (p 0) callback.EvtIoRead (h 3 5) (Some (h 5 1))
    ∷ event.Did (p 0) (c call.WdfRequestComplete 2 (Val (Obj (h 5 1))) (Val (Stat status.Success)) (Val (Num 0))) (Stat status.Success)
    ∷ event.End (p 0) callback.EvtIoRead (h 3 5) (Stat status.Success)
    ∷ event.Stage (h 2 2) stage.Working None
    ∷ event.Cleanup (h 5 1)
    ∷ event.Destroy (h 5 1)
    ∷ event.Tick 6
    ∷ event.Tick 7
    ∷ event.Posted 0 (post.Ask ask.Sleep (h 2 2)) None
    ∷ event.Stage (h 2 2) stage.QueuesDown None
    ∷ event.Stage (h 2 2) stage.Settled None
    ∷ event.Stage (h 2 2) stage.Sleeping None
    ∷ []

abbrev pub two_timeouts_plan : Plan
two_timeouts_plan = record (a_plan 1 100 16) {
  names = (codes "driver") ∷ (codes "req") ∷ (codes "D") ∷ (codes "IDLE_TIMEOUT") ∷ (codes "Q") ∷ (codes "E") ∷ (codes "IDLE_TIMEOUT") ∷ (codes "F") ∷ (codes "A") ∷ [];
  declared = declared.Driver
      ∷ a_device 2 true scope.Unscoped level.Dispatch
      ∷ a_queue 4 2 dispatch.Sequential (serves true false false false) true false scope.Unscoped level.Dispatch
      ∷ a_device 5 true scope.Unscoped level.Dispatch
      ∷ a_queue 7 4 dispatch.Sequential (serves true false false false) true false scope.Unscoped level.Dispatch
      ∷ [];
  registers = (record { name = 3; device = record { 0 = 2 }; value = 2 }) ∷ (record { name = 6; device = record { 0 = 4 }; value = 1 }) ∷ [];
  agents = (an_agent 8 ((at 23 3 (post.Read (h 4 5) 16)) ∷ [])) ∷ (an_agent 2 []) ∷ (an_agent 5 []) ∷ [];
  exprs = (node.Context context.OwnRequest) ∷ (node.Literal status.Success) ∷ (node.Context context.OwnRequest) ∷ (node.Literal status.Success) ∷ [];
  scripts = a_script callback.EvtIoRead (a_queue 4 2 dispatch.Sequential (serves true false false false) true false scope.Unscoped level.Dispatch) 8 (s 9 1 (act.Call call.WdfRequestComplete None (arg.Expression 0) (arg.Expression 1) arg.NoArgument) ∷ [])
      ∷ a_script callback.EvtIoRead (a_queue 7 4 dispatch.Sequential (serves true false false false) true false scope.Unscoped level.Dispatch) 17 (s 18 1 (act.Call call.WdfRequestComplete None (arg.Expression 2) (arg.Expression 3) arg.NoArgument) ∷ [])
      ∷ [];
}

abbrev pub two_timeouts_events : List Event
two_timeouts_events = event.Tick 1
    ∷ event.Posted 0 (post.Ask ask.Sleep (h 4 5)) None
    ∷ event.Stage (h 4 5) stage.QueuesDown None
    ∷ event.Stage (h 4 5) stage.Settled None
    ∷ event.Stage (h 4 5) stage.Sleeping None
    ∷ event.Tick 2
    ∷ event.Posted 0 (post.Ask ask.Sleep (h 2 2)) None
    ∷ event.Stage (h 2 2) stage.QueuesDown None
    ∷ event.Stage (h 2 2) stage.Settled None
    ∷ event.Stage (h 2 2) stage.Sleeping None
    ∷ event.Tick 3
    ∷ event.Posted 1 (post.Read (h 4 5) 16) (Some (h 6 1))
    ∷ event.Posted 0 (post.Ask ask.Wake (h 4 5)) None
    ∷ event.Stage (h 4 5) stage.QueuesUp None
    ∷ event.Start (p 0) callback.EvtIoRead (h 5 7) (Some (h 6 1))
    ∷ event.Did (p 0) (c call.WdfRequestComplete 2 (Val (Obj (h 6 1))) (Val (Stat status.Success)) (Val (Num 0))) (Stat status.Success)
    ∷ event.End (p 0) callback.EvtIoRead (h 5 7) (Stat status.Success)
    ∷ event.Stage (h 4 5) stage.Working None
    ∷ event.Cleanup (h 6 1)
    ∷ event.Destroy (h 6 1)
    ∷ event.Tick 4
    ∷ event.Posted 0 (post.Ask ask.Sleep (h 4 5)) None
    ∷ event.Stage (h 4 5) stage.QueuesDown None
    ∷ event.Stage (h 4 5) stage.Settled None
    ∷ event.Stage (h 4 5) stage.Sleeping None
    ∷ []

abbrev pub used_for_a_while_plan : Plan
used_for_a_while_plan = record (a_plan 1 100 16) {
  names = (codes "driver") ∷ (codes "req") ∷ (codes "D") ∷ (codes "IDLE_TIMEOUT") ∷ (codes "Q") ∷ (codes "A") ∷ [];
  declared = declared.Driver
      ∷ a_device 2 true scope.Unscoped level.Dispatch
      ∷ a_queue 4 2 dispatch.Sequential (serves true false false false) true false scope.Unscoped level.Dispatch
      ∷ [];
  registers = (record { name = 3; device = record { 0 = 2 }; value = 2 }) ∷ [];
  agents = (an_agent 5 ((at 15 0 (post.Read (h 2 2) 16)) ∷ [])) ∷ (an_agent 2 []) ∷ [];
  exprs = (node.Number 3) ∷ (node.Context context.OwnRequest) ∷ (node.Literal status.Success) ∷ [];
  scripts = a_script callback.EvtIoRead (a_queue 4 2 dispatch.Sequential (serves true false false false) true false scope.Unscoped level.Dispatch) 8
      (s 9 1 (act.Spend 0)
      ∷ s 10 2 (act.Call call.WdfRequestComplete None (arg.Expression 1) (arg.Expression 2) arg.NoArgument) ∷ [])
      ∷ [];
}

abbrev pub used_for_a_while_events : List Event
used_for_a_while_events = event.Posted 1 (post.Read (h 2 2) 16) (Some (h 4 1))
    ∷ event.Start (p 0) callback.EvtIoRead (h 3 4) (Some (h 4 1))
    ∷ event.Spend (p 0) 3
    ∷ event.Tick 1
    ∷ event.Tick 2
    ∷ event.Tick 3
    ∷ event.Did (p 0) (c call.WdfRequestComplete 2 (Val (Obj (h 4 1))) (Val (Stat status.Success)) (Val (Num 0))) (Stat status.Success)
    ∷ event.End (p 0) callback.EvtIoRead (h 3 4) (Stat status.Success)
    ∷ event.Cleanup (h 4 1)
    ∷ event.Destroy (h 4 1)
    ∷ event.Tick 4
    ∷ event.Tick 5
    ∷ event.Posted 0 (post.Ask ask.Sleep (h 2 2)) None
    ∷ event.Stage (h 2 2) stage.QueuesDown None
    ∷ event.Stage (h 2 2) stage.Settled None
    ∷ event.Stage (h 2 2) stage.Sleeping None
    ∷ []
