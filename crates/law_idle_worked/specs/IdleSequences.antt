-- Worked runs: the plan of each, its events, and what it waits for where it is stuck. Made by
-- tools/scene_to_plan.py from the scenarios and traces of tools/idle.
use Rattle.std.specs.Prelude.{List, [], ◌∷◌, Some, None, true, false, codes}
use Rattle.wdf_base.specs.declared.declared.Declared.TheVariants as declared
use Rattle.wdf_base.specs.declared.declared.Scope.TheVariants as scope
use Rattle.wdf_base.specs.declared.declared.ExecutionLevel.TheVariants as level
use Rattle.wdf_base.specs.declared.declared.DispatchKind.TheVariants as dispatch
use Rattle.wdf_base.specs.declared.event.Ask.TheVariants as ask
use Rattle.wdf_base.specs.declared.event.Post.TheVariants as post
use Rattle.wdf_base.specs.declared.event.Stage.TheVariants as stage
use Rattle.wdf_base.specs.declared.event.Event.{Event}
use Rattle.wdf_base.specs.declared.event.Event.TheVariants as event
use Rattle.wdf_base.specs.declared.script.ExprNode.TheVariants as node
use Rattle.wdf_base.specs.declared.script.ContextWord.TheVariants as context
use Rattle.wdf_base.specs.declared.script.ArgNode.TheVariants as arg
use Rattle.wdf_base.specs.declared.script.Act.TheVariants as act
use Rattle.wdf_base.specs.declared.call.Arg.TheVariants.{Val}
use Rattle.wdf_base.specs.declared.call.CallKind.TheVariants as call
use Rattle.wdf_base.specs.declared.call.Callback.TheVariants as callback
use Rattle.wdf_base.specs.declared.value.Status.TheVariants as status
use Rattle.wdf_base.specs.declared.value.Value.TheVariants.{Num, Obj, Stat}
use Rattle.wdf_base.specs.declared.plan.Plan.{Plan}
use Rattle.law_machine_worked.specs.Writing.{h, p, c, at, s, a_plan, a_device, a_queue, serves, an_agent, a_script}

abbrev pub both_at_one_tick_plan : Plan
both_at_one_tick_plan = record (a_plan 1 100 16) {
  names = (codes "driver") ∷ (codes "req") ∷ (codes "D") ∷ (codes "IDLE_TIMEOUT") ∷ (codes "E") ∷ (codes "IDLE_TIMEOUT") ∷ [];
  declared = declared.Driver
      ∷ a_device 2 true scope.Unscoped level.Dispatch
      ∷ a_device 4 true scope.Unscoped level.Dispatch
      ∷ [];
  registers = (record { name = 3; device = record { 0 = 2 }; value = 2 }) ∷ (record { name = 5; device = record { 0 = 3 }; value = 2 }) ∷ [];
  pnp = (at 11 2 (post.Ask ask.Rebalance (h 2 2))) ∷ [];
  agents = (an_agent 2 []) ∷ (an_agent 4 []) ∷ [];
}

abbrev pub both_at_one_tick_events : List Event
both_at_one_tick_events = event.Tick 1
    ∷ event.Tick 2
    ∷ event.Posted 0 (post.Ask ask.Sleep (h 2 2)) None
    ∷ event.Stage (h 2 2) stage.QueuesDown None
    ∷ event.Stage (h 2 2) stage.Settled None
    ∷ event.Stage (h 2 2) stage.Sleeping None
    ∷ event.Posted 0 (post.Ask ask.Sleep (h 3 4)) None
    ∷ event.Stage (h 3 4) stage.QueuesDown None
    ∷ event.Stage (h 3 4) stage.Settled None
    ∷ event.Stage (h 3 4) stage.Sleeping None
    ∷ event.Posted 0 (post.Ask ask.Rebalance (h 2 2)) None
    ∷ []

abbrev pub rebalanced_plan : Plan
rebalanced_plan = record (a_plan 1 100 16) {
  names = (codes "driver") ∷ (codes "req") ∷ (codes "D") ∷ (codes "IDLE_TIMEOUT") ∷ [];
  declared = declared.Driver
      ∷ a_device 2 true scope.Unscoped level.Dispatch
      ∷ [];
  registers = (record { name = 3; device = record { 0 = 2 }; value = 2 }) ∷ [];
  pnp = (at 8 1 (post.Ask ask.Rebalance (h 2 2))) ∷ [];
  agents = (an_agent 2 []) ∷ [];
}

abbrev pub rebalanced_events : List Event
rebalanced_events = event.Tick 1
    ∷ event.Posted 0 (post.Ask ask.Rebalance (h 2 2)) None
    ∷ event.Stage (h 2 2) stage.QueuesDown None
    ∷ event.Stage (h 2 2) stage.Settled None
    ∷ event.Stage (h 2 2) stage.NoHardware None
    ∷ event.Stage (h 2 2) stage.Hardware None
    ∷ event.Stage (h 2 2) stage.QueuesUp None
    ∷ event.Stage (h 2 2) stage.Working None
    ∷ event.Tick 2
    ∷ event.Tick 3
    ∷ event.Posted 0 (post.Ask ask.Sleep (h 2 2)) None
    ∷ event.Stage (h 2 2) stage.QueuesDown None
    ∷ event.Stage (h 2 2) stage.Settled None
    ∷ event.Stage (h 2 2) stage.Sleeping None
    ∷ []

abbrev pub refused_removal_plan : Plan
refused_removal_plan = record (a_plan 1 100 16) {
  names = (codes "driver") ∷ (codes "req") ∷ (codes "D") ∷ (codes "IDLE_TIMEOUT") ∷ (codes "Q") ∷ (codes "A") ∷ [];
  declared = declared.Driver
      ∷ a_device 2 true scope.Unscoped level.Dispatch
      ∷ a_queue 4 2 dispatch.Sequential (serves true false false false) true false scope.Unscoped level.Dispatch
      ∷ [];
  registers = (record { name = 3; device = record { 0 = 2 }; value = 2 }) ∷ [];
  pnp = (at 20 3 (post.Ask ask.Remove (h 2 2))) ∷ [];
  agents = (an_agent 5 ((at 17 4 (post.Read (h 2 2) 16)) ∷ [])) ∷ (an_agent 2 []) ∷ [];
  exprs = (node.Context context.OwnRequest) ∷ (node.Literal status.Success) ∷ (node.Literal status.Unsuccessful) ∷ [];
  scripts = a_script callback.EvtIoRead (a_queue 4 2 dispatch.Sequential (serves true false false false) true false scope.Unscoped level.Dispatch) 8 (s 9 1 (act.Call call.WdfRequestComplete None (arg.Expression 0) (arg.Expression 1) arg.NoArgument) ∷ [])
      ∷ a_script callback.EvtDeviceQueryRemove (a_device 2 true scope.Unscoped level.Dispatch) 12 (s 13 1 (act.Return 2) ∷ [])
      ∷ [];
}

abbrev pub refused_removal_events : List Event
refused_removal_events = event.Tick 1
    ∷ event.Tick 2
    ∷ event.Posted 0 (post.Ask ask.Sleep (h 2 2)) None
    ∷ event.Stage (h 2 2) stage.QueuesDown None
    ∷ event.Stage (h 2 2) stage.Settled None
    ∷ event.Stage (h 2 2) stage.Sleeping None
    ∷ event.Tick 3
    ∷ event.Posted 0 (post.Ask ask.Remove (h 2 2)) None
    ∷ event.Start (p 0) callback.EvtDeviceQueryRemove (h 2 2) None
    ∷ event.End (p 0) callback.EvtDeviceQueryRemove (h 2 2) (Stat status.Unsuccessful)
    ∷ event.Tick 4
    ∷ event.Posted 1 (post.Read (h 2 2) 16) (Some (h 4 1))
    ∷ event.Posted 0 (post.Ask ask.Wake (h 2 2)) None
    ∷ event.Stage (h 2 2) stage.QueuesUp None
    ∷ event.Start (p 0) callback.EvtIoRead (h 3 4) (Some (h 4 1))
    ∷ event.Did (p 0) (c call.WdfRequestComplete 2 (Val (Obj (h 4 1))) (Val (Stat status.Success)) (Val (Num 0))) (Stat status.Success)
    ∷ event.End (p 0) callback.EvtIoRead (h 3 4) (Stat status.Success)
    ∷ event.Stage (h 2 2) stage.Working None
    ∷ event.Cleanup (h 4 1)
    ∷ event.Destroy (h 4 1)
    ∷ event.Tick 5
    ∷ event.Tick 6
    ∷ event.Posted 0 (post.Ask ask.Sleep (h 2 2)) None
    ∷ event.Stage (h 2 2) stage.QueuesDown None
    ∷ event.Stage (h 2 2) stage.Settled None
    ∷ event.Stage (h 2 2) stage.Sleeping None
    ∷ []

abbrev pub refused_stop_plan : Plan
refused_stop_plan = record (a_plan 1 100 16) {
  names = (codes "driver") ∷ (codes "req") ∷ (codes "D") ∷ (codes "IDLE_TIMEOUT") ∷ [];
  declared = declared.Driver
      ∷ a_device 2 true scope.Unscoped level.Dispatch
      ∷ [];
  registers = (record { name = 3; device = record { 0 = 2 }; value = 2 }) ∷ [];
  pnp = (at 12 1 (post.Ask ask.Rebalance (h 2 2))) ∷ [];
  agents = (an_agent 2 []) ∷ [];
  exprs = (node.Number 3) ∷ (node.Literal status.Unsuccessful) ∷ [];
  scripts = a_script callback.EvtDeviceQueryStop (a_device 2 true scope.Unscoped level.Dispatch) 6
      (s 7 1 (act.Spend 0)
      ∷ s 8 2 (act.Return 1) ∷ [])
      ∷ [];
}

abbrev pub refused_stop_events : List Event
refused_stop_events = event.Tick 1
    ∷ event.Posted 0 (post.Ask ask.Rebalance (h 2 2)) None
    ∷ event.Start (p 0) callback.EvtDeviceQueryStop (h 2 2) None
    ∷ event.Spend (p 0) 3
    ∷ event.Tick 2
    ∷ event.Tick 3
    ∷ event.Tick 4
    ∷ event.End (p 0) callback.EvtDeviceQueryStop (h 2 2) (Stat status.Unsuccessful)
    ∷ event.Tick 5
    ∷ event.Tick 6
    ∷ event.Posted 0 (post.Ask ask.Sleep (h 2 2)) None
    ∷ event.Stage (h 2 2) stage.QueuesDown None
    ∷ event.Stage (h 2 2) stage.Settled None
    ∷ event.Stage (h 2 2) stage.Sleeping None
    ∷ []

abbrev pub removed_in_sleep_plan : Plan
removed_in_sleep_plan = record (a_plan 1 100 16) {
  names = (codes "driver") ∷ (codes "req") ∷ (codes "D") ∷ (codes "IDLE_TIMEOUT") ∷ (codes "Q") ∷ (codes "A") ∷ [];
  declared = declared.Driver
      ∷ a_device 2 true scope.Unscoped level.Dispatch
      ∷ a_queue 4 2 dispatch.Sequential (serves true false false false) true false scope.Unscoped level.Dispatch
      ∷ [];
  registers = (record { name = 3; device = record { 0 = 2 }; value = 2 }) ∷ [];
  pnp = (at 17 3 (post.Ask ask.Remove (h 2 2))) ∷ [];
  agents = (an_agent 5 ((at 14 4 (post.Read (h 2 2) 16)) ∷ [])) ∷ (an_agent 2 []) ∷ [];
  exprs = (node.Context context.OwnRequest) ∷ (node.Literal status.Success) ∷ [];
  scripts = a_script callback.EvtIoRead (a_queue 4 2 dispatch.Sequential (serves true false false false) true false scope.Unscoped level.Dispatch) 8 (s 9 1 (act.Call call.WdfRequestComplete None (arg.Expression 0) (arg.Expression 1) arg.NoArgument) ∷ [])
      ∷ [];
}

abbrev pub removed_in_sleep_events : List Event
removed_in_sleep_events = event.Tick 1
    ∷ event.Tick 2
    ∷ event.Posted 0 (post.Ask ask.Sleep (h 2 2)) None
    ∷ event.Stage (h 2 2) stage.QueuesDown None
    ∷ event.Stage (h 2 2) stage.Settled None
    ∷ event.Stage (h 2 2) stage.Sleeping None
    ∷ event.Tick 3
    ∷ event.Posted 0 (post.Ask ask.Remove (h 2 2)) None
    ∷ event.Stage (h 2 2) stage.NoHardware None
    ∷ event.Stage (h 2 2) stage.Closed None
    ∷ event.Stage (h 2 2) stage.Removed None
    ∷ event.Cleanup (h 3 4)
    ∷ event.Cleanup (h 2 2)
    ∷ event.Destroy (h 3 4)
    ∷ event.Destroy (h 2 2)
    ∷ event.Tick 4
    ∷ event.Posted 1 (post.Read (h 2 2) 16) None
    ∷ []

abbrev pub started_plan : Plan
started_plan = record (a_plan 1 100 16) {
  names = (codes "driver") ∷ (codes "req") ∷ (codes "D") ∷ (codes "IDLE_TIMEOUT") ∷ (codes "E") ∷ (codes "IDLE_TIMEOUT") ∷ [];
  declared = declared.Driver
      ∷ a_device 2 false scope.Unscoped level.Dispatch
      ∷ a_device 4 true scope.Unscoped level.Dispatch
      ∷ [];
  registers = (record { name = 3; device = record { 0 = 2 }; value = 2 }) ∷ (record { name = 5; device = record { 0 = 3 }; value = 0 }) ∷ [];
  pnp = (at 11 1 (post.Ask ask.Start (h 2 2))) ∷ [];
  agents = (an_agent 2 []) ∷ (an_agent 4 []) ∷ [];
}

abbrev pub started_events : List Event
started_events = event.Tick 1
    ∷ event.Posted 0 (post.Ask ask.Start (h 2 2)) None
    ∷ event.Stage (h 2 2) stage.Hardware None
    ∷ event.Stage (h 2 2) stage.QueuesUp None
    ∷ event.Stage (h 2 2) stage.Working None
    ∷ event.Tick 2
    ∷ event.Tick 3
    ∷ event.Posted 0 (post.Ask ask.Sleep (h 2 2)) None
    ∷ event.Stage (h 2 2) stage.QueuesDown None
    ∷ event.Stage (h 2 2) stage.Settled None
    ∷ event.Stage (h 2 2) stage.Sleeping None
    ∷ []

abbrev pub surprised_plan : Plan
surprised_plan = record (a_plan 1 100 16) {
  names = (codes "driver") ∷ (codes "req") ∷ (codes "D") ∷ (codes "IDLE_TIMEOUT") ∷ (codes "Q") ∷ (codes "A") ∷ [];
  declared = declared.Driver
      ∷ a_device 2 true scope.Unscoped level.Dispatch
      ∷ a_queue 4 2 dispatch.Sequential (serves true false false false) true false scope.Unscoped level.Dispatch
      ∷ [];
  registers = (record { name = 3; device = record { 0 = 2 }; value = 1 }) ∷ [];
  pnp = (at 18 1 (post.Ask ask.Surprise (h 2 2))) ∷ [];
  agents = (an_agent 5 ((at 15 0 (post.Read (h 2 2) 16)) ∷ [])) ∷ (an_agent 2 []) ∷ [];
  exprs = (node.Number 2) ∷ (node.Context context.OwnRequest) ∷ (node.Literal status.Success) ∷ [];
  scripts = a_script callback.EvtIoRead (a_queue 4 2 dispatch.Sequential (serves true false false false) true false scope.Unscoped level.Dispatch) 8
      (s 9 1 (act.Spend 0)
      ∷ s 10 2 (act.Call call.WdfRequestComplete None (arg.Expression 1) (arg.Expression 2) arg.NoArgument) ∷ [])
      ∷ [];
}

abbrev pub surprised_events : List Event
surprised_events = event.Posted 1 (post.Read (h 2 2) 16) (Some (h 4 1))
    ∷ event.Start (p 0) callback.EvtIoRead (h 3 4) (Some (h 4 1))
    ∷ event.Spend (p 0) 2
    ∷ event.Tick 1
    ∷ event.Posted 0 (post.Ask ask.Surprise (h 2 2)) None
    ∷ event.Stage (h 2 2) stage.QueuesDown None
    ∷ event.Tick 2
    ∷ event.Did (p 0) (c call.WdfRequestComplete 2 (Val (Obj (h 4 1))) (Val (Stat status.Success)) (Val (Num 0))) (Stat status.Success)
    ∷ event.End (p 0) callback.EvtIoRead (h 3 4) (Stat status.Success)
    ∷ event.Stage (h 2 2) stage.Settled None
    ∷ event.Stage (h 2 2) stage.NoHardware None
    ∷ event.Stage (h 2 2) stage.Closed None
    ∷ event.Stage (h 2 2) stage.Removed None
    ∷ event.Cleanup (h 4 1)
    ∷ event.Cleanup (h 3 4)
    ∷ event.Cleanup (h 2 2)
    ∷ event.Destroy (h 3 4)
    ∷ event.Destroy (h 4 1)
    ∷ event.Destroy (h 2 2)
    ∷ []
