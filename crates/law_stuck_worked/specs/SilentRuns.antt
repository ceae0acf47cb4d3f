-- Worked runs: the plan of each, its events, and what it waits for where it is stuck. Made by
-- tools/scene_to_plan.py from the scenarios and traces of scenarios/silent.
use Rattle.std.specs.Prelude.{List, [], ◌∷◌, Some, None, true, false, codes}
use Rattle.wdf_base.specs.declared.declared.Declared.TheVariants as declared
use Rattle.wdf_base.specs.declared.declared.ClassInfo.TheVariants as class
use Rattle.wdf_base.specs.declared.declared.PlainKind.TheVariants as plain
use Rattle.wdf_base.specs.declared.declared.Scope.TheVariants as scope
use Rattle.wdf_base.specs.declared.declared.ExecutionLevel.TheVariants as level
use Rattle.wdf_base.specs.declared.declared.DispatchKind.TheVariants as dispatch
use Rattle.wdf_base.specs.declared.event.Post.TheVariants as post
use Rattle.wdf_base.specs.declared.event.Event.{Event}
use Rattle.wdf_base.specs.declared.event.Event.TheVariants as event
use Rattle.wdf_base.specs.declared.script.ExprNode.TheVariants as node
use Rattle.wdf_base.specs.declared.script.ContextWord.TheVariants as context
use Rattle.wdf_base.specs.declared.script.ArgNode.TheVariants as arg
use Rattle.wdf_base.specs.declared.script.Act.TheVariants as act
use Rattle.wdf_base.specs.declared.call.Arg.TheVariants.{Val, Class}
use Rattle.wdf_base.specs.declared.call.CallKind.TheVariants as call
use Rattle.wdf_base.specs.declared.call.Callback.TheVariants as callback
use Rattle.wdf_base.specs.declared.value.Status.TheVariants as status
use Rattle.wdf_base.specs.declared.value.Value.TheVariants.{Num, Obj, Stat}
use Rattle.wdf_base.specs.declared.plan.Plan.{Plan}
use Rattle.wdf_base.specs.declared.wait.OpenThing.TheVariants as thing
use Rattle.wdf_base.specs.declared.wait.Cause.TheVariants as cause
use Rattle.wdf_base.specs.declared.wait.WaitLine.{WaitLine}
use Rattle.law_machine_worked.specs.Writing.{h, p, c, at, s, line, a_plan, a_device, a_queue, serves, a_target, an_agent, a_script}

abbrev pub never_answered_plan : Plan
never_answered_plan = record (a_plan 1 100 16) {
  names = (codes "driver") ∷ (codes "req") ∷ (codes "Own") ∷ (codes "D") ∷ (codes "Q") ∷ (codes "T") ∷ (codes "A") ∷ [];
  declared = declared.Driver
      ∷ a_device 3 true scope.Unscoped level.Dispatch
      ∷ a_queue 4 2 dispatch.Sequential (serves true false false false) true false scope.Unscoped level.Dispatch
      ∷ a_target 5 2 1 status.Success 4
      ∷ [];
  classes = (class.Plain 2 plain.Request) ∷ [];
  agents = (an_agent 6 ((at 22 0 (post.Read (h 2 3) 1)) ∷ [])) ∷ (an_agent 3 []) ∷ (an_agent 5 []) ∷ [];
  exprs = (node.Context context.NearestDevice) ∷ (node.Variable 0) ∷ (node.Object (h 4 5)) ∷ (node.Number 0) ∷ (node.Variable 0) ∷ (node.Context context.OwnRequest) ∷ (node.Literal status.Success) ∷ [];
  scripts = a_script callback.EvtIoRead (a_queue 4 2 dispatch.Sequential (serves true false false false) true false scope.Unscoped level.Dispatch) 9
      (s 10 1 (act.Call call.WdfRequestCreate (Some 0) (arg.OfClass 0) (arg.Expression 0) arg.NoArgument)
      ∷ s 11 2 (act.Call call.WdfRequestSend None (arg.Expression 1) (arg.Expression 2) (arg.Expression 3))
      ∷ s 12 3 (act.Call call.WdfObjectDelete None (arg.Expression 4) arg.NoArgument arg.NoArgument)
      ∷ s 13 4 (act.Call call.WdfRequestComplete None (arg.Expression 5) (arg.Expression 6) arg.NoArgument) ∷ [])
      ∷ a_script callback.EvtRequestCompletion (a_target 5 2 1 status.Success 4) 17 []
      ∷ [];
}

abbrev pub never_answered_events : List Event
never_answered_events = event.Posted 1 (post.Read (h 2 3) 1) (Some (h 5 1))
    ∷ event.Start (p 0) callback.EvtIoRead (h 3 4) (Some (h 5 1))
    ∷ event.Did (p 0) (c call.WdfRequestCreate 2 (Class 0) (Val (Obj (h 2 3))) (Val (Num 0))) (Obj (h 6 2))
    ∷ event.Did (p 0) (c call.WdfRequestSend 3 (Val (Obj (h 6 2))) (Val (Obj (h 4 5))) (Val (Num 0))) (Num 1)
    ∷ event.Did (p 0) (c call.WdfObjectDelete 1 (Val (Obj (h 6 2))) (Val (Num 0)) (Val (Num 0))) (Stat status.Success)
    ∷ event.Did (p 0) (c call.WdfRequestComplete 2 (Val (Obj (h 5 1))) (Val (Stat status.Success)) (Val (Num 0))) (Stat status.Success)
    ∷ event.End (p 0) callback.EvtIoRead (h 3 4) (Stat status.Success)
    ∷ event.Cleanup (h 5 1)
    ∷ event.Destroy (h 5 1)
    ∷ []

abbrev pub never_answered_waits : List WaitLine
never_answered_waits = (line (thing.Sent (h 6 2) (h 4 5)) None) ∷ (line (thing.Leaving (h 6 2)) (Some (cause.AtTarget (h 4 5)))) ∷ []
