-- The run with the last arrival, computed from the definitions.
use Rattle.std.proofs.Common.{[], refl}
use Rattle.wdf_base.specs.declared.event.Ending.TheVariants as ending
use Rattle.wdf_model.specs.agents.StackAgent.{stack_agents}
use Rattle.wdf_model.specs.rules.Script.{value_of}
use Rattle.law_machine_base.specs.Course.{run_with}
use Rattle.law_machine_base.proofs.Course.{worked_with}
use Rattle.law_stack.specs.Laws.{keeps_stack_laws}
use Rattle.law_stack.specs.Words.{passings, works}
use Rattle.law_stack_worked.specs.Shown.{IsStackRun}
use Rattle.law_machine_worked.proofs.Ended.{over}
use Rattle.law_stack_worked.specs.LastArrival.{last_arrival_plan, last_arrival_events}

pub last_arrival_is : IsStackRun last_arrival_plan last_arrival_events ending.Limit []
unfolding run_with value_of keeps_stack_laws passings works
last_arrival_is = record {
  worked = worked_with last_arrival_plan stack_agents 26 last_arrival_events ending.Limit refl refl (over ending.Limit refl);
  stuck = refl;
  keeps = refl;
}
