-- What a worked run with stacks of devices shows of the definitions.
use Rattle.std.specs.Prelude.{◌≡◌, true, List, length}
use Rattle.wdf_base.specs.declared.event.Event.{Event}
use Rattle.wdf_base.specs.declared.event.Ending.{Ending}
use Rattle.wdf_base.specs.declared.plan.Plan.{Plan}
use Rattle.wdf_base.specs.declared.wait.WaitLine.{WaitLine}
use Rattle.wdf_model.specs.agents.StackAgent.{stack_agents}
use Rattle.law_machine_base.specs.Course.{IsWorkedWith, run_with, waits_with}
use Rattle.law_stack.specs.Laws.{keeps_stack_laws}

-- The events are the run that the plan's picks determine with the agents of the word `stack`, and it ends so. These are the
-- lines of its wait list, which only a stuck run has. Each of its events keeps the laws on stacks.
pub record IsStackRun (plan : Plan) (events : List Event) (ending : Ending) (waits : List WaitLine) : Type 0 where
  pub worked : IsWorkedWith plan stack_agents events ending
  pub stuck : waits_with stack_agents (run_with plan stack_agents (length events)) ≡ waits
  pub keeps : keeps_stack_laws plan events ≡ true
