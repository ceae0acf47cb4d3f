-- What a worked run in which idle devices sleep shows of the definitions.
use Rattle.std.specs.Prelude.{◌≡◌, List, None}
use Rattle.wdf_base.specs.declared.event.Event.{Event}
use Rattle.wdf_base.specs.declared.event.Ending.{Ending}
use Rattle.wdf_base.specs.declared.plan.Plan.{Plan}
use Rattle.wdf_model.specs.agents.IdleAgent.{idle_agents}
use Rattle.law_machine_base.specs.Course.{IsWorkedWith}
use Rattle.law_idle.specs.First.{first_break}

-- The events are the run that the plan's picks determine with the agents of the word `idle`, it ends so, and each keeps the
-- law on idle runs.
pub record IsIdleRun (plan : Plan) (events : List Event) (ending : Ending) : Type 0 where
  pub worked : IsWorkedWith plan idle_agents events ending
  pub kept : first_break plan events ≡ None
