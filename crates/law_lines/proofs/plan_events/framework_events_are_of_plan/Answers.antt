-- The clause is the lemma on what is ready.
use Rattle.law_lines.proofs.OfPlan.{framework_of_plan}
use Rattle.law_lines.proofs.plan_events.framework_events_are_of_plan.Goals as goal

pub returns : goal.returns
returns g c = framework_of_plan
