-- The plan of a text is resolved.
use Rattle.wdf_top.proofs.Resolving.{text_plan_resolved}
use Rattle.test_threads.proofs.fed.plan_of.Goals as goal

pub returns-in-Ok-read_plan : goal.returns-in-Ok-read_plan
returns-in-Ok-read_plan c = text_plan_resolved c.in-Ok-read_plan.ensures.plan.0 c.in-Ok-read_plan.plan c.in-Ok-read_plan.ensures.plan.2
