use Rattle.wdf_parse.specs.Printing.{printed}
use Rattle.wdf_parse.proofs.ProperNames.{stands_scene, stands_properly}
use Rattle.wdf_plan.proofs.Whole.{plan_resolved}
use Rattle.wdf_gen.specs.Generated.{generated}
use Rattle.law_generated.proofs.Plans.{generated_accepted}
use Rattle.law_generated.proofs.Texts.{generated_stands}
use Rattle.law_generated.proofs.generated_scenes_have_plans.Goals as goal

pub returns-clause-accepted : goal.returns-clause-accepted
returns-clause-accepted c = λ n. generated_accepted n

pub returns-clause-resolved : goal.returns-clause-resolved
returns-clause-resolved c = λ n. plan_resolved (generated n) (stands_scene (printed (generated n)) (generated n) (generated_stands n)) (stands_properly (printed (generated n)) (generated n) (generated_stands n)) (generated_accepted n)
