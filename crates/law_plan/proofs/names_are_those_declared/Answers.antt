use Rattle.law_plan.proofs.ItemLines.{plan_names}
use Rattle.law_plan.proofs.names_are_those_declared.Goals as goal

pub returns : goal.returns
returns c = λ scene. plan_names scene
