use Rattle.wdf_plan.proofs.Whole.{plan_resolved}
use Rattle.wdf_plan.proofs.laws.plans_are_resolved.Goals as goal

pub returns : goal.returns
returns c = λ scene s h e. plan_resolved scene s h e
