use Rattle.wdf_top.proofs.Resolving.{text_plan_resolved}
use Rattle.wdf_top.proofs.laws.plans_of_texts_are_resolved.Goals as goal

pub returns : goal.returns
returns c = text_plan_resolved
