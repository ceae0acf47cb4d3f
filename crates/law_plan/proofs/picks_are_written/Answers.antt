use Rattle.law_plan.proofs.ItemLines.{plan_picks}
use Rattle.law_plan.proofs.picks_are_written.Goals as goal

pub returns : goal.returns
returns c = λ scene. plan_picks scene
