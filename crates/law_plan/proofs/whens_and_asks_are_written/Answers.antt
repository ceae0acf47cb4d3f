use Rattle.law_plan.proofs.ItemLines.{whens_are, asks_are}
use Rattle.law_plan.proofs.whens_and_asks_are_written.Goals as goal

pub returns-clause-whens : goal.returns-clause-whens
returns-clause-whens c = λ scene e. whens_are scene e

pub returns-clause-asks : goal.returns-clause-asks
returns-clause-asks c = λ scene e. asks_are scene e
