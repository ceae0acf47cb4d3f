use Rattle.law_plan.proofs.PeriodLines.{periods_are}
use Rattle.law_plan.proofs.periods_are_written.Goals as goal

pub returns : goal.returns
returns c = λ scene s. periods_are scene s
