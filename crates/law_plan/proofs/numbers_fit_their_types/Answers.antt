use Rattle.law_plan.proofs.FittingNumbers.{numbers_fit}
use Rattle.law_plan.proofs.numbers_fit_their_types.Goals as goal

pub returns : goal.returns
returns c = λ scene s e. numbers_fit scene s e
