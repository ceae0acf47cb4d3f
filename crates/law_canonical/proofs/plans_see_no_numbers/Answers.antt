-- The clause is the lemma.
use Rattle.law_canonical.proofs.Plans.{plans_alike}
use Rattle.law_canonical.proofs.plans_see_no_numbers.Goals as goal

pub returns : goal.returns
returns c = plans_alike
