-- The clause is the lemma.
use Rattle.law_canonical.proofs.Refusals.{refusals_alike}
use Rattle.law_canonical.proofs.refusals_see_no_numbers.Goals as goal

pub returns : goal.returns
returns c = refusals_alike
