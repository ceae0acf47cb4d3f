-- The clause is the lemma.
use Rattle.law_replay.proofs.OneVerdict.{one_of_two}
use Rattle.law_replay.proofs.verdicts.one_verdict.Goals as goal

pub returns : goal.returns
returns g c = one_of_two
