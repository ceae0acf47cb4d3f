-- The clause is the lemma.
use Rattle.law_top.proofs.Texts.{written_accepted}
use Rattle.law_top.proofs.written_runs_are_accepted.Goals as goal

pub returns : goal.returns
returns c = written_accepted
