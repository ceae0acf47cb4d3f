-- The clause is the lemma.
use Rattle.law_top.proofs.Runs.{tells}
use Rattle.law_top.proofs.written_texts_tell_runs.Goals as goal

pub returns : goal.returns
returns c = tells
