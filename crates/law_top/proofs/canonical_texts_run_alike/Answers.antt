-- The clause is the lemma.
use Rattle.law_top.proofs.Again.{run_again}
use Rattle.law_top.proofs.canonical_texts_run_alike.Goals as goal

pub returns : goal.returns
returns c = run_again
