-- The clause is the lemma.
use Rattle.law_canonical.proofs.Canonical.{has_runs_too}
use Rattle.law_canonical.proofs.canonical_texts_have_the_same_runs.Goals as goal

pub returns : goal.returns
returns c = has_runs_too
