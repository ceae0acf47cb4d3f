-- The clause is the lemma.
use Rattle.law_canonical.proofs.Canonical.{canonical_is}
use Rattle.law_canonical.proofs.canonical_texts_are_canonical.Goals as goal

pub returns : goal.returns
returns c = canonical_is
