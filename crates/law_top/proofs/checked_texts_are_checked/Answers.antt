-- The clause is the lemma.
use Rattle.law_top.proofs.Texts.{checked_again}
use Rattle.law_top.proofs.checked_texts_are_checked.Goals as goal

pub returns : goal.returns
returns c = checked_again
