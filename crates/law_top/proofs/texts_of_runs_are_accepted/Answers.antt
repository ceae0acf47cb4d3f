-- The clause is the lemma.
use Rattle.law_top.proofs.Texts.{text_accepted}
use Rattle.law_top.proofs.texts_of_runs_are_accepted.Goals as goal

pub returns : goal.returns
returns c = text_accepted
