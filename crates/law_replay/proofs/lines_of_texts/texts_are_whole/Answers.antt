-- The clause is the lemma on texts.
use Rattle.law_replay.proofs.Cut.{text_whole}
use Rattle.law_replay.proofs.lines_of_texts.texts_are_whole.Goals as goal

pub returns : goal.returns
returns g c = text_whole
