-- The clause is the lemma on the plans of texts.
use Rattle.law_replay.proofs.Whole.{whole_by_text}
use Rattle.law_replay.proofs.texts_of_runs.traces_of_texts_are_whole.Goals as goal

pub returns : goal.returns
returns c = whole_by_text
