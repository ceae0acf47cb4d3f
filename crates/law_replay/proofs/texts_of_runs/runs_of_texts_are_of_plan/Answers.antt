-- The clause is the lemma on runs.
use Rattle.law_replay.proofs.Whole.{events_of_text}
use Rattle.law_replay.proofs.texts_of_runs.runs_of_texts_are_of_plan.Goals as goal

pub returns : goal.returns
returns c = events_of_text
