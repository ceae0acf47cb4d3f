-- The clause is the lemma on texts.
use Rattle.law_replay.proofs.Whole.{whole_exactly}
use Rattle.law_replay.proofs.texts_of_runs.texts_of_runs_are_whole.Goals as goal

pub returns : goal.returns
returns g c = whole_exactly
