-- The clause is the lemma.
use Rattle.law_replay.proofs.Exactly.{tells_runs}
use Rattle.law_replay.proofs.verdicts.texts_tell_runs.Goals as goal

pub returns : goal.returns
returns c = tells_runs
