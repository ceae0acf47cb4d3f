-- The clause is the lemma.
use Rattle.law_free_runs.proofs.FreeStates.{frames_there}
use Rattle.law_free_runs.proofs.laws.free_frames_there.Goals as goal

pub returns : goal.returns
returns g c = frames_there
