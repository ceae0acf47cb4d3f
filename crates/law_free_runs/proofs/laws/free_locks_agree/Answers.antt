-- The clause is the lemma.
use Rattle.law_free_runs.proofs.FreeStates.{locks_agree}
use Rattle.law_free_runs.proofs.laws.free_locks_agree.Goals as goal

pub returns : goal.returns
returns g c = locks_agree
