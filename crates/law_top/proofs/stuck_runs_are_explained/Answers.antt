-- The clause is the lemma.
use Rattle.law_top.proofs.Runs.{stuck_explained}
use Rattle.law_top.proofs.stuck_runs_are_explained.Goals as goal

pub returns : goal.returns
returns c = stuck_explained
