-- The clause is the lemma.
use Rattle.law_top.proofs.Runs.{played_by}
use Rattle.law_top.proofs.finished_runs_have_played_all.Goals as goal

pub returns : goal.returns
returns c = played_by
