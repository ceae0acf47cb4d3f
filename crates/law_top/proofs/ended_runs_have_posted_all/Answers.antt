-- The clause is the lemma.
use Rattle.law_top.proofs.Runs.{over_by}
use Rattle.law_top.proofs.ended_runs_have_posted_all.Goals as goal

pub returns : goal.returns
returns c = over_by
