-- The clause is the lemma.
use Rattle.law_top.proofs.Runs.{at_rest_by}
use Rattle.law_top.proofs.ended_runs_are_at_rest.Goals as goal

pub returns : goal.returns
returns c = at_rest_by
