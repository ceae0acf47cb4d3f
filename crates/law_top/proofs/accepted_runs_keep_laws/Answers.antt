-- The clause is the lemma.
use Rattle.law_top.proofs.Runs.{accepted_keep_laws}
use Rattle.law_top.proofs.accepted_runs_keep_laws.Goals as goal

pub returns : goal.returns
returns c = accepted_keep_laws
