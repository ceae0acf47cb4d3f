-- The clause is the lemma.
use Rattle.law_free_runs.proofs.FreeRuns as lemmas
use Rattle.law_free_runs.proofs.laws.runs_are_free.Goals as goal

pub returns : goal.returns
returns g c = lemmas.runs_are_free
