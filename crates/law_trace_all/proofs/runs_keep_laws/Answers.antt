-- The clause is the lemma on all of them.
use Rattle.law_trace_all.proofs.Together.{all_kept}
use Rattle.law_trace_all.proofs.runs_keep_laws.Goals as goal

pub returns : goal.returns
returns g c = all_kept
