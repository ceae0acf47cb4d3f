-- The clause is the lemma.
use Rattle.law_at_rest.proofs.Due.{all_played}
use Rattle.law_at_rest.proofs.finished_runs_have_played_all.Goals as goal

pub returns : goal.returns
returns c = λ plan run resolved is_run ends. all_played plan run resolved is_run ends
