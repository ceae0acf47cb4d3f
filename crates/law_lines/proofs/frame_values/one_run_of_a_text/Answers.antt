-- The clause is the lemma on texts.
use Rattle.law_lines.proofs.OverRuns.{one_run_by_text}
use Rattle.law_lines.proofs.frame_values.one_run_of_a_text.Goals as goal

pub returns : goal.returns
returns g c = one_run_by_text
