-- The clause is the lemma on two runs.
use Rattle.law_lines.proofs.OneRun.{same_text}
use Rattle.law_lines.proofs.run_lines.one_run_a_text.Goals as goal

pub returns : goal.returns
returns g c = same_text
