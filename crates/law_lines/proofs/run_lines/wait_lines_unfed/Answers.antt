-- The clause is the lemma on lines of the wait list.
use Rattle.law_lines.proofs.Unfed.{wait_unfed}
use Rattle.law_lines.proofs.run_lines.wait_lines_unfed.Goals as goal

pub returns : goal.returns
returns c = λ plan h w. (wait_unfed plan h w).each
