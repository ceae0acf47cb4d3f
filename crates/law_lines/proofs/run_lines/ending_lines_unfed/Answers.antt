-- The clause is the lemma on lines of endings.
use Rattle.law_lines.proofs.Unfed.{ending_unfed}
use Rattle.law_lines.proofs.run_lines.ending_lines_unfed.Goals as goal

pub returns : goal.returns
returns c = λ events e. (ending_unfed events e).each
