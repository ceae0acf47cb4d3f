-- The clause is the lemma on lines of events.
use Rattle.law_lines.proofs.Unfed.{line_unfed}
use Rattle.law_lines.proofs.run_lines.event_lines_unfed.Goals as goal

pub returns : goal.returns
returns c = λ plan h number e. (line_unfed plan h number e).each
