-- The clause is the lemma on lines.
use Rattle.law_lines.proofs.Cut.{cut_once}
use Rattle.law_lines.proofs.run_lines.lines_are_cut_once.Goals as goal

pub returns : goal.returns
returns c = cut_once
