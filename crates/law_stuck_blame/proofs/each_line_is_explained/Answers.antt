-- The clause is the lemma on each line.
use Rattle.law_stuck_blame.proofs.Explained.{explained}
use Rattle.law_stuck_blame.proofs.each_line_is_explained.Goals as goal

pub returns : goal.returns
returns g c = explained
