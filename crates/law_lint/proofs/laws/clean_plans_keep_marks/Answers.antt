-- The clause is the lemma.
use Rattle.law_lint.proofs.Sound.{marks_are_kept}
use Rattle.law_lint.proofs.laws.clean_plans_keep_marks.Goals as goal

pub returns : goal.returns
returns g c = marks_are_kept
