-- The clause is the lemma.
use Rattle.law_lint.proofs.Sound.{locks_are_given_back}
use Rattle.law_lint.proofs.laws.clean_plans_give_locks_back.Goals as goal

pub returns : goal.returns
returns g c = locks_are_given_back
