-- The clause is the lemma.
use Rattle.law_top.proofs.Texts.{plan_checked}
use Rattle.law_top.proofs.plans_are_checked.Goals as goal

pub returns : goal.returns
returns c = plan_checked
