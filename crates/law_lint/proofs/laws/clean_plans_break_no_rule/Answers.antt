-- The clause is the lemma.
use Rattle.law_lint.proofs.Scripts.{scripts_are_kept}
use Rattle.law_lint.proofs.laws.clean_plans_break_no_rule.Goals as goal

pub returns : goal.returns
returns g c = scripts_are_kept
