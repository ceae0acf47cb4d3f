-- The clause is the lemma.
use Rattle.law_lint.proofs.Scripts.{runs_keep_scripts}
use Rattle.law_lint.proofs.laws.clean_plans_break_no_rule_in_runs.Goals as goal

pub returns : goal.returns
returns g c = runs_keep_scripts
