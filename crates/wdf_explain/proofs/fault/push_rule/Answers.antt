-- The rule is between.
use Rattle.wdf_explain.specs.Stories.{rule_line}
use Rattle.wdf_explain.proofs.fault.push_rule.Goals as goal

pub returns : goal.returns
unfolding rule_line
returns c = rw c.rule_of.ensures at c.push_three.ensures
