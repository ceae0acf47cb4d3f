use Rattle.wdf_plan.proofs.Trees.{has_tree}
use Rattle.wdf_plan.proofs.laws.statements_are_of_trees.Goals as goal

pub returns : goal.returns
returns c = λ scene s k l callback e on. has_tree scene s k l callback e on
