use Rattle.wdf_blocks.specs.Placed.{placed}
use Rattle.wdf_plan.specs.Plans.{plan_of}
use Rattle.law_plan.specs.Told.{AreNodesTold}
use Rattle.law_plan.proofs.NodeLines.{nodes_are}
use Rattle.law_plan.proofs.Pairs.{each_of}
use Rattle.law_plan.proofs.expressions_are_written.Goals as goal

pub returns : goal.returns
returns c = λ scene s e. each_of (AreNodesTold (plan_of scene) scene) (placed scene) (nodes_are scene s e)
