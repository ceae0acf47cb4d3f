use Rattle.std.proofs.Common.{length}
use Rattle.wdf_plan.proofs.NodeLists.{IsListed}
use Rattle.wdf_plan.proofs.nodes.all_nodes.Given as goal

abbrev pub invariant-loop-placed : goal.invariant-loop-placed
invariant-loop-placed l = IsListed l.scene l.names l.walk l.callback l.variables l.nodes

abbrev pub decreases-loop-placed : goal.decreases-loop-placed
decreases-loop-placed l = length l.walk
