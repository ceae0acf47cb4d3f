use Rattle.std.proofs.Common.{◌≡◌, ◌++◌, map, take}
use Rattle.wdf_plan.specs.Scripts.{node_of}
use Rattle.wdf_plan.proofs.nodes.add_nodes.Given as goal

abbrev pub invariant-loop-node : goal.invariant-loop-node
invariant-loop-node l =
    l.nodes ≡ l.fn.nodes ++ map (node_of l.names l.variables) (take l.node-index l.all)
