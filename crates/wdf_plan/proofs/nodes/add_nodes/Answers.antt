use Rattle.wdf_plan.specs.Fitting.{IsFitNode}
use Rattle.wdf_plan.specs.Scripts.{node_of}
use Rattle.wdf_plan.proofs.Rooms.{mapped_fits}
use Rattle.wdf_plan.proofs.nodes.add_nodes.Goals as goal

pub add_node-requires-clause-fits : goal.add_node-requires-clause-fits
add_node-requires-clause-fits c =
    rw c.node-item.is (mapped_fits IsFitNode (node_of c.args.names.now c.args.variables.now) c.args.all.now c.loop-node.node-index c.node-item.result c.requires.fit c.loop-node-test.true)
