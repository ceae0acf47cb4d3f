use Rattle.wdf_plan.proofs.NodeLists.{line_nodes, listing_line}
use Rattle.wdf_plan.proofs.nodes.add_line.Goals as goal

pub add_nodes-requires-clause-fit : goal.add_nodes-requires-clause-fit
add_nodes-requires-clause-fit c =
    rw (line_nodes c.args.scene.now c.args.names.now c.args.variables.now c.args.placed.now c.as_slice.result.now c.window.result.now c.nodes_end-to.result c.requires.own c.as_slice.ensures.value c.nodes_end-to.ensures c.window.ensures) c.requires.fit

pub add_nodes-requires-clause-room : goal.add_nodes-requires-clause-room
add_nodes-requires-clause-room c =
    rw (line_nodes c.args.scene.now c.args.names.now c.args.variables.now c.args.placed.now c.as_slice.result.now c.window.result.now c.nodes_end-to.result c.requires.own c.as_slice.ensures.value c.nodes_end-to.ensures c.window.ensures) c.requires.room

pub returns : goal.returns
returns c =
    listing_line c.args.scene.now c.args.names.now c.args.variables.now c.args.placed.now c.as_slice.result.now c.window.result.now c.args.nodes.now c.add_nodes.new.nodes c.nodes_end-to.result c.add_nodes.result c.requires.own c.as_slice.ensures.value c.nodes_end-to.ensures c.window.ensures c.add_nodes.ensures
