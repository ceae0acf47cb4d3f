use Rattle.wdf_plan.proofs.NodeLists.{listing_begins, listing_own, listing_fits}
use Rattle.wdf_plan.proofs.nodes.all_nodes.Goals as goal

pub loop-placed-init : goal.loop-placed-init
loop-placed-init c =
    listing_begins _ _ _ _ _ c.walk-walk.ensures c.new-variables.ensures c.new-nodes.ensures

pub add_line-requires-clause-own : goal.add_line-requires-clause-own
add_line-requires-clause-own c = listing_own _ _ _ c.in_ok-variables.ensures

pub add_line-requires-clause-fit : goal.add_line-requires-clause-fit
add_line-requires-clause-fit c =
    rw c.scene-own.ensures (listing_fits _ _ _ _ _ _ _ _ c.loop-placed.invariant c.in-Some.ensures c.requires.fit)
