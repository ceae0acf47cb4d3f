use Rattle.wdf_blocks.proofs.Assigned.{collect_over, collect_more, collect_end}
use Rattle.wdf_blocks.proofs.variables.assigned_from.Goals as goal

pub returns-then-ends_block : goal.returns-then-ends_block
returns-then-ends_block c =
    collect_over _ _ _ _ _ c.index-lines-at.result c.loop-at.invariant c.loop-at-test.true c.index-lines-at.is c.if-ends_block.ensures

pub loop-at-preserved : goal.loop-at-preserved
loop-at-preserved c =
    collect_more _ _ _ _ _ _ _ c.index-lines-at.result _ c.loop-at.invariant c.loop-at-test.true c.index-lines-at.is c.if-ends_block.ensures c.assigned_name.ensures c.in_ok-add_assigned.ensures c.depth_after-depth.ensures

pub returns : goal.returns
returns c = collect_end _ _ _ _ _ c.loop-at.invariant c.loop-at-test.false
