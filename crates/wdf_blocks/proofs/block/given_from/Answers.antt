use Rattle.wdf_blocks.proofs.Scans.{scan_found, scan_over, scan_more, scan_none}
use Rattle.wdf_blocks.proofs.block.given_from.Goals as goal

pub returns-then-counts_for : goal.returns-then-counts_for
returns-then-counts_for c =
    scan_found _ _ _ _ _ c.index-lines-at.result c.loop-at.invariant c.loop-at-test.true c.index-lines-at.is c.if-counts_for.ensures

pub returns-then-ends_block : goal.returns-then-ends_block
returns-then-ends_block c =
    scan_over _ _ _ _ _ c.index-lines-at.result c.loop-at.invariant c.loop-at-test.true c.index-lines-at.is c.if-counts_for.ensures c.if-ends_block.ensures

pub loop-at-preserved : goal.loop-at-preserved
loop-at-preserved c =
    scan_more _ _ _ _ _ _ c.index-lines-at.result c.loop-at.invariant c.loop-at-test.true c.index-lines-at.is c.if-counts_for.ensures c.if-ends_block.ensures c.depth_after-depth.ensures

pub returns : goal.returns
returns c = scan_none _ _ _ _ _ c.loop-at.invariant c.loop-at-test.false
