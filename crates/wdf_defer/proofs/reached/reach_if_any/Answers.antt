-- The block is told, by a look at it or since nothing in it becomes due.
use Rattle.wdf_defer.proofs.Reaching.{block_passed, block_told}
use Rattle.wdf_defer.proofs.reached.reach_if_any.Goals as goal

pub returns-then-now-floor-clause-reached : goal.returns-then-now-floor-clause-reached
returns-then-now-floor-clause-reached c seen early was =
    rw c.of-floor.ensures (block_passed c.args.queued.now c.args.ticks.now c.args.now seen early c.args.reached.now c.args.floors.now c.args.o.0 (rw c.of-floor.ensures at c.if-now-floor.true) was)

pub returns-clause-reached : goal.returns-clause-reached
returns-clause-reached c seen early was = (
  rw c.put.ensures (block_told c.args.queued.now c.args.ticks.now c.args.now seen early c.args.reached.now c.reach_block-floor.new.reached c.args.floors.now c.args.o.0 c.reach_block-floor.result was c.reach_block-floor.ensures.adds c.reach_block-floor.ensures.floor),
  c.reach_block-floor.ensures.floor,
)
