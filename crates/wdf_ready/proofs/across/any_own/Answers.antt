-- A block that has an event gives one to all.
use Rattle.std.proofs.Common.{ap, length, arith}
use Rattle.wdf_ready.specs.Blocks.{events_in}
use Rattle.wdf_ready.proofs.InBlocks.{blocks_are, some_events}
use Rattle.wdf_ready.proofs.across.any_own.Goals as goal

pub returns-then-has_own : goal.returns-then-has_own
returns-then-has_own g c = λ _.
    let all = ap length (blocks_are c.args.plan.now g.A.Agent.meaning c.args.parts.now c.args.all.now.objects c.args.all.now.blocks) in
    let some = some_events (events_in c.args.plan.now g.A.Agent.meaning c.args.parts.now c.args.all.now.objects) c.args.all.now.blocks c.loop-at.at _ c.at.ensures (c.has_own.ensures c.if-has_own.true) in
    omega (arith, all, some)
