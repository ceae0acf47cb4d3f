-- The event is in this block, or the block is passed.
use Rattle.std.proofs.Common.{◌-◌, ◌≤◌, ap, sym, ◌∙◌, length, slice_get, arith}
use Rattle.std.specs.List.{flat_map}
use Rattle.wdf_ready.specs.Blocks.{events_in}
use Rattle.wdf_offers.proofs.Passing.{beyond, piece_at, piece_left, pieces_passed}
use Rattle.wdf_ready.proofs.Counting.{none_counted, read_right}
use Rattle.wdf_ready.proofs.InBlocks.{blocks_are}
use Rattle.wdf_ready.proofs.counts.KeptCounts.at.Goals as goal

pub event_of-requires-clause-known : goal.event_of-requires-clause-known
event_of-requires-clause-known g c = λ known.
    let m = g.A.Agent.meaning in
    read_right c.args.plan.now m c.args.parts.now c.args.all.now c.self.inside.stale c.self.inside.each.items 0 c.loop-at.at _ c.index.result.now
    (none_counted c.args.plan.now m c.args.parts.now c.args.all.now c.self.inside.stale c.self.inside.each.items (rw (← c.self.view_is) at c.requires.kept))
    c.at.ensures c.index.ensures known

pub returns-in-Ok : goal.returns-in-Ok
returns-in-Ok g c =
    let one = events_in c.args.plan.now g.A.Agent.meaning c.args.parts.now c.args.all.now.objects in
    let bs = c.args.all.now.blocks in
    let few = c.loop-at.invariant.few in
    sym (ap (λ es. slice_get es c.args.k) (blocks_are c.args.plan.now g.A.Agent.meaning c.args.parts.now c.args.all.now.objects bs)
    ∙ piece_at one bs (flat_map one bs) c.loop-at.at (c.args.k - c.loop-at.left) c.loop-at.left c.args.k _ c.in-Ok.event c.at.ensures c.loop-at.invariant.passed (omega arith) c.in-Ok.ensures)

pub loop-at-preserved : goal.loop-at-preserved
loop-at-preserved g c =
    let one = events_in c.args.plan.now g.A.Agent.meaning c.args.parts.now c.args.all.now.objects in
    let bs = c.args.all.now.blocks in
    let few = c.loop-at.invariant.few in
    let rest = c.in-Err.ensures in
    record {
      passed = piece_left one bs (flat_map one bs) c.loop-at.at c.loop-at.left c.args.k c.in-Err.rest _ c.at.ensures c.loop-at.invariant.passed few rest;
      few = omega arith;
    }

pub returns : goal.returns
returns g c =
    let one = events_in c.args.plan.now g.A.Agent.meaning c.args.parts.now c.args.all.now.objects in
    let bs = c.args.all.now.blocks in
    let few = c.loop-at.invariant.few in
    let past : length bs ≤ c.loop-at.at = omega (arith, c.loop-at-test.false, c.len-at-end.ensures) in
    sym (ap (λ es. slice_get es c.args.k) (blocks_are c.args.plan.now g.A.Agent.meaning c.args.parts.now c.args.all.now.objects bs)
    ∙ beyond (flat_map one bs) (c.args.k - c.loop-at.left) c.loop-at.left c.args.k (pieces_passed one bs (flat_map one bs) c.loop-at.at (c.args.k - c.loop-at.left) past c.loop-at.invariant.passed) (omega arith))
