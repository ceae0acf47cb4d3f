-- A block more is counted.
use Rattle.std.proofs.Common.{◌≤◌, ap, sym, ◌∙◌, length, arith}
use Rattle.std.specs.List.{flat_map}
use Rattle.wdf_ready.specs.Blocks.{events_in}
use Rattle.wdf_ready.proofs.Counting.{none_counted, read_right, read_small}
use Rattle.wdf_ready.proofs.InBlocks.{block_within, blocks_are, fewer_left}
use Rattle.wdf_offers.proofs.Passing.{all_passed, nothing_passed, pieces_passed, so_many_pass}
use Rattle.wdf_ready.proofs.counts.KeptCounts.len.Goals as goal

pub loop-at-init : goal.loop-at-init
loop-at-init g c = record {
  passed = nothing_passed (flat_map (events_in c.args.plan.now g.A.Agent.meaning c.args.parts.now c.args.all.now.objects) c.args.all.now.blocks);
  few = omega arith;
}

pub len_of-sum-requires-clause-few : goal.len_of-sum-requires-clause-few
len_of-sum-requires-clause-few g c =
    let within = block_within c.args.all.now.objects c.args.all.now.blocks c.loop-at.at _ c.at.ensures in
    let few = c.requires.few in
    omega (arith, within, few)

pub len_of-sum-requires-clause-known : goal.len_of-sum-requires-clause-known
len_of-sum-requires-clause-known g c = λ known.
    let m = g.A.Agent.meaning in
    read_right c.args.plan.now m c.args.parts.now c.args.all.now c.self.inside.stale c.self.inside.each.items 0 c.loop-at.at _ c.index.result.now
    (none_counted c.args.plan.now m c.args.parts.now c.args.all.now c.self.inside.stale c.self.inside.each.items (rw (← c.self.view_is) at c.requires.kept))
    c.at.ensures c.index.ensures known

pub len_of-sum-requires-clause-small : goal.len_of-sum-requires-clause-small
len_of-sum-requires-clause-small g c =
    let m = g.A.Agent.meaning in
    read_small c.args.plan.now m c.args.parts.now c.args.all.now c.self.inside.stale c.self.inside.each.items 0 c.loop-at.at _ c.index.result.now
    (none_counted c.args.plan.now m c.args.parts.now c.args.all.now c.self.inside.stale c.self.inside.each.items (rw (← c.self.view_is) at c.requires.kept))
    c.at.ensures c.index.ensures

pub overflow_add-sum : goal.overflow_add-sum
overflow_add-sum g c =
    let left = fewer_left c.args.all.now.objects c.args.all.now.blocks c.loop-at.at c.loop-at.sum c.len_of-sum.result _ _ c.at.ensures c.len_of-sum.ensures.small c.loop-at.invariant.few in
    let few = c.requires.few in
    omega (arith, left, few)

pub loop-at-preserved : goal.loop-at-preserved
loop-at-preserved g c =
    let one = events_in c.args.plan.now g.A.Agent.meaning c.args.parts.now c.args.all.now.objects in
    let bs = c.args.all.now.blocks in
    record {
      passed = so_many_pass one bs (flat_map one bs) c.loop-at.at c.loop-at.sum _ _ c.at.ensures c.len_of-sum.ensures.length c.loop-at.invariant.passed;
      few = fewer_left c.args.all.now.objects bs c.loop-at.at c.loop-at.sum c.len_of-sum.result _ _ c.at.ensures c.len_of-sum.ensures.small c.loop-at.invariant.few;
    }

pub returns-clause-length : goal.returns-clause-length
returns-clause-length g c =
    let m = g.A.Agent.meaning in
    let one = events_in c.args.plan.now m c.args.parts.now c.args.all.now.objects in
    let bs = c.args.all.now.blocks in
    let past : length bs ≤ c.loop-at.at = omega (arith, c.loop-at-test.false, c.len-at-end.ensures) in
    sym (ap length (blocks_are c.args.plan.now m c.args.parts.now c.args.all.now.objects bs)
    ∙ all_passed (flat_map one bs) c.loop-at.sum (pieces_passed one bs (flat_map one bs) c.loop-at.at c.loop-at.sum past c.loop-at.invariant.passed))
