-- A block more is counted, and its count is kept.
use Rattle.std.proofs.Common.{◌≤◌, ap, sym, ◌∙◌, length, arith}
use Rattle.std.specs.List.{flat_map}
use Rattle.wdf_ready.specs.Blocks.{events_in}
use Rattle.wdf_ready.specs.declared.blocks.Block.TheVariants as block
use Rattle.wdf_model.specs.declared.enums.Group.TheVariants as group
use Rattle.wdf_ready.proofs.Counting.{all_counted, none_counted, one_counted}
use Rattle.wdf_ready.proofs.InBlocks.{blocks_are, fewer_left}
use Rattle.wdf_offers.proofs.Passing.{all_passed, index_there, nothing_passed, pieces_passed, so_many_pass}
use Rattle.wdf_ready.proofs.counts.count_each.Goals as goal

pub loop-at-init : goal.loop-at-init
loop-at-init g c =
    let m = g.A.Agent.meaning in
    record {
      passed = nothing_passed (flat_map (events_in c.args.plan.now m c.args.parts.now c.args.all.now.objects) c.args.all.now.blocks);
      few = omega arith;
      counted = none_counted c.args.plan.now m c.args.parts.now c.args.all.now c.args.stale c.args.each.now.items c.requires.kept;
    }

pub overflow_add-sum : goal.overflow_add-sum
overflow_add-sum g c =
    let here = index_there c.args.all.now.blocks c.loop-at.at (block.One group.Posts) (omega (arith, c.loop-at-test.true, c.len-at-end.ensures)) in
    let left = fewer_left c.args.all.now.objects c.args.all.now.blocks c.loop-at.at c.loop-at.sum c.count_at-count.result _ _ here (c.count_at-count.ensures _ here).1 c.loop-at.invariant.few in
    let few = c.requires.few in
    omega (arith, left, few)

pub loop-at-preserved : goal.loop-at-preserved
loop-at-preserved g c =
    let m = g.A.Agent.meaning in
    let one = events_in c.args.plan.now m c.args.parts.now c.args.all.now.objects in
    let bs = c.args.all.now.blocks in
    let here = index_there bs c.loop-at.at (block.One group.Posts) (omega (arith, c.loop-at-test.true, c.len-at-end.ensures)) in
    let counts = c.count_at-count.ensures _ here in
    record {
      passed = so_many_pass one bs (flat_map one bs) c.loop-at.at c.loop-at.sum _ _ here counts.0 c.loop-at.invariant.passed;
      few = fewer_left c.args.all.now.objects bs c.loop-at.at c.loop-at.sum c.count_at-count.result _ _ here counts.1 c.loop-at.invariant.few;
      counted = one_counted c.args.plan.now m c.args.parts.now c.args.all.now c.args.stale c.loop-at.each.items c.loop-at.at c.count_at-count.result _ here counts c.loop-at.invariant.counted;
    }

pub returns-clause-length : goal.returns-clause-length
returns-clause-length g c =
    let m = g.A.Agent.meaning in
    let one = events_in c.args.plan.now m c.args.parts.now c.args.all.now.objects in
    let bs = c.args.all.now.blocks in
    let past : length bs ≤ c.loop-at.at = omega (arith, c.loop-at-test.false, c.len-at-end.ensures) in
    sym (ap length (blocks_are c.args.plan.now m c.args.parts.now c.args.all.now.objects bs)
    ∙ all_passed (flat_map one bs) c.loop-at.sum (pieces_passed one bs (flat_map one bs) c.loop-at.at c.loop-at.sum past c.loop-at.invariant.passed))

pub returns-clause-each : goal.returns-clause-each
returns-clause-each g c =
    let past : length c.args.all.now.blocks ≤ c.loop-at.at = omega (arith, c.loop-at-test.false, c.len-at-end.ensures) in
    all_counted c.args.plan.now g.A.Agent.meaning c.args.parts.now c.args.all.now c.args.stale c.loop-at.each.items c.loop-at.at past c.loop-at.invariant.counted
