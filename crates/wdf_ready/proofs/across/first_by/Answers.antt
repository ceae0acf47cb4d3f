-- The event is in this block, or the block is passed.
use Rattle.std.proofs.Common.{◌≤◌, ap, sym, ◌∙◌, length, position, arith}
use Rattle.std.specs.List.{flat_map}
use Rattle.wdf_ready.specs.Actors.{is_by}
use Rattle.wdf_ready.specs.Blocks.{events_in}
use Rattle.wdf_offers.proofs.Passing.{all_passed, first_of, none_at, none_in, nothing_passed, piece_next, pieces_passed, so_many_pass}
use Rattle.wdf_ready.proofs.InBlocks.{block_within, blocks_are, fewer_left}
use Rattle.wdf_ready.proofs.across.first_by.Goals as goal

pub loop-at-init : goal.loop-at-init
loop-at-init g c =
    record {
      passed = nothing_passed (flat_map (events_in c.args.plan.now g.A.Agent.meaning c.args.parts.now c.args.all.now.objects) c.args.all.now.blocks);
      none = λ j x low. absurd (omega (arith, low));
      few = omega arith;
    }

pub first_in_block-requires-clause-few : goal.first_in_block-requires-clause-few
first_in_block-requires-clause-few g c =
    let within = block_within c.args.all.now.objects c.args.all.now.blocks c.loop-at.at _ c.at.ensures in
    let few = c.requires.few in
    omega (arith, within, few)

pub overflow_add-result : goal.overflow_add-result
overflow_add-result g c =
    let left = fewer_left c.args.all.now.objects c.args.all.now.blocks c.loop-at.at c.loop-at.before c.in-Ok.place _ _ c.at.ensures c.in-Ok.ensures.small c.loop-at.invariant.few in
    let few = c.requires.few in
    omega (arith, left, few)

pub overflow_add-before : goal.overflow_add-before
overflow_add-before g c =
    let left = fewer_left c.args.all.now.objects c.args.all.now.blocks c.loop-at.at c.loop-at.before c.in-Err.count _ _ c.at.ensures c.in-Err.ensures.small c.loop-at.invariant.few in
    let few = c.requires.few in
    omega (arith, left, few)

pub returns-in-Ok : goal.returns-in-Ok
returns-in-Ok g c =
    let one = events_in c.args.plan.now g.A.Agent.meaning c.args.parts.now c.args.all.now.objects in
    let bs = c.args.all.now.blocks in
    sym (ap (position (is_by c.args.actor)) (blocks_are c.args.plan.now g.A.Agent.meaning c.args.parts.now c.args.all.now.objects bs)
    ∙ first_of (is_by c.args.actor) (flat_map one bs) _ _ c.loop-at.before (piece_next one bs (flat_map one bs) c.loop-at.at c.loop-at.before _ c.at.ensures c.loop-at.invariant.passed)
    c.loop-at.invariant.none c.in-Ok.place c.in-Ok.ensures.first)

pub loop-at-preserved : goal.loop-at-preserved
loop-at-preserved g c =
    let one = events_in c.args.plan.now g.A.Agent.meaning c.args.parts.now c.args.all.now.objects in
    let bs = c.args.all.now.blocks in
    let none = c.in-Err.ensures.first in
    record {
      passed = so_many_pass one bs (flat_map one bs) c.loop-at.at c.loop-at.before _ _ c.at.ensures (sym none.0) c.loop-at.invariant.passed;
      none = none_in (is_by c.args.actor) (flat_map one bs) _ _ c.loop-at.before (piece_next one bs (flat_map one bs) c.loop-at.at c.loop-at.before _ c.at.ensures c.loop-at.invariant.passed)
          c.loop-at.invariant.none c.in-Err.count none;
      few = fewer_left c.args.all.now.objects bs c.loop-at.at c.loop-at.before c.in-Err.count _ _ c.at.ensures c.in-Err.ensures.small c.loop-at.invariant.few;
    }

pub returns : goal.returns
returns g c =
    let one = events_in c.args.plan.now g.A.Agent.meaning c.args.parts.now c.args.all.now.objects in
    let bs = c.args.all.now.blocks in
    let past : length bs ≤ c.loop-at.at = omega (arith, c.loop-at-test.false, c.len-at-end.ensures) in
    let whole = all_passed (flat_map one bs) c.loop-at.before (pieces_passed one bs (flat_map one bs) c.loop-at.at c.loop-at.before past c.loop-at.invariant.passed) in
    sym (ap (position (is_by c.args.actor)) (blocks_are c.args.plan.now g.A.Agent.meaning c.args.parts.now c.args.all.now.objects bs)
    ∙ none_at (is_by c.args.actor) (flat_map one bs) c.loop-at.before (omega (arith, whole)) c.loop-at.invariant.none)
