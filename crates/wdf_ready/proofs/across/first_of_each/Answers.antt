-- The event is for this object, or the object is passed.
use Rattle.std.proofs.Common.{◌+◌, ◌≤◌, sym, subst, length, arith}
use Rattle.std.specs.List.{flat_map}
use Rattle.wdf_ready.specs.Actors.{is_by}
use Rattle.wdf_offers.specs.Search.{HasNone, IsFirst}
use Rattle.wdf_offers.proofs.Passing.{all_passed, first_in_whole, index_there, none_in, piece_next, pieces_passed, so_many_pass}
use Rattle.wdf_ready.proofs.InBlocks.{each_are, for_object}
use Rattle.wdf_ready.proofs.across.first_of_each.Goals as goal

pub returns-in-Ok-clause-first : goal.returns-in-Ok-clause-first
returns-in-Ok-clause-first g c =
    let one = for_object c.args.plan.now g.A.Agent.meaning c.args.parts.now c.args.cpu c.args.rank in
    let at = index_there c.args.objects.now c.loop-object.object-index _ c.loop-object-test.true in
    subst (λ es. IsFirst (is_by c.args.actor) es (c.loop-object.before + c.in-Ok.place)) (sym (each_are c.args.plan.now g.A.Agent.meaning c.args.parts.now c.args.cpu c.args.rank c.args.objects.now))
    (first_in_whole (is_by c.args.actor) (flat_map one c.args.objects.now) _ _ c.loop-object.before
    (piece_next one c.args.objects.now (flat_map one c.args.objects.now) c.loop-object.object-index c.loop-object.before _ at c.loop-object.invariant.passed)
    c.loop-object.invariant.none c.in-Ok.place c.in-Ok.ensures.first)

pub loop-object-preserved : goal.loop-object-preserved
loop-object-preserved g c =
    let one = for_object c.args.plan.now g.A.Agent.meaning c.args.parts.now c.args.cpu c.args.rank in
    let at = index_there c.args.objects.now c.loop-object.object-index _ c.loop-object-test.true in
    let none = c.in-Err.ensures.first in
    let small = c.in-Err.ensures.small in
    let few = c.loop-object.invariant.few in
    record {
      passed = so_many_pass one c.args.objects.now (flat_map one c.args.objects.now) c.loop-object.object-index c.loop-object.before _ _ at (sym none.0) c.loop-object.invariant.passed;
      none = none_in (is_by c.args.actor) (flat_map one c.args.objects.now) _ _ c.loop-object.before
          (piece_next one c.args.objects.now (flat_map one c.args.objects.now) c.loop-object.object-index c.loop-object.before _ at c.loop-object.invariant.passed)
          c.loop-object.invariant.none c.in-Err.count none;
      few = omega arith;
    }

pub returns-clause-first : goal.returns-clause-first
returns-clause-first g c =
    let one = for_object c.args.plan.now g.A.Agent.meaning c.args.parts.now c.args.cpu c.args.rank in
    let past : length c.args.objects.now ≤ c.loop-object.object-index = omega (arith, c.loop-object-test.false) in
    subst (λ es. HasNone (is_by c.args.actor) es c.loop-object.before) (sym (each_are c.args.plan.now g.A.Agent.meaning c.args.parts.now c.args.cpu c.args.rank c.args.objects.now)) (
      all_passed (flat_map one c.args.objects.now) c.loop-object.before (pieces_passed one c.args.objects.now (flat_map one c.args.objects.now) c.loop-object.object-index c.loop-object.before past c.loop-object.invariant.passed),
      c.loop-object.invariant.none,
    )
