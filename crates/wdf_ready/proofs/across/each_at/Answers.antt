-- The event is for this object, or the object is passed.
use Rattle.std.proofs.Common.{◌-◌, ap, ◌∙◌, length, slice_get, arith}
use Rattle.std.specs.List.{flat_map}
use Rattle.wdf_offers.proofs.Passing.{all_passed, index_there, piece_at, piece_left}
use Rattle.wdf_ready.proofs.InBlocks.{each_are, for_object}
use Rattle.wdf_ready.proofs.Skipped.{passed_to, passed_whole}
use Rattle.wdf_ready.proofs.across.each_at.Goals as goal

pub returns-in-Ok : goal.returns-in-Ok
returns-in-Ok g c =
    let one = for_object c.args.plan.now g.A.Agent.meaning c.args.parts.now c.args.cpu c.args.rank in
    let few = c.walk.invariant.few in
    ap (λ es. slice_get es c.args.k) (each_are c.args.plan.now g.A.Agent.meaning c.args.parts.now c.args.cpu c.args.rank c.args.objects.now)
    ∙ piece_at one c.args.objects.now (flat_map one c.args.objects.now) c.in-Some.place (c.args.k - c.walk.left) c.walk.left c.args.k _ c.in-Ok.event
    (index_there c.args.objects.now c.in-Some.place 0 c.in-Some.ensures.within)
    (passed_to c.args.plan.now g.A.Agent.meaning c.args.parts.now c.args.cpu c.args.rank c.args.objects.now c.walk.at (flat_map one c.args.objects.now) (c.args.k - c.walk.left) c.in-Some.place c.in-Some.ensures c.walk.invariant.passed)
    (omega arith) c.in-Ok.ensures

pub walk-preserved : goal.walk-preserved
walk-preserved g c =
    let one = for_object c.args.plan.now g.A.Agent.meaning c.args.parts.now c.args.cpu c.args.rank in
    let few = c.walk.invariant.few in
    let rest = c.in-Err.ensures in
    let after = c.in-Some.ensures.after in
    let within = c.in-Some.ensures.within in
    record {
      passed = piece_left one c.args.objects.now (flat_map one c.args.objects.now) c.in-Some.place c.walk.left c.args.k c.in-Err.rest _
          (index_there c.args.objects.now c.in-Some.place 0 within)
          (passed_to c.args.plan.now g.A.Agent.meaning c.args.parts.now c.args.cpu c.args.rank c.args.objects.now c.walk.at (flat_map one c.args.objects.now) (c.args.k - c.walk.left) c.in-Some.place c.in-Some.ensures c.walk.invariant.passed)
          few rest;
      few = omega arith;
      within = omega arith;
    }

pub returns : goal.returns
returns g c =
    let one = for_object c.args.plan.now g.A.Agent.meaning c.args.parts.now c.args.cpu c.args.rank in
    let few = c.walk.invariant.few in
    let all = ap length (each_are c.args.plan.now g.A.Agent.meaning c.args.parts.now c.args.cpu c.args.rank c.args.objects.now) in
    let many = all_passed (flat_map one c.args.objects.now) (c.args.k - c.walk.left)
    (passed_whole c.args.plan.now g.A.Agent.meaning c.args.parts.now c.args.cpu c.args.rank c.args.objects.now c.walk.at (flat_map one c.args.objects.now) (c.args.k - c.walk.left) c.in_default.ensures c.walk.invariant.passed) in
    omega (arith, all, many, few)
