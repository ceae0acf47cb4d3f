-- An object more is counted.
use Rattle.std.proofs.Common.{ap, sym, ◌∙◌, length, arith}
use Rattle.std.specs.List.{flat_map}
use Rattle.wdf_offers.proofs.Passing.{all_passed, index_there, nothing_passed, so_many_pass}
use Rattle.wdf_ready.proofs.InBlocks.{each_are, for_object}
use Rattle.wdf_ready.proofs.Skipped.{passed_to, passed_whole}
use Rattle.wdf_ready.proofs.across.each_len.Goals as goal

pub walk-init : goal.walk-init
walk-init g c =
    record {
      passed = nothing_passed (flat_map (for_object c.args.plan.now g.A.Agent.meaning c.args.parts.now c.args.cpu c.args.rank) c.args.objects.now);
      few = omega arith;
      within = omega arith;
    }

pub walk-preserved : goal.walk-preserved
walk-preserved g c =
    let one = for_object c.args.plan.now g.A.Agent.meaning c.args.parts.now c.args.cpu c.args.rank in
    let small = c.starts_for_len-sum.ensures.small in
    let few = c.walk.invariant.few in
    let after = c.in-Some.ensures.after in
    let within = c.in-Some.ensures.within in
    record {
      passed = so_many_pass one c.args.objects.now (flat_map one c.args.objects.now) c.in-Some.place c.walk.sum _ _
          (index_there c.args.objects.now c.in-Some.place 0 within) c.starts_for_len-sum.ensures.length
          (passed_to c.args.plan.now g.A.Agent.meaning c.args.parts.now c.args.cpu c.args.rank c.args.objects.now c.walk.at (flat_map one c.args.objects.now) c.walk.sum c.in-Some.place c.in-Some.ensures c.walk.invariant.passed);
      few = omega arith;
      within = omega arith;
    }

pub returns-clause-length : goal.returns-clause-length
returns-clause-length g c =
    let one = for_object c.args.plan.now g.A.Agent.meaning c.args.parts.now c.args.cpu c.args.rank in
    sym (ap length (each_are c.args.plan.now g.A.Agent.meaning c.args.parts.now c.args.cpu c.args.rank c.args.objects.now)
    ∙ all_passed (flat_map one c.args.objects.now) c.walk.sum
    (passed_whole c.args.plan.now g.A.Agent.meaning c.args.parts.now c.args.cpu c.args.rank c.args.objects.now c.walk.at (flat_map one c.args.objects.now) c.walk.sum c.in_default.ensures c.walk.invariant.passed))
