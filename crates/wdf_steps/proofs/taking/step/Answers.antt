-- The deeds count no event.
use Rattle.std.proofs.Common.{arith}
use Rattle.wdf_model.specs.rules.Steps.{deeds}
use Rattle.wdf_steps.proofs.Parts.{number_kept}
use Rattle.wdf_steps.proofs.taking.step.Goals as goal

pub count-requires : goal.count-requires
count-requires g c =
    let kept = number_kept c.args.plan.now g.A.Agent.meaning (deeds c.args.plan.now c.args.parts.now c.args.event.now) c.args.event.now c.args.parts.now in
    rw c.take.ensures (omega (arith, c.requires.number))
