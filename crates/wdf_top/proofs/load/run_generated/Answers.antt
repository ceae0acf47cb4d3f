-- The plan of each generated scenario is resolved.
use Rattle.std.proofs.Common.{refl}
use Rattle.wdf_gen.specs.Generated.{generated}
use Rattle.law_generated.proofs.Plans.{generated_accepted}
use Rattle.law_generated.proofs.Texts.{generated_stands}
use Rattle.wdf_parse.specs.Printing.{printed}
use Rattle.wdf_plan.specs.Plans.{plan_of}
use Rattle.wdf_top.proofs.Resolving.{text_plan_resolved}
use Rattle.wdf_top.proofs.load.run_generated.Goals as goal

pub run_seeded-requires : goal.run_seeded-requires
run_seeded-requires c =
    let n = c.args.number in
    rw c.in_ok-plan.ensures (text_plan_resolved (printed (generated n)) (plan_of (generated n)) (generated n, generated_stands n, generated_accepted n, refl))
