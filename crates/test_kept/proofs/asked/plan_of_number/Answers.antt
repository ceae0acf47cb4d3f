-- The scene that was generated has a text, and so its plan is resolved.
use Rattle.wdf_gen.specs.Generated.{generated}
use Rattle.law_generated.proofs.Texts.{generated_stands}
use Rattle.wdf_parse.proofs.ProperNames.{stands_properly, stands_scene}
use Rattle.wdf_parse.specs.Printing.{printed}
use Rattle.test_kept.proofs.asked.plan_of_number.Goals as goal

pub resolve-requires : goal.resolve-requires
resolve-requires c =
    let n = c.args.number in
    rw c.in_ok-scene.ensures (stands_scene (printed (generated n)) (generated n) (generated_stands n))

pub returns-in-Ok : goal.returns-in-Ok
returns-in-Ok c =
    let n = c.args.number in
    c.in-Ok.ensures.resolved (rw c.in_ok-scene.ensures (stands_properly (printed (generated n)) (generated n) (generated_stands n)))
