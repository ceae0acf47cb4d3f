-- The scene that was generated has a text.
use Rattle.wdf_gen.specs.Generated.{generated}
use Rattle.law_generated.proofs.Texts.{generated_stands}
use Rattle.wdf_parse.proofs.ProperNames.{stands_scene}
use Rattle.wdf_parse.specs.Printing.{printed}
use Rattle.wdf_top.proofs.load.plan_of_number.Goals as goal

pub resolve-requires : goal.resolve-requires
resolve-requires c =
    let n = c.args.number in
    rw c.in_ok-scene.ensures (stands_scene (printed (generated n)) (generated n) (generated_stands n))
