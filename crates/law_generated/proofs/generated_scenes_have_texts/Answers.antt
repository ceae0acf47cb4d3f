use Rattle.wdf_parse.specs.Printing.{printed}
use Rattle.wdf_parse.proofs.ProperNames.{stands_scene, stands_properly}
use Rattle.wdf_gen.specs.Generated.{generated}
use Rattle.law_generated.proofs.Texts.{generated_stands}
use Rattle.law_generated.proofs.generated_scenes_have_texts.Goals as goal

pub returns-clause-stands : goal.returns-clause-stands
returns-clause-stands c = λ n. generated_stands n

pub returns-clause-lines : goal.returns-clause-lines
returns-clause-lines c = λ n. stands_scene (printed (generated n)) (generated n) (generated_stands n)

pub returns-clause-names : goal.returns-clause-names
returns-clause-names c = λ n. stands_properly (printed (generated n)) (generated n) (generated_stands n)
