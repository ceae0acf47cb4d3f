use Rattle.wdf_scene_lines.proofs.Completeness.{written_read}
use Rattle.wdf_scene_lines.proofs.LineSoundness.{read_spelled}
use Rattle.wdf_scene_lines.proofs.laws.spelled_lines_are_read.Goals as goal

pub returns-clause-read : goal.returns-clause-read
returns-clause-read c = λ w h. written_read w h

pub returns-clause-spelled : goal.returns-clause-spelled
returns-clause-spelled c = λ ts w fit e. (read_spelled ts w fit e).tokens

pub returns-clause-written : goal.returns-clause-written
returns-clause-written c = λ ts w fit e. (read_spelled ts w fit e).written
