use Rattle.wdf_parse.proofs.Uniqueness.{stands_read, one_stands}
use Rattle.wdf_parse.proofs.laws.one_scene.Goals as goal

pub returns-clause-read : goal.returns-clause-read
returns-clause-read c = λ scene h. stands_read c.args.text.now scene h

pub returns-clause-one : goal.returns-clause-one
returns-clause-one c = λ a b h e. one_stands c.args.text.now a b h e
