use Rattle.wdf_parse.proofs.ProperNames.{stands_scene, stands_properly}
use Rattle.wdf_parse.proofs.laws.scenes_are_well_formed.Goals as goal

pub returns-clause-lines : goal.returns-clause-lines
returns-clause-lines c = λ scene h. stands_scene c.args.text.now scene h

pub returns-clause-names : goal.returns-clause-names
returns-clause-names c = λ scene h. stands_properly c.args.text.now scene h
