use Rattle.wdf_scene.proofs.WordLaws.{operator-back, operator-only}
use Rattle.wdf_scene.proofs.words.operator_words.Goals as goal

pub returns-clause-back : goal.returns-clause-back
returns-clause-back c = operator-back c.args.x

pub returns-clause-only : goal.returns-clause-only
returns-clause-only c = operator-only c.args.x c.args.word.now
