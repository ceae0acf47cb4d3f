use Rattle.wdf_scene.proofs.WordLaws.{level-back, level-only}
use Rattle.wdf_scene.proofs.words.level_words.Goals as goal

pub returns-clause-back : goal.returns-clause-back
returns-clause-back c = level-back c.args.x

pub returns-clause-only : goal.returns-clause-only
returns-clause-only c = level-only c.args.x c.args.word.now
