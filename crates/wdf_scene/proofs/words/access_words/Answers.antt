use Rattle.wdf_scene.proofs.WordLaws.{access-back, access-only}
use Rattle.wdf_scene.proofs.words.access_words.Goals as goal

pub returns-clause-back : goal.returns-clause-back
returns-clause-back c = access-back c.args.x

pub returns-clause-only : goal.returns-clause-only
returns-clause-only c = access-only c.args.x c.args.word.now
