use Rattle.wdf_scene.proofs.WordLaws.{plain_kind-back, plain_kind-only}
use Rattle.wdf_scene.proofs.words.plain_kind_words.Goals as goal

pub returns-clause-back : goal.returns-clause-back
returns-clause-back c = plain_kind-back c.args.x

pub returns-clause-only : goal.returns-clause-only
returns-clause-only c = plain_kind-only c.args.x c.args.word.now
