use Rattle.wdf_scene.proofs.WordLaws.{context-back, context-only}
use Rattle.wdf_scene.proofs.words.context_words.Goals as goal

pub returns-clause-back : goal.returns-clause-back
returns-clause-back c = context-back c.args.x

pub returns-clause-only : goal.returns-clause-only
returns-clause-only c = context-only c.args.x c.args.word.now
