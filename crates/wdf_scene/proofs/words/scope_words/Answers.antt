use Rattle.wdf_scene.proofs.WordLaws.{scope-back, scope-only}
use Rattle.wdf_scene.proofs.words.scope_words.Goals as goal

pub returns-clause-back : goal.returns-clause-back
returns-clause-back c = scope-back c.args.x

pub returns-clause-only : goal.returns-clause-only
returns-clause-only c = scope-only c.args.x c.args.word.now
