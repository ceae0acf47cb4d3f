use Rattle.wdf_scene.proofs.WordLaws.{deferred_kind-back, deferred_kind-only}
use Rattle.wdf_scene.proofs.words.deferred_kind_words.Goals as goal

pub returns-clause-back : goal.returns-clause-back
returns-clause-back c = deferred_kind-back c.args.x

pub returns-clause-only : goal.returns-clause-only
returns-clause-only c = deferred_kind-only c.args.x c.args.word.now
