use Rattle.wdf_scene.proofs.WordLaws.{form-back, form-only}
use Rattle.wdf_scene.proofs.words.form_words.Goals as goal

pub returns-clause-back : goal.returns-clause-back
returns-clause-back c = form-back c.args.x

pub returns-clause-only : goal.returns-clause-only
returns-clause-only c = form-only c.args.x c.args.word.now
