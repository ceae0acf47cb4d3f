use Rattle.wdf_base.proofs.WordLaws.{callback-back, callback-only}
use Rattle.wdf_base.proofs.words.callback_words.Goals as goal

pub returns-clause-back : goal.returns-clause-back
returns-clause-back c = callback-back c.args.x

pub returns-clause-only : goal.returns-clause-only
returns-clause-only c = callback-only c.args.x c.args.word.now
