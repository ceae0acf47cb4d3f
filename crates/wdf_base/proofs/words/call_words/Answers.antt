use Rattle.wdf_base.proofs.WordLaws.{call-back, call-only}
use Rattle.wdf_base.proofs.words.call_words.Goals as goal

pub returns-clause-back : goal.returns-clause-back
returns-clause-back c = call-back c.args.x

pub returns-clause-only : goal.returns-clause-only
returns-clause-only c = call-only c.args.x c.args.word.now
