use Rattle.wdf_base.proofs.WordLaws.{status-back, status-only}
use Rattle.wdf_base.proofs.words.status_words.Goals as goal

pub returns-clause-back : goal.returns-clause-back
returns-clause-back c = status-back c.args.x

pub returns-clause-only : goal.returns-clause-only
returns-clause-only c = status-only c.args.x c.args.word.now
