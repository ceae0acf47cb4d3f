use Rattle.wdf_base.proofs.WordLaws.{fault-back, fault-only}
use Rattle.wdf_base.proofs.words.fault_words.Goals as goal

pub returns-clause-back : goal.returns-clause-back
returns-clause-back c = fault-back c.args.x

pub returns-clause-only : goal.returns-clause-only
returns-clause-only c = fault-only c.args.x c.args.word.now
