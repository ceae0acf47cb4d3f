use Rattle.wdf_base.proofs.WordLaws.{stage-back, stage-only}
use Rattle.wdf_base.proofs.words.stage_words.Goals as goal

pub returns-clause-back : goal.returns-clause-back
returns-clause-back c = stage-back c.args.x

pub returns-clause-only : goal.returns-clause-only
returns-clause-only c = stage-only c.args.x c.args.word.now
