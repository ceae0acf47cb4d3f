use Rattle.wdf_base.proofs.WordLaws.{ask-back, ask-only}
use Rattle.wdf_base.proofs.words.ask_words.Goals as goal

pub returns-clause-back : goal.returns-clause-back
returns-clause-back c = ask-back c.args.x

pub returns-clause-only : goal.returns-clause-only
returns-clause-only c = ask-only c.args.x c.args.word.now
