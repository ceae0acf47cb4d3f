use Rattle.law_text.proofs.Backward.{refusal_back}
use Rattle.law_text.proofs.Onward.{refusal_told}
use Rattle.law_text.proofs.first_refusals.refusals_are_first.Goals as goal

pub returns-clause-told : goal.returns-clause-told
returns-clause-told c = λ text e h. refusal_told text e h

pub returns-clause-each : goal.returns-clause-each
returns-clause-each c = λ text e h. refusal_back text e h
