-- The clause is the lemma.
use Rattle.law_replay.proofs.Exactly.{accepts_texts_of_plan}
use Rattle.law_replay.proofs.verdicts.texts_of_plans_are_accepted.Goals as goal

pub returns : goal.returns
returns c = accepts_texts_of_plan
