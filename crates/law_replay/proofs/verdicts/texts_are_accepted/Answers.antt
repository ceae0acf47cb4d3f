-- The clause is the lemma.
use Rattle.law_replay.proofs.Exactly.{accepts_texts}
use Rattle.law_replay.proofs.verdicts.texts_are_accepted.Goals as goal

pub returns : goal.returns
returns g c = accepts_texts
