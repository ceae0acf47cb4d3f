-- The clause is the lemma.
use Rattle.law_at_rest.proofs.Due.{asks_due}
use Rattle.law_at_rest.proofs.only_asks_are_due.Goals as goal

pub returns : goal.returns
returns c = λ plan run resolved is_run ends. asks_due plan run resolved is_run ends
