-- The clause is the lemma.
use Rattle.law_at_rest.proofs.Due.{agents_over}
use Rattle.law_at_rest.proofs.lines_are_posted.Goals as goal

pub returns : goal.returns
returns c = λ plan run resolved is_run ends. agents_over plan run resolved is_run ends
