-- The clause is the lemma.
use Rattle.law_bare.proofs.Runs.{like_run}
use Rattle.law_bare.proofs.runs_see_no_numbers.Goals as goal

pub returns : goal.returns
returns g c = λ m bare unseen one two plans begins run p. like_run m bare unseen one two plans begins run p
