-- The clause is the lemma.
use Rattle.law_bare.proofs.Runs.{like_picked}
use Rattle.law_bare.proofs.picked_runs_see_no_numbers.Goals as goal

pub returns : goal.returns
returns g c = λ m bare unseen one two plans begins picks run p. like_picked m bare unseen one two plans begins picks run p
