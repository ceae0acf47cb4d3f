-- The clause is the lemma.
use Rattle.law_bare.proofs.Agents.{usual_picked}
use Rattle.law_bare.proofs.usual_picked_runs_see_no_numbers.Goals as goal

pub returns : goal.returns
returns c = usual_picked
