-- The clause is the lemma.
use Rattle.law_at_rest.proofs.Rest.{nothing_comes}
use Rattle.law_at_rest.proofs.nothing_comes.Goals as goal

pub returns : goal.returns
returns g c = nothing_comes
