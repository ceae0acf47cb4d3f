-- The clause is the lemma on what is below a cleaned object.
use Rattle.law_machine_states.proofs.Ancestors.{nothing_below_at_each}
use Rattle.law_machine_states.proofs.objects.nothing_below_cleaned.Goals as goal

pub returns : goal.returns
returns g c = nothing_below_at_each
