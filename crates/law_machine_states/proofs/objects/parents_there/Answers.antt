-- The clause is the lemma on parents.
use Rattle.law_machine_states.proofs.Parents.{parents_there_at_each}
use Rattle.law_machine_states.proofs.objects.parents_there.Goals as goal

pub returns : goal.returns
returns g c = parents_there_at_each
