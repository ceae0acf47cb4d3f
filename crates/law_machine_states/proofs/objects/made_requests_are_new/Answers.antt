-- The clause is the lemma on what an event makes.
use Rattle.law_machine_states.proofs.Making.{new_at}
use Rattle.law_machine_states.proofs.objects.made_requests_are_new.Goals as goal

pub returns : goal.returns
returns g c = new_at
