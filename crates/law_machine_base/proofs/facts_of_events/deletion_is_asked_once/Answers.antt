-- The clause is the lemma on the deed that asks a deletion.
use Rattle.law_machine_base.proofs.Deletion.{asking_twice}
use Rattle.law_machine_base.proofs.facts_of_events.deletion_is_asked_once.Goals as goal

pub returns : goal.returns
returns g c = asking_twice
