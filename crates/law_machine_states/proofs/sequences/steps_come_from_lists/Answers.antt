-- The clause is the lemma on courses.
use Rattle.law_machine_states.proofs.Runs.{courses_at_each}
use Rattle.law_machine_states.proofs.sequences.steps_come_from_lists.Goals as goal

pub returns : goal.returns
returns g c = courses_at_each
