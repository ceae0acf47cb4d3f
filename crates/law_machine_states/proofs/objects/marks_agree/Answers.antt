-- The clause is the lemma on marks.
use Rattle.law_machine_states.proofs.Plain.{marks_agree_at_each}
use Rattle.law_machine_states.proofs.objects.marks_agree.Goals as goal

pub returns : goal.returns
returns g c = marks_agree_at_each
