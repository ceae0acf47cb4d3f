-- The clause is the lemma on waiting calls.
use Rattle.law_machine_states.proofs.Waiting.{waits_at_each}
use Rattle.law_machine_states.proofs.objects.waits_before_cleanup.Goals as goal

pub returns : goal.returns
returns g c = waits_at_each
