-- The clause is the lemma on frames.
use Rattle.law_machine_states.proofs.Early.{frames_at_each}
use Rattle.law_machine_states.proofs.objects.frames_before_cleanup.Goals as goal

pub returns : goal.returns
returns g c = frames_at_each
