-- The clause is the lemma on steps that wait.
use Rattle.law_stuck_objects.proofs.Told.{devices_wait_at_steps}
use Rattle.law_stuck_objects.proofs.devices_wait_at_steps.Goals as goal

pub returns : goal.returns
returns g c = λ plan m run resolved is_run ends k d s x h idle early. devices_wait_at_steps plan m run resolved is_run ends k d s x h idle early
