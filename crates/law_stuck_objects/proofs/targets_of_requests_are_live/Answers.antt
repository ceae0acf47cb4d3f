-- The clause is the lemma on requests that are sent.
use Rattle.law_stuck_objects.proofs.Places.{sent_at_each}
use Rattle.law_stuck_objects.proofs.targets_of_requests_are_live.Goals as goal

pub returns : goal.returns
returns g c = λ plan m run resolved is_run n. sent_at_each plan m run resolved is_run n
