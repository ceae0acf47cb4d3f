-- The clause is the lemma on requests that arrived.
use Rattle.law_stuck_objects.proofs.Places.{ended_at_each}
use Rattle.law_stuck_objects.proofs.deleted_requests_are_done.Goals as goal

pub returns : goal.returns
returns g c = λ plan m run resolved is_run n. ended_at_each plan m run resolved is_run n
