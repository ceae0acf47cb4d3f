-- The clause is the lemma on the lines of requests in queues.
use Rattle.law_stuck_named.proofs.Whole.{waiting_named}
use Rattle.law_stuck_named.proofs.waiting_requests_name_a_cause.Goals as goal

pub returns : goal.returns
returns g c = λ plan m run resolved is_run ends k r q x h. waiting_named plan m run resolved is_run ends k r q x h
