-- The clause is the lemma on the lines of requests in queues.
use Rattle.law_stuck_named.proofs.Whole.{returning_named}
use Rattle.law_stuck_named.proofs.cancelled_requests_name_a_cause.Goals as goal

pub returns : goal.returns
returns g c = λ plan m run resolved is_run ends k r q x h. returning_named plan m run resolved is_run ends k r q x h
