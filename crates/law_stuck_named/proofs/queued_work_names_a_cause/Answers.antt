-- The clause is the lemma on the lines of queued work.
use Rattle.law_stuck_named.proofs.Deferred.{work_named}
use Rattle.law_stuck_named.proofs.queued_work_names_a_cause.Goals as goal

pub returns : goal.returns
returns g c = λ plan m run resolved is_run ends k o x h. work_named plan m run resolved is_run ends k o x h
