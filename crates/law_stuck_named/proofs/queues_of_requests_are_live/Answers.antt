-- The clause is the lemma on queues, at a front of the run.
use Rattle.wdf_model.specs.rules.Ready.{ready}
use Rattle.std.proofs.Common.{take}
use Rattle.wdf_model.proofs.Runs.{run_front}
use Rattle.law_stuck_named.proofs.Queues.{queues_live}
use Rattle.law_stuck_named.proofs.queues_of_requests_are_live.Goals as goal

pub returns : goal.returns
returns g c = λ plan m run resolved is_run n. queues_live plan m (take n run) resolved (run_front (ready plan m) run n is_run)
