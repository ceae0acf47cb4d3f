-- The clause is the lemma on steps, at a front of the run.
use Rattle.wdf_model.specs.rules.Ready.{ready}
use Rattle.std.proofs.Common.{take}
use Rattle.wdf_model.proofs.Runs.{run_front}
use Rattle.law_stuck_named.proofs.Stepped.{steps_may_run}
use Rattle.law_stuck_named.proofs.steps_of_devices_may_run.Goals as goal

pub returns : goal.returns
returns g c = λ plan m run resolved is_run n. steps_may_run plan m (take n run) resolved (run_front (ready plan m) run n is_run)
