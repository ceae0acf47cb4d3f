use Rattle.wdf_top.proofs.Ended.{trace_of_run}
use Rattle.wdf_top.proofs.laws.traces_are_of_runs.Goals as goal

pub returns : goal.returns
returns g c = trace_of_run
