use Rattle.wdf_top.proofs.Ended.{one_text, one_trace}
use Rattle.wdf_top.proofs.laws.one_trace_a_plan.Goals as goal

pub returns : goal.returns
returns g c = record { runs = one_text; traces = one_trace }
