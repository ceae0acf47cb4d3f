-- The core has the plan.
use Rattle.std.proofs.Common.{sym, subst}
use Rattle.wdf_base.specs.Resolved.{IsResolved}
use Rattle.wdf_top.proofs.verdict.tell_verdict.Goals as goal

pub judge_trace-requires-clause-resolved : goal.judge_trace-requires-clause-resolved
judge_trace-requires-clause-resolved g c = subst IsResolved (sym c.in-Ok.ensures.plan) c.requires

pub returns-in-Ok-clause-told : goal.returns-in-Ok-clause-told
returns-in-Ok-clause-told g c = rw c.in-Ok.ensures.plan at c.judge_trace.ensures.told
