-- The core has the plan.
use Rattle.std.proofs.Common.{sym, subst}
use Rattle.wdf_base.specs.Resolved.{IsResolved}
use Rattle.wdf_hunt.proofs.explain.tell_plan.Goals as goal

pub tell_trace-requires-clause-resolved : goal.tell_trace-requires-clause-resolved
tell_trace-requires-clause-resolved g c = subst IsResolved (sym c.in-Ok.ensures.plan) c.requires

pub returns-in-Ok-clause-told : goal.returns-in-Ok-clause-told
returns-in-Ok-clause-told g c = rw c.in-Ok.ensures.plan at c.tell_trace.ensures.told
