-- The core has the plan.
use Rattle.std.proofs.Common.{sym, subst}
use Rattle.wdf_base.specs.Resolved.{IsResolved}
use Rattle.wdf_view.proofs.judged.draw_trace.Goals as goal

pub draw_core-requires-clause-resolved : goal.draw_core-requires-clause-resolved
draw_core-requires-clause-resolved c = subst IsResolved (sym c.in-Ok.ensures.plan) c.requires

pub returns-in-Ok-clause-accepted : goal.returns-in-Ok-clause-accepted
returns-in-Ok-clause-accepted c = rw c.in-Ok.ensures.plan at c.draw_core.ensures.accepted

pub returns-in-Ok-clause-refused : goal.returns-in-Ok-clause-refused
returns-in-Ok-clause-refused c = rw c.in-Ok.ensures.plan at c.draw_core.ensures.refused
