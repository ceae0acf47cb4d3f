-- The plan is as it was given, and there is room for its runs.
use Rattle.std.proofs.Common.{sym, subst}
use Rattle.wdf_base.specs.Resolved.{IsResolved}
use Rattle.wdf_core.proofs.machine.Core.make.Goals as goal

pub opened-requires-clause-resolved : goal.opened-requires-clause-resolved
opened-requires-clause-resolved g c = subst IsResolved (sym c.in_ok-plan.ensures) c.requires.resolved

pub opened-requires-clause-agents : goal.opened-requires-clause-agents
opened-requires-clause-agents g c = rw c.in_ok-plan.ensures c.requires.agents
