-- The run so far is the one that the source's picks make; each turn leaves fewer events up to the limit.
use Rattle.std.proofs.Common.{◌≡◌, ◌-◌, length}
use Rattle.wdf_model.specs.rules.Ready.{ready}
use Rattle.wdf_run.proofs.Order.{IsRunSoFar}
use Rattle.wdf_run.proofs.run_by.Given as goal

abbrev pub invariant-turns : goal.invariant-turns
invariant-turns g l =
    (l.core.plan ≡ l.initial.core.plan)
    × IsRunSoFar (ready l.initial.core.plan g.A.Agent.meaning) (g.P.Picks.pick l.initial.source) (g.P.Picks.pick l.source) l.initial.core.plan.limit l.initial.core.journal l.core.journal

abbrev pub decreases-turns : goal.decreases-turns
decreases-turns g l = l.core.plan.limit - length l.core.journal
