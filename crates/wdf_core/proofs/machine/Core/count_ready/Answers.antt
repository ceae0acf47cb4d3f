-- None may follow where the run doesn't go on.
use Rattle.std.proofs.Common.{◌≡◌, false, true, sym, ◌∙◌}
use Rattle.wdf_core.specs.Going.{goes_on}
use Rattle.wdf_core.proofs.Journal.{none_stopped}
use Rattle.wdf_core.proofs.machine.Core.count_ready.Goals as goal

pub returns-then-not-goes_on-clause-length : goal.returns-then-not-goes_on-clause-length
returns-then-not-goes_on-clause-length g c =
    let stopped : goes_on c.self.inside.plan c.self.inside.journal.items ≡ false = (sym (rw (← c.self.view_is) at c.goes_on.ensures)) ∙ c.if-not-goes_on.true in
    rw (← c.self.view_is) (none_stopped g.A.Agent.meaning c.self.inside.plan c.self.inside.journal.items c.self.inside.parts _ _ c.self.invariant.way stopped)
