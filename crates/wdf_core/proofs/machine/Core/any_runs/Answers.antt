-- A frame's event may follow where the run goes on.
use Rattle.std.proofs.Common.{◌≡◌, true, sym, ◌∙◌}
use Rattle.wdf_core.specs.Going.{goes_on}
use Rattle.wdf_core.proofs.Journal.{some_follows}
use Rattle.wdf_core.proofs.machine.Core.any_runs.Goals as goal

pub returns : goal.returns
returns g c = λ yes.
    let going : goes_on c.self.inside.plan c.self.inside.journal.items ≡ true = (sym (rw (← c.self.view_is) at c.goes_on.ensures)) ∙ c.if-not-goes_on.false in
    rw (← c.self.view_is) (some_follows g.A.Agent.meaning c.self.inside.plan c.self.inside.journal.items c.self.inside.parts _ _ c.self.invariant.way going (c.any_own.ensures yes))
