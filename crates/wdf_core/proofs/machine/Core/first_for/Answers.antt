-- The first of what may come, or else the next tick.
use Rattle.std.proofs.Common.{◌≡◌, true, false, sym, ◌∙◌}
use Rattle.wdf_ready.specs.Actors.{is_by}
use Rattle.wdf_core.specs.Going.{goes_on}
use Rattle.wdf_core.proofs.Journal.{first_stopped, first_there}
use Rattle.wdf_core.proofs.machine.Core.first_for.Goals as goal

pub returns-then-not-goes_on : goal.returns-then-not-goes_on
returns-then-not-goes_on g c =
    let stopped : goes_on c.self.inside.plan c.self.inside.journal.items ≡ false = (sym (rw (← c.self.view_is) at c.goes_on.ensures)) ∙ c.if-not-goes_on.true in
    rw (← c.self.view_is) (first_stopped g.A.Agent.meaning c.self.inside.plan c.self.inside.journal.items c.self.inside.parts _ _ c.self.invariant.way (is_by c.args.actor) stopped)

pub returns-in-Some : goal.returns-in-Some
returns-in-Some g c =
    let going : goes_on c.self.inside.plan c.self.inside.journal.items ≡ true = (sym (rw (← c.self.view_is) at c.goes_on.ensures)) ∙ c.if-not-goes_on.false in
    rw (← c.self.view_is) (first_there g.A.Agent.meaning c.self.inside.plan c.self.inside.journal.items c.self.inside.parts _ _ c.self.invariant.way (is_by c.args.actor) c.in-Some.place going (sym (rw (← c.self.view_is) at c.allowed_for.ensures) ∙ c.in-Some.is))
