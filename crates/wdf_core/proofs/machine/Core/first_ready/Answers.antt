-- What may come first, or else the next tick.
use Rattle.std.proofs.Common.{◌≡◌, true, false, sym, ◌∙◌}
use Rattle.wdf_core.specs.Going.{goes_on}
use Rattle.wdf_core.proofs.Journal.{first_found, first_stops, first_tick}
use Rattle.wdf_core.proofs.machine.Core.first_ready.Goals as goal

pub returns-then-not-goes_on : goal.returns-then-not-goes_on
returns-then-not-goes_on g c =
    let stopped : goes_on c.self.inside.plan c.self.inside.journal.items ≡ false = (sym (rw (← c.self.view_is) at c.goes_on.ensures)) ∙ c.if-not-goes_on.true in
    rw (← c.self.view_is) (first_stops g.A.Agent.meaning c.self.inside.plan c.self.inside.journal.items c.self.inside.parts _ _ c.self.invariant.way stopped)

pub returns-in-Some : goal.returns-in-Some
returns-in-Some g c =
    let going : goes_on c.self.inside.plan c.self.inside.journal.items ≡ true = (sym (rw (← c.self.view_is) at c.goes_on.ensures)) ∙ c.if-not-goes_on.false in
    rw (← c.self.view_is) (first_found g.A.Agent.meaning c.self.inside.plan c.self.inside.journal.items c.self.inside.parts _ _ c.self.invariant.way c.in-Some.event going (sym (rw (← c.self.view_is) at c.in-Some.ensures)))

pub returns-in-None : goal.returns-in-None
returns-in-None g c =
    let going : goes_on c.self.inside.plan c.self.inside.journal.items ≡ true = (sym (rw (← c.self.view_is) at c.goes_on.ensures)) ∙ c.if-not-goes_on.false in
    rw (← c.self.view_is) ((rw (← c.self.view_is) at c.tick_if_waiting.ensures) ∙ first_tick g.A.Agent.meaning c.self.inside.plan c.self.inside.journal.items c.self.inside.parts _ _ c.self.invariant.way going (sym (rw (← c.self.view_is) at c.in-None.ensures)))
