-- A tick is the first that may follow; another event may come.
use Rattle.std.proofs.Common.{◌≡◌, true, false, sym, ◌∙◌}
use Rattle.wdf_core.specs.Going.{goes_on, is_tick}
use Rattle.wdf_core.proofs.Following.{by_allowed, by_first, by_none}
use Rattle.wdf_core.proofs.machine.Core.may_follow.Goals as goal

pub returns-then-not-goes_on : goal.returns-then-not-goes_on
returns-then-not-goes_on g c =
    let stopped : goes_on c.self.inside.plan c.self.inside.journal.items ≡ false = (sym (rw (← c.self.view_is) at c.goes_on.ensures)) ∙ c.if-not-goes_on.true in
    rw (← c.self.view_is) (by_none g.A.Agent.meaning c.self.inside.plan c.self.inside.journal.items c.self.inside.parts _ _ c.self.invariant.way c.args.event.now stopped)

pub returns-then-is_tick : goal.returns-then-is_tick
returns-then-is_tick g c =
    let going : goes_on c.self.inside.plan c.self.inside.journal.items ≡ true = (sym (rw (← c.self.view_is) at c.goes_on.ensures)) ∙ c.if-not-goes_on.false in
    let tick : is_tick c.args.event.now ≡ true = sym c.is_tick.ensures ∙ c.if-is_tick.true in
    rw (← c.self.view_is) (by_first g.A.Agent.meaning c.self.inside.plan c.self.inside.journal.items c.self.inside.parts _ _ c.self.invariant.way c.args.event.now c.is_first.result tick going (rw (← c.self.view_is) at c.is_first.ensures))

pub returns-else-is_tick : goal.returns-else-is_tick
returns-else-is_tick g c =
    let going : goes_on c.self.inside.plan c.self.inside.journal.items ≡ true = (sym (rw (← c.self.view_is) at c.goes_on.ensures)) ∙ c.if-not-goes_on.false in
    let other : is_tick c.args.event.now ≡ false = sym c.is_tick.ensures ∙ c.if-is_tick.false in
    rw (← c.self.view_is) (by_allowed g.A.Agent.meaning c.self.inside.plan c.self.inside.journal.items c.self.inside.parts _ _ c.self.invariant.way c.args.event.now c.is_allowed.result other going (rw (← c.self.view_is) at c.is_allowed.ensures))
