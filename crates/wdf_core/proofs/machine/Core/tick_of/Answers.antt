-- The next tick comes only where nothing else may, and is the clock's.
use Rattle.std.proofs.Common.{◌≡◌, ◌+◌, true, false, ap, sym, ◌∙◌}
use Rattle.wdf_base.specs.declared.event.Event.TheVariants as event
use Rattle.wdf_model.specs.rules.Ready.{state_after}
use Rattle.wdf_ready.specs.Sides.{is_of}
use Rattle.wdf_core.proofs.BySide.{side_other, side_ticks, side_waits}
use Rattle.wdf_core.proofs.machine.Core.tick_of.Goals as goal

pub returns-then-not-is_of : goal.returns-then-not-is_of
returns-then-not-is_of g c =
    let going = rw (← c.self.view_is) at c.requires.going in
    let none = rw (← c.self.view_is) at c.requires.none in
    let other : is_of c.args.side (event.Tick ((state_after c.self.inside.plan g.A.Agent.meaning c.self.inside.journal.items).clock + 1)) ≡ false = ap (is_of c.args.side) (sym (rw (← c.self.view_is) at c.tick.ensures)) ∙ sym c.is_of.ensures ∙ c.if-not-is_of.true in
    rw (← c.self.view_is) (side_other g.A.Agent.meaning c.self.inside.plan c.self.inside.journal.items c.self.inside.parts _ _ c.self.invariant.way (is_of c.args.side) going none other)

pub returns-in-Some : goal.returns-in-Some
returns-in-Some g c =
    let going = rw (← c.self.view_is) at c.requires.going in
    let none = rw (← c.self.view_is) at c.requires.none in
    rw (← c.self.view_is) (side_waits g.A.Agent.meaning c.self.inside.plan c.self.inside.journal.items c.self.inside.parts _ _ c.self.invariant.way (is_of c.args.side) _ going none (sym (rw (← c.self.view_is) at c.in-Some.ensures)))

pub returns-in-None : goal.returns-in-None
returns-in-None g c =
    let going = rw (← c.self.view_is) at c.requires.going in
    let by : is_of c.args.side (event.Tick ((state_after c.self.inside.plan g.A.Agent.meaning c.self.inside.journal.items).clock + 1)) ≡ true = ap (is_of c.args.side) (sym (rw (← c.self.view_is) at c.tick.ensures)) ∙ sym c.is_of.ensures ∙ c.if-not-is_of.false in
    rw (← c.self.view_is) ((rw (← c.self.view_is) at c.tick_if_waiting.ensures) ∙ side_ticks g.A.Agent.meaning c.self.inside.plan c.self.inside.journal.items c.self.inside.parts _ _ c.self.invariant.way (is_of c.args.side) going (sym (rw (← c.self.view_is) at c.in-None.ensures)) by)
