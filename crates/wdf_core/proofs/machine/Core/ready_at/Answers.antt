-- What may come at the place, or else the next tick.
use Rattle.std.proofs.Common.{◌<◌, ap, sym, ◌∙◌, arith, length, Some}
use Rattle.wdf_model.specs.rules.Ready.{ready}
use Rattle.wdf_core.proofs.Journal.{found_at, goes, tick_at}
use Rattle.wdf_core.proofs.machine.Core.ready_at.Goals as goal

pub counted_at-requires : goal.counted_at-requires
counted_at-requires g c =
    let below : c.args.k < length (ready c.self.inside.plan g.A.Agent.meaning c.self.inside.journal.items) = rw (← c.self.view_is) at c.requires in
    rw (← c.self.view_is) (goes g.A.Agent.meaning c.self.inside.plan c.self.inside.journal.items c.self.inside.parts _ _ c.self.invariant.way (omega arith))

pub tick-requires : goal.tick-requires
tick-requires g c =
    let below : c.args.k < length (ready c.self.inside.plan g.A.Agent.meaning c.self.inside.journal.items) = rw (← c.self.view_is) at c.requires in
    rw (← c.self.view_is) (goes g.A.Agent.meaning c.self.inside.plan c.self.inside.journal.items c.self.inside.parts _ _ c.self.invariant.way (omega arith))

pub returns-in-Some : goal.returns-in-Some
returns-in-Some g c =
    let below : c.args.k < length (ready c.self.inside.plan g.A.Agent.meaning c.self.inside.journal.items) = rw (← c.self.view_is) at c.requires in
    rw (← c.self.view_is) (found_at g.A.Agent.meaning c.self.inside.plan c.self.inside.journal.items c.self.inside.parts _ _ c.self.invariant.way c.args.k c.in-Some.event below (sym (rw (← c.self.view_is) at c.in-Some.ensures)))

pub returns-in-None : goal.returns-in-None
returns-in-None g c =
    let below : c.args.k < length (ready c.self.inside.plan g.A.Agent.meaning c.self.inside.journal.items) = rw (← c.self.view_is) at c.requires in
    rw (← c.self.view_is) (tick_at g.A.Agent.meaning c.self.inside.plan c.self.inside.journal.items c.self.inside.parts _ _ c.self.invariant.way c.args.k below (sym (rw (← c.self.view_is) at c.in-None.ensures)) ∙ ap Some (sym (rw (← c.self.view_is) at c.tick.ensures)))
