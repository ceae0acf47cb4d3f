-- The event may come, there is room for it, and what the core keeps goes on.
use Rattle.std.proofs.Common.{arith}
use Rattle.wdf_core.proofs.Journal.{arrivals_fit, below, goes_by, next, next_doable, next_fits, number_fits}
use Rattle.wdf_core.proofs.Keeping.{counts_go_on}
use Rattle.wdf_core.proofs.machine.Core.take.Goals as goal

pub step-requires-clause-number : goal.step-requires-clause-number
step-requires-clause-number g c = number_fits g.A.Agent.meaning c.self.inside.plan c.self.inside.journal.items c.self.inside.parts _ _ c.self.invariant.way (goes_by g.A.Agent.meaning c.self.inside.plan c.self.inside.journal.items c.self.inside.parts _ _ c.self.invariant.way c.requires.0 c.args.event (rw (← c.self.view_is) at c.requires.1))

pub step-requires-clause-arrivals : goal.step-requires-clause-arrivals
step-requires-clause-arrivals g c = arrivals_fit g.A.Agent.meaning c.self.inside.plan c.self.inside.journal.items c.self.inside.parts _ _ c.self.invariant.way (goes_by g.A.Agent.meaning c.self.inside.plan c.self.inside.journal.items c.self.inside.parts _ _ c.self.invariant.way c.requires.0 c.args.event (rw (← c.self.view_is) at c.requires.1))

pub step-requires-clause-clock : goal.step-requires-clause-clock
step-requires-clause-clock g c = next_fits g.A.Agent.meaning c.self.inside.plan c.self.inside.journal.items c.self.inside.parts _ _ c.self.invariant.way c.requires.0 c.args.event (rw (← c.self.view_is) at c.requires.1)

pub step-requires-clause-doable : goal.step-requires-clause-doable
step-requires-clause-doable g c = next_doable g.A.Agent.meaning c.self.inside.plan c.self.inside.journal.items c.self.inside.parts _ _ c.self.invariant.way c.requires.0 c.args.event (rw (← c.self.view_is) at c.requires.1)

pub push_reserved-requires : goal.push_reserved-requires
push_reserved-requires g c =
    let room = c.self.invariant.way.room in
    let left = below g.A.Agent.meaning c.self.inside.plan c.self.inside.journal.items c.self.inside.parts _ _ c.self.invariant.way (goes_by g.A.Agent.meaning c.self.inside.plan c.self.inside.journal.items c.self.inside.parts _ _ c.self.invariant.way c.requires.0 c.args.event (rw (← c.self.view_is) at c.requires.1)) in
    omega (arith, c.self.inside.journal.ok.0)

pub invariant_of-self : goal.invariant_of-self
invariant_of-self g c =
    record {
      way = rw (c.push_reserved.ensures.items, c.push_reserved.ensures.capacity, c.step.ensures) (next g.A.Agent.meaning c.self.inside.plan c.self.inside.journal.items c.self.inside.parts _ _ c.self.invariant.way c.requires.0 c.args.event (rw (← c.self.view_is) at c.requires.1));
      counts = rw (c.forget_touched.ensures, c.step.ensures) (counts_go_on g.A.Agent.meaning c.self.inside.plan c.self.inside.journal.items c.self.inside.parts c.self.inside.groups _ c.self.invariant.way c.requires.0 c.args.event (rw (← c.self.view_is) at c.requires.1) c.self.inside.counts c.self.invariant.counts);
    }

pub returns-clause-room : goal.returns-clause-room
returns-clause-room g c = rw (← c.self.view_is) (below g.A.Agent.meaning c.self.inside.plan c.self.inside.journal.items c.self.inside.parts _ _ c.self.invariant.way (goes_by g.A.Agent.meaning c.self.inside.plan c.self.inside.journal.items c.self.inside.parts _ _ c.self.invariant.way c.requires.0 c.args.event (rw (← c.self.view_is) at c.requires.1)))
