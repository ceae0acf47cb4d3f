-- The counts find what may come, and stay right.
use Rattle.std.proofs.Common.{ap, length, ◌∙◌}
use Rattle.wdf_core.proofs.Following.{settled_now}
use Rattle.wdf_core.proofs.Journal.{agents_small, found, groups_small}
use Rattle.wdf_core.proofs.machine.Core.count_allowed.Goals as goal

pub count-requires-clause-agents : goal.count-requires-clause-agents
count-requires-clause-agents g c = agents_small g.A.Agent.meaning c.self.inside.plan c.self.inside.journal.items c.self.inside.parts _ _ c.self.invariant.way (rw (← c.self.view_is) at c.requires)

pub count-requires-clause-settled : goal.count-requires-clause-settled
count-requires-clause-settled g c = settled_now g.A.Agent.meaning c.self.inside.plan c.self.inside.journal.items c.self.inside.parts _ _ c.self.invariant.way

pub count-requires-clause-few : goal.count-requires-clause-few
count-requires-clause-few g c = groups_small g.A.Agent.meaning c.self.inside.plan c.self.inside.journal.items c.self.inside.parts _ _ c.self.invariant.way

pub count-requires-clause-kept : goal.count-requires-clause-kept
count-requires-clause-kept g c = c.self.invariant.counts

pub invariant_of-self : goal.invariant_of-self
invariant_of-self g c = record { way = c.self.invariant.way; counts = c.count.ensures.kept }

pub returns-clause-length : goal.returns-clause-length
returns-clause-length g c = rw (← c.self.view_is) (c.count.ensures.length ∙ ap length (found g.A.Agent.meaning c.self.inside.plan c.self.inside.journal.items c.self.inside.parts _ _ c.self.invariant.way))
