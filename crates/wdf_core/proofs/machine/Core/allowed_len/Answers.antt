-- The counts, and the search where they aren't known, find what may come.
use Rattle.std.proofs.Common.{ap, length, ◌∙◌}
use Rattle.wdf_core.proofs.Following.{settled_now}
use Rattle.wdf_core.proofs.Journal.{agents_small, found, groups_small}
use Rattle.wdf_core.proofs.machine.Core.allowed_len.Goals as goal

pub len-requires-clause-agents : goal.len-requires-clause-agents
len-requires-clause-agents g c = agents_small g.A.Agent.meaning c.self.inside.plan c.self.inside.journal.items c.self.inside.parts _ _ c.self.invariant.way (rw (← c.self.view_is) at c.requires)

pub len-requires-clause-settled : goal.len-requires-clause-settled
len-requires-clause-settled g c = settled_now g.A.Agent.meaning c.self.inside.plan c.self.inside.journal.items c.self.inside.parts _ _ c.self.invariant.way

pub len-requires-clause-few : goal.len-requires-clause-few
len-requires-clause-few g c = groups_small g.A.Agent.meaning c.self.inside.plan c.self.inside.journal.items c.self.inside.parts _ _ c.self.invariant.way

pub len-requires-clause-kept : goal.len-requires-clause-kept
len-requires-clause-kept g c = c.self.invariant.counts

pub returns-clause-length : goal.returns-clause-length
returns-clause-length g c = rw (← c.self.view_is) (c.len.ensures.length ∙ ap length (found g.A.Agent.meaning c.self.inside.plan c.self.inside.journal.items c.self.inside.parts _ _ c.self.invariant.way))
