-- The test is that of the state at hand, which is that of a run.
use Rattle.wdf_core.proofs.Following.{agree_now, owned_now}
use Rattle.wdf_core.proofs.Journal.{agents_small}
use Rattle.wdf_core.proofs.machine.Core.is_allowed.Goals as goal

pub is_allowed-requires-clause-agents : goal.is_allowed-requires-clause-agents
is_allowed-requires-clause-agents g c = agents_small g.A.Agent.meaning c.self.inside.plan c.self.inside.journal.items c.self.inside.parts _ _ c.self.invariant.way (rw (← c.self.view_is) at c.requires)

pub is_allowed-requires-clause-agree : goal.is_allowed-requires-clause-agree
is_allowed-requires-clause-agree g c = agree_now g.A.Agent.meaning c.self.inside.plan c.self.inside.journal.items c.self.inside.parts _ _ c.self.invariant.way

pub is_allowed-requires-clause-owned : goal.is_allowed-requires-clause-owned
is_allowed-requires-clause-owned g c = owned_now g.A.Agent.meaning c.self.inside.plan c.self.inside.journal.items c.self.inside.parts _ _ c.self.invariant.way

pub returns : goal.returns
returns g c = rw (← c.self.view_is) (rw c.self.invariant.way.state at c.is_allowed.ensures)
