-- The search finds what may come.
use Rattle.std.proofs.Common.{ap, slice_get, ◌∙◌}
use Rattle.wdf_core.proofs.Following.{settled_now}
use Rattle.wdf_core.proofs.Journal.{agents_small, found}
use Rattle.wdf_core.proofs.machine.Core.allowed_at.Goals as goal

pub allowed_at-requires-clause-agents : goal.allowed_at-requires-clause-agents
allowed_at-requires-clause-agents g c = agents_small g.A.Agent.meaning c.self.inside.plan c.self.inside.journal.items c.self.inside.parts _ _ c.self.invariant.way (rw (← c.self.view_is) at c.requires)

pub allowed_at-requires-clause-settled : goal.allowed_at-requires-clause-settled
allowed_at-requires-clause-settled g c = settled_now g.A.Agent.meaning c.self.inside.plan c.self.inside.journal.items c.self.inside.parts _ _ c.self.invariant.way

pub returns : goal.returns
returns g c = rw (← c.self.view_is) (c.allowed_at.ensures ∙ ap (λ es. slice_get es c.args.k) (found g.A.Agent.meaning c.self.inside.plan c.self.inside.journal.items c.self.inside.parts _ _ c.self.invariant.way))
