-- The counts, and the search where they aren't known, find what may come.
use Rattle.std.proofs.Common.{ap, slice_get, ◌∙◌}
use Rattle.wdf_core.proofs.Following.{settled_now}
use Rattle.wdf_core.proofs.Journal.{agents_small, found}
use Rattle.wdf_core.proofs.machine.Core.counted_at.Goals as goal

pub at-requires-clause-agents : goal.at-requires-clause-agents
at-requires-clause-agents g c = agents_small g.A.Agent.meaning c.self.inside.plan c.self.inside.journal.items c.self.inside.parts _ _ c.self.invariant.way (rw (← c.self.view_is) at c.requires)

pub at-requires-clause-settled : goal.at-requires-clause-settled
at-requires-clause-settled g c = settled_now g.A.Agent.meaning c.self.inside.plan c.self.inside.journal.items c.self.inside.parts _ _ c.self.invariant.way

pub at-requires-clause-kept : goal.at-requires-clause-kept
at-requires-clause-kept g c = c.self.invariant.counts

pub returns : goal.returns
returns g c = rw (← c.self.view_is) (c.at.ensures ∙ ap (λ es. slice_get es c.args.k) (found g.A.Agent.meaning c.self.inside.plan c.self.inside.journal.items c.self.inside.parts _ _ c.self.invariant.way))
