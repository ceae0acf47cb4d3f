-- The search finds what may come.
use Rattle.std.proofs.Common.{ap, find, ◌∙◌}
use Rattle.wdf_ready.specs.Sides.{is_of}
use Rattle.wdf_core.proofs.Following.{settled_now}
use Rattle.wdf_core.proofs.Journal.{agents_small, found}
use Rattle.wdf_core.proofs.machine.Core.allowed_of.Goals as goal

pub first_of-requires-clause-agents : goal.first_of-requires-clause-agents
first_of-requires-clause-agents g c = agents_small g.A.Agent.meaning c.self.inside.plan c.self.inside.journal.items c.self.inside.parts _ _ c.self.invariant.way (rw (← c.self.view_is) at c.requires)

pub first_of-requires-clause-settled : goal.first_of-requires-clause-settled
first_of-requires-clause-settled g c = settled_now g.A.Agent.meaning c.self.inside.plan c.self.inside.journal.items c.self.inside.parts _ _ c.self.invariant.way

pub returns : goal.returns
returns g c = rw (← c.self.view_is) (c.first_of.ensures ∙ ap (find (is_of c.args.side)) (found g.A.Agent.meaning c.self.inside.plan c.self.inside.journal.items c.self.inside.parts _ _ c.self.invariant.way))
