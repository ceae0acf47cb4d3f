-- The search finds what may come.
use Rattle.std.proofs.Common.{ap, position, ◌∙◌}
use Rattle.wdf_ready.specs.Actors.{is_by}
use Rattle.wdf_core.proofs.Journal.{agents_small, found, groups_small}
use Rattle.wdf_core.proofs.machine.Core.allowed_for.Goals as goal

pub first_by-requires-clause-agents : goal.first_by-requires-clause-agents
first_by-requires-clause-agents g c = agents_small g.A.Agent.meaning c.self.inside.plan c.self.inside.journal.items c.self.inside.parts _ _ c.self.invariant.way (rw (← c.self.view_is) at c.requires)

pub first_by-requires-clause-few : goal.first_by-requires-clause-few
first_by-requires-clause-few g c = groups_small g.A.Agent.meaning c.self.inside.plan c.self.inside.journal.items c.self.inside.parts _ _ c.self.invariant.way

pub returns : goal.returns
returns g c = rw (← c.self.view_is) (c.first_by.ensures ∙ ap (position (is_by c.args.actor)) (found g.A.Agent.meaning c.self.inside.plan c.self.inside.journal.items c.self.inside.parts _ _ c.self.invariant.way))
