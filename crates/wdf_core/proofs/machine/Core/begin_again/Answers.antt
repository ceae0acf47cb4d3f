-- The state can begin anew, and what the core keeps holds of no events.
use Rattle.std.proofs.Common.{sym, ap, ◌∙◌}
use Rattle.wdf_model.specs.State.{opening_agents}
use Rattle.wdf_core.specs.Course.{Course}
use Rattle.wdf_core.proofs.Journal.{declared_few, opening_state, opens, sized}
use Rattle.wdf_core.proofs.Keeping.{forgotten}
use Rattle.wdf_core.proofs.machine.Core.begin_again.Goals as goal

pub begin_again-requires-clause-objects : goal.begin_again-requires-clause-objects
begin_again-requires-clause-objects g c = declared_few c.self.inside.plan c.self.invariant.way.resolved

pub begin_again-requires-clause-agents : goal.begin_again-requires-clause-agents
begin_again-requires-clause-agents g c = c.requires ∙ ap (λ (C : Course). opening_agents C.plan g.A.Agent.meaning) (sym c.self.view_is)

pub begin_again-requires-clause-sized : goal.begin_again-requires-clause-sized
begin_again-requires-clause-sized g c = sized g.A.Agent.meaning c.self.inside.plan c.self.inside.journal.items c.self.inside.parts _ _ c.self.invariant.way

pub invariant_of-self : goal.invariant_of-self
invariant_of-self g c = record {
  way = rw (c.clear.ensures.items, c.clear.ensures.capacity) (opens g.A.Agent.meaning c.self.inside.plan c.begin_again.new.self _ _ c.self.invariant.way.resolved (opening_state g.A.Agent.meaning c.self.inside.plan c.begin_again.new.self c.begin_again.ensures) c.self.invariant.way.groups c.self.invariant.way.room);
  counts = rw c.forget_all.ensures (forgotten g.A.Agent.meaning c.self.inside.plan c.self.inside.parts c.begin_again.new.self c.self.inside.groups c.self.inside.counts c.self.invariant.counts);
}

pub returns-clause-plan : goal.returns-clause-plan
returns-clause-plan g c = ap (λ (C : Course). C.plan) c.self.view_is

pub returns-clause-journal : goal.returns-clause-journal
returns-clause-journal g c = c.clear.ensures.items
