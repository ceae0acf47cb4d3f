-- The opening is the state of no events.
use Rattle.wdf_model.specs.rules.Ready.{state_after}
use Rattle.wdf_core.proofs.Journal.{declared_few}
use Rattle.wdf_core.proofs.machine.opening_parts.Goals as goal

pub make-requires-clause-objects : goal.make-requires-clause-objects
make-requires-clause-objects g c = declared_few c.args.plan.now c.requires.resolved

pub make-requires-clause-agents : goal.make-requires-clause-agents
make-requires-clause-agents g c = c.requires.agents

pub returns : goal.returns
unfolding state_after
returns g c = c.make.ensures
