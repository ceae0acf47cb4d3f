-- The state of the journal.
use Rattle.wdf_core.proofs.machine.Core.parts.Goals as goal

pub returns : goal.returns
returns g c = rw (← c.self.view_is) c.self.invariant.way.state
