-- The walk begins at the front.
use Rattle.wdf_core.proofs.Walking.{waits_at_front}
use Rattle.wdf_core.proofs.machine.Core.first_wait.Goals as goal

pub returns : goal.returns
returns g c = rw c.first_wait.ensures (waits_at_front g.A.Agent.meaning c.args.self.now.plan c.args.self.now.journal)
