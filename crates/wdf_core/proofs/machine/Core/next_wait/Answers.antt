-- The run is stuck, and the line is the next one of its state.
use Rattle.wdf_core.proofs.Walking.{line_opens, line_there}
use Rattle.wdf_core.proofs.machine.Core.next_wait.Goals as goal

pub unwrap-requires : goal.unwrap-requires
unwrap-requires g c =
    line_there g.A.Agent.meaning c.args.self.now.plan c.args.self.now.journal c.args.place c.next_wait.result (rw (c.indexed.ensures, c.parts.ensures) at c.next_wait.ensures) c.requires

pub returns : goal.returns
returns g c =
    line_opens g.A.Agent.meaning c.args.self.now.plan c.args.self.now.journal c.args.place c.next_wait.result c.unwrap.result c.unwrap.ensures (rw (c.indexed.ensures, c.parts.ensures) at c.next_wait.ensures) c.requires
