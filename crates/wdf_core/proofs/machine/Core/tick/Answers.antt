-- The clock has room for a tick more.
use Rattle.std.proofs.Common.{◌+◌, ◌<◌, ◌^◌, arith}
use Rattle.wdf_core.proofs.Journal.{clock_fits}
use Rattle.wdf_core.proofs.machine.Core.tick.Goals as goal

pub overflow_add-result : goal.overflow_add-result
overflow_add-result g c =
    let fits : c.self.inside.parts.clock + 1 < 2 ^ 64 = clock_fits g.A.Agent.meaning c.self.inside.plan c.self.inside.journal.items c.self.inside.parts _ _ c.self.invariant.way (rw (← c.self.view_is) at c.requires) in
    let same = c.now.ensures in
    omega arith
