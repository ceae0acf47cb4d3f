-- What the core keeps holds of no events.
use Rattle.wdf_core.proofs.Journal.{opens}
use Rattle.wdf_core.proofs.machine.Core.opened.Goals as goal

pub begun-requires-clause-under_way : goal.begun-requires-clause-under_way
begun-requires-clause-under_way g c =
    opens g.A.Agent.meaning c.args.plan c.in-Ok.parts _ _ c.requires.resolved c.in-Ok.ensures c.requires.groups c.requires.space
