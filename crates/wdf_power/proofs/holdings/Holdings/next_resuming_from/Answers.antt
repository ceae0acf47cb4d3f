-- The ids of which the tally has some are those queues.
use Rattle.wdf_power.specs.Held.{holdings_in}
use Rattle.wdf_power.proofs.ForQueues.{next_to_resume}
use Rattle.wdf_power.proofs.holdings.Holdings.next_resuming_from.Goals as goal

pub returns : goal.returns
returns c = rw (← c.self.view_is) (next_to_resume (holdings_in c.self.inside) c.self.inside.resuming c.args.from.0 c.next.result c.self.invariant.resuming c.next.ensures)
