-- The ids of which the tally has some are those queues.
use Rattle.wdf_power.specs.Held.{holdings_in}
use Rattle.wdf_power.proofs.ForQueues.{next_to_ask}
use Rattle.wdf_power.proofs.holdings.Holdings.next_unasked_from.Goals as goal

pub returns : goal.returns
returns c = rw (← c.self.view_is) (next_to_ask (holdings_in c.self.inside) c.self.inside.unasked c.args.from.0 c.next.result c.self.invariant.unasked c.next.ensures)
