-- The ids of which the tally has some are those queues.
use Rattle.wdf_request.specs.Requests.{requests_in}
use Rattle.wdf_request.proofs.ForQueues.{next_returned}
use Rattle.wdf_request.proofs.requests.Requests.next_returning_to.Goals as goal

pub returns : goal.returns
returns c = rw (← c.self.view_is) (next_returned (requests_in c.self.inside) c.self.inside.returning c.args.from.0 c.next.result c.self.invariant.returning c.next.ensures)
