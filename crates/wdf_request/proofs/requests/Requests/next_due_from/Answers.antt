-- The ids of which the tally has some are those queues.
use Rattle.wdf_request.specs.Requests.{requests_in}
use Rattle.wdf_request.proofs.ForQueues.{next_cancelled}
use Rattle.wdf_request.proofs.requests.Requests.next_due_from.Goals as goal

pub returns : goal.returns
returns c = rw (← c.self.view_is) (next_cancelled (requests_in c.self.inside) c.self.inside.due_held c.args.from.0 c.next.result c.self.invariant.due_held c.next.ensures)
