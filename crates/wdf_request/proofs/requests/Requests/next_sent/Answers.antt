-- The members of the set are those requests.
use Rattle.wdf_request.specs.Requests.{requests_in}
use Rattle.wdf_request.proofs.Members.{next_out}
use Rattle.wdf_request.proofs.requests.Requests.next_sent.Goals as goal

pub returns : goal.returns
returns c = rw (← c.self.view_is) (next_out (requests_in c.self.inside) c.self.inside.sendings c.args.from.0 c.next.result c.object_at.result c.self.invariant.sendings c.object_at.ensures c.next.ensures)
