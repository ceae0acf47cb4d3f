-- The members of the set are those requests.
use Rattle.std.proofs.Common.{length, ap}
use Rattle.wdf_request.specs.Requests.{requests_in}
use Rattle.wdf_request.proofs.ForQueues.{members_returning}
use Rattle.wdf_request.proofs.requests.Requests.returning_len.Goals as goal

pub returns : goal.returns
returns c = rw (c.len.ensures, ← c.self.view_is) (ap length (members_returning (requests_in c.self.inside) c.self.inside.returns c.self.invariant.returns))
