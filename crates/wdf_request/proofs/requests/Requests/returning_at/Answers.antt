-- The members of the set are those requests.
use Rattle.std.proofs.Common.{ap, slice_get}
use Rattle.wdf_request.specs.Requests.{requests_in}
use Rattle.wdf_request.proofs.ForQueues.{members_returning}
use Rattle.wdf_request.proofs.requests.Requests.returning_at.Goals as goal

pub returns : goal.returns
returns c =
    rw (c.object_at.ensures, c.at.ensures, ← c.self.view_is)
    (ap (λ ids. slice_get ids c.args.k) (members_returning (requests_in c.self.inside) c.self.inside.returns c.self.invariant.returns))
