-- The members of the set are those requests.
use Rattle.std.proofs.Common.{ap, slice_get}
use Rattle.wdf_request.proofs.Members.{members_due}
use Rattle.wdf_request.proofs.requests.Requests.due_at.Goals as goal

pub returns : goal.returns
returns c =
    rw (c.object_at.ensures, c.at.ensures, ← c.self.view_is)
    (ap (λ ids. slice_get ids c.args.k) (members_due c.self.inside.all.items c.self.inside.due c.self.invariant.due))
