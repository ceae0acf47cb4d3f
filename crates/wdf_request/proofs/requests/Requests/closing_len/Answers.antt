-- The members of the set are those requests.
use Rattle.std.proofs.Common.{length, ap}
use Rattle.wdf_request.proofs.Members.{members_closing}
use Rattle.wdf_request.proofs.requests.Requests.closing_len.Goals as goal

pub returns : goal.returns
returns c = rw (c.len.ensures, ← c.self.view_is) (ap length (members_closing c.self.inside.all.items c.self.inside.closing c.self.invariant.closing))
