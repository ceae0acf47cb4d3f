-- The members of the set are those requests.
use Rattle.std.proofs.Common.{ap, find, nat_le, ◌∙◌}
use Rattle.wdf_sets.proofs.Nexts.{member_from}
use Rattle.wdf_request.proofs.Members.{members_closing}
use Rattle.wdf_request.proofs.requests.Requests.next_closing.Goals as goal

pub returns : goal.returns
returns c =
    rw (c.object_at.ensures, c.from.ensures, ← c.self.view_is)
    (member_from c.self.inside.closing c.args.from.0
    ∙ ap (λ ids. find (nat_le c.args.from.0) ids) (members_closing c.self.inside.all.items c.self.inside.closing c.self.invariant.closing))
