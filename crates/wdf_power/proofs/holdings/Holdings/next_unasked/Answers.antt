-- The members of the set are those requests.
use Rattle.std.proofs.Common.{ap, find, nat_le, ◌∙◌}
use Rattle.wdf_sets.proofs.Nexts.{member_from}
use Rattle.wdf_power.specs.Held.{holdings_in}
use Rattle.wdf_power.proofs.ForQueues.{members_unasked}
use Rattle.wdf_power.proofs.holdings.Holdings.next_unasked.Goals as goal

pub returns : goal.returns
returns c =
    rw (c.from.ensures, ← c.self.view_is)
    (member_from c.self.inside.unasked_ids c.args.from
    ∙ ap (λ ids. find (nat_le c.args.from) ids) (members_unasked (holdings_in c.self.inside) c.self.inside.unasked_ids c.self.invariant.unasked_ids))
