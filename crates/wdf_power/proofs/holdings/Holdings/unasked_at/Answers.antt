-- The members of the set are those requests.
use Rattle.std.proofs.Common.{ap, slice_get}
use Rattle.wdf_power.specs.Held.{holdings_in}
use Rattle.wdf_power.proofs.ForQueues.{members_unasked}
use Rattle.wdf_power.proofs.holdings.Holdings.unasked_at.Goals as goal

pub returns : goal.returns
returns c =
    rw (c.at.ensures, ← c.self.view_is)
    (ap (λ ids. slice_get ids c.args.k) (members_unasked (holdings_in c.self.inside) c.self.inside.unasked_ids c.self.invariant.unasked_ids))
