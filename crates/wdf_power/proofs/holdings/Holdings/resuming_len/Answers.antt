-- The members of the set are those requests.
use Rattle.std.proofs.Common.{length, ap}
use Rattle.wdf_power.specs.Held.{holdings_in}
use Rattle.wdf_power.proofs.ForQueues.{members_resuming}
use Rattle.wdf_power.proofs.holdings.Holdings.resuming_len.Goals as goal

pub returns : goal.returns
returns c = rw (c.len.ensures, ← c.self.view_is) (ap length (members_resuming (holdings_in c.self.inside) c.self.inside.resuming_ids c.self.invariant.resuming_ids))
