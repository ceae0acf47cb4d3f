-- Nothing is counted.
use Rattle.std.proofs.Common.{lit≤}
use Rattle.wdf_tally.proofs.Noting.{none_counted}
use Rattle.wdf_tally.proofs.tally.Tally.make.Goals as goal

pub invariant_of-result : goal.invariant_of-result
invariant_of-result c = none_counted 204800 _ _ c.in_ok-make.ensures (lit≤ tt) c.in_ok-make-2.ensures
