-- None is enabled.
use Rattle.std.proofs.Common.{lit≤}
use Rattle.wdf_intr.proofs.Writing.{none_enabled}
use Rattle.wdf_intr.proofs.interrupts.Interrupts.make.Goals as goal

pub invariant_of-result : goal.invariant_of-result
invariant_of-result c = none_enabled 204800 _ (lit≤ tt) c.in_ok-make.ensures
