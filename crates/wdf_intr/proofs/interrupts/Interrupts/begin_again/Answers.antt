-- None is enabled.
use Rattle.std.proofs.Common.{length}
use Rattle.wdf_intr.proofs.Writing.{none_enabled}
use Rattle.wdf_intr.proofs.interrupts.Interrupts.begin_again.Goals as goal

pub invariant_of-self : goal.invariant_of-self
invariant_of-self c = none_enabled (length c.self.inside.set) _ c.self.invariant.room c.clear.ensures
