-- The interrupts of the device among the ids so far.
use Rattle.std.proofs.Common.{◌≡◌}
use Rattle.wdf_pnp.specs.Opening.{interrupts_below}
use Rattle.wdf_pnp.proofs.opening.device_interrupts.Given as goal

abbrev pub invariant-loop-id : goal.invariant-loop-id
invariant-loop-id l = l.all.items ≡ interrupts_below l.plan l.d.0 l.id
