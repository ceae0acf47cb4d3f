-- The sequences so far are those of the ids so far.
use Rattle.std.proofs.Common.{◌≡◌, map}
use Rattle.std.specs.List.{range_with_len}
use Rattle.wdf_pnp.specs.Opening.{sequence_at}
use Rattle.wdf_pnp.proofs.pnp.opening_devices.Given as goal

abbrev pub invariant-loop-id : goal.invariant-loop-id
invariant-loop-id l = l.devices.items ≡ map (sequence_at l.plan) (range_with_len 0 l.id)
