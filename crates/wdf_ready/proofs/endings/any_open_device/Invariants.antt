-- No id so far is of a device with steps left.
use Rattle.std.proofs.Common.{ℕ, ◌≡◌, ◌<◌, false}
use Rattle.wdf_ready.proofs.AnyOf.{is_open_device}
use Rattle.wdf_ready.proofs.endings.any_open_device.Given as goal

abbrev pub invariant-loop-id : goal.invariant-loop-id
invariant-loop-id g l = (j : ℕ) → j < l.id → is_open_device l.parts l.plan j ≡ false
