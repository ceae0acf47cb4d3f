-- No action before the place is due.
use Rattle.std.proofs.Common.{◌≡◌, ℕ, ◌<◌, Some, slice_get, false}
use Rattle.wdf_model.specs.declared.entries.DeviceAction.{DeviceAction}
use Rattle.wdf_model.specs.agents.Device.{is_due_at}
use Rattle.wdf_dev.proofs.device.first_due.Given as goal

abbrev pub invariant-loop-at : goal.invariant-loop-at
invariant-loop-at l = (k : ℕ) (a : DeviceAction) → k < l.at → slice_get l.actions k ≡ Some a → is_due_at l.now a.tick ≡ false
