-- No action before the place has a line that comes after.
use Rattle.std.proofs.Common.{◌≡◌, ℕ, ◌<◌, Some, slice_get, nat_lt, false}
use Rattle.wdf_model.specs.declared.entries.DeviceAction.{DeviceAction}
use Rattle.wdf_dev.proofs.device_lines.place_of.Given as goal

abbrev pub invariant-loop-at : goal.invariant-loop-at
invariant-loop-at l = (k : ℕ) (a : DeviceAction) → k < l.at → slice_get l.actions k ≡ Some a → nat_lt l.line a.line ≡ false
