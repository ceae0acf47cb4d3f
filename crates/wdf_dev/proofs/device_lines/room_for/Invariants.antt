-- There is room for the interrupts of the actions so far.
use Rattle.std.proofs.Common.{take}
use Rattle.wdf_dev.specs.Actions.{IsWithin}
use Rattle.wdf_dev.proofs.device_lines.room_for.Given as goal

abbrev pub invariant-loop-action : goal.invariant-loop-action
invariant-loop-action l = IsWithin l.room (take l.action-index l.actions)
