use Rattle.std.proofs.Common.{◌≡◌, ◌-◌, length}
use Rattle.wdf_plan.specs.Scripts.{AreDetours}
use Rattle.wdf_plan.proofs.Writings.{IsWritten}
use Rattle.wdf_plan.proofs.writer.statements_from.Given as goal

abbrev pub invariant-loop-at : goal.invariant-loop-at
invariant-loop-at l =
    IsWritten l.names l.variables l.lines l.from l.blocks.items l.statements l.at
    × AreDetours 0 l.blocks.items l.lines l.detours.items
    × (length l.detours.items ≡ length l.blocks.items)

abbrev pub decreases-loop-at : goal.decreases-loop-at
decreases-loop-at l = length l.initial.lines - l.at
