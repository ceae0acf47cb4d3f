use Rattle.std.proofs.Common.{◌-◌, length}
use Rattle.wdf_blocks.proofs.Assigned.{IsCollected}
use Rattle.wdf_blocks.proofs.variables.assigned_from.Given as goal

abbrev pub invariant-loop-at : goal.invariant-loop-at
invariant-loop-at l = IsCollected l.lines l.from l.depth l.at l.variables

abbrev pub decreases-loop-at : goal.decreases-loop-at
decreases-loop-at l = length l.initial.lines - l.at
