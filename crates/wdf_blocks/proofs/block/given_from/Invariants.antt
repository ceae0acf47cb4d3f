use Rattle.std.proofs.Common.{◌-◌, length}
use Rattle.wdf_blocks.proofs.Scans.{IsScanned}
use Rattle.wdf_blocks.proofs.block.given_from.Given as goal

abbrev pub invariant-loop-at : goal.invariant-loop-at
invariant-loop-at l = IsScanned l.attribute l.lines l.from l.depth l.at

abbrev pub decreases-loop-at : goal.decreases-loop-at
decreases-loop-at l = length l.initial.lines - l.at
