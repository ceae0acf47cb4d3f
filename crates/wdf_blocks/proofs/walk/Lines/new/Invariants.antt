use Rattle.std.proofs.Common.{◌≡◌, ◌++◌, length}
use Rattle.wdf_blocks.specs.Placed.{placed}
use Rattle.wdf_blocks.proofs.walk.Lines.new.Given as goal

abbrev pub invariant-loop-line : goal.invariant-loop-line
invariant-loop-line l = l.placed ++ l.placing ≡ placed l.scene

abbrev pub decreases-loop-line : goal.decreases-loop-line
decreases-loop-line l = length l.placing
