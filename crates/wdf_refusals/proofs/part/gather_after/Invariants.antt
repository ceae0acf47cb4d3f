use Rattle.std.proofs.Common.{length, ◌++◌}
use Rattle.std.specs.List.{filter_map}
use Rattle.wdf_blocks.specs.Placed.{placed}
use Rattle.wdf_refusals.proofs.Gather.{IsGathering}
use Rattle.wdf_refusals.proofs.part.gather_after.Given as goal

abbrev pub invariant-loop-line : goal.invariant-loop-line
invariant-loop-line g l =
    IsGathering (g.P.Part.part l.part) (g.P.Part.fits l.part) l.walk l.items (l.fn.items ++ filter_map (g.P.Part.part l.part) (placed l.scene))

abbrev pub decreases-loop-line : goal.decreases-loop-line
decreases-loop-line g l = length l.walk
