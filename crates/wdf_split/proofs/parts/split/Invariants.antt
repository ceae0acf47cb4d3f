-- No line so far is `trace`.
use Rattle.std.proofs.Common.{length, ◌-◌}
use Rattle.wdf_split.proofs.Parting.{IsAt}
use Rattle.wdf_split.proofs.parts.split.Given as goal

abbrev pub invariant-loop-at : goal.invariant-loop-at
invariant-loop-at l = IsAt l.input l.at

abbrev pub decreases-loop-at : goal.decreases-loop-at
decreases-loop-at l = length l.input - l.at
