-- What was moved, and what is left to move.
use Rattle.std.proofs.Common.{◌≡◌, ◌++◌, length, drop}
use Rattle.wdf_jitter.specs.Moved.{moved_lines}
use Rattle.wdf_jitter.proofs.moved.moved_lines.Given as goal

abbrev pub invariant-loop-at : goal.invariant-loop-at
invariant-loop-at l = (length l.moved ≡ l.at) × (l.moved ++ moved_lines l.most (drop l.at l.words) (drop l.at l.lines) ≡ moved_lines l.most l.words l.lines)
