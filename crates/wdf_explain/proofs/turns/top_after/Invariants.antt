-- The turns from here on backwards lead to the same frame.
use Rattle.std.proofs.Common.{◌≡◌, ◌+◌, ◌≤◌}
use Rattle.wdf_explain.specs.About.{frame_under}
use Rattle.wdf_explain.proofs.turns.top_after.Given as goal

abbrev pub invariant-loop-left : goal.invariant-loop-left
invariant-loop-left l = (frame_under l.cpu.0 l.events l.left l.depth ≡ frame_under l.cpu.0 l.events l.count 0) × (l.depth + l.left ≤ l.count)

abbrev pub decreases-loop-left : goal.decreases-loop-left
decreases-loop-left l = l.left
