-- The numbers from the first place on are the same so far.
use Rattle.std.proofs.Common.{◌≡◌, ℕ, ◌-◌, ◌<◌, ◌≤◌, length, slice_index}
use Rattle.wdf_lint.proofs.search.end_of.Given as goal

abbrev pub invariant-loop-end : goal.invariant-loop-end
invariant-loop-end l = (l.from < l.end) × (l.end ≤ length l.ranks) × ((i : ℕ) → l.from ≤ i → i < l.end → slice_index l.ranks i ≡ slice_index l.ranks l.from)

abbrev pub decreases-loop-end : goal.decreases-loop-end
decreases-loop-end l = length l.ranks - l.end
