-- The ids of the block so far are told.
use Rattle.std.proofs.Common.{◌≡◌, ◌*◌, ◌+◌, ◌/◌, ◌≤◌, length, ◌-◌}
use Rattle.wdf_defer.proofs.Reaching.{AddsUpTo, IsLowUpTo}
use Rattle.wdf_defer.proofs.reached.reach_block.Given as goal

abbrev pub invariant-search : goal.invariant-search
invariant-search l = record {
  from : 64 * (l.fn.o.0 / 64) ≤ l.at;
  within : l.at ≤ 64 * (l.fn.o.0 / 64) + 64;
  adds : AddsUpTo l.queued l.ticks (64 * (l.fn.o.0 / 64)) l.at l.now l.fn.reached l.reached;
  low : IsLowUpTo l.queued l.ticks (64 * (l.fn.o.0 / 64)) l.at l.now l.floor;
  room : length l.reached ≡ length l.fn.reached;
}

abbrev pub decreases-search : goal.decreases-search
decreases-search l = 64 * (l.fn.o.0 / 64) + 64 - l.at
