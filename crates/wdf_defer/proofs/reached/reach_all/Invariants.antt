-- The ids of the blocks so far are told.
use Rattle.std.proofs.Common.{◌≡◌, ℕ, ◌%◌, ◌≤◌, length, ◌-◌}
use Rattle.wdf_model.specs.declared.room.TheConstants.{OBJECTS}
use Rattle.wdf_defer.specs.Reached.{AreReached, IsLeast, told_below}
use Rattle.wdf_defer.proofs.reached.reach_all.Given as goal

abbrev pub invariant-search : goal.invariant-search
invariant-search l = record {
  block : l.at % 64 ≡ 0;
  told : (seen : ℕ) → seen ≤ l.now → AreReached l.queued l.ticks l.fn.reached l.fn.floors (λ o. seen) → AreReached l.queued l.ticks l.reached l.floors (told_below l.at l.now seen) × IsLeast l.queued l.ticks l.at l.now l.least;
  room : length l.reached ≡ length l.fn.reached;
}

abbrev pub decreases-search : goal.decreases-search
decreases-search l = OBJECTS - l.at
