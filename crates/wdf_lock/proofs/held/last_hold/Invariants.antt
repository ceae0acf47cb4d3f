-- One is before the place or at it.
use Rattle.std.proofs.Common.{◌+◌, ◌<◌, ◌≤◌, count_by, length, take}
use Rattle.wdf_lock.specs.Holds.{is_of}
use Rattle.wdf_lock.proofs.held.last_hold.Given as goal

abbrev pub invariant-loop-lock : goal.invariant-loop-lock
invariant-loop-lock l = record {
  within : l.place < length l.all;
  some : 1 ≤ count_by (is_of l.lock) (take (l.place + 1) l.all);
}

abbrev pub decreases-loop-lock : goal.decreases-loop-lock
decreases-loop-lock l = l.place
