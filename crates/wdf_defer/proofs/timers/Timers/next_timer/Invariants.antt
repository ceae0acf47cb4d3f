use Rattle.std.proofs.Common.{◌≡◌, drop}
use Rattle.wdf_defer.specs.Ticks.{earlier, earliest_of}
use Rattle.wdf_defer.proofs.timers.Timers.next_timer.Given as goal

abbrev pub invariant-loop-place : goal.invariant-loop-place
invariant-loop-place l = earlier l.least (earliest_of (drop l.place l.self.queued)) ≡ earliest_of l.self.queued
