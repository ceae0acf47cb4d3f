-- No timer at the places so far is due later.
use Rattle.std.proofs.Common.{◌≡◌, drop}
use Rattle.wdf_model.specs.parts.Deferred.Timers.{any_later_timer}
use Rattle.wdf_defer.proofs.timers.Timers.some_later.Given as goal

abbrev pub invariant-loop-place : goal.invariant-loop-place
invariant-loop-place l = any_later_timer (record { queued = drop l.place l.self.queued }) l.now ≡ any_later_timer l.self l.now
