-- So many of the ids up to here are due.
use Rattle.std.proofs.Common.{◌≡◌, ◌+◌, ◌-◌, ◌≤◌, filter, length}
use Rattle.std.specs.List.{range_with_len}
use Rattle.wdf_model.specs.parts.Deferred.Timers.{timer_due}
use Rattle.wdf_defer.proofs.timers.Timers.counted_before.Given as goal

abbrev pub invariant-loop-id : goal.invariant-loop-id
invariant-loop-id l = record {
  counted : l.count + length (filter (λ o. timer_due l.self o l.now) (range_with_len l.id (l.id-end - l.id))) ≡ length (filter (λ o. timer_due l.self o l.now) (range_with_len 0 l.id-end));
  few : l.count ≤ l.id;
}
