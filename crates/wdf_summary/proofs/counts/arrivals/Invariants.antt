-- The events before this one are counted.
use Rattle.std.proofs.Common.{◌≡◌, ◌≤◌, take}
use Rattle.std.specs.List.{count_by}
use Rattle.wdf_summary.specs.Counts.{is_arrival}
use Rattle.wdf_summary.proofs.counts.arrivals.Given as goal

abbrev pub invariant-loop-k : goal.invariant-loop-k
invariant-loop-k g l = record {
  counted : l.count ≡ count_by is_arrival (take l.k l.core.journal);
  few : l.count ≤ l.k;
}
