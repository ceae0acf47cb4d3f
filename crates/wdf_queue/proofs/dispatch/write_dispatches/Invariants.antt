-- Those of the first ids so far, and there is room for the rest.
use Rattle.std.proofs.Common.{◌≡◌, ◌+◌, ◌≤◌, length, map, vec_capacity, vec_len}
use Rattle.std.specs.List.{range_with_len}
use Rattle.wdf_model.specs.Plans.{queue_of}
use Rattle.wdf_model.specs.parts.Queues.{opening_dispatch}
use Rattle.wdf_queue.proofs.dispatch.write_dispatches.Given as goal

abbrev pub invariant-loop-k : goal.invariant-loop-k
invariant-loop-k l = record {
  those : l.all.items ≡ map (λ q. opening_dispatch (queue_of l.plan q)) (range_with_len 0 (l.k + 1));
  as_many : vec_len l.all ≡ l.k + 1;
  room : 1 + length l.plan.declared ≤ vec_capacity l.all;
}
