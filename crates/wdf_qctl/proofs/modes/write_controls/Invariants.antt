-- Those of the first ids so far, and there is room for the rest.
use Rattle.std.proofs.Common.{◌≡◌, ◌+◌, ◌≤◌, length, map, vec_capacity, vec_len}
use Rattle.std.specs.List.{range_with_len}
use Rattle.wdf_model.specs.Plans.{queue_of}
use Rattle.wdf_model.specs.parts.Control.{opening_mode}
use Rattle.wdf_qctl.proofs.modes.write_controls.Given as goal

abbrev pub invariant-loop-k : goal.invariant-loop-k
invariant-loop-k l = record {
  those : l.all.items ≡ map (λ q. opening_mode (queue_of l.plan q)) (range_with_len 0 (l.k + 1));
  as_many : vec_len l.all ≡ l.k + 1;
  room : 1 + length l.plan.declared ≤ vec_capacity l.all;
}
