-- The devices so far are those of the ids so far, and there is room for the rest.
use Rattle.std.proofs.Common.{◌≡◌, ◌≤◌, map, vec_capacity, vec_len}
use Rattle.std.specs.List.{range_with_len}
use Rattle.wdf_power.specs.Power.{opening_device_at}
use Rattle.wdf_power.proofs.opening.write_devices.Given as goal

abbrev pub invariant-loop-id : goal.invariant-loop-id
invariant-loop-id l = record {
  those : l.devices.items ≡ map (opening_device_at l.plan) (range_with_len 0 l.id);
  as_many : vec_len l.devices ≡ l.id;
  room : l.count ≤ vec_capacity l.devices;
}
