-- The devices of the objects so far.
use Rattle.std.proofs.Common.{◌≡◌, map, take}
use Rattle.wdf_plan_index.specs.Keys.{device_over}
use Rattle.wdf_plan_index.proofs.keys.devices_over.Given as goal

abbrev pub invariant-loop-k : goal.invariant-loop-k
invariant-loop-k l = l.devices.items ≡ map device_over (take l.k l.plan.declared)
