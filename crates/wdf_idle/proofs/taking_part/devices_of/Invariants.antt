-- The devices so far are those of the first ids that take part.
use Rattle.std.proofs.Common.{◌≡◌, take}
use Rattle.std.specs.List.{filter_map}
use Rattle.wdf_model.specs.agents.IdlePolicy.{device_if_part}
use Rattle.wdf_idle.proofs.taking_part.devices_of.Given as goal

abbrev pub invariant-loop-id : goal.invariant-loop-id
invariant-loop-id l = l.devices.items ≡ filter_map (device_if_part l.plan) (take l.id-index l.id-items)
