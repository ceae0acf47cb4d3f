-- The actions so far are those of the first lines.
use Rattle.std.proofs.Common.{◌≡◌, take}
use Rattle.std.specs.List.{filter_map}
use Rattle.wdf_model.specs.agents.Device.{when_action}
use Rattle.wdf_dev.proofs.device_lines.when_actions.Given as goal

abbrev pub invariant-loop-k : goal.invariant-loop-k
invariant-loop-k l = l.actions.items ≡ filter_map (when_action l.plan l.device.0) (take l.k l.plan.whens)
