-- It is the least of the line's tick and of those of the devices before the index.
use Rattle.std.proofs.Common.{◌≡◌, fold, take}
use Rattle.std.specs.List.{filter_map}
use Rattle.wdf_model.specs.Tables.{lesser}
use Rattle.wdf_model.specs.agents.IdlePolicy.{later_sleep}
use Rattle.wdf_idle.proofs.idle_policy.least_tick.Given as goal

abbrev pub invariant-loop-device : goal.invariant-loop-device
invariant-loop-device l = l.least ≡ fold lesser l.fn.line (filter_map (later_sleep l.now) (take l.device-index l.devices))
