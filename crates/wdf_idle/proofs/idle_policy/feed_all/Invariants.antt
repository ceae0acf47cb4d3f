-- The devices before the index have heard, and the others are as they were.
use Rattle.std.proofs.Common.{◌≡◌, ◌++◌, map, take, drop}
use Rattle.wdf_model.specs.agents.IdlePolicy.{idle_after}
use Rattle.wdf_idle.proofs.idle_policy.feed_all.Given as goal

abbrev pub invariant-loop-device : goal.invariant-loop-device
invariant-loop-device l = l.devices ≡ map (idle_after l.now l.event) (take l.device-index l.initial.devices) ++ drop l.device-index l.initial.devices
