-- Nothing is due for a device before the index.
use Rattle.std.proofs.Common.{◌≡◌, [], take}
use Rattle.std.specs.List.{filter_map}
use Rattle.wdf_model.specs.agents.IdlePolicy.{idle_post}
use Rattle.wdf_idle.proofs.idle_policy.first_post.Given as goal

abbrev pub invariant-loop-device : goal.invariant-loop-device
invariant-loop-device l = filter_map (idle_post l.now) (take l.device-index l.devices) ≡ []
