-- The devices so far are the first.
use Rattle.std.proofs.Common.{◌≡◌, map, take}
use Rattle.wdf_model.specs.agents.StackManager.{stack_device}
use Rattle.wdf_stack.proofs.stack_manager.stack_devices.Given as goal

abbrev pub invariant-loop-device : goal.invariant-loop-device
invariant-loop-device l = l.made.items ≡ map (stack_device l.plan) (take l.device-index l.devices)
