-- No device before the place is named.
use Rattle.wdf_model.specs.agents.Chains.{names_device}
use Rattle.wdf_stack.specs.Line.{NoneBefore}
use Rattle.wdf_stack.proofs.chains.named_device.Given as goal

abbrev pub invariant-loop-device : goal.invariant-loop-device
invariant-loop-device l = NoneBefore (names_device l.plan l.target) l.device-index l.devices
