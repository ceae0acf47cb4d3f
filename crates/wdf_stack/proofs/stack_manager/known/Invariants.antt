-- No device before the place is this one.
use Rattle.wdf_model.specs.agents.StackManager.{is_device}
use Rattle.wdf_stack.specs.Line.{NoneBefore}
use Rattle.wdf_stack.proofs.stack_manager.known.Given as goal

abbrev pub invariant-loop-known : goal.invariant-loop-known
invariant-loop-known l = NoneBefore (is_device l.device.0) l.known-index l.devices
