-- The devices at smaller places are changed.
use Rattle.std.proofs.Common.{◌≡◌}
use Rattle.wdf_model.specs.agents.StackManager.{with_phase_one}
use Rattle.wdf_dev.proofs.Mapping.{changed_to}
use Rattle.wdf_stack.proofs.stack_manager.set_phase.Given as goal

abbrev pub invariant-loop-k : goal.invariant-loop-k
invariant-loop-k l = l.devices ≡ changed_to (with_phase_one l.device.0 l.phase) l.k l.fn.devices
