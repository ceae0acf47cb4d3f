-- From here on in the steps that are left it comes to the same.
use Rattle.std.proofs.Common.{◌≡◌, ◌-◌}
use Rattle.wdf_model.specs.agents.StackManager.{first_in}
use Rattle.wdf_stack.proofs.stack_manager.first_in.Given as goal

abbrev pub invariant-loop-step : goal.invariant-loop-step
invariant-loop-step l = first_in l.devices l.ask (l.steps - l._step) l.first ≡ first_in l.devices l.ask l.steps l.fn.device
