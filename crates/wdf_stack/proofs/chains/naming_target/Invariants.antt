-- No target before the place is of the device and names one.
use Rattle.wdf_model.specs.agents.Chains.{is_naming}
use Rattle.wdf_stack.specs.Line.{NoneBefore}
use Rattle.wdf_stack.proofs.chains.naming_target.Given as goal

abbrev pub invariant-loop-target : goal.invariant-loop-target
invariant-loop-target l = NoneBefore (is_naming l.plan l.device) l.target-index l.targets
