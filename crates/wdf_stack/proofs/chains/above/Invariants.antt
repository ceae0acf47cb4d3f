-- No device before the place names this one.
use Rattle.wdf_model.specs.Tables.{same_id}
use Rattle.wdf_model.specs.agents.Chains.{device_named_by}
use Rattle.wdf_stack.specs.Line.{NoneBefore}
use Rattle.wdf_stack.proofs.chains.above.Given as goal

abbrev pub invariant-loop-upper : goal.invariant-loop-upper
invariant-loop-upper l = NoneBefore (λ d. same_id (device_named_by l.plan d) l.device) l.upper-index l.devices
