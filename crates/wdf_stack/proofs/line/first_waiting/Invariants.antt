-- No request before the place waits.
use Rattle.wdf_model.specs.agents.Connector.{is_waiting}
use Rattle.wdf_stack.specs.Line.{NoneBefore}
use Rattle.wdf_stack.proofs.line.first_waiting.Given as goal

abbrev pub invariant-loop-place : goal.invariant-loop-place
invariant-loop-place l = NoneBefore is_waiting l.place l.sent
