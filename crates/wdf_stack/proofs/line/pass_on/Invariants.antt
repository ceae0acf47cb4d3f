-- The requests at smaller places are changed.
use Rattle.std.proofs.Common.{◌≡◌}
use Rattle.wdf_model.specs.agents.Connector.{passed_on_one}
use Rattle.wdf_dev.proofs.Mapping.{changed_to}
use Rattle.wdf_stack.proofs.line.pass_on.Given as goal

abbrev pub invariant-loop-k : goal.invariant-loop-k
invariant-loop-k l = l.sent ≡ changed_to (passed_on_one l.arrival) l.k l.fn.sent
