-- The requests at smaller places are changed.
use Rattle.std.proofs.Common.{◌≡◌}
use Rattle.wdf_model.specs.agents.Connector.{completed_one}
use Rattle.wdf_dev.proofs.Mapping.{changed_to}
use Rattle.wdf_stack.proofs.line.complete.Given as goal

abbrev pub invariant-loop-k : goal.invariant-loop-k
invariant-loop-k l = l.sent ≡ changed_to (completed_one l.x.0 l.status) l.k l.fn.sent
