-- The requests at smaller places are changed.
use Rattle.std.proofs.Common.{◌≡◌}
use Rattle.wdf_model.specs.agents.Connector.{cancelled_one}
use Rattle.wdf_dev.proofs.Mapping.{changed_to}
use Rattle.wdf_stack.proofs.line.cancel_one.Given as goal

abbrev pub invariant-loop-k : goal.invariant-loop-k
invariant-loop-k l = l.sent ≡ changed_to (cancelled_one l.r.0) l.k l.fn.sent
