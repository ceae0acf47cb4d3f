-- The requests at smaller places are changed.
use Rattle.std.proofs.Common.{◌≡◌}
use Rattle.wdf_model.specs.agents.Connector.{cancelled_any}
use Rattle.wdf_dev.proofs.Mapping.{changed_to}
use Rattle.wdf_stack.proofs.line.cancel_all.Given as goal

abbrev pub invariant-loop-k : goal.invariant-loop-k
invariant-loop-k l = l.sent ≡ changed_to (cancelled_any) l.k l.fn.sent
