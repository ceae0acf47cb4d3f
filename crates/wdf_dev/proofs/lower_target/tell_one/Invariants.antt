-- The requests at smaller places are told.
use Rattle.std.proofs.Common.{◌≡◌}
use Rattle.wdf_model.specs.agents.LowerTarget.{told_one}
use Rattle.wdf_dev.proofs.Mapping.{changed_to}
use Rattle.wdf_dev.proofs.lower_target.tell_one.Given as goal

abbrev pub invariant-loop-k : goal.invariant-loop-k
invariant-loop-k l = l.sent ≡ changed_to (told_one l.r.0) l.k l.fn.sent
