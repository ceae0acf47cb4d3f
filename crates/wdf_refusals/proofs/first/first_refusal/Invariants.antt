use Rattle.std.proofs.Common.{length}
use Rattle.wdf_refusals.proofs.first.first_refusal.Given as goal
use Rattle.wdf_refusals.proofs.Firsts.{IsUnderway}

abbrev pub invariant-loop-placed : goal.invariant-loop-placed
invariant-loop-placed l = IsUnderway l.heritage l.walk l.callback l.variables

abbrev pub decreases-loop-placed : goal.decreases-loop-placed
decreases-loop-placed l = length l.walk
