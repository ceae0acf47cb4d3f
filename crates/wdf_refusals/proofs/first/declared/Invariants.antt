use Rattle.std.proofs.Common.{length}
use Rattle.wdf_refusals.proofs.Fitting.{IsDeclaring}
use Rattle.wdf_refusals.proofs.first.declared.Given as goal

abbrev pub invariant-loop-placed : goal.invariant-loop-placed
invariant-loop-placed l = IsDeclaring l.scene l.walk l.names

abbrev pub decreases-loop-placed : goal.decreases-loop-placed
decreases-loop-placed l = length l.walk
