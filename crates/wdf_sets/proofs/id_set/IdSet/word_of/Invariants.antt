use Rattle.std.proofs.Common.{◌-◌, length}
use Rattle.wdf_sets.proofs.Passing.{Passes}
use Rattle.wdf_sets.proofs.id_set.IdSet.word_of.Given as goal

abbrev pub invariant-loop-skipped : goal.invariant-loop-skipped
invariant-loop-skipped l = Passes l.self l.fn.block l.skipped l.start

abbrev pub decreases-loop-skipped : goal.decreases-loop-skipped
decreases-loop-skipped l = length l.self - l.start
