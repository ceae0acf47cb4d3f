use Rattle.wdf_sets.proofs.Passing.{Narrows}
use Rattle.wdf_sets.proofs.bits.Bits.member_in.Given as goal

abbrev pub invariant-loop-size : goal.invariant-loop-size
invariant-loop-size l = Narrows l.self l.fn.word.skipped l.fn.word.start l.skipped l.start l.size

abbrev pub decreases-loop-size : goal.decreases-loop-size
decreases-loop-size l = l.size
