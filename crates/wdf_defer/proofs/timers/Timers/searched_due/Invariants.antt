-- No timer at the places so far is due.
use Rattle.wdf_sets.specs.Nexts.{NoneFrom}
use Rattle.wdf_defer.specs.Timers.{is_due_at}
use Rattle.wdf_defer.proofs.timers.Timers.searched_due.Given as goal

abbrev pub invariant-loop-place : goal.invariant-loop-place
invariant-loop-place l = NoneFrom (is_due_at l.self l.now) l.from l.place
