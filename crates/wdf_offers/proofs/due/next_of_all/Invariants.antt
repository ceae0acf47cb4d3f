-- At no place so far a callback is due.
use Rattle.wdf_sets.specs.Nexts.{NoneFrom}
use Rattle.wdf_offers.specs.Idle.{is_due_at}
use Rattle.wdf_offers.proofs.due.next_of_all.Given as goal

abbrev pub invariant-loop-place : goal.invariant-loop-place
invariant-loop-place g l = NoneFrom (is_due_at l.plan l.parts l.rank l.object.0) l.from l.place
