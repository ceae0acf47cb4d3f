-- The seat holds nothing, and is still the same.
use Rattle.wdf_crew.specs.Rows.{IsIdleSeat, IsSameSeat}
use Rattle.wdf_crew.proofs.worker.work.Given as goal

abbrev pub invariant-loop-k : goal.invariant-loop-k
invariant-loop-k g l = IsIdleSeat l.turn l.seat × IsSameSeat l.initial.seat l.seat
