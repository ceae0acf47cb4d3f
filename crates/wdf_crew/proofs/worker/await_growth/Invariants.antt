-- The seat holds nothing, and is still the same.
use Rattle.wdf_crew.specs.Rows.{IsIdleSeat, IsSameSeat}
use Rattle.wdf_crew.proofs.worker.await_growth.Given as goal

abbrev pub invariant-loop-look : goal.invariant-loop-look
invariant-loop-look g l = IsIdleSeat l.turn l.seat × IsSameSeat l.initial.seat l.seat
