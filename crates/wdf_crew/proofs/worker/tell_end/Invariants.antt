-- The seat holds nothing, and is still the same.
use Rattle.wdf_crew.specs.Rows.{IsIdleSeat, IsSameSeat}
use Rattle.wdf_crew.proofs.worker.tell_end.Given as goal

abbrev pub invariant-loop : goal.invariant-loop
invariant-loop g l = IsIdleSeat l.turn l.seat × IsSameSeat l.initial.seat l.seat
