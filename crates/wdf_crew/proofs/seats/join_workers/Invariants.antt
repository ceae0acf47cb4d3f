-- The seats that aren't joined are others, and the first seat counts them.
use Rattle.std.proofs.Common.{length}
use Rattle.std.specs.List.{All}
use Rattle.wdf_crew.specs.Rows.{IsFirst, IsIdleSeat, IsOtherSeat}
use Rattle.wdf_crew.proofs.seats.join_workers.Given as goal

abbrev pub invariant-join : goal.invariant-join
invariant-join g l = record {
  others : All (IsOtherSeat l.turn) l.seats.items;
  idle : IsIdleSeat l.turn l.first;
  first : IsFirst (length l.seats.items) l.first;
}

abbrev pub decreases-join : goal.decreases-join
decreases-join g l = length l.seats.items
