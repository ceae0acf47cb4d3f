-- A seat was split off for each worker so far but one. The first seat may give a number to each of the rest.
use Rattle.std.proofs.Common.{◌≡◌, ◌+◌, ◌≤◌, length}
use Rattle.std.specs.List.{All}
use Rattle.wdf_turn.specs.Turns.{token}
use Rattle.wdf_crew.specs.Rows.{IsFirst, IsIdleSeat, IsOtherSeat}
use Rattle.wdf_crew.proofs.seats.seat_workers.Given as goal

abbrev pub invariant-loop-made : goal.invariant-loop-made
invariant-loop-made g l = record {
  others : All (IsOtherSeat l.turn) l.seats.items;
  count : length l.seats.items + 1 ≡ l._made;
  room : l.workers ≤ l.seats.cap;
  idle : IsIdleSeat l.turn l.first;
  first : IsFirst (length l.seats.items) l.first;
  made : (token l.first).made ≡ l._made;
  seats : (token l.first).seats ≡ l.workers;
}
