-- Those that were looked at are awake, and the next one is at the counter's place.
use Rattle.std.proofs.Common.{◌≡◌, slice_get, take}
use Rattle.wdf_ilist.specs.Family.{list_at}
use Rattle.wdf_power.proofs.Waking.{Waking}
use Rattle.wdf_power.proofs.holdings.Holdings.wake.Given as goal

abbrev pub invariant-loop : goal.invariant-loop
invariant-loop l = record {
  next : l.next ≡ slice_get (list_at l.held.lists l.list) l.counter;
  waking : Waking l.fn.self l.self l.fn.d.0 (take l.counter (list_at l.held.lists l.list));
}
