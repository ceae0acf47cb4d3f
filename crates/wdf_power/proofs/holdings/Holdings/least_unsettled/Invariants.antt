-- What was found is the least of those that were looked at, and the next one is at the counter's place.
use Rattle.std.proofs.Common.{◌≡◌, slice_get, take}
use Rattle.wdf_model.specs.parts.Power.{holding_of, is_unsettled_at}
use Rattle.wdf_ilist.specs.Family.{list_at}
use Rattle.wdf_power.proofs.Low.{IsLow}
use Rattle.wdf_power.proofs.holdings.Holdings.least_unsettled.Given as goal

abbrev pub invariant-loop : goal.invariant-loop
invariant-loop l = record {
  next : l.next ≡ slice_get (list_at l.held.lists l.list) l.counter;
  low : IsLow (λ r. is_unsettled_at l.self l.fn.d.0 (holding_of l.self r)) (take l.counter (list_at l.held.lists l.list)) l.found;
}
