-- Nothing is held.
use Rattle.std.proofs.Common.{refl, lit≤, arith}
use Rattle.wdf_lock.proofs.Taking.{none_taken}
use Rattle.wdf_lock.proofs.holders.Holders.make.Goals as goal

pub invariant_of-result : goal.invariant_of-result
invariant_of-result c = record {
  objects = omega (arith, c.in_ok-with_capacity.ensures.exact);
  devices = omega (arith, c.in_ok-with_capacity-2.ensures.exact);
  queues = omega (arith, c.in_ok-with_capacity-3.ensures.exact);
  taken = none_taken 204800 _ _ c.in_ok-with_capacity.ensures.items (lit≤ tt) c.in_ok-make.ensures;
}

pub returns : goal.returns
returns c = rw (c.in_ok-with_capacity.ensures.items, c.in_ok-with_capacity-2.ensures.items, c.in_ok-with_capacity-3.ensures.items) refl
