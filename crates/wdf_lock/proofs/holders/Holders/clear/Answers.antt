-- Nothing is held.
use Rattle.std.proofs.Common.{length, refl}
use Rattle.wdf_lock.proofs.Taking.{none_taken}
use Rattle.wdf_lock.proofs.holders.Holders.clear.Goals as goal

pub invariant_of-self : goal.invariant_of-self
invariant_of-self c = record {
  objects = rw c.clear.ensures.capacity c.self.invariant.objects;
  devices = rw c.clear-2.ensures.capacity c.self.invariant.devices;
  queues = rw c.clear-3.ensures.capacity c.self.invariant.queues;
  taken = none_taken (length c.self.inside.taken) _ _ c.clear.ensures.items c.self.invariant.taken.room c.clear-4.ensures;
}

pub returns : goal.returns
returns c = rw (c.clear.ensures.items, c.clear-2.ensures.items, c.clear-3.ensures.items) refl
