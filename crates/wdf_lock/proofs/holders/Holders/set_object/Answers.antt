-- The hold is written, and its bit.
use Rattle.std.proofs.Common.{arith}
use Rattle.wdf_lock.proofs.Taking.{taken_put}
use Rattle.wdf_lock.proofs.holders.Holders.set_object.Goals as goal

pub invariant_of-self : goal.invariant_of-self
invariant_of-self c = record {
  objects = omega (arith, c.put_at.ensures.room, c.self.invariant.objects);
  devices = c.self.invariant.devices;
  queues = c.self.invariant.queues;
  taken = rw (c.put_at.ensures.entries, c.put.ensures, c.is_some.ensures) (taken_put c.self.inside.objects.items c.self.inside.taken c.args.o c.args.held c.requires c.self.invariant.taken);
}
