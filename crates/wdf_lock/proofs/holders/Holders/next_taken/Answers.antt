-- The members of the set are those objects.
use Rattle.wdf_lock.specs.InHolders.{holds_in}
use Rattle.wdf_lock.proofs.Taking.{next_holder}
use Rattle.wdf_lock.proofs.holders.Holders.next_taken.Goals as goal

pub returns : goal.returns
returns c = rw (← c.self.view_is) (next_holder (holds_in c.self.inside) c.self.inside.taken c.args.from c.next.result c.self.invariant.taken c.next.ensures)
