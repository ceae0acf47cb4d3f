-- The hold of each lock is kept.
use Rattle.wdf_lock.specs.Kept.{locks_in}
use Rattle.wdf_lock.proofs.Taking.{next_lock}
use Rattle.wdf_lock.proofs.locks.Locks.next_locked.Goals as goal

pub returns : goal.returns
returns c =
    rw (← c.self.view_is)
    (next_lock (locks_in c.self.inside) c.self.inside.holders c.self.inside.calls.items c.args.from.0 c.next_taken.result c.object_at.result c.self.invariant.kept c.object_at.ensures c.next_taken.ensures)
