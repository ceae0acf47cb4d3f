-- Each lock is held once at most.
use Rattle.wdf_lock.proofs.locks.Locks.hold_of.Goals as goal

pub returns-then-lock_id-lt-OBJECTS-clause-once : goal.returns-then-lock_id-lt-OBJECTS-clause-once
returns-then-lock_id-lt-OBJECTS-clause-once c = rw (← c.self.view_is) (c.self.invariant.kept.once c.args.lock)

pub returns-else-lock_id-lt-OBJECTS-clause-once : goal.returns-else-lock_id-lt-OBJECTS-clause-once
returns-else-lock_id-lt-OBJECTS-clause-once c = rw (← c.self.view_is) (c.self.invariant.kept.once c.args.lock)
