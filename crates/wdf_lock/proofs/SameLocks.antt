-- When two locks are one.
use Rattle.std.proofs.Common.{if◌then◌else◌, ◌≡◌, Option, None, refl}
use Rattle.wdf_base.specs.declared.object.LockRef.{LockRef}
use Rattle.wdf_base.specs.declared.object.LockRef.TheVariants as lock
use Rattle.wdf_base.specs.Same.{same_lock}
use Rattle.wdf_model.specs.declared.entries.Held.{Held}
use Rattle.wdf_model.proofs.Maps.{entry_put}
use Rattle.wdf_lock.specs.Holders.{Holds, held_at, put_hold}

-- what is kept of a lock after the hold of one was written
pub held_at_put : (H : Holds) (l : LockRef) (hold : Option Held) (other : LockRef) → held_at (put_hold H l hold) other ≡ (if same_lock other l then hold else held_at H other)
held_at_put H (lock.Object a) hold (lock.Object b) = entry_put None H.objects a.0 b.0 hold
held_at_put H (lock.DeviceScope a) hold (lock.DeviceScope b) = entry_put None H.devices a.0 b.0 hold
held_at_put H (lock.QueueScope a) hold (lock.QueueScope b) = entry_put None H.queues a.0 b.0 hold
held_at_put H (lock.Object a) hold (lock.DeviceScope b) = refl
held_at_put H (lock.Object a) hold (lock.QueueScope b) = refl
held_at_put H (lock.DeviceScope a) hold (lock.Object b) = refl
held_at_put H (lock.DeviceScope a) hold (lock.QueueScope b) = refl
held_at_put H (lock.QueueScope a) hold (lock.Object b) = refl
held_at_put H (lock.QueueScope a) hold (lock.DeviceScope b) = refl
