-- The hold of each lock, by the id of its object.
use Rattle.std.specs.Prelude.{if◌then◌else◌, ℕ, nat_lt, Bool, List, [], Option, None, is_some}
use Rattle.wdf_base.specs.declared.object.LockRef.{LockRef}
use Rattle.wdf_base.specs.declared.object.LockRef.TheVariants as lock
use Rattle.wdf_model.specs.declared.entries.Held.{Held}
use Rattle.wdf_model.specs.declared.room.TheConstants.{OBJECTS}
use Rattle.wdf_model.specs.Tables.{entry, put}

pub record Holds : Type 0 where
  pub objects : List (Option Held)
  pub devices : List (Option Held)
  pub queues : List (Option Held)

abbrev pub lock_id : LockRef → ℕ
lock_id (lock.Object o) = o.0
lock_id (lock.DeviceScope o) = o.0
lock_id (lock.QueueScope o) = o.0

abbrev pub held_at : Holds → LockRef → Option Held
held_at H (lock.Object o) = entry None H.objects o.0
held_at H (lock.DeviceScope o) = entry None H.devices o.0
held_at H (lock.QueueScope o) = entry None H.queues o.0

-- whether the lock of an object is held
abbrev pub is_taken : Holds → ℕ → Bool
is_taken H o = is_some (entry None H.objects o)

abbrev pub put_hold : Holds → LockRef → Option Held → Holds
put_hold H (lock.Object o) hold = record H { objects = put None H.objects o.0 hold }
put_hold H (lock.DeviceScope o) hold = record H { devices = put None H.devices o.0 hold }
put_hold H (lock.QueueScope o) hold = record H { queues = put None H.queues o.0 hold }

-- locks of ids that no object can have aren't kept
abbrev pub with_hold : Holds → LockRef → Option Held → Holds
with_hold H l hold = if nat_lt (lock_id l) OBJECTS then put_hold H l hold else H

abbrev pub no_holders : Holds
no_holders = record { objects = []; devices = []; queues = [] }
