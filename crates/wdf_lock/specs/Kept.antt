-- What the fields of the locks say: the state that they stand for, the room, and what is kept beside it.
use Rattle.std.specs.Prelude.{ℕ, ◌≡◌, ◌<◌, ◌≤◌, List, All, length, count_by, vec_capacity}
use Rattle.wdf_base.specs.declared.object.LockRef.{LockRef}
use Rattle.wdf_model.specs.declared.entries.Held.{Held}
use Rattle.wdf_model.specs.declared.room.TheConstants.{EVENTS, FRAMES, OBJECTS}
use Rattle.wdf_model.specs.Tables.{entry}
use Rattle.wdf_model.specs.parts.Locks.{Locks, held_by_call, hold_of}
use Rattle.wdf_lock.specs.Holders.{Holds, held_at, lock_id}
use Rattle.wdf_lock.specs.Holds.{is_of}
use Rattle.wdf_lock.specs.declared.locks.Locks.TheInside.{Inside}

abbrev pub locks_in : Inside → Locks
locks_in a = record { held = a.held.items }

-- Each lock is held once at most; its hold is kept, and how many each frame holds by calls.
pub record IsKept (L : Locks) (H : Holds) (counts : List ℕ) : Type 0 where
  pub once : (l : LockRef) → count_by (is_of l) L.held ≤ 1
  pub holders : (l : LockRef) → lock_id l < OBJECTS → held_at H l ≡ hold_of L l
  pub calls : (f : ℕ) → entry 0 counts f ≡ held_by_call L f
  pub frames : All (λ (h : Held). h.frame.0 < FRAMES) L.held

pub record IsSound (a : Inside) : Type 0 where
  pub held_room : EVENTS ≤ vec_capacity a.held
  pub held_few : length a.held.items ≤ EVENTS
  pub calls_room : FRAMES ≤ vec_capacity a.calls
  pub kept : IsKept (locks_in a) a.holders a.calls.items
