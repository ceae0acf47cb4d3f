-- Tests of holds, and the counts of those by calls.
use Rattle.std.specs.Prelude.{ℕ, Bool, true, false, not, ◌≡◌, ◌<◌, ◌==◌, ◌&&◌, ◌-◌, List, length, get_or, Option, Some, None}
use Rattle.wdf_base.specs.declared.object.LockRef.{LockRef}
use Rattle.wdf_base.specs.Same.{same_lock}
use Rattle.wdf_model.specs.declared.entries.Held.{Held}
use Rattle.wdf_model.specs.Tables.{entry, flag, put}
use Rattle.wdf_model.specs.parts.Locks.{Locks, is_free_lock, object_lock}

-- the lock of an object is held
abbrev pub is_locked : Locks → ℕ → Bool
is_locked L o = not (is_free_lock L (object_lock o))

-- a hold of a lock
abbrev pub is_of : LockRef → Held → Bool
is_of l h = same_lock h.lock l

-- a hold of a frame's, by a call
abbrev pub is_call_of : ℕ → Held → Bool
is_call_of f h = (h.frame.0 == f) && h.by_call

-- whether there is a hold, and it passes
abbrev pub passes : (Held → Bool) → Option Held → Bool
passes test None = false
passes test (Some h) = test h

-- The place has a hold of the lock.
pub record IsHoldAt (l : LockRef) (all : List Held) (place : ℕ) : Type 0 where
  pub within : place < length all
  pub its : (d : Held) → is_of l (get_or all place d) ≡ true

-- the counts without this hold
abbrev pub uncounted : Option Held → List ℕ → List ℕ
uncounted None counts = counts
uncounted (Some h) counts = put 0 counts h.frame.0 (entry 0 counts h.frame.0 - flag h.by_call)
