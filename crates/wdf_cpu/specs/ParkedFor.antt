-- The wait locks that parked frames wait to take.
use Rattle.std.specs.Prelude.{if◌then◌else◌, ℕ, ◌≡◌, ◌<◌, ◌==◌, ◌&&◌, nat_lt, Bool, true, false, List, Option, Some, None, count_by}
use Rattle.std.specs.List.{list_any}
use Rattle.wdf_base.specs.declared.call.Call.{Call}
use Rattle.wdf_base.specs.declared.call.CallKind.{CallKind}
use Rattle.wdf_base.specs.declared.call.CallKind.TheVariants as call
use Rattle.wdf_base.specs.declared.frame.Frame.{Frame}
use Rattle.wdf_base.specs.declared.frame.Pending.{Pending}
use Rattle.wdf_model.specs.declared.room.TheConstants.{OBJECTS}
use Rattle.wdf_model.specs.Tables.{entry}
use Rattle.wdf_model.specs.State.{object_in}
use Rattle.wdf_model.specs.parts.Cpus.{Cpus, frame_of}

-- a call of this kind takes a wait lock: no other lock is waited for by a frame that may be parked
abbrev pub takes_wait_lock : CallKind → Bool
takes_wait_lock kind = elim kind as (λ _. Bool) [
  | call.WdfWaitLockAcquire ↦ true
  | _ ↦ false
]

-- the wait lock that a call takes; 0 of another call
abbrev pub lock_of_call : Call → ℕ
lock_of_call c = if takes_wait_lock c.kind && nat_lt (object_in c.a) OBJECTS then object_in c.a else 0

-- the wait lock that such a call waits to take; 0 where it waits for anything else, or where there is none
abbrev pub lock_in : Option Pending → ℕ
lock_in None = 0
lock_in (Some p) = lock_of_call p.call

abbrev pub lock_key : Frame → ℕ
lock_key frame = lock_in frame.pending

-- a frame waits for the wait lock of an id; with the id 0 for anything else
abbrev pub is_for : Cpus → ℕ → ℕ → Bool
is_for C id f = lock_key (frame_of C f) == id

-- some parked frame waits for the wait lock of an id; with the id 0 for anything else
abbrev pub some_parked_for : Cpus → ℕ → Bool
some_parked_for C id = list_any (is_for C id) C.parked

-- The counts are those of the parked frames, for every id that an object may have.
pub record CountsParked (C : Cpus) (counts : List ℕ) : Type 0 where
  pub counted : (id : ℕ) → id < OBJECTS → entry 0 counts id ≡ count_by (is_for C id) C.parked
