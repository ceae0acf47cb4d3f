-- Who holds which lock, and which scope lock a callback needs.
use Rattle.std.specs.Prelude.{ℕ, Bool, true, false, ◌==◌, not, ◌&&◌, List, [], ◌∷◌, ◌++◌, filter, count_by, find, Option, Some, None, option_map, slice_get}
use Rattle.std.specs.List.{list_any}
use Rattle.wdf_base.specs.declared.plan.Plan.{Plan}
use Rattle.wdf_base.specs.declared.object.LockRef.{LockRef}
use Rattle.wdf_base.specs.declared.object.LockRef.TheVariants as lock
use Rattle.wdf_base.specs.declared.call.Callback.{Callback}
use Rattle.wdf_base.specs.declared.declared.Declared.{Declared}
use Rattle.wdf_base.specs.declared.declared.Declared.TheVariants as declared
use Rattle.wdf_base.specs.declared.rank.CallbackLock.{CallbackLock}
use Rattle.wdf_base.specs.declared.rank.CallbackLock.TheVariants as callback_lock
use Rattle.wdf_base.specs.Callbacks.{row_of}
use Rattle.wdf_base.specs.Same.{same_lock}
use Rattle.wdf_model.specs.Plans.{scope_lock, serial_lock}
use Rattle.wdf_model.specs.declared.entries.Held.{Held}

-- the locks that are held, each with the frame that holds it; a lock that isn't in the list is free
pub record Locks : Type 0 where
  pub held : List Held

-- the lock that object o is: a spin lock, a wait lock, or the lock of an interrupt
abbrev pub object_lock : ℕ → LockRef
object_lock o = lock.Object (record { 0 = o })

-- ---- the lock that a callback needs

-- the scope lock of an object's parent, where the object's class says `serialize` (KMDF)
abbrev pub parent_lock : Plan → Option Declared → Option LockRef
parent_lock plan (Some (declared.OfClass c)) = serial_lock plan (slice_get plan.classes c)
parent_lock plan _ = None

-- the scope lock that a callback on object o needs, if any: d is what o is in the plan. An interrupt's lock is no
-- scope lock (KMDF).
abbrev pub scope_needed : Plan → CallbackLock → ℕ → Option Declared → Option LockRef
scope_needed plan callback_lock.NoLock o d = None
scope_needed plan callback_lock.InterruptLock o d = None
scope_needed plan callback_lock.ParentScope o d = parent_lock plan d
scope_needed plan callback_lock.QueueLock o d = scope_lock o d

-- the scope lock that callback c on object o needs, if any: a declared object is found by its id, each other by its
-- class in d
abbrev pub scope_of : Plan → Callback → ℕ → Option Declared → Option LockRef
scope_of plan c o d = scope_needed plan (row_of c).lock o d

-- the lock for a callback on object o: for one that takes the interrupt's lock that, else its scope lock;
-- EvtInterruptDpc takes none (KMDF)
abbrev pub own_lock : CallbackLock → ℕ → Option LockRef → Option LockRef
own_lock callback_lock.InterruptLock o scope = Some (object_lock o)
own_lock _ o scope = scope

-- the lock that callback c on object o takes at its start and gives back at its end, if any
abbrev pub lock_of_callback : Plan → Callback → ℕ → Option Declared → Option LockRef
lock_of_callback plan c o d = own_lock (row_of c).lock o (scope_of plan c o d)

-- the scope lock that the callbacks of object o need, if any: for a queue its scope's, for serialized work its
-- parent's (KMDF)
abbrev pub scope_of_object : Plan → ℕ → Option Declared → Option LockRef
scope_of_object plan o (Some (declared.Queue q)) = scope_lock o (Some (declared.Queue q))
scope_of_object plan o (Some (declared.OfClass c)) = parent_lock plan (Some (declared.OfClass c))
scope_of_object plan o _ = None

-- ---- readers

-- how lock l is held: by which frame, and whether by a call; None where it is free
abbrev pub hold_of : Locks → LockRef → Option Held
hold_of L l = find (λ h. same_lock h.lock l) L.held

-- the number of the frame that holds lock l, None where it is free
abbrev pub holder : Locks → LockRef → Option ℕ
holder L l = option_map (λ h. h.frame.0) (hold_of L l)

-- whether a lock is free, by how it is held
abbrev pub is_free_hold : Option Held → Bool
is_free_hold None = true
is_free_hold (Some h) = false

-- whether no frame holds lock l
abbrev pub is_free_lock : Locks → LockRef → Bool
is_free_lock L l = is_free_hold (hold_of L l)

-- whether a callback's lock is free; a callback without a lock never waits for one
abbrev pub is_free_if_any : Locks → Option LockRef → Bool
is_free_if_any L None = true
is_free_if_any L (Some l) = is_free_lock L l

-- whether frame f holds lock l, by a call or since its start
abbrev pub holds : Locks → ℕ → LockRef → Bool
holds L f l = list_any (λ h. same_lock h.lock l && h.frame.0 == f) L.held

-- whether frame f acquired lock l by a call, which is what it may release (KMDF)
abbrev pub holds_by_call : Locks → ℕ → LockRef → Bool
holds_by_call L f l = list_any (λ h. same_lock h.lock l && h.frame.0 == f && h.by_call) L.held

-- how many locks frame f acquired by calls: with one of them left its callback can't end (KMDF)
abbrev pub held_by_call : Locks → ℕ → ℕ
held_by_call L f = count_by (λ h. h.frame.0 == f && h.by_call) L.held

-- ---- acts

-- frame f holds lock l, by a call or by the start of its callback
abbrev pub take : Locks → LockRef → ℕ → Bool → Locks
take L l f by_call = record { held = L.held ++ record { lock = l; frame = record { 0 = f }; by_call = by_call } ∷ [] }

-- nobody holds lock l any more
abbrev pub release : Locks → LockRef → Locks
release L l = record { held = filter (λ h. not (same_lock h.lock l)) L.held }

-- at the opening all locks are free
abbrev pub no_locks : Locks
no_locks = record { held = [] }
