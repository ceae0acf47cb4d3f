-- What is so where a deed is done, beside what fits: of deferred work, of frames and their locks, and of queues and devices.
use Rattle.std.proofs.Common.{◌≡◌, ◌≢◌, ℕ, ◌==◌, ◌≤◌, true, false, ◌||◌, List, ◌⊎◌, Option, Some, None, is_some, count_by}
use Rattle.std.specs.Prelude.{⊤}
use Rattle.wdf_base.specs.declared.plan.Plan.{Plan}
use Rattle.wdf_base.specs.declared.object.LockRef.{LockRef}
use Rattle.wdf_base.specs.declared.object.Place.{Place}
use Rattle.wdf_base.specs.declared.object.Place.TheVariants as place
use Rattle.wdf_base.specs.Lives.{is_gone, is_live}
use Rattle.wdf_model.specs.declared.entries.Held.{Held}
use Rattle.wdf_model.specs.Plans.{device_of_queue, interrupt_of}
use Rattle.wdf_model.specs.parts.Tree.{life_of}
use Rattle.wdf_model.specs.parts.Cpus.{frame_of, top}
use Rattle.wdf_model.specs.parts.Locks.{lock_of_callback}
use Rattle.wdf_model.specs.parts.Requests.{info_of}
use Rattle.wdf_model.specs.State.{State, declared_in}
use Rattle.wdf_model.specs.declared.deed.Deed.{Deed}
use Rattle.wdf_model.specs.declared.deed.Deed.TheVariants.{Arrive, PushFrame, GoOn, PopFrame, ParkFrame, UnparkFrame, TakeLock, Requeue, Forward, GiveBack, EnqueueDpc, EnqueueWork, StartTimer}
use Rattle.wdf_model.specs.rules.Calls.{origin_or_none}
use Rattle.law_machine_counts.proofs.FrameMoves.{FrameKept}
use Rattle.law_machine_lives.proofs.AllOf.{AllOf}
use Rattle.law_machine_lives.proofs.Lists.{Each}
use Rattle.wdf_model.proofs.FrameCounts.{on}

-- the lock that a frame took at its start, if any
abbrev pub lock_of_frame : {A : Type 0} → Plan → State A → ℕ → Option LockRef
lock_of_frame plan S f = lock_of_callback plan (frame_of S.cpus f).callback (frame_of S.cpus f).object.id.0 (declared_in plan S (frame_of S.cpus f).object.id.0)

-- a queue in which a request that arrives waits is its device's
abbrev pub WaitsAt : Plan → Place → ℕ → Type 0
WaitsAt plan (place.Queued q) device = device_of_queue plan q.0 ≡ device
WaitsAt plan (place.Closing s) device = ⊤
WaitsAt plan _ device = ⊥

abbrev pub Sound : {A : Type 0} → Plan → Deed → State A → Type 0
-- what arrives is of the device at which it arrives
Sound plan (Arrive device info p) S = (info.device.0 ≡ device.0) × (info.origin ≡ None) × WaitsAt plan p device.0
-- a frame begins on an object that isn't gone, and has a number of its own
Sound plan (PushFrame cpu f frame level) S = (is_gone (life_of S.tree frame.object.id.0) ≡ false) × (on S.cpus f.0 ≡ 0)
-- a frame that goes on keeps its callback and its object
Sound plan (GoOn f next) S = FrameKept (frame_of S.cpus f.0) next
-- the frame that ends, or parks, is there, and one that ends holds no lock; one that comes back is parked, once
Sound plan (PopFrame cpu) S = (f : ℕ) × (top S.cpus cpu.0 ≡ Some f) × (on S.cpus f ≤ 1) × Each (λ (h : Held). h.frame.0 ≢ f) S.locks.held
Sound plan (ParkFrame cpu) S = (f : ℕ) × (top S.cpus cpu.0 ≡ Some f)
Sound plan (UnparkFrame cpu f) S = count_by (λ y. y == f.0) S.cpus.parked ≡ 1
-- a lock is taken by a frame that is there, by its start or by a call
Sound plan (TakeLock l f by_call) S = (1 ≤ on S.cpus f.0) × (by_call ≡ false → lock_of_frame plan S f.0 ≡ Some l)
-- a request goes back to the queue that it came from, or on to one of its device
Sound plan (Requeue r q) S = origin_or_none S r.0 ≡ q.0
Sound plan (Forward r q) S = device_of_queue plan q.0 ≡ (info_of S.requests r.0).device.0
Sound plan (GiveBack r q) S = (origin_or_none S r.0 ≡ q.0) ⊎ (device_of_queue plan q.0 ≡ (info_of S.requests r.0).device.0)
-- what is queued is live, or an interrupt
Sound plan (EnqueueDpc cpu o) S = (is_live (life_of S.tree o.0) || is_some (interrupt_of plan o.0)) ≡ true
Sound plan (EnqueueWork o) S = is_live (life_of S.tree o.0) ≡ true
Sound plan (StartTimer o ticks) S = is_live (life_of S.tree o.0) ≡ true
Sound plan _ S = ⊤

-- each of some deeds is so where it is done
abbrev pub AllSound : {A : Type 0} → Plan → List Deed → State A → Type 0
AllSound {A} plan ds S = AllOf plan (λ (d : Deed) (U : State A). Sound plan d U) ds S
