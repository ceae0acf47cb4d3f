-- Why a deed is done: what is so where an event does it, beside what fits.
use Rattle.std.proofs.Common.{◌≡◌, ℕ, ◌==◌, ◌≤◌, Bool, true, false, ◌&&◌, ◌||◌, List, ◌⊎◌, None, Some, is_some, count_by}
use Rattle.std.specs.Prelude.{⊤}
use Rattle.wdf_base.specs.declared.plan.Plan.{Plan}
use Rattle.wdf_base.specs.declared.call.Callback.TheVariants as callback
use Rattle.wdf_base.specs.declared.object.Kind.TheVariants as kind
use Rattle.wdf_base.specs.declared.object.Place.{Place}
use Rattle.wdf_base.specs.declared.object.Place.TheVariants as place
use Rattle.wdf_base.specs.declared.object.RequestForm.{RequestForm}
use Rattle.wdf_base.specs.Same.{same_kind}
use Rattle.wdf_base.specs.Lives.{is_gone, is_live}
use Rattle.wdf_model.specs.Tables.{contains}
use Rattle.wdf_model.specs.Plans.{declares, device_of_queue, has_handler, interrupt_of, is_manual_queue, kind_of_class}
use Rattle.wdf_model.specs.parts.Tree.{kind_of, life_of}
use Rattle.wdf_model.specs.parts.Cpus.{frame_of, top}
use Rattle.wdf_model.specs.parts.Requests.{info_of}
use Rattle.wdf_model.specs.State.{State}
use Rattle.wdf_model.specs.declared.deed.Deed.{Deed}
use Rattle.wdf_model.specs.declared.deed.Deed.TheVariants.{Create, MakeRequest, Arrive, PushFrame, GoOn, PopFrame, ParkFrame, UnparkFrame, TakeLock, Requeue, Forward, GiveBack, EnqueueDpc, EnqueueWork, StartTimer}
use Rattle.wdf_model.specs.rules.Calls.{origin_or_none}
use Rattle.law_machine_counts.proofs.FrameMoves.{FrameKept}
use Rattle.law_machine_lives.proofs.AllOf.{AllOf}
use Rattle.law_machine_lives.proofs.Sound.{WaitsAt, lock_of_frame}
use Rattle.wdf_model.proofs.FrameCounts.{on}

-- a queue takes requests of a form: it is manual, or has a handler for them
abbrev pub takes : Plan → ℕ → RequestForm → Bool
takes plan q f = is_manual_queue plan q || has_handler plan q f

-- a request that arrives and waits is of a form that its queue takes
abbrev pub IsTaken : Plan → Place → RequestForm → Type 0
IsTaken plan (place.Queued q) f = takes plan q.0 f ≡ true
IsTaken plan _ f = ⊤

-- what is queued as a DPC is a DPC object, or an interrupt with its function
abbrev pub has_function : {A : Type 0} → Plan → State A → ℕ → Bool
has_function plan S o = same_kind (kind_of S.tree o) kind.Dpc || (same_kind (kind_of S.tree o) kind.Interrupt && declares plan callback.EvtInterruptDpc o)

-- a queue to which a request goes on is of its device, and takes it
abbrev pub Receives : {A : Type 0} → Plan → State A → ℕ → ℕ → Type 0
Receives plan S r q = (device_of_queue plan q ≡ (info_of S.requests r).device.0) × (takes plan q (info_of S.requests r).form ≡ true)

-- of a frame that ends, something more may be asked
abbrev pub Reason : {A : Type 0} → Plan → (ℕ → State A → Type 0) → Deed → State A → Type 0
-- an object is of its class's kind
Reason plan H (Create k class parent) S = kind_of_class plan class ≡ k
Reason plan H (MakeRequest class parent) S = kind_of_class plan class ≡ kind.Made
-- what arrives is of the device at which it arrives, and waits where it is taken
Reason plan H (Arrive device info p) S = (info.device.0 ≡ device.0) × (info.origin ≡ None) × WaitsAt plan p device.0 × IsTaken plan p info.form
-- a frame begins on an object that isn't gone, and has a number of its own
Reason plan H (PushFrame cpu f frame level) S = (is_gone (life_of S.tree frame.object.id.0) ≡ false) × (on S.cpus f.0 ≡ 0)
-- a frame that goes on isn't parked, and keeps its callback and its object
Reason plan H (GoOn f next) S = FrameKept (frame_of S.cpus f.0) next × (contains f.0 S.cpus.parked ≡ false)
-- the frame that ends, or parks, is there; one that parks waits in a call, and one that comes back is parked, once
Reason plan H (PopFrame cpu) S = (f : ℕ) × (top S.cpus cpu.0 ≡ Some f) × (on S.cpus f ≤ 1) × H f S
Reason plan H (ParkFrame cpu) S = (f : ℕ) × (top S.cpus cpu.0 ≡ Some f) × (is_some (frame_of S.cpus f).pending ≡ true)
Reason plan H (UnparkFrame cpu f) S = count_by (λ y. y == f.0) S.cpus.parked ≡ 1
-- a lock is taken by a frame that is there, by its start or by a call
Reason plan H (TakeLock l f by_call) S = (1 ≤ on S.cpus f.0) × (by_call ≡ false → lock_of_frame plan S f.0 ≡ Some l)
-- a request goes back to the queue that it came from, or on to another
Reason plan H (Requeue r q) S = origin_or_none S r.0 ≡ q.0
Reason plan H (Forward r q) S = Receives plan S r.0 q.0
Reason plan H (GiveBack r q) S = (origin_or_none S r.0 ≡ q.0) ⊎ Receives plan S r.0 q.0
-- what is queued is live, or an interrupt, and has its function
Reason plan H (EnqueueDpc cpu o) S = ((is_live (life_of S.tree o.0) || is_some (interrupt_of plan o.0)) ≡ true) × (has_function plan S o.0 ≡ true)
Reason plan H (EnqueueWork o) S = (is_live (life_of S.tree o.0) ≡ true) × (same_kind (kind_of S.tree o.0) kind.WorkItem ≡ true)
Reason plan H (StartTimer o ticks) S = (is_live (life_of S.tree o.0) ≡ true) × (same_kind (kind_of S.tree o.0) kind.Timer ≡ true)
Reason plan H _ S = ⊤

-- each of some deeds has its reason where it is done
abbrev pub AllReasons : {A : Type 0} → Plan → (ℕ → State A → Type 0) → List Deed → State A → Type 0
AllReasons {A} plan H ds S = AllOf plan (λ (d : Deed) (U : State A). Reason plan H d U) ds S
