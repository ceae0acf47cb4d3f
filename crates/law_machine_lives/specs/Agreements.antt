-- What is so at each place of every run, of locks, lives, arrivals and queues.
use Rattle.std.specs.Prelude.{◌≡◌, ◌≢◌, ℕ, ◌==◌, ◌≤◌, true, false, count_by, Some, is_some}
use Rattle.wdf_base.specs.declared.plan.Plan.{Plan}
use Rattle.wdf_base.specs.declared.object.LockRef.{LockRef}
use Rattle.wdf_base.specs.Same.{same_lock}
use Rattle.wdf_base.specs.Lives.{is_asked, is_cleaned, is_gone, is_live}
use Rattle.wdf_model.specs.Plans.{device_of_queue, interrupt_of}
use Rattle.wdf_model.specs.parts.Tree.{life_of, parent_of}
use Rattle.wdf_model.specs.parts.Cpus.{all_frames, frame_of}
use Rattle.wdf_model.specs.parts.Locks.{holder}
use Rattle.wdf_model.specs.parts.Requests.{has_arrived, info_of, request_of}
use Rattle.wdf_model.specs.parts.Queues.{waiting_in}
use Rattle.wdf_model.specs.parts.Deferred.Dpcs.{is_dpc_queued}
use Rattle.wdf_model.specs.parts.Deferred.WorkItems.{is_work_queued}
use Rattle.wdf_model.specs.parts.Deferred.Timers.{is_timer_queued}
use Rattle.wdf_model.specs.State.{State}

-- A lock is held at most once, and by a frame that is there, on a processor or parked.
pub record LocksAgree {A : Type 0} (S : State A) : Type 0 where
  pub once : (l : LockRef) → count_by (λ h. same_lock h.lock l) S.locks.held ≤ 1
  pub there : (l : LockRef) (f : ℕ) → holder S.locks l ≡ Some f → 1 ≤ count_by (λ x. x == f) (all_frames S.cpus)

-- The object of a frame that is there isn't gone.
pub record FramesThere {A : Type 0} (S : State A) : Type 0 where
  pub there : (f : ℕ) → 1 ≤ count_by (λ x. x == f) (all_frames S.cpus) → is_gone (life_of S.tree (frame_of S.cpus f).object.id.0) ≡ false

-- No object that waits for cleanup is a child of a cleaned one.
pub record CleanedInOrder {A : Type 0} (S : State A) : Type 0 where
  pub above : (o : ℕ) → is_asked (life_of S.tree o) ≡ true → is_cleaned (life_of S.tree (parent_of S.tree o)) ≡ false

-- A DPC object, a work item or a timer that is queued is live.
pub record WorkIsLive {A : Type 0} (plan : Plan) (S : State A) : Type 0 where
  pub dpcs : (o : ℕ) → is_some (interrupt_of plan o) ≡ false → is_dpc_queued S.dpcs o ≡ true → is_live (life_of S.tree o) ≡ true
  pub items : (o : ℕ) → is_work_queued S.work_items o ≡ true → is_live (life_of S.tree o) ≡ true
  pub timers : (o : ℕ) → is_timer_queued S.timers o ≡ true → is_live (life_of S.tree o) ≡ true

-- An arrival's agent and number are its own.
pub record ArrivalsAgree {A : Type 0} (S : State A) : Type 0 where
  pub once : (r s : ℕ) → has_arrived (request_of S.requests r) ≡ true → (info_of S.requests r).agent ≡ (info_of S.requests s).agent → (info_of S.requests r).arrival ≡ (info_of S.requests s).arrival → r ≡ s

-- The parent of a live object is live, if it has one.
pub record LivesAgree {A : Type 0} (S : State A) : Type 0 where
  pub above : (o : ℕ) → is_live (life_of S.tree o) ≡ true → parent_of S.tree o ≢ 0 → is_live (life_of S.tree (parent_of S.tree o)) ≡ true

-- A request that waits in a queue is of that queue's device.
pub record WaitingAgree {A : Type 0} (plan : Plan) (S : State A) : Type 0 where
  pub device : (q r : ℕ) → 1 ≤ count_by (λ x. x == r) (waiting_in S.queues q) → device_of_queue plan q ≡ (info_of S.requests r).device.0
