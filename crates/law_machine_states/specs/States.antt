-- What is so at each place of every run, of marks, of objects and those above them, and of frames.
use Rattle.std.specs.Prelude.{◌≡◌, ◌≢◌, ℕ, zero, suc, ◌==◌, ◌≤◌, true, false, count_by, Some}
use Rattle.wdf_base.specs.declared.call.Callback.TheVariants as callback
use Rattle.wdf_base.specs.declared.frame.Pending.{Pending}
use Rattle.wdf_base.specs.Same.{same_callback}
use Rattle.wdf_base.specs.Lives.{is_cleaned, is_gone, is_past_cleanup}
use Rattle.wdf_base.specs.Places.{is_due, is_marked, is_owned}
use Rattle.wdf_model.specs.parts.Tree.{Tree, is_below, life_of, parent_of}
use Rattle.wdf_model.specs.parts.Cpus.{all_frames, frame_of}
use Rattle.wdf_model.specs.parts.Requests.{is_cancelled, mark_of, place_of}
use Rattle.wdf_model.specs.State.{State}
use Rattle.law_machine_states.specs.Naming.{names}

-- A request that is marked is Owned and isn't cancelled; one whose cancel is due is Owned and is cancelled.
pub record MarksAgree {A : Type 0} (S : State A) : Type 0 where
  pub marked : (r : ℕ) → is_marked (mark_of S.requests r) ≡ true → (is_owned (place_of S.requests r) ≡ true) × (is_cancelled S.requests r ≡ false)
  pub due : (r : ℕ) → is_due (mark_of S.requests r) ≡ true → (is_owned (place_of S.requests r) ≡ true) × (is_cancelled S.requests r ≡ true)

-- an object's parent, the parent of that, and so on
abbrev pub ancestor : Tree → ℕ → ℕ → ℕ
ancestor T zero o = parent_of T o
ancestor T (suc n) o = ancestor T n (parent_of T o)

-- All objects below a cleaned one are cleaned or gone: by the steps from child to parent, and by what deletion reaches.
pub record NothingBelowCleaned {A : Type 0} (S : State A) : Type 0 where
  pub above : (o n : ℕ) → is_cleaned (life_of S.tree (ancestor S.tree n o)) ≡ true → is_past_cleanup (life_of S.tree o) ≡ true
  pub below : (o x : ℕ) → is_below S.tree o x ≡ true → is_cleaned (life_of S.tree o) ≡ true → is_past_cleanup (life_of S.tree x) ≡ true

-- The parent of an object that isn't gone isn't gone, but for the driver object, which has none.
pub record ParentsThere {A : Type 0} (S : State A) : Type 0 where
  pub there : (o : ℕ) → is_gone (life_of S.tree o) ≡ false → parent_of S.tree o ≢ 0 → is_gone (life_of S.tree (parent_of S.tree o)) ≡ false

-- The object of a frame that is there isn't cleaned or gone, but for that of a destroy callback.
pub record FramesBeforeCleanup {A : Type 0} (S : State A) : Type 0 where
  pub early : (f : ℕ) → 1 ≤ count_by (λ x. x == f) (all_frames S.cpus) → same_callback (frame_of S.cpus f).callback callback.EvtDestroyCallback ≡ false
      → is_past_cleanup (life_of S.tree (frame_of S.cpus f).object.id.0) ≡ false

-- What a call names in which a frame waits isn't cleaned or gone.
pub record WaitsBeforeCleanup {A : Type 0} (S : State A) : Type 0 where
  pub early : (f : ℕ) (p : Pending) (o : ℕ) → 1 ≤ count_by (λ x. x == f) (all_frames S.cpus) → (frame_of S.cpus f).pending ≡ Some p → names p.call o ≡ true → is_past_cleanup (life_of S.tree o) ≡ false
