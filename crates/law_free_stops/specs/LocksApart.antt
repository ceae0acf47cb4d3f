-- Callbacks with one lock never run at one time. (own)
use Rattle.std.specs.Prelude.{◌≡◌, ℕ, ◌==◌, ◌≤◌, Some, count_by}
use Rattle.wdf_base.specs.declared.plan.Plan.{Plan}
use Rattle.wdf_base.specs.declared.object.LockRef.{LockRef}
use Rattle.wdf_model.specs.parts.Cpus.{all_frames, frame_of}
use Rattle.wdf_model.specs.parts.Locks.{lock_of_callback}
use Rattle.wdf_model.specs.State.{State, declared_in}

-- Two frames that are there, whose callbacks have one lock, are one frame.
pub record LocksApart {A : Type 0} (plan : Plan) (S : State A) : Type 0 where
  pub one : (f g : ℕ) (l : LockRef) → 1 ≤ count_by (λ x. x == f) (all_frames S.cpus) → 1 ≤ count_by (λ x. x == g) (all_frames S.cpus)
      → lock_of_callback plan (frame_of S.cpus f).callback (frame_of S.cpus f).object.id.0 (declared_in plan S (frame_of S.cpus f).object.id.0) ≡ Some l
      → lock_of_callback plan (frame_of S.cpus g).callback (frame_of S.cpus g).object.id.0 (declared_in plan S (frame_of S.cpus g).object.id.0) ≡ Some l → f ≡ g
