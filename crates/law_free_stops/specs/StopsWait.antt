-- While EvtIoStop runs its device goes nowhere. (own)
use Rattle.std.specs.Prelude.{◌≡◌, ℕ, ◌==◌, ◌≤◌, true, Option, Some, count_by}
use Rattle.wdf_base.specs.declared.ids.Handle.{Handle}
use Rattle.wdf_base.specs.declared.call.Callback.TheVariants as callback
use Rattle.wdf_base.specs.declared.event.Stage.TheVariants as stage
use Rattle.wdf_base.specs.declared.event.Step.TheVariants as step
use Rattle.wdf_base.specs.Same.{same_callback}
use Rattle.wdf_model.specs.parts.Cpus.{all_frames, frame_of}
use Rattle.wdf_model.specs.parts.Pnp.{next_step}
use Rattle.wdf_model.specs.State.{State}

-- The next step of a device with a frame of EvtIoStop is `settled`.
pub record StopsWait {A : Type 0} (S : State A) : Type 0 where
  pub waits : (f : ℕ) → 1 ≤ count_by (λ x. x == f) (all_frames S.cpus) → same_callback (frame_of S.cpus f).callback callback.EvtIoStop ≡ true
      → (j : Option Handle) × (next_step S.pnp (frame_of S.cpus f).device.id.0 ≡ Some (step.Pass stage.Settled j))
