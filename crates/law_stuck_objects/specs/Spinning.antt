-- Processors that spin, and steps that wait.
use Rattle.std.specs.Prelude.{◌≡◌, ℕ, Bool, true, false, ◌==◌, Some}
use Rattle.wdf_base.specs.declared.call.CallKind.{CallKind}
use Rattle.wdf_base.specs.declared.call.CallKind.TheVariants as call
use Rattle.wdf_base.specs.declared.frame.Pending.{Pending}
use Rattle.wdf_base.specs.declared.event.Stage.{Stage}
use Rattle.wdf_base.specs.declared.event.Stage.TheVariants as stage
use Rattle.wdf_base.specs.declared.event.Step.{Step}
use Rattle.wdf_base.specs.declared.event.Step.TheVariants as step
use Rattle.wdf_model.specs.parts.Cpus.{frame_of, irql, top}
use Rattle.wdf_model.specs.State.{State}
use Rattle.wdf_model.specs.rules.Calls.{is_met}

-- the calls that spin: a frame that waits in one has the lock's level, and stays on its processor
abbrev pub is_spin_call : CallKind → Bool
is_spin_call call.WdfSpinLockAcquire = true
is_spin_call call.WdfInterruptAcquireLock = true
is_spin_call _ = false

-- the top frame of a processor spins: it waits for a spin lock or for an interrupt's lock, which isn't free, at a level above
-- 0, so it doesn't leave
pub record Spins {A : Type 0} (S : State A) (cpu : ℕ) : Type 0 where
  pub frame : ℕ
  pub pending : Pending
  pub top : top S.cpus cpu ≡ Some frame
  pub waits : (frame_of S.cpus frame).pending ≡ Some pending
  pub spins : is_spin_call pending.call.kind ≡ true
  pub unmet : is_met S pending.call ≡ false
  pub level : (irql S.cpus cpu == 0) ≡ false

abbrev pub is_waiting_stage : Stage → Bool
is_waiting_stage stage.Settled = true
is_waiting_stage stage.Disabled = true
is_waiting_stage stage.Quiet = true
is_waiting_stage stage.Removed = true
is_waiting_stage _ = false

-- a callback, or one of the four stages that wait for something
abbrev pub is_waiting_step : Step → Bool
is_waiting_step (step.Run c i) = true
is_waiting_step (step.Pass s i) = is_waiting_stage s
