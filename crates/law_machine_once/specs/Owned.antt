-- What is so at each place of every run, of deferred work and of the steps of devices.
use Rattle.std.specs.Prelude.{◌≡◌, ℕ, ◌==◌, ◌≤◌, true, false, count_by, Some, None, is_some}
use Rattle.wdf_base.specs.declared.plan.Plan.{Plan}
use Rattle.wdf_base.specs.declared.event.Step.{Step}
use Rattle.wdf_base.specs.declared.event.Step.TheVariants as step
use Rattle.wdf_base.specs.declared.rank.Rank.TheVariants as rank
use Rattle.wdf_base.specs.Callbacks.{row_of}
use Rattle.wdf_model.specs.declared.entries.Timed.{Timed}
use Rattle.wdf_model.specs.Plans.{device_of, interrupt_of, is_interrupt_of}
use Rattle.wdf_model.specs.parts.Pnp.{interrupt_name, next_step}
use Rattle.wdf_model.specs.State.{State}
use Rattle.wdf_base.specs.Stages.{is_for_interrupt}

-- A work item is queued at most once, and so is a timer.
pub record QueuedOnce {A : Type 0} (S : State A) : Type 0 where
  pub items : (o : ℕ) → count_by (λ x. x == o) S.work_items.queued ≤ 1
  pub timers : (o : ℕ) → count_by (λ (t : Timed). t.timer.0 == o) S.timers.queued ≤ 1

-- a step of this device: its callback has the rank of steps, and is the device's or that of an interrupt of the device.
-- A stage has an interrupt, with its name, exactly where it is passed for one.
abbrev pub IsStepOf : Plan → ℕ → Step → Type 0
IsStepOf plan d (step.Run c None) = ((row_of c).rank ≡ rank.Sequence) × (is_some (device_of plan d) ≡ true)
IsStepOf plan d (step.Run c (Some i)) = ((row_of c).rank ≡ rank.Sequence) × (is_interrupt_of d (interrupt_of plan i.id.0) ≡ true)
IsStepOf plan d (step.Pass s None) = is_for_interrupt s ≡ false
IsStepOf plan d (step.Pass s (Some i)) = (is_for_interrupt s ≡ true) × (i.name ≡ interrupt_name (interrupt_of plan i.id.0))

-- The next step of a device is one of its own.
pub record StepsOwned {A : Type 0} (plan : Plan) (S : State A) : Type 0 where
  pub next : (d : ℕ) (s : Step) → next_step S.pnp d ≡ Some s → IsStepOf plan d s
