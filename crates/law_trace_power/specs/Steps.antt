-- What the steps that a device has left say of its power, and that its power is so.
use Rattle.std.specs.Prelude.{if◌then◌else◌, ◌≡◌, ℕ, Bool, true, false, ◌==◌, List, [], ◌∷◌, Option, Some, None, is_some}
use Rattle.wdf_base.specs.declared.ids.Handle.{Handle}
use Rattle.wdf_base.specs.declared.plan.Plan.{Plan}
use Rattle.wdf_base.specs.declared.event.Stage.{Stage}
use Rattle.wdf_base.specs.declared.event.Stage.TheVariants as stage
use Rattle.wdf_base.specs.declared.event.Step.{Step}
use Rattle.wdf_base.specs.declared.event.Step.TheVariants as step
use Rattle.wdf_model.specs.declared.enums.Phase.{Phase}
use Rattle.wdf_model.specs.declared.enums.Phase.TheVariants.{Working, Sleeping, Removed}
use Rattle.wdf_model.specs.Plans.{device_of, interrupt_of, is_interrupt_of}
use Rattle.wdf_model.specs.parts.Power.{has_hardware, queues_up}
use Rattle.wdf_model.specs.parts.Pnp.{Pnp, sequence_of, steps_left}
use Rattle.wdf_model.specs.parts.Interrupts.{is_enabled}
use Rattle.wdf_model.specs.State.{State}
use Rattle.wdf_model.specs.agents.StackManager.{is_working}

-- a device that works or sleeps has its hardware
abbrev pub is_started : Phase → Bool
is_started Working = true
is_started Sleeping = true
is_started _ = false

-- the phase after a stage
abbrev pub phase_by : Stage → Phase → Phase
phase_by stage.Working p = Working
phase_by stage.Sleeping p = Sleeping
phase_by stage.Removed p = Removed
phase_by _ p = p

-- the phase after a step
abbrev pub phase_after : Step → Phase → Phase
phase_after (step.Run c i) p = p
phase_after (step.Pass s i) p = phase_by s p

-- What the first of two stages says, where a step is one of them; else what the steps after it say. Queues that are
-- still to go up are down, and those that are still to go down are up.
abbrev pub queues_by : Stage → Bool → Bool
queues_by stage.QueuesUp rest = false
queues_by stage.QueuesDown rest = true
queues_by _ rest = rest

abbrev pub queues_from : Step → Bool → Bool
queues_from (step.Run c i) rest = rest
queues_from (step.Pass s i) rest = queues_by s rest

-- The queues are up as the first of `queues_up` and `queues_down` among the steps left says; where neither is left, they
-- are up where the steps left end in Working.
abbrev pub queues_say : Phase → List Step → Bool
queues_say p [] = is_working p
queues_say p (s ∷ ss) = queues_from s (queues_say (phase_after s p) ss)

abbrev pub hardware_by : Stage → Bool → Bool
hardware_by stage.Hardware rest = false
hardware_by stage.NoHardware rest = true
hardware_by _ rest = rest

abbrev pub hardware_from : Step → Bool → Bool
hardware_from (step.Run c i) rest = rest
hardware_from (step.Pass s i) rest = hardware_by s rest

-- There is hardware as the first of `hardware` and `no_hardware` among the steps left says; where neither is left, there
-- is where the steps left end in Working or Sleeping.
abbrev pub hardware_says : Phase → List Step → Bool
hardware_says p [] = is_started p
hardware_says p (s ∷ ss) = hardware_from s (hardware_says (phase_after s p) ss)

-- a stage is that of this interrupt
abbrev pub is_for : ℕ → Option Handle → Bool
is_for i None = false
is_for i (Some h) = h.id.0 == i

abbrev pub enabled_by : Stage → Bool → Bool → Bool
enabled_by stage.Enabled mine rest = if mine then false else rest
enabled_by stage.Disabled mine rest = if mine then true else rest
enabled_by _ mine rest = rest

abbrev pub enabled_from : ℕ → Step → Bool → Bool
enabled_from i (step.Run c j) rest = rest
enabled_from i (step.Pass s j) rest = enabled_by s (is_for i j) rest

-- An interrupt is enabled as the first of its `enabled` and `disabled` among the steps left says; where neither is left,
-- it is where the steps left end in Working.
abbrev pub enabled_says : ℕ → Phase → List Step → Bool
enabled_says i p [] = is_working p
enabled_says i p (s ∷ ss) = enabled_from i s (enabled_says i (phase_after s p) ss)

abbrev pub phase_of : Pnp → ℕ → Phase
phase_of Q d = (sequence_of Q d).phase

-- The steps left of a device agree with its queues, its hardware and its enabled interrupts.
pub record StepsAndPowerAgree {A : Type 0} (plan : Plan) (S : State A) : Type 0 where
  pub queues : (d : ℕ) → is_some (device_of plan d) ≡ true → queues_up S.power d ≡ queues_say (phase_of S.pnp d) (steps_left S.pnp d)
  pub hardware : (d : ℕ) → is_some (device_of plan d) ≡ true → has_hardware S.power d ≡ hardware_says (phase_of S.pnp d) (steps_left S.pnp d)
  pub interrupts : (d i : ℕ) → is_some (device_of plan d) ≡ true → is_interrupt_of d (interrupt_of plan i) ≡ true → is_enabled S.interrupts i ≡ enabled_says i (phase_of S.pnp d) (steps_left S.pnp d)
