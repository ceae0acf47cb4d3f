-- Plug and Play and power sequences: the steps of each list, and what a device has left of them. The
-- names of the callbacks are KMDF's; the order of the steps is own, chosen after it.
use Rattle.std.specs.Prelude.{if◌then◌else◌, ℕ, Bool, true, false, ◌==◌, ◌||◌, not, List, [], ◌∷◌, ◌++◌, length, map, filter, drop, reverse, Option, Some, None, is_some}
use Rattle.std.specs.List.{list_any, flat_map}
use Rattle.wdf_base.specs.declared.plan.Plan.{Plan}
use Rattle.wdf_base.specs.declared.ids.Handle.{Handle}
use Rattle.wdf_base.specs.declared.value.Value.{Value}
use Rattle.wdf_base.specs.declared.value.Status.TheVariants as status
use Rattle.wdf_base.specs.declared.call.Callback.{Callback}
use Rattle.wdf_base.specs.declared.call.Callback.TheVariants as callback
use Rattle.wdf_base.specs.declared.event.Ask.{Ask}
use Rattle.wdf_base.specs.declared.event.Ask.TheVariants as asks
use Rattle.wdf_base.specs.declared.event.Stage.{Stage}
use Rattle.wdf_base.specs.declared.event.Stage.TheVariants as stage
use Rattle.wdf_base.specs.declared.event.Step.{Step}
use Rattle.wdf_base.specs.declared.event.Step.TheVariants as step
use Rattle.wdf_base.specs.declared.declared.DeviceInfo.{DeviceInfo}
use Rattle.wdf_base.specs.declared.declared.InterruptInfo.{InterruptInfo}
use Rattle.wdf_base.specs.Same.{same_callback}
use Rattle.wdf_model.specs.declared.enums.Phase.{Phase}
use Rattle.wdf_model.specs.declared.enums.Phase.TheVariants.{Off, Working, Sleeping, Removed}
use Rattle.wdf_model.specs.Tables.{entry, change_at, first_of_list}
use Rattle.wdf_model.specs.Plans.{device_of, interrupt_of, interrupts_of, declared_ids, declares}
use Rattle.wdf_base.specs.Values.{is_success}

-- an interrupt, and which of its two callbacks are declared
pub record InterruptSteps : Type 0 where
  pub interrupt : Handle
  pub enables : Bool
  pub disables : Bool

-- what a device's steps are made of
pub record DeviceSteps : Type 0 where
  -- the callbacks that it declares
  pub callbacks : List Callback
  -- its interrupts in order
  pub interrupts : List InterruptSteps

-- what is kept of a device for Plug and Play: what its steps are made of, its phase, and the steps that are left
pub record Sequence : Type 0 where
  pub steps : DeviceSteps
  pub phase : Phase
  -- whether it was ever Working
  pub ever_working : Bool
  -- the steps that are left
  pub left : List Step
  -- the step whose callback runs
  pub running : Option Step

-- the power sequences of all devices
pub record Pnp : Type 0 where
  -- by the device's id
  pub devices : List Sequence

-- ---- the lists of steps; a callback that isn't declared isn't in them

-- the step of callback c of the device itself, no step where it doesn't declare c
abbrev pub run : DeviceSteps → Callback → List Step
run p c = if list_any (same_callback c) p.callbacks then step.Run c None ∷ [] else []

-- the step that is a stage of the framework, which is always in its list
abbrev pub pass : Stage → List Step
pass s = step.Pass s None ∷ []

-- the step of callback c of an interrupt, where it declares c
abbrev pub run_if : Bool → Callback → Handle → List Step
run_if true c i = step.Run c (Some i) ∷ []
run_if false c i = []

-- power-up of one interrupt: its EvtInterruptEnable, then the stage `enabled`
abbrev pub enable_steps : InterruptSteps → List Step
enable_steps i = run_if i.enables callback.EvtInterruptEnable i.interrupt ++ step.Pass stage.Enabled (Some i.interrupt) ∷ []

-- power-down of one interrupt: the stage `disabled`, then its EvtInterruptDisable
abbrev pub disable_steps : InterruptSteps → List Step
disable_steps i = step.Pass stage.Disabled (Some i.interrupt) ∷ run_if i.disables callback.EvtInterruptDisable i.interrupt

-- the callback for self-managed I/O at a power-up: Init at the first of a device, Restart at later ones; `true` says
-- that it ever was Working (KMDF)
abbrev pub self_managed_start : Bool → Callback
self_managed_start false = callback.EvtDeviceSelfManagedIoInit
self_managed_start true = callback.EvtDeviceSelfManagedIoRestart

-- the list Up: D0Entry, each interrupt enabled, D0EntryPostInterruptsEnabled, `queues_up`, self-managed I/O,
-- `working`; `ever` says that the device ever was Working (own, after KMDF)
abbrev pub up_steps : DeviceSteps → Bool → List Step
up_steps p ever =
    run p callback.EvtDeviceD0Entry ++ flat_map enable_steps p.interrupts ++ run p callback.EvtDeviceD0EntryPostInterruptsEnabled
    ++ pass stage.QueuesUp ++ run p (self_managed_start ever) ++ pass stage.Working

-- the stage `quiet`, for a device with an interrupt (own)
abbrev pub quiet_steps : List InterruptSteps → List Step
quiet_steps [] = []
quiet_steps (i ∷ is) = pass stage.Quiet

-- the list Down: self-managed I/O suspended, `queues_down`, `settled`, D0ExitPreInterruptsDisabled, each interrupt
-- disabled, `quiet`, D0Exit (own, after KMDF); own: the interrupts in reverse order
abbrev pub down_steps : DeviceSteps → List Step
down_steps p =
    run p callback.EvtDeviceSelfManagedIoSuspend ++ pass stage.QueuesDown ++ pass stage.Settled ++ run p callback.EvtDeviceD0ExitPreInterruptsDisabled
    ++ flat_map disable_steps (reverse p.interrupts) ++ quiet_steps p.interrupts ++ run p callback.EvtDeviceD0Exit

-- the list Hard: a device gets its hardware, and the driver prepares it (own, after KMDF)
abbrev pub hard_steps : DeviceSteps → List Step
hard_steps p = pass stage.Hardware ++ run p callback.EvtDevicePrepareHardware

-- the callbacks that flush and clean up self-managed I/O, for a device that ever was Working (own, after KMDF)
abbrev pub flush_steps : DeviceSteps → Bool → List Step
flush_steps p false = []
flush_steps p true = run p callback.EvtDeviceSelfManagedIoFlush ++ run p callback.EvtDeviceSelfManagedIoCleanup

-- the end of a device: `no_hardware`, `closed`, self-managed I/O flushed and cleaned up, `removed`; `ever` says that
-- it ever was Working (own, after KMDF)
abbrev pub end_steps : DeviceSteps → Bool → List Step
end_steps p ever = pass stage.NoHardware ++ pass stage.Closed ++ flush_steps p ever ++ pass stage.Removed

-- the list Tail: the driver releases the hardware, then the end (own, after KMDF)
abbrev pub tail_steps : DeviceSteps → Bool → List Step
tail_steps p ever = run p callback.EvtDeviceReleaseHardware ++ end_steps p ever

-- what each post asks of a device that is Off; the posts that aren't in the table change nothing
abbrev pub steps_off : DeviceSteps → Bool → Ask → List Step
-- own: its hardware, and the first power-up
steps_off p ever asks.Start = hard_steps p ++ up_steps p ever
-- own: it is removed without ever having worked
steps_off p ever asks.Remove = pass stage.Closed ++ pass stage.Removed
steps_off p ever asks.Surprise = pass stage.Closed ++ pass stage.Removed
steps_off p ever _ = []

-- what each post asks of a device that is Working; the posts that aren't in the table change nothing
abbrev pub steps_working : DeviceSteps → Bool → Ask → List Step
-- own: power-down
steps_working p ever asks.Sleep = down_steps p ++ pass stage.Sleeping
-- own: the driver may refuse; else power-down, other hardware, power-up
steps_working p ever asks.Rebalance =
    run p callback.EvtDeviceQueryStop ++ down_steps p ++ run p callback.EvtDeviceReleaseHardware ++ pass stage.NoHardware
    ++ hard_steps p ++ up_steps p ever
-- own: the driver may refuse; else power-down and the end
steps_working p ever asks.Remove = run p callback.EvtDeviceQueryRemove ++ down_steps p ++ tail_steps p ever
-- own: the same, and the driver can't refuse
steps_working p ever asks.Surprise = run p callback.EvtDeviceSurpriseRemoval ++ down_steps p ++ tail_steps p ever
steps_working p ever _ = []

-- what each post asks of a device that is Sleeping; own: it is removed without being woken, and rebalance does
-- nothing to it
abbrev pub steps_sleeping : DeviceSteps → Bool → Ask → List Step
-- own: power-up
steps_sleeping p ever asks.Wake = up_steps p ever
steps_sleeping p ever asks.Remove = run p callback.EvtDeviceQueryRemove ++ tail_steps p ever
steps_sleeping p ever asks.Surprise = run p callback.EvtDeviceSurpriseRemoval ++ tail_steps p ever
steps_sleeping p ever _ = []

-- the steps that post a gives a device in its phase; one that is Removed takes none (own)
abbrev pub steps_for : DeviceSteps → Bool → Phase → Ask → List Step
steps_for p ever Off a = steps_off p ever a
steps_for p ever Working a = steps_working p ever a
steps_for p ever Sleeping a = steps_sleeping p ever a
steps_for p ever Removed a = []

-- ---- readers

-- what reads for an id that is no device's: Removed, with no step left
abbrev pub no_sequence : Sequence
no_sequence = record { steps = record { callbacks = []; interrupts = [] }; phase = Removed; ever_working = false; left = []; running = None }

-- what is kept of device d for Plug and Play
abbrev pub sequence_of : Pnp → ℕ → Sequence
sequence_of Q d = entry no_sequence Q.devices d

-- the steps that device d has left; empty where no sequence is under way
abbrev pub steps_left : Pnp → ℕ → List Step
steps_left Q d = (sequence_of Q d).left

-- the step of device d that comes next, None where none is left
abbrev pub next_step : Pnp → ℕ → Option Step
next_step Q d = first_of_list (steps_left Q d)

-- the step of device d whose callback runs, None where none does
abbrev pub running_step : Pnp → ℕ → Option Step
running_step Q d = (sequence_of Q d).running

-- whether the callback of a step of device d runs: the next step waits for its end
abbrev pub is_running_step : Pnp → ℕ → Bool
is_running_step Q d = is_some (running_step Q d)

-- whether a sequence of device d is under way: a step is left, or its callback runs. Then no further post is taken
-- for it.
abbrev pub busy : Pnp → ℕ → Bool
busy Q d = is_running_step Q d || not (length (steps_left Q d) == 0)

-- whether this next step is the one after `queues_up`: self-managed I/O, or without such a callback the stage
-- `working`
abbrev pub follows_up : Sequence → Option Step → Bool
follows_up sequence (Some (step.Run c i)) = same_callback c callback.EvtDeviceSelfManagedIoInit || same_callback c callback.EvtDeviceSelfManagedIoRestart
follows_up sequence (Some (step.Pass stage.Working i)) = length (run sequence.steps (self_managed_start sequence.ever_working)) == 0
follows_up sequence _ = false

-- whether the next step of device d is the one after `queues_up`, which waits until nothing is to be resumed
abbrev pub follows_queues_up : Pnp → ℕ → Bool
follows_queues_up Q d = follows_up (sequence_of Q d) (next_step Q d)

-- ---- acts

-- what is kept of device d changes by f, and no other
abbrev pub with_sequence : Pnp → ℕ → (Sequence → Sequence) → Pnp
with_sequence Q d f = record { devices = change_at no_sequence Q.devices d f }

-- own: device d gets the steps of what the manager asks, by its phase; that is asked only while no sequence is under
-- way
abbrev pub ask : Pnp → ℕ → Ask → Pnp
ask Q d a = with_sequence Q d (λ sequence. record sequence { left = steps_for sequence.steps sequence.ever_working sequence.phase a })

-- what a stage does to a device's phase; the stages that aren't in the table do nothing to it
abbrev pub passed : Stage → Sequence → Sequence
passed stage.Working sequence = record sequence { phase = Working; ever_working = true }
passed stage.Sleeping sequence = record sequence { phase = Sleeping }
passed stage.Removed sequence = record sequence { phase = Removed }
passed _ sequence = sequence

-- a device takes a step, if there is one: its callback runs, or its stage is passed
abbrev pub with_step : Option Step → Sequence → Sequence
with_step None sequence = sequence
with_step (Some (step.Run c i)) sequence = record sequence { running = Some (step.Run c i) }
with_step (Some (step.Pass s i)) sequence = passed s sequence

-- a device takes its next step, which is no longer left
abbrev pub taken_step : Sequence → Sequence
taken_step sequence = with_step (first_of_list sequence.left) (record sequence { left = drop 1 sequence.left })

-- device d takes its next step
abbrev pub taken : Pnp → ℕ → Pnp
taken Q d = with_sequence Q d taken_step

-- the steps that are left after callback c of a device ended with a value other than SUCCESS. With the callbacks that
-- aren't in the table nothing changes.
abbrev pub left_after_failure : Sequence → Callback → List Step
-- own: a refused query leaves the device as it was
left_after_failure sequence callback.EvtDeviceQueryStop = []
left_after_failure sequence callback.EvtDeviceQueryRemove = []
-- own: a device that can't prepare its hardware is removed, and has none to release
left_after_failure sequence callback.EvtDevicePrepareHardware = end_steps sequence.steps sequence.ever_working
-- own: a device that can't power up is removed
left_after_failure sequence callback.EvtDeviceD0Entry = tail_steps sequence.steps sequence.ever_working
left_after_failure sequence _ = sequence.left

-- the steps that are left after a callback ended with this result; own: only the results in the table above count
abbrev pub left_after : Sequence → Step → Value → List Step
left_after sequence (step.Pass s i) result = sequence.left
left_after sequence (step.Run c i) result = if is_success result then sequence.left else left_after_failure sequence c

-- the callback of a step of device d ends with this result
abbrev pub ended : Pnp → ℕ → Step → Value → Pnp
ended Q d s result = with_sequence Q d (λ sequence. record sequence { left = left_after sequence s result; running = None })

-- ---- the opening

-- the callbacks that are steps of a device
abbrev pub DEVICE_CALLBACKS : List Callback
DEVICE_CALLBACKS =
    callback.EvtDevicePrepareHardware ∷ callback.EvtDeviceReleaseHardware ∷ callback.EvtDeviceD0Entry ∷ callback.EvtDeviceD0EntryPostInterruptsEnabled
    ∷ callback.EvtDeviceD0ExitPreInterruptsDisabled ∷ callback.EvtDeviceD0Exit ∷ callback.EvtDeviceSelfManagedIoInit ∷ callback.EvtDeviceSelfManagedIoRestart
    ∷ callback.EvtDeviceSelfManagedIoSuspend ∷ callback.EvtDeviceSelfManagedIoFlush ∷ callback.EvtDeviceSelfManagedIoCleanup ∷ callback.EvtDeviceQueryStop
    ∷ callback.EvtDeviceQueryRemove ∷ callback.EvtDeviceSurpriseRemoval ∷ []

-- the number of an interrupt's name, 0 for an id that is no interrupt's
abbrev pub interrupt_name : Option InterruptInfo → ℕ
interrupt_name None = 0
interrupt_name (Some i) = i.name

-- interrupt i, and which of EvtInterruptEnable and EvtInterruptDisable it declares
abbrev pub interrupt_steps : Plan → ℕ → InterruptSteps
interrupt_steps plan i = record {
  interrupt = record { id = record { 0 = i }; name = interrupt_name (interrupt_of plan i) };
  enables = declares plan callback.EvtInterruptEnable i;
  disables = declares plan callback.EvtInterruptDisable i;
}

-- what the steps of device d are made of, which the plan says for the whole run
abbrev pub device_steps : Plan → ℕ → DeviceSteps
device_steps plan d = record {
  callbacks = filter (λ c. declares plan c d) DEVICE_CALLBACKS;
  interrupts = map (interrupt_steps plan) (interrupts_of plan d);
}

-- own: a device that the text calls working was powered up before, without callbacks; each other is Off
abbrev pub opening_phase : Bool → Phase
opening_phase true = Working
opening_phase false = Off

-- device d at the opening, by what is declared of it: no step is left
abbrev pub opening_sequence : Plan → ℕ → Option DeviceInfo → Sequence
opening_sequence plan d None = no_sequence
opening_sequence plan d (Some i) = record {
  steps = device_steps plan d;
  phase = opening_phase i.working;
  ever_working = i.working;
  left = [];
  running = None;
}

-- all devices at the opening
abbrev pub opening_pnp : Plan → Pnp
opening_pnp plan = record { devices = map (λ d. opening_sequence plan d (device_of plan d)) (declared_ids plan) }
