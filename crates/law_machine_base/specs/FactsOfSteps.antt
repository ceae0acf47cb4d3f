-- What a reader expects of the lists of steps: which stage ends each of them, and what each one is for
-- a device that declares every callback and has one interrupt.
use Rattle.std.specs.Prelude.{Bool, true, false, List, [], ◌∷◌, ◌++◌, Option, Some, None, option_map}
use Rattle.wdf_base.specs.declared.ids.Handle.{Handle}
use Rattle.wdf_base.specs.declared.call.Callback.{Callback}
use Rattle.wdf_base.specs.declared.call.Callback.TheVariants as callback
use Rattle.wdf_base.specs.declared.event.Ask.{Ask}
use Rattle.wdf_base.specs.declared.event.Ask.TheVariants as ask
use Rattle.wdf_base.specs.declared.event.Stage.{Stage}
use Rattle.wdf_base.specs.declared.event.Stage.TheVariants as stage
use Rattle.wdf_base.specs.declared.event.Step.{Step}
use Rattle.wdf_base.specs.declared.event.Step.TheVariants as step
use Rattle.wdf_model.specs.declared.enums.Phase.{Phase}
use Rattle.wdf_model.specs.declared.enums.Phase.TheVariants as phase
use Rattle.wdf_model.specs.parts.Pnp.{DeviceSteps, DEVICE_CALLBACKS}

-- the last of a list, none of an empty one
abbrev pub last_of : {T : Type 0} → List T → Option T
last_of [] = None
last_of (x ∷ []) = Some x
last_of (x ∷ y ∷ ys) = last_of (y ∷ ys)

-- the stage to which a post brings a device of each phase, none where it changes nothing
abbrev pub stage_reached : Phase → Ask → Option Stage
stage_reached phase.Off ask.Start = Some stage.Working
stage_reached phase.Off ask.Remove = Some stage.Removed
stage_reached phase.Off ask.Surprise = Some stage.Removed
stage_reached phase.Working ask.Sleep = Some stage.Sleeping
stage_reached phase.Working ask.Rebalance = Some stage.Working
stage_reached phase.Working ask.Remove = Some stage.Removed
stage_reached phase.Working ask.Surprise = Some stage.Removed
stage_reached phase.Sleeping ask.Wake = Some stage.Working
stage_reached phase.Sleeping ask.Remove = Some stage.Removed
stage_reached phase.Sleeping ask.Surprise = Some stage.Removed
stage_reached _ _ = None

-- the step that passes this stage, if there is one
abbrev pub passing : Option Stage → Option Step
passing s = option_map (λ x. step.Pass x None) s

-- a device with all callbacks and the one interrupt i, whose two step callbacks are declared
abbrev pub whole_device : Handle → DeviceSteps
whole_device i = record {
  callbacks = DEVICE_CALLBACKS;
  interrupts = record { interrupt = i; enables = true; disables = true } ∷ [];
}

-- the step that runs the device's callback c
abbrev pub runs : Callback → Step
runs c = step.Run c None

-- the step that passes stage s, which isn't about an interrupt
abbrev pub passes : Stage → Step
passes s = step.Pass s None

-- from no hardware to hardware
abbrev pub HARD : List Step
HARD = passes stage.Hardware ∷ runs callback.EvtDevicePrepareHardware ∷ []

-- the power-up with the interrupt i; callback c is the one that starts self-managed I/O, the first time or again
abbrev pub up_by : Handle → Callback → List Step
up_by i c =
    runs callback.EvtDeviceD0Entry
    ∷ step.Run callback.EvtInterruptEnable (Some i)
    ∷ step.Pass stage.Enabled (Some i)
    ∷ runs callback.EvtDeviceD0EntryPostInterruptsEnabled
    ∷ passes stage.QueuesUp
    ∷ runs c
    ∷ passes stage.Working
    ∷ []

-- the power-down with the interrupt i
abbrev pub down_with : Handle → List Step
down_with i =
    runs callback.EvtDeviceSelfManagedIoSuspend
    ∷ passes stage.QueuesDown
    ∷ passes stage.Settled
    ∷ runs callback.EvtDeviceD0ExitPreInterruptsDisabled
    ∷ step.Pass stage.Disabled (Some i)
    ∷ step.Run callback.EvtInterruptDisable (Some i)
    ∷ passes stage.Quiet
    ∷ runs callback.EvtDeviceD0Exit
    ∷ []

-- the end of a device that was Working once
abbrev pub TAIL : List Step
TAIL =
    runs callback.EvtDeviceReleaseHardware
    ∷ passes stage.NoHardware
    ∷ passes stage.Closed
    ∷ runs callback.EvtDeviceSelfManagedIoFlush
    ∷ runs callback.EvtDeviceSelfManagedIoCleanup
    ∷ passes stage.Removed
    ∷ []

-- the steps that each post gives such a device in each phase, after KMDF but own in their order. Before it was
-- Working it is Off.
abbrev pub whole_steps : Handle → Phase → Ask → List Step
whole_steps i phase.Off ask.Start = HARD ++ up_by i callback.EvtDeviceSelfManagedIoInit
whole_steps i phase.Off ask.Remove = passes stage.Closed ∷ passes stage.Removed ∷ []
whole_steps i phase.Off ask.Surprise = passes stage.Closed ∷ passes stage.Removed ∷ []
whole_steps i phase.Working ask.Sleep = down_with i ++ passes stage.Sleeping ∷ []
whole_steps i phase.Working ask.Rebalance =
    runs callback.EvtDeviceQueryStop
    ∷ down_with i ++ (runs callback.EvtDeviceReleaseHardware ∷ passes stage.NoHardware ∷ HARD) ++ up_by i callback.EvtDeviceSelfManagedIoRestart
whole_steps i phase.Working ask.Remove = runs callback.EvtDeviceQueryRemove ∷ down_with i ++ TAIL
whole_steps i phase.Working ask.Surprise = runs callback.EvtDeviceSurpriseRemoval ∷ down_with i ++ TAIL
whole_steps i phase.Sleeping ask.Wake = up_by i callback.EvtDeviceSelfManagedIoRestart
whole_steps i phase.Sleeping ask.Remove = runs callback.EvtDeviceQueryRemove ∷ TAIL
whole_steps i phase.Sleeping ask.Surprise = runs callback.EvtDeviceSurpriseRemoval ∷ TAIL
-- a post that changes nothing
whole_steps i _ _ = []

-- whether a device of this phase was ever Working; here one that was removed had been
abbrev pub was_working : Phase → Bool
was_working phase.Off = false
was_working _ = true
