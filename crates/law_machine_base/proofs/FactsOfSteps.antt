-- Each list of steps ends with its stage; the lists of one whole device.
use Rattle.std.proofs.Common.{◌≡◌, Bool, List, [], ◌∷◌, ◌++◌, Some, refl}
use Rattle.std.specs.List.{flat_map}
use Rattle.wdf_base.specs.declared.call.Callback.TheVariants as callback
use Rattle.wdf_base.specs.declared.event.Stage.TheVariants as stage
use Rattle.wdf_base.specs.declared.event.Step.{Step}
use Rattle.wdf_base.specs.declared.ids.Handle.{Handle}
use Rattle.wdf_base.specs.declared.event.Ask.{Ask}
use Rattle.wdf_base.specs.declared.event.Ask.TheVariants as ask
use Rattle.wdf_model.specs.declared.enums.Phase.{Phase}
use Rattle.wdf_model.specs.declared.enums.Phase.TheVariants as phase
use Rattle.wdf_model.specs.parts.Pnp.{DeviceSteps, down_steps, enable_steps, end_steps, flush_steps, hard_steps, pass, run, self_managed_start, steps_for, steps_working, tail_steps, up_steps}
use Rattle.law_machine_base.specs.FactsOfSteps.{last_of, passes, passing, stage_reached, was_working, whole_device, whole_steps}

-- the last of a list that another one goes before
pub last_of_behind : {T : Type 0} (xs ys : List T) (y : T) → last_of ys ≡ Some y → last_of (xs ++ ys) ≡ Some y
last_of_behind [] ys y h = h
last_of_behind (x ∷ []) [] y h = absurd (let z : ⊥ = cc in z)
last_of_behind (x ∷ []) (z ∷ zs) y h = h
last_of_behind (x ∷ z ∷ zs) ys y h = last_of_behind (z ∷ zs) ys y h

up_ends : (p : DeviceSteps) (ever : Bool) → last_of (up_steps p ever) ≡ Some (passes stage.Working)
up_ends p ever =
    last_of_behind (run p callback.EvtDeviceD0Entry ++ flat_map enable_steps p.interrupts ++ run p callback.EvtDeviceD0EntryPostInterruptsEnabled ++ pass stage.QueuesUp ++ run p (self_managed_start ever)) (pass stage.Working) (passes stage.Working) refl

end_ends : (p : DeviceSteps) (ever : Bool) → last_of (end_steps p ever) ≡ Some (passes stage.Removed)
end_ends p ever = last_of_behind (pass stage.NoHardware ++ pass stage.Closed ++ flush_steps p ever) (pass stage.Removed) (passes stage.Removed) refl

tail_ends : (p : DeviceSteps) (ever : Bool) → last_of (tail_steps p ever) ≡ Some (passes stage.Removed)
tail_ends p ever = last_of_behind (run p callback.EvtDeviceReleaseHardware) (end_steps p ever) (passes stage.Removed) (end_ends p ever)

rebalance_ends : (p : DeviceSteps) (ever : Bool) → last_of (steps_working p ever ask.Rebalance) ≡ Some (passes stage.Working)
rebalance_ends p ever =
    last_of_behind (run p callback.EvtDeviceQueryStop ++ down_steps p ++ run p callback.EvtDeviceReleaseHardware ++ pass stage.NoHardware ++ hard_steps p) (up_steps p ever) (passes stage.Working) (up_ends p ever)

removal_ends : (p : DeviceSteps) (ever : Bool) (front : List Step) → last_of (front ++ tail_steps p ever) ≡ Some (passes stage.Removed)
removal_ends p ever front = last_of_behind front (tail_steps p ever) (passes stage.Removed) (tail_ends p ever)

pub steps_end_in_stage : (p : DeviceSteps) (ever : Bool) (from : Phase) (a : Ask) → last_of (steps_for p ever from a) ≡ passing (stage_reached from a)
steps_end_in_stage p ever phase.Off ask.Start = last_of_behind (hard_steps p) (up_steps p ever) (passes stage.Working) (up_ends p ever)
steps_end_in_stage p ever phase.Off ask.Sleep = refl
steps_end_in_stage p ever phase.Off ask.Wake = refl
steps_end_in_stage p ever phase.Off ask.Rebalance = refl
steps_end_in_stage p ever phase.Off ask.Remove = refl
steps_end_in_stage p ever phase.Off ask.Surprise = refl
steps_end_in_stage p ever phase.Working ask.Start = refl
steps_end_in_stage p ever phase.Working ask.Sleep = last_of_behind (down_steps p) (pass stage.Sleeping) (passes stage.Sleeping) refl
steps_end_in_stage p ever phase.Working ask.Wake = refl
steps_end_in_stage p ever phase.Working ask.Rebalance = rebalance_ends p ever
steps_end_in_stage p ever phase.Working ask.Remove = removal_ends p ever (run p callback.EvtDeviceQueryRemove ++ down_steps p)
steps_end_in_stage p ever phase.Working ask.Surprise = removal_ends p ever (run p callback.EvtDeviceSurpriseRemoval ++ down_steps p)
steps_end_in_stage p ever phase.Sleeping ask.Start = refl
steps_end_in_stage p ever phase.Sleeping ask.Sleep = refl
steps_end_in_stage p ever phase.Sleeping ask.Wake = up_ends p ever
steps_end_in_stage p ever phase.Sleeping ask.Rebalance = refl
steps_end_in_stage p ever phase.Sleeping ask.Remove = removal_ends p ever (run p callback.EvtDeviceQueryRemove)
steps_end_in_stage p ever phase.Sleeping ask.Surprise = removal_ends p ever (run p callback.EvtDeviceSurpriseRemoval)
steps_end_in_stage p ever phase.Removed a = refl

pub steps_of_whole_device : (i : Handle) (from : Phase) (a : Ask) → steps_for (whole_device i) (was_working from) from a ≡ whole_steps i from a
steps_of_whole_device i phase.Off ask.Start = refl
steps_of_whole_device i phase.Off ask.Sleep = refl
steps_of_whole_device i phase.Off ask.Wake = refl
steps_of_whole_device i phase.Off ask.Rebalance = refl
steps_of_whole_device i phase.Off ask.Remove = refl
steps_of_whole_device i phase.Off ask.Surprise = refl
steps_of_whole_device i phase.Working ask.Start = refl
steps_of_whole_device i phase.Working ask.Sleep = refl
steps_of_whole_device i phase.Working ask.Wake = refl
steps_of_whole_device i phase.Working ask.Rebalance = refl
steps_of_whole_device i phase.Working ask.Remove = refl
steps_of_whole_device i phase.Working ask.Surprise = refl
steps_of_whole_device i phase.Sleeping ask.Start = refl
steps_of_whole_device i phase.Sleeping ask.Sleep = refl
steps_of_whole_device i phase.Sleeping ask.Wake = refl
steps_of_whole_device i phase.Sleeping ask.Rebalance = refl
steps_of_whole_device i phase.Sleeping ask.Remove = refl
steps_of_whole_device i phase.Sleeping ask.Surprise = refl
steps_of_whole_device i phase.Removed a = refl
