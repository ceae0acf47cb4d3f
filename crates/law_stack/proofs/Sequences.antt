-- The steps that a device has left: a stage after which it is Working, Sleeping or Removed is the last of them, and a list that
-- goes down makes it Working by none.
use Rattle.std.proofs.Common.{if◌then◌else◌, ◌≡◌, Bool, true, false, not, ◌&&◌, ◌||◌, List, [], ◌∷◌, ◌++◌, drop, reverse, Some, None, is_some, refl, ap, subst}
use Rattle.std.specs.List.{flat_map, list_all, list_any}
use Rattle.wdf_base.specs.declared.ids.Handle.{Handle}
use Rattle.wdf_base.specs.declared.call.Callback.{Callback}
use Rattle.wdf_base.specs.declared.call.Callback.TheVariants as callback
use Rattle.wdf_base.specs.declared.event.Ask.{Ask}
use Rattle.wdf_base.specs.declared.event.Ask.TheVariants as asks
use Rattle.wdf_base.specs.declared.event.Stage.TheVariants as stage
use Rattle.wdf_base.specs.declared.event.Step.{Step}
use Rattle.wdf_base.specs.declared.event.Step.TheVariants as step
use Rattle.wdf_base.specs.Same.{same_callback}
use Rattle.wdf_model.specs.declared.enums.Phase.{Phase}
use Rattle.wdf_model.specs.declared.enums.Phase.TheVariants.{Off, Working, Sleeping, Removed}
use Rattle.wdf_model.specs.parts.Pnp.{DeviceSteps, InterruptSteps, disable_steps, down_steps, enable_steps, end_steps, flush_steps, hard_steps, pass, quiet_steps, run, run_if, self_managed_start, steps_for, tail_steps, up_steps}
use Rattle.wdf_model.specs.agents.StackManager.{changes_nothing, goes_up, is_alone, phase_of_stage}
use Rattle.wdf_model.proofs.Tests.{both, both_left, both_right, second}

-- a stage after which the device is Working, Sleeping or Removed
abbrev pub is_last : Step → Bool
is_last (step.Run c i) = false
is_last (step.Pass s i) = is_some (phase_of_stage s)

abbrev pub is_calm : Step → Bool
is_calm s = not (is_last s)

abbrev pub is_nothing : List Step → Bool
is_nothing [] = true
is_nothing (s ∷ ss) = false

-- only the last step is such a stage
abbrev pub last_only : List Step → Bool
last_only [] = true
last_only (s ∷ ss) = (is_nothing ss || is_calm s) && last_only ss

-- a step that doesn't make the device Working
abbrev pub not_up : Step → Bool
not_up (step.Pass stage.Working i) = false
not_up _ = true

-- ---- lists of steps

module _ (p : Step → Bool) where
  joined : (xs ys : List Step) → list_all p xs ≡ true → list_all p ys ≡ true → list_all p (xs ++ ys) ≡ true
  joined [] ys h k = k
  joined (x ∷ xs) ys h k = both (p x) (list_all p (xs ++ ys)) (both_left (p x) (list_all p xs) h) (joined xs ys (both_right (p x) (list_all p xs) h) k)

  dropped : (xs : List Step) → list_all p xs ≡ true → list_all p (drop 1 xs) ≡ true
  dropped [] h = h
  dropped (x ∷ xs) h = both_right (p x) (list_all p xs) h

calm_is_not_up : (s : Step) → is_calm s ≡ true → not_up s ≡ true
calm_is_not_up (step.Run c i) h = refl
calm_is_not_up (step.Pass stage.Working i) h = h
calm_is_not_up (step.Pass stage.Sleeping i) h = refl
calm_is_not_up (step.Pass stage.Removed i) h = refl
calm_is_not_up (step.Pass stage.Hardware i) h = refl
calm_is_not_up (step.Pass stage.NoHardware i) h = refl
calm_is_not_up (step.Pass stage.Enabled i) h = refl
calm_is_not_up (step.Pass stage.Disabled i) h = refl
calm_is_not_up (step.Pass stage.QueuesUp i) h = refl
calm_is_not_up (step.Pass stage.QueuesDown i) h = refl
calm_is_not_up (step.Pass stage.Settled i) h = refl
calm_is_not_up (step.Pass stage.Quiet i) h = refl
calm_is_not_up (step.Pass stage.Closed i) h = refl

all_not_up : (xs : List Step) → list_all is_calm xs ≡ true → list_all not_up xs ≡ true
all_not_up [] h = h
all_not_up (x ∷ xs) h = both (not_up x) (list_all not_up xs) (calm_is_not_up x (both_left (is_calm x) (list_all is_calm xs) h)) (all_not_up xs (both_right (is_calm x) (list_all is_calm xs) h))

-- calm steps, and then a list of which only the last may be such a stage
last_joined : (xs ys : List Step) → list_all is_calm xs ≡ true → last_only ys ≡ true → last_only (xs ++ ys) ≡ true
last_joined [] ys h k = k
last_joined (x ∷ xs) ys h k =
    both (is_nothing (xs ++ ys) || is_calm x) (last_only (xs ++ ys)) (second (is_nothing (xs ++ ys)) (is_calm x) (both_left (is_calm x) (list_all is_calm xs) h))
    (last_joined xs ys (both_right (is_calm x) (list_all is_calm xs) h) k)

pub last_dropped : (xs : List Step) → last_only xs ≡ true → last_only (drop 1 xs) ≡ true
last_dropped [] h = h
last_dropped (x ∷ xs) h = both_right (is_nothing xs || is_calm x) (last_only xs) h

nothing_by : (xs : List Step) (b : Bool) → is_nothing xs ≡ b → (b || false) ≡ true → xs ≡ []
nothing_by [] b e h = refl
nothing_by (x ∷ xs) true e h = absurd (let z : ⊥ = cc in z)
nothing_by (x ∷ xs) false e h = absurd (let z : ⊥ = cc in z)

-- after such a stage nothing is left
pub nothing_after : (x : Step) (xs : List Step) → last_only (x ∷ xs) ≡ true → is_last x ≡ true → xs ≡ []
nothing_after x xs h is =
    let either : (is_nothing xs || is_calm x) ≡ true = both_left (is_nothing xs || is_calm x) (last_only xs) h in
    let off : is_calm x ≡ false = ap not is in
    let it : (is_nothing xs || false) ≡ true = subst (λ b. (is_nothing xs || b) ≡ true) off either in
    nothing_by xs (is_nothing xs) refl it

-- ---- the lists are calm but for their ends

calm_run_by : (c : Callback) (b : Bool) → list_all is_calm (if b then step.Run c None ∷ [] else []) ≡ true
calm_run_by c true = refl
calm_run_by c false = refl

calm_run : (p : DeviceSteps) (c : Callback) → list_all is_calm (run p c) ≡ true
calm_run p c = calm_run_by c (list_any (same_callback c) p.callbacks)

calm_run_if : (b : Bool) (c : Callback) (i : Handle) → list_all is_calm (run_if b c i) ≡ true
calm_run_if true c i = refl
calm_run_if false c i = refl

calm_enable : (is : List InterruptSteps) → list_all is_calm (flat_map enable_steps is) ≡ true
calm_enable [] = refl
calm_enable (i ∷ is) = joined is_calm (enable_steps i) (flat_map enable_steps is) (joined is_calm (run_if i.enables callback.EvtInterruptEnable i.interrupt) (step.Pass stage.Enabled (Some i.interrupt) ∷ []) (calm_run_if i.enables callback.EvtInterruptEnable i.interrupt) refl) (calm_enable is)

calm_disable : (is : List InterruptSteps) → list_all is_calm (flat_map disable_steps is) ≡ true
calm_disable [] = refl
calm_disable (i ∷ is) = joined is_calm (disable_steps i) (flat_map disable_steps is) (calm_run_if i.disables callback.EvtInterruptDisable i.interrupt) (calm_disable is)

calm_quiet : (is : List InterruptSteps) → list_all is_calm (quiet_steps is) ≡ true
calm_quiet [] = refl
calm_quiet (i ∷ is) = refl

calm_down : (p : DeviceSteps) → list_all is_calm (down_steps p) ≡ true
calm_down p =
    joined is_calm (run p callback.EvtDeviceSelfManagedIoSuspend ++ pass stage.QueuesDown ++ pass stage.Settled ++ run p callback.EvtDeviceD0ExitPreInterruptsDisabled ++ flat_map disable_steps (reverse p.interrupts) ++ quiet_steps p.interrupts) (run p callback.EvtDeviceD0Exit)
    (joined is_calm (run p callback.EvtDeviceSelfManagedIoSuspend ++ pass stage.QueuesDown ++ pass stage.Settled ++ run p callback.EvtDeviceD0ExitPreInterruptsDisabled ++ flat_map disable_steps (reverse p.interrupts)) (quiet_steps p.interrupts)
    (joined is_calm (run p callback.EvtDeviceSelfManagedIoSuspend ++ pass stage.QueuesDown ++ pass stage.Settled ++ run p callback.EvtDeviceD0ExitPreInterruptsDisabled) (flat_map disable_steps (reverse p.interrupts))
    (joined is_calm (run p callback.EvtDeviceSelfManagedIoSuspend ++ pass stage.QueuesDown ++ pass stage.Settled) (run p callback.EvtDeviceD0ExitPreInterruptsDisabled)
    (joined is_calm (run p callback.EvtDeviceSelfManagedIoSuspend ++ pass stage.QueuesDown) (pass stage.Settled)
    (joined is_calm (run p callback.EvtDeviceSelfManagedIoSuspend) (pass stage.QueuesDown)
    (calm_run p callback.EvtDeviceSelfManagedIoSuspend) refl) refl) (calm_run p callback.EvtDeviceD0ExitPreInterruptsDisabled)) (calm_disable (reverse p.interrupts))) (calm_quiet p.interrupts)) (calm_run p callback.EvtDeviceD0Exit)

calm_hard : (p : DeviceSteps) → list_all is_calm (hard_steps p) ≡ true
calm_hard p = calm_run p callback.EvtDevicePrepareHardware

-- the first steps of the list Up, to before `working`
abbrev up_front : DeviceSteps → Bool → List Step
up_front p ever =
    run p callback.EvtDeviceD0Entry ++ flat_map enable_steps p.interrupts ++ run p callback.EvtDeviceD0EntryPostInterruptsEnabled
    ++ pass stage.QueuesUp ++ run p (self_managed_start ever)

calm_up : (p : DeviceSteps) (ever : Bool) → list_all is_calm (up_front p ever) ≡ true
calm_up p ever =
    joined is_calm (run p callback.EvtDeviceD0Entry ++ flat_map enable_steps p.interrupts ++ run p callback.EvtDeviceD0EntryPostInterruptsEnabled ++ pass stage.QueuesUp) (run p (self_managed_start ever))
    (joined is_calm (run p callback.EvtDeviceD0Entry ++ flat_map enable_steps p.interrupts ++ run p callback.EvtDeviceD0EntryPostInterruptsEnabled) (pass stage.QueuesUp)
    (joined is_calm (run p callback.EvtDeviceD0Entry ++ flat_map enable_steps p.interrupts) (run p callback.EvtDeviceD0EntryPostInterruptsEnabled)
    (joined is_calm (run p callback.EvtDeviceD0Entry) (flat_map enable_steps p.interrupts)
    (calm_run p callback.EvtDeviceD0Entry) (calm_enable p.interrupts)) (calm_run p callback.EvtDeviceD0EntryPostInterruptsEnabled)) refl) (calm_run p (self_managed_start ever))

last_up : (p : DeviceSteps) (ever : Bool) → last_only (up_steps p ever) ≡ true
last_up p ever = last_joined (up_front p ever) (pass stage.Working) (calm_up p ever) refl

calm_flush : (p : DeviceSteps) (ever : Bool) → list_all is_calm (flush_steps p ever) ≡ true
calm_flush p false = refl
calm_flush p true = joined is_calm (run p callback.EvtDeviceSelfManagedIoFlush) (run p callback.EvtDeviceSelfManagedIoCleanup) (calm_run p callback.EvtDeviceSelfManagedIoFlush) (calm_run p callback.EvtDeviceSelfManagedIoCleanup)

abbrev end_front : DeviceSteps → Bool → List Step
end_front p ever = pass stage.NoHardware ++ pass stage.Closed ++ flush_steps p ever

calm_end : (p : DeviceSteps) (ever : Bool) → list_all is_calm (end_front p ever) ≡ true
calm_end p ever = joined is_calm (pass stage.NoHardware ++ pass stage.Closed) (flush_steps p ever) refl (calm_flush p ever)

pub last_end : (p : DeviceSteps) (ever : Bool) → last_only (end_steps p ever) ≡ true
last_end p ever = last_joined (end_front p ever) (pass stage.Removed) (calm_end p ever) refl

pub down_end : (p : DeviceSteps) (ever : Bool) → list_all not_up (end_steps p ever) ≡ true
down_end p ever = joined not_up (end_front p ever) (pass stage.Removed) (all_not_up (end_front p ever) (calm_end p ever)) refl

pub last_tail : (p : DeviceSteps) (ever : Bool) → last_only (tail_steps p ever) ≡ true
last_tail p ever = last_joined (run p callback.EvtDeviceReleaseHardware) (end_steps p ever) (calm_run p callback.EvtDeviceReleaseHardware) (last_end p ever)

pub down_tail : (p : DeviceSteps) (ever : Bool) → list_all not_up (tail_steps p ever) ≡ true
down_tail p ever = joined not_up (run p callback.EvtDeviceReleaseHardware) (end_steps p ever) (all_not_up (run p callback.EvtDeviceReleaseHardware) (calm_run p callback.EvtDeviceReleaseHardware)) (down_end p ever)

-- a callback, the list Down, and then the end
after_down : (p : DeviceSteps) (c : Callback) → list_all is_calm (run p c ++ down_steps p) ≡ true
after_down p c = joined is_calm (run p c) (down_steps p) (calm_run p c) (calm_down p)

module _ (p : DeviceSteps) (ever : Bool) where
  last_working : (a : Ask) → last_only (steps_for p ever Working a) ≡ true
  last_working asks.Start = refl
  last_working asks.Wake = refl
  last_working asks.Sleep = last_joined (down_steps p) (pass stage.Sleeping) (calm_down p) refl
  last_working asks.Rebalance =
      last_joined (run p callback.EvtDeviceQueryStop ++ down_steps p ++ run p callback.EvtDeviceReleaseHardware ++ pass stage.NoHardware ++ hard_steps p) (up_steps p ever)
      (joined is_calm (run p callback.EvtDeviceQueryStop ++ down_steps p ++ run p callback.EvtDeviceReleaseHardware ++ pass stage.NoHardware) (hard_steps p)
      (joined is_calm (run p callback.EvtDeviceQueryStop ++ down_steps p ++ run p callback.EvtDeviceReleaseHardware) (pass stage.NoHardware)
      (joined is_calm (run p callback.EvtDeviceQueryStop ++ down_steps p) (run p callback.EvtDeviceReleaseHardware) (after_down p callback.EvtDeviceQueryStop) (calm_run p callback.EvtDeviceReleaseHardware)) refl) (calm_hard p))
      (last_up p ever)
  last_working asks.Remove = last_joined (run p callback.EvtDeviceQueryRemove ++ down_steps p) (tail_steps p ever) (after_down p callback.EvtDeviceQueryRemove) (last_tail p ever)
  last_working asks.Surprise = last_joined (run p callback.EvtDeviceSurpriseRemoval ++ down_steps p) (tail_steps p ever) (after_down p callback.EvtDeviceSurpriseRemoval) (last_tail p ever)

  last_off : (a : Ask) → last_only (steps_for p ever Off a) ≡ true
  last_off asks.Start = last_joined (hard_steps p) (up_steps p ever) (calm_hard p) (last_up p ever)
  last_off asks.Remove = refl
  last_off asks.Surprise = refl
  last_off asks.Sleep = refl
  last_off asks.Wake = refl
  last_off asks.Rebalance = refl

  last_sleeping : (a : Ask) → last_only (steps_for p ever Sleeping a) ≡ true
  last_sleeping asks.Wake = last_up p ever
  last_sleeping asks.Remove = last_joined (run p callback.EvtDeviceQueryRemove) (tail_steps p ever) (calm_run p callback.EvtDeviceQueryRemove) (last_tail p ever)
  last_sleeping asks.Surprise = last_joined (run p callback.EvtDeviceSurpriseRemoval) (tail_steps p ever) (calm_run p callback.EvtDeviceSurpriseRemoval) (last_tail p ever)
  last_sleeping asks.Start = refl
  last_sleeping asks.Sleep = refl
  last_sleeping asks.Rebalance = refl

  -- what is asked of a device
  pub last_asked : (phase : Phase) (a : Ask) → last_only (steps_for p ever phase a) ≡ true
  last_asked Off a = last_off a
  last_asked Working a = last_working a
  last_asked Sleeping a = last_sleeping a
  last_asked Removed a = refl

  -- a list that goes down makes the device Working by none of its steps
  pub down_asked : (phase : Phase) (a : Ask) → goes_up a ≡ false → is_alone a ≡ false → list_all not_up (steps_for p ever phase a) ≡ true
  down_asked Working asks.Sleep h k = joined not_up (down_steps p) (pass stage.Sleeping) (all_not_up (down_steps p) (calm_down p)) refl
  down_asked Working asks.Remove h k = joined not_up (run p callback.EvtDeviceQueryRemove ++ down_steps p) (tail_steps p ever) (all_not_up (run p callback.EvtDeviceQueryRemove ++ down_steps p) (after_down p callback.EvtDeviceQueryRemove)) (down_tail p ever)
  down_asked Working asks.Surprise h k = joined not_up (run p callback.EvtDeviceSurpriseRemoval ++ down_steps p) (tail_steps p ever) (all_not_up (run p callback.EvtDeviceSurpriseRemoval ++ down_steps p) (after_down p callback.EvtDeviceSurpriseRemoval)) (down_tail p ever)
  down_asked Sleeping asks.Remove h k = joined not_up (run p callback.EvtDeviceQueryRemove) (tail_steps p ever) (all_not_up (run p callback.EvtDeviceQueryRemove) (calm_run p callback.EvtDeviceQueryRemove)) (down_tail p ever)
  down_asked Sleeping asks.Surprise h k = joined not_up (run p callback.EvtDeviceSurpriseRemoval) (tail_steps p ever) (all_not_up (run p callback.EvtDeviceSurpriseRemoval) (calm_run p callback.EvtDeviceSurpriseRemoval)) (down_tail p ever)
  down_asked phase asks.Start h k = absurd (let z : ⊥ = cc in z)
  down_asked phase asks.Wake h k = absurd (let z : ⊥ = cc in z)
  down_asked phase asks.Rebalance h k = absurd (let z : ⊥ = cc in z)
  down_asked Off asks.Sleep h k = refl
  down_asked Off asks.Remove h k = refl
  down_asked Off asks.Surprise h k = refl
  down_asked Sleeping asks.Sleep h k = refl
  down_asked Removed a h k = refl

  -- a post that changes nothing leaves no step
  pub nothing_asked : (phase : Phase) (a : Ask) → changes_nothing phase a ≡ true → steps_for p ever phase a ≡ []
  nothing_asked Off asks.Start h = absurd (let z : ⊥ = cc in z)
  nothing_asked Off asks.Sleep h = refl
  nothing_asked Off asks.Wake h = refl
  nothing_asked Off asks.Rebalance h = refl
  nothing_asked Off asks.Remove h = absurd (let z : ⊥ = cc in z)
  nothing_asked Off asks.Surprise h = absurd (let z : ⊥ = cc in z)
  nothing_asked Working asks.Start h = refl
  nothing_asked Working asks.Sleep h = absurd (let z : ⊥ = cc in z)
  nothing_asked Working asks.Wake h = refl
  nothing_asked Working asks.Rebalance h = absurd (let z : ⊥ = cc in z)
  nothing_asked Working asks.Remove h = absurd (let z : ⊥ = cc in z)
  nothing_asked Working asks.Surprise h = absurd (let z : ⊥ = cc in z)
  nothing_asked Sleeping asks.Start h = refl
  nothing_asked Sleeping asks.Sleep h = refl
  nothing_asked Sleeping asks.Wake h = absurd (let z : ⊥ = cc in z)
  nothing_asked Sleeping asks.Rebalance h = refl
  nothing_asked Sleeping asks.Remove h = absurd (let z : ⊥ = cc in z)
  nothing_asked Sleeping asks.Surprise h = absurd (let z : ⊥ = cc in z)
  nothing_asked Removed a h = refl
