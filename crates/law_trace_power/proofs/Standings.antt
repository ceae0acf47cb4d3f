-- A test that is carried along the steps left of a device: where the device is, what each step asks for, and where it
-- is after the step.
use Rattle.std.proofs.Common.{◌≡◌, ℕ, Bool, true, false, not, ◌&&◌, ◌||◌, List, [], ◌∷◌, ◌++◌, Option, Some, None, is_some, refl}
use Rattle.std.specs.Bool.{beq}
use Rattle.wdf_base.specs.declared.ids.Handle.{Handle}
use Rattle.wdf_base.specs.declared.call.Callback.{Callback}
use Rattle.wdf_base.specs.declared.call.Callback.TheVariants as callback
use Rattle.wdf_base.specs.declared.event.Stage.{Stage}
use Rattle.wdf_base.specs.declared.event.Stage.TheVariants as stage
use Rattle.wdf_base.specs.declared.event.Step.{Step}
use Rattle.wdf_base.specs.declared.event.Step.TheVariants as step
use Rattle.wdf_model.specs.declared.enums.Phase.{Phase}
use Rattle.wdf_model.specs.declared.enums.Phase.TheVariants.{Working, Sleeping}
use Rattle.wdf_model.proofs.Tests.{both, both_left, both_right}
use Rattle.law_trace_power.specs.Steps.{is_for, phase_by}

-- a device, and one of its interrupts or another number
pub record Watch : Type 0 where
  -- whether the device declares EvtDeviceD0Entry
  pub entry : Bool
  -- whether the number is an interrupt of the device
  pub watched : Bool
  pub interrupt : ℕ

-- where the device is
pub record Standing : Type 0 where
  pub phase : Phase
  pub hardware : Bool
  -- it is entered
  pub entered : Bool
  pub up : Bool
  -- the interrupt is enabled
  pub on : Bool
  -- it was enabled on the entered device, and the device's exit hasn't begun since
  pub since : Bool
  -- it isn't enabled, and its DPC isn't queued
  pub clean : Bool

-- ---- how steps change it

abbrev pub begins : Watch → Callback → Standing → Standing
begins w callback.EvtDeviceD0Exit a = record a { entered = not w.entry; since = false }
begins w _ a = a

abbrev pub succeeds : Callback → Standing → Standing
succeeds callback.EvtDeviceD0Entry a = record a { entered = true }
succeeds _ a = a

abbrev pub fails : Watch → Callback → Standing → Standing
fails w callback.EvtDeviceD0Entry a = record a { entered = not w.entry }
fails w _ a = a

abbrev pub passes : Watch → Stage → Option Handle → Standing → Standing
passes w stage.Hardware j a = record a { hardware = true }
passes w stage.NoHardware j a = record a { hardware = false }
passes w stage.QueuesUp j a = record a { up = true }
passes w stage.QueuesDown j a = record a { up = false }
passes w stage.Enabled j a = record a { on = a.on || is_for w.interrupt j; since = a.since || is_for w.interrupt j; clean = a.clean && not (is_for w.interrupt j) }
passes w stage.Disabled j a = record a { on = a.on && not (is_for w.interrupt j) }
passes w stage.Quiet j a = record a { clean = not a.on }
passes w s j a = record a { phase = phase_by s a.phase }

abbrev pub next : Watch → Step → Standing → Standing
next w (step.Run c j) a = succeeds c (begins w c a)
next w (step.Pass s j) a = passes w s j a

-- ---- what has to be so

-- where no step is left
abbrev pub rests_in : Phase → Watch → Standing → Bool
rests_in Working w a = a.hardware && a.up && beq a.on w.watched && (not w.watched || a.since)
rests_in Sleeping w a = a.hardware && not a.up && not a.on
rests_in _ w a = not a.hardware && not a.up && not a.on

abbrev pub rests : Watch → Standing → Bool
rests w a = rests_in a.phase w a

-- where a callback runs that changes the steps left if it fails
abbrev pub could_fail : Watch → Callback → Standing → Bool
could_fail w callback.EvtDeviceD0Entry a = a.hardware && not a.up && not a.on
could_fail w callback.EvtDevicePrepareHardware a = a.hardware && not a.up && not a.on
could_fail w callback.EvtDeviceQueryStop a = rests w a
could_fail w callback.EvtDeviceQueryRemove a = rests w a
could_fail w _ a = true

-- where a callback begins
abbrev pub may_begin : Watch → Callback → Option Handle → Standing → Bool
may_begin w callback.EvtDeviceD0Exit j a = not a.up && not a.on && (not w.watched || a.clean)
may_begin w callback.EvtInterruptEnable j a = a.entered && (not (is_for w.interrupt j) || w.watched)
may_begin w callback.EvtInterruptDisable j a = not (is_for w.interrupt j) || (w.watched && a.since)
may_begin w _ j a = true

-- where a stage is passed
abbrev pub may_pass : Watch → Stage → Option Handle → Standing → Bool
may_pass w stage.Hardware j a = not a.hardware
may_pass w stage.NoHardware j a = a.hardware
may_pass w stage.QueuesUp j a = not a.up && a.entered
may_pass w stage.QueuesDown j a = a.up
may_pass w stage.Settled j a = not a.up
may_pass w stage.Enabled j a = a.entered && is_some j && (not (is_for w.interrupt j) || w.watched) && (not (is_for w.interrupt j) || not a.on)
may_pass w stage.Disabled j a = is_some j && (not (is_for w.interrupt j) || w.watched) && (not (is_for w.interrupt j) || a.on)
may_pass w _ j a = true

abbrev pub may_take : Watch → Step → Standing → Bool
may_take w (step.Run c j) a = may_begin w c j a && could_fail w c (begins w c a)
may_take w (step.Pass s j) a = may_pass w s j a

-- ---- along the steps

abbrev pub well : Watch → List Step → Standing → Bool
well w [] a = true
well w (s ∷ ss) a = may_take w s a && well w ss (next w s a)

abbrev pub stands_after : Watch → List Step → Standing → Standing
stands_after w [] a = a
stands_after w (s ∷ ss) a = stands_after w ss (next w s a)

abbrev pub safe : Watch → List Step → Standing → Bool
safe w [] a = rests w a
safe w (s ∷ ss) a = may_take w s a && safe w ss (next w s a)

-- while a step's callback runs
abbrev pub owed : Watch → Option Step → List Step → Standing → Bool
owed w None ss a = safe w ss a
owed w (Some (step.Pass s j)) ss a = false
owed w (Some (step.Run c j)) ss a = could_fail w c a && safe w ss (succeeds c a)

-- ---- steps one after another

-- the steps may be taken from a standing, and what comes after them is so
pub record Leads (w : Watch) (ss : List Step) (a : Standing) (Q : Standing → Type 0) : Type 0 where
  pub well : well w ss a ≡ true
  pub after : Q (stands_after w ss a)

well_after : (w : Watch) (ss ts : List Step) (a : Standing) → well w ss a ≡ true → well w ts (stands_after w ss a) ≡ true → well w (ss ++ ts) a ≡ true
well_after w [] ts a h k = k
well_after w (s ∷ ss) ts a h k =
    both (may_take w s a) (well w (ss ++ ts) (next w s a)) (both_left (may_take w s a) (well w ss (next w s a)) h)
    (well_after w ss ts (next w s a) (both_right (may_take w s a) (well w ss (next w s a)) h) k)

after_after : (w : Watch) (ss ts : List Step) (a : Standing) → stands_after w (ss ++ ts) a ≡ stands_after w ts (stands_after w ss a)
after_after w [] ts a = refl
after_after w (s ∷ ss) ts a = after_after w ss ts (next w s a)

pub leads_on : {w : Watch} {ss ts : List Step} {a : Standing} {Q R : Standing → Type 0} → Leads w ss a Q → ((b : Standing) → Q b → Leads w ts b R) → Leads w (ss ++ ts) a R
leads_on {w} {ss} {ts} {a} {Q} {R} first more =
    let b : Standing = stands_after w ss a in
    let second : Leads w ts b R = more b first.after in
    record { well = well_after w ss ts a first.well second.well; after = rw (after_after w ss ts a) second.after }

pub leads_to : {w : Watch} {ss : List Step} {a : Standing} {Q R : Standing → Type 0} → Leads w ss a Q → ((b : Standing) → Q b → R b) → Leads w ss a R
leads_to {w} {ss} {a} first more = record { well = first.well; after = more (stands_after w ss a) first.after }

pub safe_by : (w : Watch) (ss : List Step) (a : Standing) → Leads w ss a (λ b. rests w b ≡ true) → safe w ss a ≡ true
safe_by w [] a h = h.after
safe_by w (s ∷ ss) a h =
    both (may_take w s a) (safe w ss (next w s a)) (both_left (may_take w s a) (well w ss (next w s a)) h.well)
    (safe_by w ss (next w s a) (record { well = both_right (may_take w s a) (well w ss (next w s a)) h.well; after = h.after }))

-- where a callback succeeds, the phase, the queues, the hardware and what is enabled stay
pub succeeded_same : (c : Callback) (a : Standing) → ((succeeds c a).phase ≡ a.phase) × ((succeeds c a).up ≡ a.up) × ((succeeds c a).hardware ≡ a.hardware) × ((succeeds c a).on ≡ a.on)
succeeded_same callback.EvtDeviceD0Entry a = (refl, refl, refl, refl)
succeeded_same _ a = (refl, refl, refl, refl)
