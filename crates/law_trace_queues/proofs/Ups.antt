-- What comes after `queues_up` in the steps that a device has left: the callback of self-managed I/O, where it is declared,
-- and `working`, after which nothing is left. So a device waits for resumes right after `queues_up`.
use Rattle.std.proofs.Common.{if◌then◌else◌, ◌≡◌, Bool, true, false, ◌||◌, List, [], ◌∷◌, ◌++◌, reverse, Option, Some, None, refl, sym, subst, ◌∙◌}
use Rattle.std.specs.Prelude.{⊤}
use Rattle.std.specs.List.{flat_map, list_all, list_any}
use Rattle.std.proofs.lemmas.List.{append_assoc}
use Rattle.wdf_base.specs.declared.ids.Handle.{Handle}
use Rattle.wdf_base.specs.declared.value.Value.{Value}
use Rattle.wdf_base.specs.declared.call.Callback.{Callback}
use Rattle.wdf_base.specs.declared.call.Callback.TheVariants as callback
use Rattle.wdf_base.specs.declared.event.Ask.{Ask}
use Rattle.wdf_base.specs.declared.event.Ask.TheVariants as asks
use Rattle.wdf_base.specs.declared.event.Stage.{Stage}
use Rattle.wdf_base.specs.declared.event.Stage.TheVariants as stage
use Rattle.wdf_base.specs.declared.event.Step.{Step}
use Rattle.wdf_base.specs.declared.event.Step.TheVariants as step
use Rattle.wdf_base.specs.Same.{same_callback}
use Rattle.wdf_model.specs.declared.enums.Phase.{Phase}
use Rattle.wdf_model.specs.declared.enums.Phase.TheVariants.{Off, Working, Sleeping, Removed}
use Rattle.wdf_model.specs.Tables.{first_of_list}
use Rattle.wdf_model.specs.parts.Pnp.{DeviceSteps, InterruptSteps, Sequence, disable_steps, down_steps, enable_steps, end_steps, flush_steps, follows_up, hard_steps, left_after, left_after_failure, pass, passed, quiet_steps, run, run_if, self_managed_start, steps_for, tail_steps, taken_step, up_steps}
use Rattle.wdf_model.proofs.Tests.{both, both_left, both_right}
use Rattle.wdf_base.specs.Values.{is_success}

-- ---- the property

-- the steps after `queues_up`
abbrev pub after_up : DeviceSteps → Bool → List Step
after_up p ever = run p (self_managed_start ever) ++ pass stage.Working

abbrev by_stage : DeviceSteps → Bool → Stage → List Step → Type 0 → Type 0
by_stage p ever stage.QueuesUp ss rest = ss ≡ after_up p ever
by_stage p ever stage.Working ss rest = ss ≡ []
by_stage p ever _ ss rest = rest

abbrev by_step : DeviceSteps → Bool → Step → List Step → Type 0 → Type 0
by_step p ever (step.Run c i) ss rest = rest
by_step p ever (step.Pass s i) ss rest = by_stage p ever s ss rest

-- the steps after the first `queues_up` are these, and nothing is left after `working`
abbrev pub Ups : DeviceSteps → Bool → List Step → Type 0
Ups p ever [] = ⊤
Ups p ever (s ∷ ss) = by_step p ever s ss (Ups p ever ss)

-- of a device's sequence
abbrev pub Fits : Sequence → Type 0
Fits q = Ups q.steps q.ever_working q.left

-- ---- lists without `queues_up` and `working`

abbrev is_plain_stage : Stage → Bool
is_plain_stage stage.QueuesUp = false
is_plain_stage stage.Working = false
is_plain_stage _ = true

abbrev is_plain : Step → Bool
is_plain (step.Run c i) = true
is_plain (step.Pass s i) = is_plain_stage s

abbrev Plain : List Step → Type 0
Plain ss = list_all is_plain ss ≡ true

pub plain_after : (xs ys : List Step) → Plain xs → Plain ys → Plain (xs ++ ys)
plain_after [] ys h k = k
plain_after (x ∷ xs) ys h k = both (is_plain x) (list_all is_plain (xs ++ ys)) (both_left (is_plain x) (list_all is_plain xs) h) (plain_after xs ys (both_right (is_plain x) (list_all is_plain xs) h) k)

pub plain_each : {T : Type 0} (f : T → List Step) → ((x : T) → Plain (f x)) → (xs : List T) → Plain (flat_map f xs)
plain_each f h [] = refl
plain_each f h (x ∷ xs) = plain_after (f x) (flat_map f xs) (h x) (plain_each f h xs)

pub run_plain_by : (b : Bool) (c : Callback) (i : Option Handle) → Plain (if b then step.Run c i ∷ [] else [])
run_plain_by true c i = refl
run_plain_by false c i = refl

run_plain : (p : DeviceSteps) (c : Callback) → Plain (run p c)
run_plain p c = run_plain_by (list_any (same_callback c) p.callbacks) c None

pub run_if_plain : (b : Bool) (c : Callback) (i : Handle) → Plain (run_if b c i)
run_if_plain true c i = refl
run_if_plain false c i = refl

pub quiets_plain : (is : List InterruptSteps) → Plain (quiet_steps is)
quiets_plain [] = refl
quiets_plain (i ∷ is) = refl

module _ (p : DeviceSteps) where
  -- what comes before `queues_up`
  abbrev before_up : List Step
  before_up = run p callback.EvtDeviceD0Entry ++ flat_map enable_steps p.interrupts ++ run p callback.EvtDeviceD0EntryPostInterruptsEnabled

  before_plain : Plain before_up
  before_plain =
      plain_after (run p callback.EvtDeviceD0Entry ++ flat_map enable_steps p.interrupts) (run p callback.EvtDeviceD0EntryPostInterruptsEnabled)
      (plain_after (run p callback.EvtDeviceD0Entry) (flat_map enable_steps p.interrupts) (run_plain p callback.EvtDeviceD0Entry)
      (plain_each enable_steps (λ i. plain_after (run_if i.enables callback.EvtInterruptEnable i.interrupt) (step.Pass stage.Enabled (Some i.interrupt) ∷ []) (run_if_plain i.enables callback.EvtInterruptEnable i.interrupt) refl) p.interrupts))
      (run_plain p callback.EvtDeviceD0EntryPostInterruptsEnabled)

  down_plain : Plain (down_steps p)
  down_plain =
      plain_after (run p callback.EvtDeviceSelfManagedIoSuspend ++ pass stage.QueuesDown ++ pass stage.Settled ++ run p callback.EvtDeviceD0ExitPreInterruptsDisabled ++ flat_map disable_steps (reverse p.interrupts) ++ quiet_steps p.interrupts) (run p callback.EvtDeviceD0Exit)
      (plain_after (run p callback.EvtDeviceSelfManagedIoSuspend ++ pass stage.QueuesDown ++ pass stage.Settled ++ run p callback.EvtDeviceD0ExitPreInterruptsDisabled ++ flat_map disable_steps (reverse p.interrupts)) (quiet_steps p.interrupts)
      (plain_after (run p callback.EvtDeviceSelfManagedIoSuspend ++ pass stage.QueuesDown ++ pass stage.Settled ++ run p callback.EvtDeviceD0ExitPreInterruptsDisabled) (flat_map disable_steps (reverse p.interrupts))
      (plain_after (run p callback.EvtDeviceSelfManagedIoSuspend ++ pass stage.QueuesDown ++ pass stage.Settled) (run p callback.EvtDeviceD0ExitPreInterruptsDisabled)
      (plain_after (run p callback.EvtDeviceSelfManagedIoSuspend ++ pass stage.QueuesDown) (pass stage.Settled)
      (plain_after (run p callback.EvtDeviceSelfManagedIoSuspend) (pass stage.QueuesDown) (run_plain p callback.EvtDeviceSelfManagedIoSuspend) refl) refl)
      (run_plain p callback.EvtDeviceD0ExitPreInterruptsDisabled))
      (plain_each disable_steps (λ i. run_if_plain i.disables callback.EvtInterruptDisable i.interrupt) (reverse p.interrupts)))
      (quiets_plain p.interrupts))
      (run_plain p callback.EvtDeviceD0Exit)

  hard_plain : Plain (hard_steps p)
  hard_plain = plain_after (pass stage.Hardware) (run p callback.EvtDevicePrepareHardware) refl (run_plain p callback.EvtDevicePrepareHardware)

  flush_plain : (ever : Bool) → Plain (flush_steps p ever)
  flush_plain false = refl
  flush_plain true = plain_after (run p callback.EvtDeviceSelfManagedIoFlush) (run p callback.EvtDeviceSelfManagedIoCleanup) (run_plain p callback.EvtDeviceSelfManagedIoFlush) (run_plain p callback.EvtDeviceSelfManagedIoCleanup)

  end_plain : (ever : Bool) → Plain (end_steps p ever)
  end_plain ever = plain_after (pass stage.NoHardware ++ pass stage.Closed ++ flush_steps p ever) (pass stage.Removed) (plain_after (pass stage.NoHardware ++ pass stage.Closed) (flush_steps p ever) refl (flush_plain ever)) refl

  tail_plain : (ever : Bool) → Plain (tail_steps p ever)
  tail_plain ever = plain_after (run p callback.EvtDeviceReleaseHardware) (end_steps p ever) (run_plain p callback.EvtDeviceReleaseHardware) (end_plain ever)

  -- ---- lists that have the property

  module _ (ever : Bool) where
    before : (xs ys : List Step) → Plain xs → Ups p ever ys → Ups p ever (xs ++ ys)
    before [] ys h k = k
    before (step.Run c i ∷ xs) ys h k = before xs ys h k
    before (step.Pass stage.QueuesUp i ∷ xs) ys h k = absurd (let z : ⊥ = cc in z)
    before (step.Pass stage.Working i ∷ xs) ys h k = absurd (let z : ⊥ = cc in z)
    before (step.Pass _ i ∷ xs) ys h k = before xs ys h k

    plain_ups : (xs : List Step) → Plain xs → Ups p ever xs
    plain_ups [] h = tt
    plain_ups (step.Run c i ∷ xs) h = plain_ups xs h
    plain_ups (step.Pass stage.QueuesUp i ∷ xs) h = absurd (let z : ⊥ = cc in z)
    plain_ups (step.Pass stage.Working i ∷ xs) h = absurd (let z : ⊥ = cc in z)
    plain_ups (step.Pass _ i ∷ xs) h = plain_ups xs h

    pub after_ups : Ups p ever (after_up p ever)
    after_ups = before (run p (self_managed_start ever)) (pass stage.Working) (run_plain p (self_managed_start ever)) refl

    up_as : up_steps p ever ≡ before_up ++ (step.Pass stage.QueuesUp None ∷ after_up p ever)
    up_as =
        append_assoc (before_up ++ pass stage.QueuesUp) (run p (self_managed_start ever)) (pass stage.Working)
        ∙ append_assoc before_up (pass stage.QueuesUp) (after_up p ever)

    ups : Ups p ever (up_steps p ever)
    ups = subst (Ups p ever) (sym up_as) (before before_up (step.Pass stage.QueuesUp None ∷ after_up p ever) before_plain refl)

    rebalance : Ups p ever (steps_for p ever Working asks.Rebalance)
    rebalance =
        before (run p callback.EvtDeviceQueryStop ++ down_steps p ++ run p callback.EvtDeviceReleaseHardware ++ pass stage.NoHardware ++ hard_steps p) (up_steps p ever)
        (plain_after (run p callback.EvtDeviceQueryStop ++ down_steps p ++ run p callback.EvtDeviceReleaseHardware ++ pass stage.NoHardware) (hard_steps p)
        (plain_after (run p callback.EvtDeviceQueryStop ++ down_steps p ++ run p callback.EvtDeviceReleaseHardware) (pass stage.NoHardware)
        (plain_after (run p callback.EvtDeviceQueryStop ++ down_steps p) (run p callback.EvtDeviceReleaseHardware)
        (plain_after (run p callback.EvtDeviceQueryStop) (down_steps p) (run_plain p callback.EvtDeviceQueryStop) down_plain)
        (run_plain p callback.EvtDeviceReleaseHardware)) refl) hard_plain) ups

    ends_by : (c : Callback) → Ups p ever (run p c ++ down_steps p ++ tail_steps p ever)
    ends_by c = plain_ups (run p c ++ down_steps p ++ tail_steps p ever)
        (plain_after (run p c ++ down_steps p) (tail_steps p ever) (plain_after (run p c) (down_steps p) (run_plain p c) down_plain) (tail_plain ever))

    sleeps_by : (c : Callback) → Ups p ever (run p c ++ tail_steps p ever)
    sleeps_by c = plain_ups (run p c ++ tail_steps p ever) (plain_after (run p c) (tail_steps p ever) (run_plain p c) (tail_plain ever))

    -- each list that a post asks for
    pub asked : (f : Phase) (a : Ask) → Ups p ever (steps_for p ever f a)
    asked Off asks.Start = before (hard_steps p) (up_steps p ever) hard_plain ups
    asked Off asks.Remove = tt
    asked Off asks.Surprise = tt
    asked Working asks.Sleep = plain_ups (down_steps p ++ pass stage.Sleeping) (plain_after (down_steps p) (pass stage.Sleeping) down_plain refl)
    asked Working asks.Rebalance = rebalance
    asked Working asks.Remove = ends_by callback.EvtDeviceQueryRemove
    asked Working asks.Surprise = ends_by callback.EvtDeviceSurpriseRemoval
    asked Sleeping asks.Wake = ups
    asked Sleeping asks.Remove = sleeps_by callback.EvtDeviceQueryRemove
    asked Sleeping asks.Surprise = sleeps_by callback.EvtDeviceSurpriseRemoval
    asked Removed a = tt
    asked _ _ = tt

-- ---- a step is taken

fits_passed : (q : Sequence) (s : Stage) (i : Option Handle) (ss : List Step) → by_stage q.steps q.ever_working s ss (Ups q.steps q.ever_working ss) → Fits (passed s (record q { left = ss }))
fits_passed q stage.QueuesUp i ss h = subst (Ups q.steps q.ever_working) (sym h) (after_ups q.steps q.ever_working)
fits_passed q stage.Working i ss h = subst (Ups q.steps true) (sym h) tt
fits_passed q _ i ss h = h

fits_stepped : (q : Sequence) (ss : List Step) → q.left ≡ ss → Ups q.steps q.ever_working ss → Fits (taken_step q)
fits_stepped q [] e h = rw e tt
fits_stepped q (step.Run c i ∷ ss) e h = rw e h
fits_stepped q (step.Pass s i ∷ ss) e h = rw e (fits_passed q s i ss h)

pub fits_taken : (q : Sequence) → Fits q → Fits (taken_step q)
fits_taken q h = fits_stepped q q.left refl h

-- ---- a step's callback ends

fits_failed : (q : Sequence) (c : Callback) → Fits q → Ups q.steps q.ever_working (left_after_failure q c)
fits_failed q callback.EvtDeviceQueryStop h = tt
fits_failed q callback.EvtDeviceQueryRemove h = tt
fits_failed q callback.EvtDevicePrepareHardware h = plain_ups q.steps q.ever_working (end_steps q.steps q.ever_working) (end_plain q.steps q.ever_working)
fits_failed q callback.EvtDeviceD0Entry h = plain_ups q.steps q.ever_working (tail_steps q.steps q.ever_working) (tail_plain q.steps q.ever_working)
fits_failed q _ h = h

fits_ended_by : (q : Sequence) (c : Callback) (b : Bool) → Fits q → Ups q.steps q.ever_working (if b then q.left else left_after_failure q c)
fits_ended_by q c true h = h
fits_ended_by q c false h = fits_failed q c h

pub fits_ended : (q : Sequence) (s : Step) (v : Value) → Fits q → Fits (record q { left = left_after q s v; running = None })
fits_ended q (step.Pass s i) v h = h
fits_ended q (step.Run c i) v h = fits_ended_by q c (is_success v) h

-- ---- right after `queues_up`

-- the step right after `queues_up` waits for resumes
pub waits_after_up : (q : Sequence) → q.left ≡ after_up q.steps q.ever_working → follows_up q (first_of_list q.left) ≡ true
waits_after_up q e = rw e (by_tests (list_any (same_callback (self_managed_start q.ever_working)) q.steps.callbacks) refl)
  where
    init_or_restart : (ever : Bool) → (same_callback (self_managed_start ever) callback.EvtDeviceSelfManagedIoInit || same_callback (self_managed_start ever) callback.EvtDeviceSelfManagedIoRestart) ≡ true
    init_or_restart true = refl
    init_or_restart false = refl

    by_tests : (b : Bool) → list_any (same_callback (self_managed_start q.ever_working)) q.steps.callbacks ≡ b → follows_up q (first_of_list (after_up q.steps q.ever_working)) ≡ true
    by_tests true h = rw h (init_or_restart q.ever_working)
    by_tests false h = rw h (rw h refl)
