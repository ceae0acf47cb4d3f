-- After `removed` no step is left of a device.
use Rattle.std.proofs.Common.{if◌then◌else◌, ◌≡◌, Bool, true, false, List, [], ◌∷◌, ◌++◌, reverse, Option, Some, None, refl, sym, subst}
use Rattle.std.specs.Prelude.{⊤}
use Rattle.std.specs.List.{flat_map, list_all, list_any}
use Rattle.wdf_base.specs.declared.ids.Handle.{Handle}
use Rattle.wdf_base.specs.declared.value.Value.{Value}
use Rattle.wdf_base.specs.declared.call.Callback.{Callback}
use Rattle.wdf_base.specs.declared.call.Callback.TheVariants as callback
use Rattle.wdf_base.specs.declared.event.Ask.{Ask}
use Rattle.wdf_base.specs.declared.event.Ask.TheVariants as asks
use Rattle.wdf_base.specs.declared.event.Stage.{Stage}
use Rattle.wdf_base.specs.declared.event.Stage.TheVariants as stage
use Rattle.wdf_base.specs.declared.event.Step.{Step}
use Rattle.wdf_base.specs.declared.event.Step.TheVariants as step
use Rattle.wdf_base.specs.Same.{same_callback}
use Rattle.wdf_model.specs.declared.enums.Phase.{Phase}
use Rattle.wdf_model.specs.declared.enums.Phase.TheVariants.{Off, Working, Sleeping, Removed}
use Rattle.wdf_model.specs.parts.Pnp.{DeviceSteps, InterruptSteps, Sequence, disable_steps, down_steps, enable_steps, end_steps, flush_steps, hard_steps, left_after, left_after_failure, pass, quiet_steps, run, run_if, self_managed_start, steps_for, tail_steps, taken_step, up_steps}
use Rattle.wdf_model.proofs.Tests.{both, both_left, both_right}
use Rattle.law_trace_power.proofs.Sequences.{passed_left}
use Rattle.wdf_base.specs.Values.{is_success}

-- ---- the property

abbrev by_stage : Stage → List Step → Type 0 → Type 0
by_stage stage.Removed ss rest = ss ≡ []
by_stage _ ss rest = rest

abbrev by_step : Step → List Step → Type 0 → Type 0
by_step (step.Run c i) ss rest = rest
by_step (step.Pass s i) ss rest = by_stage s ss rest

-- nothing comes after `removed`
abbrev pub Lasts : List Step → Type 0
Lasts [] = ⊤
Lasts (s ∷ ss) = by_step s ss (Lasts ss)

pub last_step : (i : Option Handle) (ss : List Step) → Lasts (step.Pass stage.Removed i ∷ ss) → ss ≡ []
last_step i ss h = h

-- ---- lists without `removed`

abbrev is_plain_stage : Stage → Bool
is_plain_stage stage.Removed = false
is_plain_stage _ = true

abbrev is_plain : Step → Bool
is_plain (step.Run c i) = true
is_plain (step.Pass s i) = is_plain_stage s

record Plain (ss : List Step) : Type 0 where
  is : list_all is_plain ss ≡ true

join : (xs ys : List Step) → Plain xs → Plain ys → Plain (xs ++ ys)
join [] ys h k = k
join (x ∷ xs) ys h k =
    let rest : Plain (xs ++ ys) = join xs ys (record { is = both_right (is_plain x) (list_all is_plain xs) h.is }) k in
    record { is = both (is_plain x) (list_all is_plain (xs ++ ys)) (both_left (is_plain x) (list_all is_plain xs) h.is) rest.is }

plain_each : {T : Type 0} (f : T → List Step) → ((x : T) → Plain (f x)) → (xs : List T) → Plain (flat_map f xs)
plain_each f h [] = record { is = refl }
plain_each f h (x ∷ xs) = join (f x) (flat_map f xs) (h x) (plain_each f h xs)

runs_by : (b : Bool) (c : Callback) (i : Option Handle) → Plain (if b then step.Run c i ∷ [] else [])
runs_by true c i = record { is = refl }
runs_by false c i = record { is = refl }

runs : (p : DeviceSteps) (c : Callback) → Plain (run p c)
runs p c = runs_by (list_any (same_callback c) p.callbacks) c None

runs_if : (b : Bool) (c : Callback) (i : Handle) → Plain (run_if b c i)
runs_if true c i = record { is = refl }
runs_if false c i = record { is = refl }

passes : (s : Stage) → is_plain_stage s ≡ true → Plain (pass s)
passes s h = record { is = both (is_plain_stage s) true h refl }

quiets : (is : List InterruptSteps) → Plain (quiet_steps is)
quiets [] = record { is = refl }
quiets (i ∷ is) = passes stage.Quiet refl

before_by : (xs ys : List Step) → list_all is_plain xs ≡ true → Lasts ys → Lasts (xs ++ ys)
before_by [] ys h k = k
before_by (step.Run c i ∷ xs) ys h k = before_by xs ys h k
before_by (step.Pass stage.Removed i ∷ xs) ys h k = absurd (let z : ⊥ = cc in z)
before_by (step.Pass _ i ∷ xs) ys h k = before_by xs ys h k

before : (xs ys : List Step) → Plain xs → Lasts ys → Lasts (xs ++ ys)
before xs ys h k = before_by xs ys h.is k

lasts_by : (xs : List Step) → list_all is_plain xs ≡ true → Lasts xs
lasts_by [] h = tt
lasts_by (step.Run c i ∷ xs) h = lasts_by xs h
lasts_by (step.Pass stage.Removed i ∷ xs) h = absurd (let z : ⊥ = cc in z)
lasts_by (step.Pass _ i ∷ xs) h = lasts_by xs h

plain_lasts : (xs : List Step) → Plain xs → Lasts xs
plain_lasts xs h = lasts_by xs h.is

-- ---- the lists

module _ (p : DeviceSteps) where
  ups : (ever : Bool) → Plain (up_steps p ever)
  ups ever =
      join _ (pass stage.Working) (join _ (run p (self_managed_start ever)) (join _ (pass stage.QueuesUp) (join _ (run p callback.EvtDeviceD0EntryPostInterruptsEnabled)
      (join (run p callback.EvtDeviceD0Entry) (flat_map enable_steps p.interrupts) (runs p callback.EvtDeviceD0Entry)
      (plain_each enable_steps (λ i. join (run_if i.enables callback.EvtInterruptEnable i.interrupt) (step.Pass stage.Enabled (Some i.interrupt) ∷ []) (runs_if i.enables callback.EvtInterruptEnable i.interrupt) (record { is = refl })) p.interrupts))
      (runs p callback.EvtDeviceD0EntryPostInterruptsEnabled)) (passes stage.QueuesUp refl)) (runs p (self_managed_start ever))) (passes stage.Working refl)

  downs : Plain (down_steps p)
  downs =
      join _ (run p callback.EvtDeviceD0Exit) (join _ (quiet_steps p.interrupts) (join _ (flat_map disable_steps (reverse p.interrupts)) (join _ (run p callback.EvtDeviceD0ExitPreInterruptsDisabled)
      (join _ (pass stage.Settled) (join (run p callback.EvtDeviceSelfManagedIoSuspend) (pass stage.QueuesDown) (runs p callback.EvtDeviceSelfManagedIoSuspend) (passes stage.QueuesDown refl)) (passes stage.Settled refl))
      (runs p callback.EvtDeviceD0ExitPreInterruptsDisabled))
      (plain_each disable_steps (λ i. join (step.Pass stage.Disabled (Some i.interrupt) ∷ []) (run_if i.disables callback.EvtInterruptDisable i.interrupt) (record { is = refl }) (runs_if i.disables callback.EvtInterruptDisable i.interrupt)) (reverse p.interrupts)))
      (quiets p.interrupts)) (runs p callback.EvtDeviceD0Exit)

  hards : Plain (hard_steps p)
  hards = join (pass stage.Hardware) (run p callback.EvtDevicePrepareHardware) (passes stage.Hardware refl) (runs p callback.EvtDevicePrepareHardware)

  flushes : (ever : Bool) → Plain (flush_steps p ever)
  flushes false = record { is = refl }
  flushes true = join (run p callback.EvtDeviceSelfManagedIoFlush) (run p callback.EvtDeviceSelfManagedIoCleanup) (runs p callback.EvtDeviceSelfManagedIoFlush) (runs p callback.EvtDeviceSelfManagedIoCleanup)

  ends : (ever : Bool) → Lasts (end_steps p ever)
  ends ever = before (flush_steps p ever) (pass stage.Removed) (flushes ever) refl

  tails : (ever : Bool) → Lasts (tail_steps p ever)
  tails ever = before (run p callback.EvtDeviceReleaseHardware) (end_steps p ever) (runs p callback.EvtDeviceReleaseHardware) (ends ever)

  rebalances : (ever : Bool) → Plain (steps_for p ever Working asks.Rebalance)
  rebalances ever =
      join _ (up_steps p ever) (join _ (hard_steps p) (join _ (pass stage.NoHardware) (join _ (run p callback.EvtDeviceReleaseHardware) (join (run p callback.EvtDeviceQueryStop) (down_steps p)
      (runs p callback.EvtDeviceQueryStop) downs) (runs p callback.EvtDeviceReleaseHardware)) (passes stage.NoHardware refl)) hards) (ups ever)

  -- each list that a post asks for
  asked : (ever : Bool) (f : Phase) (a : Ask) → Lasts (steps_for p ever f a)
  asked ever Off asks.Start = plain_lasts (hard_steps p ++ up_steps p ever) (join (hard_steps p) (up_steps p ever) hards (ups ever))
  asked ever Off asks.Remove = refl
  asked ever Off asks.Surprise = refl
  asked ever Working asks.Sleep = plain_lasts (down_steps p ++ pass stage.Sleeping) (join (down_steps p) (pass stage.Sleeping) downs (passes stage.Sleeping refl))
  asked ever Working asks.Rebalance = plain_lasts (steps_for p ever Working asks.Rebalance) (rebalances ever)
  asked ever Working asks.Remove = before (run p callback.EvtDeviceQueryRemove ++ down_steps p) (tail_steps p ever) (join (run p callback.EvtDeviceQueryRemove) (down_steps p) (runs p callback.EvtDeviceQueryRemove) downs) (tails ever)
  asked ever Working asks.Surprise = before (run p callback.EvtDeviceSurpriseRemoval ++ down_steps p) (tail_steps p ever) (join (run p callback.EvtDeviceSurpriseRemoval) (down_steps p) (runs p callback.EvtDeviceSurpriseRemoval) downs) (tails ever)
  asked ever Sleeping asks.Wake = plain_lasts (up_steps p ever) (ups ever)
  asked ever Sleeping asks.Remove = before (run p callback.EvtDeviceQueryRemove) (tail_steps p ever) (runs p callback.EvtDeviceQueryRemove) (tails ever)
  asked ever Sleeping asks.Surprise = before (run p callback.EvtDeviceSurpriseRemoval) (tail_steps p ever) (runs p callback.EvtDeviceSurpriseRemoval) (tails ever)
  asked ever Removed a = tt
  asked ever _ _ = tt

pub lasts_asked : (q : Sequence) (a : Ask) → Lasts (steps_for q.steps q.ever_working q.phase a)
lasts_asked q a = asked q.steps q.ever_working q.phase a

-- ---- a step is taken

lasts_passed : (s : Stage) (ss : List Step) → by_stage s ss (Lasts ss) → Lasts ss
lasts_passed stage.Removed ss h = rw h tt
lasts_passed _ ss h = h

lasts_stepped : (q : Sequence) (ss : List Step) → q.left ≡ ss → Lasts ss → Lasts (taken_step q).left
lasts_stepped q [] e h = rw e tt
lasts_stepped q (step.Run c i ∷ ss) e h = rw e h
lasts_stepped q (step.Pass s i ∷ ss) e h = rw e (subst Lasts (sym (passed_left s (record q { left = ss }))) (lasts_passed s ss h))

pub lasts_taken : (q : Sequence) → Lasts q.left → Lasts (taken_step q).left
lasts_taken q h = lasts_stepped q q.left refl h

-- ---- a step's callback ends

lasts_failed : (q : Sequence) (c : Callback) → Lasts q.left → Lasts (left_after_failure q c)
lasts_failed q callback.EvtDeviceQueryStop h = tt
lasts_failed q callback.EvtDeviceQueryRemove h = tt
lasts_failed q callback.EvtDevicePrepareHardware h = ends q.steps q.ever_working
lasts_failed q callback.EvtDeviceD0Entry h = tails q.steps q.ever_working
lasts_failed q _ h = h

lasts_ended_by : (q : Sequence) (c : Callback) (b : Bool) → Lasts q.left → Lasts (if b then q.left else left_after_failure q c)
lasts_ended_by q c true h = h
lasts_ended_by q c false h = lasts_failed q c h

pub lasts_ended : (q : Sequence) (s : Step) (v : Value) → Lasts q.left → Lasts (left_after q s v)
lasts_ended q (step.Pass s i) v h = h
lasts_ended q (step.Run c i) v h = lasts_ended_by q c (is_success v) h
