-- What is so of each list of steps: `settled` comes right after `queues_down`, and nowhere else; and a stage that changes
-- the phase comes last.
use Rattle.std.proofs.Common.{if◌then◌else◌, ◌≡◌, Bool, true, false, not, ◌&&◌, ◌||◌, List, [], ◌∷◌, ◌++◌, reverse, Some, None, refl, sym, subst}
use Rattle.std.specs.List.{flat_map, list_all, list_any}
use Rattle.std.proofs.lemmas.List.Concat.{flat_map-cons}
use Rattle.wdf_base.specs.declared.ids.Handle.{Handle}
use Rattle.wdf_base.specs.declared.call.Callback.{Callback}
use Rattle.wdf_base.specs.declared.call.Callback.TheVariants as callback
use Rattle.wdf_base.specs.declared.event.Ask.{Ask}
use Rattle.wdf_base.specs.declared.event.Ask.TheVariants as asks
use Rattle.wdf_base.specs.declared.event.Stage.{Stage}
use Rattle.wdf_base.specs.declared.event.Stage.TheVariants as stage
use Rattle.wdf_base.specs.declared.event.Step.{Step}
use Rattle.wdf_base.specs.declared.event.Step.TheVariants as step
use Rattle.wdf_base.specs.Same.{same_callback}
use Rattle.wdf_model.specs.declared.enums.Phase.{Phase}
use Rattle.wdf_model.specs.declared.enums.Phase.TheVariants.{Off, Working, Sleeping, Removed}
use Rattle.wdf_model.specs.parts.Pnp.{DeviceSteps, InterruptSteps, disable_steps, down_steps, enable_steps, end_steps, flush_steps, hard_steps, pass, quiet_steps, run, run_if, self_managed_start, steps_for, tail_steps, up_steps}
use Rattle.wdf_model.proofs.Tests.{both, both_left, both_right, first}
use Rattle.law_machine_states.specs.Settled.{settles_next}

-- ---- tests

abbrev pub turns_by : Stage → Bool
turns_by stage.Working = true
turns_by stage.Sleeping = true
turns_by stage.Removed = true
turns_by _ = false

-- a stage that changes the phase
abbrev pub turns : Step → Bool
turns (step.Run c j) = false
turns (step.Pass s j) = turns_by s

abbrev pub falls_by : Stage → Bool
falls_by stage.QueuesDown = true
falls_by _ = false

abbrev pub falls : Step → Bool
falls (step.Run c j) = false
falls (step.Pass s j) = falls_by s

abbrev pub is_end : List Step → Bool
is_end [] = true
is_end (s ∷ ss) = false

abbrev pub agree : Bool → Bool → Bool
agree true b = b
agree false b = not b

abbrev pub in_order : List Step → Bool
in_order [] = true
in_order (s ∷ ss) = agree (falls s) (settles_next ss) && (not (turns s) || is_end ss) && in_order ss

abbrev still : List Step → Bool
still ss = list_all (λ s. not (turns s)) ss

-- ---- a part of a list, and a whole one

record Part (xs : List Step) : Type 0 where
  ordered : in_order xs ≡ true
  plain : settles_next xs ≡ false
  still : still xs ≡ true

pub record Whole (xs : List Step) : Type 0 where
  pub ordered : in_order xs ≡ true
  pub plain : settles_next xs ≡ false

first_after : (xs ys : List Step) → settles_next ys ≡ false → settles_next (xs ++ ys) ≡ settles_next xs
first_after [] ys h = h
first_after (x ∷ xs) ys h = refl

plain_after : (xs ys : List Step) → settles_next xs ≡ false → settles_next ys ≡ false → settles_next (xs ++ ys) ≡ false
plain_after [] ys h k = k
plain_after (x ∷ xs) ys h k = h

ordered_after : (xs ys : List Step) → in_order xs ≡ true → still xs ≡ true → in_order ys ≡ true → settles_next ys ≡ false → in_order (xs ++ ys) ≡ true
ordered_after [] ys h t k n = k
ordered_after (x ∷ xs) ys h t k n =
    let a : Bool = agree (falls x) (settles_next xs) in
    let b : Bool = not (turns x) || is_end xs in
    let now : (a && b) ≡ true = both_left (a && b) (in_order xs) h in
    let pairs : agree (falls x) (settles_next (xs ++ ys)) ≡ true = subst (λ z. agree (falls x) z ≡ true) (sym (first_after xs ys n)) (both_left a b now) in
    let quiet : (not (turns x) || is_end (xs ++ ys)) ≡ true = first (not (turns x)) (is_end (xs ++ ys)) (both_left (not (turns x)) (still xs) t) in
    both (agree (falls x) (settles_next (xs ++ ys)) && (not (turns x) || is_end (xs ++ ys))) (in_order (xs ++ ys)) (both (agree (falls x) (settles_next (xs ++ ys))) (not (turns x) || is_end (xs ++ ys)) pairs quiet)
    (ordered_after xs ys (both_right (a && b) (in_order xs) h) (both_right (not (turns x)) (still xs) t) k n)

still_after : (xs ys : List Step) → still xs ≡ true → still ys ≡ true → still (xs ++ ys) ≡ true
still_after [] ys h k = k
still_after (x ∷ xs) ys h k = both (not (turns x)) (still (xs ++ ys)) (both_left (not (turns x)) (still xs) h) (still_after xs ys (both_right (not (turns x)) (still xs) h) k)

then_part : {xs ys : List Step} → Part xs → Part ys → Part (xs ++ ys)
then_part {xs} {ys} h k = record {
  ordered = ordered_after xs ys h.ordered h.still k.ordered k.plain;
  plain = plain_after xs ys h.plain k.plain;
  still = still_after xs ys h.still k.still;
}

then_whole : {xs ys : List Step} → Part xs → Whole ys → Whole (xs ++ ys)
then_whole {xs} {ys} h k = record {
  ordered = ordered_after xs ys h.ordered h.still k.ordered k.plain;
  plain = plain_after xs ys h.plain k.plain;
}

-- ---- the parts

none_part : Part []
none_part = record { ordered = refl; plain = refl; still = refl }

run_by : (b : Bool) (c : Callback) → Part (if b then step.Run c None ∷ [] else [])
run_by true c = record { ordered = refl; plain = refl; still = refl }
run_by false c = none_part

run_part : (p : DeviceSteps) (c : Callback) → Part (run p c)
run_part p c = run_by (list_any (same_callback c) p.callbacks) c

-- queues go down after a callback, and settle
down_by : (b : Bool) (c : Callback) → Part ((if b then step.Run c None ∷ [] else []) ++ pass stage.QueuesDown ++ pass stage.Settled)
down_by true c = record { ordered = refl; plain = refl; still = refl }
down_by false c = record { ordered = refl; plain = refl; still = refl }

all_parts : (f : InterruptSteps → List Step) → ((x : InterruptSteps) → Part (f x)) → (xs : List InterruptSteps) → Part (flat_map f xs)
all_parts f h [] = none_part
all_parts f h (x ∷ xs) = rw (flat_map-cons f x xs) (then_part (h x) (all_parts f h xs))

enable_by : (b : Bool) (i : Handle) → Part (run_if b callback.EvtInterruptEnable i ++ step.Pass stage.Enabled (Some i) ∷ [])
enable_by true i = record { ordered = refl; plain = refl; still = refl }
enable_by false i = record { ordered = refl; plain = refl; still = refl }

disable_by : (b : Bool) (i : Handle) → Part (step.Pass stage.Disabled (Some i) ∷ run_if b callback.EvtInterruptDisable i)
disable_by true i = record { ordered = refl; plain = refl; still = refl }
disable_by false i = record { ordered = refl; plain = refl; still = refl }

quiet_part : (xs : List InterruptSteps) → Part (quiet_steps xs)
quiet_part [] = none_part
quiet_part (x ∷ xs) = record { ordered = refl; plain = refl; still = refl }

-- stages
hardware : Part (pass stage.Hardware)
hardware = record { ordered = refl; plain = refl; still = refl }

no_hardware : Part (pass stage.NoHardware)
no_hardware = record { ordered = refl; plain = refl; still = refl }

rises : Part (pass stage.QueuesUp)
rises = record { ordered = refl; plain = refl; still = refl }

gives_back : Part (pass stage.NoHardware ++ pass stage.Closed)
gives_back = record { ordered = refl; plain = refl; still = refl }

works : Whole (pass stage.Working)
works = record { ordered = refl; plain = refl }

sleeps : Whole (pass stage.Sleeping)
sleeps = record { ordered = refl; plain = refl }

is_removed : Whole (pass stage.Removed)
is_removed = record { ordered = refl; plain = refl }

-- ---- each list

module _ (p : DeviceSteps) where
  hard_part : Part (hard_steps p)
  hard_part = then_part hardware (run_part p callback.EvtDevicePrepareHardware)

  up_whole : (ever : Bool) → Whole (up_steps p ever)
  up_whole ever =
      then_whole (then_part (then_part (then_part (then_part
      (run_part p callback.EvtDeviceD0Entry)
      (all_parts enable_steps (λ x. enable_by x.enables x.interrupt) p.interrupts))
      (run_part p callback.EvtDeviceD0EntryPostInterruptsEnabled))
      rises)
      (run_part p (self_managed_start ever)))
      works

  down_part : Part (down_steps p)
  down_part =
      then_part (then_part (then_part (then_part
      (down_by (list_any (same_callback callback.EvtDeviceSelfManagedIoSuspend) p.callbacks) callback.EvtDeviceSelfManagedIoSuspend)
      (run_part p callback.EvtDeviceD0ExitPreInterruptsDisabled))
      (all_parts disable_steps (λ x. disable_by x.disables x.interrupt) (reverse p.interrupts)))
      (quiet_part p.interrupts))
      (run_part p callback.EvtDeviceD0Exit)

  flush_part : (ever : Bool) → Part (flush_steps p ever)
  flush_part false = none_part
  flush_part true = then_part (run_part p callback.EvtDeviceSelfManagedIoFlush) (run_part p callback.EvtDeviceSelfManagedIoCleanup)

  end_whole : (ever : Bool) → Whole (end_steps p ever)
  end_whole ever = then_whole (then_part gives_back (flush_part ever)) is_removed

  pub tail_whole : (ever : Bool) → Whole (tail_steps p ever)
  tail_whole ever = then_whole (run_part p callback.EvtDeviceReleaseHardware) (end_whole ever)

  empty : Whole []
  empty = record { ordered = refl; plain = refl }

  closes : Whole (pass stage.Closed ++ pass stage.Removed)
  closes = record { ordered = refl; plain = refl }

  -- whatever is asked of a device
  pub asked_whole : (ever : Bool) (f : Phase) (a : Ask) → Whole (steps_for p ever f a)
  asked_whole ever Off asks.Start = then_whole hard_part (up_whole ever)
  asked_whole ever Off asks.Remove = closes
  asked_whole ever Off asks.Surprise = closes
  asked_whole ever Working asks.Sleep = then_whole down_part sleeps
  asked_whole ever Working asks.Rebalance =
      then_whole (then_part (then_part (then_part (then_part
      (run_part p callback.EvtDeviceQueryStop)
      down_part)
      (run_part p callback.EvtDeviceReleaseHardware))
      no_hardware)
      hard_part)
      (up_whole ever)
  asked_whole ever Working asks.Remove = then_whole (then_part (run_part p callback.EvtDeviceQueryRemove) down_part) (tail_whole ever)
  asked_whole ever Working asks.Surprise = then_whole (then_part (run_part p callback.EvtDeviceSurpriseRemoval) down_part) (tail_whole ever)
  asked_whole ever Sleeping asks.Wake = up_whole ever
  asked_whole ever Sleeping asks.Remove = then_whole (run_part p callback.EvtDeviceQueryRemove) (tail_whole ever)
  asked_whole ever Sleeping asks.Surprise = then_whole (run_part p callback.EvtDeviceSurpriseRemoval) (tail_whole ever)
  asked_whole ever Removed a = empty
  asked_whole ever _ _ = empty

-- ---- the end of a list

pub end_ordered : (front xs : List Step) → in_order (front ++ xs) ≡ true → in_order xs ≡ true
end_ordered [] xs h = h
end_ordered (s ∷ front) xs h = end_ordered front xs (both_right (agree (falls s) (settles_next (front ++ xs)) && (not (turns s) || is_end (front ++ xs))) (in_order (front ++ xs)) h)
