-- Each list of steps that the machine gives is tidy.
use Rattle.std.proofs.Common.{if◌then◌else◌, ◌≡◌, Bool, true, false, not, ◌&&◌, ◌||◌, List, [], ◌∷◌, ◌++◌, reverse, None, Some, refl, sym, ap, subst, ◌∙◌}
use Rattle.std.specs.List.{flat_map, list_all, list_any}
use Rattle.std.proofs.lemmas.Bool.{or_from}
use Rattle.std.proofs.lemmas.List.Concat.{flat_map-cons}
use Rattle.std.proofs.lemmas.List.Folds.{list_all-append, list_any-append}
use Rattle.wdf_base.proofs.Tests.{all_three, both_left, both_right, both, either_false, not_true}
use Rattle.wdf_base.specs.declared.call.Callback.{Callback}
use Rattle.wdf_base.specs.declared.call.Callback.TheVariants as callback
use Rattle.wdf_base.specs.declared.event.Ask.{Ask}
use Rattle.wdf_base.specs.declared.event.Ask.TheVariants as asks
use Rattle.wdf_base.specs.declared.event.Stage.TheVariants as stage
use Rattle.wdf_base.specs.declared.event.Step.{Step}
use Rattle.wdf_base.specs.declared.event.Step.TheVariants as step
use Rattle.wdf_base.specs.Same.{same_callback}
use Rattle.wdf_base.specs.Callbacks.{is_query}
use Rattle.wdf_model.specs.declared.enums.Phase.{Phase}
use Rattle.wdf_model.specs.declared.enums.Phase.TheVariants.{Off, Working, Sleeping, Removed}
use Rattle.wdf_model.specs.parts.Pnp.{DeviceSteps, InterruptSteps, disable_steps, down_steps, enable_steps, end_steps, flush_steps, hard_steps, pass, quiet_steps, run, run_if, self_managed_start, steps_for, tail_steps, up_steps}
use Rattle.law_idle.specs.Resting.{has_query, is_end, is_query_step, is_rest_step, is_tidy}

-- a step that neither asks the driver nor makes a device awake or asleep
abbrev is_plain : Step → Bool
is_plain s = not (is_rest_step s) && not (is_query_step s)

abbrev all_plain : List Step → Bool
all_plain ss = list_all is_plain ss

-- more may follow: tidy, and it makes no device awake or asleep
record Open (ss : List Step) : Type 0 where
  tidy : is_tidy ss ≡ true
  goes_on : list_any is_rest_step ss ≡ false

-- it may follow: tidy, and the driver isn't asked
record Close (ss : List Step) : Type 0 where
  tidy : is_tidy ss ≡ true
  asks_not : has_query ss ≡ false

-- ---- one list behind another

all_behind : (p : Step → Bool) (xs ys : List Step) → list_all p xs ≡ true → list_all p ys ≡ true → list_all p (xs ++ ys) ≡ true
all_behind p xs ys h k = list_all-append p xs ys ∙ both (list_all p xs) (list_all p ys) h k

-- what is said of a tidy list that goes on
pub tidy_tail : (s : Step) (ss : List Step) → is_tidy (s ∷ ss) ≡ true → is_tidy ss ≡ true
tidy_tail s ss h = both_right ((not (is_rest_step s) || is_end ss) && not (has_query ss)) (is_tidy ss) h

pub tail_asks_not : (s : Step) (ss : List Step) → is_tidy (s ∷ ss) ≡ true → has_query ss ≡ false
tail_asks_not s ss h =
    not_true (has_query ss) (both_right (not (is_rest_step s) || is_end ss) (not (has_query ss)) (both_left ((not (is_rest_step s) || is_end ss) && not (has_query ss)) (is_tidy ss) h))

none_left : (ss : List Step) → is_end ss ≡ true → ss ≡ []
none_left [] h = refl
none_left (s ∷ ss) h = absurd (let z : ⊥ = cc in z)

-- after a step by which a device becomes awake or asleep nothing is left
pub rest_is_last : (s : Step) (ss : List Step) → is_rest_step s ≡ true → is_tidy (s ∷ ss) ≡ true → ss ≡ []
rest_is_last s ss r h =
    let first : (not (is_rest_step s) || is_end ss) ≡ true = both_left (not (is_rest_step s) || is_end ss) (not (has_query ss)) (both_left ((not (is_rest_step s) || is_end ss) && not (has_query ss)) (is_tidy ss) h) in
    none_left ss (rw r at first)

or_so : (a b : Bool) → a ≡ false → (not a || b) ≡ true
or_so a b h = rw h refl

or_neither : (a b : Bool) → a ≡ false → b ≡ false → not (a || b) ≡ true
or_neither a b h k = rw (h, k) refl

tidy_behind : (xs ys : List Step) → Open xs → Close ys → is_tidy (xs ++ ys) ≡ true
tidy_behind [] ys o c = c.tidy
tidy_behind (x ∷ xs) ys o c =
    let n = either_false (is_rest_step x) (list_any is_rest_step xs) o.goes_on in
    let quiet : has_query (xs ++ ys) ≡ false = list_any-append is_query_step xs ys ∙ or_from (has_query xs) (has_query ys) (tail_asks_not x xs o.tidy) c.asks_not in
    all_three (not (is_rest_step x) || is_end (xs ++ ys)) (not (has_query (xs ++ ys))) (is_tidy (xs ++ ys)) (or_so (is_rest_step x) (is_end (xs ++ ys)) n.0) (ap not quiet)
    (tidy_behind xs ys (record { tidy = tidy_tail x xs o.tidy; goes_on = n.1 }) c)

plain_asks_not : (ss : List Step) → all_plain ss ≡ true → has_query ss ≡ false
plain_asks_not [] h = refl
plain_asks_not (s ∷ ss) h =
    let one : is_query_step s ≡ false = not_true (is_query_step s) (both_right (not (is_rest_step s)) (not (is_query_step s)) (both_left (is_plain s) (all_plain ss) h)) in
    rw one (plain_asks_not ss (both_right (is_plain s) (all_plain ss) h))

plain_goes_on : (ss : List Step) → all_plain ss ≡ true → list_any is_rest_step ss ≡ false
plain_goes_on [] h = refl
plain_goes_on (s ∷ ss) h =
    let one : is_rest_step s ≡ false = not_true (is_rest_step s) (both_left (not (is_rest_step s)) (not (is_query_step s)) (both_left (is_plain s) (all_plain ss) h)) in
    rw one (plain_goes_on ss (both_right (is_plain s) (all_plain ss) h))

plain_tidy : (ss : List Step) → all_plain ss ≡ true → is_tidy ss ≡ true
plain_tidy [] h = refl
plain_tidy (s ∷ ss) h =
    let more : all_plain ss ≡ true = both_right (is_plain s) (all_plain ss) h in
    let one : is_rest_step s ≡ false = not_true (is_rest_step s) (both_left (not (is_rest_step s)) (not (is_query_step s)) (both_left (is_plain s) (all_plain ss) h)) in
    all_three (not (is_rest_step s) || is_end ss) (not (has_query ss)) (is_tidy ss) (or_so (is_rest_step s) (is_end ss) one) (ap not (plain_asks_not ss more)) (plain_tidy ss more)

plain_open : (ss : List Step) → all_plain ss ≡ true → Open ss
plain_open ss h = record { tidy = plain_tidy ss h; goes_on = plain_goes_on ss h }

plain_close : (ss : List Step) → all_plain ss ≡ true → Close ss
plain_close ss h = record { tidy = plain_tidy ss h; asks_not = plain_asks_not ss h }

open_behind : (xs ys : List Step) → Open xs → all_plain ys ≡ true → Open (xs ++ ys)
open_behind xs ys o h = record {
  tidy = tidy_behind xs ys o (plain_close ys h);
  goes_on = list_any-append is_rest_step xs ys ∙ rw (o.goes_on, plain_goes_on ys h) refl;
}

close_behind : (xs ys : List Step) → all_plain xs ≡ true → Close ys → Close (xs ++ ys)
close_behind xs ys h c = record {
  tidy = tidy_behind xs ys (plain_open xs h) c;
  asks_not = list_any-append is_query_step xs ys ∙ rw (plain_asks_not xs h, c.asks_not) refl;
}

-- ---- the parts of the lists

run_plain_if : (b : Bool) (c : Callback) → is_query c ≡ false → all_plain (if b then step.Run c None ∷ [] else []) ≡ true
run_plain_if true c h = rw h refl
run_plain_if false c h = refl

run_plain : (p : DeviceSteps) (c : Callback) → is_query c ≡ false → all_plain (run p c) ≡ true
run_plain p c h = run_plain_if (list_any (same_callback c) p.callbacks) c h

run_open_if : (b : Bool) (c : Callback) → Open (if b then step.Run c None ∷ [] else [])
run_open_if true c = record { tidy = refl; goes_on = refl }
run_open_if false c = record { tidy = refl; goes_on = refl }

run_open : (p : DeviceSteps) (c : Callback) → Open (run p c)
run_open p c = run_open_if (list_any (same_callback c) p.callbacks) c

enables_plain_one : (i : InterruptSteps) (b : Bool) → all_plain (run_if b callback.EvtInterruptEnable i.interrupt ++ step.Pass stage.Enabled (Some i.interrupt) ∷ []) ≡ true
enables_plain_one i true = refl
enables_plain_one i false = refl

disables_plain_one : (i : InterruptSteps) (b : Bool) → all_plain (step.Pass stage.Disabled (Some i.interrupt) ∷ run_if b callback.EvtInterruptDisable i.interrupt) ≡ true
disables_plain_one i true = refl
disables_plain_one i false = refl

enables_plain : (is : List InterruptSteps) → all_plain (flat_map enable_steps is) ≡ true
enables_plain [] = refl
enables_plain (i ∷ is) = rw (flat_map-cons enable_steps i is) (all_behind is_plain (enable_steps i) (flat_map enable_steps is) (enables_plain_one i i.enables) (enables_plain is))

disables_plain : (is : List InterruptSteps) → all_plain (flat_map disable_steps is) ≡ true
disables_plain [] = refl
disables_plain (i ∷ is) = subst (λ ss. all_plain ss ≡ true) (sym (flat_map-cons disable_steps i is)) (all_behind is_plain (disable_steps i) (flat_map disable_steps is) (disables_plain_one i i.disables) (disables_plain is))

quiet_plain : (is : List InterruptSteps) → all_plain (quiet_steps is) ≡ true
quiet_plain [] = refl
quiet_plain (i ∷ is) = refl

start_plain : (p : DeviceSteps) (ever : Bool) → all_plain (run p (self_managed_start ever)) ≡ true
start_plain p true = run_plain p callback.EvtDeviceSelfManagedIoRestart refl
start_plain p false = run_plain p callback.EvtDeviceSelfManagedIoInit refl

flush_plain : (p : DeviceSteps) (ever : Bool) → all_plain (flush_steps p ever) ≡ true
flush_plain p true = all_behind is_plain (run p callback.EvtDeviceSelfManagedIoFlush) (run p callback.EvtDeviceSelfManagedIoCleanup) (run_plain p callback.EvtDeviceSelfManagedIoFlush refl) (run_plain p callback.EvtDeviceSelfManagedIoCleanup refl)
flush_plain p false = refl

module _ (p : DeviceSteps) (ever : Bool) where
  abbrev entry : List Step
  entry = run p callback.EvtDeviceD0Entry

  abbrev on : List Step
  on = flat_map enable_steps p.interrupts

  abbrev past : List Step
  past = run p callback.EvtDeviceD0EntryPostInterruptsEnabled

  abbrev begins : List Step
  begins = run p (self_managed_start ever)

  up_close : Close (up_steps p ever)
  up_close =
      close_behind (entry ++ on ++ past ++ pass stage.QueuesUp ++ begins) (pass stage.Working)
      (all_behind is_plain (entry ++ on ++ past ++ pass stage.QueuesUp) begins
      (all_behind is_plain (entry ++ on ++ past) (pass stage.QueuesUp)
      (all_behind is_plain (entry ++ on) past (all_behind is_plain entry on (run_plain p callback.EvtDeviceD0Entry refl) (enables_plain p.interrupts)) (run_plain p callback.EvtDeviceD0EntryPostInterruptsEnabled refl))
      refl) (start_plain p ever))
      (record { tidy = refl; asks_not = refl })

  abbrev suspend : List Step
  suspend = run p callback.EvtDeviceSelfManagedIoSuspend

  abbrev exit_before : List Step
  exit_before = run p callback.EvtDeviceD0ExitPreInterruptsDisabled

  abbrev off : List Step
  off = flat_map disable_steps (reverse p.interrupts)

  abbrev exit : List Step
  exit = run p callback.EvtDeviceD0Exit

  down_plain : all_plain (down_steps p) ≡ true
  down_plain =
      all_behind is_plain (suspend ++ pass stage.QueuesDown ++ pass stage.Settled ++ exit_before ++ off ++ quiet_steps p.interrupts) exit
      (all_behind is_plain (suspend ++ pass stage.QueuesDown ++ pass stage.Settled ++ exit_before ++ off) (quiet_steps p.interrupts)
      (all_behind is_plain (suspend ++ pass stage.QueuesDown ++ pass stage.Settled ++ exit_before) off
      (all_behind is_plain (suspend ++ pass stage.QueuesDown ++ pass stage.Settled) exit_before
      (all_behind is_plain (suspend ++ pass stage.QueuesDown) (pass stage.Settled)
      (all_behind is_plain suspend (pass stage.QueuesDown) (run_plain p callback.EvtDeviceSelfManagedIoSuspend refl) refl)
      refl) (run_plain p callback.EvtDeviceD0ExitPreInterruptsDisabled refl)) (disables_plain (reverse p.interrupts))) (quiet_plain p.interrupts))
      (run_plain p callback.EvtDeviceD0Exit refl)

  hard_plain : all_plain (hard_steps p) ≡ true
  hard_plain = all_behind is_plain (pass stage.Hardware) (run p callback.EvtDevicePrepareHardware) refl (run_plain p callback.EvtDevicePrepareHardware refl)

  end_plain : all_plain (end_steps p ever) ≡ true
  end_plain =
      all_behind is_plain (pass stage.NoHardware ++ pass stage.Closed ++ flush_steps p ever) (pass stage.Removed)
      (all_behind is_plain (pass stage.NoHardware ++ pass stage.Closed) (flush_steps p ever) refl (flush_plain p ever)) refl

  release_plain : all_plain (run p callback.EvtDeviceReleaseHardware) ≡ true
  release_plain = run_plain p callback.EvtDeviceReleaseHardware refl

  tail_plain : all_plain (tail_steps p ever) ≡ true
  tail_plain = all_behind is_plain (run p callback.EvtDeviceReleaseHardware) (end_steps p ever) release_plain end_plain

  -- ---- the lists

  pub end_tidy : is_tidy (end_steps p ever) ≡ true
  end_tidy = plain_tidy (end_steps p ever) end_plain

  pub end_asks_not : has_query (end_steps p ever) ≡ false
  end_asks_not = plain_asks_not (end_steps p ever) end_plain

  pub tail_is_tidy : is_tidy (tail_steps p ever) ≡ true
  tail_is_tidy = plain_tidy (tail_steps p ever) tail_plain

  pub tail_asks_nothing : has_query (tail_steps p ever) ≡ false
  tail_asks_nothing = plain_asks_not (tail_steps p ever) tail_plain

  rebalanced : is_tidy (steps_for p ever Working asks.Rebalance) ≡ true
  rebalanced =
      let stop : List Step = run p callback.EvtDeviceQueryStop in
      let release : List Step = run p callback.EvtDeviceReleaseHardware in
      tidy_behind (stop ++ down_steps p ++ release ++ pass stage.NoHardware ++ hard_steps p) (up_steps p ever)
      (open_behind (stop ++ down_steps p ++ release ++ pass stage.NoHardware) (hard_steps p)
      (open_behind (stop ++ down_steps p ++ release) (pass stage.NoHardware)
      (open_behind (stop ++ down_steps p) release (open_behind stop (down_steps p) (run_open p callback.EvtDeviceQueryStop) down_plain) release_plain) refl) hard_plain)
      up_close

  ended : (c : Callback) → is_tidy (run p c ++ down_steps p ++ tail_steps p ever) ≡ true
  ended c = tidy_behind (run p c ++ down_steps p) (tail_steps p ever) (open_behind (run p c) (down_steps p) (run_open p c) down_plain) (plain_close (tail_steps p ever) tail_plain)

  left_off : (c : Callback) → is_tidy (run p c ++ tail_steps p ever) ≡ true
  left_off c = tidy_behind (run p c) (tail_steps p ever) (run_open p c) (plain_close (tail_steps p ever) tail_plain)

  pub lists_tidy : (phase : Phase) (a : Ask) → is_tidy (steps_for p ever phase a) ≡ true
  lists_tidy Off asks.Start = (close_behind (hard_steps p) (up_steps p ever) hard_plain up_close).tidy
  lists_tidy Off _ = refl
  lists_tidy Working asks.Sleep = tidy_behind (down_steps p) (pass stage.Sleeping) (plain_open (down_steps p) down_plain) (record { tidy = refl; asks_not = refl })
  lists_tidy Working asks.Rebalance = rebalanced
  lists_tidy Working asks.Remove = ended callback.EvtDeviceQueryRemove
  lists_tidy Working asks.Surprise = ended callback.EvtDeviceSurpriseRemoval
  lists_tidy Working _ = refl
  lists_tidy Sleeping asks.Wake = up_close.tidy
  lists_tidy Sleeping asks.Remove = left_off callback.EvtDeviceQueryRemove
  lists_tidy Sleeping asks.Surprise = left_off callback.EvtDeviceSurpriseRemoval
  lists_tidy Sleeping _ = refl
  lists_tidy Removed a = refl
