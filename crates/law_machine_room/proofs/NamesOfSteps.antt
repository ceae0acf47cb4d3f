-- The interrupts that steps name are declared ones, after each act on the sequences of devices.
use Rattle.std.proofs.Common.{if◌then◌else◌, ◌≡◌, ℕ, ◌<◌, Bool, true, false, List, [], ◌∷◌, ◌++◌, inl, inr, Option, Some, None, length, drop, reverse, refl, ap, sym, subst, ◌∙◌, arith}
use Rattle.std.specs.List.{All, flat_map, list_any}
use Rattle.std.proofs.lemmas.Bool.{cases_lt}
use Rattle.std.proofs.lemmas.List.{reverse-append}
use Rattle.std.proofs.lemmas.List.Elements.{All-append, All-cons, All-drop, All-head, All-map, All-nil, All-tail}
use Rattle.std.proofs.lemmas.List.FromFn.{get_or-map-range_with_len, length-map-range_with_len}
use Rattle.wdf_base.specs.declared.plan.Plan.{Plan}
use Rattle.wdf_base.specs.declared.ids.Handle.{Handle}
use Rattle.wdf_base.specs.declared.value.Value.{Value}
use Rattle.wdf_base.specs.declared.call.Callback.{Callback}
use Rattle.wdf_base.specs.declared.call.Callback.TheVariants as callback
use Rattle.wdf_base.specs.declared.event.Ask.{Ask}
use Rattle.wdf_base.specs.declared.event.Ask.TheVariants as asks
use Rattle.wdf_base.specs.declared.event.Stage.{Stage}
use Rattle.wdf_base.specs.declared.event.Stage.TheVariants as stage
use Rattle.wdf_base.specs.declared.event.Step.{Step}
use Rattle.wdf_base.specs.declared.event.Step.TheVariants as step
use Rattle.wdf_base.specs.declared.declared.DeviceInfo.{DeviceInfo}
use Rattle.wdf_base.specs.Same.{same_callback}
use Rattle.wdf_model.specs.declared.enums.Phase.{Phase}
use Rattle.wdf_model.specs.declared.enums.Phase.TheVariants.{Off, Working, Sleeping, Removed}
use Rattle.wdf_model.specs.Tables.{first_of_list}
use Rattle.wdf_model.specs.Plans.{device_of, interrupts_of}
use Rattle.wdf_model.specs.parts.Pnp.{DeviceSteps, InterruptSteps, Pnp, Sequence, disable_steps, down_steps, enable_steps, end_steps, flush_steps, hard_steps, interrupt_steps, left_after, left_after_failure, no_sequence, opening_pnp, opening_sequence, pass, passed, quiet_steps, run, run_if, self_managed_start, sequence_of, steps_for, steps_off, steps_sleeping, steps_working, tail_steps, taken_step, up_steps, with_sequence, with_step}
use Rattle.wdf_model.specs.parts.Pnp as pnp
use Rattle.wdf_model.proofs.Counts.{one_or_two}
use Rattle.wdf_model.proofs.Maps.{entry_past, entry_put_other, entry_put_same}
use Rattle.law_machine_room.specs.Kept.{IsStepThere}
use Rattle.wdf_model.specs.rules.Groups.{declared_end}
use Rattle.law_machine_room.proofs.SizesOfPlans.{interrupts_below}
use Rattle.law_machine_counts.proofs.StepsOverRuns.{no_device}
use Rattle.wdf_base.specs.Values.{is_success}

-- ---- lists

all_joined : {X Y : Type 0} (P : Y → Type 0) (Q : X → Type 0) (f : X → List Y) → ((x : X) → Q x → All P (f x)) → (xs : List X) → All Q xs → All P (flat_map f xs)
all_joined P Q f h [] k = All-nil P
all_joined P Q f h (x ∷ xs) k = All-append P (f x) (flat_map f xs) (h x (All-head Q x xs k)) (all_joined P Q f h xs (All-tail Q x xs k))

all_reversed : {X : Type 0} (P : X → Type 0) (xs : List X) → All P xs → All P (reverse xs)
all_reversed P [] h = All-nil P
all_reversed P (x ∷ xs) h =
    subst (All P) (sym (reverse-append (x ∷ []) xs))
    (All-append P (reverse xs) (x ∷ []) (all_reversed P xs (All-tail P x xs h)) (All-cons P x [] (All-head P x xs h) (All-nil P)))

-- ---- the lists of steps

abbrev pub StepsThere : Plan → List Step → Type 0
StepsThere plan left = All (IsStepThere plan) left

-- the interrupts of a device's steps are declared ones
abbrev IsInterruptThere : Plan → InterruptSteps → Type 0
IsInterruptThere plan i = i.interrupt.id.0 < declared_end plan

abbrev pub AreMadeOf : Plan → DeviceSteps → Type 0
AreMadeOf plan p = All (IsInterruptThere plan) p.interrupts

module _ (plan : Plan) where
  then_there : (xs ys : List Step) → StepsThere plan xs → StepsThere plan ys → StepsThere plan (xs ++ ys)
  then_there xs ys h k = All-append (IsStepThere plan) xs ys h k

  none_there : StepsThere plan []
  none_there = All-nil (IsStepThere plan)

  one_there : (s : Step) → IsStepThere plan s → StepsThere plan (s ∷ [])
  one_there s h = All-cons (IsStepThere plan) s [] h none_there

  run_by : (c : Callback) (b : Bool) → StepsThere plan (if b then step.Run c None ∷ [] else [])
  run_by c true = one_there (step.Run c None) tt
  run_by c false = none_there

  run_there : (p : DeviceSteps) (c : Callback) → StepsThere plan (run p c)
  run_there p c = run_by c (list_any (same_callback c) p.callbacks)

  pass_there : (s : Stage) → StepsThere plan (pass s)
  pass_there s = one_there (step.Pass s None) tt

  run_if_there : (b : Bool) (c : Callback) (i : Handle) → i.id.0 < declared_end plan → StepsThere plan (run_if b c i)
  run_if_there true c i h = one_there (step.Run c (Some i)) h
  run_if_there false c i h = none_there

  enable_there : (i : InterruptSteps) → IsInterruptThere plan i → StepsThere plan (enable_steps i)
  enable_there i h =
      then_there (run_if i.enables callback.EvtInterruptEnable i.interrupt) (step.Pass stage.Enabled (Some i.interrupt) ∷ [])
      (run_if_there i.enables callback.EvtInterruptEnable i.interrupt h) (one_there (step.Pass stage.Enabled (Some i.interrupt)) h)

  disable_there : (i : InterruptSteps) → IsInterruptThere plan i → StepsThere plan (disable_steps i)
  disable_there i h =
      All-cons (IsStepThere plan) (step.Pass stage.Disabled (Some i.interrupt)) (run_if i.disables callback.EvtInterruptDisable i.interrupt) h
      (run_if_there i.disables callback.EvtInterruptDisable i.interrupt h)

  quiet_there : (is : List InterruptSteps) → StepsThere plan (quiet_steps is)
  quiet_there [] = none_there
  quiet_there (i ∷ is) = pass_there stage.Quiet

  hard_there : (p : DeviceSteps) → StepsThere plan (hard_steps p)
  hard_there p = then_there (pass stage.Hardware) (run p callback.EvtDevicePrepareHardware) (pass_there stage.Hardware) (run_there p callback.EvtDevicePrepareHardware)

  flush_there : (p : DeviceSteps) (ever : Bool) → StepsThere plan (flush_steps p ever)
  flush_there p false = none_there
  flush_there p true =
      then_there (run p callback.EvtDeviceSelfManagedIoFlush) (run p callback.EvtDeviceSelfManagedIoCleanup)
      (run_there p callback.EvtDeviceSelfManagedIoFlush) (run_there p callback.EvtDeviceSelfManagedIoCleanup)

  end_there : (p : DeviceSteps) (ever : Bool) → StepsThere plan (end_steps p ever)
  end_there p ever =
      then_there (pass stage.NoHardware ++ pass stage.Closed ++ flush_steps p ever) (pass stage.Removed)
      (then_there (pass stage.NoHardware ++ pass stage.Closed) (flush_steps p ever)
      (then_there (pass stage.NoHardware) (pass stage.Closed) (pass_there stage.NoHardware) (pass_there stage.Closed)) (flush_there p ever))
      (pass_there stage.Removed)

  tail_there : (p : DeviceSteps) (ever : Bool) → StepsThere plan (tail_steps p ever)
  tail_there p ever = then_there (run p callback.EvtDeviceReleaseHardware) (end_steps p ever) (run_there p callback.EvtDeviceReleaseHardware) (end_there p ever)

  up_there : (p : DeviceSteps) (ever : Bool) → AreMadeOf plan p → StepsThere plan (up_steps p ever)
  up_there p ever h =
      let entry = run p callback.EvtDeviceD0Entry in
      let enables = flat_map enable_steps p.interrupts in
      let after_them = run p callback.EvtDeviceD0EntryPostInterruptsEnabled in
      let start = run p (self_managed_start ever) in
      then_there (entry ++ enables ++ after_them ++ pass stage.QueuesUp ++ start) (pass stage.Working)
      (then_there (entry ++ enables ++ after_them ++ pass stage.QueuesUp) start
      (then_there (entry ++ enables ++ after_them) (pass stage.QueuesUp)
      (then_there (entry ++ enables) after_them
      (then_there entry enables (run_there p callback.EvtDeviceD0Entry) (all_joined (IsStepThere plan) (IsInterruptThere plan) enable_steps enable_there p.interrupts h))
      (run_there p callback.EvtDeviceD0EntryPostInterruptsEnabled))
      (pass_there stage.QueuesUp))
      (run_there p (self_managed_start ever)))
      (pass_there stage.Working)

  down_there : (p : DeviceSteps) → AreMadeOf plan p → StepsThere plan (down_steps p)
  down_there p h =
      let suspend = run p callback.EvtDeviceSelfManagedIoSuspend in
      let before = run p callback.EvtDeviceD0ExitPreInterruptsDisabled in
      let disables = flat_map disable_steps (reverse p.interrupts) in
      let exit = run p callback.EvtDeviceD0Exit in
      then_there (suspend ++ pass stage.QueuesDown ++ pass stage.Settled ++ before ++ disables ++ quiet_steps p.interrupts) exit
      (then_there (suspend ++ pass stage.QueuesDown ++ pass stage.Settled ++ before ++ disables) (quiet_steps p.interrupts)
      (then_there (suspend ++ pass stage.QueuesDown ++ pass stage.Settled ++ before) disables
      (then_there (suspend ++ pass stage.QueuesDown ++ pass stage.Settled) before
      (then_there (suspend ++ pass stage.QueuesDown) (pass stage.Settled)
      (then_there suspend (pass stage.QueuesDown) (run_there p callback.EvtDeviceSelfManagedIoSuspend) (pass_there stage.QueuesDown))
      (pass_there stage.Settled))
      (run_there p callback.EvtDeviceD0ExitPreInterruptsDisabled))
      (all_joined (IsStepThere plan) (IsInterruptThere plan) disable_steps disable_there (reverse p.interrupts) (all_reversed (IsInterruptThere plan) p.interrupts h)))
      (quiet_there p.interrupts))
      (run_there p callback.EvtDeviceD0Exit)

  closed_there : StepsThere plan (pass stage.Closed ++ pass stage.Removed)
  closed_there = then_there (pass stage.Closed) (pass stage.Removed) (pass_there stage.Closed) (pass_there stage.Removed)

  off_there : (p : DeviceSteps) (ever : Bool) (a : Ask) → AreMadeOf plan p → StepsThere plan (steps_off p ever a)
  off_there p ever asks.Start h = then_there (hard_steps p) (up_steps p ever) (hard_there p) (up_there p ever h)
  off_there p ever asks.Remove h = closed_there
  off_there p ever asks.Surprise h = closed_there
  off_there p ever _ h = none_there

  -- power-down after a callback, and the end
  leaving_there : (p : DeviceSteps) (ever : Bool) (c : Callback) → AreMadeOf plan p → StepsThere plan (run p c ++ down_steps p ++ tail_steps p ever)
  leaving_there p ever c h =
      then_there (run p c ++ down_steps p) (tail_steps p ever) (then_there (run p c) (down_steps p) (run_there p c) (down_there p h)) (tail_there p ever)

  rebalance_there : (p : DeviceSteps) (ever : Bool) → AreMadeOf plan p → StepsThere plan (steps_working p ever asks.Rebalance)
  rebalance_there p ever h =
      let down = run p callback.EvtDeviceQueryStop ++ down_steps p in
      let release = run p callback.EvtDeviceReleaseHardware in
      then_there (down ++ release ++ pass stage.NoHardware ++ hard_steps p) (up_steps p ever)
      (then_there (down ++ release ++ pass stage.NoHardware) (hard_steps p)
      (then_there (down ++ release) (pass stage.NoHardware)
      (then_there down release (then_there (run p callback.EvtDeviceQueryStop) (down_steps p) (run_there p callback.EvtDeviceQueryStop) (down_there p h))
      (run_there p callback.EvtDeviceReleaseHardware))
      (pass_there stage.NoHardware))
      (hard_there p))
      (up_there p ever h)

  working_there : (p : DeviceSteps) (ever : Bool) (a : Ask) → AreMadeOf plan p → StepsThere plan (steps_working p ever a)
  working_there p ever asks.Sleep h = then_there (down_steps p) (pass stage.Sleeping) (down_there p h) (pass_there stage.Sleeping)
  working_there p ever asks.Rebalance h = rebalance_there p ever h
  working_there p ever asks.Remove h = leaving_there p ever callback.EvtDeviceQueryRemove h
  working_there p ever asks.Surprise h = leaving_there p ever callback.EvtDeviceSurpriseRemoval h
  working_there p ever _ h = none_there

  sleeping_there : (p : DeviceSteps) (ever : Bool) (a : Ask) → AreMadeOf plan p → StepsThere plan (steps_sleeping p ever a)
  sleeping_there p ever asks.Wake h = up_there p ever h
  sleeping_there p ever asks.Remove h = then_there (run p callback.EvtDeviceQueryRemove) (tail_steps p ever) (run_there p callback.EvtDeviceQueryRemove) (tail_there p ever)
  sleeping_there p ever asks.Surprise h = then_there (run p callback.EvtDeviceSurpriseRemoval) (tail_steps p ever) (run_there p callback.EvtDeviceSurpriseRemoval) (tail_there p ever)
  sleeping_there p ever _ h = none_there

  asked_there : (p : DeviceSteps) (ever : Bool) (phase : Phase) (a : Ask) → AreMadeOf plan p → StepsThere plan (steps_for p ever phase a)
  asked_there p ever Off a h = off_there p ever a h
  asked_there p ever Working a h = working_there p ever a h
  asked_there p ever Sleeping a h = sleeping_there p ever a h
  asked_there p ever Removed a h = none_there

  failure_there : (q : Sequence) (c : Callback) → StepsThere plan q.left → StepsThere plan (left_after_failure q c)
  failure_there q callback.EvtDeviceQueryStop h = none_there
  failure_there q callback.EvtDeviceQueryRemove h = none_there
  failure_there q callback.EvtDevicePrepareHardware h = end_there q.steps q.ever_working
  failure_there q callback.EvtDeviceD0Entry h = tail_there q.steps q.ever_working
  failure_there q _ h = h

  result_there : (q : Sequence) (c : Callback) (b : Bool) → StepsThere plan q.left → StepsThere plan (if b then q.left else left_after_failure q c)
  result_there q c true h = h
  result_there q c false h = failure_there q c h

  left_there : (q : Sequence) (s : Step) (result : Value) → StepsThere plan q.left → StepsThere plan (left_after q s result)
  left_there q (step.Pass s i) result h = h
  left_there q (step.Run c i) result h = result_there q c (is_success result) h

-- ---- one device

-- a sequence's steps are those of a device of the plan, and what is left names declared interrupts
pub record SequenceNamed (plan : Plan) (d : ℕ) (q : Sequence) : Type 0 where
  pub left : StepsThere plan q.left
  pub made_of : q.steps ≡ (opening_sequence plan d (device_of plan d)).steps

opening_made : (plan : Plan) (d : ℕ) (i : Option DeviceInfo) → AreMadeOf plan (opening_sequence plan d i).steps
opening_made plan d None = All-nil (IsInterruptThere plan)
opening_made plan d (Some i) = All-map (IsInterruptThere plan) (interrupt_steps plan) (interrupts_of plan d) (interrupts_below plan d)

asked_named : (plan : Plan) (d : ℕ) (a : Ask) (q : Sequence) → SequenceNamed plan d q → SequenceNamed plan d (record q { left = steps_for q.steps q.ever_working q.phase a })
asked_named plan d a q k = record {
  left = asked_there plan q.steps q.ever_working q.phase a (subst (AreMadeOf plan) (sym k.made_of) (opening_made plan d (device_of plan d)));
  made_of = k.made_of;
}

passed_named : (plan : Plan) (d : ℕ) (s : Stage) (q : Sequence) → SequenceNamed plan d q → SequenceNamed plan d (passed s q)
passed_named plan d stage.Working q k = record { left = k.left; made_of = k.made_of }
passed_named plan d stage.Sleeping q k = record { left = k.left; made_of = k.made_of }
passed_named plan d stage.Removed q k = record { left = k.left; made_of = k.made_of }
passed_named plan d _ q k = k

step_named : (plan : Plan) (d : ℕ) (s : Option Step) (q : Sequence) → SequenceNamed plan d q → SequenceNamed plan d (with_step s q)
step_named plan d None q k = k
step_named plan d (Some (step.Run c i)) q k = record { left = k.left; made_of = k.made_of }
step_named plan d (Some (step.Pass s i)) q k = passed_named plan d s q k

taken_named : (plan : Plan) (d : ℕ) (q : Sequence) → SequenceNamed plan d q → SequenceNamed plan d (taken_step q)
taken_named plan d q k =
    step_named plan d (first_of_list q.left) (record q { left = drop 1 q.left }) (record { left = All-drop (IsStepThere plan) 1 q.left k.left; made_of = k.made_of })

ended_named : (plan : Plan) (d : ℕ) (s : Step) (result : Value) (q : Sequence) → SequenceNamed plan d q → SequenceNamed plan d (record q { left = left_after q s result; running = None })
ended_named plan d s result q k = record { left = left_there plan q s result k.left; made_of = k.made_of }

-- ---- all devices

abbrev pub StepsNamed : Plan → Pnp → Type 0
StepsNamed plan Q = (d : ℕ) → SequenceNamed plan d (sequence_of Q d)

with_named : (plan : Plan) (Q : Pnp) (d : ℕ) (f : Sequence → Sequence) → ((q : Sequence) → SequenceNamed plan d q → SequenceNamed plan d (f q)) → StepsNamed plan Q → StepsNamed plan (with_sequence Q d f)
with_named plan Q d f h k x = elim (one_or_two x d) [
  | inl e ↦ subst (λ y. SequenceNamed plan y (sequence_of (with_sequence Q d f) y)) (sym e) (subst (SequenceNamed plan d) (sym (entry_put_same no_sequence Q.devices d (f (sequence_of Q d)))) (h (sequence_of Q d) (k d)))
  | inr other ↦ subst (SequenceNamed plan x) (sym (entry_put_other no_sequence Q.devices d x (f (sequence_of Q d)) other)) (k x)
]

pub ask_named : (plan : Plan) (Q : Pnp) (d : ℕ) (a : Ask) → StepsNamed plan Q → StepsNamed plan (pnp.ask Q d a)
ask_named plan Q d a k = with_named plan Q d (λ q. record q { left = steps_for q.steps q.ever_working q.phase a }) (asked_named plan d a) k

pub take_step_named : (plan : Plan) (Q : Pnp) (d : ℕ) → StepsNamed plan Q → StepsNamed plan (pnp.taken Q d)
take_step_named plan Q d k = with_named plan Q d taken_step (taken_named plan d) k

pub end_step_named : (plan : Plan) (Q : Pnp) (d : ℕ) (s : Step) (result : Value) → StepsNamed plan Q → StepsNamed plan (pnp.ended Q d s result)
end_step_named plan Q d s result k = with_named plan Q d (λ q. record q { left = left_after q s result; running = None }) (ended_named plan d s result) k

-- ---- the opening

pub opening_left : (plan : Plan) (d : ℕ) (i : Option DeviceInfo) → (opening_sequence plan d i).left ≡ []
opening_left plan d None = refl
opening_left plan d (Some i) = refl

opened : (plan : Plan) (d : ℕ) → SequenceNamed plan d (opening_sequence plan d (device_of plan d))
opened plan d = record { left = subst (StepsThere plan) (sym (opening_left plan d (device_of plan d))) (none_there plan); made_of = refl }

pub opening_read : (plan : Plan) (d : ℕ) → sequence_of (opening_pnp plan) d ≡ opening_sequence plan d (device_of plan d)
opening_read plan d = elim (cases_lt d (declared_end plan)) [
  | inl within ↦ get_or-map-range_with_len (λ x. opening_sequence plan x (device_of plan x)) 0 (declared_end plan) d d no_sequence within (omega arith)
  | inr past ↦
      let long : length (opening_pnp plan).devices ≡ declared_end plan = length-map-range_with_len (λ x. opening_sequence plan x (device_of plan x)) 0 (declared_end plan) in
      entry_past no_sequence (opening_pnp plan).devices d (omega arith) ∙ sym (ap (opening_sequence plan d) (no_device plan d past))
]

pub opening_steps_named : (plan : Plan) → StepsNamed plan (opening_pnp plan)
opening_steps_named plan d = subst (SequenceNamed plan d) (sym (opening_read plan d)) (opened plan d)
