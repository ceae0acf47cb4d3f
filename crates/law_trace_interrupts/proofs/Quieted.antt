-- Before EvtDeviceD0Exit comes the stage `quiet`, while an interrupt of the device is enabled or its DPC is queued.
use Rattle.std.proofs.Common.{if◌then◌else◌, ◌≡◌, ℕ, ◌==◌, ◌≤◌, Bool, true, false, not, ◌&&◌, ◌||◌, List, [], ◌∷◌, ◌++◌, inl, inr, Option, None, count_by, map, refl, ap, subst, ◌∙◌, arith}
use Rattle.std.specs.List.{list_all, list_any}
use Rattle.std.proofs.lemmas.Bool.{cases_Bool, eqb-true}
use Rattle.wdf_base.specs.declared.ids.Handle.{Handle}
use Rattle.wdf_base.specs.declared.plan.Plan.{Plan}
use Rattle.wdf_base.specs.declared.value.Value.{Value}
use Rattle.wdf_base.specs.declared.call.Callback.{Callback}
use Rattle.wdf_base.specs.declared.call.Callback.TheVariants as callback
use Rattle.wdf_base.specs.declared.event.Ask.{Ask}
use Rattle.wdf_base.specs.declared.event.Stage.{Stage}
use Rattle.wdf_base.specs.declared.event.Stage.TheVariants as stage
use Rattle.wdf_base.specs.declared.event.Step.{Step}
use Rattle.wdf_base.specs.declared.event.Step.TheVariants as step
use Rattle.wdf_base.specs.Same.{same_callback}
use Rattle.wdf_model.specs.declared.enums.Phase.{Phase}
use Rattle.wdf_model.specs.declared.enums.Phase.TheVariants.{Sleeping}
use Rattle.wdf_model.specs.Tables.{flag}
use Rattle.wdf_model.specs.parts.Pnp.{DeviceSteps, InterruptSteps, Sequence, end_steps, interrupt_steps, left_after, left_after_failure, steps_for}
use Rattle.wdf_model.proofs.Counts.{count_cons}
use Rattle.wdf_model.proofs.Tests.{both_left, both_right, not_true}
use Rattle.law_trace_power.specs.Steps.{is_for}
use Rattle.law_trace_power.proofs.Begun.{asked}
use Rattle.law_trace_power.proofs.Lists.{Suits}
use Rattle.law_trace_power.proofs.Standings.{Standing, Watch, could_fail, begins, may_begin, may_take, next, rests_in, safe}
use Rattle.wdf_base.specs.Values.{is_success}

abbrev pub quiet_by : Stage → Bool → Bool
quiet_by stage.Quiet rest = true
quiet_by _ rest = rest

abbrev pub exit_by : Callback → Bool → Bool
exit_by callback.EvtDeviceD0Exit rest = false
exit_by _ rest = rest

abbrev pub quiet_from : Step → Bool → Bool
quiet_from (step.Run c j) rest = exit_by c rest
quiet_from (step.Pass s j) rest = quiet_by s rest

-- no EvtDeviceD0Exit comes, or `quiet` comes before it
abbrev pub is_quieted : List Step → Bool
is_quieted [] = true
is_quieted (s ∷ ss) = quiet_from s (is_quieted ss)

-- ---- where the exit comes first, the interrupt is off already, and `quiet` is over

module _ (w : Watch) (watched : w.watched ≡ true) where
  exit_clean : (j : Option Handle) (a : Standing) → may_begin w callback.EvtDeviceD0Exit j a ≡ true → a.clean ≡ true
  exit_clean j a h =
      let t : (not w.watched || a.clean) ≡ true = both_right (not a.up && not a.on) (not w.watched || a.clean) h in
      subst (λ b. (not b || a.clean) ≡ true) watched t

  clean_run : (c : Callback) (j : Option Handle) (a : Standing) (x : Bool) → (may_begin w c j a && could_fail w c (begins w c a)) ≡ true → exit_by c x ≡ false → (x ≡ false → (next w (step.Run c j) a).clean ≡ true) → a.clean ≡ true
  clean_run callback.EvtDeviceD0Exit j a x m h rest = exit_clean j a (both_left (may_begin w callback.EvtDeviceD0Exit j a) true m)
  clean_run _ j a x m h rest = rest h

  clean_pass : (s : Stage) (j : Option Handle) (a : Standing) (x : Bool) → quiet_by s x ≡ false → (x ≡ false → (next w (step.Pass s j) a).clean ≡ true) → a.clean ≡ true
  clean_pass stage.Enabled j a x h rest = both_left a.clean (not (is_for w.interrupt j)) (rest h)
  clean_pass stage.Quiet j a x h rest = absurd (let z : ⊥ = cc in z)
  clean_pass _ j a x h rest = rest h

  clean_step : (s : Step) (a : Standing) (x : Bool) → may_take w s a ≡ true → quiet_from s x ≡ false → (x ≡ false → (next w s a).clean ≡ true) → a.clean ≡ true
  clean_step (step.Run c j) a x m h rest = clean_run c j a x m h rest
  clean_step (step.Pass s j) a x m h rest = clean_pass s j a x h rest

  pub clean_by : (ss : List Step) (a : Standing) → safe w ss a ≡ true → is_quieted ss ≡ false → a.clean ≡ true
  clean_by [] a h q = absurd (let z : ⊥ = cc in z)
  clean_by (s ∷ ss) a h q = clean_step s a (is_quieted ss) (both_left (may_take w s a) (safe w ss (next w s a)) h) q (clean_by ss (next w s a) (both_right (may_take w s a) (safe w ss (next w s a)) h))

  -- where it isn't so, `quiet` comes first
  pub quieted_by : (ss : List Step) (a : Standing) → safe w ss a ≡ true → a.clean ≡ false → is_quieted ss ≡ true
  quieted_by ss a h n = elim (cases_Bool (is_quieted ss)) [
    | inl e ↦ e
    | inr e ↦ absurd (let y : a.clean ≡ true = clean_by ss a h e in let z : ⊥ = cc in z)
  ]

  -- ---- something is asked of the device

  rests_unclean : (q : Phase) (a : Standing) → rests_in q w (record a { clean = false }) ≡ rests_in q w a
  rests_unclean Sleeping a = refl
  rests_unclean _ a = refl

  pub asked_quieted : (p : DeviceSteps) → Suits w p → (ever : Bool) (a : Standing) → (w.entry || a.entered) ≡ true → (x : Ask) → safe w [] a ≡ true → is_quieted (steps_for p ever a.phase x) ≡ true
  asked_quieted p suits ever a plain x h =
      quieted_by (steps_for p ever a.phase x) (record a { clean = false }) (asked w p suits ever (record a { clean = false }) plain x (rests_unclean a.phase a ∙ h)) refl

-- ---- a callback fails

flushed : (a b : Bool) → is_quieted (((if a then step.Run callback.EvtDeviceSelfManagedIoFlush None ∷ [] else []) ++ (if b then step.Run callback.EvtDeviceSelfManagedIoCleanup None ∷ [] else [])) ++ step.Pass stage.Removed None ∷ []) ≡ true
flushed true true = refl
flushed true false = refl
flushed false true = refl
flushed false false = refl

pub ends_quieted : (p : DeviceSteps) (ever : Bool) → is_quieted (end_steps p ever) ≡ true
ends_quieted p false = refl
ends_quieted p true = flushed (list_any (same_callback callback.EvtDeviceSelfManagedIoFlush) p.callbacks) (list_any (same_callback callback.EvtDeviceSelfManagedIoCleanup) p.callbacks)

released : (b : Bool) (ss : List Step) → is_quieted ss ≡ true → is_quieted ((if b then step.Run callback.EvtDeviceReleaseHardware None ∷ [] else []) ++ ss) ≡ true
released true ss h = h
released false ss h = h

failed_quieted : (q : Sequence) (c : Callback) → is_quieted q.left ≡ true → is_quieted (left_after_failure q c) ≡ true
failed_quieted q callback.EvtDeviceQueryStop h = refl
failed_quieted q callback.EvtDeviceQueryRemove h = refl
failed_quieted q callback.EvtDevicePrepareHardware h = ends_quieted q.steps q.ever_working
failed_quieted q callback.EvtDeviceD0Entry h = released (list_any (same_callback callback.EvtDeviceReleaseHardware) q.steps.callbacks) (end_steps q.steps q.ever_working) (ends_quieted q.steps q.ever_working)
failed_quieted q _ h = h

pub ended_quieted : (q : Sequence) (s : Step) (v : Value) → is_quieted q.left ≡ true → is_quieted (left_after q s v) ≡ true
ended_quieted q (step.Pass s j) v h = h
ended_quieted q (step.Run c j) v h = by (is_success v)
  where
    by : (b : Bool) → is_quieted (if b then q.left else left_after_failure q c) ≡ true
    by true = h
    by false = failed_quieted q c h

-- ---- steps that are taken

pub run_quieted : (c : Callback) (x : Bool) → exit_by c x ≡ true → x ≡ true
run_quieted callback.EvtDeviceD0Exit x h = absurd (let z : ⊥ = cc in z)
run_quieted _ x h = h

-- ---- the interrupts of a device

pub not_any : (p : ℕ → Bool) (plan : Plan) (i : ℕ) (xs : List ℕ) → list_all (λ x. not (p x)) xs ≡ true → 1 ≤ count_by (λ (x : InterruptSteps). x.interrupt.id.0 == i) (map (interrupt_steps plan) xs) → p i ≡ false
not_any p plan i [] h n = absurd (omega arith)
not_any p plan i (x ∷ xs) h n = elim (cases_Bool (x == i)) [
  | inl e ↦ subst (λ y. p y ≡ false) (eqb-true x i e) (not_true (p x) (both_left (not (p x)) (list_all (λ y. not (p y)) xs) h))
  | inr e ↦
      let c = count_cons (λ (y : InterruptSteps). y.interrupt.id.0 == i) (interrupt_steps plan x) (map (interrupt_steps plan) xs) in
      let none : flag (x == i) ≡ 0 = ap flag e in
      not_any p plan i xs (both_right (not (p x)) (list_all (λ y. not (p y)) xs) h) (omega arith)
]
