-- What comes soon after the interrupts of a device are disabled: the stage `quiet`.
use Rattle.std.proofs.Common.{if◌then◌else◌, ◌≡◌, Bool, true, false, List, [], ◌∷◌, ◌++◌, reverse, Option, Some, None, refl, sym, subst, append-nil}
use Rattle.std.specs.Prelude.{⊤}
use Rattle.std.specs.List.{flat_map, list_any}
use Rattle.std.proofs.lemmas.List.{append_assoc}
use Rattle.wdf_base.specs.declared.ids.Handle.{Handle}
use Rattle.wdf_base.specs.declared.value.Value.{Value}
use Rattle.wdf_base.specs.declared.call.Callback.{Callback}
use Rattle.wdf_base.specs.declared.call.Callback.TheVariants as callback
use Rattle.wdf_base.specs.declared.event.Ask.{Ask}
use Rattle.wdf_base.specs.declared.event.Ask.TheVariants as asks
use Rattle.wdf_base.specs.declared.event.Stage.{Stage}
use Rattle.wdf_base.specs.declared.event.Stage.TheVariants as stage
use Rattle.wdf_base.specs.declared.event.Step.{Step}
use Rattle.wdf_base.specs.declared.event.Step.TheVariants as step
use Rattle.wdf_base.specs.Same.{same_callback}
use Rattle.wdf_model.specs.declared.enums.Phase.{Phase}
use Rattle.wdf_model.specs.declared.enums.Phase.TheVariants.{Off, Working, Sleeping, Removed}
use Rattle.wdf_model.specs.parts.Pnp.{DeviceSteps, InterruptSteps, Sequence, disable_steps, down_steps, enable_steps, end_steps, flush_steps, hard_steps, left_after, left_after_failure, pass, passed, quiet_steps, run, run_if, self_managed_start, steps_for, tail_steps, taken_step, up_steps}
use Rattle.wdf_base.specs.Values.{is_success}

-- ---- the property

abbrev soon_by : Stage → Bool → Bool
soon_by stage.Quiet rest = true
soon_by stage.Disabled rest = rest
soon_by _ rest = false

abbrev soon_from : Step → Bool → Bool
soon_from (step.Run c i) rest = rest
soon_from (step.Pass s i) rest = soon_by s rest

-- `quiet` comes before any other stage but `disabled`
abbrev pub comes_soon : List Step → Bool
comes_soon [] = false
comes_soon (s ∷ ss) = soon_from s (comes_soon ss)

-- a callback that changes the steps left if it fails
abbrev pub may_fail : Callback → Bool
may_fail callback.EvtDeviceQueryStop = true
may_fail callback.EvtDeviceQueryRemove = true
may_fail callback.EvtDevicePrepareHardware = true
may_fail callback.EvtDeviceD0Entry = true
may_fail _ = false

abbrev pub Unquiet : Bool → List Step → Type 0
Unquiet true ss = comes_soon ss ≡ false
Unquiet false ss = ⊤

abbrev at_stage : Stage → List Step → Type 0
at_stage stage.Disabled ss = comes_soon ss ≡ true
at_stage _ ss = ⊤

abbrev at_step : Step → List Step → Type 0
at_step (step.Run c i) ss = Unquiet (may_fail c) ss
at_step (step.Pass s i) ss = at_stage s ss

-- after `disabled` `quiet` comes soon, and after a callback that may fail it doesn't
abbrev pub Steady : List Step → Type 0
Steady [] = ⊤
Steady (s ∷ ss) = at_step s ss × Steady ss

-- ---- parts of lists

-- steps that are so, and of which this is said
record Keeps (R : Bool → Type 0) (ss : List Step) : Type 0 where
  steady : Steady ss
  soon : R (comes_soon ss)

-- before steps of which R is said, these make steps of which T is
record Turns (xs : List Step) (R T : Bool → Type 0) : Type 0 where
  by : (ys : List Step) → Keeps R ys → Keeps T (xs ++ ys)

abbrev Never : Bool → Type 0
Never b = b ≡ false

abbrev Soon : Bool → Type 0
Soon b = b ≡ true

abbrev Any : Bool → Type 0
Any b = ⊤

join : (xs zs : List Step) {P R T : Bool → Type 0} → Turns xs R T → Turns zs P R → Turns (xs ++ zs) P T
join xs zs {P} {R} {T} f g = record { by = λ ys h. subst (Keeps T) (sym (append_assoc xs zs ys)) (f.by (zs ++ ys) (g.by ys h)) }

calls_by : (b : Bool) (c : Callback) (i : Option Handle) {R : Bool → Type 0} → may_fail c ≡ false → Turns (if b then step.Run c i ∷ [] else []) R R
calls_by true c i h = record { by = λ ys k. record { steady = (never (may_fail c) h ys, k.steady); soon = k.soon } }
  where
    never : (b : Bool) → b ≡ false → (ys : List Step) → Unquiet b ys
    never false e ys = tt
    never true e ys = absurd (let z : ⊥ = cc in z)
calls_by false c i h = record { by = λ ys k. k }

calls : (p : DeviceSteps) (c : Callback) {R : Bool → Type 0} → may_fail c ≡ false → Turns (run p c) R R
calls p c h = calls_by (list_any (same_callback c) p.callbacks) c None h

tries_by : (b : Bool) (c : Callback) → Turns (if b then step.Run c None ∷ [] else []) Never Never
tries_by true c = record { by = λ ys k. record { steady = (loud (may_fail c) ys k.soon, k.steady); soon = k.soon } }
  where
    loud : (b : Bool) (ys : List Step) → comes_soon ys ≡ false → Unquiet b ys
    loud true ys e = e
    loud false ys e = tt
tries_by false c = record { by = λ ys k. k }

-- a callback that may fail
tries : (p : DeviceSteps) (c : Callback) → Turns (run p c) Never Never
tries p c = tries_by (list_any (same_callback c) p.callbacks) c

abbrev is_other : Stage → Bool
is_other stage.Disabled = false
is_other stage.Quiet = false
is_other _ = true

other_at : (s : Stage) (ys : List Step) → is_other s ≡ true → (at_stage s ys) × (soon_by s (comes_soon ys) ≡ false)
other_at stage.Disabled ys h = absurd (let z : ⊥ = cc in z)
other_at stage.Quiet ys h = absurd (let z : ⊥ = cc in z)
other_at _ ys h = (tt, refl)

-- another stage
stops : (s : Stage) (i : Option Handle) {R : Bool → Type 0} → is_other s ≡ true → Turns (step.Pass s i ∷ []) R Never
stops s i h = record { by = λ ys k. let o = other_at s ys h in record { steady = (o.0, k.steady); soon = o.1 } }

enables : (is : List InterruptSteps) → Turns (flat_map enable_steps is) Never Never
enables [] = record { by = λ ys k. k }
enables (i ∷ is) =
    join (enable_steps i) (flat_map enable_steps is)
    (join (run_if i.enables callback.EvtInterruptEnable i.interrupt) (step.Pass stage.Enabled (Some i.interrupt) ∷ []) (calls_if i.enables callback.EvtInterruptEnable i.interrupt refl) (stops stage.Enabled (Some i.interrupt) refl))
    (enables is)
  where
    calls_if : (b : Bool) (c : Callback) (h : Handle) {R : Bool → Type 0} → may_fail c ≡ false → Turns (run_if b c h) R R
    calls_if true c h {R} e = calls_by true c (Some h) e
    calls_if false c h {R} e = record { by = λ ys k. k }

disables : (is : List InterruptSteps) → Turns (flat_map disable_steps is) Soon Soon
disables [] = record { by = λ ys k. k }
disables (i ∷ is) = join (disable_steps i) (flat_map disable_steps is) (one i) (disables is)
  where
    call_if : (b : Bool) (c : Callback) (h : Handle) → may_fail c ≡ false → Turns (run_if b c h) Soon Soon
    call_if true c h e = calls_by true c (Some h) e
    call_if false c h e = record { by = λ ys k. k }

    after_it : (h : Handle) → Turns (step.Pass stage.Disabled (Some h) ∷ []) Soon Soon
    after_it h = record { by = λ ys k. record { steady = (k.soon, k.steady); soon = k.soon } }

    one : (x : InterruptSteps) → Turns (disable_steps x) Soon Soon
    one x = join (step.Pass stage.Disabled (Some x.interrupt) ∷ []) (run_if x.disables callback.EvtInterruptDisable x.interrupt) (after_it x.interrupt) (call_if x.disables callback.EvtInterruptDisable x.interrupt refl)

quiets : (i : InterruptSteps) (is : List InterruptSteps) {R : Bool → Type 0} → Turns (quiet_steps (i ∷ is)) R Soon
quiets i is = record { by = λ ys k. record { steady = (tt, k.steady); soon = refl } }

weaker : (xs : List Step) {R T : Bool → Type 0} → Turns xs R T → Turns xs R Any
weaker xs t = record { by = λ ys k. let u = t.by ys k in record { steady = u.steady; soon = tt } }

-- the interrupts of a device are disabled, and it becomes quiet
down_part : (is js : List InterruptSteps) {R : Bool → Type 0} → (is ≡ [] → js ≡ []) → Turns (flat_map disable_steps js) Soon Soon → Turns (flat_map disable_steps js ++ quiet_steps is) R Any
down_part [] js {R} none t = nothing js (none refl)
  where
    nothing : (js : List InterruptSteps) → js ≡ [] → Turns (flat_map disable_steps js ++ quiet_steps []) R Any
    nothing [] e = record { by = λ ys k. record { steady = k.steady; soon = tt } }
    nothing (j ∷ js) e = absurd (let z : ⊥ = cc in z)
down_part (i ∷ is) js none t = weaker (flat_map disable_steps js ++ quiet_steps (i ∷ is)) (join (flat_map disable_steps js) (quiet_steps (i ∷ is)) t (quiets i is))

-- ---- the lists

module _ (p : DeviceSteps) where
  managed : (ever : Bool) → may_fail (self_managed_start ever) ≡ false
  managed true = refl
  managed false = refl

  ups : (ever : Bool) {R : Bool → Type 0} → Turns (up_steps p ever) R Never
  ups ever {R} =
      join _ (pass stage.Working) (join _ (run p (self_managed_start ever)) (join _ (pass stage.QueuesUp) (join _ (run p callback.EvtDeviceD0EntryPostInterruptsEnabled) (join (run p callback.EvtDeviceD0Entry) (flat_map enable_steps p.interrupts)
      (tries p callback.EvtDeviceD0Entry) (enables p.interrupts)) (calls p callback.EvtDeviceD0EntryPostInterruptsEnabled refl))
      (stops stage.QueuesUp None {R = Never} refl)) (calls p (self_managed_start ever) (managed ever))) (stops stage.Working None {R = R} refl)

  reversed : (is : List InterruptSteps) → is ≡ [] → reverse is ≡ []
  reversed [] e = refl
  reversed (i ∷ is) e = absurd (let z : ⊥ = cc in z)

  downs : {R : Bool → Type 0} → Turns (down_steps p) R Never
  downs {R} = record {
    by = λ ys k. subst (Keeps Never) (sym (parts ys)) ((join (run p callback.EvtDeviceSelfManagedIoSuspend) _ (calls p callback.EvtDeviceSelfManagedIoSuspend refl)
        (join (pass stage.QueuesDown) _ (stops stage.QueuesDown None refl)
        (join (pass stage.Settled) _ (stops stage.Settled None {R = Any} refl)
        (join (run p callback.EvtDeviceD0ExitPreInterruptsDisabled) _ (calls p callback.EvtDeviceD0ExitPreInterruptsDisabled refl)
        (join (flat_map disable_steps (reverse p.interrupts) ++ quiet_steps p.interrupts) (run p callback.EvtDeviceD0Exit)
        (down_part p.interrupts (reverse p.interrupts) {R = R} (reversed p.interrupts) (disables (reverse p.interrupts)))
        (calls p callback.EvtDeviceD0Exit refl)))))).by ys k);
  }
    where
      a : List Step
      a = run p callback.EvtDeviceSelfManagedIoSuspend

      b : List Step
      b = run p callback.EvtDeviceD0ExitPreInterruptsDisabled

      parts : (ys : List Step) → down_steps p ++ ys ≡ (a ++ (pass stage.QueuesDown ++ (pass stage.Settled ++ (b ++ ((flat_map disable_steps (reverse p.interrupts) ++ quiet_steps p.interrupts) ++ run p callback.EvtDeviceD0Exit))))) ++ ys
      parts ys = simp append_assoc refl

  hards : Turns (hard_steps p) Never Never
  hards = join (pass stage.Hardware) (run p callback.EvtDevicePrepareHardware) (stops stage.Hardware None refl) (tries p callback.EvtDevicePrepareHardware)

  flushes : (ever : Bool) → Turns (flush_steps p ever) Never Never
  flushes false = record { by = λ ys k. k }
  flushes true = join (run p callback.EvtDeviceSelfManagedIoFlush) (run p callback.EvtDeviceSelfManagedIoCleanup) (calls p callback.EvtDeviceSelfManagedIoFlush refl) (calls p callback.EvtDeviceSelfManagedIoCleanup refl)

  ends : (ever : Bool) → Turns (end_steps p ever) Never Never
  ends ever =
      join _ (pass stage.Removed) (join _ (flush_steps p ever) (join (pass stage.NoHardware) (pass stage.Closed) (stops stage.NoHardware None {R = Never} refl) (stops stage.Closed None {R = Never} refl)) (flushes ever)) (stops stage.Removed None refl)

  tails : (ever : Bool) → Turns (tail_steps p ever) Never Never
  tails ever = join (run p callback.EvtDeviceReleaseHardware) (end_steps p ever) (calls p callback.EvtDeviceReleaseHardware refl) (ends ever)

  asked_working : (ever : Bool) (a : Ask) → Turns (steps_for p ever Working a) Never Never
  asked_working ever asks.Sleep = join (down_steps p) (pass stage.Sleeping) (downs {R = Never}) (stops stage.Sleeping None refl)
  asked_working ever asks.Rebalance =
      join _ (up_steps p ever) (join _ (hard_steps p) (join _ (pass stage.NoHardware) (join _ (run p callback.EvtDeviceReleaseHardware) (join (run p callback.EvtDeviceQueryStop) (down_steps p)
      (tries p callback.EvtDeviceQueryStop) (downs {R = Never})) (calls p callback.EvtDeviceReleaseHardware refl)) (stops stage.NoHardware None refl)) hards) (ups ever)
  asked_working ever asks.Remove = join _ (tail_steps p ever) (join (run p callback.EvtDeviceQueryRemove) (down_steps p) (tries p callback.EvtDeviceQueryRemove) (downs {R = Never})) (tails ever)
  asked_working ever asks.Surprise = join _ (tail_steps p ever) (join (run p callback.EvtDeviceSurpriseRemoval) (down_steps p) (calls p callback.EvtDeviceSurpriseRemoval refl) (downs {R = Never})) (tails ever)
  asked_working ever _ = record { by = λ ys k. k }

  asked : (ever : Bool) (f : Phase) (a : Ask) → Turns (steps_for p ever f a) Never Never
  asked ever Off asks.Start = join (hard_steps p) (up_steps p ever) hards (ups ever)
  asked ever Off asks.Remove = join (pass stage.Closed) (pass stage.Removed) (stops stage.Closed None {R = Never} refl) (stops stage.Removed None refl)
  asked ever Off asks.Surprise = join (pass stage.Closed) (pass stage.Removed) (stops stage.Closed None {R = Never} refl) (stops stage.Removed None refl)
  asked ever Off _ = record { by = λ ys k. k }
  asked ever Working a = asked_working ever a
  asked ever Sleeping asks.Wake = ups ever
  asked ever Sleeping asks.Remove = join (run p callback.EvtDeviceQueryRemove) (tail_steps p ever) (tries p callback.EvtDeviceQueryRemove) (tails ever)
  asked ever Sleeping asks.Surprise = join (run p callback.EvtDeviceSurpriseRemoval) (tail_steps p ever) (calls p callback.EvtDeviceSurpriseRemoval refl) (tails ever)
  asked ever Sleeping _ = record { by = λ ys k. k }
  asked ever Removed a = record { by = λ ys k. k }

-- what comes at the end of a list
whole : (xs : List Step) → Turns xs Never Never → (Steady xs) × (comes_soon xs ≡ false)
whole xs t =
    let k : Keeps Never (xs ++ []) = t.by [] (record { steady = tt; soon = refl }) in
    let all : xs ++ [] ≡ xs = append-nil xs in
    (subst Steady all k.steady, subst (λ ss. comes_soon ss ≡ false) all k.soon)

-- ---- of a device's sequence

abbrev pub at_running : Option Step → List Step → Type 0
at_running (Some (step.Run c i)) ss = Unquiet (may_fail c) ss
at_running _ ss = ⊤

pub record IsSteady (q : Sequence) : Type 0 where
  pub left : Steady q.left
  pub running : at_running q.running q.left

pub steady_asked : (q : Sequence) (a : Ask) → q.running ≡ None → IsSteady (record q { left = steps_for q.steps q.ever_working q.phase a })
steady_asked q a idle =
    let w = whole (steps_for q.steps q.ever_working q.phase a) (asked q.steps q.ever_working q.phase a) in
    record { left = w.0; running = subst (λ r. at_running r (steps_for q.steps q.ever_working q.phase a)) (sym idle) tt }

passed_same : (s : Stage) (q : Sequence) → IsSteady q → IsSteady (passed s q)
passed_same stage.Working q k = record { left = k.left; running = k.running }
passed_same stage.Sleeping q k = record { left = k.left; running = k.running }
passed_same stage.Removed q k = record { left = k.left; running = k.running }
passed_same _ q k = k

steady_stepped : (q : Sequence) (ss : List Step) → q.left ≡ ss → q.running ≡ None → Steady ss → IsSteady (taken_step q)
steady_stepped q [] e idle h = rw e (record { left = tt; running = subst (λ r. at_running r []) (sym idle) tt })
steady_stepped q (step.Run c i ∷ ss) e idle h = rw e (record { left = h.1; running = h.0 })
steady_stepped q (step.Pass s i ∷ ss) e idle h = rw e (passed_same s (record q { left = ss }) (record { left = h.1; running = subst (λ r. at_running r ss) (sym idle) tt }))

pub steady_taken : (q : Sequence) → q.running ≡ None → IsSteady q → IsSteady (taken_step q)
steady_taken q idle k = steady_stepped q q.left refl idle k.left

failed_by : (q : Sequence) (c : Callback) → Steady q.left → Steady (left_after_failure q c)
failed_by q callback.EvtDeviceQueryStop k = tt
failed_by q callback.EvtDeviceQueryRemove k = tt
failed_by q callback.EvtDevicePrepareHardware k = (whole (end_steps q.steps q.ever_working) (ends q.steps q.ever_working)).0
failed_by q callback.EvtDeviceD0Entry k = (whole (tail_steps q.steps q.ever_working) (tails q.steps q.ever_working)).0
failed_by q _ k = k

ended_by : (q : Sequence) (c : Callback) (b : Bool) → Steady q.left → Steady (if b then q.left else left_after_failure q c)
ended_by q c true k = k
ended_by q c false k = failed_by q c k

pub steady_ended : (q : Sequence) (s : Step) (v : Value) → IsSteady q → IsSteady (record q { left = left_after q s v; running = None })
steady_ended q (step.Pass s i) v k = record { left = k.left; running = tt }
steady_ended q (step.Run c i) v k = record { left = ended_by q c (is_success v) k.left; running = tt }

-- where `quiet` comes soon, a callback of a step that ends leaves the steps as they are
still_by : (q : Sequence) (c : Callback) → Unquiet (may_fail c) q.left → comes_soon q.left ≡ true → left_after_failure q c ≡ q.left
still_by q callback.EvtDeviceQueryStop u h = absurd (let z : ⊥ = cc in z)
still_by q callback.EvtDeviceQueryRemove u h = absurd (let z : ⊥ = cc in z)
still_by q callback.EvtDevicePrepareHardware u h = absurd (let z : ⊥ = cc in z)
still_by q callback.EvtDeviceD0Entry u h = absurd (let z : ⊥ = cc in z)
still_by q _ u h = refl

pub soon_ended : (q : Sequence) (c : Callback) (j : Option Handle) (v : Value) → Unquiet (may_fail c) q.left → comes_soon q.left ≡ true → comes_soon (left_after q (step.Run c j) v) ≡ true
soon_ended q c j v u h = by (is_success v)
  where
    by : (b : Bool) → comes_soon (if b then q.left else left_after_failure q c) ≡ true
    by true = h
    by false = subst (λ ss. comes_soon ss ≡ true) (sym (still_by q c u h)) h
