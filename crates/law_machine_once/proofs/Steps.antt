-- The steps that a device has left are its own: of callbacks that it, or an interrupt of it, declares.
use Rattle.std.proofs.Common.{if◌then◌else◌, ◌≡◌, ℕ, zero, suc, ◌+◌, length, Bool, true, false, arith, List, [], ◌∷◌, ◌++◌, inl, inr, Option, Some, None, is_some, map, drop, reverse, take, refl, sym, ap, subst, ◌∙◌}
use Rattle.std.specs.Prelude.{⊤}
use Rattle.std.proofs.lemmas.List.{reverse-append}
use Rattle.std.specs.List.{flat_map, list_any, range_with_len}
use Rattle.wdf_base.specs.Meaning.{Meaning}
use Rattle.wdf_base.specs.declared.plan.Plan.{Plan}
use Rattle.wdf_base.specs.declared.event.Event.{Event}
use Rattle.wdf_base.specs.declared.event.Ask.{Ask}
use Rattle.wdf_base.specs.declared.event.Ask.TheVariants as asks
use Rattle.wdf_base.specs.declared.event.Stage.{Stage}
use Rattle.wdf_base.specs.declared.event.Stage.TheVariants as stage
use Rattle.wdf_base.specs.declared.event.Step.{Step}
use Rattle.wdf_base.specs.declared.event.Step.TheVariants as step
use Rattle.wdf_base.specs.declared.call.Callback.{Callback}
use Rattle.wdf_base.specs.declared.call.Callback.TheVariants as callback
use Rattle.wdf_base.specs.declared.rank.Rank.TheVariants as rank
use Rattle.wdf_base.specs.declared.value.Value.{Value}
use Rattle.wdf_base.specs.declared.declared.DeviceInfo.{DeviceInfo}
use Rattle.wdf_base.specs.Callbacks.{row_of}
use Rattle.wdf_base.specs.Same.{same_callback}
use Rattle.wdf_model.specs.declared.enums.Mode.TheVariants as mode
use Rattle.wdf_model.specs.declared.enums.Phase.{Phase}
use Rattle.wdf_model.specs.declared.enums.Phase.TheVariants.{Off, Working, Sleeping, Removed}
use Rattle.wdf_model.specs.Tables.{entry, first_of_list}
use Rattle.wdf_model.specs.Plans.{declared_ids, declares, device_of, interrupt_of, interrupts_of, is_interrupt_of, managed_queues, queues_of}
use Rattle.wdf_model.specs.parts.Tree.{subtree}
use Rattle.wdf_model.specs.parts.Queues.{waiting_in}
use Rattle.wdf_model.specs.parts.Requests as requests
use Rattle.wdf_model.specs.parts.Control as control
use Rattle.wdf_model.specs.parts.Pnp.{DeviceSteps, InterruptSteps, Pnp, Sequence, DEVICE_CALLBACKS, device_steps, disable_steps, down_steps, enable_steps, end_steps, flush_steps, hard_steps, interrupt_name, interrupt_steps, left_after, left_after_failure, next_step, no_sequence, opening_sequence, pass, passed, quiet_steps, run, run_if, self_managed_start, sequence_of, steps_for, steps_off, steps_sleeping, steps_working, tail_steps, taken_step, up_steps, with_sequence, with_step}
use Rattle.wdf_model.specs.parts.Pnp as pnp
use Rattle.wdf_model.specs.State.{State}
use Rattle.wdf_model.specs.declared.deed.Deed.{Deed}
use Rattle.wdf_model.specs.declared.deed.Deed.TheVariants.{Arrive, AskDeletion, Requeue, Forward, GiveBack, SendRequest, CompleteRequest, PurgeQueue, CloseReturning, CloseDevice, AskDevice, TakeStep, EndStep}
use Rattle.wdf_model.specs.rules.Deeds.{do_deed, give_up}
use Rattle.wdf_model.specs.rules.Ready.{IsRunOf, state_after}
use Rattle.wdf_model.proofs.Counts.{one_or_two}
use Rattle.wdf_model.proofs.Maps.{entry_put_other, entry_put_same}
use Rattle.law_machine_lives.proofs.Lists.{Each, each_behind, each_kept}
use Rattle.law_machine_lives.proofs.SoundRuns.{sound_place}
use Rattle.law_machine_lives.proofs.Stays.{gives_up, gives_up_if, withdraws, returns_closed, queues_closed, asks_all}
use Rattle.std.proofs.lemmas.Bool.{or_cases}
use Rattle.wdf_model.proofs.Sames.{callback_decides}
use Rattle.wdf_base.specs.Stages.{is_for_interrupt}
use Rattle.law_machine_once.specs.Owned.{IsStepOf, StepsOwned}
use Rattle.law_machine_once.proofs.OnceEach.{each_of_all, each_image}
use Rattle.law_machine_counts.proofs.Arrived.{arrived_pnp}
use Rattle.wdf_base.specs.Values.{is_success}

-- ---- what the lists of steps are made of

-- a step of this device, whose callback is declared: what `IsStepOf` says, and more
abbrev pub IsDeclaredStep : Plan → ℕ → Step → Type 0
IsDeclaredStep plan d (step.Run c None) = (declares plan c d ≡ true) × ((row_of c).rank ≡ rank.Sequence) × (is_some (device_of plan d) ≡ true)
IsDeclaredStep plan d (step.Run c (Some i)) = (declares plan c i.id.0 ≡ true) × ((row_of c).rank ≡ rank.Sequence) × (is_interrupt_of d (interrupt_of plan i.id.0) ≡ true) × (i.name ≡ interrupt_name (interrupt_of plan i.id.0))
IsDeclaredStep plan d (step.Pass s None) = is_for_interrupt s ≡ false
IsDeclaredStep plan d (step.Pass s (Some i)) = (is_for_interrupt s ≡ true) × (i.name ≡ interrupt_name (interrupt_of plan i.id.0)) × (is_interrupt_of d (interrupt_of plan i.id.0) ≡ true)

-- a callback that the device declares: there is the device
abbrev IsCallbackOf : Plan → ℕ → Callback → Type 0
IsCallbackOf plan d c = (declares plan c d ≡ true) × (is_some (device_of plan d) ≡ true)

abbrev IsInterruptOf : Plan → ℕ → InterruptSteps → Type 0
IsInterruptOf plan d i =
    (is_interrupt_of d (interrupt_of plan i.interrupt.id.0) ≡ true) × (i.interrupt.name ≡ interrupt_name (interrupt_of plan i.interrupt.id.0))
    × (i.enables ≡ true → declares plan callback.EvtInterruptEnable i.interrupt.id.0 ≡ true) × (i.disables ≡ true → declares plan callback.EvtInterruptDisable i.interrupt.id.0 ≡ true)

record Parts (plan : Plan) (d : ℕ) (p : DeviceSteps) : Type 0 where
  callbacks : Each (IsCallbackOf plan d) p.callbacks
  interrupts : Each (IsInterruptOf plan d) p.interrupts

abbrev Own : Plan → ℕ → List Step → Type 0
Own plan d ss = Each (IsDeclaredStep plan d) ss

some_callback : (plan : Plan) (d : ℕ) (c : Callback) (cs : List Callback) → Each (IsCallbackOf plan d) cs → list_any (same_callback c) cs ≡ true → IsCallbackOf plan d c
some_callback plan d c [] e h = absurd (let z : ⊥ = cc in z)
some_callback plan d c (x ∷ xs) e h = elim (or_cases (same_callback c x) (list_any (same_callback c) xs) h) as (λ _. IsCallbackOf plan d c) [
  | inl same ↦ subst (IsCallbackOf plan d) (sym ((callback_decides c x).0 same)) e.0
  | inr more ↦ some_callback plan d c xs e.1 more
]

run_by : (plan : Plan) (d : ℕ) (c : Callback) (b : Bool) → (row_of c).rank ≡ rank.Sequence → (b ≡ true → IsCallbackOf plan d c) → Own plan d (if b then step.Run c None ∷ [] else [])
run_by plan d c true r h = let k = h refl in ((k.0, r, k.1), tt)
run_by plan d c false r h = tt

runs : (plan : Plan) (d : ℕ) (p : DeviceSteps) → Parts plan d p → (c : Callback) → (row_of c).rank ≡ rank.Sequence → Own plan d (run p c)
runs plan d p h c r = run_by plan d c (list_any (same_callback c) p.callbacks) r (some_callback plan d c p.callbacks h.callbacks)

passes : (plan : Plan) (d : ℕ) (s : Stage) → is_for_interrupt s ≡ false → Own plan d (pass s)
passes plan d s h = (h, tt)

join : (plan : Plan) (d : ℕ) (xs ys : List Step) → Own plan d xs → Own plan d ys → Own plan d (xs ++ ys)
join plan d xs ys h k = each_behind (IsDeclaredStep plan d) xs ys h k

for_interrupt : (plan : Plan) (d : ℕ) (b : Bool) (c : Callback) (i : InterruptSteps) → (row_of c).rank ≡ rank.Sequence → (b ≡ true → declares plan c i.interrupt.id.0 ≡ true) → IsInterruptOf plan d i → Own plan d (run_if b c i.interrupt)
for_interrupt plan d true c i r has h = ((has refl, r, h.0, h.1), tt)
for_interrupt plan d false c i r has h = tt

enables : (plan : Plan) (d : ℕ) (is : List InterruptSteps) → Each (IsInterruptOf plan d) is → Own plan d (flat_map enable_steps is)
enables plan d [] h = tt
enables plan d (i ∷ is) h =
    join plan d (enable_steps i) (flat_map enable_steps is)
    (join plan d (run_if i.enables callback.EvtInterruptEnable i.interrupt) (step.Pass stage.Enabled (Some i.interrupt) ∷ []) (for_interrupt plan d i.enables callback.EvtInterruptEnable i refl h.0.2 h.0) ((refl, h.0.1, h.0.0), tt))
    (enables plan d is h.1)

disables : (plan : Plan) (d : ℕ) (is : List InterruptSteps) → Each (IsInterruptOf plan d) is → Own plan d (flat_map disable_steps is)
disables plan d [] h = tt
disables plan d (i ∷ is) h =
    join plan d (disable_steps i) (flat_map disable_steps is) ((refl, h.0.1, h.0.0), for_interrupt plan d i.disables callback.EvtInterruptDisable i refl h.0.3 h.0) (disables plan d is h.1)

quiets : (plan : Plan) (d : ℕ) (is : List InterruptSteps) → Own plan d (quiet_steps is)
quiets plan d [] = tt
quiets plan d (i ∷ is) = (refl, tt)

turned : (plan : Plan) (d : ℕ) (is : List InterruptSteps) → Each (IsInterruptOf plan d) is → Each (IsInterruptOf plan d) (reverse is)
turned plan d [] h = tt
turned plan d (i ∷ is) h =
    subst (Each (IsInterruptOf plan d)) (sym (reverse-append (i ∷ []) is)) (each_behind (IsInterruptOf plan d) (reverse is) (i ∷ []) (turned plan d is h.1) (h.0, tt))

-- ---- the lists

managed_rank : (ever : Bool) → (row_of (self_managed_start ever)).rank ≡ rank.Sequence
managed_rank true = refl
managed_rank false = refl

module _ (plan : Plan) (d : ℕ) (p : DeviceSteps) (h : Parts plan d p) where
  ups : (ever : Bool) → Own plan d (up_steps p ever)
  ups ever =
      join plan d _ _ (join plan d _ _ (join plan d _ _ (join plan d _ _ (join plan d _ _
      (runs plan d p h callback.EvtDeviceD0Entry refl) (enables plan d p.interrupts h.interrupts))
      (runs plan d p h callback.EvtDeviceD0EntryPostInterruptsEnabled refl)) (passes plan d stage.QueuesUp refl))
      (runs plan d p h (self_managed_start ever) (managed_rank ever))) (passes plan d stage.Working refl)

  downs : Own plan d (down_steps p)
  downs =
      join plan d _ _ (join plan d _ _ (join plan d _ _ (join plan d _ _ (join plan d _ _ (join plan d _ _
      (runs plan d p h callback.EvtDeviceSelfManagedIoSuspend refl) (passes plan d stage.QueuesDown refl)) (passes plan d stage.Settled refl))
      (runs plan d p h callback.EvtDeviceD0ExitPreInterruptsDisabled refl)) (disables plan d (reverse p.interrupts) (turned plan d p.interrupts h.interrupts)))
      (quiets plan d p.interrupts)) (runs plan d p h callback.EvtDeviceD0Exit refl)

  hards : Own plan d (hard_steps p)
  hards = (refl, runs plan d p h callback.EvtDevicePrepareHardware refl)

  flushes : (ever : Bool) → Own plan d (flush_steps p ever)
  flushes false = tt
  flushes true = join plan d _ _ (runs plan d p h callback.EvtDeviceSelfManagedIoFlush refl) (runs plan d p h callback.EvtDeviceSelfManagedIoCleanup refl)

  ends : (ever : Bool) → Own plan d (end_steps p ever)
  ends ever = (refl, (refl, join plan d (flush_steps p ever) (pass stage.Removed) (flushes ever) (refl, tt)))

  tails : (ever : Bool) → Own plan d (tail_steps p ever)
  tails ever = join plan d (run p callback.EvtDeviceReleaseHardware) (end_steps p ever) (runs plan d p h callback.EvtDeviceReleaseHardware refl) (ends ever)

  offs : (ever : Bool) (a : Ask) → Own plan d (steps_off p ever a)
  offs ever asks.Start = join plan d (hard_steps p) (up_steps p ever) hards (ups ever)
  offs ever asks.Remove = (refl, (refl, tt))
  offs ever asks.Surprise = (refl, (refl, tt))
  offs ever _ = tt

  works : (ever : Bool) (a : Ask) → Own plan d (steps_working p ever a)
  works ever asks.Sleep = join plan d (down_steps p) (pass stage.Sleeping) downs (refl, tt)
  works ever asks.Rebalance =
      join plan d _ (up_steps p ever) (join plan d _ (hard_steps p) (join plan d _ (pass stage.NoHardware) (join plan d _ (run p callback.EvtDeviceReleaseHardware) (join plan d (run p callback.EvtDeviceQueryStop) (down_steps p)
      (runs plan d p h callback.EvtDeviceQueryStop refl) downs) (runs plan d p h callback.EvtDeviceReleaseHardware refl)) (refl, tt)) hards) (ups ever)
  works ever asks.Remove = join plan d _ (tail_steps p ever) (join plan d (run p callback.EvtDeviceQueryRemove) (down_steps p) (runs plan d p h callback.EvtDeviceQueryRemove refl) downs) (tails ever)
  works ever asks.Surprise = join plan d _ (tail_steps p ever) (join plan d (run p callback.EvtDeviceSurpriseRemoval) (down_steps p) (runs plan d p h callback.EvtDeviceSurpriseRemoval refl) downs) (tails ever)
  works ever _ = tt

  sleeps : (ever : Bool) (a : Ask) → Own plan d (steps_sleeping p ever a)
  sleeps ever asks.Wake = ups ever
  sleeps ever asks.Remove = join plan d (run p callback.EvtDeviceQueryRemove) (tail_steps p ever) (runs plan d p h callback.EvtDeviceQueryRemove refl) (tails ever)
  sleeps ever asks.Surprise = join plan d (run p callback.EvtDeviceSurpriseRemoval) (tail_steps p ever) (runs plan d p h callback.EvtDeviceSurpriseRemoval refl) (tails ever)
  sleeps ever _ = tt

  asked : (ever : Bool) (phase : Phase) (a : Ask) → Own plan d (steps_for p ever phase a)
  asked ever Off a = offs ever a
  asked ever Working a = works ever a
  asked ever Sleeping a = sleeps ever a
  asked ever Removed a = tt

-- ---- the sequence of a device

record OwnSequence (plan : Plan) (d : ℕ) (q : Sequence) : Type 0 where
  parts : Parts plan d q.steps
  left : Own plan d q.left

after_first : (plan : Plan) (d : ℕ) (ss : List Step) → Own plan d ss → Own plan d (drop 1 ss)
after_first plan d [] h = tt
after_first plan d (s ∷ ss) h = h.1

passed_own : (plan : Plan) (d : ℕ) (s : Stage) (q : Sequence) → OwnSequence plan d q → OwnSequence plan d (passed s q)
passed_own plan d stage.Working q h = record { parts = h.parts; left = h.left }
passed_own plan d stage.Sleeping q h = record { parts = h.parts; left = h.left }
passed_own plan d stage.Removed q h = record { parts = h.parts; left = h.left }
passed_own plan d _ q h = h

with_step_own : (plan : Plan) (d : ℕ) (s : Option Step) (q : Sequence) → OwnSequence plan d q → OwnSequence plan d (with_step s q)
with_step_own plan d None q h = h
with_step_own plan d (Some (step.Run c i)) q h = record { parts = h.parts; left = h.left }
with_step_own plan d (Some (step.Pass s i)) q h = passed_own plan d s q h

taken_own : (plan : Plan) (d : ℕ) (q : Sequence) → OwnSequence plan d q → OwnSequence plan d (taken_step q)
taken_own plan d q h = with_step_own plan d (first_of_list q.left) (record q { left = drop 1 q.left }) (record { parts = h.parts; left = after_first plan d q.left h.left })

failed_own : (plan : Plan) (d : ℕ) (q : Sequence) (c : Callback) → OwnSequence plan d q → Own plan d (left_after_failure q c)
failed_own plan d q callback.EvtDeviceQueryStop h = tt
failed_own plan d q callback.EvtDeviceQueryRemove h = tt
failed_own plan d q callback.EvtDevicePrepareHardware h = ends plan d q.steps h.parts q.ever_working
failed_own plan d q callback.EvtDeviceD0Entry h = tails plan d q.steps h.parts q.ever_working
failed_own plan d q _ h = h.left

either_own : (plan : Plan) (d : ℕ) (b : Bool) (xs ys : List Step) → Own plan d xs → Own plan d ys → Own plan d (if b then xs else ys)
either_own plan d true xs ys h k = h
either_own plan d false xs ys h k = k

ended_own : (plan : Plan) (d : ℕ) (q : Sequence) (s : Step) (v : Value) → OwnSequence plan d q → Own plan d (left_after q s v)
ended_own plan d q (step.Pass s i) v h = h.left
ended_own plan d q (step.Run c i) v h = either_own plan d (is_success v) q.left (left_after_failure q c) h.left (failed_own plan d q c h)

-- ---- all devices

record OwnSteps (plan : Plan) (Q : Pnp) : Type 0 where
  each : (d : ℕ) → OwnSequence plan d (sequence_of Q d)

one_changes : (plan : Plan) (Q : Pnp) (d : ℕ) (f : Sequence → Sequence) → (OwnSequence plan d (sequence_of Q d) → OwnSequence plan d (f (sequence_of Q d))) → OwnSteps plan Q → OwnSteps plan (with_sequence Q d f)
one_changes plan Q d f keeps h = record {
  each = λ x. elim (one_or_two x d) [
    | inl e ↦ subst (λ y. OwnSequence plan y (sequence_of (with_sequence Q d f) y)) (sym e)
        (subst (OwnSequence plan d) (sym (entry_put_same no_sequence Q.devices d (f (sequence_of Q d)))) (keeps (h.each d)))
    | inr n ↦ subst (OwnSequence plan x) (sym (entry_put_other no_sequence Q.devices d x (f (sequence_of Q d)) n)) (h.each x)
  ];
}

pnp_of : {A : Type 0} → State A → Pnp
pnp_of S = S.pnp

same_steps : (plan : Plan) (v w : Pnp) → w ≡ v → OwnSteps plan v → OwnSteps plan w
same_steps plan v w e k = subst (OwnSteps plan) (sym e) k

steps_by : {A : Type 0} (plan : Plan) (d : Deed) (S : State A) → OwnSteps plan S.pnp → OwnSteps plan (do_deed plan d S).pnp
steps_by plan (Arrive device info p) S q = same_steps plan _ _ (arrived_pnp S device.0 info p) q
steps_by {A} plan (AskDeletion o) S q = same_steps plan _ _ (asks_all (λ (U : State A). U.pnp) (λ S T D W U. refl) (subtree S.tree o.0) S) q
steps_by {A} plan (Requeue r p) S q = same_steps plan _ _ (gives_up (λ (U : State A). U.pnp) (λ S Q R P. refl) S r.0) q
steps_by {A} plan (Forward r p) S q = same_steps plan _ _ (gives_up (λ (U : State A). U.pnp) (λ S Q R P. refl) S r.0) q
steps_by {A} plan (GiveBack r p) S q = same_steps plan _ _ (gives_up (λ (U : State A). U.pnp) (λ S Q R P. refl) S r.0) q
steps_by {A} plan (SendRequest r t forget) S q = same_steps plan _ _ (gives_up_if (λ (U : State A). U.pnp) (λ S Q R P. refl) S forget r.0) q
steps_by {A} plan (CompleteRequest r) S q =
    same_steps plan _ _ (asks_all (λ (U : State A). U.pnp) (λ S T D W U. refl) (subtree (give_up S r.0).tree r.0) (record (give_up S r.0) { requests = requests.complete S.requests r.0 })
    ∙ gives_up (λ (U : State A). U.pnp) (λ S Q R P. refl) S r.0) q
steps_by {A} plan (PurgeQueue p) S q = same_steps plan _ _ (withdraws (λ (U : State A). U.pnp) (λ S Q R P. refl) plan p.0 (waiting_in S.queues p.0) (record S { control = control.set_mode S.control p.0 mode.Purged })) q
steps_by {A} plan (CloseReturning d) S q = same_steps plan _ _ (returns_closed (λ (U : State A). U.pnp) (λ S Q R P. refl) (managed_queues plan d.0) S) q
steps_by {A} plan (CloseDevice d) S q = same_steps plan _ _ (queues_closed (λ (U : State A). U.pnp) (λ S Q R P. refl) (queues_of plan d.0) (record S { control = control.shut S.control d.0 })) q
steps_by plan (AskDevice d a) S q =
    one_changes plan S.pnp d.0 (λ s. record s { left = steps_for s.steps s.ever_working s.phase a })
    (λ h. record { parts = h.parts; left = asked plan d.0 (sequence_of S.pnp d.0).steps h.parts (sequence_of S.pnp d.0).ever_working (sequence_of S.pnp d.0).phase a }) q
steps_by plan (TakeStep d) S q = one_changes plan S.pnp d.0 taken_step (taken_own plan d.0 (sequence_of S.pnp d.0)) q
steps_by plan (EndStep d s v) S q =
    one_changes plan S.pnp d.0 (λ x. record x { left = left_after x s v; running = None })
    (λ h. record { parts = h.parts; left = ended_own plan d.0 (sequence_of S.pnp d.0) s v h }) q
steps_by plan _ S q = q

-- ---- the opening

in_range : {T : Type 0} (P : ℕ → T → Type 0) (blank : T) (f : ℕ → T) → ((x : ℕ) → P x blank) → ((x : ℕ) → P x (f x)) → (a n k x : ℕ) → x ≡ a + k → P x (entry blank (map f (range_with_len a n)) k)
in_range P blank f off on a zero k x e = off x
in_range P blank f off on a (suc n) zero x e = let same : x ≡ a = omega (arith, e) in subst (λ y. P x (f y)) same (on x)
in_range P blank f off on a (suc n) (suc k) x e = in_range P blank f off on (a + 1) n k x (omega (arith, e))

none_own : (plan : Plan) (d : ℕ) → OwnSequence plan d no_sequence
none_own plan d = record { parts = record { callbacks = tt; interrupts = tt }; left = tt }

parts_own : (plan : Plan) (d : ℕ) → is_some (device_of plan d) ≡ true → Parts plan d (device_steps plan d)
parts_own plan d is = record {
  callbacks = each_kept (λ c. ⊤) (IsCallbackOf plan d) (λ c. declares plan c d) (λ c t e. (e, is)) DEVICE_CALLBACKS (each_of_all (λ c. ⊤) (λ c. tt) DEVICE_CALLBACKS);
  interrupts = each_image (IsInterruptOf plan d) (interrupt_steps plan) (interrupts_of plan d)
      (each_kept (λ i. ⊤) (λ i. IsInterruptOf plan d (interrupt_steps plan i)) (λ i. is_interrupt_of d (interrupt_of plan i)) (λ i t e. (e, refl, (λ x. x), (λ x. x))) (declared_ids plan) (each_of_all (λ i. ⊤) (λ i. tt) (declared_ids plan)));
}

opening_by : (plan : Plan) (d : ℕ) (o : Option DeviceInfo) → device_of plan d ≡ o → OwnSequence plan d (opening_sequence plan d o)
opening_by plan d None e = none_own plan d
opening_by plan d (Some i) e = record { parts = parts_own plan d (ap is_some e); left = tt }

opening_own : (plan : Plan) → OwnSteps plan (pnp.opening_pnp plan)
opening_own plan = record {
  each = λ d. in_range (OwnSequence plan) no_sequence (λ x. opening_sequence plan x (device_of plan x)) (none_own plan) (λ x. opening_by plan x (device_of plan x) refl) 0 (suc (length plan.declared)) d d (omega arith);
}

own_at_each : {A : Type 0} (plan : Plan) (m : Meaning A) (run : List Event) → IsRunOf plan m run → (n : ℕ) → OwnSteps plan (state_after plan m (take n run)).pnp
own_at_each {A} plan m run is_run n = sound_place plan m (λ (S : State A). OwnSteps plan S.pnp) (opening_own plan) (λ d S f s q. steps_by plan d S q) (λ e S q. q) run is_run n

first_own : (plan : Plan) (d : ℕ) (ss : List Step) (s : Step) → Own plan d ss → first_of_list ss ≡ Some s → IsDeclaredStep plan d s
first_own plan d [] s h e = absurd (let z : ⊥ = cc in z)
first_own plan d (x ∷ xs) s h e = let same : x ≡ s = cc in subst (IsDeclaredStep plan d) same h.0

pub steps_declared : {A : Type 0} (plan : Plan) (m : Meaning A) (run : List Event) → IsRunOf plan m run → (n d : ℕ) (s : Step) → next_step (state_after plan m (take n run)).pnp d ≡ Some s → IsDeclaredStep plan d s
steps_declared plan m run is_run n d s e = first_own plan d (sequence_of (state_after plan m (take n run)).pnp d).left s ((own_at_each plan m run is_run n).each d).left e

is_own : (plan : Plan) (d : ℕ) (s : Step) → IsDeclaredStep plan d s → IsStepOf plan d s
is_own plan d (step.Run c None) h = (h.1, h.2)
is_own plan d (step.Run c (Some i)) h = (h.1, h.2)
is_own plan d (step.Pass s None) h = h
is_own plan d (step.Pass s (Some i)) h = (h.0, h.1)

pub steps_owned_at_each : {A : Type 0} (plan : Plan) (m : Meaning A) (run : List Event) → IsRunOf plan m run → (n : ℕ) → StepsOwned plan (state_after plan m (take n run))
steps_owned_at_each plan m run is_run n = record { next = λ d s e. is_own plan d s (steps_declared plan m run is_run n d s e) }
