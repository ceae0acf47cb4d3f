-- While the DPC of an interrupt is queued, the interrupt is enabled, or its device becomes quiet soon: each deed keeps this.
use Rattle.std.proofs.Common.{◌≡◌, ℕ, ◌==◌, Bool, true, false, not, ◌||◌, List, [], ◌∷◌, ◌⊎◌, inl, inr, Option, Some, None, is_some, fold, length, refl, sym, ap, subst, ◌∙◌, arith}
use Rattle.std.specs.Prelude.{⊤}
use Rattle.std.proofs.lemmas.Bool.{eqb-true, or_cases}
use Rattle.wdf_base.specs.declared.plan.Plan.{Plan}
use Rattle.wdf_base.specs.declared.ids.Handle.{Handle}
use Rattle.wdf_base.specs.declared.value.Value.{Value}
use Rattle.wdf_base.specs.declared.declared.InterruptInfo.{InterruptInfo}
use Rattle.wdf_base.specs.declared.call.Callback.{Callback}
use Rattle.wdf_base.specs.declared.event.Ask.{Ask}
use Rattle.wdf_base.specs.declared.event.Stage.{Stage}
use Rattle.wdf_base.specs.declared.event.Stage.TheVariants as stage
use Rattle.wdf_base.specs.declared.event.Step.{Step}
use Rattle.wdf_base.specs.declared.event.Step.TheVariants as step
use Rattle.wdf_base.specs.declared.object.Place.{Place}
use Rattle.wdf_base.specs.declared.object.Place.TheVariants as place
use Rattle.wdf_base.specs.declared.object.RequestInfo.{RequestInfo}
use Rattle.wdf_base.specs.Lives.{is_live}
use Rattle.wdf_model.specs.declared.enums.Mode.TheVariants as mode
use Rattle.wdf_model.specs.Tables.{first_of_list}
use Rattle.wdf_model.specs.Plans.{interrupt_of, is_interrupt_of, managed_queues, queues_of}
use Rattle.wdf_model.specs.parts.Tree.{life_of, subtree}
use Rattle.wdf_model.specs.parts.Requests as requests
use Rattle.wdf_model.specs.parts.Queues.{waiting_in}
use Rattle.wdf_model.specs.parts.Control as control
use Rattle.wdf_model.specs.parts.Deferred.Dpcs.{Dpcs, is_dpc_queued}
use Rattle.wdf_model.specs.parts.Interrupts.{Interrupts, is_enabled}
use Rattle.wdf_model.specs.parts.Interrupts as interrupts
use Rattle.wdf_model.specs.parts.Pnp.{Pnp, Sequence, busy, is_running_step, left_after, next_step, no_sequence, running_step, sequence_of, steps_for, steps_left, taken_step, with_sequence}
use Rattle.wdf_model.specs.State.{State}
use Rattle.wdf_model.specs.Ids.{object_id}
use Rattle.wdf_model.specs.declared.deed.Deed.{Deed}
use Rattle.wdf_model.specs.declared.deed.Deed.TheVariants.{Arrive, AskDeletion, Requeue, Forward, GiveBack, SendRequest, CompleteRequest, PurgeQueue, CloseReturning, CloseDevice, AskDevice, TakeStep, EndStep, EnableInterrupt, DisableInterrupt, EnqueueDpc, CancelDpc, TakeDpc}
use Rattle.wdf_model.specs.rules.Deeds.{arrive_at, ask_object, do_deed, give_up}
use Rattle.law_machine_base.specs.Fits.{fits}
use Rattle.wdf_model.proofs.Tests.{either_false, first, not_false, not_true, second}
use Rattle.wdf_model.proofs.Maps.{entry_put_other, entry_put_same}
use Rattle.wdf_model.proofs.Counts.{one_or_two}
use Rattle.law_machine_base.proofs.Deletion.{object_live, object_off}
use Rattle.law_machine_lives.proofs.Stays.{asks_all, gives_up, gives_up_if, queues_closed, returns_closed, withdraws}
use Rattle.law_machine_lives.proofs.Queued.{dpc_cancelled, dpc_enqueued, dpc_taken}
use Rattle.law_trace_power.proofs.Happens.{not_running}
use Rattle.law_machine_lives.proofs.Choices.{left_of}
use Rattle.law_stuck_named.proofs.Soon.{IsSteady, Unquiet, at_running, comes_soon, may_fail, soon_ended, steady_asked, steady_ended, steady_taken}
use Rattle.law_stuck_named.proofs.Standing.{Comes}
use Rattle.law_machine_lives.proofs.AllOf.{AllOf}
use Rattle.law_trace_power.proofs.Sequences.{passed_left}

-- ---- the property

pub record Quieting {A : Type 0} (plan : Plan) (S : State A) : Type 0 where
  pub steady : (d : ℕ) → IsSteady (sequence_of S.pnp d)
  pub dpcs : (d i : ℕ) → is_interrupt_of d (interrupt_of plan i) ≡ true → is_dpc_queued S.dpcs i ≡ true → (is_enabled S.interrupts i || comes_soon (steps_left S.pnp d)) ≡ true

-- what is so where a deed is done
abbrev pub Serves : {A : Type 0} → Plan → Deed → State A → Type 0
Serves plan (TakeStep d) S = (running_step S.pnp d.0 ≡ None) × ((j : Option Handle) (i : ℕ) → next_step S.pnp d.0 ≡ Some (step.Pass stage.Quiet j) → is_interrupt_of d.0 (interrupt_of plan i) ≡ true → is_dpc_queued S.dpcs i ≡ false)
Serves plan (EndStep d s v) S = (c : Callback) × (j : Option Handle) × (l : Option Handle) × (s ≡ step.Run c l) × (running_step S.pnp d.0 ≡ Some (step.Run c j))
Serves plan (DisableInterrupt i) S = (d : ℕ) → is_interrupt_of d (interrupt_of plan i.0) ≡ true → comes_soon (steps_left S.pnp d) ≡ true
Serves plan _ S = ⊤

abbrev pub AllServes : {A : Type 0} → Plan → List Deed → State A → Type 0
AllServes {A} plan ds S = AllOf plan (λ (d : Deed) (U : State A). Serves plan d U) ds S

-- ---- what a deed leaves alone

pub record Watched : Type 0 where
  pub pnp : Pnp
  pub interrupts : Interrupts

abbrev watched_of : {A : Type 0} → State A → Watched
watched_of S = record { pnp = S.pnp; interrupts = S.interrupts }

abbrev moves : Deed → Bool
moves (AskDevice d a) = true
moves (TakeStep d) = true
moves (EndStep d s v) = true
moves (EnableInterrupt i) = true
moves (DisableInterrupt i) = true
moves _ = false

arrived : {A : Type 0} (S : State A) (device : ℕ) (info : RequestInfo) (p : Place) → watched_of (arrive_at S device info p) ≡ watched_of S
arrived S device info (place.Queued q) = refl
arrived S device info _ = refl

still_watched : {A : Type 0} (plan : Plan) (d : Deed) (S : State A) → moves d ≡ false → watched_of (do_deed plan d S) ≡ watched_of S
still_watched plan (AskDevice d a) S h = absurd (let z : ⊥ = cc in z)
still_watched plan (TakeStep d) S h = absurd (let z : ⊥ = cc in z)
still_watched plan (EndStep d s v) S h = absurd (let z : ⊥ = cc in z)
still_watched plan (EnableInterrupt i) S h = absurd (let z : ⊥ = cc in z)
still_watched plan (DisableInterrupt i) S h = absurd (let z : ⊥ = cc in z)
still_watched plan (Arrive device info p) S h = arrived S device.0 info p
still_watched plan (AskDeletion o) S h = asks_all watched_of (λ S T D W U. refl) (subtree S.tree o.0) S
still_watched plan (Requeue r p) S h = gives_up watched_of (λ S Q R P. refl) S r.0
still_watched plan (Forward r p) S h = gives_up watched_of (λ S Q R P. refl) S r.0
still_watched plan (GiveBack r p) S h = gives_up watched_of (λ S Q R P. refl) S r.0
still_watched plan (SendRequest r t forget) S h = gives_up_if watched_of (λ S Q R P. refl) S forget r.0
still_watched plan (CompleteRequest r) S h =
    asks_all watched_of (λ S T D W U. refl) (subtree (give_up S r.0).tree r.0) (record (give_up S r.0) { requests = requests.complete S.requests r.0 }) ∙ gives_up watched_of (λ S Q R P. refl) S r.0
still_watched plan (PurgeQueue p) S h = withdraws watched_of (λ S Q R P. refl) plan p.0 (waiting_in S.queues p.0) (record S { control = control.set_mode S.control p.0 mode.Purged })
still_watched plan (CloseReturning d) S h = returns_closed watched_of (λ S Q R P. refl) (managed_queues plan d.0) S
still_watched plan (CloseDevice d) S h = queues_closed watched_of (λ S Q R P. refl) (queues_of plan d.0) (record S { control = control.shut S.control d.0 })
still_watched plan _ S h = refl

-- what is queued after a deed was queued, or is an enabled interrupt's, or no interrupt's
abbrev WasQueued : {A : Type 0} → Plan → State A → Dpcs → Type 0
WasQueued plan S E = (x : ℕ) → is_dpc_queued E x ≡ true → (is_dpc_queued S.dpcs x ≡ true) ⊎ (is_some (interrupt_of plan x) ≡ true → is_enabled S.interrupts x ≡ true)

same_dpcs : {A : Type 0} (plan : Plan) (S : State A) (E : Dpcs) → E ≡ S.dpcs → WasQueued plan S E
same_dpcs plan S E e x h = inl (sym (ap (λ D. is_dpc_queued D x) e) ∙ h)

fewer : {A : Type 0} (os : List ℕ) (S : State A) (x : ℕ) → is_dpc_queued (fold ask_object S os).dpcs x ≡ true → is_dpc_queued S.dpcs x ≡ true
fewer [] S x h = h
fewer (o ∷ os) S x h = one (is_live (life_of S.tree o)) refl (fewer os (ask_object S o) x h)
  where
    one : (b : Bool) → is_live (life_of S.tree o) ≡ b → is_dpc_queued (ask_object S o).dpcs x ≡ true → is_dpc_queued S.dpcs x ≡ true
    one true e k = (dpc_cancelled S.dpcs o x (sym (ap (λ (U : State _). is_dpc_queued U.dpcs x) (object_live S o e)) ∙ k)).0
    one false e k = sym (ap (λ (U : State _). is_dpc_queued U.dpcs x) (object_off S o e)) ∙ k

abbrev dpcs_in : {A : Type 0} → State A → Dpcs
dpcs_in S = S.dpcs

arrived_dpcs : {A : Type 0} (S : State A) (device : ℕ) (info : RequestInfo) (p : Place) → (arrive_at S device info p).dpcs ≡ S.dpcs
arrived_dpcs S device info (place.Queued q) = refl
arrived_dpcs S device info _ = refl

was_queued : {A : Type 0} (plan : Plan) (d : Deed) (S : State A) → Comes plan d S → WasQueued plan S (do_deed plan d S).dpcs
was_queued plan (EnqueueDpc cpu o) S c = λ x h. elim (dpc_enqueued S.dpcs cpu.0 o.0 x h) [
  | inl y ↦ inl y
  | inr y ↦ inr (λ is. ap (is_enabled S.interrupts) y ∙ c.1 (ap (λ z. is_some (interrupt_of plan z)) (sym y) ∙ is))
]
was_queued plan (CancelDpc o) S c = λ x h. inl (dpc_cancelled S.dpcs o.0 x h).0
was_queued plan (TakeDpc cpu) S c = λ x h. inl (dpc_taken S.dpcs cpu.0 x h)
was_queued plan (AskDeletion o) S c = λ x h. inl (fewer (subtree S.tree o.0) S x h)
was_queued plan (CompleteRequest r) S c = λ x h.
    inl (ap (λ D. is_dpc_queued D x) (sym (gives_up dpcs_in (λ S Q R P. refl) S r.0)) ∙ fewer (subtree (give_up S r.0).tree r.0) (record (give_up S r.0) { requests = requests.complete S.requests r.0 }) x h)
was_queued plan (Arrive device info p) S c = same_dpcs plan S _ (arrived_dpcs S device.0 info p)
was_queued plan (Requeue r q) S c = same_dpcs plan S _ (gives_up dpcs_in (λ S Q R P. refl) S r.0)
was_queued plan (Forward r q) S c = same_dpcs plan S _ (gives_up dpcs_in (λ S Q R P. refl) S r.0)
was_queued plan (GiveBack r q) S c = same_dpcs plan S _ (gives_up dpcs_in (λ S Q R P. refl) S r.0)
was_queued plan (SendRequest r t forget) S c = same_dpcs plan S _ (gives_up_if dpcs_in (λ S Q R P. refl) S forget r.0)
was_queued plan (PurgeQueue q) S c = same_dpcs plan S _ (withdraws dpcs_in (λ S Q R P. refl) plan q.0 (waiting_in S.queues q.0) (record S { control = control.set_mode S.control q.0 mode.Purged }))
was_queued plan (CloseReturning d) S c = same_dpcs plan S _ (returns_closed dpcs_in (λ S Q R P. refl) (managed_queues plan d.0) S)
was_queued plan (CloseDevice d) S c = same_dpcs plan S _ (queues_closed dpcs_in (λ S Q R P. refl) (queues_of plan d.0) (record S { control = control.shut S.control d.0 }))
was_queued plan _ S c = same_dpcs plan S S.dpcs refl

some_interrupt : (d : ℕ) (x : Option InterruptInfo) → is_interrupt_of d x ≡ true → is_some x ≡ true
some_interrupt d None h = absurd (let z : ⊥ = cc in z)
some_interrupt d (Some i) h = refl

-- ---- deeds by which no device moves

without_moves : {A : Type 0} (plan : Plan) (d : Deed) (S : State A) → moves d ≡ false → Comes plan d S → Quieting plan S → Quieting plan (do_deed plan d S)
without_moves {A} plan d S none c k =
    let U : State A = do_deed plan d S in
    let same : watched_of U ≡ watched_of S = still_watched plan d S none in
    let steps : U.pnp ≡ S.pnp = ap (λ (w : Watched). w.pnp) same in
    let ints : U.interrupts ≡ S.interrupts = ap (λ (w : Watched). w.interrupts) same in
    record {
      steady = λ x. subst (λ Q. IsSteady (sequence_of Q x)) (sym steps) (k.steady x);
      dpcs = λ x i is h.
          let now : (is_enabled S.interrupts i || comes_soon (steps_left S.pnp x)) ≡ true = elim (was_queued plan d S c i h) [
            | inl y ↦ k.dpcs x i is y
            | inr y ↦ first (is_enabled S.interrupts i) (comes_soon (steps_left S.pnp x)) (y (some_interrupt x (interrupt_of plan i) is))
          ] in
          subst (λ Q. (is_enabled U.interrupts i || comes_soon (steps_left Q x)) ≡ true) (sym steps) (subst (λ I. (is_enabled I i || comes_soon (steps_left S.pnp x)) ≡ true) (sym ints) now);
    }

-- ---- the steps of a device

-- one sequence changes, and stays steady
moves_one : {A : Type 0} (plan : Plan) (S : State A) (n : ℕ) (f : Sequence → Sequence) → IsSteady (f (sequence_of S.pnp n)) → ((i : ℕ) → is_interrupt_of n (interrupt_of plan i) ≡ true → is_dpc_queued S.dpcs i ≡ true → (is_enabled S.interrupts i || comes_soon (f (sequence_of S.pnp n)).left) ≡ true) → Quieting plan S
    → Quieting plan (record S { pnp = with_sequence S.pnp n f })
moves_one plan S n f steady dpcs k = record {
  steady = λ x. elim (one_or_two x n) [
    | inl e ↦ rw e (subst IsSteady (sym (entry_put_same no_sequence S.pnp.devices n (f (sequence_of S.pnp n)))) steady)
    | inr m ↦ subst IsSteady (sym (entry_put_other no_sequence S.pnp.devices n x (f (sequence_of S.pnp n)) m)) (k.steady x)
  ];
  dpcs = λ x i is h. elim (one_or_two x n) [
    | inl e ↦ rw e (subst (λ (q : Sequence). (is_enabled S.interrupts i || comes_soon q.left) ≡ true) (sym (entry_put_same no_sequence S.pnp.devices n (f (sequence_of S.pnp n)))) (dpcs i (subst (λ y. is_interrupt_of y (interrupt_of plan i) ≡ true) e is) h))
    | inr m ↦ subst (λ (q : Sequence). (is_enabled S.interrupts i || comes_soon q.left) ≡ true) (sym (entry_put_other no_sequence S.pnp.devices n x (f (sequence_of S.pnp n)) m)) (k.dpcs x i is h)
  ];
}

-- a step is taken
soon_passed : (s : Stage) (j : Option Handle) (q : Sequence) (ss : List Step) (a : Bool) → (s ≡ stage.Quiet → ⊥) → (a || comes_soon (step.Pass s j ∷ ss)) ≡ true → (a || comes_soon ss) ≡ true
soon_passed stage.Quiet j q ss a no_quiet h = absurd (no_quiet refl)
soon_passed stage.Disabled j q ss a no_quiet h = h
soon_passed _ j q ss a no_quiet h = first a (comes_soon ss) (left_of a false refl h)

soon_taken : (q : Sequence) (ss : List Step) (a : Bool) → q.left ≡ ss → ((j : Option Handle) (ts : List Step) → ss ≡ step.Pass stage.Quiet j ∷ ts → ⊥) → (a || comes_soon ss) ≡ true → (a || comes_soon (taken_step q).left) ≡ true
soon_taken q [] a e no_quiet h = rw e h
soon_taken q (step.Run c j ∷ ss) a e no_quiet h = rw e h
soon_taken q (step.Pass s j ∷ ss) a e no_quiet h =
    rw e (subst (λ ts. (a || comes_soon ts) ≡ true) (sym (passed_left s (record q { left = ss }))) (soon_passed s j q ss a (λ is. no_quiet j ss (ap (λ y. step.Pass y j ∷ ss) is)) h))

left_by : (ss : List Step) (a : Bool) → (a || comes_soon []) ≡ true → (a || comes_soon ss) ≡ true
left_by ss a h = first a (comes_soon ss) (left_of a false refl h)

asks : {A : Type 0} (plan : Plan) (n : ℕ) (a : Ask) (S : State A) → fits plan (AskDevice (object_id n) a) S ≡ true → Quieting plan S → Quieting plan (do_deed plan (AskDevice (object_id n) a) S)
asks plan n a S f k =
    let q : Sequence = sequence_of S.pnp n in
    let parts = either_false (is_running_step S.pnp n) (not (length (steps_left S.pnp n) == 0)) (not_true (busy S.pnp n) f) in
    let idle : q.running ≡ None = not_running q.running parts.0 in
    let none : q.left ≡ [] = no_steps q.left parts.1 in
    moves_one plan S n (λ x. record x { left = steps_for x.steps x.ever_working x.phase a }) (steady_asked q a idle)
    (λ i is h. left_by (steps_for q.steps q.ever_working q.phase a) (is_enabled S.interrupts i) (subst (λ ss. (is_enabled S.interrupts i || comes_soon ss) ≡ true) none (k.dpcs n i is h))) k
  where
    no_steps : (ss : List Step) → not (length ss == 0) ≡ false → ss ≡ []
    no_steps [] x = refl
    no_steps (s ∷ ss) x = let e : length (s ∷ ss) ≡ 0 = eqb-true (length (s ∷ ss)) 0 (not_false (length (s ∷ ss) == 0) x) in absurd (omega arith)

takes : {A : Type 0} (plan : Plan) (n : ℕ) (S : State A) → Serves plan (TakeStep (object_id n)) S → Quieting plan S → Quieting plan (do_deed plan (TakeStep (object_id n)) S)
takes plan n S s k =
    let q : Sequence = sequence_of S.pnp n in
    moves_one plan S n taken_step (steady_taken q s.0 (k.steady n))
    (λ i is h. soon_taken q q.left (is_enabled S.interrupts i) refl
    (λ j ts e. let off : is_dpc_queued S.dpcs i ≡ false = s.1 j i (ap first_of_list e) is in let z : ⊥ = cc in z) (k.dpcs n i is h)) k

ends : {A : Type 0} (plan : Plan) (n : ℕ) (s : Step) (v : Value) (S : State A) → Serves plan (EndStep (object_id n) s v) S → Quieting plan S → Quieting plan (do_deed plan (EndStep (object_id n) s v) S)
ends plan n s v S t k =
    let q : Sequence = sequence_of S.pnp n in
    let c : Callback = t.0 in
    let quiet : Unquiet (may_fail c) q.left = subst (λ r. at_running r q.left) t.4 (k.steady n).running in
    moves_one plan S n (λ x. record x { left = left_after x s v; running = None }) (steady_ended q s v (k.steady n))
    (λ i is h. elim (or_cases (is_enabled S.interrupts i) (comes_soon q.left) (k.dpcs n i is h)) [
      | inl y ↦ first (is_enabled S.interrupts i) (comes_soon (left_after q s v)) y
      | inr y ↦ second (is_enabled S.interrupts i) (comes_soon (left_after q s v)) (subst (λ z. comes_soon (left_after q z v) ≡ true) (sym t.3) (soon_ended q c t.2 v quiet y))
    ]) k

-- ---- interrupts

enabled_more : (I : Interrupts) (i x : ℕ) → is_enabled I x ≡ true → is_enabled (interrupts.enable I i) x ≡ true
enabled_more I i x h = elim (one_or_two x i) [
  | inl e ↦ rw e (entry_put_same false I.enabled i true)
  | inr n ↦ entry_put_other false I.enabled i x true n ∙ h
]

enables : {A : Type 0} (plan : Plan) (i : ℕ) (S : State A) → Quieting plan S → Quieting plan (do_deed plan (EnableInterrupt (object_id i)) S)
enables plan i S k = record {
  steady = k.steady;
  dpcs = λ d x is h. elim (or_cases (is_enabled S.interrupts x) (comes_soon (steps_left S.pnp d)) (k.dpcs d x is h)) [
    | inl y ↦ first (is_enabled (interrupts.enable S.interrupts i) x) (comes_soon (steps_left S.pnp d)) (enabled_more S.interrupts i x y)
    | inr y ↦ second (is_enabled (interrupts.enable S.interrupts i) x) (comes_soon (steps_left S.pnp d)) y
  ];
}

disables : {A : Type 0} (plan : Plan) (i : ℕ) (S : State A) → Serves plan (DisableInterrupt (object_id i)) S → Quieting plan S → Quieting plan (do_deed plan (DisableInterrupt (object_id i)) S)
disables plan i S s k = record {
  steady = k.steady;
  dpcs = λ d x is h. elim (one_or_two x i) [
    | inl e ↦ second (is_enabled (interrupts.disable S.interrupts i) x) (comes_soon (steps_left S.pnp d)) (s d (subst (λ y. is_interrupt_of d (interrupt_of plan y) ≡ true) e is))
    | inr n ↦ subst (λ b. (b || comes_soon (steps_left S.pnp d)) ≡ true) (sym (entry_put_other false S.interrupts.enabled i x false n)) (k.dpcs d x is h)
  ];
}

-- ---- each deed

pub quieting_by : {A : Type 0} (plan : Plan) (d : Deed) (S : State A) → fits plan d S ≡ true → Comes plan d S → Serves plan d S → Quieting plan S → Quieting plan (do_deed plan d S)
quieting_by plan (AskDevice n a) S f c s k = asks plan n.0 a S f k
quieting_by plan (TakeStep n) S f c s k = takes plan n.0 S s k
quieting_by plan (EndStep n st v) S f c s k = ends plan n.0 st v S s k
quieting_by plan (EnableInterrupt i) S f c s k = enables plan i.0 S k
quieting_by plan (DisableInterrupt i) S f c s k = disables plan i.0 S s k
quieting_by plan d S f c s k = without_moves plan d S refl c k
