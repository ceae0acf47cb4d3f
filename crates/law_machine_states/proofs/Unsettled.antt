-- While the queues of a device are down, and its next step isn't `settled`, all that is held of it is acknowledged.
use Rattle.std.proofs.Common.{◌≡◌, ◌≢◌, ℕ, ◌==◌, nat_lt, Bool, true, false, not, ◌&&◌, ◌||◌, List, [], ◌∷◌, inl, inr, Option, Some, None, ◌++◌, drop, length, refl, sym, ap, subst, ◌∙◌, arith}
use Rattle.std.specs.List.{list_all}
use Rattle.std.proofs.lemmas.Bool.{eqb-true}
use Rattle.wdf_base.specs.declared.ids.Handle.{Handle}
use Rattle.wdf_base.specs.declared.plan.Plan.{Plan}
use Rattle.wdf_base.specs.declared.event.Event.{Event}
use Rattle.wdf_base.specs.declared.event.Event.TheVariants as event
use Rattle.wdf_base.specs.declared.event.Stage.{Stage}
use Rattle.wdf_base.specs.declared.event.Stage.TheVariants as stage
use Rattle.wdf_base.specs.declared.event.Step.{Step}
use Rattle.wdf_base.specs.declared.event.Step.TheVariants as step
use Rattle.wdf_model.specs.declared.entries.QueuePower.{QueuePower}
use Rattle.wdf_model.specs.Tables.{entry}
use Rattle.wdf_model.specs.Plans.{device_of_queue, is_managed, managed_queues, queue_of}
use Rattle.wdf_model.specs.parts.Cpus.{nobody_on}
use Rattle.wdf_model.specs.parts.Pnp.{Pnp, Sequence, busy, is_running_step, left_after, no_sequence, running_step, sequence_of, steps_for, steps_left, taken_step}
use Rattle.wdf_model.specs.parts.Pnp as pnp
use Rattle.wdf_model.specs.parts.Power.{Power, acknowledged, advance_stage, holding_of, is_held, is_held_at, no_queue_power, opening_power, queue_power, unsettled}
use Rattle.wdf_model.specs.State.{State}
use Rattle.wdf_model.specs.rules.Starts.{is_settled, may_pass, stage_ready, step_ready}
use Rattle.wdf_model.proofs.Tests.{both_left, both_right, not_true, second}
use Rattle.wdf_model.proofs.Counts.{not_equal, one_or_two}
use Rattle.wdf_model.proofs.Maps.{entry_put_other, entry_put_same}
use Rattle.wdf_laws.specs.declared.sign.Sign.TheVariants as sign
use Rattle.wdf_laws.specs.Laws.{is_managed_of}
use Rattle.wdf_laws.specs.Signs.{shows}
use Rattle.law_trace_held.proofs.Holdings.{noted}
use Rattle.law_trace_held.proofs.Settled.{held_there, none_unsettled}
use Rattle.law_trace_settled.proofs.Course.{TakesUp, up_by, up_here, up_in, up_there}
use Rattle.law_trace_settled.proofs.Moves as moves
use Rattle.law_trace_settled.proofs.Moves.{Moved}
use Rattle.law_trace_settled.proofs.Never.{not_so, not_such}
use Rattle.law_trace_settled.proofs.Queues.{of_device}
use Rattle.law_trace_power.proofs.Happens.{taken_pass}
use Rattle.law_machine_states.specs.Settled.{settles_next}
use Rattle.law_machine_states.proofs.Lists.{agree, falls, in_order, is_end, turns}
use Rattle.law_machine_states.proofs.Courses.{Courses, ordered}
use Rattle.law_machine_states.proofs.Open.{Before, OpenStep, Opened, Taken, Woken, is_open}
use Rattle.law_trace_power.specs.UnderWay.{step_if_any, under_way}
use Rattle.law_trace_power.proofs.Sequences.{passed_left}

-- nothing is held of the device and not acknowledged
abbrev pub AllSettled : Power → ℕ → Type 0
AllSettled P d = (x : ℕ) → is_held_at P d (holding_of P x) ≡ true → is_open (holding_of P x) ≡ true → ⊥

abbrev pub Settled : {A : Type 0} → State A → Type 0
Settled S = (d : ℕ) → up_in S.power.devices d ≡ false → settles_next (steps_left S.pnp d) ≡ false → AllSettled S.power d

-- ---- the steps that follow

order_next : (s : Step) (ss : List Step) → in_order (s ∷ ss) ≡ true → agree (falls s) (settles_next ss) ≡ true
order_next s ss h =
    let a : Bool = agree (falls s) (settles_next ss) in
    let b : Bool = not (turns s) || is_end ss in
    both_left a b (both_left (a && b) (in_order ss) h)

module _ {A : Type 0} (S : State A) (k : Courses S.pnp) (d : ℕ) where
  -- while a callback runs, `settled` isn't next
  running_first : (s : Step) → falls s ≡ false → running_step S.pnp d ≡ Some s → settles_next (steps_left S.pnp d) ≡ false
  running_first s f running =
      let same : under_way (sequence_of S.pnp d) ≡ s ∷ steps_left S.pnp d = ap (λ r. step_if_any r ++ steps_left S.pnp d) running in
      let t = order_next s (steps_left S.pnp d) (subst (λ xs. in_order xs ≡ true) same (ordered (sequence_of S.pnp d) (k d))) in
      not_true (settles_next (steps_left S.pnp d)) (rw f at t)

  -- `settled` comes after `queues_down`
  falls_next : (j : Option Handle) (ss : List Step) → running_step S.pnp d ≡ None → steps_left S.pnp d ≡ step.Pass stage.QueuesDown j ∷ ss → settles_next ss ≡ true
  falls_next j ss idle left =
      let same : under_way (sequence_of S.pnp d) ≡ step.Pass stage.QueuesDown j ∷ ss = ap (λ r. step_if_any r ++ steps_left S.pnp d) idle ∙ left in
      order_next (step.Pass stage.QueuesDown j) ss (subst (λ xs. in_order xs ≡ true) same (ordered (sequence_of S.pnp d) (k d)))

free_left : (Q : Pnp) (d : ℕ) → busy Q d ≡ false → settles_next (steps_left Q d) ≡ false
free_left Q d h = by_list (steps_left Q d) refl
  where
    by_list : (ss : List Step) → steps_left Q d ≡ ss → settles_next ss ≡ false
    by_list [] e = refl
    by_list (s ∷ ss) e =
        let more : not (length (s ∷ ss) == 0) ≡ true = ap not (not_equal (length (s ∷ ss)) 0 (λ z. let y : ⊥ = omega arith in y)) in
        let t : busy Q d ≡ true = second (is_running_step Q d) (not (length (steps_left Q d) == 0)) (ap (λ xs. not (length xs == 0)) e ∙ more) in
        absurd (not_such (sym t ∙ h))

-- ---- what is held

-- held there, by the queue that is noted
held_as : (P O : Power) (d x : ℕ) → O.queues ≡ P.queues → noted O x ≡ noted P x → is_held_at O d (holding_of O x) ≡ true → is_held_at P d (holding_of P x) ≡ true
held_as P O d x queues note h =
    subst (λ q. (nat_lt 0 q && (entry no_queue_power P.queues q).device.0 == d) ≡ true) note
    (subst (λ (qs : List QueuePower). (nat_lt 0 (noted O x) && (entry no_queue_power qs (noted O x)).device.0 == d) ≡ true) queues h)

-- held of one device alone
held_once : (P : Power) (d n x : ℕ) → is_held_at P d (holding_of P x) ≡ true → is_held_at P n (holding_of P x) ≡ true → n ≡ d
held_once P d n x h k =
    let q : ℕ = (queue_power P (noted P x)).device.0 in
    sym (eqb-true q n (both_right (is_held (holding_of P x)) (q == n) k)) ∙ eqb-true q d (both_right (is_held (holding_of P x)) (q == d) h)

-- ---- one event

module _ {A : Type 0} (plan : Plan) (S U : State A) (e : Event) (k : Courses S.pnp) (moved : Moved plan S U e) (takes : TakesUp plan S.power.devices e) (opens : OpenStep e S.power U.power) (queues : U.power.queues ≡ S.power.queues)
    (same : U.power.queues ≡ (opening_power plan).queues) (managed : (x : ℕ) → is_held (holding_of U.power x) ≡ true → is_managed plan (noted U.power x) ≡ true) (settled : Settled S) where
  same_up : U.power.devices ≡ S.power.devices → (d : ℕ) → up_in U.power.devices d ≡ up_in S.power.devices d
  same_up devices d = ap (λ D. up_in D d) devices

  risen : (d : ℕ) → shows (sign.QueuesUp d) e ≡ true → Moved plan S U e → up_in U.power.devices d ≡ true
  risen d t (moves.Unmoved quiet_ pnp_ devices) = absurd (not_such (sym t ∙ (quiet_ d).0))
  risen d t (moves.Begun n c j quiet_ idle next_ pnp_ devices) = absurd (not_such (sym t ∙ (quiet_ d).0))
  risen d t (moves.Ended n c j l v quiet_ runs pnp_ devices) = absurd (not_such (sym t ∙ (quiet_ d).0))
  risen d t (moves.Asked n a quiet_ free pnp_ devices) = absurd (not_such (sym t ∙ (quiet_ d).0))
  risen d t (moves.Passed n s j is may_come idle next_ pnp_ devices) = by_stage s (subst (λ x. shows (sign.QueuesUp d) x ≡ true) is t) devices
    where
      by_stage : (s : Stage) → shows (sign.QueuesUp d) (event.Stage n s j) ≡ true → U.power.devices ≡ (advance_stage S.power n.id.0 s).devices → up_in U.power.devices d ≡ true
      by_stage stage.QueuesUp t devices = subst (λ y. up_in U.power.devices y ≡ true) (eqb-true n.id.0 d t) (ap (λ D. up_in D n.id.0) devices ∙ up_here S.power n.id.0 stage.QueuesUp)
      by_stage s t devices = absurd (not_so t)

  -- an event that takes a request passes no stage
  taken_up : (d r q : ℕ) → shows (sign.TakingFrom r q) e ≡ true → up_in S.power.devices d ≡ true → Moved plan S U e → up_in U.power.devices d ≡ true
  taken_up d r q t up (moves.Unmoved quiet_ pnp_ devices) = same_up devices d ∙ up
  taken_up d r q t up (moves.Begun n c j quiet_ idle next_ pnp_ devices) = same_up devices d ∙ up
  taken_up d r q t up (moves.Ended n c j l v quiet_ runs pnp_ devices) = same_up devices d ∙ up
  taken_up d r q t up (moves.Asked n a quiet_ free pnp_ devices) = same_up devices d ∙ up
  taken_up d r q t up (moves.Passed n s j is may_come idle next_ pnp_ devices) = absurd (not_so (subst (λ x. shows (sign.TakingFrom r q) x ≡ true) is t))

  -- the device was settled before, or is by the event
  here : (n : Handle) (s : Stage) (j : Option Handle) → may_pass plan S n.id.0 s j ≡ true → running_step S.pnp n.id.0 ≡ None → steps_left S.pnp n.id.0 ≡ step.Pass s j ∷ drop 1 (steps_left S.pnp n.id.0)
      → up_by s (up_in S.power.devices n.id.0) ≡ false → settles_next (drop 1 (steps_left S.pnp n.id.0)) ≡ false → AllSettled S.power n.id.0
  here n stage.QueuesUp j may_come idle left low off = absurd (not_such low)
  here n stage.QueuesDown j may_come idle left low off = absurd (not_such (sym (falls_next S k n.id.0 j (drop 1 (steps_left S.pnp n.id.0)) idle left) ∙ off))
  here n stage.Settled j may_come idle left low off = λ x held open_.
      let ready_ : is_settled plan S n.id.0 ≡ true = both_right (step_ready S n.id.0 (step.Pass stage.Settled j)) (stage_ready plan S n.id.0 stage.Settled j) may_come in
      let none : length (unsettled S.power n.id.0) ≡ 0 = eqb-true (length (unsettled S.power n.id.0)) 0 (both_left (length (unsettled S.power n.id.0) == 0) (list_all (nobody_on S.cpus) (managed_queues plan n.id.0)) ready_) in
      let flag_ : acknowledged S.power x ≡ true = none_unsettled S.power n.id.0 x none held in
      not_such (sym flag_ ∙ not_true (acknowledged S.power x) (both_right (is_held (holding_of S.power x)) (not (acknowledged S.power x)) open_))
  here n s j may_come idle left low off = settled n.id.0 low (ap settles_next left)

  -- another device
  there : (n d : ℕ) (new : Sequence) → U.pnp ≡ pnp.with_sequence S.pnp n (λ q. new) → d ≢ n → up_in U.power.devices d ≡ up_in S.power.devices d → up_in U.power.devices d ≡ false → settles_next (steps_left U.pnp d) ≡ false → AllSettled S.power d
  there n d new is x up low off =
      let left : steps_left U.pnp d ≡ steps_left S.pnp d = ap (λ Q. steps_left Q d) is ∙ ap (λ (q : Sequence). q.left) (entry_put_other no_sequence S.pnp.devices n d new x) in
      settled d (sym up ∙ low) (ap settles_next (sym left) ∙ off)

  at_device : (n d : ℕ) (new : Sequence) → U.pnp ≡ pnp.with_sequence S.pnp n (λ q. new) → U.power.devices ≡ S.power.devices → settles_next (steps_left S.pnp n) ≡ false → up_in U.power.devices d ≡ false → settles_next (steps_left U.pnp d) ≡ false → AllSettled S.power d
  at_device n d new is devices first_ low off = elim (one_or_two d n) [
    | inl x ↦ settled d (sym (same_up devices d) ∙ low) (ap (λ y. settles_next (steps_left S.pnp y)) x ∙ first_)
    | inr x ↦ there n d new is x (same_up devices d) low off
  ]

  was_settled : (d : ℕ) → up_in U.power.devices d ≡ false → settles_next (steps_left U.pnp d) ≡ false → Moved plan S U e → AllSettled S.power d
  was_settled d low off (moves.Unmoved quiet_ pnp_ devices) = settled d (sym (same_up devices d) ∙ low) (ap (λ Q. settles_next (steps_left Q d)) (sym pnp_) ∙ off)
  was_settled d low off (moves.Begun n c j quiet_ idle next_ pnp_ devices) = at_device n d (taken_step (sequence_of S.pnp n)) pnp_ devices (ap settles_next next_) low off
  was_settled d low off (moves.Ended n c j l v quiet_ runs pnp_ devices) =
      at_device n d (record (sequence_of S.pnp n) { left = left_after (sequence_of S.pnp n) (step.Run c l) v; running = None }) pnp_ devices (running_first S k n (step.Run c j) refl runs) low off
  was_settled d low off (moves.Asked n a quiet_ free pnp_ devices) =
      let q : Sequence = sequence_of S.pnp n in
      at_device n d (record q { left = steps_for q.steps q.ever_working q.phase a }) pnp_ devices (free_left S.pnp n free) low off
  was_settled d low off (moves.Passed n s j is may_come idle next_ pnp_ devices) = elim (one_or_two d n.id.0) [
    | inr x ↦ there n.id.0 d (taken_step (sequence_of S.pnp n.id.0)) pnp_ x (ap (λ D. up_in D d) devices ∙ up_there S.power n.id.0 s d x) low off
    | inl x ↦
        let q : Sequence = sequence_of S.pnp n.id.0 in
        let left : steps_left U.pnp n.id.0 ≡ drop 1 q.left = ap (λ Q. steps_left Q n.id.0) pnp_ ∙ ap (λ (r : Sequence). r.left) (entry_put_same no_sequence S.pnp.devices n.id.0 (taken_step q) ∙ taken_pass q s j (drop 1 q.left) next_) ∙ passed_left s (record q { left = drop 1 q.left }) in
        let up : up_in U.power.devices n.id.0 ≡ up_by s (up_in S.power.devices n.id.0) = ap (λ D. up_in D n.id.0) devices ∙ up_here S.power n.id.0 s in
        subst (AllSettled S.power) (sym x)
        (here n s j may_come idle next_ (sym up ∙ ap (up_in U.power.devices) (sym x) ∙ low) (ap settles_next (sym left) ∙ ap (λ y. settles_next (steps_left U.pnp y)) (sym x) ∙ off))
  ]

  by_opened : (d x : ℕ) → up_in U.power.devices d ≡ false → settles_next (steps_left U.pnp d) ≡ false → is_held_at U.power d (holding_of U.power x) ≡ true → Opened e S.power U.power x → ⊥
  by_opened d x low off held (Before open_ note) = was_settled d low off moved x (held_as S.power U.power d x queues note held) open_
  by_opened d x low off held (Woken n told at) = not_such (sym (risen d (subst (λ y. shows (sign.QueuesUp y) e ≡ true) (held_once U.power d n x held at) told) moved) ∙ low)
  by_opened d x low off held (Taken told) =
      let q : ℕ = noted U.power x in
      let own : is_managed plan q ≡ true = managed x (both_left (is_held (holding_of U.power x)) ((queue_power U.power q).device.0 == d) held) in
      let of_own : is_managed_of (device_of_queue plan q) (queue_of plan q) ≡ true = of_device plan (device_of_queue plan q) q own refl in
      let is : device_of_queue plan q ≡ d = held_once U.power d (device_of_queue plan q) x held (held_there plan U.power (device_of_queue plan q) x q same refl of_own) in
      let of_ : is_managed_of d (queue_of plan q) ≡ true = subst (λ y. is_managed_of y (queue_of plan q) ≡ true) is of_own in
      not_such (sym (taken_up d x q told (takes x q d of_ told) moved) ∙ low)

  pub settled_after : Settled U
  settled_after d low off x held open_ = by_opened d x low off held (opens x open_)
