-- A device passes `settled` only where power notes, of each request that is held from a power-managed queue of it, that
-- it is acknowledged.
use Rattle.std.proofs.Common.{◌≡◌, ℕ, zero, suc, ◌+◌, ◌<◌, ◌==◌, Bool, true, false, not, List, [], ◌∷◌, Option, Some, None, inl, inr, length, option_map, unwrap_or, slice_get, take, refl, sym, ap, subst, ◌∙◌, arith}
use Rattle.std.specs.List.{list_all}
use Rattle.std.proofs.lemmas.Bool.{cases_Bool, eqb-true}
use Rattle.wdf_base.specs.Meaning.{Meaning}
use Rattle.wdf_base.specs.declared.plan.Plan.{Plan}
use Rattle.wdf_base.specs.declared.ids.Handle.{Handle}
use Rattle.wdf_base.specs.declared.declared.Declared.{Declared}
use Rattle.wdf_base.specs.declared.declared.QueueInfo.{QueueInfo}
use Rattle.wdf_base.specs.declared.event.Event.{Event}
use Rattle.wdf_base.specs.declared.event.Event.TheVariants as event
use Rattle.wdf_base.specs.declared.event.Stage.TheVariants as stage
use Rattle.wdf_base.specs.declared.event.Step.TheVariants as step
use Rattle.wdf_model.specs.Tables.{entry}
use Rattle.wdf_model.specs.Plans.{as_queue, is_managed, managed_queues, queue_of}
use Rattle.wdf_model.specs.parts.Cpus.{nobody_on}
use Rattle.wdf_model.specs.parts.Power.{Power, acknowledged, holding_of, is_held_at, is_unsettled_at, no_holding, no_queue_power, opening_power, opening_queue_power, queue_power, unsettled}
use Rattle.wdf_model.specs.State.{State}
use Rattle.wdf_model.specs.rules.Ready.{IsRunOf, state_after}
use Rattle.wdf_model.specs.rules.Starts.{is_settled, may_pass, stage_ready, step_ready}
use Rattle.wdf_model.specs.rules.Steps.{may}
use Rattle.wdf_model.proofs.Tests.{both, both_left, both_right, positive}
use Rattle.wdf_model.proofs.Counts.{equal, not_equal}
use Rattle.law_machine_lives.proofs.Lists.{all_of_kept, inside}
use Rattle.law_machine_counts.proofs.PowerQueues.{queues_at_each}
use Rattle.wdf_laws.specs.declared.sign.Sign.TheVariants as sign
use Rattle.wdf_laws.specs.Laws.{is_managed_of}
use Rattle.wdf_laws.specs.Words.{stands}
use Rattle.law_machine_lives.proofs.Keeping.{comes}
use Rattle.law_trace_held.proofs.Holdings.{noted}
use Rattle.law_trace_held.proofs.HoldingsOverRuns.{held_at_each}
use Rattle.law_machine_counts.proofs.Unsettled.{entry_of_range}

-- ---- queues of the plan

found_within : (ds : List Declared) (k : ℕ) (x : Option QueueInfo) → as_queue (slice_get ds k) ≡ x → unwrap_or (option_map (λ (i : QueueInfo). i.powered) x) false ≡ true → k < length ds
found_within [] k x e h = absurd (let n : unwrap_or (option_map (λ (i : QueueInfo). i.powered) None) false ≡ true = subst (λ (y : Option QueueInfo). unwrap_or (option_map (λ (i : QueueInfo). i.powered) y) false ≡ true) (sym e) h in let z : ⊥ = cc in z)
found_within (d ∷ ds) zero x e h = omega arith
found_within (d ∷ ds) (suc k) x e h = let i = found_within ds k x e h in omega arith

managed_below : (plan : Plan) (q : ℕ) → is_managed plan q ≡ true → q < suc (length plan.declared)
managed_below plan zero h = omega arith
managed_below plan (suc k) h = let i = found_within plan.declared k (as_queue (slice_get plan.declared k)) refl h in omega arith

pub managed_by : (d : ℕ) (x : Option QueueInfo) → is_managed_of d x ≡ true → (unwrap_or (option_map (λ (i : QueueInfo). i.powered) x) false ≡ true) × (unwrap_or (option_map (λ (i : QueueInfo). i.device.0) x) 0 ≡ d)
managed_by d None h = absurd (let z : ⊥ = cc in z)
managed_by d (Some i) h = (both_left i.powered (i.device.0 == d) h, eqb-true i.device.0 d (both_right i.powered (i.device.0 == d) h))

-- a request that is noted for a power-managed queue of a device is held there
pub held_there : (plan : Plan) (P : Power) (d r q : ℕ) → P.queues ≡ (opening_power plan).queues → noted P r ≡ q → is_managed_of d (queue_of plan q) ≡ true → is_held_at P d (holding_of P r) ≡ true
held_there plan P d r q same at h =
    let parts = managed_by d (queue_of plan q) h in
    let it : queue_power P q ≡ opening_queue_power plan q = ap (λ qs. entry no_queue_power qs q) same ∙ entry_of_range no_queue_power (opening_queue_power plan) 0 (suc (length plan.declared)) q (managed_below plan q parts.0) ∙ ap (opening_queue_power plan) (let e : 0 + q ≡ q = omega arith in e) in
    rw at (both _ ((queue_power P q).device.0 == d) (positive q (not_equal q 0 (λ e. no_zero e parts.0))) (equal (queue_power P q).device.0 d (ap (λ y. y.device.0) it ∙ parts.1)))
  where
    no_zero : {n : ℕ} → n ≡ 0 → is_managed plan n ≡ true → ⊥
    no_zero e m = let z : is_managed plan 0 ≡ true = subst (λ i. is_managed plan i ≡ true) e m in let y : ⊥ = cc in y

-- ---- settled

emptied : (p : ℕ → Bool) (xs : List ℕ) → length xs ≡ 0 → list_all p xs ≡ true
emptied p [] h = refl
emptied p (x ∷ xs) h = absurd (omega arith)

-- where nothing is unsettled, what is held there is acknowledged
pub none_unsettled : (P : Power) (d r : ℕ) → length (unsettled P d) ≡ 0 → is_held_at P d (holding_of P r) ≡ true → acknowledged P r ≡ true
none_unsettled P d r none held = elim (cases_Bool (acknowledged P r)) [
  | inl e ↦ e
  | inr e ↦
      let open_ : is_unsettled_at P d (holding_of P r) ≡ true = both (is_held_at P d (holding_of P r)) (not (acknowledged P r)) held (rw e refl) in
      let within : r < length P.holdings = inside no_holding (is_unsettled_at P d) P.holdings r refl open_ in
      let never : false ≡ true = all_of_kept (λ x. false) (λ x. is_unsettled_at P d (holding_of P x)) r 0 (length P.holdings) (omega arith) (omega arith) (emptied (λ x. false) (unsettled P d) none) open_ in
      absurd (let z : ⊥ = cc in z)
]

module _ {A : Type 0} (plan : Plan) (m : Meaning A) (run : List Event) (is_run : IsRunOf plan m run) where
  abbrev at_place : ℕ → State A
  at_place n = state_after plan m (take n run)

  pub settled_at : (k : ℕ) (device : Handle) (j : Option Handle) → slice_get run k ≡ Some (event.Stage device stage.Settled j) → length (unsettled (at_place k).power device.id.0) ≡ 0
  settled_at k device j at =
      let h : may plan m (at_place k) (event.Stage device stage.Settled j) ≡ true = comes plan m run k (event.Stage device stage.Settled j) is_run at (λ time e. let z : ⊥ = cc in z) in
      let passes : may_pass plan (at_place k) device.id.0 stage.Settled j ≡ true = search both_right in
      let ready_ : is_settled plan (at_place k) device.id.0 ≡ true = both_right (step_ready (at_place k) device.id.0 (step.Pass stage.Settled j)) (stage_ready plan (at_place k) device.id.0 stage.Settled j) passes in
      eqb-true (length (unsettled (at_place k).power device.id.0)) 0 (both_left (length (unsettled (at_place k).power device.id.0) == 0) (list_all (nobody_on (at_place k).cpus) (managed_queues plan device.id.0)) ready_)

  -- at any place, a request that the events say is held from a power-managed queue is noted for it
  pub noted_is : (k r q d : ℕ) → is_managed_of d (queue_of plan q) ≡ true → stands (sign.TakingFrom r q) (sign.GivingUp r) (take k run) ≡ true → noted (at_place k).power r ≡ q
  noted_is k r q d of held = eqb-true (noted (at_place k).power r) q (sym (held_at_each plan m run is_run k r q (managed_by d (queue_of plan q) of).0) ∙ held)

  pub noted_at : (k r q d : ℕ) → is_managed_of d (queue_of plan q) ≡ true → stands (sign.TakingFrom r q) (sign.GivingUp r) (take k run) ≡ true → is_held_at (at_place k).power d (holding_of (at_place k).power r) ≡ true
  noted_at k r q d of held = held_there plan (at_place k).power d r q (queues_at_each plan m run is_run k) (noted_is k r q d of held) of

pub settles_acknowledged_at_each : {A : Type 0} (plan : Plan) (m : Meaning A) (run : List Event) (k : ℕ) (device : Handle) (j : Option Handle) (r q : ℕ) → IsRunOf plan m run
    → slice_get run k ≡ Some (event.Stage device stage.Settled j) → is_managed_of device.id.0 (queue_of plan q) ≡ true → stands (sign.TakingFrom r q) (sign.GivingUp r) (take k run) ≡ true
    → acknowledged (state_after plan m (take k run)).power r ≡ true
settles_acknowledged_at_each plan m run k device j r q is_run at of held =
    none_unsettled (state_after plan m (take k run)).power device.id.0 r (settled_at plan m run is_run k device j at) (noted_at plan m run is_run k r q device.id.0 of held)
