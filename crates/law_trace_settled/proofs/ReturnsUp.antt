-- At each place of a run, a request returns to a power-managed queue only while the queues of its device are up.
use Rattle.std.proofs.Common.{if◌then◌else◌, ◌≡◌, ◌≢◌, ℕ, Bool, true, false, not, ◌||◌, List, [], ◌∷◌, inl, inr, Option, fold, refl, sym, ap, subst, ◌∙◌}
use Rattle.std.specs.List.{list_all}
use Rattle.std.proofs.lemmas.Bool.{cases_Bool}
use Rattle.wdf_base.specs.Meaning.{Meaning}
use Rattle.wdf_base.specs.declared.ids.Handle.{Handle}
use Rattle.wdf_base.specs.declared.plan.Plan.{Plan}
use Rattle.wdf_base.specs.declared.event.Event.{Event}
use Rattle.wdf_base.specs.declared.event.Event.TheVariants as event
use Rattle.wdf_base.specs.declared.event.Stage.{Stage}
use Rattle.wdf_base.specs.declared.event.Stage.TheVariants as stage
use Rattle.wdf_base.specs.declared.event.Step.TheVariants as step
use Rattle.wdf_base.specs.declared.value.Status.TheVariants as status
use Rattle.wdf_base.specs.declared.object.Place.TheVariants as place
use Rattle.wdf_base.specs.Places.{is_returning_to}
use Rattle.wdf_model.specs.declared.entries.Request.{Request}
use Rattle.wdf_model.specs.Tables.{entry}
use Rattle.wdf_model.specs.Plans.{device_of_queue, is_managed, managed_queues, queues_of}
use Rattle.wdf_model.specs.parts.Tree.{subtree}
use Rattle.wdf_model.specs.parts.Requests.{closed_at, moved, no_request, place_of, request_of}
use Rattle.wdf_model.specs.parts.Control as control
use Rattle.wdf_model.specs.parts.Power.{Power, advance_stage, no_device_power}
use Rattle.wdf_model.specs.State.{State, is_powered}
use Rattle.wdf_model.specs.Ids.{object_id}
use Rattle.wdf_model.specs.declared.deed.Deed.{Deed}
use Rattle.wdf_model.specs.declared.deed.Deed.TheVariants.{AdvancePower, AskDevice, DisableInterrupt, EnableInterrupt, EndStep, PushFrame, TakeStep}
use Rattle.wdf_model.specs.rules.Deeds.{close_returning, do_deed, do_deeds}
use Rattle.wdf_model.specs.rules.Starts.{stage_deeds}
use Rattle.wdf_model.specs.rules.Steps.{deeds, may}
use Rattle.law_machine_base.specs.Fits.{all_fit, fits}
use Rattle.wdf_model.proofs.Maps.{entry_map, entry_put_other, entry_put_same}
use Rattle.wdf_model.proofs.Tests.{both, both_left, both_right, not_true}
use Rattle.wdf_model.proofs.Counts.{one_or_two}
use Rattle.law_machine_base.proofs.FitsOfEvents.{event_fits}
use Rattle.law_machine_lives.proofs.Sound.{AllSound, Sound}
use Rattle.law_machine_lives.proofs.SoundRuns.{KnownAll, all_sound}
use Rattle.law_machine_lives.proofs.Stays.{asks_all}
use Rattle.law_machine_deeds.specs.MayDo.{is_stage, may_do}
use Rattle.law_machine_deeds.proofs.Passing.{event_passes}
use Rattle.law_trace_power.proofs.Calm.{deeds_calm}
use Rattle.law_machine_lives.proofs.Readers.{requests_of}
use Rattle.law_trace_power.proofs.Tellings.{or_more}
use Rattle.law_trace_settled.proofs.Queues.{of_device, of_each}
use Rattle.law_trace_settled.proofs.Returning.{Comes, all_closed, all_returning, by_deed, comes_same, powered_same}

abbrev pub ReturnsUp : {A : Type 0} → Plan → State A → Type 0
ReturnsUp plan S = (r q : ℕ) → is_returning_to q (place_of S.requests r) ≡ true → is_powered plan S q ≡ true

-- ---- deeds that leave the power of devices

abbrev is_power : Deed → Bool
is_power (AdvancePower d s) = true
is_power _ = false

abbrev none_power : List Deed → Bool
none_power ds = list_all (λ d. not (is_power d)) ds

powerless : (e : Event) → is_stage e ≡ false → (d : Deed) → may_do e d ≡ true → not (is_power d) ≡ true
powerless e off (AdvancePower d s) h = absurd (let z : ⊥ = cc in z)
powerless e off _ h = refl

devices_same : {A : Type 0} (plan : Plan) (d : Deed) (S : State A) → is_power d ≡ false → Sound plan d S → (do_deed plan d S).power.devices ≡ S.power.devices
devices_same plan (AdvancePower d s) S h sound = absurd (let z : ⊥ = cc in z)
devices_same plan (PushFrame cpu f frame level) S h sound = refl
devices_same plan (AskDevice d a) S h sound = refl
devices_same plan (TakeStep d) S h sound = refl
devices_same plan (EndStep d s v) S h sound = refl
devices_same plan (EnableInterrupt i) S h sound = refl
devices_same plan (DisableInterrupt i) S h sound = refl
devices_same plan d S h sound = (deeds_calm plan (d ∷ []) S refl (sound, tt)).devices

either_is : (x y : Bool) → (x || y) ≡ true → (x ≡ true → y ≡ true) → y ≡ true
either_is true y h k = k refl
either_is false y h k = h

module _ {A : Type 0} (plan : Plan) where
  deed_returns : (d : Deed) (S : State A) → is_power d ≡ false → fits plan d S ≡ true → Sound plan d S → ReturnsUp plan S → ReturnsUp plan (do_deed plan d S)
  deed_returns d S none fit sound k r q h =
      powered_same plan S (do_deed plan d S) (devices_same plan d S none sound) q
      ∙ either_is (is_returning_to q (place_of S.requests r)) (is_powered plan S q) (by_deed plan S d fit r q h) (k r q)

  deeds_return : (ds : List Deed) (S : State A) → none_power ds ≡ true → all_fit plan ds S ≡ true → AllSound plan ds S → ReturnsUp plan S → ReturnsUp plan (do_deeds plan ds S)
  deeds_return [] S none fit sound k = k
  deeds_return (d ∷ ds) S none fit sound k =
      deeds_return ds (do_deed plan d S) (both_right (not (is_power d)) (none_power ds) none) (both_right (fits plan d S) (all_fit plan ds (do_deed plan d S)) fit) sound.1
      (deed_returns d S (not_true (is_power d) (both_left (not (is_power d)) (none_power ds) none)) (both_left (fits plan d S) (all_fit plan ds (do_deed plan d S)) fit) sound.0 k)

-- ---- stages

abbrev never : ℕ → Bool
never q = false

never_is : (b : Bool) (q : ℕ) → (b || never q) ≡ true → b ≡ true
never_is true q h = refl
never_is false q h = absurd (let n : false ≡ true = h in let z : ⊥ = cc in z)

closed_not : (q : ℕ) (e : Request) (b : Bool) → is_returning_to q e.place ≡ b → is_returning_to q (if b then moved (place.Closing status.Cancelled) e else e).place ≡ false
closed_not q e true h = refl
closed_not q e false h = h

closed_one : {A : Type 0} (S : State A) (q r : ℕ) → is_returning_to q (place_of (close_returning S q).requests r) ≡ false
closed_one S q r =
    ap (λ (e : Request). is_returning_to q e.place) (entry_map no_request S.requests.all (closed_at (is_returning_to q)) r refl)
    ∙ closed_not q (request_of S.requests r) (is_returning_to q (place_of S.requests r)) refl

-- nothing returns to a queue to which what returns was closed
closed_all : {A : Type 0} (qs : List ℕ) (S : State A) (r : ℕ) → list_all (λ q. not (is_returning_to q (place_of (fold close_returning S qs).requests r))) qs ≡ true
closed_all [] S r = refl
closed_all (q ∷ qs) S r =
    both (not (is_returning_to q (place_of (fold close_returning (close_returning S q) qs).requests r))) _
    (elim (cases_Bool (is_returning_to q (place_of (fold close_returning (close_returning S q) qs).requests r))) [
      | inr off ↦ rw off refl
      | inl on ↦
          absurd (let was : is_returning_to q (place_of (close_returning S q).requests r) ≡ true = never_is (is_returning_to q (place_of (close_returning S q).requests r)) q (all_returning never qs (close_returning S q) r q on) in
          let off : is_returning_to q (place_of (close_returning S q).requests r) ≡ false = closed_one S q r in
          let z : ⊥ = cc in z)
    ])
    (closed_all qs (close_returning S q) r)

stage_comes : {A : Type 0} (plan : Plan) (S : State A) (n : ℕ) (s : Stage) (j : Option Handle) → Comes never S.requests (do_deeds plan (stage_deeds plan n s j) S).requests
stage_comes plan S n stage.QueuesDown j = all_returning never (managed_queues plan n) (do_deed plan (AdvancePower (object_id n) (step.Pass stage.QueuesDown j)) (do_deed plan (TakeStep (object_id n)) S))
stage_comes {A} plan S n stage.Closed j =
    let T : State A = do_deed plan (AdvancePower (object_id n) (step.Pass stage.Closed j)) (do_deed plan (TakeStep (object_id n)) S) in
    all_closed never (queues_of plan n) (record T { control = control.shut T.control n })
stage_comes plan S n stage.Removed j =
    comes_same never S.requests _ (asks_all requests_of (λ S T D W U. refl) (subtree S.tree n) (do_deed plan (AdvancePower (object_id n) (step.Pass stage.Removed j)) (do_deed plan (TakeStep (object_id n)) S)))
stage_comes plan S n _ j = comes_same never S.requests _ refl

abbrev is_lowering : Stage → Bool
is_lowering stage.QueuesDown = true
is_lowering _ = false

abbrev up_in : Power → ℕ → Bool
up_in P d = (entry no_device_power P.devices d).up

raised : (P : Power) (n : ℕ) (s : Stage) → is_lowering s ≡ false → (d : ℕ) → up_in P d ≡ true → up_in (advance_stage P n s) d ≡ true
raised P n stage.QueuesDown low d h = absurd (let z : ⊥ = cc in z)
raised P n stage.Hardware low d h = elim (one_or_two d n) [
  | inl e ↦ rw e (ap (λ p. p.up) (entry_put_same no_device_power P.devices n (record (entry no_device_power P.devices n) { hardware = true })) ∙ subst (λ y. up_in P y ≡ true) e h)
  | inr x ↦ ap (λ p. p.up) (entry_put_other no_device_power P.devices n d (record (entry no_device_power P.devices n) { hardware = true }) x) ∙ h
]
raised P n stage.NoHardware low d h = elim (one_or_two d n) [
  | inl e ↦ rw e (ap (λ p. p.up) (entry_put_same no_device_power P.devices n (record (entry no_device_power P.devices n) { hardware = false })) ∙ subst (λ y. up_in P y ≡ true) e h)
  | inr x ↦ ap (λ p. p.up) (entry_put_other no_device_power P.devices n d (record (entry no_device_power P.devices n) { hardware = false }) x) ∙ h
]
raised P n stage.QueuesUp low d h = elim (one_or_two d n) [
  | inl e ↦ rw e (ap (λ p. p.up) (entry_put_same no_device_power P.devices n (record (entry no_device_power P.devices n) { up = true })))
  | inr x ↦ ap (λ p. p.up) (entry_put_other no_device_power P.devices n d (record (entry no_device_power P.devices n) { up = true }) x) ∙ h
]
raised P n _ low d h = h

module _ {A : Type 0} (plan : Plan) (S : State A) (n : ℕ) (j : Option Handle) (k : ReturnsUp plan S) where
  stage_raises : (s : Stage) → is_lowering s ≡ false → (do_deeds plan (stage_deeds plan n s j) S).power.devices ≡ (advance_stage S.power n s).devices → ReturnsUp plan (do_deeds plan (stage_deeds plan n s j) S)
  stage_raises s low same r q h =
      let was : is_returning_to q (place_of S.requests r) ≡ true = never_is (is_returning_to q (place_of S.requests r)) q (stage_comes plan S n s j r q h) in
      ap (λ D. not (is_managed plan q) || (entry no_device_power D (device_of_queue plan q)).up) same
      ∙ or_more (not (is_managed plan q)) (up_in S.power (device_of_queue plan q)) (up_in (advance_stage S.power n s) (device_of_queue plan q)) (raised S.power n s low (device_of_queue plan q)) (k r q was)

  stage_lowers : (do_deeds plan (stage_deeds plan n stage.QueuesDown j) S).power.devices ≡ (advance_stage S.power n stage.QueuesDown).devices → ReturnsUp plan (do_deeds plan (stage_deeds plan n stage.QueuesDown j) S)
  stage_lowers same r q h =
      let U : State A = do_deeds plan (stage_deeds plan n stage.QueuesDown j) S in
      let was : is_returning_to q (place_of S.requests r) ≡ true = never_is (is_returning_to q (place_of S.requests r)) q (stage_comes plan S n stage.QueuesDown j r q h) in
      ap (λ D. not (is_managed plan q) || (entry no_device_power D (device_of_queue plan q)).up) same
      ∙ elim (cases_Bool (is_managed plan q)) [
        | inr off ↦ rw off refl
        | inl on ↦ or_more (not (is_managed plan q)) (up_in S.power (device_of_queue plan q)) (up_in (advance_stage S.power n stage.QueuesDown) (device_of_queue plan q))
            (λ up. ap (λ p. p.up) (entry_put_other no_device_power S.power.devices n (device_of_queue plan q) (record (entry no_device_power S.power.devices n) { up = false }) (elsewhere on)) ∙ up) (k r q was)
      ]
    where
      elsewhere : is_managed plan q ≡ true → device_of_queue plan q ≢ n
      elsewhere on e =
          let T : State A = do_deed plan (AdvancePower (object_id n) (step.Pass stage.QueuesDown j)) (do_deed plan (TakeStep (object_id n)) S) in
          let closed : not (is_returning_to q (place_of (fold close_returning T (managed_queues plan n)).requests r)) ≡ true
          = of_each plan n q (λ x. not (is_returning_to x (place_of (fold close_returning T (managed_queues plan n)).requests r))) (of_device plan n q on e) (closed_all (managed_queues plan n) T r) in
          let z : false ≡ true = sym (not_true (is_returning_to q (place_of (fold close_returning T (managed_queues plan n)).requests r)) closed) ∙ h in
          let y : ⊥ = cc in y

  stage_returns : (s : Stage) → (do_deeds plan (stage_deeds plan n s j) S).power.devices ≡ (advance_stage S.power n s).devices → ReturnsUp plan (do_deeds plan (stage_deeds plan n s j) S)
  stage_returns stage.QueuesDown same = stage_lowers same
  stage_returns s same = stage_raises s refl same

-- ---- events

module _ {A : Type 0} (plan : Plan) (m : Meaning A) (S : State A) (known : KnownAll plan S) (k : ReturnsUp plan S)
    (devices : (n : Handle) (s : Stage) (j : Option Handle) → may plan m S (event.Stage n s j) ≡ true → (do_deeds plan (stage_deeds plan n.id.0 s j) S).power.devices ≡ (advance_stage S.power n.id.0 s).devices) where
  returns_by : (e : Event) → is_stage e ≡ false → may plan m S e ≡ true → ReturnsUp plan (do_deeds plan (deeds plan S e) S)
  returns_by e off h = deeds_return plan (deeds plan S e) S (event_passes (λ d. not (is_power d)) plan S e (powerless e off)) (event_fits plan m S e h) (all_sound plan m S e known h) k

  pub returns_after : (e : Event) → may plan m S e ≡ true → ReturnsUp plan (do_deeds plan (deeds plan S e) S)
  returns_after (event.Stage n s j) h = stage_returns plan S n.id.0 j k s (devices n s j h)
  returns_after e h = returns_by e refl h
