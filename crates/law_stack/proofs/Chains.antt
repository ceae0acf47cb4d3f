-- The devices as the stack manager knows them: who is above and below whom, and who works, by the plan and the events.
use Rattle.std.proofs.Common.{◌≡◌, ℕ, ◌==◌, Bool, true, false, List, [], ◌∷◌, ◌++◌, map, find, Option, Some, None, option_map, unwrap_or, refl, sym, ap, ◌∙◌}
use Rattle.std.specs.List.{list_any}
use Rattle.std.proofs.lemmas.Bool.{eqb-true}
use Rattle.std.proofs.lemmas.List.Sums.{fold-append}
use Rattle.wdf_base.specs.declared.plan.Plan.{Plan}
use Rattle.wdf_base.specs.declared.event.Stage.{Stage}
use Rattle.wdf_base.specs.declared.event.Stage.TheVariants as stage
use Rattle.wdf_base.specs.declared.event.Event.{Event}
use Rattle.wdf_model.specs.declared.enums.Phase.{Phase}
use Rattle.wdf_model.specs.declared.stack.StackDevice.{StackDevice}
use Rattle.wdf_model.specs.Tables.{same_id}
use Rattle.wdf_model.specs.Plans.{device_of, devices_of}
use Rattle.wdf_model.specs.parts.Pnp.{opening_phase}
use Rattle.wdf_model.specs.agents.Chains.{above, below, device_named_by, if_above}
use Rattle.wdf_model.specs.agents.StackManager.{is_device, is_working, known, phase_of_stage, stack_device, with_phase_one}
use Rattle.law_stack.specs.Words.{works, works_after, works_at_opening, works_step}
use Rattle.law_machine_counts.proofs.StepTable.{top_is}
use Rattle.law_stuck_named_if.proofs.Presents.{same_there}

-- a device of the plan
abbrev pub is_declared : Plan → ℕ → Bool
is_declared plan d = list_any (λ y. y == d) (devices_of plan)

-- ---- above and below

below_by : (plan : Plan) (d e x : ℕ) (b : Bool) → same_id (above plan x) d ≡ b → if_above plan d (Some x) ≡ Some e → (x ≡ e) × (above plan x ≡ Some d)
below_by plan d e x true s h = let n : Some x ≡ Some e = rw s at h in (cc, top_is (above plan x) d s)
below_by plan d e x false s h = absurd (let n : None ≡ Some e = rw s at h in let z : ⊥ = cc in z)

below_named : (plan : Plan) (d e : ℕ) (o : Option ℕ) → device_named_by plan d ≡ o → if_above plan d o ≡ Some e → above plan e ≡ Some d
below_named plan d e None n h = absurd (let z : ⊥ = cc in z)
below_named plan d e (Some x) n h =
    let two = below_by plan d e x (same_id (above plan x) d) refl h in
    ap (above plan) (sym two.0) ∙ two.1

-- the device below one has it above
pub below_has_above : (plan : Plan) (d e : ℕ) → below plan d ≡ Some e → above plan e ≡ Some d
below_has_above plan d e h = below_named plan d e (device_named_by plan d) refl h

find_passes_by : (p : ℕ → Bool) (x : ℕ) (xs : List ℕ) (y : ℕ) (b : Bool) → p x ≡ b → (find p xs ≡ Some y → p y ≡ true) → find p (x ∷ xs) ≡ Some y → p y ≡ true
find_passes_by p x xs y true e rest h = let n : Some x ≡ Some y = rw e at h in let same : x ≡ y = cc in ap p (sym same) ∙ e
find_passes_by p x xs y false e rest h = rest (rw e at h)

pub find_passes : (p : ℕ → Bool) (xs : List ℕ) (y : ℕ) → find p xs ≡ Some y → p y ≡ true
find_passes p [] y h = absurd (let z : ⊥ = cc in z)
find_passes p (x ∷ xs) y h = find_passes_by p x xs y (p x) refl (find_passes p xs y) h

-- the device above one has it below
pub above_has_below : (plan : Plan) (d e : ℕ) → above plan e ≡ Some d → below plan d ≡ Some e
above_has_below plan d e h =
    let names = top_is (device_named_by plan d) e (find_passes (λ x. same_id (device_named_by plan x) e) (devices_of plan) d h) in
    let first = same_there (above plan e) d h in
    ap (if_above plan d) names ∙ (rw first refl)

-- ---- what is known of a device

known_by : (plan : Plan) (d x : ℕ) (xs : List ℕ) (b : Bool) → (x == d) ≡ b → (list_any (λ y. y == d) xs ≡ true → known (map (stack_device plan) xs) d ≡ Some (stack_device plan d))
    → list_any (λ y. y == d) (x ∷ xs) ≡ true → known (map (stack_device plan) (x ∷ xs)) d ≡ Some (stack_device plan d)
known_by plan d x xs true e rest h = rw e (ap (λ y. Some (stack_device plan y)) (eqb-true x d e))
known_by plan d x xs false e rest h = rw e (rest (rw e at h))

pub known_opens : (plan : Plan) (d : ℕ) (xs : List ℕ) → list_any (λ y. y == d) xs ≡ true → known (map (stack_device plan) xs) d ≡ Some (stack_device plan d)
known_opens plan d [] h = absurd (let z : ⊥ = cc in z)
known_opens plan d (x ∷ xs) h = known_by plan d x xs (x == d) refl (known_opens plan d xs) h

phase_keeps_device : (e d : ℕ) (p : Phase) (x : StackDevice) (b : Bool) → is_device e x ≡ b → is_device d (with_phase_one e p x) ≡ is_device d x
phase_keeps_device e d p x true h = rw h refl
phase_keeps_device e d p x false h = rw h refl

known_phase_by : (e d : ℕ) (p : Phase) (x : StackDevice) (xs : List StackDevice) (b : Bool) → is_device d x ≡ b → known (map (with_phase_one e p) xs) d ≡ option_map (with_phase_one e p) (known xs d)
    → known (map (with_phase_one e p) (x ∷ xs)) d ≡ option_map (with_phase_one e p) (known (x ∷ xs) d)
known_phase_by e d p x xs true h rest = let too : is_device d (with_phase_one e p x) ≡ true = phase_keeps_device e d p x (is_device e x) refl ∙ h in rw (h, too) refl
known_phase_by e d p x xs false h rest = let too : is_device d (with_phase_one e p x) ≡ false = phase_keeps_device e d p x (is_device e x) refl ∙ h in rw (h, too) rest

pub known_phase : (e d : ℕ) (p : Phase) (xs : List StackDevice) → known (map (with_phase_one e p) xs) d ≡ option_map (with_phase_one e p) (known xs d)
known_phase e d p [] = refl
known_phase e d p (x ∷ xs) = known_phase_by e d p x xs (is_device d x) refl (known_phase e d p xs)

-- a device as it is known: as at the opening, but for its phase
abbrev pub at_phase : Plan → ℕ → Phase → StackDevice
at_phase plan d p = record (stack_device plan d) { phase = p }

-- ---- who works

pub works_next : (plan : Plan) (d : ℕ) (before : List Event) (e : Event) → works plan d (before ++ e ∷ []) ≡ works_step d (works plan d before) e
unfolding works
works_next plan d before e = fold-append (works_step d) (works_at_opening (device_of plan d)) before (e ∷ [])

pub works_opens : (plan : Plan) (d : ℕ) → works plan d [] ≡ works_at_opening (device_of plan d)
unfolding works
works_opens plan d = refl

pub opening_works : (b : Bool) → is_working (opening_phase b) ≡ b
opening_works true = refl
opening_works false = refl

-- The devices of the plan are known, in these phases, and those in the phase Working work by the events.
pub record Knows (plan : Plan) (es : List Event) (devices : List StackDevice) (phase : ℕ → Phase) : Type 0 where
  pub knows : (d : ℕ) → is_declared plan d ≡ true → known devices d ≡ Some (at_phase plan d (phase d))
  pub works_so : (d : ℕ) → is_working (phase d) ≡ works plan d es

pub knows_opens : (plan : Plan) (phase : ℕ → Phase) → ((d : ℕ) → is_declared plan d ≡ true → phase d ≡ (stack_device plan d).phase) → ((d : ℕ) → is_working (phase d) ≡ works_at_opening (device_of plan d))
    → Knows plan [] (map (stack_device plan) (devices_of plan)) phase
knows_opens plan phase same works_ = record {
  knows = λ d there. known_opens plan d (devices_of plan) there ∙ ap (λ p. Some (at_phase plan d p)) (sym (same d there));
  works_so = λ d. works_ d ∙ sym (works_opens plan d);
}

-- the same of phases that are equal
pub knows_same : (plan : Plan) (es : List Event) (devices : List StackDevice) (phase now : ℕ → Phase) → ((d : ℕ) → now d ≡ phase d) → Knows plan es devices phase → Knows plan es devices now
knows_same plan es devices phase now same k = record {
  knows = λ d there. k.knows d there ∙ ap (λ p. Some (at_phase plan d p)) (sym (same d));
  works_so = λ d. ap is_working (same d) ∙ k.works_so d;
}

-- a phase that a stage gives
abbrev pub phase_after : Stage → Phase → Phase
phase_after s p = unwrap_or (phase_of_stage s) p

pub stage_works : (s : Stage) (p : Phase) (was : Bool) → is_working p ≡ was → is_working (phase_after s p) ≡ works_after s was
stage_works stage.Working p was h = refl
stage_works stage.Sleeping p was h = refl
stage_works stage.Removed p was h = refl
stage_works stage.Hardware p was h = h
stage_works stage.NoHardware p was h = h
stage_works stage.Enabled p was h = h
stage_works stage.Disabled p was h = h
stage_works stage.QueuesUp p was h = h
stage_works stage.QueuesDown p was h = h
stage_works stage.Settled p was h = h
stage_works stage.Quiet p was h = h
stage_works stage.Closed p was h = h
