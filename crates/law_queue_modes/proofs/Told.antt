-- At each place of every run the mode of a queue is the one that the events before tell.
use Rattle.std.proofs.Common.{◌≡◌, ℕ, zero, suc, ◌+◌, ◌<◌, true, List, [], ◌∷◌, ◌++◌, ◌⊎◌, inl, inr, Option, Some, None, is_some, length, slice_get, take, refl, sym, ap, subst, ◌∙◌, arith}
use Rattle.std.proofs.lemmas.Option.{slice_get_within}
use Rattle.std.proofs.lemmas.List.FromFn.{get_or-map-range_with_len}
use Rattle.wdf_base.specs.Meaning.{Meaning}
use Rattle.wdf_base.specs.declared.plan.Plan.{Plan}
use Rattle.wdf_base.specs.declared.declared.Declared.{Declared}
use Rattle.wdf_base.specs.declared.declared.QueueInfo.{QueueInfo}
use Rattle.wdf_base.specs.declared.event.Event.{Event}
use Rattle.wdf_base.specs.declared.event.Event.TheVariants as event
use Rattle.wdf_model.specs.Plans.{as_queue, device_of_queue, queue_of}
use Rattle.wdf_model.specs.parts.Control.{Control, control_of, no_control, opening_control, opening_mode}
use Rattle.wdf_model.specs.State.{State}
use Rattle.wdf_model.specs.rules.Deeds.{do_deeds}
use Rattle.wdf_model.specs.rules.Steps.{after, deeds, may}
use Rattle.wdf_model.specs.rules.Ready.{IsRunOf, ready, state_after}
use Rattle.wdf_model.proofs.Runs.{along_run}
use Rattle.law_machine_base.specs.FactsOfEvents.{IsTick}
use Rattle.law_machine_base.proofs.Follows.{follows, state_goes_on}
use Rattle.law_queue_modes.specs.Modes.{ModesAsTold, last_mode}
use Rattle.law_queue_modes.proofs.Stays.{equal_modes}
use Rattle.law_queue_modes.proofs.Acts.{Told, told_same, told_set, told_shut}
use Rattle.law_queue_modes.proofs.Moves.{Closed, Kept, Moved, Set, moves}

-- ---- the opening

-- a queue of the plan is declared
there : (plan : Plan) (k : ℕ) (o : Option Declared) → slice_get plan.declared k ≡ o → is_some (as_queue o) ≡ true → k < length plan.declared
there plan k None e h = absurd (let z : ⊥ = cc in z)
there plan k (Some d) e h = slice_get_within plan.declared k d e

pub is_within : (plan : Plan) (q : ℕ) → is_some (queue_of plan q) ≡ true → q < suc (length plan.declared)
is_within plan zero h = omega arith
is_within plan (suc k) h = let inside = there plan k (slice_get plan.declared k) refl h in omega arith

opens_as : (plan : Plan) (q : ℕ) → is_some (queue_of plan q) ≡ true → control_of (opening_control plan) q ≡ opening_mode (queue_of plan q)
opens_as plan q h = get_or-map-range_with_len (λ x. opening_mode (queue_of plan x)) 0 (suc (length plan.declared)) q q no_control (is_within plan q h) (omega arith)

opens_by : (plan : Plan) (q : ℕ) (o : Option QueueInfo) → queue_of plan q ≡ o → is_some o ≡ true → control_of (opening_control plan) q ≡ opening_mode o → Told (opening_control plan) (device_of_queue plan q) q []
unfolding last_mode
opens_by plan q None at h e = absurd (let z : ⊥ = cc in z)
opens_by plan q (Some i) at h e = record { device = ap (λ c. c.device.0) e ∙ sym (rw at refl); closed = refl; mode = ap (λ c. c.mode) e }

pub opens_told : (plan : Plan) (q : ℕ) → is_some (queue_of plan q) ≡ true → Told (opening_control plan) (device_of_queue plan q) q []
opens_told plan q h = opens_by plan q (queue_of plan q) refl h (opens_as plan q h)

told_first : {A : Type 0} (plan : Plan) (m : Meaning A) (q : ℕ) → is_some (queue_of plan q) ≡ true → Told (state_after plan m []).control (device_of_queue plan q) q []
unfolding state_after
told_first plan m q h = opens_told plan q h

-- ---- one event more

told_by : (C D : Control) (d q : ℕ) (es : List Event) (e : Event) → Told C d q es → Moved C D e → Told D d q (es ++ e ∷ [])
told_by C D d q es e k (Kept same calm open_) = told_same C d q es e k (open_ d) D same (calm q (last_mode q es))
told_by C D d q es e k (Set p m is says open_) = subst (λ X. Told X d q (es ++ e ∷ [])) (sym is) (told_set C d q es e k (open_ d) p m (says q (last_mode q es)))
told_by C D d q es e k (Closed p is calm says) = subst (λ X. Told X d q (es ++ e ∷ [])) (sym is) (told_shut C d q es e k p (calm q (last_mode q es)) (says d))

told_next : {A : Type 0} (plan : Plan) (m : Meaning A) (S : State A) (offered es : List Event) (e : Event) (d q : ℕ) → (may plan m S e ≡ true) ⊎ IsTick m S offered e → Told S.control d q es → Told (after plan m S e).control d q (es ++ e ∷ [])
told_next plan m S offered es e d q (inl h) k = told_by S.control (do_deeds plan (deeds plan S e) S).control d q es e k (moves plan m S e h)
told_next plan m S offered es e d q (inr t) k = subst (λ x. Told (after plan m S x).control d q (es ++ x ∷ [])) (sym t.tick)
    (told_same S.control d q es (event.Tick (S.clock + 1)) k refl S.control (equal_modes S.control S.control refl) refl)

-- ---- each place

pub told_at : {A : Type 0} (plan : Plan) (m : Meaning A) (run : List Event) → IsRunOf plan m run → (n q : ℕ) → is_some (queue_of plan q) ≡ true → Told (state_after plan m (take n run)).control (device_of_queue plan q) q (take n run)
told_at {A} plan m run is_run n q h = along_run (λ es. Told (state_after plan m es).control (device_of_queue plan q) q es) (ready plan m) run (told_first plan m q h)
    (λ before e place _ held at. subst (λ (T : State A). Told T.control (device_of_queue plan q) q (before ++ e ∷ [])) (sym (state_goes_on plan m before e))
    (told_next plan m (state_after plan m before) (ready plan m before) before e (device_of_queue plan q) q (follows plan m before place e at) held))
    is_run n

pub modes_at_each : {A : Type 0} (plan : Plan) (m : Meaning A) (run : List Event) → IsRunOf plan m run → (n : ℕ) → ModesAsTold plan (take n run) (state_after plan m (take n run))
modes_at_each plan m run is_run n = λ q h. (told_at plan m run is_run n q h).mode
