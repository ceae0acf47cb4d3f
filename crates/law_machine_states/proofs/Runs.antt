-- What an event of a run does to devices, and the laws at each place of every run.
use Rattle.std.proofs.Common.{◌≡◌, ℕ, zero, suc, ◌+◌, List, [], ◌∷◌, ◌⊎◌, true, inl, inr, Option, Some, None, slice_get, take, refl, sym, subst}
use Rattle.wdf_base.specs.Meaning.{Meaning}
use Rattle.wdf_base.specs.Resolved.{IsResolved}
use Rattle.wdf_base.specs.declared.plan.Plan.{Plan}
use Rattle.wdf_base.specs.declared.declared.DeviceInfo.{DeviceInfo}
use Rattle.wdf_base.specs.declared.event.Event.{Event}
use Rattle.wdf_base.specs.declared.event.Event.TheVariants as event
use Rattle.wdf_model.specs.Plans.{declared_ids, device_of}
use Rattle.wdf_model.specs.parts.Pnp.{Sequence, no_sequence, opening_sequence}
use Rattle.wdf_model.specs.State.{State}
use Rattle.wdf_model.specs.declared.deed.Deed.TheVariants.{PassTick}
use Rattle.wdf_model.specs.rules.Deeds.{counted, do_deeds}
use Rattle.wdf_model.specs.rules.Steps.{after, deeds, may}
use Rattle.wdf_model.specs.rules.Ready.{IsRunOf, ready, state_after}
use Rattle.law_machine_base.specs.FactsOfEvents.{IsTick}
use Rattle.law_machine_base.proofs.Follows.{state_goes_on}
use Rattle.wdf_model.proofs.Runs.{run_front, take_ended, take_next}
use Rattle.law_machine_lives.proofs.SoundRuns.{all_known}
use Rattle.law_trace_power.proofs.Laws.{comes_by}
use Rattle.law_trace_power.proofs.Runs.{kept_at_each}
use Rattle.law_trace_settled.proofs.Moves.{Asked, Begun, Ended, Moved, Passed, Unmoved, changes}
use Rattle.law_machine_states.specs.Courses.{ComesFromList, StepsComeFromLists}
use Rattle.law_machine_states.proofs.Courses.{Courses, courses_after, rests}
use Rattle.law_trace_settled.proofs.Laws.{listed_by}

-- the count of an event moves no device
counted_too : {A : Type 0} (plan : Plan) (m : Meaning A) (f : Event) (S U : State A) (e : Event) → Moved plan S U e → Moved plan S (counted m f U) e
counted_too plan m f S U e (Unmoved quiet_ same devices) = Unmoved quiet_ same devices
counted_too plan m f S U e (Begun n c j quiet_ idle next_ same devices) = Begun n c j quiet_ idle next_ same devices
counted_too plan m f S U e (Ended n c j l v quiet_ running same devices) = Ended n c j l v quiet_ running same devices
counted_too plan m f S U e (Passed n s j is may_come idle next_ same devices) = Passed n s j is may_come idle next_ same devices
counted_too plan m f S U e (Asked n a quiet_ free same devices) = Asked n a quiet_ free same devices

-- ---- the opening

opens_with : (plan : Plan) (d : ℕ) (x : Option DeviceInfo) → ComesFromList (opening_sequence plan d x)
opens_with plan d None = rests no_sequence refl refl
opens_with plan d (Some i) = rests (opening_sequence plan d (Some i)) refl refl

courses_first : {A : Type 0} (plan : Plan) (m : Meaning A) → Courses (state_after plan m []).pnp
unfolding state_after
courses_first plan m d = listed_by (λ (q : Sequence). ComesFromList q) no_sequence (λ x. opening_sequence plan x (device_of plan x)) (declared_ids plan) d (rests no_sequence refl refl) (λ x. opens_with plan x (device_of plan x))

-- ---- each place

module _ {A : Type 0} (plan : Plan) (m : Meaning A) (run : List Event) (resolved : IsResolved plan) (is_run : IsRunOf plan m run) where
  abbrev at_place : ℕ → State A
  at_place n = state_after plan m (take n run)

  moves_by : (n : ℕ) (e : Event) → (may plan m (at_place n) e ≡ true) ⊎ IsTick m (at_place n) (ready plan m (take n run)) e → Moved plan (at_place n) (after plan m (at_place n) e) e
  moves_by n e (inl h) =
      let S : State A = at_place n in
      counted_too plan m e S (do_deeds plan (deeds plan S e) S) e (changes plan m S (take n run) resolved (all_known plan m (take n run) (run_front (ready plan m) run n is_run)) (kept_at_each plan m run resolved is_run n) e h).moved
  moves_by n e (inr t) =
      let S : State A = at_place n in
      subst (λ x. Moved plan S (after plan m S x) x) (sym t.tick)
      (counted_too plan m (event.Tick (S.clock + 1)) S (do_deeds plan (PassTick ∷ []) S) (event.Tick (S.clock + 1)) (Unmoved (λ d. (refl, refl)) refl refl))

  -- what an event of the run does to devices
  pub moves_at : (n : ℕ) (e : Event) → slice_get run n ≡ Some e → Moved plan (at_place n) (after plan m (at_place n) e) e
  moves_at n e at = moves_by n e (comes_by plan m run n e is_run at)

  courses_next : (n : ℕ) (found : Option Event) → slice_get run n ≡ found → Courses (at_place n).pnp → Courses (at_place (suc n)).pnp
  courses_next n None at k = subst (λ es. Courses (state_after plan m es).pnp) (sym (take_ended run n at)) k
  courses_next n (Some e) at k =
      subst (λ es. Courses (state_after plan m es).pnp) (sym (take_next run n e at))
      (subst (λ (U : State A). Courses U.pnp) (sym (state_goes_on plan m (take n run) e)) (courses_after plan (at_place n) (after plan m (at_place n) e) e k (moves_at n e at)))

  pub courses_at : (n : ℕ) → Courses (at_place n).pnp
  courses_at zero = courses_first plan m
  courses_at (suc n) = courses_next n (slice_get run n) refl (courses_at n)

pub courses_at_each : {A : Type 0} (plan : Plan) (m : Meaning A) (run : List Event) → IsResolved plan → IsRunOf plan m run → (n : ℕ) → StepsComeFromLists (state_after plan m (take n run))
courses_at_each plan m run resolved is_run n = courses_at plan m run resolved is_run n
