-- The deeds of stages, completions, cleanups, destructions and ticks can be done.
use Rattle.std.proofs.Common.{◌≡◌, ℕ, ◌<◌, true, false, List, [], ◌∷◌, All, Option, Some, None, refl, subst, arith}
use Rattle.wdf_base.specs.declared.ids.Handle.{Handle}
use Rattle.wdf_base.specs.declared.value.Status.{Status}
use Rattle.wdf_base.specs.declared.object.Place.{Place}
use Rattle.wdf_base.specs.declared.object.Place.TheVariants as place
use Rattle.wdf_base.specs.declared.plan.Plan.{Plan}
use Rattle.wdf_base.specs.declared.event.Stage.{Stage}
use Rattle.wdf_base.specs.declared.event.Stage.TheVariants as stage
use Rattle.wdf_base.specs.declared.event.Step.{Step}
use Rattle.wdf_base.specs.declared.event.Step.TheVariants as step
use Rattle.wdf_base.specs.Same.{same_handle, same_option, same_stage, same_step}
use Rattle.wdf_base.specs.Lives.{is_asked}
use Rattle.wdf_base.specs.Places.{is_done}
use Rattle.wdf_model.specs.declared.room.TheConstants.{OBJECTS}
use Rattle.wdf_model.specs.Tables.{first_of_list}
use Rattle.wdf_model.specs.parts.Tree.{life_of, may_destroy}
use Rattle.wdf_model.specs.parts.Requests.{place_of}
use Rattle.wdf_model.specs.parts.Cpus.{nobody_on}
use Rattle.wdf_model.specs.parts.Pnp.{next_step, steps_left}
use Rattle.wdf_model.specs.State.{State}
use Rattle.wdf_model.specs.Ids.{object_id}
use Rattle.wdf_model.specs.declared.deed.Deed.TheVariants.{CleanUp, CompleteRequest, EndLife, PassTick}
use Rattle.wdf_model.specs.rules.Starts.{clean_ready, destroy_ready, handle_id, may_pass, stage_deeds, stage_effect, stage_ready, step_ready}
use Rattle.wdf_model.specs.rules.Steps.{is_closing_with}
use Rattle.wdf_model.proofs.Sames.{handle_same}
use Rattle.wdf_model.proofs.Tests.{both_left, both_right}
use Rattle.law_machine_room.specs.Kept.{IsHandleThere, IsStepThere}
use Rattle.wdf_model.specs.rules.Groups.{declared_end}
use Rattle.wdf_model.specs.rules.Room.{AreDoable}
use Rattle.law_machine_room.proofs.Doable.{Fine, clock_small, declared_room, may_give_up, no_object_room}
use Rattle.law_machine_room.proofs.DoableStarts.{step_device}

-- ---- what a step names

named_handle : (plan : Plan) (i j : Option Handle) → IsHandleThere plan i → same_option same_handle i j ≡ true → IsHandleThere plan j
named_handle plan None None t h = tt
named_handle plan None (Some b) t h = absurd (let z : ⊥ = cc in z)
named_handle plan (Some a) None t h = tt
named_handle plan (Some a) (Some b) t h = subst (λ (x : Handle). x.id.0 < declared_end plan) (handle_same a b h) t

named_step : (plan : Plan) (x : Step) (s : Stage) (i : Option Handle) → IsStepThere plan x → same_step x (step.Pass s i) ≡ true → IsHandleThere plan i
named_step plan (step.Run c j) s i t h = absurd (let z : ⊥ = cc in z)
named_step plan (step.Pass u j) s i t h = named_handle plan j i t (both_right (same_stage u s) (same_option same_handle j i) h)

named_next : (plan : Plan) (xs : List Step) (s : Stage) (i : Option Handle) → All (IsStepThere plan) xs → same_option same_step (first_of_list xs) (Some (step.Pass s i)) ≡ true
    → IsHandleThere plan i
named_next plan [] s i t h = absurd (let z : ⊥ = cc in z)
named_next plan (x ∷ xs) s i t h = named_step plan x s i (t 0 x (omega arith)) h

closing_undone : (p : Place) (s : Status) → is_closing_with p s ≡ true → is_done p ≡ false
closing_undone place.Done s h = absurd (let z : ⊥ = cc in z)
closing_undone _ s h = refl

module _ {A : Type 0} {plan : Plan} {S : State A} (k : Fine plan S) where
  handle_room : (i : Option Handle) → IsHandleThere plan i → handle_id i < OBJECTS
  handle_room None t = no_object_room k
  handle_room (Some h) t = declared_room k h.id.0 t

  stage_effect_doable : (d : ℕ) (s : Stage) (i : Option Handle) (U : State A) → U.control ≡ S.control → U.queues ≡ S.queues → d < declared_end plan → IsHandleThere plan i
      → AreDoable plan (stage_effect plan d s i) U
  stage_effect_doable d stage.Enabled i U c q there t = (handle_room i t, tt)
  stage_effect_doable d stage.Disabled i U c q there t = (handle_room i t, tt)
  stage_effect_doable d stage.QueuesDown i U c q there t = (tt, tt)
  stage_effect_doable d stage.Closed i U c q there t =
      let controls = k.room.sizes.controls in
      let dispatch = k.room.sizes.dispatch in
      (rw (c, q) (omega arith, omega arith), tt)
  stage_effect_doable d stage.Removed i U c q there t = (tt, tt)
  stage_effect_doable d _ i U c q there t = tt

  pub stage_doable : (d : ℕ) (s : Stage) (i : Option Handle) → may_pass plan S d s i ≡ true → AreDoable plan (stage_deeds plan d s i) S
  stage_doable d s i h =
      let ready : step_ready S d (step.Pass s i) ≡ true = both_left (step_ready S d (step.Pass s i)) (stage_ready plan S d s i) h in
      let next : same_option same_step (next_step S.pnp d) (Some (step.Pass s i)) ≡ true = search (both_left, both_right) in
      let there = step_device k d (step.Pass s i) ready in
      let sequences = k.room.sizes.sequences in
      let powers = k.room.sizes.powers in
      let handle : IsHandleThere plan i = named_next plan (steps_left S.pnp d) s i (k.room.names.steps d) next in
      (there, (omega arith, stage_effect_doable d s i _ refl refl (omega arith) handle))

  pub complete_doable : (r : ℕ) (s : Status) → is_closing_with (place_of S.requests r) s ≡ true → AreDoable plan (CompleteRequest (object_id r) ∷ []) S
  complete_doable r s h = (may_give_up k r (closing_undone (place_of S.requests r) s h), tt)

  pub clean_doable : (o : ℕ) → clean_ready S o ≡ true → AreDoable plan (CleanUp (object_id o) ∷ []) S
  clean_doable o h = let asked : is_asked (life_of S.tree o) ≡ true = search both_left in (asked, tt)

  pub destroy_doable : (o : ℕ) → destroy_ready S o ≡ true → AreDoable plan (EndLife (object_id o) ∷ []) S
  destroy_doable o h = (both_left (may_destroy S.tree o) (nobody_on S.cpus o) h, tt)

  pub tick_doable : AreDoable plan (PassTick ∷ []) S
  tick_doable = let small = clock_small k in (omega arith, tt)
