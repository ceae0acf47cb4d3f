-- In a stuck run each processor that has a frame spins.
use Rattle.std.proofs.Common.{◌≡◌, ℕ, ◌==◌, ◌<◌, nat_le, Bool, true, false, List, [], ◌∷◌, inl, inr, Option, Some, None, option_map, refl, ap, arith, ◌∙◌}
use Rattle.std.proofs.lemmas.Bool.{cases_Bool}
use Rattle.std.proofs.lemmas.Bool.Decides.{nat_tests}
use Rattle.wdf_base.specs.Meaning.{Meaning}
use Rattle.wdf_base.specs.declared.plan.Plan.{Plan}
use Rattle.wdf_base.specs.declared.event.Event.{Event}
use Rattle.wdf_base.specs.declared.event.Ending.TheVariants as ending
use Rattle.wdf_model.specs.declared.enums.Group.TheVariants as group
use Rattle.wdf_model.specs.Tables.{first_of_list, same_id}
use Rattle.wdf_model.specs.parts.Cpus.{frame_of, irql, level_of_top, stack_of, top}
use Rattle.wdf_model.specs.State.{State}
use Rattle.wdf_model.specs.rules.Groups.{candidates, parks}
use Rattle.wdf_model.specs.rules.Ready.{IsRunOf, ending_of, state_after}
use Rattle.wdf_model.specs.rules.Steps.{may, waits_on}
use Rattle.wdf_base.specs.declared.frame.Pending.{Pending}
use Rattle.wdf_model.specs.rules.Calls.{is_met}
use Rattle.wdf_model.proofs.Counts.{equal}
use Rattle.wdf_model.proofs.Tests.{all_three, not_true}
use Rattle.law_stuck_causes.specs.Causes.{is_taken}
use Rattle.law_stuck_causes.proofs.Members.{Has}
use Rattle.law_stuck_causes.proofs.Endings.{AtRest, at_rest, may_not}
use Rattle.law_stuck_causes.proofs.Needs.{cpu_group, placed_at}
use Rattle.law_stuck_causes.proofs.Tops.{top_waits}
use Rattle.law_stuck_objects.specs.Spinning.{Spins, is_spin_call}
use Rattle.law_stuck_named_if.proofs.Presents.{same_there}
use Rattle.law_stuck_objects.proofs.Calm.{Calm, calm_now}

module _ {A : Type 0} (plan : Plan) (m : Meaning A) (S : State A) (rest : AtRest plan m S true) (calm : Calm S.cpus) where
  -- a frame that waits at level 0 leaves its processor
  no_park : (cpu f : ℕ) → cpu < plan.cpus → top S.cpus cpu ≡ Some f → waits_on S (frame_of S.cpus f).pending ≡ true → (irql S.cpus cpu == 0) ≡ true → ⊥
  no_park cpu f low at waits free =
      let e : Event = parks cpu f in
      let offered : Has e (candidates plan m S) = cpu_group plan m S cpu (group.Parks cpu) e low (inr (inl refl)) (placed_at plan m S (group.Parks cpu) 1 0 e (omega arith) (ap (option_map (parks cpu)) at)) in
      let no : may plan m S e ≡ false = may_not plan m S true e rest offered in
      let comes : may plan m S e ≡ true = all_three (same_id (top S.cpus cpu) f) (irql S.cpus cpu == 0) (waits_on S (frame_of S.cpus f).pending) (same_there (top S.cpus cpu) f at) free waits in
      let z : ⊥ = cc in z

  spins_at : (cpu f : ℕ) (o : Option Pending) → cpu < plan.cpus → top S.cpus cpu ≡ Some f → (frame_of S.cpus f).pending ≡ o → waits_on S o ≡ true → Spins S cpu
  spins_at cpu f None low at e w = absurd (let z : ⊥ = cc in z)
  spins_at cpu f (Some p) low at e w =
      let waits : waits_on S (frame_of S.cpus f).pending ≡ true = ap (waits_on S) e ∙ w in
      let level_ : (irql S.cpus cpu == 0) ≡ false = elim (cases_Bool (irql S.cpus cpu == 0)) [
        | inl z ↦ absurd (no_park cpu f low at waits z)
        | inr z ↦ z
      ] in
      record {
        frame = f;
        pending = p;
        top = at;
        waits = e;
        spins = elim (cases_Bool (is_spin_call p.call.kind)) [
          | inl s ↦ s
          | inr off ↦ absurd (
              let ground_ : irql S.cpus cpu ≡ 0 = ap (level_of_top S.cpus) at ∙ calm.level f p e off in
              let zero_ : (irql S.cpus cpu == 0) ≡ true = equal (irql S.cpus cpu) 0 ground_ in
              let z : ⊥ = cc in z)
        ];
        unmet = not_true (is_met S p.call) w;
        level = level_;
      }

  spins_by : (cpu f : ℕ) → cpu < plan.cpus → top S.cpus cpu ≡ Some f → Spins S cpu
  spins_by cpu f low at = spins_at cpu f (frame_of S.cpus f).pending low at refl (top_waits plan m S rest cpu f low at)

  -- a processor that is taken has a frame
  empty_free : (level cpu : ℕ) (fs : List ℕ) (b : Bool) → (level == 0) ≡ b → stack_of S.cpus cpu ≡ fs → first_of_list fs ≡ None → is_taken S level cpu ≡ true → ⊥
  empty_free level cpu (f ∷ fs) b e at none h = let z : ⊥ = cc in z
  empty_free level cpu [] true e at none h = absurd (let off : is_taken S level cpu ≡ false = rw (e, at) refl in let z : ⊥ = cc in z)
  empty_free level cpu [] false e at none h =
      let ground_ : irql S.cpus cpu ≡ 0 = ap (λ fs. level_of_top S.cpus (first_of_list fs)) at in
      let high : nat_le level (irql S.cpus cpu) ≡ true = rw e at h in
      absurd (too_high level (irql S.cpus cpu) e ground_ high)
    where
      too_high : (n k : ℕ) → (n == 0) ≡ false → k ≡ 0 → nat_le n k ≡ true → ⊥
      too_high n k off zero_ high = grind (arith, nat_tests)

  taken_spins : (level cpu : ℕ) → cpu < plan.cpus → is_taken S level cpu ≡ true → Spins S cpu
  taken_spins level cpu low h = by (top S.cpus cpu) refl
    where
      by : (o : Option ℕ) → top S.cpus cpu ≡ o → Spins S cpu
      by (Some f) e = spins_by cpu f low e
      by None e = absurd (empty_free level cpu (stack_of S.cpus cpu) (level == 0) refl refl e h)

pub taken_processors_spin : {A : Type 0} (plan : Plan) (m : Meaning A) (run : List Event) → IsRunOf plan m run → ending_of plan m run ≡ ending.Stuck → (level cpu : ℕ) → cpu < plan.cpus → is_taken (state_after plan m run) level cpu ≡ true → Spins (state_after plan m run) cpu
taken_processors_spin plan m run is_run ends level cpu low h = taken_spins plan m (state_after plan m run) (at_rest plan m run true ends) (calm_now plan m run is_run) level cpu low h
