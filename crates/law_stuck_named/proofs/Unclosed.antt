-- In a stuck run no request is about to be completed.
use Rattle.std.proofs.Common.{◌≡◌, ℕ, ◌<◌, true, false, [], ◌∷◌, inl, inr, Some, length, refl, arith}
use Rattle.std.specs.List.{flat_map, range_with_len}
use Rattle.std.proofs.lemmas.Bool.{cases_Bool}
use Rattle.wdf_base.specs.Meaning.{Meaning}
use Rattle.wdf_base.specs.declared.plan.Plan.{Plan}
use Rattle.wdf_base.specs.declared.event.Event.{Event}
use Rattle.wdf_base.specs.declared.event.Event.TheVariants as event
use Rattle.wdf_base.specs.declared.object.Place.{Place}
use Rattle.wdf_base.specs.declared.object.Place.TheVariants as place
use Rattle.wdf_base.specs.declared.value.Status.{Status}
use Rattle.wdf_base.specs.Places.{is_closing}
use Rattle.wdf_model.specs.declared.entries.Request.{Request}
use Rattle.wdf_model.specs.declared.enums.Group.TheVariants as group
use Rattle.wdf_model.specs.parts.Requests.{no_request, place_of}
use Rattle.wdf_model.specs.State.{State, handle_in, is_proper}
use Rattle.wdf_model.specs.rules.Groups.{candidate, candidates, candidates_in, completion_at, groups, groups_of_cpu}
use Rattle.wdf_model.specs.rules.Steps.{is_closing_with, may}
use Rattle.wdf_model.proofs.Tests.{both, itself}
use Rattle.law_stuck_causes.proofs.Members.{Has, has_back, has_flat, has_mapped, has_range}
use Rattle.law_stuck_causes.proofs.Endings.{AtRest, may_not}
use Rattle.law_machine_lives.proofs.Lists.{inside}
use Rattle.law_stuck_causes.proofs.Listed.{closes_as}

closing_is : (p : Place) → is_closing p ≡ true → (s : Status) × (p ≡ place.Closing s)
closing_is (place.Closing s) h = (s, refl)
closing_is _ h = absurd (let z : ⊥ = cc in z)

module _ {A : Type 0} (plan : Plan) (m : Meaning A) (S : State A) (rest : AtRest plan m S true) (r : ℕ) where
  never_closing : (s : Status) → r < length S.requests.all → place_of S.requests r ≡ place.Closing s → ⊥
  never_closing s low e =
      let e0 : Event = event.Complete (handle_in plan S r) s in
      let here : completion_at plan S r (place_of S.requests r) ≡ Some e0 = rw e refl in
      let within : Has e0 (candidates_in plan m S group.Completions) =
      has_mapped (candidate plan m S group.Completions) r e0 (range_with_len 0 (length S.requests.all)) (has_range r 0 (length S.requests.all) (omega arith) (omega arith)) here in
      let offered : Has e0 (candidates plan m S) = has_flat (candidates_in plan m S) group.Completions e0 (groups plan) (has_back group.Completions (flat_map (groups_of_cpu plan) (range_with_len 0 plan.cpus)) (group.Stages ∷ group.Completions ∷ group.Cleanups ∷ group.Destroys ∷ group.Posts ∷ []) (inr (inl refl))) within in
      let no_ : may plan m S e0 ≡ false = may_not plan m S true e0 rest offered in
      let comes : may plan m S e0 ≡ true = both (is_proper plan S (handle_in plan S r)) (is_closing_with (place_of S.requests r) s) (itself (handle_in plan S r).name) (closes_as (place_of S.requests r) s e) in
      let z : ⊥ = cc in z

  pub not_closing : is_closing (place_of S.requests r) ≡ false
  not_closing = elim (cases_Bool (is_closing (place_of S.requests r))) as (λ _. is_closing (place_of S.requests r) ≡ false) [
    | inl e ↦ let s = closing_is (place_of S.requests r) e in absurd (never_closing s.0 (inside no_request (λ (x : Request). is_closing x.place) S.requests.all r refl e) s.1)
    | inr e ↦ e
  ]
