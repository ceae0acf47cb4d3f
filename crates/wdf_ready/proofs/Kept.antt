-- The groups that can have places: how many there are, and that the others offer nothing.
use Rattle.std.proofs.Common.{◌≡◌, ℕ, ◌≤◌, Bool, true, false, List, [], ◌∷◌, ◌++◌, filter, length, refl, ap, arith}
use Rattle.wdf_base.specs.Meaning.{Meaning}
use Rattle.wdf_base.specs.declared.plan.Plan.{Plan}
use Rattle.wdf_base.specs.declared.rank.Rank.{Rank}
use Rattle.wdf_base.specs.declared.rank.Rank.TheVariants as rank
use Rattle.wdf_model.specs.declared.enums.Group.{Group}
use Rattle.wdf_model.specs.declared.enums.Group.TheVariants as group
use Rattle.wdf_model.specs.State.{State}
use Rattle.wdf_model.specs.Plans.{declares}
use Rattle.wdf_model.specs.rules.Groups.{callback_for, places_if}
use Rattle.wdf_offers.specs.Search.{can_start_for, events_of, has_places, offered_from}
use Rattle.wdf_offers.proofs.Places.{nothing_there, past}
use Rattle.wdf_ready.proofs.Undeclared.{never_completes, never_starts}

-- ---- how many there are

fewer_by : (p : Group → Bool) (g : Group) (gs : List Group) (b : Bool) → p g ≡ b → length (filter p gs) ≤ length gs → length (filter p (g ∷ gs)) ≤ length (g ∷ gs)
fewer_by p g gs true e h = rw e (omega (arith, h))
fewer_by p g gs false e h = rw e (omega (arith, h))

pub fewer_kept : (p : Group → Bool) (gs : List Group) → length (filter p gs) ≤ length gs
fewer_kept p [] = omega arith
fewer_kept p (g ∷ gs) = fewer_by p g gs (p g) refl (fewer_kept p gs)

-- ---- what the others offer

no_place : (b : Bool) (n : ℕ) → b ≡ false → places_if b n ≡ 0
no_place true n e = absurd (let z : ⊥ = cc in z)
no_place false n e = refl

module _ {A : Type 0} (plan : Plan) (m : Meaning A) (S : State A) where
  none_for : (cpu : ℕ) (r : Rank) (o : ℕ) → can_start_for plan r o ≡ false → offered_from plan m S (group.StartsFor cpu r o) 0 ≡ []
  none_for cpu rank.Completion o e = nothing_there plan m S (group.StartsFor cpu rank.Completion o) (λ p. never_completes plan m S cpu o p e)
  none_for cpu r o e = let none = no_place (declares plan (callback_for r) o) (length S.requests.all) e in past plan m S (group.StartsFor cpu r o) 0 (omega arith)

  offers_none : (g : Group) → has_places plan g ≡ false → offered_from plan m S g 0 ≡ []
  offers_none (group.StartsFor cpu r o) e = none_for cpu r o e
  offers_none (group.Starts cpu r) e = nothing_there plan m S (group.Starts cpu r) (λ p. never_starts plan m S cpu r p e)
  offers_none _ e = absurd (let z : ⊥ = cc in z)

  kept_by : (g : Group) (gs : List Group) (b : Bool) → has_places plan g ≡ b → events_of plan m S (filter (has_places plan) gs) ≡ events_of plan m S gs
      → events_of plan m S (filter (has_places plan) (g ∷ gs)) ≡ events_of plan m S (g ∷ gs)
  kept_by g gs true e rest = rw e (ap (λ es. offered_from plan m S g 0 ++ es) rest)
  kept_by g gs false e rest = rw (e, offers_none g e) rest

  -- what may come of the groups that can have places is what may come of all
  pub same_events : (gs : List Group) → events_of plan m S (filter (has_places plan) gs) ≡ events_of plan m S gs
  same_events [] = refl
  same_events (g ∷ gs) = kept_by g gs (has_places plan g) refl (same_events gs)
