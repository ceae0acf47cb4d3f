-- A search over the places of a group.
use Rattle.std.proofs.Common.{ℕ, zero, suc, ◌≡◌, ◌+◌, ◌-◌, ◌<◌, ◌≤◌, [], ◌∷◌, Some, None, refl, sym, ap, ◌∙◌, arith}
use Rattle.std.specs.List.{range_with_len}
use Rattle.wdf_base.specs.Meaning.{Meaning}
use Rattle.wdf_base.specs.declared.event.Event.{Event}
use Rattle.wdf_base.specs.declared.plan.Plan.{Plan}
use Rattle.wdf_model.specs.declared.enums.Group.{Group}
use Rattle.wdf_model.specs.State.{State}
use Rattle.wdf_model.specs.rules.Groups.{places_in}
use Rattle.wdf_offers.specs.Search.{offered, offered_from}

-- the numbers from one below the end on
pub range_opens : (a n : ℕ) → a < n → range_with_len a (n - a) ≡ a ∷ range_with_len (a + 1) (n - (a + 1))
range_opens a n h =
    let e : n - a ≡ suc (n - (a + 1)) = omega arith in
    rw e refl

-- nothing of the range is left at its end
pub range_ends : (a n : ℕ) → n ≤ a → range_with_len a (n - a) ≡ []
range_ends a n h =
    let e : n - a ≡ 0 = omega arith in
    rw e refl

module _ {A : Type 0} (plan : Plan) (m : Meaning A) (S : State A) (group : Group) where
  -- a place that offers nothing is passed over
  pub passed : (place : ℕ) → place < places_in plan S group → offered plan m S group place ≡ None → offered_from plan m S group place ≡ offered_from plan m S group (place + 1)
  passed place below nothing = rw (range_opens place (places_in plan S group) below, nothing) refl

  -- a place that offers an event gives it first
  pub found : (place : ℕ) (event : Event) → place < places_in plan S group → Some event ≡ offered plan m S group place
      → offered_from plan m S group place ≡ event ∷ offered_from plan m S group (place + 1)
  found place event below here = rw (range_opens place (places_in plan S group) below, ← here) refl

  -- past the last place there is nothing
  pub past : (place : ℕ) → places_in plan S group ≤ place → offered_from plan m S group place ≡ []
  past place above = rw (range_ends place (places_in plan S group) above) refl

  -- places that offer nothing are passed over
  pub all_passed : (from more : ℕ) → from + more ≤ places_in plan S group → ((p : ℕ) → from ≤ p → p < from + more → offered plan m S group p ≡ None)
      → offered_from plan m S group from ≡ offered_from plan m S group (from + more)
  all_passed from zero within none = let e : from + 0 ≡ from = omega arith in rw e refl
  all_passed from (suc more) within none =
      let e : from + suc more ≡ from + 1 + more = omega arith in
      passed from (omega arith) (none from (omega arith) (omega arith))
      ∙ all_passed (from + 1) more (omega arith) (λ p above below. none p (omega arith) (omega arith))
      ∙ ap (offered_from plan m S group) (sym e)

  -- where no place offers anything, nothing is offered
  pub nothing_there : ((p : ℕ) → offered plan m S group p ≡ None) → offered_from plan m S group 0 ≡ []
  nothing_there none =
      let all : 0 + places_in plan S group ≡ places_in plan S group = omega arith in
      all_passed 0 (places_in plan S group) (omega arith) (λ p over under. none p) ∙ ap (offered_from plan m S group) all ∙ past (places_in plan S group) (omega arith)
