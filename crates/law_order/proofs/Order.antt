-- A scene with an `order` block is refused as the scene without it, but for the limit of picks, and its plan is the same but for picks.
use Rattle.std.proofs.Common.{◌≡◌, ℕ, suc, ◌+◌, ◌≤◌, false, List, [], ◌∷◌, ◌++◌, length, flat_map, None, refl, sym, ap, subst, arith, length-append}
use Rattle.std.proofs.lemmas.Bool.Decides.{nat_tests}
use Rattle.wdf_base.specs.declared.plan.Plan.{Plan}
use Rattle.wdf_scene.specs.declared.line.NumberedLine.{NumberedLine}
use Rattle.wdf_scene.specs.declared.scene.Scene.{Scene}
use Rattle.wdf_scene.specs.Written.{IsScene}
use Rattle.wdf_blocks.specs.declared.placed.Counts.{Counts}
use Rattle.wdf_blocks.specs.declared.placed.Stand.{Stand}
use Rattle.wdf_blocks.specs.Placed.{counted, nothing, opened_by, outside, placed, placed_from}
use Rattle.wdf_refusals.specs.First.{first_refusal}
use Rattle.wdf_refusals.specs.Limits.{over_picks}
use Rattle.wdf_refusals.specs.Numbered.{Every}
use Rattle.wdf_plan.specs.Parts.{line_picks}
use Rattle.wdf_plan.specs.Plans.{plan_of, plan_with}
use Rattle.law_order.specs.Order.{IsWithoutOrder}
use Rattle.law_order.proofs.Cut.{inserted, one, to, two}
use Rattle.law_order.proofs.Inserted.{IsInserted}
use Rattle.law_order.proofs.Plans.{accepted_after, accepted_before, plan_alike}

-- ---- few picks are never too many

picks_stay : (c : Counts) (l : NumberedLine) → (counted c l.form (length l.picks)).picks ≡ c.picks + length l.picks
unfolding counted
picks_stay c l = refl

few_from : (k : ℕ) (o : Stand) (c : Counts) (ls : List NumberedLine) → c.picks + length (flat_map line_picks ls) ≤ 200000 → Every (λ p. over_picks p ≡ false) (placed_from k o c ls)
unfolding placed_from
few_from k o c [] h = tt
few_from k o c (l ∷ ls) h =
    let both : length (l.picks ++ flat_map line_picks ls) ≡ length l.picks + length (flat_map line_picks ls) = length-append l.picks (flat_map line_picks ls) in
    let now : c.picks + length l.picks ≤ 200000 = omega (arith, h, both) in
    let next = picks_stay c l in
    (grind (arith, nat_tests, now), few_from (suc k) (opened_by o k l.form) (counted c l.form (length l.picks)) ls (omega (arith, h, both, next)))

few_placed : (s : Scene) → length (flat_map line_picks s.lines) ≤ 200000 → Every (λ p. over_picks p ≡ false) (placed s)
unfolding placed
few_placed s h = few_from 0 outside nothing s.lines (omega (arith, h))

pub plan_picks : (s : Scene) → (plan_of s).picks ≡ flat_map line_picks s.lines
unfolding plan_of plan_with
plan_picks s = refl

-- ---- the scene without its `order` block

module _ (scene bare : Scene) (is : IsScene scene) (w : IsWithoutOrder scene bare) where
  whole : scene ≡ two scene.version scene.exprs w.before w.first w.picked w.last w.after
  whole = ap (λ (ls : List NumberedLine). record scene { lines = ls }) w.whole

  -- the new place of each line
  abbrev place : ℕ → ℕ
  place = to scene.version scene.exprs w.before w.first w.picked w.last w.after

  in_it : IsInserted place bare scene
  in_it =
      let it = inserted scene.version scene.exprs w.before w.first w.picked w.last w.after (subst IsScene whole is) in
      let there : IsInserted place (one scene.version scene.exprs w.before w.first w.picked w.last w.after) scene =
      subst (λ (s : Scene). IsInserted place (one scene.version scene.exprs w.before w.first w.picked w.last w.after) s) (sym whole) it in
      subst (λ (s : Scene). IsInserted place s scene) (sym w.bare_is) there

  -- the scene without it isn't refused where the scene isn't
  pub bare_accepted : first_refusal scene ≡ None → first_refusal bare ≡ None
  bare_accepted e = accepted_before place bare scene in_it e

  -- and the other way round, where it has few picks
  pub scene_accepted : first_refusal bare ≡ None → length (plan_of scene).picks ≤ 200000 → first_refusal scene ≡ None
  scene_accepted e few = accepted_after place bare scene in_it e (few_placed scene (subst (λ (xs : List ℕ). length xs ≤ 200000) (plan_picks scene) few))

  -- the plans are the same but for picks
  pub plan_without : record (plan_of scene) { picks = [] } ≡ record (plan_of bare) { picks = [] }
  plan_without = ap (λ (p : Plan). record p { picks = [] }) (plan_alike place bare scene in_it)
