-- A scene with an `order` block and the scene without it, line by line; and what is gathered of their lines.
use Rattle.std.proofs.Common.{◌≡◌, ℕ, true, List, [], ◌∷◌, ◌++◌, map, Option, Some, None, refl, sym, ap, ◌∙◌}
use Rattle.std.specs.List.{cons_option, filter_map, flat_map}
use Rattle.std.proofs.lemmas.List.Concat.{flat_map-append}
use Rattle.std.proofs.lemmas.List.Elements.{filter_map-append}
use Rattle.wdf_scene.specs.declared.line.SceneLine.TheVariants as line
use Rattle.wdf_scene.specs.declared.scene.Scene.{Scene}
use Rattle.wdf_base.specs.declared.call.Callback.{Callback}
use Rattle.wdf_blocks.specs.declared.declaration.Declaration.{Declaration}
use Rattle.wdf_blocks.specs.declared.placed.Placed.{Placed}
use Rattle.wdf_blocks.specs.Blocks.{form_at}
use Rattle.wdf_blocks.specs.Placed.{placed}
use Rattle.wdf_refusals.specs.Numbered.{Every}
use Rattle.wdf_plan.specs.Scripts.{statements_of}
use Rattle.law_order.proofs.Moves.{IsMoved, moved_placed}
use Rattle.law_order.proofs.Refusals.{is_of_order}

-- a line is where it says
abbrev pub IsThere : Scene → Placed → Type 0
IsThere scene p = form_at scene p.at ≡ Some p.form

-- the lines of the second scene are those of the first, at new places, with an `order` block between them
pub record IsInserted (to : ℕ → ℕ) (one two : Scene) : Type 0 where
  pub moved : IsMoved to one two
  pub before : List Placed
  pub block : List Placed
  pub after : List Placed
  pub more : ℕ
  pub one_is : placed one ≡ before ++ after
  pub two_is : placed two ≡ map (moved_placed to 0) before ++ (block ++ map (moved_placed to more) after)
  pub of_order : Every (λ p. is_of_order p.form ≡ true) block
  pub before_there : Every (IsThere one) before
  pub after_there : Every (IsThere one) after
  pub first : form_at two 0 ≡ form_at one 0
  pub second : form_at two 1 ≡ form_at one 1
  pub third : form_at two 2 ≡ form_at one 2
  pub statements : (names : List Declaration) (k : ℕ) (c : Callback) → form_at one k ≡ Some (line.On c) → statements_of two names (to k) ≡ statements_of one names k

-- ---- what is gathered

module _ {Y : Type 0} where
  pub none_gathered : (f : Placed → Option Y) → ((p : Placed) → is_of_order p.form ≡ true → f p ≡ None) → (ps : List Placed) → Every (λ p. is_of_order p.form ≡ true) ps → filter_map f ps ≡ []
  none_gathered f inert [] h = refl
  none_gathered f inert (p ∷ ps) h = ap (λ o. cons_option o (filter_map f ps)) (inert p h.0) ∙ none_gathered f inert ps h.1

  gathered_moved : (u : Placed → Placed) (P : Placed → Type 0) (f g : Placed → Option Y) → ((p : Placed) → P p → f (u p) ≡ g p) → (ps : List Placed) → Every P ps → filter_map f (map u ps) ≡ filter_map g ps
  gathered_moved u P f g same [] h = refl
  gathered_moved u P f g same (p ∷ ps) h = ap (λ o. cons_option o (filter_map f (map u ps))) (same p h.0) ∙ ap (cons_option (g p)) (gathered_moved u P f g same ps h.1)

  nothing_in : (f : Placed → List Y) → ((p : Placed) → is_of_order p.form ≡ true → f p ≡ []) → (ps : List Placed) → Every (λ p. is_of_order p.form ≡ true) ps → flat_map f ps ≡ []
  nothing_in f inert [] h = refl
  nothing_in f inert (p ∷ ps) h = ap (λ ys. ys ++ flat_map f ps) (inert p h.0) ∙ nothing_in f inert ps h.1

  flat_moved : (u : Placed → Placed) (f g : Placed → List Y) → ((p : Placed) → f (u p) ≡ g p) → (ps : List Placed) → flat_map f (map u ps) ≡ flat_map g ps
  flat_moved u f g same [] = refl
  flat_moved u f g same (p ∷ ps) = ap (λ ys. ys ++ flat_map f (map u ps)) (same p) ∙ ap (λ ys. g p ++ ys) (flat_moved u f g same ps)

  module _ (to : ℕ → ℕ) (one two : Scene) (i : IsInserted to one two) where
    -- what an `order` block gives nothing to, and what is the same of each other line
    pub gathered : (f g : Placed → Option Y) → ((n : ℕ) (p : Placed) → IsThere one p → f (moved_placed to n p) ≡ g p) → ((p : Placed) → is_of_order p.form ≡ true → f p ≡ None) → filter_map f (placed two) ≡ filter_map g (placed one)
    gathered f g same inert =
        let u = moved_placed to 0 in
        let v = moved_placed to i.more in
        ap (filter_map f) i.two_is
        ∙ filter_map-append f (map u i.before) (i.block ++ map v i.after)
        ∙ ap (λ ys. filter_map f (map u i.before) ++ ys)
        (filter_map-append f i.block (map v i.after) ∙ ap (λ ys. ys ++ filter_map f (map v i.after)) (none_gathered f inert i.block i.of_order) ∙ gathered_moved v (IsThere one) f g (same i.more) i.after i.after_there)
        ∙ ap (λ ys. ys ++ filter_map g i.after) (gathered_moved u (IsThere one) f g (same 0) i.before i.before_there)
        ∙ sym (filter_map-append g i.before i.after)
        ∙ ap (filter_map g) (sym i.one_is)

    pub flat : (f g : Placed → List Y) → ((n : ℕ) (p : Placed) → f (moved_placed to n p) ≡ g p) → ((p : Placed) → is_of_order p.form ≡ true → f p ≡ []) → flat_map f (placed two) ≡ flat_map g (placed one)
    flat f g same inert =
        let u = moved_placed to 0 in
        let v = moved_placed to i.more in
        ap (flat_map f) i.two_is
        ∙ flat_map-append f (map u i.before) (i.block ++ map v i.after)
        ∙ ap (λ ys. flat_map f (map u i.before) ++ ys)
        (flat_map-append f i.block (map v i.after) ∙ ap (λ ys. ys ++ flat_map f (map v i.after)) (nothing_in f inert i.block i.of_order) ∙ flat_moved v f g (same i.more) i.after)
        ∙ ap (λ ys. ys ++ flat_map g i.after) (flat_moved u f g (same 0) i.before)
        ∙ sym (flat_map-append g i.before i.after)
        ∙ ap (flat_map g) (sym i.one_is)
