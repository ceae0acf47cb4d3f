-- The numbers that stand for names are the same where the lines are at other places.
use Rattle.std.proofs.Common.{◌≡◌, ℕ, suc, ◌==◌, cond, List, [], ◌∷◌, map, Option, Some, None, option_map, refl, ap, ◌∙◌}
use Rattle.wdf_base.specs.Same.{same_option}
use Rattle.wdf_scene.specs.declared.line.SceneAction.{SceneAction}
use Rattle.wdf_scene.specs.declared.line.SceneAction.TheVariants as scene_action
use Rattle.wdf_blocks.specs.declared.declaration.Declaration.{Declaration}
use Rattle.wdf_blocks.specs.declared.declaration.Wanted.{Wanted}
use Rattle.wdf_blocks.specs.declared.declaration.Wanted.TheVariants as wanted
use Rattle.wdf_blocks.specs.Declarations.{found, has_name}
use Rattle.wdf_refusals.specs.Names.{place_from}
use Rattle.wdf_refusals.specs.Numbers.{action_of, handle_of, name_number, number_of, numbered, order_of}
use Rattle.law_order.proofs.Moves.{found_alike, moved_declared, moved_names, moved_wanted}

module _ (to : ℕ → ℕ) where
  place_alike : (n : List ℕ) (k : ℕ) (ds : List Declaration) → place_from (has_name n) k (map (moved_declared to) ds) ≡ place_from (has_name n) k ds
  place_alike n k [] = refl
  place_alike n k (d ∷ ds) = ap (λ o. cond (has_name n d) (Some k) o) (place_alike n (suc k) ds)

  order_alike : (o : Option Declaration) → order_of (option_map (moved_declared to) o) ≡ order_of o
  order_alike None = refl
  order_alike (Some d) = refl

  module _ (same : (a b : Option ℕ) → same_option ◌==◌ (option_map to a) (option_map to b) ≡ same_option ◌==◌ a b) (names : List Declaration) where
    pub name_alike : (n : List ℕ) → name_number (moved_names to names) n ≡ name_number names n
    unfolding name_number
    name_alike n = ap numbered (place_alike n 0 names)

    pub number_alike : (n : List ℕ) (w : Wanted) → number_of (moved_names to names) n (moved_wanted to w) ≡ number_of names n w
    unfolding number_of
    number_alike n w = ap order_of (found_alike to same names n w) ∙ order_alike (found names n w)

    pub handle_alike : (n : List ℕ) (w : Wanted) → handle_of (moved_names to names) n (moved_wanted to w) ≡ handle_of names n w
    unfolding handle_of
    handle_alike n w = rw (number_alike n w, name_alike n) refl

    pub act_alike : (device : Option ℕ) (a : SceneAction) → action_of (moved_names to names) (option_map to device) a ≡ action_of names device a
    unfolding action_of
    act_alike device (scene_action.Set r v) = rw (number_alike r (wanted.RegisterOf device)) refl
    act_alike device (scene_action.Raise i) = rw (handle_alike i (wanted.InterruptOf device)) refl
    act_alike device (scene_action.Lower i) = rw (handle_alike i (wanted.InterruptOf device)) refl
