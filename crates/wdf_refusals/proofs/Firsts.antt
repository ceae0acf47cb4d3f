-- The search for the first line that is refused.
use Rattle.std.proofs.Common.{◌≡◌, ℕ, List, [], ◌∷◌, Option, Some, None, refl}
use Rattle.wdf_scene.specs.declared.scene.Scene.{Scene}
use Rattle.wdf_blocks.specs.declared.declaration.Declaration.{Declaration}
use Rattle.wdf_blocks.specs.declared.placed.Placed.{Placed}
use Rattle.wdf_refusals.specs.declared.refusal.PlanRefusal.{PlanRefusal}
use Rattle.wdf_blocks.specs.Declarations.{declarations}
use Rattle.wdf_refusals.specs.First.{refused, refused_at, first_refusal}
use Rattle.wdf_blocks.specs.Placed.{placed}
use Rattle.wdf_blocks.specs.Variables.{variables_at, variables_in}
use Rattle.wdf_refusals.proofs.Gather.{IsSought, seek_more, seek_found}

-- no line before these was refused, and the variables are this callback's
pub record IsUnderway (scene : Scene) (rest : List Placed) (callback : Option ℕ) (variables : List (List ℕ)) : Type 0 where
  pub sought : IsSought (refused_at scene) rest (first_refusal scene)
  pub own : variables ≡ variables_in scene callback

-- the search begins
pub underway_begins : (scene : Scene) (rest : List Placed) (variables : List (List ℕ)) → rest ≡ placed scene → variables ≡ [] → IsUnderway scene rest None variables
unfolding first_refusal variables_in
underway_begins scene rest variables all none' =
    record { sought = record { is = rw all refl }; own = none' }

here : (scene : Scene) (names : List Declaration) (variables : List (List ℕ)) (p : Placed) (o : Option PlanRefusal) → names ≡ declarations scene → variables ≡ variables_in scene p.stand.callback → o ≡ refused scene names variables p → o ≡ refused_at scene p
unfolding refused_at variables_at
here scene names variables p o declares own is = rw (is, declares, own) refl

-- it goes on after a line that isn't refused
pub underway_more : (scene : Scene) (names : List Declaration) (rest rest' : List Placed) (callback : Option ℕ) (variables variables' : List (List ℕ)) (p : Placed) (o : Option PlanRefusal) → IsUnderway scene rest callback variables → names ≡ declarations scene → rest ≡ p ∷ rest' → variables' ≡ variables_in scene p.stand.callback → o ≡ refused scene names variables' p → o ≡ None → IsUnderway scene rest' p.stand.callback variables'
underway_more scene names rest rest' callback variables variables' p o u declares next own is none' =
    record {
      sought = seek_more (refused_at scene) rest rest' (first_refusal scene) o p u.sought next (here scene names variables' p o declares own is) none';
      own = own;
    }

-- it ends at one that is
pub underway_found : (scene : Scene) (names : List Declaration) (rest rest' : List Placed) (callback : Option ℕ) (variables variables' : List (List ℕ)) (p : Placed) (o : Option PlanRefusal) (r : PlanRefusal) → IsUnderway scene rest callback variables → names ≡ declarations scene → rest ≡ p ∷ rest' → variables' ≡ variables_in scene p.stand.callback → o ≡ refused scene names variables' p → o ≡ Some r → Some r ≡ first_refusal scene
underway_found scene names rest rest' callback variables variables' p o r u declares next own is found =
    seek_found (refused_at scene) rest rest' (first_refusal scene) o p r u.sought next (here scene names variables' p o declares own is) found
