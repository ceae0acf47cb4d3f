-- The first reason why a scene has no plan.
use Rattle.std.specs.Prelude.{Bool, ℕ, cond, List, [], ◌∷◌, Option, Some, None}
use Rattle.std.specs.Option.{option_or}
use Rattle.wdf_scene.specs.declared.scene.Scene.{Scene}
use Rattle.wdf_blocks.specs.declared.declaration.Declaration.{Declaration}
use Rattle.wdf_refusals.specs.declared.limit.Limit.{Limit}
use Rattle.wdf_blocks.specs.declared.placed.Placed.{Placed}
use Rattle.wdf_refusals.specs.declared.refusal.PlanRefusal.{PlanRefusal}
use Rattle.wdf_refusals.specs.declared.refusal.PlanRefusal.TheVariants as refusal
use Rattle.wdf_blocks.specs.Declarations.{declarations}
use Rattle.wdf_refusals.specs.Limits.{exceeded}
use Rattle.wdf_blocks.specs.Placed.{placed}
use Rattle.wdf_refusals.specs.Rows.{unknown_name, twice_named, wrong_callback, incompatible_level, no_parent}
use Rattle.wdf_blocks.specs.Variables.{variables_at}

-- a refusal, if its test holds
abbrev pub if_holds : Bool → PlanRefusal → Option PlanRefusal
if_holds holds r = cond holds (Some r) None

-- a name or an attribute is given twice
abbrev pub if_twice : ℕ → Option ℕ → Option PlanRefusal
if_twice line None = None
if_twice line (Some first) = Some (refusal.TwiceNamed line first)

-- a limit is exceeded
abbrev pub if_over : ℕ → Option Limit → Option PlanRefusal
if_over line None = None
if_over line (Some limit) = Some (refusal.OverLimit line limit)

-- the refusal of a line: of several the first in this order
unfoldable pub refused : Scene → List Declaration → List (List ℕ) → Placed → Option PlanRefusal
refused scene names variables p =
    option_or (if_holds (unknown_name scene names variables p) (refusal.UnknownName p.number))
    (option_or (if_twice p.number (twice_named scene names p))
    (option_or (if_holds (wrong_callback scene p p.form) (refusal.WrongCallback p.number))
    (option_or (if_over p.number (exceeded names variables p))
    (option_or (if_holds (incompatible_level scene names p p.form) (refusal.IncompatibleLevel p.number))
    (if_holds (no_parent names p.form) (refusal.NoParent p.number))))))

-- the refusal of a line where it is in the scene
unfoldable pub refused_at : Scene → Placed → Option PlanRefusal
refused_at scene p = refused scene (declarations scene) (variables_at scene p) p

-- what the first line has that has one
abbrev pub first_some : {X Y : Type 0} → (X → Option Y) → List X → Option Y
first_some f [] = None
first_some f (x ∷ xs) = option_or (f x) (first_some f xs)

-- the refusal of the first line that has one
unfoldable pub first_refusal : Scene → Option PlanRefusal
first_refusal scene = first_some (refused_at scene) (placed scene)
