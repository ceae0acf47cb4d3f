-- Whether a line is refused is the same without line numbers.
use Rattle.std.proofs.Common.{◌≡◌, ℕ, Bool, true, false, not, ◌||◌, nat_le, nat_lt, List, [], ◌∷◌, map, Option, Some, None, is_some, option_map, refl, sym, ap, ◌∙◌}
use Rattle.std.specs.Prelude.{option_and_then}
use Rattle.std.specs.Option.{option_or}
use Rattle.wdf_base.specs.Resolved.{is_from}
use Rattle.wdf_scene.specs.declared.line.SceneLine.{SceneLine}
use Rattle.wdf_scene.specs.declared.line.SceneLine.TheVariants as line
use Rattle.wdf_scene.specs.declared.scene.Scene.{Scene}
use Rattle.wdf_scene.specs.Naming.{declared_name}
use Rattle.wdf_parse.specs.StandsFor.{without_numbers}
use Rattle.wdf_blocks.specs.declared.attribute.Attribute.{Attribute}
use Rattle.wdf_blocks.specs.declared.declaration.Declaration.{Declaration}
use Rattle.wdf_blocks.specs.declared.declaration.Wanted.{Wanted}
use Rattle.wdf_blocks.specs.declared.declaration.Wanted.TheVariants as wanted
use Rattle.wdf_blocks.specs.declared.placed.Placed.{Placed}
use Rattle.wdf_blocks.specs.Attribute.{attribute_of}
use Rattle.wdf_blocks.specs.Blocks.{given, number_at}
use Rattle.wdf_blocks.specs.Declarations.{declarations, has_name, stands}
use Rattle.wdf_blocks.specs.Forms.{assigned_name}
use Rattle.wdf_blocks.specs.Placed.{placed}
use Rattle.wdf_blocks.specs.Variables.{variables_at}
use Rattle.wdf_refusals.specs.declared.limit.Limit.{Limit}
use Rattle.wdf_refusals.specs.declared.limit.Limit.TheVariants as limit
use Rattle.wdf_refusals.specs.declared.limit.TheConstants.{LIMITS}
use Rattle.wdf_refusals.specs.declared.refusal.PlanRefusal.{PlanRefusal}
use Rattle.wdf_refusals.specs.declared.refusal.PlanRefusal.TheVariants as refusal
use Rattle.wdf_refusals.specs.First.{first_refusal, first_some, if_holds, if_over, if_twice, refused, refused_at}
use Rattle.wdf_refusals.specs.Limits.{exceeded, exceeds, over_objects}
use Rattle.wdf_refusals.specs.Rows.{earlier_line, first_line, given_line, home, incompatible_level, no_parent, nodes_of, reserved_line, taken_line, twice_assigned, twice_attribute, twice_declared, twice_given, twice_named, unknown_name, wrong_callback}
use Rattle.law_bare.proofs.Lists.{cond_alike, find_map, find_same, none_by, or_alike, then_same}
use Rattle.law_bare.proofs.Scenes.{AreReadAlike, IsPlaceOf, callback_alike, incompatible_alike, no_parent_alike, unknown_alike, wanted_by}
use Rattle.law_canonical.proofs.Scenes.{block_alike, given_alike, has_given_alike, names_alike, objects_alike, parent_level_alike, places_alike, stands_alike, undeclared, unplaced, variables_alike}

-- ---- the six reasons

abbrev unknown_part : Scene → List Declaration → List (List ℕ) → Placed → Option PlanRefusal
unknown_part s names variables p = if_holds (unknown_name s names variables p) (refusal.UnknownName p.number)

abbrev twice_part : Scene → List Declaration → Placed → Option PlanRefusal
twice_part s names p = if_twice p.number (twice_named s names p)

abbrev callback_part : Scene → Placed → Option PlanRefusal
callback_part s p = if_holds (wrong_callback s p p.form) (refusal.WrongCallback p.number)

abbrev limit_part : List Declaration → List (List ℕ) → Placed → Option PlanRefusal
limit_part names variables p = if_over p.number (exceeded names variables p)

abbrev level_part : Scene → List Declaration → Placed → Option PlanRefusal
level_part s names p = if_holds (incompatible_level s names p p.form) (refusal.IncompatibleLevel p.number)

abbrev parent_part : List Declaration → Placed → Option PlanRefusal
parent_part names p = if_holds (no_parent names p.form) (refusal.NoParent p.number)

abbrev from_level : Scene → List Declaration → Placed → Option PlanRefusal
from_level s names p = option_or (level_part s names p) (parent_part names p)

abbrev from_limit : Scene → List Declaration → List (List ℕ) → Placed → Option PlanRefusal
from_limit s names variables p = option_or (limit_part names variables p) (from_level s names p)

abbrev from_callback : Scene → List Declaration → List (List ℕ) → Placed → Option PlanRefusal
from_callback s names variables p = option_or (callback_part s p) (from_limit s names variables p)

abbrev from_twice : Scene → List Declaration → List (List ℕ) → Placed → Option PlanRefusal
from_twice s names variables p = option_or (twice_part s names p) (from_callback s names variables p)

-- ---- names that stand for the same

module _ (names : List Declaration) where
  abbrev bare_names : List Declaration
  bare_names = map undeclared names

  same : (n : List ℕ) (w : Wanted) → stands bare_names n (wanted_by (λ o. o) w) ≡ stands names n w
  same n (wanted.RegisterOf device) = stands_alike names n (wanted.RegisterOf device)
  same n (wanted.InterruptOf device) = stands_alike names n (wanted.InterruptOf device)
  same n wanted.Anything = stands_alike names n wanted.Anything
  same n wanted.Device = stands_alike names n wanted.Device
  same n wanted.Object = stands_alike names n wanted.Object
  same n wanted.Parent = stands_alike names n wanted.Parent
  same n wanted.Register = stands_alike names n wanted.Register
  same n (wanted.ClassOf k) = stands_alike names n (wanted.ClassOf k)

  first_line_alike : (n : List ℕ) → first_line bare_names n ≡ option_map undeclared (first_line names n)
  unfolding first_line
  first_line_alike n = find_map undeclared (has_name n) (has_name n) (λ d. refl) names

  earlier_alike : (at : ℕ) (n : List ℕ) (o : Option Declaration) → is_some (earlier_line at n (option_map undeclared o)) ≡ is_some (earlier_line at n o)
  earlier_alike at n None = refl
  earlier_alike at n (Some d) = cond_alike (nat_lt d.at at) 0 d.number (reserved_line n)

  taken_alike : (n : List ℕ) (o : Option Declaration) → is_some (taken_line n (option_map undeclared o)) ≡ is_some (taken_line n o)
  taken_alike n None = refl
  taken_alike n (Some d) = refl

  -- ---- limits

  over_objects_alike : (form : SceneLine) → over_objects bare_names form ≡ over_objects names form
  unfolding over_objects
  over_objects_alike (line.Objects n) = ap (λ c. not (is_from 1 4096 n) || nat_le n c) (objects_alike names)
  over_objects_alike _ = refl

  exceeds_alike : (variables : List (List ℕ)) (p : Placed) (l : Limit) → exceeds bare_names variables (unplaced p) l ≡ exceeds names variables p l
  unfolding exceeds
  exceeds_alike variables p limit.Objects = over_objects_alike p.form
  exceeds_alike variables p _ = refl

  exceeded_alike : (variables : List (List ℕ)) (p : Placed) → exceeded bare_names variables (unplaced p) ≡ exceeded names variables p
  unfolding exceeded
  exceeded_alike variables p = find_same (exceeds bare_names variables (unplaced p)) (exceeds names variables p) (exceeds_alike variables p) LIMITS

  -- ---- the lines of a scene

  module _ (s : Scene) where
    abbrev bare : Scene
    bare = without_numbers s

    pub nodes_alike : (p : Placed) → nodes_of bare (unplaced p) ≡ nodes_of s p
    unfolding nodes_of
    nodes_alike p = refl

    read : AreReadAlike (λ o. o) (λ k. k) undeclared s bare
    read = record { block = block_alike s; has = has_given_alike s; parent = parent_level_alike s }

    stays : (p : Placed) → IsPlaceOf (λ o. o) (λ k. k) p (unplaced p)
    stays p = record { at = refl; block = refl; device = refl }

    -- ---- names and attributes that are given twice

    given_line_alike : (at : ℕ) (o : Option ℕ) → is_some (given_line bare at o) ≡ is_some (given_line s at o)
    given_line_alike at None = refl
    given_line_alike at (Some k) = cond_alike (nat_lt k at) (number_at bare k) (number_at s k) None

    twice_given_alike : (p : Placed) (a : Attribute) → is_some (twice_given bare (unplaced p) a) ≡ is_some (twice_given s p a)
    unfolding twice_given
    twice_given_alike p a = ap (λ o. is_some (given_line bare p.at o)) (then_same (λ b. given bare b a) (λ b. given s b a) (λ b. given_alike s b a) (home p a)) ∙ given_line_alike p.at (option_and_then (λ b. given s b a) (home p a))

    attribute_alike : (p : Placed) (o : Option Attribute) → is_some (twice_attribute bare (unplaced p) o) ≡ is_some (twice_attribute s p o)
    attribute_alike p None = refl
    attribute_alike p (Some a) = twice_given_alike p a

    assigned_twice : (p : Placed) (o : Option (List ℕ)) → is_some (twice_assigned bare bare_names (unplaced p) o) ≡ is_some (twice_assigned s names p o)
    assigned_twice p None = attribute_alike p (attribute_of p.form)
    assigned_twice p (Some n) = ap (λ o. is_some (taken_line n o)) (first_line_alike n) ∙ taken_alike n (first_line names n)

    declared_twice : (p : Placed) (o : Option (List ℕ)) → is_some (twice_declared bare bare_names (unplaced p) o) ≡ is_some (twice_declared s names p o)
    declared_twice p None = assigned_twice p (assigned_name p.form)
    declared_twice p (Some n) = ap (λ o. is_some (earlier_line p.at n o)) (first_line_alike n) ∙ earlier_alike p.at n (first_line names n)

    twice_alike : (p : Placed) → is_some (twice_named bare bare_names (unplaced p)) ≡ is_some (twice_named s names p)
    unfolding twice_named
    twice_alike p = declared_twice p (declared_name p.form)

    -- ---- a line is refused

    holds_is : (b : Bool) (r : PlanRefusal) → is_some (if_holds b r) ≡ b
    holds_is true r = refl
    holds_is false r = refl

    holds_alike : (b c : Bool) (r q : PlanRefusal) → b ≡ c → is_some (if_holds b r) ≡ is_some (if_holds c q)
    holds_alike b c r q e = holds_is b r ∙ e ∙ sym (holds_is c q)

    twice_is : (n : ℕ) (o : Option ℕ) → is_some (if_twice n o) ≡ is_some o
    twice_is n None = refl
    twice_is n (Some k) = refl

    over_is : (n : ℕ) (o : Option Limit) → is_some (if_over n o) ≡ is_some o
    over_is n None = refl
    over_is n (Some l) = refl

    unknown_is : (variables : List (List ℕ)) (p : Placed) → is_some (unknown_part bare bare_names variables (unplaced p)) ≡ is_some (unknown_part s names variables p)
    unknown_is variables p =
        holds_alike (unknown_name bare bare_names variables (unplaced p)) (unknown_name s names variables p) (refusal.UnknownName 0) (refusal.UnknownName p.number) (unknown_alike (λ o. o) names bare_names same s bare variables p (unplaced p) refl refl (nodes_alike p))

    given_twice_is : (p : Placed) → is_some (twice_part bare bare_names (unplaced p)) ≡ is_some (twice_part s names p)
    given_twice_is p = twice_is 0 (twice_named bare bare_names (unplaced p)) ∙ twice_alike p ∙ sym (twice_is p.number (twice_named s names p))

    callback_is : (p : Placed) → is_some (callback_part bare (unplaced p)) ≡ is_some (callback_part s p)
    callback_is p = holds_alike (wrong_callback bare (unplaced p) p.form) (wrong_callback s p p.form) (refusal.WrongCallback 0) (refusal.WrongCallback p.number) (callback_alike (λ o. o) (λ k. k) undeclared s bare read p (unplaced p) (stays p) p.form)

    limit_is : (variables : List (List ℕ)) (p : Placed) → is_some (limit_part bare_names variables (unplaced p)) ≡ is_some (limit_part names variables p)
    limit_is variables p = over_is 0 (exceeded bare_names variables (unplaced p)) ∙ ap is_some (exceeded_alike variables p) ∙ sym (over_is p.number (exceeded names variables p))

    level_is : (p : Placed) → is_some (level_part bare bare_names (unplaced p)) ≡ is_some (level_part s names p)
    level_is p =
        holds_alike (incompatible_level bare bare_names (unplaced p) p.form) (incompatible_level s names p p.form) (refusal.IncompatibleLevel 0) (refusal.IncompatibleLevel p.number) (incompatible_alike (λ o. o) (λ k. k) undeclared s bare read names same p (unplaced p) (stays p) p.form)

    parent_is : (p : Placed) → is_some (parent_part bare_names (unplaced p)) ≡ is_some (parent_part names p)
    parent_is p = holds_alike (no_parent bare_names p.form) (no_parent names p.form) (refusal.NoParent 0) (refusal.NoParent p.number) (no_parent_alike (λ o. o) names bare_names same p.form)

    refused_alike : (variables : List (List ℕ)) (p : Placed) → is_some (refused bare bare_names variables (unplaced p)) ≡ is_some (refused s names variables p)
    unfolding refused
    refused_alike variables p =
        or_alike (unknown_part bare bare_names variables (unplaced p)) (from_twice bare bare_names variables (unplaced p)) (unknown_part s names variables p) (from_twice s names variables p) (unknown_is variables p)
        (or_alike (twice_part bare bare_names (unplaced p)) (from_callback bare bare_names variables (unplaced p)) (twice_part s names p) (from_callback s names variables p) (given_twice_is p)
        (or_alike (callback_part bare (unplaced p)) (from_limit bare bare_names variables (unplaced p)) (callback_part s p) (from_limit s names variables p) (callback_is p)
        (or_alike (limit_part bare_names variables (unplaced p)) (from_level bare bare_names (unplaced p)) (limit_part names variables p) (from_level s names p) (limit_is variables p)
        (or_alike (level_part bare bare_names (unplaced p)) (parent_part bare_names (unplaced p)) (level_part s names p) (parent_part names p) (level_is p) (parent_is p)))))

-- ---- the first refusal

module _ (s : Scene) where
  at_alike : (p : Placed) → is_some (refused_at (without_numbers s) (unplaced p)) ≡ is_some (refused_at s p)
  unfolding refused_at
  at_alike p =
      ap (λ ds. is_some (refused (without_numbers s) ds (variables_at (without_numbers s) (unplaced p)) (unplaced p))) (names_alike s)
      ∙ ap (λ vs. is_some (refused (without_numbers s) (map undeclared (declarations s)) vs (unplaced p))) (variables_alike s p)
      ∙ refused_alike (declarations s) s (variables_at s p) p

  first_by : (ps : List Placed) → is_some (first_some (refused_at (without_numbers s)) (map unplaced ps)) ≡ is_some (first_some (refused_at s) ps)
  first_by [] = refl
  first_by (p ∷ ps) = or_alike (refused_at (without_numbers s) (unplaced p)) (first_some (refused_at (without_numbers s)) (map unplaced ps)) (refused_at s p) (first_some (refused_at s) ps) (at_alike p) (first_by ps)

  first_alike : is_some (first_refusal (without_numbers s)) ≡ is_some (first_refusal s)
  unfolding first_refusal
  first_alike = ap (λ ps. is_some (first_some (refused_at (without_numbers s)) ps)) (places_alike s) ∙ first_by (placed s)

pub refusals_alike : (a b : Scene) → without_numbers a ≡ without_numbers b → first_refusal a ≡ None → first_refusal b ≡ None
refusals_alike a b e none = none_by (first_refusal a) (first_refusal b) (sym (first_alike a) ∙ ap (λ s. is_some (first_refusal s)) e ∙ first_alike b) none
