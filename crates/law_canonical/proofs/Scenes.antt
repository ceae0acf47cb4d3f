-- What is read of a scene's lines, and of what they declare, is the same without line numbers.
use Rattle.std.proofs.Common.{◌≡◌, ℕ, suc, ◌+◌, cond, ◌&&◌, List, [], ◌∷◌, map, drop, fold, length, Option, Some, None, is_some, option_map, refl, ap, ◌∙◌}
use Rattle.std.specs.Prelude.{option_and_then}
use Rattle.std.specs.List.{cons_option, filter_map}
use Rattle.wdf_base.specs.SamePlan.{same_execution_level}
use Rattle.wdf_base.specs.declared.declared.ExecutionLevel.{ExecutionLevel}
use Rattle.wdf_scene.specs.declared.line.NumberedLine.{NumberedLine}
use Rattle.wdf_scene.specs.declared.line.SceneLine.{SceneLine}
use Rattle.wdf_scene.specs.declared.line.SceneLine.TheVariants as line
use Rattle.wdf_scene.specs.declared.scene.Scene.{Scene}
use Rattle.wdf_parse.specs.StandsFor.{without_number, without_numbers}
use Rattle.wdf_blocks.specs.declared.attribute.Attribute.{Attribute}
use Rattle.wdf_blocks.specs.declared.attribute.Attribute.TheVariants as attribute
use Rattle.wdf_blocks.specs.declared.declaration.Declaration.{Declaration}
use Rattle.wdf_blocks.specs.declared.declaration.Wanted.{Wanted}
use Rattle.wdf_blocks.specs.declared.declaration.Wanted.TheVariants as wanted
use Rattle.wdf_blocks.specs.declared.placed.Counts.{Counts}
use Rattle.wdf_blocks.specs.declared.placed.Placed.{Placed}
use Rattle.wdf_blocks.specs.declared.placed.Stand.{Stand}
use Rattle.wdf_blocks.specs.Blocks.{counts_for, depth_after, driver_line, effective_level, effective_scope, ends_block, form_at, given, given_from, given_level, given_scope, has_given, is_driver_line, level_in, scope_in}
use Rattle.wdf_blocks.specs.Declarations.{declarations, declared_by, declared_on, declares_object, found, has_name, is_parent_at, is_wanted, object_count, stands, suits}
use Rattle.wdf_blocks.specs.Forms.{assigned_name}
use Rattle.wdf_blocks.specs.Placed.{counted, nothing, opened_by, outside, placed, placed_from, placed_line}
use Rattle.wdf_blocks.specs.Variables.{assigned_from, variables, variables_at, with_assigned}
use Rattle.law_bare.proofs.Lists.{at_map, drop_map, find_map, mapped_some, position_map, then_same}
use Rattle.law_bare.proofs.Scenes.{variables_same}

-- a line of a scene where it is, and a declaration, without the number of its line
abbrev pub unplaced : Placed → Placed
unplaced p = record p { number = 0 }

abbrev pub undeclared : Declaration → Declaration
undeclared d = record d { number = 0 }

-- ---- where the lines are

placed_alike : (k : ℕ) (o : Stand) (c : Counts) (ls : List NumberedLine) → placed_from k o c (map without_number ls) ≡ map unplaced (placed_from k o c ls)
unfolding placed_from
placed_alike k o c [] = refl
placed_alike k o c (l ∷ ls) = ap (λ ps. placed_line k o c (without_number l) ∷ ps) (placed_alike (suc k) (opened_by o k l.form) (counted c l.form (length l.picks)) ls)

pub places_alike : (s : Scene) → placed (without_numbers s) ≡ map unplaced (placed s)
unfolding placed
places_alike s = placed_alike 0 outside nothing s.lines

-- ---- what they declare

declared_alike : (p : Placed) (form : SceneLine) → declared_by (unplaced p) form ≡ option_map undeclared (declared_by p form)
unfolding declared_by
declared_alike p (line.Class n k) = refl
declared_alike p (line.DeferredClass n k parent) = refl
declared_alike p (line.Device n working) = refl
declared_alike p (line.Queue n dispatch) = refl
declared_alike p (line.Interrupt n level) = refl
declared_alike p (line.Target n delay status depth) = refl
declared_alike p (line.Register n v) = refl
declared_alike p (line.App n) = refl
declared_alike p _ = refl

cons_map : (o : Option Declaration) (ds : List Declaration) → cons_option (option_map undeclared o) (map undeclared ds) ≡ map undeclared (cons_option o ds)
cons_map None ds = refl
cons_map (Some d) ds = refl

names_by : (ps : List Placed) → filter_map declared_on (map unplaced ps) ≡ map undeclared (filter_map declared_on ps)
names_by [] = refl
names_by (p ∷ ps) =
    ap (λ o. cons_option o (filter_map declared_on (map unplaced ps))) (declared_alike p p.form)
    ∙ ap (λ ds. cons_option (option_map undeclared (declared_by p p.form)) ds) (names_by ps)
    ∙ cons_map (declared_by p p.form) (filter_map declared_on ps)

pub names_alike : (s : Scene) → declarations (without_numbers s) ≡ map undeclared (declarations s)
unfolding declarations
names_alike s = ap (filter_map declared_on) (places_alike s) ∙ names_by (placed s)

suits_alike : (w : Wanted) (d : Declaration) → suits w (undeclared d) ≡ suits w d
suits_alike wanted.Anything d = refl
suits_alike wanted.Device d = refl
suits_alike wanted.Object d = refl
suits_alike wanted.Parent d = refl
suits_alike wanted.Register d = refl
suits_alike (wanted.RegisterOf v) d = refl
suits_alike (wanted.InterruptOf v) d = refl
suits_alike (wanted.ClassOf k) d = refl

pub wanted_alike : (n : List ℕ) (w : Wanted) (d : Declaration) → is_wanted n w (undeclared d) ≡ is_wanted n w d
wanted_alike n w d = ap (λ b. has_name n d && b) (suits_alike w d)

pub found_alike : (names : List Declaration) (n : List ℕ) (w : Wanted) → found (map undeclared names) n w ≡ option_map undeclared (found names n w)
unfolding found
found_alike names n w = find_map undeclared (is_wanted n w) (is_wanted n w) (wanted_alike n w) names

pub stands_alike : (names : List Declaration) (n : List ℕ) (w : Wanted) → stands (map undeclared names) n w ≡ stands names n w
unfolding stands found
stands_alike names n w = ap is_some (find_map undeclared (is_wanted n w) (is_wanted n w) (wanted_alike n w) names) ∙ mapped_some undeclared (found names n w)

objects_from : (a : ℕ) (ds : List Declaration) → fold (λ n d. n + cond (declares_object d) 1 0) a (map undeclared ds) ≡ fold (λ n d. n + cond (declares_object d) 1 0) a ds
objects_from a [] = refl
objects_from a (d ∷ ds) = objects_from (a + cond (declares_object d) 1 0) ds

pub objects_alike : (names : List Declaration) → object_count (map undeclared names) ≡ object_count names
unfolding object_count
objects_alike names = objects_from 0 names

-- ---- what a block is given

given_by : (a : Attribute) (depth k : ℕ) (ls : List NumberedLine) → given_from a depth k (map without_number ls) ≡ given_from a depth k ls
unfolding given_from
given_by a depth k [] = refl
given_by a depth k (l ∷ ls) = ap (λ o. cond (counts_for a depth l.form) (Some k) (cond (ends_block depth l.form) None o)) (given_by a (depth_after depth l.form) (suc k) ls)

module _ (s : Scene) where
  abbrev pub bare : Scene
  bare = without_numbers s

  pub given_alike : (b : ℕ) (a : Attribute) → given bare b a ≡ given s b a
  unfolding given
  given_alike b a = ap (given_from a 0 (suc b)) (drop_map without_number (suc b) s.lines) ∙ given_by a 0 (suc b) (drop (suc b) s.lines)

  pub has_given_alike : (b : ℕ) (a : Attribute) → has_given bare b a ≡ has_given s b a
  unfolding has_given
  has_given_alike b a = ap is_some (given_alike b a)

  pub form_alike : (k : ℕ) → form_at bare k ≡ form_at s k
  unfolding form_at
  form_alike k = at_map without_number (λ l. l.form) (λ l. refl) s.lines k

  pub block_alike : (o : Option ℕ) → option_and_then (form_at bare) o ≡ option_and_then (form_at s) o
  block_alike = then_same (form_at bare) (form_at s) form_alike

  pub level_alike : (b : ℕ) → given_level bare b ≡ given_level s b
  unfolding given_level
  level_alike b = ap (λ o. option_and_then level_in (option_and_then (form_at bare) o)) (given_alike b attribute.Level) ∙ ap (option_and_then level_in) (block_alike (given s b attribute.Level))

  level_of_any : (o : Option ℕ) → option_and_then (given_level bare) o ≡ option_and_then (given_level s) o
  level_of_any = then_same (given_level bare) (given_level s) level_alike

  driver_alike : driver_line bare ≡ driver_line s
  unfolding driver_line
  driver_alike = position_map without_number is_driver_line is_driver_line (λ l. refl) s.lines

  pub effective_alike : (b : ℕ) (device : Option ℕ) → effective_level bare b device ≡ effective_level s b device
  unfolding effective_level
  effective_alike b device = rw (level_alike b, level_of_any device, driver_alike, level_of_any (driver_line s)) refl

  scope_alike : (b : ℕ) → given_scope bare b ≡ given_scope s b
  unfolding given_scope
  scope_alike b = ap (λ o. option_and_then scope_in (option_and_then (form_at bare) o)) (given_alike b attribute.Scope) ∙ ap (option_and_then scope_in) (block_alike (given s b attribute.Scope))

  scope_of_any : (o : Option ℕ) → option_and_then (given_scope bare) o ≡ option_and_then (given_scope s) o
  scope_of_any = then_same (given_scope bare) (given_scope s) scope_alike

  pub effective_scope_alike : (b : ℕ) (device : Option ℕ) → effective_scope bare b device ≡ effective_scope s b device
  unfolding effective_scope
  effective_scope_alike b device = rw (scope_alike b, scope_of_any device, driver_alike, scope_of_any (driver_line s)) refl

  pub parent_level_alike : (l : ExecutionLevel) (n : List ℕ) (d : Declaration) → is_parent_at bare l n (undeclared d) ≡ is_parent_at s l n d
  parent_level_alike l n d = ap (λ e. is_wanted n wanted.Parent d && same_execution_level e l) (effective_alike d.at d.device)

  -- ---- variables

  assigned_alike : (names : List (List ℕ)) (depth : ℕ) (ls : List NumberedLine) → assigned_from names depth (map without_number ls) ≡ assigned_from names depth ls
  unfolding assigned_from
  assigned_alike names depth [] = refl
  assigned_alike names depth (l ∷ ls) = ap (λ ns. cond (ends_block depth l.form) names ns) (assigned_alike (with_assigned names (assigned_name l.form)) (depth_after depth l.form) ls)

  pub variables_of : (k : ℕ) → variables bare k ≡ variables s k
  unfolding variables
  variables_of k = ap (assigned_from [] 0) (drop_map without_number (suc k) s.lines) ∙ assigned_alike [] 0 (drop (suc k) s.lines)

  pub variables_alike : (p : Placed) → variables_at bare (unplaced p) ≡ variables_at s p
  variables_alike p = variables_same s bare variables_of p (unplaced p) refl
