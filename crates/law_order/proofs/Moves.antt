-- What is read of a scene's lines, and of what they declare, is the same where the lines are at other places.
use Rattle.std.proofs.Common.{◌≡◌, ℕ, ◌+◌, ◌==◌, cond, ◌&&◌, nat_lt, List, [], ◌∷◌, map, fold, Option, Some, None, is_some, option_map, refl, ap, ◌∙◌}
use Rattle.std.specs.Prelude.{option_and_then}
use Rattle.wdf_base.specs.Same.{same_option}
use Rattle.wdf_base.specs.SamePlan.{same_execution_level}
use Rattle.wdf_base.specs.declared.declared.ExecutionLevel.{ExecutionLevel}
use Rattle.wdf_scene.specs.declared.line.SceneLine.{SceneLine}
use Rattle.wdf_scene.specs.declared.line.SceneLine.TheVariants as line
use Rattle.wdf_scene.specs.declared.scene.Scene.{Scene}
use Rattle.wdf_blocks.specs.declared.attribute.Attribute.{Attribute}
use Rattle.wdf_blocks.specs.declared.attribute.Attribute.TheVariants as attribute
use Rattle.wdf_blocks.specs.declared.declaration.Declaration.{Declaration}
use Rattle.wdf_blocks.specs.declared.declaration.Wanted.{Wanted}
use Rattle.wdf_blocks.specs.declared.declaration.Wanted.TheVariants as wanted
use Rattle.wdf_blocks.specs.declared.placed.Counts.{Counts}
use Rattle.wdf_blocks.specs.declared.placed.Placed.{Placed}
use Rattle.wdf_blocks.specs.declared.placed.Stand.{Stand}
use Rattle.wdf_blocks.specs.Blocks.{driver_line, effective_level, effective_scope, form_at, given, given_level, given_scope, has_given, level_in, number_at, scope_in}
use Rattle.wdf_blocks.specs.Declarations.{declared_by, declared_on, declares_object, found, has_name, is_interrupt, is_parent_at, is_register, is_wanted, object_count, stands, suits}
use Rattle.wdf_blocks.specs.Variables.{variables, variables_at, variables_in}
use Rattle.law_bare.proofs.Lists.{find_map, mapped_some, then_mapped}
use Rattle.law_bare.proofs.Scenes.{wanted_by}

-- so many picks more were counted
abbrev pub more : ℕ → Counts → Counts
more n c = record c { picks = c.picks + n }

module _ (to : ℕ → ℕ) where
  -- a stand, a line and a declaration, where each line is at a new place, and so many picks more come before it
  abbrev pub moved_stand : Stand → Stand
  moved_stand o = record o { block = option_map to o.block; device = option_map to o.device; callback = option_map to o.callback }

  abbrev pub moved_placed : ℕ → Placed → Placed
  moved_placed n p = record p { at = to p.at; stand = moved_stand p.stand; counts = more n p.counts }

  abbrev pub moved_declared : Declaration → Declaration
  moved_declared d = record d { at = to d.at; device = option_map to d.device }

  abbrev pub moved_names : List Declaration → List Declaration
  moved_names names = map moved_declared names

  -- what a line needs there
  abbrev pub moved_wanted : Wanted → Wanted
  moved_wanted = wanted_by (option_map to)

  -- the second scene has the lines of the first, with others between them: each line is at its new place, in the same order
  pub record IsMoved (one two : Scene) : Type 0 where
    pub less : (i j : ℕ) → nat_lt (to i) (to j) ≡ nat_lt i j
    pub same : (a b : Option ℕ) → same_option ◌==◌ (option_map to a) (option_map to b) ≡ same_option ◌==◌ a b
    pub form : (k : ℕ) → form_at two (to k) ≡ form_at one k
    pub number : (k : ℕ) → number_at two (to k) ≡ number_at one k
    pub gives : (b : ℕ) (a : Attribute) → given two (to b) a ≡ option_map to (given one b a)
    pub driver : driver_line two ≡ option_map to (driver_line one)
    pub variables : (k : ℕ) → variables two (to k) ≡ variables one k
    pub exprs : two.exprs ≡ one.exprs

-- ---- what the lines declare

module _ (to : ℕ → ℕ) where
  declared_moved : (n : ℕ) (p : Placed) (form : SceneLine) → declared_by (moved_placed to n p) form ≡ option_map (moved_declared to) (declared_by p form)
  unfolding declared_by
  declared_moved n p (line.Class m k) = refl
  declared_moved n p (line.DeferredClass m k parent) = refl
  declared_moved n p (line.Device m working) = refl
  declared_moved n p (line.Queue m dispatch) = refl
  declared_moved n p (line.Interrupt m level) = refl
  declared_moved n p (line.Target m delay status depth) = refl
  declared_moved n p (line.Register m v) = refl
  declared_moved n p (line.App m) = refl
  declared_moved n p _ = refl

  pub declares_moved : (n : ℕ) (p : Placed) → declared_on (moved_placed to n p) ≡ option_map (moved_declared to) (declared_on p)
  declares_moved n p = declared_moved n p p.form

  objects_from : (a : ℕ) (ds : List Declaration) → fold (λ n d. n + cond (declares_object d) 1 0) a (map (moved_declared to) ds) ≡ fold (λ n d. n + cond (declares_object d) 1 0) a ds
  objects_from a [] = refl
  objects_from a (d ∷ ds) = objects_from (a + cond (declares_object d) 1 0) ds

  pub objects_alike : (names : List Declaration) → object_count (map (moved_declared to) names) ≡ object_count names
  unfolding object_count
  objects_alike names = objects_from 0 names

  module _ (same : (a b : Option ℕ) → same_option ◌==◌ (option_map to a) (option_map to b) ≡ same_option ◌==◌ a b) where
    suits_alike : (w : Wanted) (d : Declaration) → suits (moved_wanted to w) (moved_declared to d) ≡ suits w d
    suits_alike wanted.Anything d = refl
    suits_alike wanted.Device d = refl
    suits_alike wanted.Object d = refl
    suits_alike wanted.Parent d = refl
    suits_alike wanted.Register d = refl
    suits_alike (wanted.RegisterOf v) d = ap (λ b. is_register d.thing && b) (same d.device v)
    suits_alike (wanted.InterruptOf v) d = ap (λ b. is_interrupt d.thing && b) (same d.device v)
    suits_alike (wanted.ClassOf k) d = refl

    wanted_alike : (n : List ℕ) (w : Wanted) (d : Declaration) → is_wanted n (moved_wanted to w) (moved_declared to d) ≡ is_wanted n w d
    wanted_alike n w d = ap (λ b. has_name n d && b) (suits_alike w d)

    pub found_alike : (names : List Declaration) (n : List ℕ) (w : Wanted) → found (map (moved_declared to) names) n (moved_wanted to w) ≡ option_map (moved_declared to) (found names n w)
    unfolding found
    found_alike names n w = find_map (moved_declared to) (is_wanted n w) (is_wanted n (moved_wanted to w)) (wanted_alike n w) names

    pub stands_alike : (names : List Declaration) (n : List ℕ) (w : Wanted) → stands (map (moved_declared to) names) n (moved_wanted to w) ≡ stands names n w
    unfolding stands
    stands_alike names n w = ap is_some (found_alike names n w) ∙ mapped_some (moved_declared to) (found names n w)

-- ---- what a block is given

module _ (to : ℕ → ℕ) (one two : Scene) (m : IsMoved to one two) where
  pub has_given_alike : (b : ℕ) (a : Attribute) → has_given two (to b) a ≡ has_given one b a
  unfolding has_given
  has_given_alike b a = ap is_some (m.gives b a) ∙ mapped_some to (given one b a)

  pub block_alike : (o : Option ℕ) → option_and_then (form_at two) (option_map to o) ≡ option_and_then (form_at one) o
  block_alike = then_mapped to (form_at two) (form_at one) m.form

  -- what is read of the line that gives a block an attribute
  part_alike : {X : Type 0} (read : SceneLine → Option X) (a : Attribute) (b : ℕ)
      → option_and_then read (option_and_then (form_at two) (given two (to b) a)) ≡ option_and_then read (option_and_then (form_at one) (given one b a))
  part_alike read a b = ap (λ o. option_and_then read (option_and_then (form_at two) o)) (m.gives b a) ∙ ap (option_and_then read) (block_alike (given one b a))

  level_alike : (b : ℕ) → given_level two (to b) ≡ given_level one b
  unfolding given_level
  level_alike = part_alike level_in attribute.Level

  scope_alike : (b : ℕ) → given_scope two (to b) ≡ given_scope one b
  unfolding given_scope
  scope_alike = part_alike scope_in attribute.Scope

  level_of_any : (o : Option ℕ) → option_and_then (given_level two) (option_map to o) ≡ option_and_then (given_level one) o
  level_of_any = then_mapped to (given_level two) (given_level one) level_alike

  scope_of_any : (o : Option ℕ) → option_and_then (given_scope two) (option_map to o) ≡ option_and_then (given_scope one) o
  scope_of_any = then_mapped to (given_scope two) (given_scope one) scope_alike

  pub effective_alike : (b : ℕ) (device : Option ℕ) → effective_level two (to b) (option_map to device) ≡ effective_level one b device
  unfolding effective_level
  effective_alike b device = rw (level_alike b, level_of_any device, m.driver, level_of_any (driver_line one)) refl

  pub effective_scope_alike : (b : ℕ) (device : Option ℕ) → effective_scope two (to b) (option_map to device) ≡ effective_scope one b device
  unfolding effective_scope
  effective_scope_alike b device = rw (scope_alike b, scope_of_any device, m.driver, scope_of_any (driver_line one)) refl

  pub parent_level_alike : (l : ExecutionLevel) (n : List ℕ) (d : Declaration) → is_parent_at two l n (moved_declared to d) ≡ is_parent_at one l n d
  parent_level_alike l n d = ap (λ e. is_wanted n wanted.Parent d && same_execution_level e l) (effective_alike d.at d.device)

  -- ---- variables

  variables_of_any : (o : Option ℕ) → variables_in two (option_map to o) ≡ variables_in one o
  unfolding variables_in
  variables_of_any None = refl
  variables_of_any (Some k) = m.variables k

  pub variables_alike : (n : ℕ) (p : Placed) → variables_at two (moved_placed to n p) ≡ variables_at one p
  unfolding variables_at
  variables_alike n p = variables_of_any p.stand.callback
