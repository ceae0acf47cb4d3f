-- What is read of a scene's lines, and of what they declare, is the same without ticks.
use Rattle.std.proofs.Common.{◌≡◌, ℕ, suc, cond, ◌&&◌, List, [], ◌∷◌, map, drop, length, Option, Some, None, is_some, option_map, slice_get, unwrap_or, refl, ap, ◌∙◌}
use Rattle.std.specs.Prelude.{option_and_then}
use Rattle.std.specs.List.{filter_map}
use Rattle.wdf_base.specs.SamePlan.{same_execution_level}
use Rattle.wdf_base.specs.declared.declared.ExecutionLevel.{ExecutionLevel}
use Rattle.wdf_scene.specs.declared.line.NumberedLine.{NumberedLine}
use Rattle.wdf_scene.specs.declared.line.SceneLine.{SceneLine}
use Rattle.wdf_scene.specs.declared.line.SceneLine.TheVariants as line
use Rattle.wdf_scene.specs.declared.scene.Scene.{Scene}
use Rattle.wdf_blocks.specs.declared.attribute.Attribute.{Attribute}
use Rattle.wdf_blocks.specs.declared.attribute.Attribute.TheVariants as attribute
use Rattle.wdf_blocks.specs.declared.declaration.Declaration.{Declaration}
use Rattle.wdf_blocks.specs.declared.declaration.Wanted.TheVariants as wanted
use Rattle.wdf_blocks.specs.declared.placed.Counts.{Counts}
use Rattle.wdf_blocks.specs.declared.placed.Placed.{Placed}
use Rattle.wdf_blocks.specs.declared.placed.Stand.{Stand}
use Rattle.wdf_blocks.specs.Blocks.{counts_for, depth_after, driver_line, effective_level, ends_block, form_at, given, given_from, given_level, has_given, is_driver_line, level_in, number_at}
use Rattle.wdf_blocks.specs.Declarations.{declarations, declared_by, declared_on, is_parent_at, is_wanted}
use Rattle.wdf_blocks.specs.Forms.{assigned_name}
use Rattle.wdf_blocks.specs.Placed.{counted, nothing, opened_by, outside, placed, placed_from, placed_line}
use Rattle.wdf_blocks.specs.Variables.{assigned_from, variables, variables_at, with_assigned}
use Rattle.law_bare.proofs.Lists.{at_map, at_mapped, drop_map, gathered_same, position_map, then_same}
use Rattle.law_bare.proofs.Scenes.{variables_same}
use Rattle.law_moved.proofs.Untimed.{by_form, untimed, untimed_line, untimed_scene}
use Rattle.law_moved.proofs.Forms.{assigned_name_alike, counted_alike, counts_alike, depth_alike, ends_alike, is_driver_alike, level_in_alike, opened_alike}

-- a line of a scene where it is, without its tick
abbrev pub unplaced : Placed → Placed
unplaced p = record p { form = untimed p.form }

-- ---- where the lines are

placed_alike : (k : ℕ) (o : Stand) (c : Counts) (ls : List NumberedLine) → placed_from k o c (map untimed_line ls) ≡ map unplaced (placed_from k o c ls)
unfolding placed_from
placed_alike k o c [] = refl
placed_alike k o c (l ∷ ls) =
    ap (λ s. placed_line k o c (untimed_line l) ∷ placed_from (suc k) s (counted c (untimed l.form) (length l.picks)) (map untimed_line ls)) (opened_alike o k l.form)
    ∙ ap (λ n. placed_line k o c (untimed_line l) ∷ placed_from (suc k) (opened_by o k l.form) n (map untimed_line ls)) (counted_alike c l.form (length l.picks))
    ∙ ap (λ ps. placed_line k o c (untimed_line l) ∷ ps) (placed_alike (suc k) (opened_by o k l.form) (counted c l.form (length l.picks)) ls)

pub places_alike : (s : Scene) → placed (untimed_scene s) ≡ map unplaced (placed s)
unfolding placed
places_alike s = placed_alike 0 outside nothing s.lines

-- ---- what they declare

declares_alike : (p : Placed) (form : SceneLine) → declared_by (unplaced p) form ≡ declared_by p form
unfolding declared_by
declares_alike p (line.Class n k) = refl
declares_alike p (line.DeferredClass n k parent) = refl
declares_alike p (line.Device n working) = refl
declares_alike p (line.Queue n dispatch) = refl
declares_alike p (line.Interrupt n level) = refl
declares_alike p (line.Target n delay status depth) = refl
declares_alike p (line.Register n v) = refl
declares_alike p (line.App n) = refl
declares_alike p _ = refl

untimed_declares : (p : Placed) (form : SceneLine) → declared_by p (untimed form) ≡ declared_by p form
unfolding declared_by
untimed_declares p form = by_form (declared_by p) (λ t u a. refl) (λ t u d n. refl) (λ t u d n. refl) (λ t u d c n. refl) (λ t u k. refl) (λ t u a d. refl) form

pub names_alike : (s : Scene) → declarations (untimed_scene s) ≡ declarations s
unfolding declarations
names_alike s =
    ap (filter_map declared_on) (places_alike s)
    ∙ gathered_same unplaced declared_on declared_on (λ p. untimed_declares (unplaced p) p.form ∙ declares_alike p p.form) (placed s)

-- ---- what a block is given

given_by : (a : Attribute) (depth k : ℕ) (ls : List NumberedLine) → given_from a depth k (map untimed_line ls) ≡ given_from a depth k ls
unfolding given_from
given_by a depth k [] = refl
given_by a depth k (l ∷ ls) =
    ap (λ b. cond b (Some k) (cond (ends_block depth (untimed l.form)) None (given_from a (depth_after depth (untimed l.form)) (suc k) (map untimed_line ls)))) (counts_alike a depth l.form)
    ∙ ap (λ b. cond (counts_for a depth l.form) (Some k) (cond b None (given_from a (depth_after depth (untimed l.form)) (suc k) (map untimed_line ls)))) (ends_alike depth l.form)
    ∙ ap (λ d. cond (counts_for a depth l.form) (Some k) (cond (ends_block depth l.form) None (given_from a d (suc k) (map untimed_line ls)))) (depth_alike depth l.form)
    ∙ ap (λ o. cond (counts_for a depth l.form) (Some k) (cond (ends_block depth l.form) None o)) (given_by a (depth_after depth l.form) (suc k) ls)

form_of : (o : Option NumberedLine) → option_map (λ l. l.form) (option_map untimed_line o) ≡ option_map untimed (option_map (λ l. l.form) o)
form_of None = refl
form_of (Some l) = refl

-- what is read of the form in a line is the same
pub read_alike : {X : Type 0} (g : SceneLine → Option X) → ((form : SceneLine) → g (untimed form) ≡ g form) → (o : Option SceneLine) → option_and_then g (option_map untimed o) ≡ option_and_then g o
read_alike g same None = refl
read_alike g same (Some form) = same form

module _ (s : Scene) where
  abbrev pub bare : Scene
  bare = untimed_scene s

  pub given_alike : (b : ℕ) (a : Attribute) → given bare b a ≡ given s b a
  unfolding given
  given_alike b a = ap (given_from a 0 (suc b)) (drop_map untimed_line (suc b) s.lines) ∙ given_by a 0 (suc b) (drop (suc b) s.lines)

  pub has_given_alike : (b : ℕ) (a : Attribute) → has_given bare b a ≡ has_given s b a
  unfolding has_given
  has_given_alike b a = ap is_some (given_alike b a)

  pub form_alike : (k : ℕ) → form_at bare k ≡ option_map untimed (form_at s k)
  unfolding form_at
  form_alike k = ap (option_map (λ l. l.form)) (at_mapped untimed_line s.lines k) ∙ form_of (slice_get s.lines k)

  pub number_alike : (k : ℕ) → number_at bare k ≡ number_at s k
  unfolding number_at
  number_alike k = ap (λ o. unwrap_or o 0) (at_map untimed_line (λ l. l.number) (λ l. refl) s.lines k)

  pub block_alike : (o : Option ℕ) → option_and_then (form_at bare) o ≡ option_map untimed (option_and_then (form_at s) o)
  block_alike None = refl
  block_alike (Some k) = form_alike k

  level_alike : (b : ℕ) → given_level bare b ≡ given_level s b
  unfolding given_level
  level_alike b =
      ap (λ o. option_and_then level_in (option_and_then (form_at bare) o)) (given_alike b attribute.Level)
      ∙ ap (option_and_then level_in) (block_alike (given s b attribute.Level))
      ∙ read_alike level_in level_in_alike (option_and_then (form_at s) (given s b attribute.Level))

  level_of_any : (o : Option ℕ) → option_and_then (given_level bare) o ≡ option_and_then (given_level s) o
  level_of_any = then_same (given_level bare) (given_level s) level_alike

  pub driver_alike : driver_line bare ≡ driver_line s
  unfolding driver_line
  driver_alike = position_map untimed_line is_driver_line is_driver_line (λ l. is_driver_alike l.form) s.lines

  pub effective_alike : (b : ℕ) (device : Option ℕ) → effective_level bare b device ≡ effective_level s b device
  unfolding effective_level
  effective_alike b device = rw (level_alike b, level_of_any device, driver_alike, level_of_any (driver_line s)) refl

  pub parent_level_alike : (l : ExecutionLevel) (n : List ℕ) (d : Declaration) → is_parent_at bare l n d ≡ is_parent_at s l n d
  parent_level_alike l n d = ap (λ e. is_wanted n wanted.Parent d && same_execution_level e l) (effective_alike d.at d.device)

  -- ---- variables

  assigned_alike : (names : List (List ℕ)) (depth : ℕ) (ls : List NumberedLine) → assigned_from names depth (map untimed_line ls) ≡ assigned_from names depth ls
  unfolding assigned_from
  assigned_alike names depth [] = refl
  assigned_alike names depth (l ∷ ls) =
      ap (λ b. cond b names (assigned_from (with_assigned names (assigned_name (untimed l.form))) (depth_after depth (untimed l.form)) (map untimed_line ls))) (ends_alike depth l.form)
      ∙ ap (λ n. cond (ends_block depth l.form) names (assigned_from (with_assigned names n) (depth_after depth (untimed l.form)) (map untimed_line ls))) (assigned_name_alike l.form)
      ∙ ap (λ d. cond (ends_block depth l.form) names (assigned_from (with_assigned names (assigned_name l.form)) d (map untimed_line ls))) (depth_alike depth l.form)
      ∙ ap (λ ns. cond (ends_block depth l.form) names ns) (assigned_alike (with_assigned names (assigned_name l.form)) (depth_after depth l.form) ls)

  pub variables_of : (k : ℕ) → variables bare k ≡ variables s k
  unfolding variables
  variables_of k = ap (assigned_from [] 0) (drop_map untimed_line (suc k) s.lines) ∙ assigned_alike [] 0 (drop (suc k) s.lines)

  pub variables_alike : (p : Placed) → variables_at bare (unplaced p) ≡ variables_at s p
  variables_alike p = variables_same s bare variables_of p (unplaced p) refl
