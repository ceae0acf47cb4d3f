-- Whether a line is refused is the same without ticks.
use Rattle.std.proofs.Common.{◌≡◌, ℕ, ◌-◌, Bool, false, cond, not, ◌&&◌, ◌||◌, nat_lt, List, [], ◌∷◌, drop, map, take, Option, Some, None, option_map, refl, sym, ap, ◌∙◌}
use Rattle.std.specs.Prelude.{option_and_then}
use Rattle.std.specs.List.{list_any}
use Rattle.wdf_base.specs.Callbacks.{row_of}
use Rattle.wdf_base.specs.Resolved.{function_of, serial_level}
use Rattle.wdf_base.specs.declared.call.Callback.TheVariants as callback
use Rattle.wdf_base.specs.declared.declared.DeferredKind.{DeferredKind}
use Rattle.wdf_scene.specs.declared.line.SceneLine.{SceneLine}
use Rattle.wdf_scene.specs.declared.line.SceneLine.TheVariants as line
use Rattle.wdf_scene.specs.declared.scene.Scene.{Scene}
use Rattle.wdf_scene.specs.Naming.{declared_name}
use Rattle.wdf_blocks.specs.declared.attribute.Attribute.{Attribute}
use Rattle.wdf_blocks.specs.declared.attribute.Attribute.TheVariants as attribute
use Rattle.wdf_blocks.specs.declared.declaration.Declaration.{Declaration}
use Rattle.wdf_blocks.specs.declared.declaration.Wanted.TheVariants as wanted
use Rattle.wdf_blocks.specs.declared.placed.Placed.{Placed}
use Rattle.wdf_blocks.specs.Attribute.{attribute_of}
use Rattle.wdf_blocks.specs.Blocks.{form_at, given, has_given}
use Rattle.wdf_blocks.specs.Declarations.{declarations, is_parent_at, stands}
use Rattle.wdf_blocks.specs.Forms.{assigned_name}
use Rattle.wdf_blocks.specs.Placed.{placed}
use Rattle.wdf_blocks.specs.Variables.{variables_at}
use Rattle.wdf_refusals.specs.declared.limit.Limit.{Limit}
use Rattle.wdf_refusals.specs.declared.limit.Limit.TheVariants as limit
use Rattle.wdf_refusals.specs.declared.limit.TheConstants.{LIMITS}
use Rattle.wdf_refusals.specs.First.{first_refusal, first_some, refused, refused_at}
use Rattle.wdf_refusals.specs.Limits.{exceeded, exceeds, is_one_too_many, over_objects, over_variables}
use Rattle.wdf_refusals.specs.Rows.{block_is, given_line, has_callbacks, home, incompatible_level, is_deferred_block, is_timer_block, is_working_block, no_parent, nodes_of, twice_assigned, twice_attribute, twice_declared, twice_given, twice_named, unknown_name, unknown_node, unknown_word, unlike_block, unlike_parent, wrong_callback}
use Rattle.wdf_jitter.specs.Moved.{moved_scene}
use Rattle.law_bare.proofs.Lists.{any_same, find_same, then_same}
use Rattle.law_moved.proofs.Untimed.{by_form, scene_alike, untimed, untimed_scene}
use Rattle.law_moved.proofs.Forms.{assigned_name_alike, attribute_alike, callbacks_alike, declared_alike, is_app_alike, is_class_alike, is_deferred_block_alike, is_device_alike, is_post_alike, is_register_alike, is_statement_alike, is_timer_block_alike, is_working_block_alike, nodes_alike, over_cpus_alike, over_depth_alike, over_level_alike, over_limit_alike, over_parallel_alike, over_ticks_alike}
use Rattle.law_moved.proofs.Scenes.{block_alike, given_alike, has_given_alike, names_alike, number_alike, parent_level_alike, places_alike, unplaced, variables_alike}

module _ (names : List Declaration) where
  -- ---- names

  word_alike : (device : Option ℕ) (form : SceneLine) → unknown_word names device (untimed form) ≡ unknown_word names device form
  unfolding unknown_word
  word_alike device form = by_form (unknown_word names device) (λ t u a. refl) (λ t u d n. refl) (λ t u d n. refl) (λ t u d c n. refl) (λ t u k. refl) (λ t u a d. refl) form

  no_parent_alike : (form : SceneLine) → no_parent names (untimed form) ≡ no_parent names form
  unfolding no_parent
  no_parent_alike form = by_form (no_parent names) (λ t u a. refl) (λ t u d n. refl) (λ t u d n. refl) (λ t u d c n. refl) (λ t u k. refl) (λ t u a d. refl) form

  unlike_alike_by : (s : Scene) (form : SceneLine) → unlike_block s names (untimed form) ≡ unlike_block s names form
  unfolding unlike_block
  unlike_alike_by s form = by_form (unlike_block s names) (λ t u a. refl) (λ t u d n. refl) (λ t u d n. refl) (λ t u d c n. refl) (λ t u k. refl) (λ t u a d. refl) form

  -- ---- limits

  over_objects_alike : (form : SceneLine) → over_objects names (untimed form) ≡ over_objects names form
  unfolding over_objects
  over_objects_alike form = by_form (over_objects names) (λ t u a. refl) (λ t u d n. refl) (λ t u d n. refl) (λ t u d c n. refl) (λ t u k. refl) (λ t u a d. refl) form

  exceeds_alike : (variables : List (List ℕ)) (p : Placed) (l : Limit) → exceeds names variables (unplaced p) l ≡ exceeds names variables p l
  unfolding exceeds
  exceeds_alike variables p limit.Cpus = over_cpus_alike p.form
  exceeds_alike variables p limit.Limit = over_limit_alike p.form
  exceeds_alike variables p limit.Objects = over_objects_alike p.form
  exceeds_alike variables p limit.Devices = ap (λ b. is_one_too_many b 8 p.counts.devices) (is_device_alike p.form)
  exceeds_alike variables p limit.Apps = ap (λ b. is_one_too_many b 256 p.counts.apps) (is_app_alike p.form)
  exceeds_alike variables p limit.Registers = ap (λ b. is_one_too_many b 64 p.counts.registers) (is_register_alike p.form)
  exceeds_alike variables p limit.Classes = ap (λ b. is_one_too_many b 256 p.counts.classes) (is_class_alike p.form)
  exceeds_alike variables p limit.Statements = ap (λ b. is_one_too_many b 4096 p.counts.statements) (is_statement_alike p.form)
  exceeds_alike variables p limit.Posts = ap (λ b. is_one_too_many b 4096 p.counts.posts) (is_post_alike p.form)
  exceeds_alike variables p limit.Picks = refl
  exceeds_alike variables p limit.Variables = ap (over_variables variables) (assigned_name_alike p.form)
  exceeds_alike variables p limit.Level = over_level_alike p.form
  exceeds_alike variables p limit.Parallel = over_parallel_alike p.form
  exceeds_alike variables p limit.Depth = over_depth_alike p.form
  exceeds_alike variables p limit.Ticks = over_ticks_alike p.form

  exceeded_alike : (variables : List (List ℕ)) (p : Placed) → exceeded names variables (unplaced p) ≡ exceeded names variables p
  unfolding exceeded
  exceeded_alike variables p = find_same (exceeds names variables (unplaced p)) (exceeds names variables p) (exceeds_alike variables p) LIMITS

  -- ---- the lines of a scene

  module _ (s : Scene) where
    abbrev bare : Scene
    bare = untimed_scene s

    pub expressions_alike : (p : Placed) → nodes_of bare (unplaced p) ≡ nodes_of s p
    unfolding nodes_of
    expressions_alike p = ap (λ n. take (n - p.counts.nodes) (drop p.counts.nodes s.exprs)) (nodes_alike p.counts.nodes p.form)

    unknown_alike : (variables : List (List ℕ)) (p : Placed) → unknown_name bare names variables (unplaced p) ≡ unknown_name s names variables p
    unfolding unknown_name
    unknown_alike variables p =
        ap (λ b. b || list_any (unknown_node names variables) (nodes_of bare (unplaced p))) (word_alike p.stand.device p.form)
        ∙ ap (λ es. unknown_word names p.stand.device p.form || list_any (unknown_node names variables) es) (expressions_alike p)

    block_test : (test : SceneLine → Bool) → ((form : SceneLine) → test (untimed form) ≡ test form) → (o : Option SceneLine)
        → (elim (option_map untimed o) as (λ _. Bool) [ None ↦ false | Some form ↦ test form ]) ≡ (elim o as (λ _. Bool) [ None ↦ false | Some form ↦ test form ])
    block_test test alike None = refl
    block_test test alike (Some form) = alike form

    block_is_alike : (test : SceneLine → Bool) → ((form : SceneLine) → test (untimed form) ≡ test form) → (b : Option ℕ) → block_is test bare b ≡ block_is test s b
    block_is_alike test alike b =
        ap (λ (o : Option SceneLine). elim o as (λ _. Bool) [ None ↦ false | Some form ↦ test form ]) (block_alike s b) ∙ block_test test alike (option_and_then (form_at s) b)

    scene_callback : (p : Placed) (form : SceneLine) → wrong_callback bare (unplaced p) form ≡ wrong_callback s p form
    unfolding wrong_callback
    scene_callback p (line.On c) = ap not (block_is_alike (has_callbacks (row_of c).owner) (callbacks_alike (row_of c).owner) p.stand.block)
    scene_callback p line.Serialize = ap not (block_is_alike is_deferred_block is_deferred_block_alike p.stand.block)
    scene_callback p (line.Period n) = ap not (block_is_alike is_timer_block is_timer_block_alike p.stand.block)
    scene_callback p (line.Interrupt n level) =
        ap (λ b. not b || block_is is_working_block bare p.stand.device) (has_given_alike s p.at (attribute.On callback.EvtInterruptIsr))
        ∙ ap (λ b. not (has_given s p.at (attribute.On callback.EvtInterruptIsr)) || b) (block_is_alike is_working_block is_working_block_alike p.stand.device)
    scene_callback p (line.Target n delay status depth) = ap not (has_given_alike s p.at (attribute.On callback.EvtRequestCompletion))
    scene_callback p (line.DeferredClass n k parent) = ap not (has_given_alike s p.at (attribute.On (function_of k)))
    scene_callback p _ = refl

    form_callback : (p : Placed) (form : SceneLine) → wrong_callback bare p (untimed form) ≡ wrong_callback bare p form
    unfolding wrong_callback
    form_callback p form = by_form (wrong_callback bare p) (λ t u a. refl) (λ t u d n. refl) (λ t u d n. refl) (λ t u d c n. refl) (λ t u k. refl) (λ t u a d. refl) form

    callback_alike : (p : Placed) → wrong_callback bare (unplaced p) (untimed p.form) ≡ wrong_callback s p p.form
    callback_alike p = form_callback (unplaced p) p.form ∙ scene_callback p p.form

    unlike_parent_alike : (k : DeferredKind) (n : List ℕ) → unlike_parent bare names k n ≡ unlike_parent s names k n
    unfolding unlike_parent
    unlike_parent_alike k n =
        ap (λ b. stands names n wanted.Parent && not b) (any_same (is_parent_at bare (serial_level k) n) (is_parent_at s (serial_level k) n) (parent_level_alike s (serial_level k) n) names)

    unlike_alike : (form : SceneLine) → unlike_block bare names form ≡ unlike_block s names form
    unfolding unlike_block
    unlike_alike (line.DeferredClass n k (Some parent)) = unlike_parent_alike k parent
    unlike_alike _ = refl

    unlike_test : (o : Option SceneLine)
        → (elim o as (λ _. Bool) [ None ↦ false | Some form ↦ unlike_block bare names form ]) ≡ (elim o as (λ _. Bool) [ None ↦ false | Some form ↦ unlike_block s names form ])
    unlike_test None = refl
    unlike_test (Some form) = unlike_alike form

    unlike_is_alike : (b : Option ℕ) → block_is (unlike_block bare names) bare b ≡ block_is (unlike_block s names) s b
    unlike_is_alike b = block_is_alike (unlike_block bare names) (unlike_alike_by bare) b ∙ unlike_test (option_and_then (form_at s) b)

    scene_level : (p : Placed) (form : SceneLine) → incompatible_level bare names (unplaced p) form ≡ incompatible_level s names p form
    unfolding incompatible_level
    scene_level p line.Serialize = unlike_is_alike p.stand.block
    scene_level p _ = refl

    form_level : (p : Placed) (form : SceneLine) → incompatible_level bare names p (untimed form) ≡ incompatible_level bare names p form
    unfolding incompatible_level
    form_level p form = by_form (incompatible_level bare names p) (λ t u a. refl) (λ t u d n. refl) (λ t u d n. refl) (λ t u d c n. refl) (λ t u k. refl) (λ t u a d. refl) form

    level_alike : (p : Placed) → incompatible_level bare names (unplaced p) (untimed p.form) ≡ incompatible_level s names p p.form
    level_alike p = form_level (unplaced p) p.form ∙ scene_level p p.form

    -- ---- names and attributes that are given twice

    given_line_alike : (at : ℕ) (o : Option ℕ) → given_line bare at o ≡ given_line s at o
    given_line_alike at None = refl
    given_line_alike at (Some k) = ap (λ n. cond (nat_lt k at) (Some n) None) (number_alike s k)

    twice_given_alike : (p : Placed) (a : Attribute) → twice_given bare (unplaced p) a ≡ twice_given s p a
    unfolding twice_given
    twice_given_alike p a = ap (given_line bare p.at) (then_same (λ b. given bare b a) (λ b. given s b a) (λ b. given_alike s b a) (home p a)) ∙ given_line_alike p.at (option_and_then (λ b. given s b a) (home p a))

    attribute_twice : (p : Placed) (o : Option Attribute) → twice_attribute bare (unplaced p) o ≡ twice_attribute s p o
    attribute_twice p None = refl
    attribute_twice p (Some a) = twice_given_alike p a

    assigned_twice : (p : Placed) (o : Option (List ℕ)) → twice_assigned bare names (unplaced p) o ≡ twice_assigned s names p o
    assigned_twice p None = ap (twice_attribute bare (unplaced p)) (attribute_alike p.form) ∙ attribute_twice p (attribute_of p.form)
    assigned_twice p (Some n) = refl

    declared_twice : (p : Placed) (o : Option (List ℕ)) → twice_declared bare names (unplaced p) o ≡ twice_declared s names p o
    declared_twice p None = ap (twice_assigned bare names (unplaced p)) (assigned_name_alike p.form) ∙ assigned_twice p (assigned_name p.form)
    declared_twice p (Some n) = refl

    twice_alike : (p : Placed) → twice_named bare names (unplaced p) ≡ twice_named s names p
    unfolding twice_named
    twice_alike p = ap (twice_declared bare names (unplaced p)) (declared_alike p.form) ∙ declared_twice p (declared_name p.form)

    -- ---- a line is refused

    refused_alike : (variables : List (List ℕ)) (p : Placed) → refused bare names variables (unplaced p) ≡ refused s names variables p
    unfolding refused
    refused_alike variables p = rw (unknown_alike variables p, twice_alike p, callback_alike p, exceeded_alike variables p, level_alike p, no_parent_alike p.form) refl

-- ---- the first refusal

module _ (s : Scene) where
  at_alike : (p : Placed) → refused_at (untimed_scene s) (unplaced p) ≡ refused_at s p
  unfolding refused_at
  at_alike p =
      ap (λ ds. refused (untimed_scene s) ds (variables_at (untimed_scene s) (unplaced p)) (unplaced p)) (names_alike s)
      ∙ ap (λ vs. refused (untimed_scene s) (declarations s) vs (unplaced p)) (variables_alike s p)
      ∙ refused_alike (declarations s) s (variables_at s p) p

  first_by : (ps : List Placed) → first_some (refused_at (untimed_scene s)) (map unplaced ps) ≡ first_some (refused_at s) ps
  first_by [] = refl
  first_by (p ∷ ps) = rw (at_alike p, first_by ps) refl

  first_alike : first_refusal (untimed_scene s) ≡ first_refusal s
  unfolding first_refusal
  first_alike = ap (first_some (refused_at (untimed_scene s))) (places_alike s) ∙ first_by (placed s)

pub moved_alike : (most : ℕ) (words : List ℕ) (scene : Scene) → first_refusal (moved_scene most words scene) ≡ first_refusal scene
moved_alike most words scene = sym (first_alike (moved_scene most words scene)) ∙ ap first_refusal (scene_alike most words scene) ∙ first_alike scene
