-- Two scenes of which the same is read: what their lines are refused for is the same. A line of the first scene may have another place
-- and another number in the second.
use Rattle.std.proofs.Common.{◌≡◌, ℕ, Bool, false, not, ◌&&◌, ◌||◌, List, map, Option, Some, None, is_some, refl, ap, ◌∙◌}
use Rattle.std.specs.Prelude.{option_and_then}
use Rattle.std.specs.List.{list_any}
use Rattle.wdf_base.specs.Calls.{signature_of}
use Rattle.wdf_base.specs.Callbacks.{row_of}
use Rattle.wdf_base.specs.Resolved.{function_of, serial_level}
use Rattle.wdf_base.specs.declared.call.Callback.TheVariants as callback
use Rattle.wdf_base.specs.declared.declared.DeferredKind.{DeferredKind}
use Rattle.wdf_base.specs.declared.declared.ExecutionLevel.{ExecutionLevel}
use Rattle.wdf_base.specs.declared.signature.Sort.{Sort}
use Rattle.wdf_base.specs.declared.signature.Sort.TheVariants as sort
use Rattle.wdf_scene.specs.declared.line.SceneAction.{SceneAction}
use Rattle.wdf_scene.specs.declared.line.SceneAction.TheVariants as action
use Rattle.wdf_scene.specs.declared.line.SceneArg.{SceneArg}
use Rattle.wdf_scene.specs.declared.line.SceneArg.TheVariants as arg
use Rattle.wdf_scene.specs.declared.line.SceneExpr.{SceneExpr}
use Rattle.wdf_scene.specs.declared.line.SceneExpr.TheVariants as expr
use Rattle.wdf_scene.specs.declared.line.SceneLine.{SceneLine}
use Rattle.wdf_scene.specs.declared.line.SceneLine.TheVariants as line
use Rattle.wdf_scene.specs.declared.scene.Scene.{Scene}
use Rattle.wdf_blocks.specs.declared.attribute.Attribute.{Attribute}
use Rattle.wdf_blocks.specs.declared.attribute.Attribute.TheVariants as attribute
use Rattle.wdf_blocks.specs.declared.declaration.Declaration.{Declaration}
use Rattle.wdf_blocks.specs.declared.declaration.Wanted.{Wanted}
use Rattle.wdf_blocks.specs.declared.declaration.Wanted.TheVariants as wanted
use Rattle.wdf_blocks.specs.declared.placed.Placed.{Placed}
use Rattle.wdf_blocks.specs.Blocks.{form_at, has_given}
use Rattle.wdf_blocks.specs.Declarations.{is_parent_at, stands}
use Rattle.wdf_blocks.specs.Variables.{variable_number, variables, variables_at, variables_in}
use Rattle.wdf_refusals.specs.Rows.{block_is, has_callbacks, incompatible_level, is_deferred_block, is_timer_block, is_working_block, lacks_parent, no_parent, nodes_of, unknown_action, unknown_argument, unknown_class, unknown_name, unknown_node, unknown_parent, unknown_word, unlike_block, unlike_parent, wrong_callback}
use Rattle.law_bare.proofs.Lists.{any_map, any_same}

-- ---- names that stand for the same

-- what a line needs, where it may be at another place
abbrev pub wanted_by : (Option ℕ → Option ℕ) → Wanted → Wanted
wanted_by move (wanted.RegisterOf device) = wanted.RegisterOf (move device)
wanted_by move (wanted.InterruptOf device) = wanted.InterruptOf (move device)
wanted_by move w = w

module _ (move : Option ℕ → Option ℕ) (names other : List Declaration) (same : (n : List ℕ) (w : Wanted) → stands other n (wanted_by move w) ≡ stands names n w) where
  action_alike : (device : Option ℕ) (a : SceneAction) → unknown_action other (move device) a ≡ unknown_action names device a
  unfolding unknown_action
  action_alike device (action.Set r v) = ap not (same r (wanted.RegisterOf device))
  action_alike device (action.Raise i) = ap not (same i (wanted.InterruptOf device))
  action_alike device (action.Lower i) = ap not (same i (wanted.InterruptOf device))

  class_alike : (s : Sort) (n : List ℕ) → unknown_class other s n ≡ unknown_class names s n
  unfolding unknown_class
  class_alike (sort.Class k) n = ap not (same n (wanted.ClassOf k))
  class_alike _ n = refl

  argument_alike : (s : Sort) (a : SceneArg) → unknown_argument other s a ≡ unknown_argument names s a
  unfolding unknown_argument
  argument_alike s (arg.OfClass n) = class_alike s n
  argument_alike s _ = refl

  parent_alike : (parent : Option (List ℕ)) → unknown_parent other parent ≡ unknown_parent names parent
  unfolding unknown_parent
  parent_alike None = refl
  parent_alike (Some n) = ap not (same n wanted.Anything)

  word_alike : (device : Option ℕ) (form : SceneLine) → unknown_word other (move device) form ≡ unknown_word names device form
  unfolding unknown_word
  word_alike device (line.DeferredClass n k parent) = parent_alike parent
  word_alike device (line.When access r a after) = rw (same r (wanted.RegisterOf device), action_alike device a) refl
  word_alike device (line.At tick a) = action_alike device a
  word_alike device (line.AtRead tick d n) = ap not (same d wanted.Device)
  word_alike device (line.AtWrite tick d n) = ap not (same d wanted.Device)
  word_alike device (line.AtControl tick d code n) = ap not (same d wanted.Device)
  word_alike device (line.AtAsk tick ask d) = ap not (same d wanted.Device)
  word_alike device (line.Get x r) = ap not (same r wanted.Register)
  word_alike device (line.Put r e) = ap not (same r wanted.Register)
  word_alike device (line.Call k into a b c) = rw (argument_alike (signature_of k).a a, argument_alike (signature_of k).b b, argument_alike (signature_of k).c c) refl
  word_alike device _ = refl

  node_alike : (vs : List (List ℕ)) (e : SceneExpr) → unknown_node other vs e ≡ unknown_node names vs e
  unfolding unknown_node
  node_alike vs (expr.Named n) = ap (λ b. not (is_some (variable_number vs n)) && not b) (same n wanted.Object)
  node_alike vs _ = refl

  lacks_alike : (parent : Option (List ℕ)) → lacks_parent other parent ≡ lacks_parent names parent
  lacks_alike None = refl
  lacks_alike (Some n) = rw (same n wanted.Anything, same n wanted.Parent) refl

  pub no_parent_alike : (form : SceneLine) → no_parent other form ≡ no_parent names form
  unfolding no_parent
  no_parent_alike (line.DeferredClass n k parent) = lacks_alike parent
  no_parent_alike _ = refl

  -- a line, and the same line at its place in another scene
  pub unknown_alike : (one two : Scene) (vs : List (List ℕ)) (p q : Placed) → q.form ≡ p.form → q.stand.device ≡ move p.stand.device → nodes_of two q ≡ nodes_of one p
      → unknown_name two other vs q ≡ unknown_name one names vs p
  unfolding unknown_name
  unknown_alike one two vs p q form device nodes =
      rw (nodes, form, device, word_alike p.stand.device p.form, any_same (unknown_node other vs) (unknown_node names vs) (node_alike vs) (nodes_of one p)) refl

-- ---- scenes of which the same is read

-- what is read of a block of the first scene is read of it in the second, and each declaration has a parent's level as before
pub record AreReadAlike (move : Option ℕ → Option ℕ) (to : ℕ → ℕ) (declared : Declaration → Declaration) (one two : Scene) : Type 0 where
  pub block : (b : Option ℕ) → option_and_then (form_at two) (move b) ≡ option_and_then (form_at one) b
  pub has : (b : ℕ) (a : Attribute) → has_given two (to b) a ≡ has_given one b a
  pub parent : (l : ExecutionLevel) (n : List ℕ) (d : Declaration) → is_parent_at two l n (declared d) ≡ is_parent_at one l n d

-- the place of a line of the first scene in the second
pub record IsPlaceOf (move : Option ℕ → Option ℕ) (to : ℕ → ℕ) (p q : Placed) : Type 0 where
  pub at : q.at ≡ to p.at
  pub block : q.stand.block ≡ move p.stand.block
  pub device : q.stand.device ≡ move p.stand.device

block_test : (t u : SceneLine → Bool) → ((form : SceneLine) → t form ≡ u form) → (o : Option SceneLine) → (elim o as (λ _. Bool) [ None ↦ false | Some form ↦ t form ]) ≡ (elim o as (λ _. Bool) [ None ↦ false | Some form ↦ u form ])
block_test t u alike None = refl
block_test t u alike (Some form) = alike form

module _ (move : Option ℕ → Option ℕ) (to : ℕ → ℕ) (declared : Declaration → Declaration) (one two : Scene) (r : AreReadAlike move to declared one two) where
  block_is_alike : (t u : SceneLine → Bool) → ((form : SceneLine) → t form ≡ u form) → (b : Option ℕ) → block_is t two (move b) ≡ block_is u one b
  block_is_alike t u alike b =
      ap (λ (o : Option SceneLine). elim o as (λ _. Bool) [ None ↦ false | Some form ↦ t form ]) (r.block b) ∙ block_test t u alike (option_and_then (form_at one) b)

  pub callback_alike : (p q : Placed) → IsPlaceOf move to p q → (form : SceneLine) → wrong_callback two q form ≡ wrong_callback one p form
  unfolding wrong_callback
  callback_alike p q h (line.On c) = rw h.block (ap not (block_is_alike (has_callbacks (row_of c).owner) (has_callbacks (row_of c).owner) (λ f. refl) p.stand.block))
  callback_alike p q h line.Serialize = rw h.block (ap not (block_is_alike is_deferred_block is_deferred_block (λ f. refl) p.stand.block))
  callback_alike p q h (line.Period t) = rw h.block (ap not (block_is_alike is_timer_block is_timer_block (λ f. refl) p.stand.block))
  callback_alike p q h (line.Interrupt i level) =
      rw (h.at, h.device)
      (ap (λ b. not b || block_is is_working_block two (move p.stand.device)) (r.has p.at (attribute.On callback.EvtInterruptIsr))
      ∙ ap (λ b. not (has_given one p.at (attribute.On callback.EvtInterruptIsr)) || b) (block_is_alike is_working_block is_working_block (λ f. refl) p.stand.device))
  callback_alike p q h (line.Target i delay status depth) = rw h.at (ap not (r.has p.at (attribute.On callback.EvtRequestCompletion)))
  callback_alike p q h (line.DeferredClass i k parent) = rw h.at (ap not (r.has p.at (attribute.On (function_of k))))
  callback_alike p q h _ = refl

  module _ (names : List Declaration) (same : (n : List ℕ) (w : Wanted) → stands (map declared names) n (wanted_by move w) ≡ stands names n w) where
    unlike_parent_alike : (k : DeferredKind) (n : List ℕ) → unlike_parent two (map declared names) k n ≡ unlike_parent one names k n
    unfolding unlike_parent
    unlike_parent_alike k n =
        ap (λ b. b && not (list_any (is_parent_at two (serial_level k) n) (map declared names))) (same n wanted.Parent)
        ∙ ap (λ b. stands names n wanted.Parent && not b) (any_map declared (is_parent_at one (serial_level k) n) (is_parent_at two (serial_level k) n) (r.parent (serial_level k) n) names)

    unlike_alike : (form : SceneLine) → unlike_block two (map declared names) form ≡ unlike_block one names form
    unfolding unlike_block
    unlike_alike (line.DeferredClass n k (Some parent)) = unlike_parent_alike k parent
    unlike_alike _ = refl

    pub incompatible_alike : (p q : Placed) → IsPlaceOf move to p q → (form : SceneLine) → incompatible_level two (map declared names) q form ≡ incompatible_level one names p form
    unfolding incompatible_level
    incompatible_alike p q h line.Serialize = rw h.block (block_is_alike (unlike_block two (map declared names)) (unlike_block one names) unlike_alike p.stand.block)
    incompatible_alike p q h _ = refl

-- ---- lines that stay where they are

-- a callback has the same variables
pub variables_same : (one two : Scene) → ((k : ℕ) → variables two k ≡ variables one k) → (p q : Placed) → q.stand.callback ≡ p.stand.callback → variables_at two q ≡ variables_at one p
unfolding variables_at variables_in
variables_same one two same p q there = rw there (in_any p.stand.callback)
  where
    in_any : (o : Option ℕ) → variables_in two o ≡ variables_in one o
    in_any None = refl
    in_any (Some k) = same k
