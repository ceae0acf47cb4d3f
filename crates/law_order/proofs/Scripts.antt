-- The scripts of a plan are the same where the lines are at other places.
use Rattle.std.proofs.Common.{◌≡◌, ℕ, suc, ◌+◌, ◌==◌, true, cond, List, [], ◌∷◌, map, drop, Option, Some, None, option_map, refl, ap, ◌∙◌}
use Rattle.std.specs.List.{cons_option}
use Rattle.wdf_base.specs.Calls.{signature_of}
use Rattle.wdf_base.specs.Kinds.{deferred_kind, plain_kind}
use Rattle.wdf_base.specs.Same.{same_option}
use Rattle.wdf_base.specs.declared.script.Act.{Act}
use Rattle.wdf_base.specs.declared.script.ExprNode.TheVariants as node
use Rattle.wdf_base.specs.declared.script.Statement.{Statement}
use Rattle.wdf_base.specs.declared.signature.Sort.{Sort}
use Rattle.wdf_base.specs.declared.signature.Sort.TheVariants as sort
use Rattle.wdf_scene.specs.declared.line.NumberedLine.{NumberedLine}
use Rattle.wdf_scene.specs.declared.line.SceneArg.{SceneArg}
use Rattle.wdf_scene.specs.declared.line.SceneArg.TheVariants as arg
use Rattle.wdf_scene.specs.declared.line.SceneExpr.{SceneExpr}
use Rattle.wdf_scene.specs.declared.line.SceneExpr.TheVariants as expr
use Rattle.wdf_scene.specs.declared.line.SceneLine.{SceneLine}
use Rattle.wdf_scene.specs.declared.line.SceneLine.TheVariants as line
use Rattle.wdf_scene.specs.declared.scene.Scene.{Scene}
use Rattle.wdf_blocks.specs.declared.declaration.Declaration.{Declaration}
use Rattle.wdf_blocks.specs.declared.declaration.Wanted.TheVariants as wanted
use Rattle.wdf_blocks.specs.declared.placed.Placed.{Placed}
use Rattle.wdf_blocks.specs.Blocks.{form_at}
use Rattle.wdf_blocks.specs.Variables.{variable_number, variables, variables_at}
use Rattle.wdf_refusals.specs.Rows.{nodes_of}
use Rattle.wdf_plan.specs.declared.course.Nest.{Nest}
use Rattle.wdf_plan.specs.Scripts.{act_on, argument_of, block_owner, class_number, ends_callback, named_node, nests_after, node_of, nodes_on, number_after, onward, owner_in, owner_of, plain_act, script_on, statement_at, statement_on, statements_from, statements_of, told_line}
use Rattle.law_bare.proofs.Lists.{map_alike}
use Rattle.law_order.proofs.Inserted.{IsInserted}
use Rattle.law_order.proofs.Moves.{moved_names, moved_placed, variables_alike}
use Rattle.law_order.proofs.Numbers.{handle_alike, number_alike}
use Rattle.law_order.proofs.Parts.{object_alike}
use Rattle.law_order.proofs.Refusals.{is_of_order, no_nodes, nodes_alike}

-- ---- statements

module _ (to : ℕ → ℕ) (same : (a b : Option ℕ) → same_option ◌==◌ (option_map to a) (option_map to b) ≡ same_option ◌==◌ a b) (names : List Declaration) where
  class_alike : (s : Sort) (n : List ℕ) → class_number (moved_names to names) s n ≡ class_number names s n
  unfolding class_number
  class_alike (sort.Class k) n = number_alike to same names n (wanted.ClassOf k)
  class_alike _ n = refl

  argument_alike : (s : Sort) (a : SceneArg) → argument_of (moved_names to names) s a ≡ argument_of names s a
  unfolding argument_of
  argument_alike s arg.NoArgument = refl
  argument_alike s (arg.Expression e) = refl
  argument_alike s (arg.OfClass n) = rw (class_alike s n) refl

  plain_alike : (vs : List (List ℕ)) (f : SceneLine) → plain_act (moved_names to names) vs f ≡ plain_act names vs f
  unfolding plain_act
  plain_alike vs (line.Let x e) = refl
  plain_alike vs (line.Call k into a b c) = rw (argument_alike (signature_of k).a a, argument_alike (signature_of k).b b, argument_alike (signature_of k).c c) refl
  plain_alike vs (line.Get x r) = rw (number_alike to same names r wanted.Register) refl
  plain_alike vs (line.Put r e) = rw (number_alike to same names r wanted.Register) refl
  plain_alike vs _ = refl

  act_alike : (vs : List (List ℕ)) (blocks after : List Nest) (n : ℕ) (f : SceneLine) (rest : List NumberedLine) → act_on (moved_names to names) vs blocks after n f rest ≡ act_on names vs blocks after n f rest
  unfolding act_on
  act_alike vs blocks after n (line.If e) rest = refl
  act_alike vs blocks after n (line.Repeat e) rest = refl
  act_alike vs blocks after n line.End rest = refl
  act_alike vs blocks after n f rest = plain_alike vs f

  at_alike : (vs : List (List ℕ)) (blocks : List Nest) (n : ℕ) (l : NumberedLine) (rest : List NumberedLine) → statement_at (moved_names to names) vs blocks n l rest ≡ statement_at names vs blocks n l rest
  unfolding statement_on
  at_alike vs blocks n l rest =
      let after = nests_after blocks n l.number l.form in
      ap (λ (o : Option Act). option_map (λ a. record { line = told_line blocks l.number l.form; next = onward after (n + 1) rest; act = a }) o) (act_alike vs blocks after n l.form rest)

  pub statements_alike : (vs : List (List ℕ)) (blocks : List Nest) (n : ℕ) (ls : List NumberedLine) → statements_from (moved_names to names) vs blocks n ls ≡ statements_from names vs blocks n ls
  unfolding statements_from
  statements_alike vs blocks n [] = refl
  statements_alike vs blocks n (l ∷ ls) =
      ap (λ (o : Option Statement). cond (ends_callback blocks l.form) [] (cons_option o (statements_from (moved_names to names) vs (nests_after blocks n l.number l.form) (number_after n o) ls))) (at_alike vs blocks n l ls)
      ∙ ap (λ ss. cond (ends_callback blocks l.form) [] (cons_option (statement_at names vs blocks n l ls) ss)) (statements_alike vs (nests_after blocks n l.number l.form) (number_after n (statement_at names vs blocks n l ls)) ls)

  pub statements_named : (s : Scene) (k : ℕ) → statements_of s (moved_names to names) k ≡ statements_of s names k
  unfolding statements_of
  statements_named s k = statements_alike (variables s k) [] 0 (drop (suc k) s.lines)

  -- ---- expressions

  named_alike : (n : List ℕ) (o : Option ℕ) → named_node (moved_names to names) n o ≡ named_node names n o
  named_alike n None = ap node.Object (handle_alike to same names n wanted.Object)
  named_alike n (Some v) = refl

  pub node_alike : (vs : List (List ℕ)) (e : SceneExpr) → node_of (moved_names to names) vs e ≡ node_of names vs e
  unfolding node_of
  node_alike vs (expr.Named n) = named_alike n (variable_number vs n)
  node_alike vs _ = refl

-- ---- an `order` block has none

pub no_nodes_on : (s : Scene) (names : List Declaration) (p : Placed) → is_of_order p.form ≡ true → nodes_on s names p ≡ []
unfolding nodes_on
no_nodes_on s names p h = ap (map (node_of names (variables_at s p))) (no_nodes s names [] p h)

pub no_script : (s : Scene) (names : List Declaration) (p : Placed) (f : SceneLine) → is_of_order f ≡ true → script_on s names p f ≡ None
unfolding script_on
no_script s names p line.Order h = refl
no_script s names p line.Picks h = refl
no_script s names p line.End h = refl
no_script s names p _ h = absurd (let z : ⊥ = cc in z)

-- ---- the lines of a scene

module _ (to : ℕ → ℕ) (one two : Scene) (i : IsInserted to one two) (names : List Declaration) where
  pub nodes_on_alike : (n : ℕ) (p : Placed) → nodes_on two (moved_names to names) (moved_placed to n p) ≡ nodes_on one names p
  unfolding nodes_on
  nodes_on_alike n p =
      ap (λ vs. map (node_of (moved_names to names) vs) (nodes_of two (moved_placed to n p))) (variables_alike to one two i.moved n p)
      ∙ ap (map (node_of (moved_names to names) (variables_at one p))) (nodes_alike to one two i.moved names n p)
      ∙ map_alike (node_of (moved_names to names) (variables_at one p)) (node_of names (variables_at one p)) (node_alike to i.moved.same names (variables_at one p)) (nodes_of one p)

  block_owner_alike : (n : ℕ) (p : Placed) (b : ℕ) (f : SceneLine) → block_owner two (moved_names to names) (moved_placed to n p) (to b) f ≡ block_owner one names p b f
  unfolding block_owner
  block_owner_alike n p b (line.Class x k) = rw (number_alike to i.moved.same names x (wanted.ClassOf (plain_kind k))) refl
  block_owner_alike n p b (line.DeferredClass x k parent) = rw (number_alike to i.moved.same names x (wanted.ClassOf (deferred_kind k))) refl
  block_owner_alike n p b f = object_alike to one two i names n p b f

  owner_in_alike : (n : ℕ) (p : Placed) (b : ℕ) (o : Option SceneLine) → owner_in two (moved_names to names) (moved_placed to n p) (to b) o ≡ owner_in one names p b o
  owner_in_alike n p b None = refl
  owner_in_alike n p b (Some f) = block_owner_alike n p b f

  owner_alike : (n : ℕ) (p : Placed) (o : Option ℕ) → owner_of two (moved_names to names) (moved_placed to n p) (option_map to o) ≡ owner_of one names p o
  unfolding owner_of
  owner_alike n p None = refl
  owner_alike n p (Some b) = ap (owner_in two (moved_names to names) (moved_placed to n p) (to b)) (i.moved.form b) ∙ owner_in_alike n p b (form_at one b)

  -- the script of a callback
  pub script_alike : (n : ℕ) (p : Placed) (f : SceneLine) → form_at one p.at ≡ Some f → script_on two (moved_names to names) (moved_placed to n p) f ≡ script_on one names p f
  unfolding script_on
  script_alike n p (line.On c) there =
      ap (λ o. option_map (λ d. record { callback = c; owner = d; line = p.number; statements = statements_of two (moved_names to names) (to p.at) }) o) (owner_alike n p p.stand.block)
      ∙ ap (λ ss. option_map (λ d. record { callback = c; owner = d; line = p.number; statements = ss }) (owner_of one names p p.stand.block))
      (i.statements (moved_names to names) p.at c there ∙ statements_named to i.moved.same names one p.at)
  script_alike n p _ there = refl
