-- The scripts of a plan are the same without line numbers, but for the numbers of their lines.
use Rattle.std.proofs.Common.{◌≡◌, ℕ, suc, ◌+◌, ◌-◌, ◌==◌, Bool, true, false, cond, ◌&&◌, nat_lt, List, [], ◌∷◌, length, map, fold, take, drop, Option, Some, None, option_map, slice_get, refl, sym, ap, ◌∙◌}
use Rattle.std.specs.List.{cons_option}
use Rattle.std.proofs.lemmas.List.{length-map, map-append}
use Rattle.wdf_base.specs.Calls.{signature_of}
use Rattle.wdf_base.specs.Kinds.{deferred_kind, plain_kind}
use Rattle.wdf_base.specs.declared.declared.Declared.{Declared}
use Rattle.wdf_base.specs.declared.script.Act.{Act}
use Rattle.wdf_base.specs.declared.script.Act.TheVariants as act
use Rattle.wdf_base.specs.declared.script.ExprNode.TheVariants as node
use Rattle.wdf_base.specs.declared.script.Statement.{Statement}
use Rattle.wdf_base.specs.declared.signature.Sort.{Sort}
use Rattle.wdf_base.specs.declared.signature.Sort.TheVariants as sort
use Rattle.wdf_scene.specs.declared.line.NumberedLine.{NumberedLine}
use Rattle.wdf_scene.specs.declared.line.SceneArg.{SceneArg}
use Rattle.wdf_scene.specs.declared.line.SceneArg.TheVariants as arg
use Rattle.wdf_scene.specs.declared.line.SceneExpr.{SceneExpr}
use Rattle.wdf_scene.specs.declared.line.SceneExpr.TheVariants as expr
use Rattle.wdf_scene.specs.declared.line.SceneLine.{SceneLine}
use Rattle.wdf_scene.specs.declared.line.SceneLine.TheVariants as line
use Rattle.wdf_scene.specs.declared.scene.Scene.{Scene}
use Rattle.wdf_parse.specs.StandsFor.{without_number, without_numbers}
use Rattle.wdf_blocks.specs.declared.declaration.Declaration.{Declaration}
use Rattle.wdf_blocks.specs.declared.declaration.Wanted.TheVariants as wanted
use Rattle.wdf_blocks.specs.declared.placed.Placed.{Placed}
use Rattle.wdf_blocks.specs.Blocks.{form_at}
use Rattle.wdf_blocks.specs.Forms.{is_end}
use Rattle.wdf_blocks.specs.Variables.{variable_number, variables, variables_at}
use Rattle.wdf_refusals.specs.Rows.{nodes_of}
use Rattle.wdf_plan.specs.declared.course.Course.{Course}
use Rattle.wdf_plan.specs.declared.course.Nest.{Nest}
use Rattle.wdf_plan.specs.declared.course.Nest.TheVariants as nest
use Rattle.wdf_plan.specs.Scripts.{act_on, again, argument_of, block_owner, class_number, ends_callback, going, is_branch, is_else, is_loop, loop_line, loops, named_node, nest_at, nests_after, node_of, nodes_on, number_after, onward, outer, owner_in, owner_of, passed, plain_act, reach, script_on, skipping, statement_at, statement_on, statements_from, statements_of, told_line}
use Rattle.law_bare.specs.Lines.{bare_script, bare_statement}
use Rattle.law_bare.proofs.Lists.{at_mapped, drop_map, map_alike, take_mapped}
use Rattle.law_canonical.proofs.Numbers.{handle_alike, number_alike}
use Rattle.law_canonical.proofs.Parts.{object_alike}
use Rattle.law_canonical.proofs.Refusals.{nodes_alike}
use Rattle.law_canonical.proofs.Scenes.{form_alike, undeclared, unplaced, variables_alike, variables_of}

-- ---- open blocks

-- an open block without the number of its line
abbrev bare_nest : Nest → Nest
bare_nest nest.Branch = nest.Branch
bare_nest (nest.Loop l n) = nest.Loop 0 n

abbrev bare_nests : List Nest → List Nest
bare_nests blocks = map bare_nest blocks

cond_map : (b : Bool) (o : Option Nest) → cond b (option_map bare_nest o) None ≡ option_map bare_nest (cond b o None)
cond_map true o = refl
cond_map false o = refl

nest_alike : (blocks : List Nest) (left : ℕ) → nest_at (bare_nests blocks) left ≡ option_map bare_nest (nest_at blocks left)
nest_alike blocks left =
    ap (λ n. cond (nat_lt left n) (slice_get (bare_nests blocks) (n - suc left)) None) (length-map blocks bare_nest)
    ∙ ap (λ o. cond (nat_lt left (length blocks)) o None) (at_mapped bare_nest blocks (length blocks - suc left))
    ∙ cond_map (nat_lt left (length blocks)) (slice_get blocks (length blocks - suc left))

branch_alike : (o : Option Nest) → is_branch (option_map bare_nest o) ≡ is_branch o
branch_alike None = refl
branch_alike (Some nest.Branch) = refl
branch_alike (Some (nest.Loop l n)) = refl

loop_alike : (b : Nest) → is_loop (bare_nest b) ≡ is_loop b
loop_alike nest.Branch = refl
loop_alike (nest.Loop l n) = refl

loops_from : (a : ℕ) (blocks : List Nest) → fold (λ n b. n + cond (is_loop b) 1 0) a (bare_nests blocks) ≡ fold (λ n b. n + cond (is_loop b) 1 0) a blocks
loops_from a [] = refl
loops_from a (b ∷ blocks) =
    ap (λ t. fold (λ n c. n + cond (is_loop c) 1 0) (a + cond t 1 0) (bare_nests blocks)) (loop_alike b) ∙ loops_from (a + cond (is_loop b) 1 0) blocks

loops_alike : (blocks : List Nest) → loops (bare_nests blocks) ≡ loops blocks
unfolding loops
loops_alike blocks = loops_from 0 blocks

outer_alike : (blocks : List Nest) → outer (bare_nests blocks) ≡ bare_nests (outer blocks)
outer_alike blocks = ap (λ n. take (n - 1) (bare_nests blocks)) (length-map blocks bare_nest) ∙ take_mapped bare_nest (length blocks - 1) blocks

-- ---- the way through the statements

going_alike : (blocks : List Nest) (c : Course) (f : SceneLine) → going (bare_nests blocks) c f ≡ going blocks c f
going_alike blocks c f =
    ap (λ b. cond (is_end f) (cond b (Some (record c { left = c.left + 1 })) None) (cond (is_else f) (Some (record c { skipping = 1 })) None))
    (ap is_branch (nest_alike blocks c.left) ∙ branch_alike (nest_at blocks c.left))

passed_alike : (blocks : List Nest) (c : Course) (f : SceneLine) → passed (bare_nests blocks) c f ≡ passed blocks c f
unfolding passed
passed_alike blocks c f = ap (λ o. cond (c.skipping == 0) o (Some (skipping c f))) (going_alike blocks c f)

reach_by : (blocks : List Nest) (c : Course) (ls : List NumberedLine) (o : Option Course) → ((t : Course) → reach (bare_nests blocks) t (map without_number ls) ≡ reach blocks t ls)
    → (elim o as (λ _. ℕ) [ None ↦ c.number | Some t ↦ reach (bare_nests blocks) t (map without_number ls) ]) ≡ (elim o as (λ _. ℕ) [ None ↦ c.number | Some t ↦ reach blocks t ls ])
reach_by blocks c ls None rest = refl
reach_by blocks c ls (Some t) rest = rest t

reach_alike : (blocks : List Nest) (c : Course) (ls : List NumberedLine) → reach (bare_nests blocks) c (map without_number ls) ≡ reach blocks c ls
unfolding reach
reach_alike blocks c [] = refl
reach_alike blocks c (l ∷ ls) =
    ap (λ o. elim o as (λ _. ℕ) [ None ↦ c.number | Some t ↦ reach (bare_nests blocks) t (map without_number ls) ]) (passed_alike blocks c l.form)
    ∙ reach_by blocks c ls (passed blocks c l.form) (λ t. reach_alike blocks t ls)

-- ---- statements

module _ (names : List Declaration) where
  abbrev bare_names : List Declaration
  bare_names = map undeclared names

  class_alike : (s : Sort) (n : List ℕ) → class_number bare_names s n ≡ class_number names s n
  unfolding class_number
  class_alike (sort.Class k) n = number_alike names n (wanted.ClassOf k)
  class_alike _ n = refl

  argument_alike : (s : Sort) (a : SceneArg) → argument_of bare_names s a ≡ argument_of names s a
  unfolding argument_of
  argument_alike s arg.NoArgument = refl
  argument_alike s (arg.Expression e) = refl
  argument_alike s (arg.OfClass n) = rw (class_alike s n) refl

  plain_alike : (vs : List (List ℕ)) (f : SceneLine) → plain_act bare_names vs f ≡ plain_act names vs f
  unfolding plain_act
  plain_alike vs (line.Let x e) = refl
  plain_alike vs (line.Call k into a b c) = rw (argument_alike (signature_of k).a a, argument_alike (signature_of k).b b, argument_alike (signature_of k).c c) refl
  plain_alike vs (line.Get x r) = rw (number_alike names r wanted.Register) refl
  plain_alike vs (line.Put r e) = rw (number_alike names r wanted.Register) refl
  plain_alike vs _ = refl

  again_alike : (blocks : List Nest) (o : Option Nest) → again (bare_nests blocks) (option_map bare_nest o) ≡ again blocks o
  again_alike blocks None = refl
  again_alike blocks (Some nest.Branch) = refl
  again_alike blocks (Some (nest.Loop l n)) = ap (λ k. Some (act.Again k (n + 1))) (ap loops (outer_alike blocks) ∙ loops_alike (outer blocks))

  nests_alike : (blocks : List Nest) (n number : ℕ) (f : SceneLine) → nests_after (bare_nests blocks) n 0 f ≡ bare_nests (nests_after blocks n number f)
  unfolding nests_after
  nests_alike blocks n number (line.If e) = sym (map-append bare_nest blocks (nest.Branch ∷ []))
  nests_alike blocks n number (line.Repeat e) = sym (map-append bare_nest blocks (nest.Loop number n ∷ []))
  nests_alike blocks n number line.End = outer_alike blocks
  nests_alike blocks n number _ = refl

  act_on_alike : (vs : List (List ℕ)) (blocks after : List Nest) (n : ℕ) (f : SceneLine) (rest : List NumberedLine)
      → act_on bare_names vs (bare_nests blocks) (bare_nests after) n f (map without_number rest) ≡ act_on names vs blocks after n f rest
  unfolding act_on
  act_on_alike vs blocks after n (line.If e) rest = ap (λ k. Some (act.If e k)) (reach_alike after (record { skipping = 1; left = 0; number = n + 1 }) rest)
  act_on_alike vs blocks after n (line.Repeat e) rest = rw (loops_alike blocks, reach_alike after (record { skipping = 1; left = 0; number = n + 2 }) rest) refl
  act_on_alike vs blocks after n line.End rest = ap (again (bare_nests blocks)) (nest_alike blocks 0) ∙ again_alike blocks (nest_at blocks 0)
  act_on_alike vs blocks after n f rest = plain_alike vs f

  loop_line_bare : (o : Option Nest) → loop_line 0 (option_map bare_nest o) ≡ 0
  loop_line_bare None = refl
  loop_line_bare (Some nest.Branch) = refl
  loop_line_bare (Some (nest.Loop l n)) = refl

  cond_zero : (b : Bool) (n : ℕ) → n ≡ 0 → cond b n 0 ≡ 0
  cond_zero true n e = e
  cond_zero false n e = refl

  told_bare : (blocks : List Nest) (f : SceneLine) → told_line (bare_nests blocks) 0 f ≡ 0
  unfolding told_line
  told_bare blocks f = cond_zero (is_end f) (loop_line 0 (nest_at (bare_nests blocks) 0)) (ap (loop_line 0) (nest_alike blocks 0) ∙ loop_line_bare (nest_at blocks 0))

  statement_by : (told next : ℕ) (o : Option Act) → option_map (λ a. record { line = 0; next = next; act = a }) o ≡ option_map bare_statement (option_map (λ a. record { line = told; next = next; act = a }) o)
  statement_by told next None = refl
  statement_by told next (Some a) = refl

  statement_alike : (vs : List (List ℕ)) (blocks after : List Nest) (n : ℕ) (l : NumberedLine) (rest : List NumberedLine)
      → statement_on bare_names vs (bare_nests blocks) (bare_nests after) n (without_number l) (map without_number rest) ≡ option_map bare_statement (statement_on names vs blocks after n l rest)
  unfolding statement_on
  statement_alike vs blocks after n l rest =
      ap (λ o. option_map (λ a. record { line = told_line (bare_nests blocks) 0 l.form; next = onward (bare_nests after) (n + 1) (map without_number rest); act = a }) o) (act_on_alike vs blocks after n l.form rest)
      ∙ ap (λ t. option_map (λ a. record { line = t; next = onward (bare_nests after) (n + 1) (map without_number rest); act = a }) (act_on names vs blocks after n l.form rest)) (told_bare blocks l.form)
      ∙ ap (λ k. option_map (λ a. record { line = 0; next = k; act = a }) (act_on names vs blocks after n l.form rest)) (reach_alike after (record { skipping = 0; left = 0; number = n + 1 }) rest)
      ∙ statement_by (told_line blocks l.number l.form) (onward after (n + 1) rest) (act_on names vs blocks after n l.form rest)

  at_alike : (vs : List (List ℕ)) (blocks : List Nest) (n : ℕ) (l : NumberedLine) (rest : List NumberedLine)
      → statement_at bare_names vs (bare_nests blocks) n (without_number l) (map without_number rest) ≡ option_map bare_statement (statement_at names vs blocks n l rest)
  at_alike vs blocks n l rest =
      ap (λ bs. statement_on bare_names vs (bare_nests blocks) bs n (without_number l) (map without_number rest)) (nests_alike blocks n l.number l.form)
      ∙ statement_alike vs blocks (nests_after blocks n l.number l.form) n l rest

  after_alike : (n : ℕ) (o : Option Statement) → number_after n (option_map bare_statement o) ≡ number_after n o
  after_alike n None = refl
  after_alike n (Some s) = refl

  ends_alike : (blocks : List Nest) (f : SceneLine) → ends_callback (bare_nests blocks) f ≡ ends_callback blocks f
  ends_alike blocks f = ap (λ n. is_end f && (n == 0)) (length-map blocks bare_nest)

  cons_alike : (b : Bool) (o : Option Statement) (ss : List Statement) → cond b [] (cons_option (option_map bare_statement o) (map bare_statement ss)) ≡ map bare_statement (cond b [] (cons_option o ss))
  cons_alike true o ss = refl
  cons_alike false None ss = refl
  cons_alike false (Some s) ss = refl

  statements_alike : (vs : List (List ℕ)) (blocks : List Nest) (n : ℕ) (ls : List NumberedLine)
      → statements_from bare_names vs (bare_nests blocks) n (map without_number ls) ≡ map bare_statement (statements_from names vs blocks n ls)
  unfolding statements_from
  statements_alike vs blocks n [] = refl
  statements_alike vs blocks n (l ∷ ls) =
      let one : Option Statement = statement_at names vs blocks n l ls in
      let next : List Nest = nests_after blocks n l.number l.form in
      ap (λ b. cond b [] (cons_option (statement_at bare_names vs (bare_nests blocks) n (without_number l) (map without_number ls)) (statements_from bare_names vs (nests_after (bare_nests blocks) n 0 l.form) (number_after n (statement_at bare_names vs (bare_nests blocks) n (without_number l) (map without_number ls))) (map without_number ls)))) (ends_alike blocks l.form)
      ∙ ap (λ o. cond (ends_callback blocks l.form) [] (cons_option o (statements_from bare_names vs (nests_after (bare_nests blocks) n 0 l.form) (number_after n o) (map without_number ls)))) (at_alike vs blocks n l ls)
      ∙ ap (λ bs. cond (ends_callback blocks l.form) [] (cons_option (option_map bare_statement one) (statements_from bare_names vs bs (number_after n (option_map bare_statement one)) (map without_number ls)))) (nests_alike blocks n l.number l.form)
      ∙ ap (λ k. cond (ends_callback blocks l.form) [] (cons_option (option_map bare_statement one) (statements_from bare_names vs (bare_nests next) k (map without_number ls)))) (after_alike n one)
      ∙ ap (λ ss. cond (ends_callback blocks l.form) [] (cons_option (option_map bare_statement one) ss)) (statements_alike vs next (number_after n one) ls)
      ∙ cons_alike (ends_callback blocks l.form) one (statements_from names vs next (number_after n one) ls)

  -- ---- scripts and expressions

  named_alike : (n : List ℕ) (o : Option ℕ) → named_node bare_names n o ≡ named_node names n o
  named_alike n None = ap node.Object (handle_alike names n wanted.Object)
  named_alike n (Some v) = refl

  node_alike : (vs : List (List ℕ)) (e : SceneExpr) → node_of bare_names vs e ≡ node_of names vs e
  unfolding node_of
  node_alike vs (expr.Named n) = named_alike n (variable_number vs n)
  node_alike vs _ = refl

  module _ (s : Scene) where
    abbrev bare : Scene
    bare = without_numbers s

    pub nodes_on_alike : (p : Placed) → nodes_on bare bare_names (unplaced p) ≡ nodes_on s names p
    unfolding nodes_on
    nodes_on_alike p =
        ap (λ vs. map (node_of bare_names vs) (nodes_of bare (unplaced p))) (variables_alike s p)
        ∙ ap (map (node_of bare_names (variables_at s p))) (nodes_alike names s p)
        ∙ map_alike (node_of bare_names (variables_at s p)) (node_of names (variables_at s p)) (node_alike (variables_at s p)) (nodes_of s p)

    statements_of_alike : (k : ℕ) → statements_of bare bare_names k ≡ map bare_statement (statements_of s names k)
    unfolding statements_of
    statements_of_alike k =
        ap (λ vs. statements_from bare_names vs [] 0 (drop (suc k) bare.lines)) (variables_of s k)
        ∙ ap (statements_from bare_names (variables s k) [] 0) (drop_map without_number (suc k) s.lines)
        ∙ statements_alike (variables s k) [] 0 (drop (suc k) s.lines)

    block_owner_alike : (p : Placed) (b : ℕ) (f : SceneLine) → block_owner bare bare_names (unplaced p) b f ≡ block_owner s names p b f
    unfolding block_owner
    block_owner_alike p b (line.Class n k) = rw (number_alike names n (wanted.ClassOf (plain_kind k))) refl
    block_owner_alike p b (line.DeferredClass n k parent) = rw (number_alike names n (wanted.ClassOf (deferred_kind k))) refl
    block_owner_alike p b f = object_alike names s p b f

    owner_in_alike : (p : Placed) (b : ℕ) (o : Option SceneLine) → owner_in bare bare_names (unplaced p) b o ≡ owner_in s names p b o
    owner_in_alike p b None = refl
    owner_in_alike p b (Some f) = block_owner_alike p b f

    owner_alike : (p : Placed) (o : Option ℕ) → owner_of bare bare_names (unplaced p) o ≡ owner_of s names p o
    unfolding owner_of
    owner_alike p None = refl
    owner_alike p (Some b) = ap (owner_in bare bare_names (unplaced p) b) (form_alike s b) ∙ owner_in_alike p b (form_at s b)

    pub script_alike : (p : Placed) (f : SceneLine) → script_on bare bare_names (unplaced p) f ≡ option_map bare_script (script_on s names p f)
    unfolding script_on
    script_alike p (line.On c) =
        ap (λ o. option_map (λ d. record { callback = c; owner = d; line = 0; statements = statements_of bare bare_names p.at }) o) (owner_alike p p.stand.block)
        ∙ ap (λ ss. option_map (λ d. record { callback = c; owner = d; line = 0; statements = ss }) (owner_of s names p p.stand.block)) (statements_of_alike p.at)
        ∙ by_owner (owner_of s names p p.stand.block)
      where
        by_owner : (o : Option Declared) → option_map (λ d. record { callback = c; owner = d; line = 0; statements = map bare_statement (statements_of s names p.at) }) o
            ≡ option_map bare_script (option_map (λ d. record { callback = c; owner = d; line = p.number; statements = statements_of s names p.at }) o)
        by_owner None = refl
        by_owner (Some d) = refl
    script_alike p _ = refl
