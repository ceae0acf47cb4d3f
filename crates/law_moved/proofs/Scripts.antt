-- The scripts and the expressions of a plan are the same without ticks.
use Rattle.std.proofs.Common.{◌≡◌, ℕ, suc, ◌+◌, cond, List, [], ◌∷◌, map, drop, Option, Some, None, option_map, refl, ap, ◌∙◌}
use Rattle.std.specs.List.{cons_option}
use Rattle.wdf_base.specs.declared.declared.Declared.{Declared}
use Rattle.wdf_base.specs.declared.script.Act.{Act}
use Rattle.wdf_base.specs.declared.script.Act.TheVariants as act
use Rattle.wdf_base.specs.declared.script.Statement.{Statement}
use Rattle.wdf_scene.specs.declared.line.NumberedLine.{NumberedLine}
use Rattle.wdf_scene.specs.declared.line.SceneLine.{SceneLine}
use Rattle.wdf_scene.specs.declared.line.SceneLine.TheVariants as line
use Rattle.wdf_scene.specs.declared.scene.Scene.{Scene}
use Rattle.wdf_blocks.specs.declared.declaration.Declaration.{Declaration}
use Rattle.wdf_blocks.specs.declared.placed.Placed.{Placed}
use Rattle.wdf_blocks.specs.Blocks.{form_at}
use Rattle.wdf_blocks.specs.Forms.{is_end, opens}
use Rattle.wdf_blocks.specs.Variables.{variables, variables_at}
use Rattle.wdf_refusals.specs.Rows.{nodes_of}
use Rattle.wdf_plan.specs.declared.course.Course.{Course}
use Rattle.wdf_plan.specs.declared.course.Nest.{Nest}
use Rattle.wdf_plan.specs.Parts.{object_of}
use Rattle.wdf_plan.specs.Scripts.{act_on, block_owner, ends_callback, nests_after, node_of, nodes_on, number_after, onward, is_else, owner_in, owner_of, passed, plain_act, reach, script_on, statement_at, statement_on, statements_from, statements_in, statements_of, told_line}
use Rattle.law_bare.proofs.Lists.{drop_map}
use Rattle.law_moved.proofs.Untimed.{by_form, untimed, untimed_line, untimed_scene}
use Rattle.law_moved.proofs.Parts.{object_alike}
use Rattle.law_moved.proofs.Refusals.{expressions_alike}
use Rattle.law_moved.proofs.Scenes.{form_alike, unplaced, variables_alike, variables_of}

-- ---- the way through the statements

passed_alike : (blocks : List Nest) (c : Course) (f : SceneLine) → passed blocks c (untimed f) ≡ passed blocks c f
unfolding passed is_end is_else opens statements_in
passed_alike blocks c f = by_form (passed blocks c) (λ t u a. refl) (λ t u d n. refl) (λ t u d n. refl) (λ t u d c n. refl) (λ t u k. refl) (λ t u a d. refl) f

reach_by : (blocks : List Nest) (c : Course) (ls : List NumberedLine) (o : Option Course) → ((t : Course) → reach blocks t (map untimed_line ls) ≡ reach blocks t ls)
    → (elim o as (λ _. ℕ) [ None ↦ c.number | Some t ↦ reach blocks t (map untimed_line ls) ]) ≡ (elim o as (λ _. ℕ) [ None ↦ c.number | Some t ↦ reach blocks t ls ])
reach_by blocks c ls None rest = refl
reach_by blocks c ls (Some t) rest = rest t

reach_alike : (blocks : List Nest) (c : Course) (ls : List NumberedLine) → reach blocks c (map untimed_line ls) ≡ reach blocks c ls
unfolding reach
reach_alike blocks c [] = refl
reach_alike blocks c (l ∷ ls) =
    ap (λ o. elim o as (λ _. ℕ) [ None ↦ c.number | Some t ↦ reach blocks t (map untimed_line ls) ]) (passed_alike blocks c l.form)
    ∙ reach_by blocks c ls (passed blocks c l.form) (λ t. reach_alike blocks t ls)

-- ---- statements

module _ (names : List Declaration) where
  plain_alike : (vs : List (List ℕ)) (f : SceneLine) → plain_act names vs (untimed f) ≡ plain_act names vs f
  unfolding plain_act
  plain_alike vs f = by_form (plain_act names vs) (λ t u a. refl) (λ t u d n. refl) (λ t u d n. refl) (λ t u d c n. refl) (λ t u k. refl) (λ t u a d. refl) f

  act_alike : (vs : List (List ℕ)) (blocks after : List Nest) (n : ℕ) (f : SceneLine) (rest : List NumberedLine) → act_on names vs blocks after n (untimed f) (map untimed_line rest) ≡ act_on names vs blocks after n f rest
  unfolding act_on
  act_alike vs blocks after n (line.If e) rest = ap (λ k. Some (act.If e k)) (reach_alike after (record { skipping = 1; left = 0; number = n + 1 }) rest)
  act_alike vs blocks after n (line.Repeat e) rest = rw (reach_alike after (record { skipping = 1; left = 0; number = n + 2 }) rest) refl
  act_alike vs blocks after n line.End rest = refl
  act_alike vs blocks after n f rest = plain_alike vs f

  told_alike : (blocks : List Nest) (number : ℕ) (f : SceneLine) → told_line blocks number (untimed f) ≡ told_line blocks number f
  unfolding told_line is_end
  told_alike blocks number f = by_form (told_line blocks number) (λ t u a. refl) (λ t u d n. refl) (λ t u d n. refl) (λ t u d c n. refl) (λ t u k. refl) (λ t u a d. refl) f

  nests_alike : (blocks : List Nest) (n number : ℕ) (f : SceneLine) → nests_after blocks n number (untimed f) ≡ nests_after blocks n number f
  unfolding nests_after
  nests_alike blocks n number f = by_form (nests_after blocks n number) (λ t u a. refl) (λ t u d n. refl) (λ t u d n. refl) (λ t u d c n. refl) (λ t u k. refl) (λ t u a d. refl) f

  at_alike : (vs : List (List ℕ)) (blocks : List Nest) (n : ℕ) (l : NumberedLine) (rest : List NumberedLine) → statement_at names vs blocks n (untimed_line l) (map untimed_line rest) ≡ statement_at names vs blocks n l rest
  unfolding statement_on
  at_alike vs blocks n l rest =
      let after = nests_after blocks n l.number l.form in
      let next = onward (nests_after blocks n l.number (untimed l.form)) (n + 1) (map untimed_line rest) in
      ap (λ (k : ℕ). option_map (λ a. record { line = k; next = next; act = a }) (act_on names vs blocks (nests_after blocks n l.number (untimed l.form)) n (untimed l.form) (map untimed_line rest))) (told_alike blocks l.number l.form)
      ∙ ap (λ bs. option_map (λ a. record { line = told_line blocks l.number l.form; next = onward bs (n + 1) (map untimed_line rest); act = a }) (act_on names vs blocks bs n (untimed l.form) (map untimed_line rest))) (nests_alike blocks n l.number l.form)
      ∙ ap (λ (k : ℕ). option_map (λ a. record { line = told_line blocks l.number l.form; next = k; act = a }) (act_on names vs blocks after n (untimed l.form) (map untimed_line rest))) (reach_alike after (record { skipping = 0; left = 0; number = n + 1 }) rest)
      ∙ ap (λ (o : Option Act). option_map (λ a. record { line = told_line blocks l.number l.form; next = onward after (n + 1) rest; act = a }) o) (act_alike vs blocks after n l.form rest)

  ends_alike : (blocks : List Nest) (f : SceneLine) → ends_callback blocks (untimed f) ≡ ends_callback blocks f
  unfolding is_end
  ends_alike blocks f = by_form (ends_callback blocks) (λ t u a. refl) (λ t u d n. refl) (λ t u d n. refl) (λ t u d c n. refl) (λ t u k. refl) (λ t u a d. refl) f

  statements_alike : (vs : List (List ℕ)) (blocks : List Nest) (n : ℕ) (ls : List NumberedLine) → statements_from names vs blocks n (map untimed_line ls) ≡ statements_from names vs blocks n ls
  unfolding statements_from
  statements_alike vs blocks n [] = refl
  statements_alike vs blocks n (l ∷ ls) =
      let one : Option Statement = statement_at names vs blocks n l ls in
      let f = untimed l.form in
      ap (λ b. cond b [] (cons_option (statement_at names vs blocks n (untimed_line l) (map untimed_line ls)) (statements_from names vs (nests_after blocks n l.number f) (number_after n (statement_at names vs blocks n (untimed_line l) (map untimed_line ls))) (map untimed_line ls)))) (ends_alike blocks l.form)
      ∙ ap (λ (o : Option Statement). cond (ends_callback blocks l.form) [] (cons_option o (statements_from names vs (nests_after blocks n l.number f) (number_after n o) (map untimed_line ls)))) (at_alike vs blocks n l ls)
      ∙ ap (λ bs. cond (ends_callback blocks l.form) [] (cons_option one (statements_from names vs bs (number_after n one) (map untimed_line ls)))) (nests_alike blocks n l.number l.form)
      ∙ ap (λ ss. cond (ends_callback blocks l.form) [] (cons_option one ss)) (statements_alike vs (nests_after blocks n l.number l.form) (number_after n one) ls)

  -- ---- scripts

  module _ (s : Scene) where
    abbrev bare : Scene
    bare = untimed_scene s

    statements_of_alike : (k : ℕ) → statements_of bare names k ≡ statements_of s names k
    unfolding statements_of
    statements_of_alike k =
        ap (λ vs. statements_from names vs [] 0 (drop (suc k) bare.lines)) (variables_of s k)
        ∙ ap (statements_from names (variables s k) [] 0) (drop_map untimed_line (suc k) s.lines)
        ∙ statements_alike (variables s k) [] 0 (drop (suc k) s.lines)

    owner_here : (p : Placed) (b : ℕ) (f : SceneLine) → block_owner bare names (unplaced p) b f ≡ block_owner s names p b f
    unfolding block_owner
    owner_here p b (line.Class n k) = refl
    owner_here p b (line.DeferredClass n k parent) = refl
    owner_here p b f = object_alike names s p b f

    block_owner_alike : (p : Placed) (b : ℕ) (f : SceneLine) → block_owner bare names (unplaced p) b (untimed f) ≡ block_owner s names p b f
    unfolding block_owner object_of
    block_owner_alike p b f = by_form (block_owner bare names (unplaced p) b) (λ t u a. refl) (λ t u d n. refl) (λ t u d n. refl) (λ t u d c n. refl) (λ t u k. refl) (λ t u a d. refl) f ∙ owner_here p b f

    owner_in_alike : (p : Placed) (b : ℕ) (o : Option SceneLine) → owner_in bare names (unplaced p) b (option_map untimed o) ≡ owner_in s names p b o
    owner_in_alike p b None = refl
    owner_in_alike p b (Some f) = block_owner_alike p b f

    owner_alike : (p : Placed) (o : Option ℕ) → owner_of bare names (unplaced p) o ≡ owner_of s names p o
    unfolding owner_of
    owner_alike p None = refl
    owner_alike p (Some b) = ap (owner_in bare names (unplaced p) b) (form_alike s b) ∙ owner_in_alike p b (form_at s b)

    script_here : (p : Placed) (f : SceneLine) → script_on bare names (unplaced p) f ≡ script_on s names p f
    unfolding script_on
    script_here p (line.On c) =
        ap (λ (o : Option Declared). option_map (λ d. record { callback = c; owner = d; line = p.number; statements = statements_of bare names p.at }) o) (owner_alike p p.stand.block)
        ∙ ap (λ ss. option_map (λ d. record { callback = c; owner = d; line = p.number; statements = ss }) (owner_of s names p p.stand.block)) (statements_of_alike p.at)
    script_here p _ = refl

    pub script_alike : (p : Placed) (f : SceneLine) → script_on bare names (unplaced p) (untimed f) ≡ script_on s names p f
    unfolding script_on
    script_alike p f = by_form (script_on bare names (unplaced p)) (λ t u a. refl) (λ t u d n. refl) (λ t u d n. refl) (λ t u d c n. refl) (λ t u k. refl) (λ t u a d. refl) f ∙ script_here p f

    pub nodes_alike : (p : Placed) → nodes_on bare names (unplaced p) ≡ nodes_on s names p
    unfolding nodes_on
    nodes_alike p =
        ap (λ vs. map (node_of names vs) (nodes_of bare (unplaced p))) (variables_alike s p) ∙ ap (map (node_of names (variables_at s p))) (expressions_alike names s p)
