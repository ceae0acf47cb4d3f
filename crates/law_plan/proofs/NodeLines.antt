-- The nodes of a plan's expressions, written out again, are the scene's.
use Rattle.std.proofs.Common.{◌≡◌, ℕ, suc, ◌+◌, ◌-◌, ◌≤◌, true, false, not, ◌&&◌, List, [], ◌∷◌, ◌++◌, map, take, drop, length, Option, Some, None, refl, ap, sym, ◌∙◌, arith, drop-drop}
use Rattle.std.proofs.lemmas.Bool.{or_parts, not-false}
use Rattle.std.proofs.lemmas.List.{drop_at, take_at, length-map, length-take-le, length-drop}
use Rattle.std.specs.Option.{is_some}
use Rattle.std.specs.List.{flat_map, list_any}
use Rattle.wdf_scene.specs.declared.line.NumberedLine.{NumberedLine}
use Rattle.wdf_scene.specs.declared.line.SceneArg.{SceneArg}
use Rattle.wdf_scene.specs.declared.line.SceneArg.TheVariants as arg
use Rattle.wdf_scene.specs.declared.line.SceneExpr.{SceneExpr}
use Rattle.wdf_scene.specs.declared.line.SceneExpr.TheVariants as expr
use Rattle.wdf_scene.specs.declared.line.SceneLine.{SceneLine}
use Rattle.wdf_scene.specs.declared.line.SceneLine.TheVariants as line
use Rattle.wdf_scene.specs.declared.line.StatementHead.{StatementHead}
use Rattle.wdf_scene.specs.declared.line.StatementHead.TheVariants as head
use Rattle.wdf_scene.specs.declared.scene.Scene.{Scene}
use Rattle.wdf_scene.specs.Written.{Argument, Missing, OfClass, Written, Plain, Picked, Single, Calling, IsScene, size, root, head_line, argument_size, numbered_argument, line_at, is_plain_form, is_written}
use Rattle.wdf_blocks.specs.declared.declaration.Declaration.{Declaration}
use Rattle.wdf_blocks.specs.declared.declaration.Wanted.TheVariants as wanted
use Rattle.wdf_blocks.specs.declared.placed.Counts.{Counts}
use Rattle.wdf_blocks.specs.declared.placed.Placed.{Placed}
use Rattle.wdf_blocks.specs.declared.placed.Stand.{Stand}
use Rattle.wdf_blocks.specs.Declarations.{declarations, stands}
use Rattle.wdf_refusals.specs.First.{first_refusal}
use Rattle.wdf_blocks.specs.Forms.{nodes_after, nodes_end}
use Rattle.wdf_refusals.specs.Numbers.{handle_of}
use Rattle.wdf_blocks.specs.Placed.{opened_by, counted, placed_line, placed_from, placed, outside, nothing}
use Rattle.wdf_plan.specs.Plans.{plan_with, plan_of}
use Rattle.wdf_refusals.specs.Rows.{unknown_word, unknown_node, unknown_name, nodes_of}
use Rattle.wdf_plan.specs.Scripts.{named_node, node_of, nodes_on}
use Rattle.wdf_blocks.specs.Variables.{variables_at, variable_number}
use Rattle.wdf_plan.proofs.Accepted.{IsAccepted}
use Rattle.wdf_refusals.proofs.Every.{Every, every_map, every_both}
use Rattle.wdf_plan.proofs.ExprFacts.{exprs_length, IsBelow, AreBelow, line_exprs}
use Rattle.wdf_plan.proofs.WrittenNodes.{IsNumbered, all_numbered, tree_end}
use Rattle.law_plan.specs.Told.{node_count, AreNodesTold}
use Rattle.law_plan.specs.WrittenOut.{node_text}
use Rattle.law_plan.proofs.ItemLines.{IsRow, rows}
use Rattle.law_plan.proofs.NameTexts.{object_told, needs_object}
use Rattle.law_plan.proofs.StatementLines.{number_told}

-- ---- one node

named_told : (scene : Scene) → first_refusal scene ≡ None → (vs : List (List ℕ)) (n : List ℕ) (o : Option ℕ) → variable_number vs n ≡ o → (not (is_some o) && not (stands (declarations scene) n wanted.Object)) ≡ false → node_text (plan_of scene) vs (named_node (declarations scene) n o) ≡ expr.Named n
unfolding handle_of
named_told scene e vs n (Some v) is known = ap (λ m. expr.Named m) (number_told vs n v is)
named_told scene e vs n None is known =
    ap (λ m. expr.Named m) (object_told scene e n wanted.Object needs_object (not-false (stands (declarations scene) n wanted.Object) known))

node_told : (scene : Scene) → first_refusal scene ≡ None → (vs : List (List ℕ)) (x : SceneExpr) → unknown_node (declarations scene) vs x ≡ false → node_text (plan_of scene) vs (node_of (declarations scene) vs x) ≡ x
unfolding node_of unknown_node
node_told scene e vs (expr.Named n) known = named_told scene e vs n (variable_number vs n) refl known
node_told scene e vs _ known = refl

nodes_told : (scene : Scene) → first_refusal scene ≡ None → (vs : List (List ℕ)) (xs : List SceneExpr) → list_any (unknown_node (declarations scene) vs) xs ≡ false → map (node_text (plan_of scene) vs) (map (node_of (declarations scene) vs) xs) ≡ xs
nodes_told scene e vs [] known = refl
nodes_told scene e vs (x ∷ xs) known =
    let both = or_parts (unknown_node (declarations scene) vs x) (list_any (unknown_node (declarations scene) vs) xs) known in
    rw (node_told scene e vs x both.0, nodes_told scene e vs xs both.1) refl

-- the nodes of a line
line_told : (scene : Scene) → first_refusal scene ≡ None → (p : Placed) → IsAccepted scene p → map (node_text (plan_of scene) (variables_at scene p)) (nodes_on scene (declarations scene) p) ≡ nodes_of scene p
unfolding nodes_on unknown_name
line_told scene e p a =
    let names = declarations scene in
    let known = (or_parts (unknown_word names p.stand.device p.form) (list_any (unknown_node names (variables_at scene p)) (nodes_of scene p)) a.known).1 in
    nodes_told scene e (variables_at scene p) (nodes_of scene p) known

-- ---- where they are

piece : {T : Type 0} (all here rest : List T) (base n : ℕ) → drop base all ≡ here ++ rest → length here ≡ n → take n (drop base all) ≡ here
piece all here rest base n e long = rw e (take_at here rest n long)

behind : {T : Type 0} (all here rest : List T) (base n : ℕ) → drop base all ≡ here ++ rest → length here ≡ n → drop (base + n) all ≡ rest
behind all here rest base n e long =
    sym (drop-drop n base all) ∙ (ap (drop n) e ∙ drop_at here rest n long)

same_long : (scene : Scene) (names : List Declaration) (p : Placed) → length (nodes_on scene names p) ≡ length (nodes_of scene p)
unfolding nodes_on
same_long scene names p = length-map (nodes_of scene p) (node_of names (variables_at scene p))

-- after the nodes of a line come those of the next
head_after : (base e : ℕ) (h : StatementHead) → nodes_end base (head_line h e) ≡ suc e
unfolding nodes_end
head_after base e (head.Let x) = refl
head_after base e _ = refl

argument_after : (base : ℕ) (a : Argument) → nodes_after base (numbered_argument base a) ≡ base + argument_size a
unfolding nodes_after
argument_after base Missing = omega arith
argument_after base _ = omega arith

plain_after : (base : ℕ) (form : SceneLine) → is_plain_form form ≡ true → base ≤ nodes_end base form
unfolding nodes_end
plain_after base (line.Let x e) h = absurd (let z : ⊥ = cc in z)
plain_after base (line.Call k into a b c) h = absurd (let z : ⊥ = cc in z)
plain_after base (line.Put r e) h = absurd (let z : ⊥ = cc in z)
plain_after base (line.If e) h = absurd (let z : ⊥ = cc in z)
plain_after base (line.Repeat e) h = absurd (let z : ⊥ = cc in z)
plain_after base (line.Spend e) h = absurd (let z : ⊥ = cc in z)
plain_after base (line.Log e) h = absurd (let z : ⊥ = cc in z)
plain_after base (line.Return e) h = absurd (let z : ⊥ = cc in z)
plain_after base _ h = omega arith

written_after : (base : ℕ) (w : Written) → is_written w ≡ true → base ≤ nodes_end base (line_at base w)
unfolding nodes_end
written_after base (Plain form) h = plain_after base form h
written_after base (Picked ns) h = omega arith
written_after base (Single h t) i =
    let own : nodes_end base (head_line h (root base t)) ≡ suc (root base t) = head_after base (root base t) h in
    let ends : suc (root base t) ≡ base + size t = tree_end base t in
    omega arith
written_after base (Calling kind into a b c) h =
    rw (argument_after base a, argument_after (base + argument_size a) b, argument_after (base + argument_size a + argument_size b) c) (omega arith)

argument_below : (b n : ℕ) (a : SceneArg) → b ≤ n → IsBelow n a → nodes_after b a ≤ n
unfolding nodes_after
argument_below b n (arg.Expression e) h g = omega (arith, g)
argument_below b n arg.NoArgument h g = h
argument_below b n (arg.OfClass c) h g = h

line_below : (b n : ℕ) (form : SceneLine) → b ≤ n → AreBelow n form → nodes_end b form ≤ n
unfolding nodes_end
line_below b n (line.Let x e) h g = omega (arith, g)
line_below b n (line.Call k into x y z) h g =
    argument_below _ n z (argument_below _ n y (argument_below b n x h g.0) g.1) g.2
line_below b n (line.Put r e) h g = omega (arith, g)
line_below b n (line.If e) h g = omega (arith, g)
line_below b n (line.Repeat e) h g = omega (arith, g)
line_below b n (line.Spend e) h g = omega (arith, g)
line_below b n (line.Log e) h g = omega (arith, g)
line_below b n (line.Return e) h g = omega (arith, g)
line_below b n _ h g = h

-- what is known of a line's nodes: they end where it says, within all
record IsSpread (scene : Scene) (p : Placed) : Type 0 where
  after : p.counts.nodes ≤ nodes_end p.counts.nodes p.form
  below : AreBelow (length scene.exprs) p.form

all_spread : (scene : Scene) → IsScene scene → Every (IsSpread scene) (placed scene)
all_spread scene s =
    every_map (λ p. IsNumbered scene p × AreBelow (length (plan_of scene).exprs) p.form) (IsSpread scene) (λ p h. record {
      after = rw h.0.form (written_after p.counts.nodes h.0.written h.0.is);
      below = rw (← exprs_length scene s) h.1;
    }) (placed scene) (every_both (IsNumbered scene) (λ p. AreBelow (length (plan_of scene).exprs) p.form) (placed scene) (all_numbered scene s) (line_exprs scene s))

long_piece : {T : Type 0} (xs : List T) (b n : ℕ) → b + n ≤ length xs → length (take n (drop b xs)) ≡ n
long_piece xs b n h =
    let e : length (drop b xs) ≡ length xs - b = length-drop b xs in
    length-take-le n (drop b xs) (omega arith)

-- the nodes of each line from one on are in the plan where they are in the scene
pieces_from : (scene : Scene) (k : ℕ) (o : Stand) (c : Counts) (ls : List NumberedLine) → drop c.nodes (plan_of scene).exprs ≡ flat_map (nodes_on scene (declarations scene)) (placed_from k o c ls) → c.nodes ≤ length scene.exprs → Every (IsSpread scene) (placed_from k o c ls) → Every (λ p. take (node_count p) (drop p.counts.nodes (plan_of scene).exprs) ≡ nodes_on scene (declarations scene) p) (placed_from k o c ls)
unfolding placed_from counted nodes_of
pieces_from scene k o c [] is within h = tt
pieces_from scene k o c (l ∷ ls) is within h =
    let names = declarations scene in
    let p = placed_line k o c l in
    let rest = flat_map (nodes_on scene names) (placed_from (suc k) (opened_by o k l.form) (counted c l.form (length l.picks)) ls) in
    let ends : nodes_end c.nodes l.form ≤ length scene.exprs = line_below c.nodes (length scene.exprs) l.form within h.0.below in
    let grows : c.nodes ≤ nodes_end c.nodes l.form = h.0.after in
    let own : length (nodes_of scene p) ≡ node_count p = long_piece scene.exprs c.nodes (node_count p) (omega arith) in
    let long : length (nodes_on scene names p) ≡ node_count p = same_long scene names p ∙ own in
    let next : c.nodes + node_count p ≡ nodes_end c.nodes l.form = omega arith in
    let later : drop (nodes_end c.nodes l.form) (plan_of scene).exprs ≡ rest = sym (ap (λ m. drop m (plan_of scene).exprs) next) ∙ behind (plan_of scene).exprs (nodes_on scene names p) rest c.nodes (node_count p) is long in (
      piece (plan_of scene).exprs (nodes_on scene names p) rest c.nodes (node_count p) is long,
      pieces_from scene (suc k) (opened_by o k l.form) (counted c l.form (length l.picks)) ls later ends h.1,
    )

exprs_are : (scene : Scene) → (plan_of scene).exprs ≡ flat_map (nodes_on scene (declarations scene)) (placed scene)
unfolding plan_of plan_with
exprs_are scene = refl

pieces : (scene : Scene) → IsScene scene → Every (λ p. take (node_count p) (drop p.counts.nodes (plan_of scene).exprs) ≡ nodes_on scene (declarations scene) p) (placed scene)
unfolding placed
pieces scene s =
    pieces_from scene 0 outside nothing scene.lines (exprs_are scene) (omega arith) (all_spread scene s)

-- the nodes of each line
pub nodes_are : (scene : Scene) → IsScene scene → first_refusal scene ≡ None → Every (AreNodesTold (plan_of scene) scene) (placed scene)
unfolding nodes_of
nodes_are scene s e =
    every_map (λ p. (take (node_count p) (drop p.counts.nodes (plan_of scene).exprs) ≡ nodes_on scene (declarations scene) p) × IsRow scene p) (AreNodesTold (plan_of scene) scene) (λ p h. ap (map (node_text (plan_of scene) (variables_at scene p))) h.0 ∙ line_told scene e p h.1.accepted) (placed scene) (every_both (λ p. take (node_count p) (drop p.counts.nodes (plan_of scene).exprs) ≡ nodes_on scene (declarations scene) p) (IsRow scene) (placed scene) (pieces scene s) (rows scene e))
