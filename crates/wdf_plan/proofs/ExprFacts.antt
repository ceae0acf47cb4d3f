-- The nodes of a plan's expressions: as many as the scene's, operands first, each name a variable's or an object's.
use Rattle.std.proofs.Common.{◌≡◌, ℕ, suc, ◌+◌, ◌<◌, ◌≤◌, Bool, true, false, not, ◌&&◌, ◌||◌, List, [], ◌∷◌, ◌++◌, map, length, Option, Some, None, refl, ap, ◌∙◌, arith, length-append}
use Rattle.std.proofs.lemmas.Bool.{lt-ltb, and_from, or_parts, or_left, or_right, not-false}
use Rattle.std.proofs.lemmas.List.{length-map}
use Rattle.std.specs.Option.{is_some}
use Rattle.std.specs.List.{flat_map, list_any}
use Rattle.wdf_base.specs.declared.object.Kind.TheVariants as kind
use Rattle.wdf_base.specs.declared.plan.Plan.{Plan}
use Rattle.wdf_base.specs.declared.script.ExprNode.{ExprNode}
use Rattle.wdf_base.specs.Resolved.{is_handle, node_fits, nodes_fit}
use Rattle.wdf_scene.specs.declared.line.SceneArg.{SceneArg}
use Rattle.wdf_scene.specs.declared.line.SceneArg.TheVariants as arg
use Rattle.wdf_scene.specs.declared.line.SceneExpr.{SceneExpr}
use Rattle.wdf_scene.specs.declared.line.SceneExpr.TheVariants as expr
use Rattle.wdf_scene.specs.declared.line.SceneLine.{SceneLine}
use Rattle.wdf_scene.specs.declared.line.SceneLine.TheVariants as line
use Rattle.wdf_scene.specs.declared.line.StatementHead.{StatementHead}
use Rattle.wdf_scene.specs.declared.line.StatementHead.TheVariants as head
use Rattle.wdf_scene.specs.declared.scene.Scene.{Scene}
use Rattle.wdf_scene.specs.Written.{Argument, Missing, Valued, OfClass, Written, Plain, Picked, Single, Calling, IsScene, root, size, head_line, argument_size, numbered_argument, line_at, written_size, is_plain_form, is_written}
use Rattle.wdf_blocks.specs.declared.declaration.Declaration.{Declaration}
use Rattle.wdf_blocks.specs.declared.declaration.Thing.{Thing}
use Rattle.wdf_blocks.specs.declared.declaration.Thing.TheVariants as thing
use Rattle.wdf_blocks.specs.declared.declaration.Wanted.TheVariants as wanted
use Rattle.wdf_blocks.specs.declared.placed.Placed.{Placed}
use Rattle.wdf_blocks.specs.Declarations.{declarations, is_object, stands}
use Rattle.wdf_refusals.specs.Numbers.{handle_of}
use Rattle.wdf_blocks.specs.Placed.{placed}
use Rattle.wdf_plan.specs.Plans.{plan_with, plan_of}
use Rattle.wdf_refusals.specs.Rows.{unknown_word, unknown_node, unknown_name, nodes_of}
use Rattle.wdf_plan.specs.Scripts.{named_node, node_of, nodes_on}
use Rattle.wdf_blocks.specs.Variables.{variables_at, variable_number}
use Rattle.wdf_plan.proofs.Accepted.{IsAccepted}
use Rattle.wdf_refusals.proofs.Every.{Every, every_map, every_both}
use Rattle.wdf_plan.proofs.Handles.{thing_kind, Stands, stands_for, handle_fits}
use Rattle.wdf_plan.proofs.VariableFacts.{line_variables, variable_small}
use Rattle.wdf_plan.proofs.WrittenNodes.{IsNumbered, all_nodes, all_numbered, tree_end, IsOrdered, AreOrdered, scene_ordered}

-- ---- as many as the scene's

lengths_same : (scene : Scene) (names : List Declaration) (ps : List Placed) → length (flat_map (nodes_on scene names) ps) ≡ length (flat_map (nodes_of scene) ps)
unfolding nodes_on
lengths_same scene names [] = refl
lengths_same scene names (p ∷ ps) =
    let here = nodes_of scene p in
    let same : length (map (node_of names (variables_at scene p)) here) ≡ length here = length-map here (node_of names (variables_at scene p)) in
    let rest = lengths_same scene names ps in
    let a : length (map (node_of names (variables_at scene p)) here ++ flat_map (nodes_on scene names) ps) ≡ length (map (node_of names (variables_at scene p)) here) + length (flat_map (nodes_on scene names) ps) = length-append _ _ in
    let b : length (here ++ flat_map (nodes_of scene) ps) ≡ length here + length (flat_map (nodes_of scene) ps) = length-append _ _ in
    omega (arith, same, rest, a, b)

-- each node of the scene has one in the plan
pub exprs_length : (scene : Scene) → IsScene scene → length (plan_of scene).exprs ≡ length scene.exprs
unfolding plan_of plan_with
exprs_length scene s =
    lengths_same scene (declarations scene) (placed scene) ∙ ap (λ (xs : List SceneExpr). length xs) (all_nodes scene s)

-- ---- the expressions of a line

-- the expression of an argument is before node n
abbrev pub IsBelow : ℕ → SceneArg → Type 0
IsBelow n (arg.Expression e) = e < n
IsBelow n _ = Unit {0}

-- so is each expression of a line
abbrev pub AreBelow : ℕ → SceneLine → Type 0
AreBelow n (line.Let x e) = e < n
AreBelow n (line.Call k into a b c) = IsBelow n a × IsBelow n b × IsBelow n c
AreBelow n (line.Put r e) = e < n
AreBelow n (line.If e) = e < n
AreBelow n (line.Repeat e) = e < n
AreBelow n (line.Spend e) = e < n
AreBelow n (line.Log e) = e < n
AreBelow n (line.Return e) = e < n
AreBelow n _ = Unit {0}

head_below : (n e : ℕ) (h : StatementHead) → e < n → AreBelow n (head_line h e)
head_below n e (head.Let x) h = h
head_below n e _ h = h

argument_below : (n base : ℕ) (a : Argument) → base + argument_size a ≤ n → IsBelow n (numbered_argument base a)
argument_below n base Missing h = tt
argument_below n base (Valued a) h = omega arith
argument_below n base (OfClass name) h = tt

plain_below : (n : ℕ) (form : SceneLine) → is_plain_form form ≡ true → AreBelow n form
plain_below n (line.Let x e) h = absurd (let z : ⊥ = cc in z)
plain_below n (line.Call k into a b c) h = absurd (let z : ⊥ = cc in z)
plain_below n (line.Put r e) h = absurd (let z : ⊥ = cc in z)
plain_below n (line.If e) h = absurd (let z : ⊥ = cc in z)
plain_below n (line.Repeat e) h = absurd (let z : ⊥ = cc in z)
plain_below n (line.Spend e) h = absurd (let z : ⊥ = cc in z)
plain_below n (line.Log e) h = absurd (let z : ⊥ = cc in z)
plain_below n (line.Return e) h = absurd (let z : ⊥ = cc in z)
plain_below n _ h = tt

written_below : (n base : ℕ) (w : Written) → is_written w ≡ true → base + written_size w ≤ n → AreBelow n (line_at base w)
written_below n base (Plain form) i h = plain_below n form i
written_below n base (Picked ns) i h = tt
written_below n base (Single own t) i h =
    let e : suc (root base t) ≡ base + size t = tree_end base t in
    head_below n (root base t) own (omega arith)
written_below n base (Calling kind into a b c) i h =
    (argument_below n base a (omega arith), argument_below n (base + argument_size a) b (omega arith), argument_below n (base + argument_size a + argument_size b) c (omega arith))

numbered_below : (scene : Scene) → IsScene scene → (p : Placed) → IsNumbered scene p → AreBelow (length (plan_of scene).exprs) p.form
numbered_below scene s p h =
    let long : length (plan_of scene).exprs ≡ length scene.exprs = exprs_length scene s in
    rw h.form (written_below (length (plan_of scene).exprs) p.counts.nodes h.written h.is (rw long h.end'))

-- the expressions of each line are among the plan's
pub line_exprs : (scene : Scene) → IsScene scene → Every (λ p. AreBelow (length (plan_of scene).exprs) p.form) (placed scene)
line_exprs scene s =
    every_map (IsNumbered scene) (λ p. AreBelow (length (plan_of scene).exprs) p.form) (numbered_below scene s) (placed scene) (all_numbered scene s)

-- ---- each node

-- the node fits where its operands are before it
abbrev Fits : Plan → List Declaration → List (List ℕ) → SceneExpr → Type 0
Fits plan names variables x = (k : ℕ) → IsOrdered k x → node_fits plan k (node_of names variables x) ≡ true

first_of_four : (a b c d : Bool) → a ≡ true → (a || b || c || d) ≡ true
first_of_four a b c d e = rw e refl

second_of_four : (a b c d : Bool) → b ≡ true → (a || b || c || d) ≡ true
second_of_four true b c d e = refl
second_of_four false b c d e = rw e refl

third_of_four : (a b c d : Bool) → c ≡ true → (a || b || c || d) ≡ true
third_of_four a b c d e = or_left (a || b || c) d (or_right (a || b) c e)

fourth_of_four : (a b c d : Bool) → d ≡ true → (a || b || c || d) ≡ true
fourth_of_four a b c d e = or_right (a || b || c) d e

object_fits : (scene : Scene) (n : List ℕ) (k : ℕ) (s : Stands (declarations scene) n wanted.Object) (t : Thing) → s.declaration.thing ≡ t → is_object t ≡ true → node_fits (plan_of scene) k (named_node (declarations scene) n None) ≡ true
object_fits scene n k s thing.Device e is =
    let h = handle_of (declarations scene) n wanted.Object in
    first_of_four (is_handle (plan_of scene) kind.Device h) (is_handle (plan_of scene) kind.Queue h) (is_handle (plan_of scene) kind.Interrupt h) (is_handle (plan_of scene) kind.Target h) (handle_fits scene n wanted.Object s kind.Device (ap thing_kind e))
object_fits scene n k s thing.Queue e is =
    let h = handle_of (declarations scene) n wanted.Object in
    second_of_four (is_handle (plan_of scene) kind.Device h) (is_handle (plan_of scene) kind.Queue h) (is_handle (plan_of scene) kind.Interrupt h) (is_handle (plan_of scene) kind.Target h) (handle_fits scene n wanted.Object s kind.Queue (ap thing_kind e))
object_fits scene n k s thing.Interrupt e is =
    let h = handle_of (declarations scene) n wanted.Object in
    third_of_four (is_handle (plan_of scene) kind.Device h) (is_handle (plan_of scene) kind.Queue h) (is_handle (plan_of scene) kind.Interrupt h) (is_handle (plan_of scene) kind.Target h) (handle_fits scene n wanted.Object s kind.Interrupt (ap thing_kind e))
object_fits scene n k s thing.Target e is =
    let h = handle_of (declarations scene) n wanted.Object in
    fourth_of_four (is_handle (plan_of scene) kind.Device h) (is_handle (plan_of scene) kind.Queue h) (is_handle (plan_of scene) kind.Interrupt h) (is_handle (plan_of scene) kind.Target h) (handle_fits scene n wanted.Object s kind.Target (ap thing_kind e))
object_fits scene n k s _ e is = absurd (let z : ⊥ = cc in z)

named_fits : (scene : Scene) (n : List ℕ) (k : ℕ) (o : Option ℕ) → ((v : ℕ) → o ≡ Some v → v < 16) → (not (is_some o) && not (stands (declarations scene) n wanted.Object)) ≡ false → node_fits (plan_of scene) k (named_node (declarations scene) n o) ≡ true
named_fits scene n k (Some v) small known = lt-ltb v 16 (small v refl)
named_fits scene n k None small known =
    let s = stands_for (declarations scene) n wanted.Object (not-false (stands (declarations scene) n wanted.Object) known) in
    object_fits scene n k s s.declaration.thing refl s.fits

one_fits : (scene : Scene) (variables : List (List ℕ)) → length variables ≤ 16 → (x : SceneExpr) → unknown_node (declarations scene) variables x ≡ false → Fits (plan_of scene) (declarations scene) variables x
unfolding node_of unknown_node
one_fits scene variables small (expr.Number n) known k h = refl
one_fits scene variables small (expr.Named n) known k h =
    named_fits scene n k (variable_number variables n) (λ v e. variable_small variables n v small e) known
one_fits scene variables small (expr.Literal s) known k h = refl
one_fits scene variables small (expr.Context w) known k h = refl
one_fits scene variables small (expr.Binary op l r) known k h =
    and_from _ _ (lt-ltb l k h.0) (lt-ltb r k h.1)

any_none : {T : Type 0} (test : T → Bool) (xs : List T) → list_any test xs ≡ false → Every (λ x. test x ≡ false) xs
any_none test [] e = tt
any_none test (x ∷ xs) e = let both = or_parts (test x) (list_any test xs) e in (both.0, any_none test xs both.1)

-- each node of a line fits
abbrev LineFits : Scene → Placed → Type 0
LineFits scene p = Every (Fits (plan_of scene) (declarations scene) (variables_at scene p)) (nodes_of scene p)

line_fits : (scene : Scene) (p : Placed) → IsAccepted scene p → length (variables_at scene p) ≤ 16 → LineFits scene p
unfolding unknown_name
line_fits scene p a small =
    let names = declarations scene in
    let variables = variables_at scene p in
    let known : list_any (unknown_node names variables) (nodes_of scene p) ≡ false = (or_parts (unknown_word names p.stand.device p.form) (list_any (unknown_node names variables) (nodes_of scene p)) a.known).1 in
    every_map (λ x. unknown_node names variables x ≡ false) (Fits (plan_of scene) names variables) (one_fits scene variables small) (nodes_of scene p) (any_none (unknown_node names variables) (nodes_of scene p) known)

-- ---- all nodes

front_fits : (plan : Plan) (names : List Declaration) (variables : List (List ℕ)) (k : ℕ) (here rest : List SceneExpr) (behind : List ExprNode) → Every (Fits plan names variables) here → AreOrdered k (here ++ rest) → ((m : ℕ) → AreOrdered m rest → nodes_fit plan m behind ≡ true) → nodes_fit plan k (map (node_of names variables) here ++ behind) ≡ true
front_fits plan names variables k [] rest behind f o later = later k o
front_fits plan names variables k (x ∷ xs) rest behind f o later =
    and_from _ _ (f.0 k o.0) (front_fits plan names variables (suc k) xs rest behind f.1 o.1 later)

fit_from : (scene : Scene) (k : ℕ) (ps : List Placed) → Every (LineFits scene) ps → AreOrdered k (flat_map (nodes_of scene) ps) → nodes_fit (plan_of scene) k (flat_map (nodes_on scene (declarations scene)) ps) ≡ true
unfolding nodes_on
fit_from scene k [] f o = refl
fit_from scene k (p ∷ ps) f o =
    front_fits (plan_of scene) (declarations scene) (variables_at scene p) k (nodes_of scene p) (flat_map (nodes_of scene) ps) (flat_map (nodes_on scene (declarations scene)) ps) f.0 o (λ m o'. fit_from scene m ps f.1 o')

pub exprs_fit : (scene : Scene) → IsScene scene → Every (IsAccepted scene) (placed scene) → nodes_fit (plan_of scene) 0 (plan_of scene).exprs ≡ true
unfolding plan_of plan_with
exprs_fit scene s each =
    let small = line_variables scene s each in
    let lines : Every (LineFits scene) (placed scene) =
    every_map (λ p. IsAccepted scene p × (length (variables_at scene p) ≤ 16)) (LineFits scene) (λ p h. line_fits scene p h.0 h.1) (placed scene) (every_both (IsAccepted scene) (λ p. length (variables_at scene p) ≤ 16) (placed scene) each small) in
    let ordered : AreOrdered 0 (flat_map (nodes_of scene) (placed scene)) = rw (all_nodes scene s) (scene_ordered scene s) in
    fit_from scene 0 (placed scene) lines ordered
