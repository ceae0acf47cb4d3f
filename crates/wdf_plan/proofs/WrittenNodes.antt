-- Each line of a scene has its own nodes, numbered after those of the lines before it.
use Rattle.std.proofs.Common.{◌≡◌, ℕ, suc, ◌+◌, ◌-◌, ◌<◌, ◌≤◌, true, List, [], ◌∷◌, ◌++◌, take, drop, length, refl, ap, sym, subst, ◌∙◌, arith, length-append, drop-drop}
use Rattle.std.proofs.lemmas.Bool.{and_parts}
use Rattle.std.proofs.lemmas.List.{drop_at, take-append-le, take_all}
use Rattle.std.specs.List.{flat_map, list_all}
use Rattle.wdf_scene.specs.declared.line.SceneExpr.{SceneExpr}
use Rattle.wdf_scene.specs.declared.line.SceneExpr.TheVariants as expr
use Rattle.wdf_scene.specs.declared.line.SceneLine.{SceneLine}
use Rattle.wdf_scene.specs.declared.line.SceneLine.TheVariants as line
use Rattle.wdf_scene.specs.declared.line.StatementHead.{StatementHead}
use Rattle.wdf_scene.specs.declared.line.StatementHead.TheVariants as head
use Rattle.wdf_scene.specs.declared.scene.Scene.{Scene}
use Rattle.wdf_scene.specs.Written.{Atom, Number, Tree, Leaf, Node, Argument, Missing, Valued, OfClass, Written, Plain, Picked, Single, Calling, WrittenLine, IsScene, size, root, nodes, atom_node, head_line, argument_size, argument_nodes, numbered_argument, line_at, nodes_at, written_size, picks_in, is_plain_form, is_written, lines_at, exprs_at}
use Rattle.wdf_blocks.specs.declared.placed.Counts.{Counts}
use Rattle.wdf_blocks.specs.declared.placed.Placed.{Placed}
use Rattle.wdf_blocks.specs.declared.placed.Stand.{Stand}
use Rattle.wdf_blocks.specs.Forms.{nodes_after, nodes_end}
use Rattle.wdf_blocks.specs.Placed.{outside, nothing, counted, opened_by, placed_line, placed_from, placed}
use Rattle.wdf_refusals.specs.Rows.{nodes_of}
use Rattle.wdf_refusals.proofs.Every.{Every}

-- ---- how many nodes there are

tree_length : (base : ℕ) (t : Tree) → length (nodes base t) ≡ size t
tree_length base (Leaf a) = refl
tree_length base (Node op l r) =
    let last = expr.Binary op (root base l) (root (base + size l) r) ∷ [] in
    let left : length (nodes base l) ≡ size l = tree_length base l in
    let right : length (nodes (base + size l) r) ≡ size r = tree_length (base + size l) r in
    let inner : length (nodes (base + size l) r ++ last) ≡ length (nodes (base + size l) r) + 1 = length-append (nodes (base + size l) r) last in
    let whole : length (nodes base l ++ (nodes (base + size l) r ++ last)) ≡ length (nodes base l) + length (nodes (base + size l) r ++ last) = length-append (nodes base l) (nodes (base + size l) r ++ last) in
    omega arith

pub tree_end : (base : ℕ) (t : Tree) → suc (root base t) ≡ base + size t
tree_end base (Leaf a) = omega arith
tree_end base (Node op l r) = omega arith

argument_length : (a : Argument) → length (argument_nodes a) ≡ argument_size a
argument_length Missing = refl
argument_length _ = refl

written_length : (base : ℕ) (w : Written) → length (nodes_at base w) ≡ written_size w
written_length base (Plain form) = refl
written_length base (Picked ns) = refl
written_length base (Single h t) = tree_length base t
written_length base (Calling kind into a b c) =
    let first = argument_length a in
    let second = argument_length b in
    let third = argument_length c in
    let inner : length (argument_nodes b ++ argument_nodes c) ≡ length (argument_nodes b) + length (argument_nodes c) = length-append (argument_nodes b) (argument_nodes c) in
    let whole : length (argument_nodes a ++ (argument_nodes b ++ argument_nodes c)) ≡ length (argument_nodes a) + length (argument_nodes b ++ argument_nodes c) = length-append (argument_nodes a) (argument_nodes b ++ argument_nodes c) in
    omega (arith, first, second, third, inner, whole)

-- ---- where the nodes of a line end

head_end : (base e : ℕ) (h : StatementHead) → nodes_end base (head_line h e) ≡ suc e
unfolding nodes_end
head_end base e (head.Let x) = refl
head_end base e _ = refl

argument_end : (base : ℕ) (a : Argument) → nodes_after base (numbered_argument base a) ≡ base + argument_size a
unfolding nodes_after
argument_end base Missing = omega arith
argument_end base _ = omega arith

plain_end : (base : ℕ) (form : SceneLine) → is_plain_form form ≡ true → nodes_end base form ≡ base
unfolding nodes_end
plain_end base (line.Let x e) h = absurd (let z : ⊥ = cc in z)
plain_end base (line.Call k into a b c) h = absurd (let z : ⊥ = cc in z)
plain_end base (line.Put r e) h = absurd (let z : ⊥ = cc in z)
plain_end base (line.If e) h = absurd (let z : ⊥ = cc in z)
plain_end base (line.Repeat e) h = absurd (let z : ⊥ = cc in z)
plain_end base (line.Spend e) h = absurd (let z : ⊥ = cc in z)
plain_end base (line.Log e) h = absurd (let z : ⊥ = cc in z)
plain_end base (line.Return e) h = absurd (let z : ⊥ = cc in z)
plain_end base _ h = refl

written_end : (base : ℕ) (w : Written) → is_written w ≡ true → nodes_end base (line_at base w) ≡ base + written_size w
unfolding nodes_end
written_end base (Plain form) h = let e : nodes_end base form ≡ base = plain_end base form h in omega arith
written_end base (Picked ns) h = omega arith
written_end base (Single h t) i = head_end base (root base t) h ∙ tree_end base t
written_end base (Calling kind into a b c) h =
    rw (argument_end base a, argument_end (base + argument_size a) b, argument_end (base + argument_size a + argument_size b) c) (omega arith)

-- ---- the lines of a scene

-- a line with its nodes, which end among those of the scene
pub record IsNumbered (scene : Scene) (p : Placed) : Type 0 where
  pub written : Written
  pub is : is_written written ≡ true
  pub form : p.form ≡ line_at p.counts.nodes written
  pub end' : p.counts.nodes + written_size written ≤ length scene.exprs

-- the nodes from one line on are those of the lines, one after another
record IsListed (scene : Scene) (base : ℕ) (ws : List WrittenLine) (ps : List Placed) : Type 0 where
  nodes' : flat_map (nodes_of scene) ps ≡ exprs_at base ws
  each : Every (IsNumbered scene) ps

line_nodes : (all here rest : List SceneExpr) (base size' end' : ℕ) → drop base all ≡ here ++ rest → length here ≡ size' → end' ≡ base + size' → take (end' - base) (drop base all) ≡ here
line_nodes all here rest base size' end' e long ends =
    let n : end' - base ≡ length here = omega arith in
    rw (e, n, take-append-le (length here) here rest (omega arith)) (take_all (length here) here (omega arith))

listed_from : (scene : Scene) (base k : ℕ) (o : Stand) (c : Counts) (ws : List WrittenLine) → c.nodes ≡ base → drop base scene.exprs ≡ exprs_at base ws → base + length (exprs_at base ws) ≡ length scene.exprs → list_all (λ w. is_written w.written) ws ≡ true → IsListed scene base ws (placed_from k o c (lines_at base ws))
unfolding placed_from counted nodes_of
listed_from scene base k o c [] n e long h = record { nodes' = refl; each = tt }
listed_from scene base k o c (w ∷ ws) n e long h =
    let both = and_parts (is_written w.written) (list_all (λ w. is_written w.written) ws) h in
    let form = line_at base w.written in
    let size' = written_size w.written in
    let own : length (nodes_at base w.written) ≡ size' = written_length base w.written in
    let ends : nodes_end base form ≡ base + size' = written_end base w.written both.0 in
    let all : length (nodes_at base w.written ++ exprs_at (base + size') ws) ≡ length (nodes_at base w.written) + length (exprs_at (base + size') ws) = length-append (nodes_at base w.written) (exprs_at (base + size') ws) in
    let behind : drop (base + size') scene.exprs ≡ exprs_at (base + size') ws = sym (drop-drop size' base scene.exprs) ∙ (ap (drop size') e ∙ drop_at (nodes_at base w.written) (exprs_at (base + size') ws) size' own) in
    let here : nodes_of scene (placed_line k o c (record { number = w.number; form = form; picks = picks_in w.written })) ≡ nodes_at base w.written = rw n (line_nodes scene.exprs (nodes_at base w.written) (exprs_at (base + size') ws) base size' (nodes_end base form) e own ends) in
    let rest = listed_from scene (base + size') (suc k) (opened_by o k form) (counted c form (length (picks_in w.written))) ws (rw n ends) behind (omega arith) both.1 in
    record {
      nodes' = rw (here, rest.nodes') refl;
      each = (record { written = w.written; is = both.0; form = rw n refl; end' = omega arith }, rest.each);
    }

scene_listed : (scene : Scene) (s : IsScene scene) → IsListed scene 0 s.ws (placed scene)
unfolding placed
scene_listed scene s =
    let lines : scene.lines ≡ lines_at 0 s.ws = ap (λ (x : Scene). x.lines) s.is in
    let exprs : scene.exprs ≡ exprs_at 0 s.ws = ap (λ (x : Scene). x.exprs) s.is in
    let long : 0 + length (exprs_at 0 s.ws) ≡ length scene.exprs = rw exprs (omega arith) in
    subst (λ ls. IsListed scene 0 s.ws (placed_from 0 outside nothing ls)) (sym lines) (listed_from scene 0 0 outside nothing s.ws refl exprs long s.lines.written)

-- the nodes of all lines are the scene's
pub all_nodes : (scene : Scene) → IsScene scene → flat_map (nodes_of scene) (placed scene) ≡ scene.exprs
all_nodes scene s = (scene_listed scene s).nodes' ∙ sym (ap (λ (x : Scene). x.exprs) s.is)

pub all_numbered : (scene : Scene) → IsScene scene → Every (IsNumbered scene) (placed scene)
all_numbered scene s = (scene_listed scene s).each

-- ---- operands come first

-- the operands of node k are before it
abbrev pub IsOrdered : ℕ → SceneExpr → Type 0
IsOrdered k (expr.Binary op l r) = (l < k) × (r < k)
IsOrdered k _ = Unit {0}

-- so are those of the nodes from node k on
abbrev pub AreOrdered : ℕ → List SceneExpr → Type 0
AreOrdered k [] = Unit {0}
AreOrdered k (x ∷ xs) = IsOrdered k x × AreOrdered (suc k) xs

ordered_append : (xs ys : List SceneExpr) (k m : ℕ) → m ≡ k + length xs → AreOrdered k xs → AreOrdered m ys → AreOrdered k (xs ++ ys)
ordered_append [] ys k m e f g = let same : k ≡ m = omega arith in rw same g
ordered_append (x ∷ xs) ys k m e f g = (f.0, ordered_append xs ys (suc k) m (omega arith) f.1 g)

ordered_atom : (k : ℕ) (a : Atom) → IsOrdered k (atom_node a)
ordered_atom k (Number n) = tt
ordered_atom k _ = tt

ordered_tree : (base : ℕ) (t : Tree) → AreOrdered base (nodes base t)
ordered_tree base (Leaf a) = (ordered_atom base a, tt)
ordered_tree base (Node op l r) =
    let last = expr.Binary op (root base l) (root (base + size l) r) ∷ [] in
    let left : length (nodes base l) ≡ size l = tree_length base l in
    let right : length (nodes (base + size l) r) ≡ size r = tree_length (base + size l) r in
    let first : suc (root base l) ≡ base + size l = tree_end base l in
    let second : suc (root (base + size l) r) ≡ base + size l + size r = tree_end (base + size l) r in
    ordered_append (nodes base l) (nodes (base + size l) r ++ last) base (base + size l) (omega arith) (ordered_tree base l) (ordered_append (nodes (base + size l) r) last (base + size l) (base + size l + size r) (omega arith) (ordered_tree (base + size l) r) ((omega arith, omega arith), tt))

ordered_argument : (k : ℕ) (a : Argument) → AreOrdered k (argument_nodes a)
ordered_argument k Missing = tt
ordered_argument k (Valued a) = (ordered_atom k a, tt)
ordered_argument k (OfClass n) = tt

ordered_line : (base : ℕ) (w : Written) → AreOrdered base (nodes_at base w)
ordered_line base (Plain form) = tt
ordered_line base (Picked ns) = tt
ordered_line base (Single h t) = ordered_tree base t
ordered_line base (Calling kind into a b c) =
    ordered_append (argument_nodes a) (argument_nodes b ++ argument_nodes c) base _ refl (ordered_argument base a) (ordered_append (argument_nodes b) (argument_nodes c) _ _ refl (ordered_argument _ b) (ordered_argument _ c))

ordered_lines : (base : ℕ) (ws : List WrittenLine) → AreOrdered base (exprs_at base ws)
ordered_lines base [] = tt
ordered_lines base (w ∷ ws) =
    let own : length (nodes_at base w.written) ≡ written_size w.written = written_length base w.written in
    ordered_append (nodes_at base w.written) (exprs_at (base + written_size w.written) ws) base (base + written_size w.written) (omega arith) (ordered_line base w.written) (ordered_lines (base + written_size w.written) ws)

pub scene_ordered : (scene : Scene) → IsScene scene → AreOrdered 0 scene.exprs
scene_ordered scene s =
    let exprs : scene.exprs ≡ exprs_at 0 s.ws = ap (λ (x : Scene). x.exprs) s.is in
    rw exprs (ordered_lines 0 s.ws)
