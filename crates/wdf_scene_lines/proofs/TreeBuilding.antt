-- An expression in parentheses is read from its parts.
use Rattle.std.proofs.Common.{◌≡◌, ℕ, zero, suc, ◌+◌, ◌-◌, ◌<◌, true, false, List, [], ◌∷◌, ◌++◌, length, drop, Some, refl, ap, ◌∙◌, sym, subst, arith, append_assoc, length-append}
use Rattle.wdf_base.specs.declared.script.Operator.{Operator}
use Rattle.wdf_scene.specs.declared.line.SceneExpr.{SceneExpr}
use Rattle.wdf_scene.specs.declared.line.SceneExpr.TheVariants as expr
use Rattle.wdf_scene.specs.declared.scene.Scene.{Scene}
use Rattle.wdf_scene.specs.Written.{Tree, Leaf, Node, size, root, nodes}
use Rattle.wdf_tokens.specs.declared.token.Token.{Token}
use Rattle.wdf_scene_lines.specs.Reading.{TreeReading, NoTree, TreeBefore, first_token, operator_in, is_open, is_close, atom_in, leaf_read, closed_read, right_read, operator_read, left_read, read_tree}
use Rattle.wdf_scene_lines.specs.Building.{BuildsTree, IsTreeRead, with_nodes, next_node}

-- as many nodes as the size says
pub length_nodes : (base : ℕ) (t : Tree) → length (nodes base t) ≡ size t
length_nodes base (Leaf a) = refl
length_nodes base (Node op l r) =
    length-append (nodes base l) (nodes (base + size l) r ++ expr.Binary op (root base l) (root (base + size l) r) ∷ [])
    ∙ omega (arith, length_nodes base l, length_nodes (base + size l) r, length-append (nodes (base + size l) r) (expr.Binary op (root base l) (root (base + size l) r) ∷ []))

-- nodes after nodes
pub with_nodes_twice : (s : Scene) (a b : List SceneExpr) → with_nodes (with_nodes s a) b ≡ with_nodes s (a ++ b)
with_nodes_twice s a b = ap (λ (xs : List SceneExpr). record s { exprs = xs }) (append_assoc s.exprs a b)

-- the numbers go on after what is built
pub next_node_after : (t : Tree) (old new : Scene) → new ≡ with_nodes old (nodes (next_node old) t) → next_node new ≡ next_node old + size t
next_node_after t old new is =
    ap next_node is ∙ length-append old.exprs (nodes (next_node old) t) ∙ ap (λ n. next_node old + n) (length_nodes (next_node old) t)

-- what is built of two operands
record Operands (l r : Tree) (x y : ℕ) (s0 s1 s2 : Scene) : Type 0 where
  left : x ≡ root (next_node s0) l
  left_built : s1 ≡ with_nodes s0 (nodes (next_node s0) l)
  right : y ≡ root (next_node s1) r
  right_built : s2 ≡ with_nodes s1 (nodes (next_node s1) r)

pair_number : (l r : Tree) (op : Operator) (x y : ℕ) (s0 s1 s2 : Scene) → Operands l r x y s0 s1 s2 → next_node s2 ≡ root (next_node s0) (Node op l r)
pair_number l r op x y s0 s1 s2 h = omega (arith, next_node_after l s0 s1 h.left_built, next_node_after r s1 s2 h.right_built)

pair_built : (l r : Tree) (op : Operator) (x y : ℕ) (s0 s1 s2 : Scene) → Operands l r x y s0 s1 s2 → with_nodes s2 (expr.Binary op x y ∷ []) ≡ with_nodes s0 (nodes (next_node s0) (Node op l r))
pair_built l r op x y s0 s1 s2 h =
    let base = next_node s0 in
    let further : next_node s1 ≡ base + size l = next_node_after l s0 s1 h.left_built in
    let a = nodes base l in
    let node : List SceneExpr = expr.Binary op (root base l) (root (base + size l) r) ∷ [] in
    let operands : expr.Binary op x y ∷ [] ≡ node =
    ap (λ n. expr.Binary op n y ∷ []) h.left ∙ ap (λ n. expr.Binary op (root base l) n ∷ []) (h.right ∙ ap (λ n. root n r) further) in
    ap (with_nodes s2) operands
    ∙ ap (λ s. with_nodes s node) (h.right_built ∙ ap (λ n. with_nodes s1 (nodes n r)) further)
    ∙ with_nodes_twice s1 (nodes (base + size l) r) node
    ∙ ap (λ s. with_nodes s (nodes (base + size l) r ++ node)) h.left_built
    ∙ with_nodes_twice s0 a (nodes (base + size l) r ++ node)

-- the steps of reading, where each gives what is wanted
pair_steps : (read : List Token → TreeReading) (l r : Tree) (op : Operator) (b1 b2 : List Token) → operator_in (first_token b1) ≡ Some op → read (drop 1 b1) ≡ TreeBefore r b2 → is_close (first_token b2) ≡ true → left_read read (TreeBefore l b1) ≡ TreeBefore (Node op l r) (drop 1 b2)
pair_steps read l r op b1 b2 is_op is_right closes =
    ap (λ o. operator_read read l o (drop 1 b1)) is_op
    ∙ ap (right_read l op) is_right
    ∙ ap (λ c. closed_read (Node op l r) c (drop 1 b2)) closes

-- both operands are read, and the parenthesis closes
pub pair_read : (read : List Token → TreeReading) (first second : TreeReading) (c1 c2 c3 c4 : List Token) (s0 s1 s2 s3 : Scene) (x y e : ℕ) (op : Operator)
    → IsTreeRead first (Some x) c1 s0 s1 → operator_in (first_token c1) ≡ Some op → c2 ≡ drop 1 c1
    → second ≡ read c2 → IsTreeRead second (Some y) c3 s1 s2 → is_close (first_token c3) ≡ true → c4 ≡ drop 1 c3
    → e ≡ next_node s2 → s3 ≡ with_nodes s2 (expr.Binary op x y ∷ [])
    → IsTreeRead (left_read read first) (Some e) c4 s0 s3
pair_read read NoTree second c1 c2 c3 c4 s0 s1 s2 s3 x y e op h1 is_op rest1 is h2 closes rest2 number built = absurd h1
pair_read read (TreeBefore l b1) NoTree c1 c2 c3 c4 s0 s1 s2 s3 x y e op h1 is_op rest1 is h2 closes rest2 number built = absurd h2
pair_read read (TreeBefore l b1) (TreeBefore r b2) c1 c2 c3 c4 s0 s1 s2 s3 x y e op h1 is_op rest1 is h2 closes rest2 number built =
    let operands : Operands l r x y s0 s1 s2 = record { left = h1.number; left_built = h1.built; right = h2.number; right_built = h2.built } in
    let next : c2 ≡ drop 1 b1 = rest1 ∙ ap (λ (ts : List Token). drop 1 ts) h1.left_is in
    let steps = pair_steps read l r op b1 b2 (ap (λ ts. operator_in (first_token ts)) (sym h1.left_is) ∙ is_op) (ap read (sym next) ∙ sym is) (ap (λ ts. is_close (first_token ts)) (sym h2.left_is) ∙ closes) in
    let P : TreeReading → Type 0 = λ t. IsTreeRead t (Some e) c4 s0 s3 in
    let all : BuildsTree (Node op l r) (drop 1 b2) e c4 s0 s3 = record {
      left_is = rest2 ∙ ap (λ (ts : List Token). drop 1 ts) h2.left_is;
      number = number ∙ pair_number l r op x y s0 s1 s2 operands;
      built = built ∙ pair_built l r op x y s0 s1 s2 operands;
    } in
    subst P (sym steps) all

-- a parenthesis that opens, where one more may
pub read_tree_open : (d : ℕ) (ts : List Token) → 0 < d → is_open (first_token ts) ≡ true → read_tree d ts ≡ left_read (read_tree (d - 1)) (read_tree (d - 1) (drop 1 ts))
unfolding read_tree
read_tree_open zero ts h o = absurd (omega arith)
read_tree_open (suc d) ts h o = let e : suc d - 1 ≡ d = omega arith in rw (o, e) refl

pub read_tree_none : (d : ℕ) (ts : List Token) → d ≡ 0 → read_tree d ts ≡ leaf_read (atom_in (first_token ts)) (drop 1 ts)
unfolding read_tree
read_tree_none zero ts h = refl
read_tree_none (suc d) ts h = absurd (omega arith)

pub read_tree_leaf : (d : ℕ) (ts : List Token) → is_open (first_token ts) ≡ false → read_tree d ts ≡ leaf_read (atom_in (first_token ts)) (drop 1 ts)
unfolding read_tree
read_tree_leaf zero ts o = refl
read_tree_leaf (suc d) ts o = rw o refl
