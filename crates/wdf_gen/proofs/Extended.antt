-- A scene that grows twice grows by all the lines.
use Rattle.std.proofs.Common.{◌≡◌, ℕ, suc, ◌+◌, List, [], ◌∷◌, ◌++◌, length, refl, ap, ◌∙◌, sym, arith, length-append, append-nil, append_assoc}
use Rattle.wdf_scene.specs.declared.line.NumberedLine.{NumberedLine}
use Rattle.wdf_scene.specs.declared.line.SceneExpr.{SceneExpr}
use Rattle.wdf_scene.specs.declared.line.SceneExpr.TheVariants as expr
use Rattle.wdf_scene.specs.declared.scene.Scene.{Scene}
use Rattle.wdf_scene.specs.Written.{Tree, Leaf, Node, Argument, Missing, Written, Plain, Picked, Single, Calling, nodes, root, size, argument_nodes, argument_size, line_at, nodes_at, written_size, picks_in, lines_at, exprs_at}
use Rattle.wdf_gen.specs.Generated.{numbered}
use Rattle.wdf_gen.specs.Writing.{extended}

length-nodes : (base : ℕ) (t : Tree) → length (nodes base t) ≡ size t
length-nodes base (Leaf a) = refl
length-nodes base (Node op l r) =
    let last : List SceneExpr = expr.Binary op (root base l) (root (base + size l) r) ∷ [] in
    length-append (nodes base l) (nodes (base + size l) r ++ last)
    ∙ omega (arith, length-append (nodes (base + size l) r) last, length-nodes base l, length-nodes (base + size l) r)

length-argument : (a : Argument) → length (argument_nodes a) ≡ argument_size a
length-argument Missing = refl
length-argument _ = refl

length-line : (base : ℕ) (w : Written) → length (nodes_at base w) ≡ written_size w
length-line base (Plain form) = refl
length-line base (Picked ns) = refl
length-line base (Single h t) = length-nodes base t
length-line base (Calling kind into a b c) =
    length-append (argument_nodes a) (argument_nodes b ++ argument_nodes c)
    ∙ omega (arith, length-append (argument_nodes b) (argument_nodes c), length-argument a, length-argument b, length-argument c)

abbrev pub the_scene : ℕ → List NumberedLine → List SceneExpr → Scene
the_scene v a c = record { version = v; lines = a; exprs = c }

-- the same scene with other parts
pub scene_is : (v : ℕ) (a b : List NumberedLine) (c d : List SceneExpr) → a ≡ b → c ≡ d → the_scene v a c ≡ the_scene v b d
scene_is v a b c d e f = ap (λ x. the_scene v x c) e ∙ ap (λ x. the_scene v b x) f

pub extended_none : (s : Scene) → extended s [] ≡ s
unfolding extended
extended_none s = scene_is s.version (s.lines ++ []) s.lines (s.exprs ++ []) s.exprs (append-nil s.lines) (append-nil s.exprs)

-- the first line is added first
extended_first : (s : Scene) (w : Written) (ws : List Written) → extended (extended s (w ∷ [])) ws ≡ extended s (w ∷ ws)
unfolding extended
extended_first s w ws =
    let base = length s.exprs in
    let l : NumberedLine = record { number = length s.lines + 1; form = line_at base w; picks = picks_in w } in
    let none : List SceneExpr = [] in
    let longer : length (s.exprs ++ (nodes_at base w ++ [])) ≡ base + written_size w =
    length-append s.exprs (nodes_at base w ++ []) ∙ omega (arith, length-append (nodes_at base w) none, length-line base w) in
    let next : length (s.lines ++ l ∷ []) + 1 ≡ suc (length s.lines + 1) = omega (arith, length-append s.lines (l ∷ [])) in
    let rest = lines_at (base + written_size w) (numbered (suc (length s.lines + 1)) ws) in
    let more = exprs_at (base + written_size w) (numbered (suc (length s.lines + 1)) ws) in
    ap (λ b. the_scene s.version ((s.lines ++ l ∷ []) ++ lines_at b (numbered (length (s.lines ++ l ∷ []) + 1) ws)) ((s.exprs ++ (nodes_at base w ++ [])) ++ exprs_at b (numbered (length (s.lines ++ l ∷ []) + 1) ws))) longer
    ∙ ap (λ k. the_scene s.version ((s.lines ++ l ∷ []) ++ lines_at (base + written_size w) (numbered k ws)) ((s.exprs ++ (nodes_at base w ++ [])) ++ exprs_at (base + written_size w) (numbered k ws))) next
    ∙ scene_is s.version _ _ _ _ (append_assoc s.lines (l ∷ []) rest) (ap (λ (xs : List SceneExpr). (s.exprs ++ xs) ++ more) (append-nil (nodes_at base w)) ∙ append_assoc s.exprs (nodes_at base w) more)

pub extended_twice : (s : Scene) (xs ys : List Written) → extended (extended s xs) ys ≡ extended s (xs ++ ys)
extended_twice s [] ys = ap (λ z. extended z ys) (extended_none s)
extended_twice s (x ∷ xs) ys =
    ap (λ z. extended z ys) (sym (extended_first s x xs))
    ∙ extended_twice (extended s (x ∷ [])) xs ys
    ∙ extended_first s x (xs ++ ys)

pub ruleset growing = (append-nil, length-append)

pub extended_further : (s z y : Scene) (xs ys : List Written) → z ≡ extended s xs → y ≡ extended z ys → y ≡ extended s (xs ++ ys)
extended_further s z y xs ys first second =
    second ∙ ap (λ x. extended x ys) first ∙ extended_twice s xs ys
