-- What is printed of a scene is spelled by its lines.
use Rattle.std.proofs.Common.{◌≡◌, ℕ, zero, suc, ◌+◌, ◌≤◌, Bool, true, false, ◌&&◌, nat_le, List, [], ◌∷◌, ◌++◌, length, flat_map, slice_get, Some, refl, ap, ◌∙◌, sym, arith, append_assoc, append-nil, length-append}
use Rattle.std.specs.List.{list_all}
use Rattle.std.proofs.lemmas.Bool.{leb-true}
use Rattle.wdf_base.specs.Words.{call_word}
use Rattle.wdf_tokens.specs.declared.keyword.Keyword.TheVariants as keyword
use Rattle.wdf_base.specs.declared.script.Operator.{Operator}
use Rattle.wdf_scene.specs.declared.line.SceneExpr.{SceneExpr}
use Rattle.wdf_scene.specs.declared.line.SceneExpr.TheVariants as expr
use Rattle.wdf_scene.specs.declared.line.SceneLine.{SceneLine}
use Rattle.wdf_scene.specs.declared.line.SceneLine.TheVariants as line
use Rattle.wdf_scene.specs.declared.line.StatementHead.{StatementHead}
use Rattle.wdf_scene.specs.declared.line.StatementHead.TheVariants as head
use Rattle.wdf_scene.specs.Written.{Atom, Number, Tree, Leaf, Node, Argument, Missing, Valued, OfClass, Written, Plain, Picked, Single, Calling, WrittenLine, atom_node, depth, size, root, nodes, head_line, argument_nodes, argument_size, numbered_argument, line_at, nodes_at, written_size, picks_in, is_plain_form, is_proper, is_written, lines_at, exprs_at}
use Rattle.wdf_tokens.specs.declared.token.Token.{Token}
use Rattle.wdf_tokens.specs.declared.token.Token.TheVariants as token
use Rattle.wdf_tokens.specs.WordTokens.{word}
use Rattle.wdf_tokens.specs.TokenTexts.{line_text}
use Rattle.wdf_scene_lines.specs.Spelling.{atom_token, tree_then, argument_then, head_then, into_then, plain_tokens, written_tokens}
use Rattle.wdf_scene_lines.specs.LineTokens.{leaf_tokens, node_tokens, found_tokens, expr_tokens, arg_tokens, line_tokens}
use Rattle.wdf_scene_lines.proofs.TreeBuilding.{length_nodes}
use Rattle.wdf_parse.specs.Printing.{scene_line_text}
use Rattle.wdf_parse.specs.Canonical.{written_text}

get_at : {T : Type 0} (front : List T) (x : T) (back : List T) → slice_get (front ++ x ∷ back) (length front) ≡ Some x
get_at [] x back = refl
get_at (y ∷ ys) x back = get_at ys x back

get_there : (exprs front : List SceneExpr) (x : SceneExpr) (back : List SceneExpr) (e : ℕ) → exprs ≡ front ++ x ∷ back → length front ≡ e → slice_get exprs e ≡ Some x
get_there exprs front x back e is at = ap (λ (xs : List SceneExpr). slice_get xs e) is ∙ ap (λ n. slice_get (front ++ x ∷ back) n) (sym at) ∙ get_at front x back

leaf_spelled : (a : Atom) → leaf_tokens (atom_node a) ≡ atom_token a ∷ []
leaf_spelled (Number n) = refl
leaf_spelled _ = refl

node_leaf : (deeper : ℕ → List Token) (a : Atom) → node_tokens deeper (atom_node a) ≡ atom_token a ∷ []
node_leaf deeper (Number n) = refl
node_leaf deeper _ = refl

expr_leaf : (d : ℕ) (exprs : List SceneExpr) (e : ℕ) (a : Atom) → slice_get exprs e ≡ Some (atom_node a) → expr_tokens d exprs e ≡ atom_token a ∷ []
unfolding expr_tokens
expr_leaf zero exprs e a is = ap (found_tokens leaf_tokens) is ∙ leaf_spelled a
expr_leaf (suc d) exprs e a is = ap (found_tokens (node_tokens (expr_tokens d exprs))) is ∙ node_leaf (expr_tokens d exprs) a

expr_pair : (d : ℕ) (exprs : List SceneExpr) (e : ℕ) (op : Operator) (x y : ℕ) → slice_get exprs e ≡ Some (expr.Binary op x y) → expr_tokens (suc d) exprs e ≡ token.Open ∷ (expr_tokens d exprs x ++ (token.Infix op ∷ (expr_tokens d exprs y ++ token.Close ∷ [])))
unfolding expr_tokens
expr_pair d exprs e op x y is = ap (found_tokens (node_tokens (expr_tokens d exprs))) is

-- tokens after those of a pair
pair_then : (a : Token) (l : List Token) (b : Token) (r : List Token) (c : Token) (rest : List Token) → (a ∷ (l ++ (b ∷ (r ++ c ∷ [])))) ++ rest ≡ a ∷ (l ++ (b ∷ (r ++ (c ∷ rest))))
pair_then a l b r c rest =
    ap (λ (xs : List Token). a ∷ xs) (append_assoc l (b ∷ (r ++ c ∷ [])) rest ∙ ap (λ (xs : List Token). l ++ (b ∷ xs)) (append_assoc r (c ∷ []) rest))

-- the nodes of a pair, cut before each part
cut_left : (nl nr : List SceneExpr) (b : SceneExpr) (back : List SceneExpr) → (nl ++ (nr ++ b ∷ [])) ++ back ≡ nl ++ (nr ++ (b ∷ back))
cut_left nl nr b back = append_assoc nl (nr ++ b ∷ []) back ∙ ap (λ (xs : List SceneExpr). nl ++ xs) (append_assoc nr (b ∷ []) back)

-- an expression is printed from its number as it is spelled
pub expr_spelled : (d : ℕ) (t : Tree) (exprs front back : List SceneExpr) (base : ℕ) (rest : List Token) → exprs ≡ front ++ (nodes base t ++ back) → length front ≡ base → depth t ≤ d → expr_tokens d exprs (root base t) ++ rest ≡ tree_then t rest
expr_spelled d (Leaf a) exprs front back base rest is at h =
    ap (λ (xs : List Token). xs ++ rest) (expr_leaf d exprs base a (get_there exprs front (atom_node a) back base is at))
expr_spelled zero (Node op l r) exprs front back base rest is at h = absurd (omega arith)
expr_spelled (suc d) (Node op l r) exprs front back base rest is at h =
    let nl = nodes base l in
    let nr = nodes (base + size l) r in
    let b : SceneExpr = expr.Binary op (root base l) (root (base + size l) r) in
    let left : exprs ≡ front ++ (nl ++ (nr ++ (b ∷ back))) = is ∙ ap (λ (xs : List SceneExpr). front ++ xs) (cut_left nl nr b back) in
    let right : exprs ≡ (front ++ nl) ++ (nr ++ (b ∷ back)) = left ∙ sym (append_assoc front nl (nr ++ (b ∷ back))) in
    let here : exprs ≡ ((front ++ nl) ++ nr) ++ (b ∷ back) = right ∙ sym (append_assoc (front ++ nl) nr (b ∷ back)) in
    let at_right : length (front ++ nl) ≡ base + size l = omega (arith, length-append front nl, length_nodes base l) in
    let at_here : length ((front ++ nl) ++ nr) ≡ base + size l + size r = omega (arith, length-append (front ++ nl) nr, length_nodes (base + size l) r) in
    let found = get_there exprs ((front ++ nl) ++ nr) b back (base + size l + size r) here at_here in
    let x = root base l in
    let y = root (base + size l) r in
    ap (λ (xs : List Token). xs ++ rest) (expr_pair d exprs (base + size l + size r) op x y found)
    ∙ pair_then token.Open (expr_tokens d exprs x) (token.Infix op) (expr_tokens d exprs y) token.Close rest
    ∙ ap (λ (xs : List Token). token.Open ∷ (expr_tokens d exprs x ++ (token.Infix op ∷ xs))) (expr_spelled d r exprs (front ++ nl) (b ∷ back) (base + size l) (token.Close ∷ rest) right at_right (omega arith))
    ∙ ap (λ (xs : List Token). token.Open ∷ xs) (expr_spelled d l exprs front (nr ++ (b ∷ back)) base (token.Infix op ∷ tree_then r (token.Close ∷ rest)) left at (omega arith))

-- an argument is printed as it is spelled
arg_spelled : (a : Argument) (exprs front back : List SceneExpr) (base : ℕ) (rest : List Token) → exprs ≡ front ++ (argument_nodes a ++ back) → length front ≡ base → arg_tokens exprs (numbered_argument base a) ++ rest ≡ argument_then a rest
arg_spelled Missing exprs front back base rest is at = refl
arg_spelled (Valued v) exprs front back base rest is at = expr_spelled 16 (Leaf v) exprs front back base rest is at (omega arith)
arg_spelled (OfClass n) exprs front back base rest is at = refl

length_argument : (a : Argument) → length (argument_nodes a) ≡ argument_size a
length_argument Missing = refl
length_argument _ = refl

plain_spelled : (exprs : List SceneExpr) (form : SceneLine) (ns : List ℕ) → is_plain_form form ≡ true → line_tokens exprs form ns ≡ plain_tokens form
plain_spelled exprs line.Picks ns h = absurd (let z : ⊥ = cc in z)
plain_spelled exprs (line.Let x e) ns h = absurd (let z : ⊥ = cc in z)
plain_spelled exprs (line.Call kind into a b c) ns h = absurd (let z : ⊥ = cc in z)
plain_spelled exprs (line.Put r e) ns h = absurd (let z : ⊥ = cc in z)
plain_spelled exprs (line.If e) ns h = absurd (let z : ⊥ = cc in z)
plain_spelled exprs (line.Repeat e) ns h = absurd (let z : ⊥ = cc in z)
plain_spelled exprs (line.Spend e) ns h = absurd (let z : ⊥ = cc in z)
plain_spelled exprs (line.Log e) ns h = absurd (let z : ⊥ = cc in z)
plain_spelled exprs (line.Return e) ns h = absurd (let z : ⊥ = cc in z)
plain_spelled exprs _ ns h = refl

head_spelled : (exprs : List SceneExpr) (h : StatementHead) (e : ℕ) → line_tokens exprs (head_line h e) [] ≡ head_then h (expr_tokens 16 exprs e)
head_spelled exprs (head.Let x) e = refl
head_spelled exprs _ e = refl

both : (a b : Bool) → (a && b) ≡ true → (a ≡ true) × (b ≡ true)
both true true h = (refl, refl)
both true false h = absurd (let z : ⊥ = cc in z)
both false b h = absurd (let z : ⊥ = cc in z)

-- a line is printed as it is spelled
pub line_spelled : (w : Written) (exprs front back : List SceneExpr) (base : ℕ) → exprs ≡ front ++ (nodes_at base w ++ back) → length front ≡ base → is_written w ≡ true → line_tokens exprs (line_at base w) (picks_in w) ≡ written_tokens w
line_spelled (Plain form) exprs front back base is at h = plain_spelled exprs form [] h
line_spelled (Picked ns) exprs front back base is at h = refl
line_spelled (Single k t) exprs front back base is at h =
    let parts = both (is_proper t) (nat_le (depth t) 16) h in
    let shallow : depth t ≤ 16 = leb-true (depth t) 16 parts.1 in
    head_spelled exprs k (root base t)
    ∙ ap (head_then k) (sym (append-nil (expr_tokens 16 exprs (root base t))) ∙ expr_spelled 16 t exprs front back base [] is at shallow)
line_spelled (Calling kind into a b c) exprs front back base is at h =
    let na = argument_nodes a in
    let nb = argument_nodes b in
    let nc = argument_nodes c in
    let first : exprs ≡ front ++ (na ++ ((nb ++ nc) ++ back)) = is ∙ ap (λ (xs : List SceneExpr). front ++ xs) (append_assoc na (nb ++ nc) back) in
    let second : exprs ≡ (front ++ na) ++ (nb ++ (nc ++ back)) = first ∙ sym (append_assoc front na ((nb ++ nc) ++ back)) ∙ ap (λ (xs : List SceneExpr). (front ++ na) ++ xs) (append_assoc nb nc back) in
    let third : exprs ≡ ((front ++ na) ++ nb) ++ (nc ++ back) = second ∙ sym (append_assoc (front ++ na) nb (nc ++ back)) in
    let at2 : length (front ++ na) ≡ base + argument_size a = omega (arith, length-append front na, length_argument a) in
    let at3 : length ((front ++ na) ++ nb) ≡ base + argument_size a + argument_size b = omega (arith, length-append (front ++ na) nb, length_argument b) in
    let z = arg_tokens exprs (numbered_argument (base + argument_size a + argument_size b) c) in
    let args : arg_tokens exprs (numbered_argument base a) ++ (arg_tokens exprs (numbered_argument (base + argument_size a) b) ++ z) ≡ argument_then a (argument_then b (argument_then c [])) =
    arg_spelled a exprs front ((nb ++ nc) ++ back) base (arg_tokens exprs (numbered_argument (base + argument_size a) b) ++ z) first at
    ∙ ap (argument_then a) (arg_spelled b exprs (front ++ na) (nc ++ back) (base + argument_size a) z second at2
    ∙ ap (argument_then b) (sym (append-nil z) ∙ arg_spelled c exprs ((front ++ na) ++ nb) back (base + argument_size a + argument_size b) [] third at3)) in
    ap (λ (xs : List Token). word keyword.Call ∷ into_then into (token.Word (call_word kind) ∷ xs)) args

pub length_nodes_at : (base : ℕ) (w : Written) → length (nodes_at base w) ≡ written_size w
length_nodes_at base (Plain form) = refl
length_nodes_at base (Picked ns) = refl
length_nodes_at base (Single h t) = length_nodes base t
length_nodes_at base (Calling kind into a b c) =
    length-append (argument_nodes a) (argument_nodes b ++ argument_nodes c)
    ∙ omega (arith, length-append (argument_nodes b) (argument_nodes c), length_argument a, length_argument b, length_argument c)

-- the lines are printed as they are spelled
pub lines_spelled : (ws : List WrittenLine) (exprs front : List SceneExpr) (base : ℕ) → exprs ≡ front ++ exprs_at base ws → length front ≡ base → list_all (λ w. is_written w.written) ws ≡ true → flat_map (scene_line_text exprs) (lines_at base ws) ≡ flat_map written_text ws
lines_spelled [] exprs front base is at h = refl
lines_spelled (w ∷ ws) exprs front base is at h =
    let parts = both (is_written w.written) (list_all (λ w. is_written w.written) ws) h in
    let n = nodes_at base w.written in
    let behind = exprs_at (base + written_size w.written) ws in
    let further : exprs ≡ (front ++ n) ++ behind = is ∙ sym (append_assoc front n behind) in
    let at2 : length (front ++ n) ≡ base + written_size w.written = omega (arith, length-append front n, length_nodes_at base w.written) in
    ap (λ (ts : List Token). line_text ts ++ flat_map (scene_line_text exprs) (lines_at (base + written_size w.written) ws)) (line_spelled w.written exprs front behind base is at parts.0)
    ∙ ap (λ (xs : List ℕ). written_text w ++ xs) (lines_spelled ws exprs (front ++ n) (base + written_size w.written) further at2 parts.1)
