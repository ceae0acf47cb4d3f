-- The numbers that the lines and the expressions of a scene write fit 64 bits, and its line numbers are no more than the bytes of its text.
use Rattle.std.proofs.Common.{if◌then◌else◌, ◌≡◌, ℕ, zero, suc, ◌+◌, ◌==◌, ◌<◌, ◌≤◌, ◌^◌, Bool, true, false, nat_lt, List, [], ◌∷◌, ◌++◌, length, map, Option, Some, None, Result, Ok, Err, slice_get, drop, refl, ap, subst, arith}
use Rattle.std.specs.List.{list_all}
use Rattle.std.proofs.lemmas.Bool.{ltb-true}
use Rattle.wdf_base.specs.Words.{call_word}
use Rattle.wdf_model.proofs.Tests.{both_left, both_right}
use Rattle.wdf_scene.specs.declared.line.NumberedLine.{NumberedLine}
use Rattle.wdf_scene.specs.declared.line.SceneAction.{SceneAction}
use Rattle.wdf_scene.specs.declared.line.SceneAction.TheVariants as action
use Rattle.wdf_scene.specs.declared.line.SceneExpr.{SceneExpr}
use Rattle.wdf_scene.specs.declared.line.SceneExpr.TheVariants as expr
use Rattle.wdf_scene.specs.declared.line.SceneLine.{SceneLine}
use Rattle.wdf_scene.specs.declared.line.SceneLine.TheVariants as line
use Rattle.wdf_scene.specs.declared.line.StatementHead.{StatementHead}
use Rattle.wdf_scene.specs.declared.line.StatementHead.TheVariants as head
use Rattle.wdf_scene.specs.declared.scene.Scene.{Scene}
use Rattle.wdf_scene.specs.Written.{Argument, Atom, Calling, Leaf, Missing, Node, Number, OfClass, Picked, Plain, Single, Tree, Valued, Written, WrittenLine, argument_nodes, atom_node, exprs_at, head_line, line_at, lines_at, nodes, nodes_at, root, size, written_size}
use Rattle.wdf_tokens.specs.declared.lexer.TokenFault.{TokenFault}
use Rattle.wdf_tokens.specs.declared.token.Token.{Token}
use Rattle.wdf_tokens.specs.declared.token.Token.TheVariants as token
use Rattle.wdf_tokens.specs.Tokens.{line_reading, lines_of, with_byte}
use Rattle.wdf_tokens.specs.WellFormed.{is_token}
use Rattle.wdf_tokens.proofs.LexedTokens.{read_fit}
use Rattle.wdf_scene_lines.specs.Spelling.{argument_then, atom_token, head_then, into_then, plain_tokens, tree_then, written_tokens}
use Rattle.wdf_parse.specs.StandsFor.{StandsFor, TokenLine, spelled_line, token_lines, version_lines, with_token_line}
use Rattle.wdf_refusals.proofs.Every.{Every, every_append}

-- ---- the lines of a text

-- its tokens have a spelling, and its number isn't greater
record IsWell (most : ℕ) (l : TokenLine) : Type 0 where
  spelled : list_all is_token l.tokens ≡ true
  within : l.number ≤ most

abbrev AllWell : ℕ → Option (List TokenLine) → Type 0
AllWell most None = Unit {0}
AllWell most (Some ls) = Every (IsWell most) ls

line_well : (most number : ℕ) (l : List ℕ) (r : Result (List Token) TokenFault) (rest : Option (List TokenLine)) → line_reading l ≡ r → number ≤ most → AllWell most rest → AllWell most (with_token_line number r rest)
line_well most number l (Ok []) rest is small h = h
line_well most number l (Ok (t ∷ ts)) None is small h = tt
line_well most number l (Ok (t ∷ ts)) (Some ls) is small h = (record { spelled = read_fit l (t ∷ ts) is; within = small }, h)
line_well most number l (Err f) rest is small h = tt

lines_well : (most number : ℕ) (ls : List (List ℕ)) → number + length ls ≤ suc most → AllWell most (token_lines number ls)
lines_well most number [] h = tt
lines_well most number (l ∷ ls) h = line_well most number l (line_reading l) (token_lines (suc number) ls) refl (omega (arith, h)) (lines_well most (suc number) ls (omega (arith, h)))

one_more : (b : ℕ) (ls : List (List ℕ)) (n : ℕ) → length ls ≤ n → length (with_byte b ls) ≤ suc n
one_more b [] n h = omega arith
one_more b (l ∷ ls) n h = omega (arith, h)

either_few : (t : Bool) (xs ys : List (List ℕ)) (n : ℕ) → length xs ≤ n → length ys ≤ n → length (if t then xs else ys) ≤ n
either_few true xs ys n h k = h
either_few false xs ys n h k = k

lines_few : (text : List ℕ) → length (lines_of text) ≤ length text
lines_few [] = omega arith
lines_few (b ∷ bytes) =
    let few = lines_few bytes in
    either_few (b == 10) ([] ∷ lines_of bytes) (with_byte b (lines_of bytes)) (suc (length bytes)) (omega (arith, few)) (one_more b (lines_of bytes) (length bytes) few)

-- ---- the lines of a scene, as they are written

abbrev AllWritten : ℕ → List WrittenLine → Type 0
AllWritten most ws = Every (λ w. IsWell most (spelled_line w)) ws

written_well : (most : ℕ) (ws : List WrittenLine) → Every (IsWell most) (map spelled_line ws) → AllWritten most ws
written_well most [] h = tt
written_well most (w ∷ ws) h = (h.0, written_well most ws h.1)

after_version : (most : ℕ) (vs : List TokenLine) (ws : List WrittenLine) → Every (IsWell most) (vs ++ map spelled_line ws) → AllWritten most ws
after_version most [] ws h = written_well most ws h
after_version most (v ∷ vs) ws h = after_version most vs ws h.1

-- ---- tokens

number_at : (ts : List Token) (k n : ℕ) → list_all is_token ts ≡ true → slice_get ts k ≡ Some (token.Number n) → n < 2 ^ 64
number_at [] k n h at = absurd (let z : ⊥ = cc in z)
number_at (token.Number x ∷ ts) zero n h at =
    let same : x ≡ n = cc in
    let small : x < 2 ^ 64 = ltb-true x (2 ^ 64) (both_left (nat_lt x (2 ^ 64)) (list_all is_token ts) h) in
    omega (arith, same, small)
number_at (t ∷ ts) (suc k) n h at = number_at ts k n (both_right (is_token t) (list_all is_token ts) h) at
number_at (t ∷ ts) zero n h at = absurd (let z : ⊥ = cc in z)

-- the tokens after the first n
behind : (n : ℕ) (ts : List Token) → list_all is_token ts ≡ true → list_all is_token (drop n ts) ≡ true
behind zero ts h = h
behind (suc n) [] h = refl
behind (suc n) (t ∷ ts) h = behind n ts (both_right (is_token t) (list_all is_token ts) h)

-- ---- forms

abbrev pub SceneActionFits : SceneAction → Type 0
SceneActionFits (action.Set r v) = v < 2 ^ 64
SceneActionFits (action.Raise i) = Unit {0}
SceneActionFits (action.Lower i) = Unit {0}

-- the numbers that a plan keeps of a line
abbrev pub FormFits : SceneLine → Type 0
FormFits (line.Register n v) = v < 2 ^ 64
FormFits (line.When access r a after) = SceneActionFits a
FormFits (line.At tick a) = SceneActionFits a
FormFits (line.AtRead tick d n) = n < 2 ^ 64
FormFits (line.AtWrite tick d n) = n < 2 ^ 64
FormFits (line.AtControl tick d code n) = (code < 2 ^ 64) × (n < 2 ^ 64)
FormFits (line.AtCancel tick k) = k < 2 ^ 64
FormFits _ = Unit {0}

form_fits : (form : SceneLine) → list_all is_token (plain_tokens form) ≡ true → FormFits form
form_fits (line.Register n v) h = number_at (plain_tokens (line.Register n v)) 2 v h refl
form_fits (line.When access r (action.Set x v) after) h = number_at (plain_tokens (line.When access r (action.Set x v) after)) 5 v h refl
form_fits (line.When access r (action.Raise i) after) h = tt
form_fits (line.When access r (action.Lower i) after) h = tt
form_fits (line.At tick (action.Set x v)) h = number_at (plain_tokens (line.At tick (action.Set x v))) 4 v h refl
form_fits (line.At tick (action.Raise i)) h = tt
form_fits (line.At tick (action.Lower i)) h = tt
form_fits (line.AtRead tick d n) h = number_at (plain_tokens (line.AtRead tick d n)) 4 n h refl
form_fits (line.AtWrite tick d n) h = number_at (plain_tokens (line.AtWrite tick d n)) 4 n h refl
form_fits (line.AtControl tick d code n) h =
    (number_at (plain_tokens (line.AtControl tick d code n)) 4 code h refl, number_at (plain_tokens (line.AtControl tick d code n)) 5 n h refl)
form_fits (line.AtCancel tick k) h = number_at (plain_tokens (line.AtCancel tick k)) 3 k h refl
form_fits _ h = tt

head_line_fits : (h : StatementHead) (e : ℕ) → FormFits (head_line h e)
head_line_fits (head.Let x) e = tt
head_line_fits _ e = tt

line_fits : (base : ℕ) (w : Written) → list_all is_token (written_tokens w) ≡ true → FormFits (line_at base w)
line_fits base (Plain form) h = form_fits form h
line_fits base (Picked ns) h = tt
line_fits base (Single s t) h = head_line_fits s (root base t)
line_fits base (Calling kind into a b c) h = tt

-- a line of a scene, with its number
abbrev pub LineFits : ℕ → NumberedLine → Type 0
LineFits most l = FormFits l.form × (l.number ≤ most)

lines_fit : (most base : ℕ) (ws : List WrittenLine) → AllWritten most ws → Every (LineFits most) (lines_at base ws)
lines_fit most base [] h = tt
lines_fit most base (w ∷ ws) h = ((line_fits base w.written h.0.spelled, h.0.within), lines_fit most (base + written_size w.written) ws h.1)

-- ---- expressions

abbrev pub ExprFits : SceneExpr → Type 0
ExprFits (expr.Number n) = n < 2 ^ 64
ExprFits _ = Unit {0}

abbrev Fit : List SceneExpr → List Token → Type 0
Fit es rest = Every ExprFits es × (list_all is_token rest ≡ true)

atom_fits : (a : Atom) (rest : List Token) → list_all is_token (atom_token a ∷ rest) ≡ true → ExprFits (atom_node a)
atom_fits (Number n) rest h = number_at (token.Number n ∷ rest) 0 n h refl
atom_fits _ rest h = tt

tree_fits : (t : Tree) (base : ℕ) (rest : List Token) → list_all is_token (tree_then t rest) ≡ true → Fit (nodes base t) rest
tree_fits (Leaf a) base rest h = ((atom_fits a rest h, tt), behind 1 (atom_token a ∷ rest) h)
tree_fits (Node op l r) base rest h =
    let left = tree_fits l base (token.Infix op ∷ tree_then r (token.Close ∷ rest)) (behind 1 (tree_then (Node op l r) rest) h) in
    let right = tree_fits r (base + size l) (token.Close ∷ rest) (behind 1 (token.Infix op ∷ tree_then r (token.Close ∷ rest)) left.1) in (
      every_append ExprFits (nodes base l) _ left.0 (every_append ExprFits (nodes (base + size l) r) (expr.Binary op (root base l) (root (base + size l) r) ∷ []) right.0 (tt, tt)),
      behind 1 (token.Close ∷ rest) right.1,
    )

after_head : (s : StatementHead) (rest : List Token) → list_all is_token (head_then s rest) ≡ true → list_all is_token rest ≡ true
after_head (head.Let x) rest h = behind 3 (head_then (head.Let x) rest) h
after_head (head.Put r) rest h = behind 2 (head_then (head.Put r) rest) h
after_head head.If rest h = behind 1 (head_then head.If rest) h
after_head head.Repeat rest h = behind 1 (head_then head.Repeat rest) h
after_head head.Spend rest h = behind 1 (head_then head.Spend rest) h
after_head head.Log rest h = behind 1 (head_then head.Log rest) h
after_head head.Return rest h = behind 1 (head_then head.Return rest) h

after_into : (into : Option (List ℕ)) (rest : List Token) → list_all is_token (into_then into rest) ≡ true → list_all is_token rest ≡ true
after_into None rest h = h
after_into (Some x) rest h = behind 2 (into_then (Some x) rest) h

argument_fits : (a : Argument) (rest : List Token) → list_all is_token (argument_then a rest) ≡ true → Fit (argument_nodes a) rest
argument_fits Missing rest h = (tt, h)
argument_fits (Valued a) rest h = ((atom_fits a rest h, tt), behind 1 (atom_token a ∷ rest) h)
argument_fits (OfClass n) rest h = (tt, behind 1 (token.Word n ∷ rest) h)

nodes_fit : (base : ℕ) (w : Written) → list_all is_token (written_tokens w) ≡ true → Every ExprFits (nodes_at base w)
nodes_fit base (Plain form) h = tt
nodes_fit base (Picked ns) h = tt
nodes_fit base (Single s t) h = (tree_fits t base [] (after_head s (tree_then t []) h)).0
nodes_fit base (Calling kind into a b c) h =
    let named : List Token = token.Word (call_word kind) ∷ argument_then a (argument_then b (argument_then c [])) in
    let first = argument_fits a (argument_then b (argument_then c [])) (behind 1 named (after_into into named (behind 1 (written_tokens (Calling kind into a b c)) h))) in
    let second = argument_fits b (argument_then c []) first.1 in
    let third = argument_fits c [] second.1 in
    every_append ExprFits (argument_nodes a) (argument_nodes b ++ argument_nodes c) first.0 (every_append ExprFits (argument_nodes b) (argument_nodes c) second.0 third.0)

exprs_fit : (most base : ℕ) (ws : List WrittenLine) → AllWritten most ws → Every ExprFits (exprs_at base ws)
exprs_fit most base [] h = tt
exprs_fit most base (w ∷ ws) h = every_append ExprFits (nodes_at base w.written) (exprs_at (base + written_size w.written) ws) (nodes_fit base w.written h.0.spelled) (exprs_fit most (base + written_size w.written) ws h.1)

-- ---- the scene of a text

pub record SceneFits (most : ℕ) (scene : Scene) : Type 0 where
  pub lines : Every (LineFits most) scene.lines
  pub exprs : Every ExprFits scene.exprs

pub scene_fits : (text : List ℕ) (scene : Scene) → StandsFor text scene → SceneFits (length text) scene
scene_fits text scene h =
    let most = length text in
    let few = lines_few text in
    let well : Every (IsWell most) (version_lines scene.version h.first ++ map spelled_line h.ws) = subst (AllWell most) h.tokens (lines_well most 1 (lines_of text) (omega (arith, few))) in
    let written = after_version most (version_lines scene.version h.first) h.ws well in
    let lines : scene.lines ≡ lines_at 0 h.ws = ap (λ (x : Scene). x.lines) h.is in
    let exprs : scene.exprs ≡ exprs_at 0 h.ws = ap (λ (x : Scene). x.exprs) h.is in
    record { lines = rw lines (lines_fit most 0 h.ws written); exprs = rw exprs (exprs_fit most 0 h.ws written) }
