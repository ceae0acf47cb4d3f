-- Lines with their expressions as trees, and the scene that numbers the nodes of these trees.
use Rattle.std.specs.Prelude.{◌≡◌, Bool, true, false, ℕ, suc, ◌+◌, ◌&&◌, nat_le, max, List, [], ◌∷◌, ◌++◌, map, Option, IsTrue, ◌⊎◌}
use Rattle.std.specs.List.{list_all}
use Rattle.std.specs.Option.{is_none}
use Rattle.wdf_base.specs.declared.call.CallKind.{CallKind}
use Rattle.wdf_base.specs.declared.script.ContextWord.{ContextWord}
use Rattle.wdf_base.specs.declared.script.Operator.{Operator}
use Rattle.wdf_base.specs.declared.signature.Signature.{Signature}
use Rattle.wdf_base.specs.declared.signature.Sort.{Sort}
use Rattle.wdf_base.specs.declared.signature.Sort.TheVariants as sort
use Rattle.wdf_base.specs.declared.value.Status.{Status}
use Rattle.wdf_base.specs.Calls.{signature_of}
use Rattle.wdf_base.specs.Words.{status_of}
use Rattle.wdf_scene.specs.declared.line.NumberedLine.{NumberedLine}
use Rattle.wdf_scene.specs.declared.line.SceneArg.{SceneArg}
use Rattle.wdf_scene.specs.declared.line.SceneArg.TheVariants as arg
use Rattle.wdf_scene.specs.declared.line.SceneExpr.{SceneExpr}
use Rattle.wdf_scene.specs.declared.line.SceneExpr.TheVariants as expr
use Rattle.wdf_scene.specs.declared.line.SceneLine.{SceneLine}
use Rattle.wdf_scene.specs.declared.line.SceneLine.TheVariants as line
use Rattle.wdf_scene.specs.declared.line.StatementHead.{StatementHead}
use Rattle.wdf_scene.specs.declared.line.StatementHead.TheVariants as head
use Rattle.wdf_scene.specs.declared.scene.Scene.{Scene}
use Rattle.wdf_scene.specs.Blocks.{IsWhole}
use Rattle.wdf_scene.specs.Words.{context_of}

-- an expression that is one token
pub data Atom : Type 0 where
  Number : ℕ → Atom
  Named : List ℕ → Atom
  Literal : Status → Atom
  Context : ContextWord → Atom

-- an expression: an atom, or an operator between two expressions in parentheses
pub data Tree : Type 0 where
  Leaf : Atom → Tree
  Node : Operator → Tree → Tree → Tree

-- an argument of a call
pub data Argument : Type 0 where
  Missing : Argument
  Valued : Atom → Argument
  OfClass : List ℕ → Argument

-- a line as it is written
pub data Written : Type 0 where
  -- a form without expressions and picks
  Plain : SceneLine → Written
  -- the numbers after `picks`
  Picked : List ℕ → Written
  -- a statement with one expression
  Single : StatementHead → Tree → Written
  -- a call with the variable that gets the answer, and its arguments
  Calling : CallKind → Option (List ℕ) → Argument → Argument → Argument → Written

-- how deep parentheses nest in an expression
abbrev pub depth : Tree → ℕ
depth (Leaf a) = 0
depth (Node op l r) = suc (max (depth l) (depth r))

-- how many nodes an expression has
abbrev pub size : Tree → ℕ
size (Leaf a) = 1
size (Node op l r) = size l + size r + 1

-- the node of an atom
abbrev pub atom_node : Atom → SceneExpr
atom_node (Number n) = expr.Number n
atom_node (Named n) = expr.Named n
atom_node (Literal s) = expr.Literal s
atom_node (Context w) = expr.Context w

-- the number of an expression whose nodes are numbered from `base`: its own node is the last one
abbrev pub root : ℕ → Tree → ℕ
root base (Leaf a) = base
root base (Node op l r) = base + size l + size r

-- the nodes of an expression: the left operand's, the right operand's, the operator's
abbrev pub nodes : ℕ → Tree → List SceneExpr
nodes base (Leaf a) = atom_node a ∷ []
nodes base (Node op l r) = nodes base l ++ (nodes (base + size l) r ++ expr.Binary op (root base l) (root (base + size l) r) ∷ [])

-- a name of an expression is no status and no part of the running callback
abbrev pub is_proper_atom : Atom → Bool
is_proper_atom (Named n) = is_none (status_of n) && is_none (context_of n)
is_proper_atom _ = true

abbrev pub is_proper : Tree → Bool
is_proper (Leaf a) = is_proper_atom a
is_proper (Node op l r) = is_proper l && is_proper r

-- the line of a statement with one expression, by that expression's number
abbrev pub head_line : StatementHead → ℕ → SceneLine
head_line (head.Let x) e = line.Let x e
head_line (head.Put r) e = line.Put r e
head_line head.If e = line.If e
head_line head.Repeat e = line.Repeat e
head_line head.Spend e = line.Spend e
head_line head.Log e = line.Log e
head_line head.Return e = line.Return e

-- how many nodes an argument has
abbrev pub argument_size : Argument → ℕ
argument_size (Valued a) = 1
argument_size _ = 0

-- the nodes of an argument
abbrev pub argument_nodes : Argument → List SceneExpr
argument_nodes (Valued a) = atom_node a ∷ []
argument_nodes _ = []

-- an argument whose node has this number
abbrev pub numbered_argument : ℕ → Argument → SceneArg
numbered_argument base Missing = arg.NoArgument
numbered_argument base (Valued a) = arg.Expression base
numbered_argument base (OfClass n) = arg.OfClass n

-- the line, with the nodes of its expressions numbered from `base`
abbrev pub line_at : ℕ → Written → SceneLine
line_at base (Plain form) = form
line_at base (Picked ns) = line.Picks
line_at base (Single h t) = head_line h (root base t)
line_at base (Calling kind into a b c) =
    line.Call kind into (numbered_argument base a) (numbered_argument (base + argument_size a) b)
    (numbered_argument (base + argument_size a + argument_size b) c)

-- the nodes of the line's expressions, numbered from `base`
abbrev pub nodes_at : ℕ → Written → List SceneExpr
nodes_at base (Single h t) = nodes base t
nodes_at base (Calling kind into a b c) = argument_nodes a ++ (argument_nodes b ++ argument_nodes c)
nodes_at base _ = []

-- how many these are
abbrev pub written_size : Written → ℕ
written_size (Single h t) = size t
written_size (Calling kind into a b c) = argument_size a + argument_size b + argument_size c
written_size _ = 0

-- the numbers after `picks`
abbrev pub picks_in : Written → List ℕ
picks_in (Picked ns) = ns
picks_in _ = []

-- whether a form has no expressions and no picks
abbrev pub is_plain_form : SceneLine → Bool
is_plain_form line.Picks = false
is_plain_form (line.Let x e) = false
is_plain_form (line.Call kind into a b c) = false
is_plain_form (line.Put register e) = false
is_plain_form (line.If e) = false
is_plain_form (line.Repeat e) = false
is_plain_form (line.Spend e) = false
is_plain_form (line.Log e) = false
is_plain_form (line.Return e) = false
is_plain_form _ = true

-- whether an argument is what the table of calls asks for: nothing, a class, or an atom
abbrev pub is_argument : Sort → Argument → Bool
is_argument sort.Absent Missing = true
is_argument sort.Absent _ = false
is_argument (sort.Class k) (OfClass n) = true
is_argument (sort.Class k) _ = false
is_argument _ (Valued a) = is_proper_atom a
is_argument _ _ = false

abbrev pub are_arguments : Signature → Argument → Argument → Argument → Bool
are_arguments row a b c = is_argument row.a a && (is_argument row.b b && is_argument row.c c)

abbrev pub is_filled : List ℕ → Bool
is_filled [] = false
is_filled (n ∷ ns) = true

-- whether a line is one of the language: some picks, parentheses at most 16 deep, and the arguments of the call's row
abbrev pub is_written : Written → Bool
is_written (Plain form) = is_plain_form form
is_written (Picked ns) = is_filled ns
is_written (Single h t) = is_proper t && nat_le (depth t) 16
is_written (Calling kind into a b c) = are_arguments (signature_of kind) a b c

-- a line with its number in the text
pub record WrittenLine : Type 0 where
  pub number : ℕ
  pub written : Written

-- the lines of a scene, and the nodes of their expressions: each node comes once, in the order of the text
abbrev pub lines_at : ℕ → List WrittenLine → List NumberedLine
lines_at base [] = []
lines_at base (w ∷ ws) =
    record { number = w.number; form = line_at base w.written; picks = picks_in w.written } ∷ lines_at (base + written_size w.written) ws

abbrev pub exprs_at : ℕ → List WrittenLine → List SceneExpr
exprs_at base [] = []
exprs_at base (w ∷ ws) = nodes_at base w.written ++ exprs_at (base + written_size w.written) ws

-- the scene of some lines
abbrev pub scene_of : ℕ → List WrittenLine → Scene
scene_of v ws = record { version = v; lines = lines_at 0 ws; exprs = exprs_at 0 ws }

-- each line is one of the language and comes where it may
pub record AreLines (version : ℕ) (ws : List WrittenLine) : Type 0 where
  pub known : (version ≡ 1) ⊎ (version ≡ 2)
  pub written : IsTrue (list_all (λ w. is_written w.written) ws)
  pub whole : IsWhole version (map (λ l. l.form) (lines_at 0 ws))

-- a scene that has a text
pub record IsScene (scene : Scene) : Type 0 where
  pub ws : List WrittenLine
  pub is : scene ≡ scene_of scene.version ws
  pub lines : AreLines scene.version ws
