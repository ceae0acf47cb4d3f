-- The statements of a callback as a tree, and the number of the statement to which each goes on.
use Rattle.std.specs.Prelude.{◌≡◌, Bool, not, ℕ, suc, ◌+◌, ◌&&◌, List, [], ◌∷◌, ◌++◌, drop, Option, option_map, IsTrue}
use Rattle.std.specs.List.{cons_option}
use Rattle.wdf_base.specs.declared.script.Act.TheVariants as act
use Rattle.wdf_base.specs.declared.script.Statement.{Statement}
use Rattle.wdf_scene.specs.declared.line.NumberedLine.{NumberedLine}
use Rattle.wdf_scene.specs.declared.line.SceneLine.{SceneLine}
use Rattle.wdf_scene.specs.declared.line.SceneLine.TheVariants as line
use Rattle.wdf_scene.specs.declared.scene.Scene.{Scene}
use Rattle.wdf_blocks.specs.declared.declaration.Declaration.{Declaration}
use Rattle.wdf_blocks.specs.Forms.{opens, is_statement}
use Rattle.wdf_plan.specs.Scripts.{plain_act, statements_of}
use Rattle.wdf_blocks.specs.Variables.{variables}

-- ---- trees

-- an `if` or a `repeat`: the number of its line in the text, and the number of its expression
pub record Opening : Type 0 where
  pub line : ℕ
  pub expression : ℕ

-- a statement that opens no block
abbrev pub is_plain : SceneLine → Bool
is_plain form = is_statement form && not (opens form)

-- statements in a row: none, or one and, last, those after it. An `else` and an `end` are there as their lines' numbers
pub data Body : Type 0 where
  Empty : Body
  -- a statement that opens no block, with its line
  Plain : (l : NumberedLine) → IsTrue (is_plain l.form) → Body → Body
  -- an `if` with no `else`: its branch and its `end`
  If : Opening → Body → ℕ → Body → Body
  -- an `if` with an `else`: the first branch, the `else`, the second branch and the `end`
  IfElse : Opening → Body → ℕ → Body → ℕ → Body → Body
  -- a `repeat`: what it repeats, and its `end`
  Repeat : Opening → Body → ℕ → Body → Body

-- a line with this number
abbrev pub numbered : ℕ → SceneLine → NumberedLine
numbered n form = record { number = n; form = form; picks = [] }

-- the lines that spell a body
unfoldable pub lines_of : Body → List NumberedLine
lines_of Empty = []
lines_of (Plain l is rest) = l ∷ lines_of rest
lines_of (If h branch closing rest) =
    numbered h.line (line.If h.expression) ∷ (lines_of branch ++ numbered closing line.End ∷ lines_of rest)
lines_of (IfElse h first middle second closing rest) =
    numbered h.line (line.If h.expression) ∷ (lines_of first ++ numbered middle line.Else ∷ (lines_of second ++ numbered closing line.End ∷ lines_of rest))
lines_of (Repeat h body closing rest) =
    numbered h.line (line.Repeat h.expression) ∷ (lines_of body ++ numbered closing line.End ∷ lines_of rest)

-- ---- numbers

-- how many statements a body has: a `repeat` has one more at its end, which goes back to the start of what it repeats
unfoldable pub size : Body → ℕ
size Empty = 0
size (Plain l is rest) = 1 + size rest
size (If h branch closing rest) = 1 + size branch + size rest
size (IfElse h first middle second closing rest) = 1 + size first + size second + size rest
size (Repeat h body closing rest) = 2 + size body + size rest

-- where the way leads into a body whose first statement would have number `start`: a body with none leads to what is after it
abbrev pub entry : Body → ℕ → ℕ → ℕ
entry Empty start after = after
entry _ start after = start

-- ---- statements

-- a statement that opens no block, and goes on to `next`
abbrev pub plain_statement : List Declaration → List (List ℕ) → NumberedLine → ℕ → Option Statement
plain_statement names variables l next =
    option_map (λ a. record { line = l.number; next = next; act = a }) (plain_act names variables l.form)

-- the statements of a body that is in `depth` loops, where its first has number `start` and its last goes on to `after`
unfoldable pub flow : List Declaration → List (List ℕ) → ℕ → ℕ → ℕ → Body → List Statement
flow names variables depth start after Empty = []
flow names variables depth start after (Plain l is rest) =
    cons_option (plain_statement names variables l (entry rest (start + 1) after)) (flow names variables depth (start + 1) after rest)
-- an `if` goes on to its branch or, where the test fails, to what is after; so does the branch
flow names variables depth start after (If h branch closing rest) =
    let following = start + 1 + size branch in
    let next = entry rest following after in
    record { line = h.line; next = entry branch (start + 1) next; act = act.If h.expression next }
    ∷ (flow names variables depth (start + 1) next branch ++ flow names variables depth following after rest)
-- with an `else` it goes on to one of two branches, and both go on to what is after
flow names variables depth start after (IfElse h first middle second closing rest) =
    let other = start + 1 + size first in
    let following = other + size second in
    let next = entry rest following after in
    record { line = h.line; next = entry first (start + 1) next; act = act.If h.expression (entry second other next) }
    ∷ (flow names variables depth (start + 1) next first ++ (flow names variables depth other next second ++ flow names variables depth following after rest))
-- a `repeat` goes on to its body, or past it; the body goes on to the statement `again`, and that to the body's start, or past it
flow names variables depth start after (Repeat h body closing rest) =
    let again = start + 1 + size body in
    let next = entry rest (again + 1) after in
    record { line = h.line; next = start + 1; act = act.Repeat h.expression depth next }
    ∷ (flow names variables (depth + 1) (start + 1) again body ++ record { line = h.line; next = next; act = act.Again depth (start + 1) } ∷ flow names variables depth (again + 1) after rest)

-- ---- callbacks

-- line k begins a callback: after it come the lines of a body and an `end`, and the callback's statements are the body's
pub record HasTree (scene : Scene) (k : ℕ) : Type 0 where
  pub body : Body
  pub closing : ℕ
  pub lines_after : List NumberedLine
  pub spelled : drop (suc k) scene.lines ≡ lines_of body ++ numbered closing line.End ∷ lines_after
  pub statements : (names : List Declaration) → statements_of scene names k ≡ flow names (variables scene k) 0 0 (size body) body
