-- Expressions and statements with numbers.
use Rattle.std.specs.Prelude.{◌≡◌, Bool, true, false, ℕ, suc, ◌+◌, ◌-◌, ◌==◌, ◌&&◌, ◌≤◌, nat_lt, cond, List, [], ◌∷◌, ◌++◌, length, map, take, drop, count_by, Option, Some, None, option_map, slice_get}
use Rattle.std.specs.Option.{unwrap_or}
use Rattle.std.specs.List.{cons_option}
use Rattle.wdf_base.specs.declared.declared.Declared.{Declared}
use Rattle.wdf_base.specs.declared.declared.Declared.TheVariants as declared
use Rattle.wdf_base.specs.declared.script.Act.{Act}
use Rattle.wdf_base.specs.declared.script.Act.TheVariants as act
use Rattle.wdf_base.specs.declared.script.ArgNode.{ArgNode}
use Rattle.wdf_base.specs.declared.script.ArgNode.TheVariants as node_arg
use Rattle.wdf_base.specs.declared.script.ExprNode.{ExprNode}
use Rattle.wdf_base.specs.declared.script.ExprNode.TheVariants as node
use Rattle.wdf_base.specs.declared.script.Script.{Script}
use Rattle.wdf_base.specs.declared.script.Statement.{Statement}
use Rattle.wdf_base.specs.declared.signature.Sort.{Sort}
use Rattle.wdf_base.specs.declared.signature.Sort.TheVariants as sort
use Rattle.wdf_base.specs.Calls.{signature_of}
use Rattle.wdf_base.specs.Kinds.{plain_kind, deferred_kind}
use Rattle.wdf_scene.specs.declared.line.NumberedLine.{NumberedLine}
use Rattle.wdf_scene.specs.declared.line.SceneArg.{SceneArg}
use Rattle.wdf_scene.specs.declared.line.SceneArg.TheVariants as arg
use Rattle.wdf_scene.specs.declared.line.SceneExpr.{SceneExpr}
use Rattle.wdf_scene.specs.declared.line.SceneExpr.TheVariants as expr
use Rattle.wdf_scene.specs.declared.line.SceneLine.{SceneLine}
use Rattle.wdf_scene.specs.declared.line.SceneLine.TheVariants as line
use Rattle.wdf_scene.specs.declared.scene.Scene.{Scene}
use Rattle.wdf_blocks.specs.declared.declaration.Declaration.{Declaration}
use Rattle.wdf_blocks.specs.declared.declaration.Wanted.TheVariants as wanted
use Rattle.wdf_plan.specs.declared.course.Course.{Course}
use Rattle.wdf_plan.specs.declared.course.Detour.{Detour}
use Rattle.wdf_plan.specs.declared.course.Nest.{Nest}
use Rattle.wdf_plan.specs.declared.course.Nest.TheVariants as nest
use Rattle.wdf_blocks.specs.declared.placed.Placed.{Placed}
use Rattle.wdf_blocks.specs.Blocks.{form_at}
use Rattle.wdf_blocks.specs.Forms.{opens, is_end}
use Rattle.wdf_refusals.specs.Numbers.{number_of, handle_of}
use Rattle.wdf_plan.specs.Parts.{object_of}
use Rattle.wdf_refusals.specs.Rows.{nodes_of}
use Rattle.wdf_blocks.specs.Variables.{variable_number, variables, variables_at}

-- ---- expressions

-- a variable, or else a declared object
abbrev pub named_node : List Declaration → List ℕ → Option ℕ → ExprNode
named_node names n None = node.Object (handle_of names n wanted.Object)
named_node names n (Some v) = node.Variable v

unfoldable pub node_of : List Declaration → List (List ℕ) → SceneExpr → ExprNode
node_of names variables (expr.Number n) = node.Number n
node_of names variables (expr.Named n) = named_node names n (variable_number variables n)
node_of names variables (expr.Literal s) = node.Literal s
node_of names variables (expr.Context w) = node.Context w
node_of names variables (expr.Binary op l r) = node.Binary op l r

-- the nodes of a line's expressions
unfoldable pub nodes_on : Scene → List Declaration → Placed → List ExprNode
nodes_on scene names p = map (node_of names (variables_at scene p)) (nodes_of scene p)

-- ---- the way through the statements of a callback

unfoldable pub is_else : SceneLine → Bool
is_else line.Else = true
is_else _ = false

-- how many statements a line that is passed over has: a `repeat` has one more at its end
unfoldable pub statements_in : SceneLine → ℕ
statements_in (line.Let x e) = 1
statements_in (line.Call k into a b c) = 1
statements_in (line.Get x r) = 1
statements_in (line.Put r e) = 1
statements_in (line.If e) = 1
statements_in (line.Repeat e) = 2
statements_in (line.Spend e) = 1
statements_in (line.Log e) = 1
statements_in (line.Return e) = 1
statements_in _ = 0

-- the open block that is left after so many inner ones; the innermost is the last
abbrev pub nest_at : List Nest → ℕ → Option Nest
nest_at blocks left =
    cond (nat_lt left (length blocks)) (slice_get blocks (length blocks - suc left)) None

abbrev pub is_branch : Option Nest → Bool
is_branch (Some nest.Branch) = true
is_branch _ = false

-- how much further a way may be after one line more
pub record IsNear (way next : Course) : Type 0 where
  pub left : next.left ≤ way.left + 1
  pub skipping : next.skipping ≤ way.skipping + 1
  pub number : next.number ≤ way.number + 2

-- on the way to the next statement: an `end` of an `if` is nothing, and from a first branch the way leads past the `else`
abbrev pub going : List Nest → Course → SceneLine → Option Course
going blocks s form =
    cond (is_end form) (cond (is_branch (nest_at blocks s.left)) (Some (record s { left = s.left + 1 })) None)
    (cond (is_else form) (Some (record s { skipping = 1 })) None)

-- past the lines of a block, to its `end`, or to its `else`
abbrev pub skipping : Course → SceneLine → Course
skipping s form =
    cond (is_end form) (record s { skipping = s.skipping - 1; left = cond (s.skipping == 1) (s.left + 1) s.left })
    (cond (is_else form && (s.skipping == 1)) (record s { skipping = 0 })
    (record s { skipping = cond (opens form) (s.skipping + 1) s.skipping; number = s.number + statements_in form }))

-- the way goes on past a line, or ends before it
unfoldable pub passed : List Nest → Course → SceneLine → Option Course
passed blocks s form = cond (s.skipping == 0) (going blocks s form) (Some (skipping s form))

-- the number of the statement to which the way through these lines leads; the number of statements stands for the end
unfoldable pub reach : List Nest → Course → List NumberedLine → ℕ
reach blocks s [] = s.number
reach blocks s (l ∷ ls) =
    elim (passed blocks s l.form) as (λ _. ℕ) [ None ↦ s.number | Some t ↦ reach blocks t ls ]

-- from the end of a statement on, where the next one has this number
abbrev pub onward : List Nest → ℕ → List NumberedLine → ℕ
onward blocks n rest = reach blocks (record { skipping = 0; left = 0; number = n }) rest

-- past the rest of the innermost block, or of its first branch
abbrev pub beyond : List Nest → ℕ → List NumberedLine → ℕ
beyond blocks n rest = reach blocks (record { skipping = 1; left = 0; number = n }) rest

-- ---- ways that are kept

-- the way from the end of the first branch of a block on, where that way leads
abbrev pub IsDetour : List Nest → List NumberedLine → Detour → Type 0
IsDetour blocks lines d = d.leads ≡ onward blocks d.number (drop d.at lines)

-- each open block from the k-th on, from the outermost inwards, has its own
abbrev pub AreDetours : ℕ → List Nest → List NumberedLine → List Detour → Type 0
AreDetours k blocks lines [] = Unit {0}
AreDetours k blocks lines (d ∷ ds) =
    IsDetour (take (suc k) blocks) lines d × AreDetours (suc k) blocks lines ds

-- the end of a way that is at this line, if it is one that is kept
abbrev pub known_end : Course → ℕ → Option Detour → Option ℕ
known_end way at None = None
known_end way at (Some d) =
    cond ((d.at == at) && (d.number == way.number)) (Some d.leads) None

unfoldable pub shortcut : List Nest → List Detour → Course → ℕ → Option ℕ
shortcut blocks detours way at =
    cond ((way.skipping == 0) && nat_lt way.left (length blocks)) (known_end way at (slice_get detours (length blocks - suc way.left))) None

-- ---- statements

-- the number of a variable
unfoldable pub variable_of : List (List ℕ) → List ℕ → ℕ
variable_of variables n = unwrap_or (variable_number variables n) 0

abbrev pub answer_place : List (List ℕ) → Option (List ℕ) → Option ℕ
answer_place variables None = None
answer_place variables (Some n) = Some (variable_of variables n)

-- the number of the class that a call names
unfoldable pub class_number : List Declaration → Sort → List ℕ → ℕ
class_number names (sort.Class k) n = number_of names n (wanted.ClassOf k)
class_number names _ n = 0

unfoldable pub argument_of : List Declaration → Sort → SceneArg → ArgNode
argument_of names s arg.NoArgument = node_arg.NoArgument
argument_of names s (arg.Expression e) = node_arg.Expression e
argument_of names s (arg.OfClass n) = node_arg.OfClass (class_number names s n)

-- what a statement does that opens no block
unfoldable pub plain_act : List Declaration → List (List ℕ) → SceneLine → Option Act
plain_act names variables (line.Let x e) = Some (act.Let (variable_of variables x) e)
plain_act names variables (line.Call k into a b c) =
    Some (act.Call k (answer_place variables into) (argument_of names (signature_of k).a a) (argument_of names (signature_of k).b b) (argument_of names (signature_of k).c c))
plain_act names variables (line.Get x r) =
    Some (act.Get (variable_of variables x) (number_of names r wanted.Register))
plain_act names variables (line.Put r e) = Some (act.Put (number_of names r wanted.Register) e)
plain_act names variables (line.Spend e) = Some (act.Spend e)
plain_act names variables (line.Log e) = Some (act.Log e)
plain_act names variables (line.Return e) = Some (act.Return e)
plain_act names variables _ = None

abbrev pub is_loop : Nest → Bool
is_loop nest.Branch = false
is_loop (nest.Loop line number) = true

-- how many `repeat` are open
unfoldable pub loops : List Nest → ℕ
loops blocks = count_by is_loop blocks

-- without the innermost block
abbrev pub outer : List Nest → List Nest
outer blocks = take (length blocks - 1) blocks

-- the end of a `repeat` goes to the statement after it again
abbrev pub again : List Nest → Option Nest → Option Act
again blocks (Some (nest.Loop line number)) = Some (act.Again (loops (outer blocks)) (number + 1))
again blocks _ = None

-- the open blocks after a line, whose statement would have this number
unfoldable pub nests_after : List Nest → ℕ → ℕ → SceneLine → List Nest
nests_after blocks n number (line.If e) = blocks ++ nest.Branch ∷ []
nests_after blocks n number (line.Repeat e) = blocks ++ nest.Loop number n ∷ []
nests_after blocks n number line.End = outer blocks
nests_after blocks n number _ = blocks

-- what the statement with number n does, where these blocks are open before its line and after it, and these lines follow
unfoldable pub act_on : List Declaration → List (List ℕ) → List Nest → List Nest → ℕ → SceneLine → List NumberedLine → Option Act
act_on names variables blocks after n (line.If e) rest =
    Some (act.If e (beyond after (n + 1) rest))
act_on names variables blocks after n (line.Repeat e) rest =
    Some (act.Repeat e (loops blocks) (beyond after (n + 2) rest))
act_on names variables blocks after n line.End rest = again blocks (nest_at blocks 0)
act_on names variables blocks after n form rest = plain_act names variables form

-- the line of the text that a statement gives: the end of a `repeat` gives the `repeat`
abbrev pub loop_line : ℕ → Option Nest → ℕ
loop_line number (Some (nest.Loop own n)) = own
loop_line number _ = number

unfoldable pub told_line : List Nest → ℕ → SceneLine → ℕ
told_line blocks number form = cond (is_end form) (loop_line number (nest_at blocks 0)) number

-- the statement of a line, if it has one
unfoldable pub statement_on : List Declaration → List (List ℕ) → List Nest → List Nest → ℕ → NumberedLine → List NumberedLine → Option Statement
statement_on names variables blocks after n l rest =
    option_map (λ a. record {
      line = told_line blocks l.number l.form;
      next = onward after (n + 1) rest;
      act = a;
    }) (act_on names variables blocks after n l.form rest)

-- the statement of a line, with the blocks that are open after it
abbrev pub statement_at : List Declaration → List (List ℕ) → List Nest → ℕ → NumberedLine → List NumberedLine → Option Statement
statement_at names variables blocks n l rest =
    statement_on names variables blocks (nests_after blocks n l.number l.form) n l rest

-- one more, if there is a statement
abbrev pub number_after : ℕ → Option Statement → ℕ
number_after n None = n
number_after n (Some s) = n + 1

-- the line ends the callback
abbrev pub ends_callback : List Nest → SceneLine → Bool
ends_callback blocks form = is_end form && (length blocks == 0)

-- the statements of the lines of a callback from one on, of which the first gets number n
unfoldable pub statements_from : List Declaration → List (List ℕ) → List Nest → ℕ → List NumberedLine → List Statement
statements_from names variables blocks n [] = []
statements_from names variables blocks n (l ∷ ls) =
    cond (ends_callback blocks l.form) []
    (cons_option (statement_at names variables blocks n l ls) (statements_from names variables (nests_after blocks n l.number l.form) (number_after n (statement_at names variables blocks n l ls)) ls))

-- the statements of the callback that line k begins
unfoldable pub statements_of : Scene → List Declaration → ℕ → List Statement
statements_of scene names k =
    statements_from names (variables scene k) [] 0 (drop (suc k) scene.lines)

-- ---- scripts

-- what a block's callbacks are declared on
unfoldable pub block_owner : Scene → List Declaration → Placed → ℕ → SceneLine → Option Declared
block_owner scene names p b (line.Class n k) =
    Some (declared.OfClass (number_of names n (wanted.ClassOf (plain_kind k))))
block_owner scene names p b (line.DeferredClass n k parent) =
    Some (declared.OfClass (number_of names n (wanted.ClassOf (deferred_kind k))))
block_owner scene names p b form = object_of scene names p b form

abbrev pub owner_in : Scene → List Declaration → Placed → ℕ → Option SceneLine → Option Declared
owner_in scene names p b None = None
owner_in scene names p b (Some form) = block_owner scene names p b form

unfoldable pub owner_of : Scene → List Declaration → Placed → Option ℕ → Option Declared
owner_of scene names p None = None
owner_of scene names p (Some b) = owner_in scene names p b (form_at scene b)

-- the script of the callback that a line begins
unfoldable pub script_on : Scene → List Declaration → Placed → SceneLine → Option Script
script_on scene names p (line.On c) =
    option_map (λ o. record {
      callback = c;
      owner = o;
      line = p.number;
      statements = statements_of scene names p.at;
    }) (owner_of scene names p p.stand.block)
script_on scene names p _ = None
