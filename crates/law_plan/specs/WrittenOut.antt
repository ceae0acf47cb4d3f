-- A plan written out again: its lines, with names in place of the numbers of names.
use Rattle.std.specs.Prelude.{ℕ, ◌==◌, cond, List, [], ◌∷◌, Option, Some, None, option_map, option_and_then, slice_get}
use Rattle.std.specs.Option.{unwrap_or}
use Rattle.wdf_base.specs.declared.ids.Irql.{Irql}
use Rattle.wdf_base.specs.declared.ids.ObjectId.{ObjectId}
use Rattle.wdf_base.specs.declared.event.Action.{Action}
use Rattle.wdf_base.specs.declared.event.Action.TheVariants as action
use Rattle.wdf_base.specs.declared.event.Post.{Post}
use Rattle.wdf_base.specs.declared.event.Post.TheVariants as post
use Rattle.wdf_base.specs.declared.declared.ClassInfo.{ClassInfo}
use Rattle.wdf_base.specs.declared.declared.ClassInfo.TheVariants as class
use Rattle.wdf_base.specs.declared.declared.Declared.{Declared}
use Rattle.wdf_base.specs.declared.declared.Declared.TheVariants as declared
use Rattle.wdf_base.specs.declared.declared.PostLine.{PostLine}
use Rattle.wdf_base.specs.declared.declared.RegisterInfo.{RegisterInfo}
use Rattle.wdf_base.specs.declared.declared.WhenLine.{WhenLine}
use Rattle.wdf_base.specs.declared.script.Act.{Act}
use Rattle.wdf_base.specs.declared.script.Act.TheVariants as act
use Rattle.wdf_base.specs.declared.script.ArgNode.{ArgNode}
use Rattle.wdf_base.specs.declared.script.ArgNode.TheVariants as node_arg
use Rattle.wdf_base.specs.declared.script.ExprNode.{ExprNode}
use Rattle.wdf_base.specs.declared.script.ExprNode.TheVariants as node
use Rattle.wdf_base.specs.declared.script.Script.{Script}
use Rattle.wdf_base.specs.declared.script.Statement.{Statement}
use Rattle.wdf_base.specs.declared.plan.Plan.{Plan}
use Rattle.wdf_base.specs.Kinds.{declared_name, class_name}
use Rattle.wdf_base.specs.Plan.{declared_of}
use Rattle.wdf_base.specs.Resolved.{register_name}
use Rattle.wdf_scene.specs.declared.line.InterruptLevel.{InterruptLevel}
use Rattle.wdf_scene.specs.declared.line.InterruptLevel.TheVariants as level
use Rattle.wdf_scene.specs.declared.line.NumberedLine.{NumberedLine}
use Rattle.wdf_scene.specs.declared.line.SceneAction.{SceneAction}
use Rattle.wdf_scene.specs.declared.line.SceneAction.TheVariants as scene_action
use Rattle.wdf_scene.specs.declared.line.SceneArg.{SceneArg}
use Rattle.wdf_scene.specs.declared.line.SceneArg.TheVariants as arg
use Rattle.wdf_scene.specs.declared.line.SceneExpr.{SceneExpr}
use Rattle.wdf_scene.specs.declared.line.SceneExpr.TheVariants as expr
use Rattle.wdf_scene.specs.declared.line.SceneLine.{SceneLine}
use Rattle.wdf_scene.specs.declared.line.SceneLine.TheVariants as line
use Rattle.wdf_plan.specs.Flow.{numbered}

-- ---- names

-- the name with this number; the empty text, which is no name, where there is none
abbrev pub name_text : Plan → ℕ → List ℕ
name_text plan n = unwrap_or (slice_get plan.names n) []

-- the name of the object with this id; `driver`, which no line declares, where there is none
abbrev pub object_text : Plan → ObjectId → List ℕ
object_text plan o =
    name_text plan (unwrap_or (option_and_then declared_name (declared_of plan o.0)) 0)

-- the name of the register with this number
abbrev pub register_text : Plan → ℕ → List ℕ
register_text plan k =
    name_text plan (unwrap_or (option_map register_name (slice_get plan.registers k)) 0)

-- the name of the class with this number
abbrev pub class_text : Plan → ℕ → List ℕ
class_text plan k =
    name_text plan (unwrap_or (option_map class_name (slice_get plan.classes k)) 0)

-- the name of the variable with this number, of these variables
abbrev pub variable_text : List (List ℕ) → ℕ → List ℕ
variable_text variables v = unwrap_or (slice_get variables v) []

-- the name of what a callback is declared on
abbrev pub owner_text : Plan → Declared → List ℕ
owner_text plan (declared.OfClass c) = class_text plan c
owner_text plan d = name_text plan (unwrap_or (declared_name d) 0)

-- ---- the first three lines

abbrev pub head_lines : Plan → List SceneLine
head_lines plan = line.Cpus plan.cpus ∷ line.Limit plan.limit ∷ line.Objects plan.objects ∷ []

-- ---- objects, classes, registers

-- level 0 is that of a passive interrupt
abbrev pub level_text : Irql → InterruptLevel
level_text l = cond (l.0 == 0) level.AtPassive (level.Numbered l.0)

-- the line of an object; the driver object has none
abbrev pub object_line : Plan → Declared → Option SceneLine
object_line plan (declared.Device d) = Some (line.Device (name_text plan d.name) d.working)
object_line plan (declared.Queue q) = Some (line.Queue (name_text plan q.name) q.dispatch)
object_line plan (declared.Interrupt i) =
    Some (line.Interrupt (name_text plan i.name) (level_text i.level))
object_line plan (declared.Target t) =
    Some (line.Target (name_text plan t.name) t.delay t.status t.depth)
object_line plan _ = None

-- the line of a class
abbrev pub class_line : Plan → ClassInfo → SceneLine
class_line plan (class.Plain name k) = line.Class (name_text plan name) k
class_line plan (class.Deferred name k parent serialize period) =
    line.DeferredClass (name_text plan name) k (Some (object_text plan parent))

-- the line of a register
abbrev pub register_line : Plan → RegisterInfo → SceneLine
register_line plan r = line.Register (name_text plan r.name) r.value

-- ---- what devices do, and posts

-- `set REG N`, `raise INT` or `lower INT`
abbrev pub action_text : Plan → Action → SceneAction
action_text plan (action.Set r v) = scene_action.Set (register_text plan r) v
action_text plan (action.Raise i) = scene_action.Raise (object_text plan i.id)
action_text plan (action.Lower i) = scene_action.Lower (object_text plan i.id)

-- a `when` line
abbrev pub when_line : Plan → WhenLine → NumberedLine
when_line plan w =
    numbered w.line (line.When w.access (register_text plan w.register) (action_text plan w.action) w.after)

-- the form of a post; what a target is done with is no line
abbrev pub post_form : Plan → ℕ → Post → Option SceneLine
post_form plan tick (post.Read d n) = Some (line.AtRead tick (object_text plan d.id) n)
post_form plan tick (post.Write d n) = Some (line.AtWrite tick (object_text plan d.id) n)
post_form plan tick (post.Control d code n) =
    Some (line.AtControl tick (object_text plan d.id) code n)
post_form plan tick (post.Cancel k) = Some (line.AtCancel tick k)
post_form plan tick (post.Ask ask d) = Some (line.AtAsk tick ask (object_text plan d.id))
post_form plan tick (post.Act a) = Some (line.At tick (action_text plan a))
post_form plan tick (post.Done r s) = None

-- a line with `at`
abbrev pub post_line : Plan → PostLine → Option NumberedLine
post_line plan p = option_map (numbered p.line) (post_form plan p.tick p.post)

-- ---- statements and expressions

-- an argument of a call
abbrev pub argument_text : Plan → ArgNode → SceneArg
argument_text plan node_arg.NoArgument = arg.NoArgument
argument_text plan (node_arg.Expression e) = arg.Expression e
argument_text plan (node_arg.OfClass c) = arg.OfClass (class_text plan c)

-- the form of a statement in a callback with these variables; the end of a `repeat` is no line of its own
abbrev pub act_form : Plan → List (List ℕ) → Act → Option SceneLine
act_form plan variables (act.Let v e) = Some (line.Let (variable_text variables v) e)
act_form plan variables (act.Call k into a b c) =
    Some (line.Call k (option_map (variable_text variables) into) (argument_text plan a) (argument_text plan b) (argument_text plan c))
act_form plan variables (act.Get v r) =
    Some (line.Get (variable_text variables v) (register_text plan r))
act_form plan variables (act.Put r e) = Some (line.Put (register_text plan r) e)
act_form plan variables (act.If e otherwise) = Some (line.If e)
act_form plan variables (act.Repeat e depth past) = Some (line.Repeat e)
act_form plan variables (act.Again depth body) = None
act_form plan variables (act.Spend e) = Some (line.Spend e)
act_form plan variables (act.Log e) = Some (line.Log e)
act_form plan variables (act.Return e) = Some (line.Return e)

-- the line of a statement
abbrev pub statement_line : Plan → List (List ℕ) → Statement → Option NumberedLine
statement_line plan variables s = option_map (numbered s.line) (act_form plan variables s.act)

-- a node of an expression in a callback with these variables
abbrev pub node_text : Plan → List (List ℕ) → ExprNode → SceneExpr
node_text plan variables (node.Number n) = expr.Number n
node_text plan variables (node.Variable v) = expr.Named (variable_text variables v)
node_text plan variables (node.Object h) = expr.Named (object_text plan h.id)
node_text plan variables (node.Literal s) = expr.Literal s
node_text plan variables (node.Context w) = expr.Context w
node_text plan variables (node.Binary op l r) = expr.Binary op l r

-- the `on` line of a callback
abbrev pub script_line : Script → NumberedLine
script_line s = numbered s.line (line.On s.callback)
