-- The numbers of a plan fit the types that it has for them: 8, 16 or 32 bits.
use Rattle.std.specs.Prelude.{◌≡◌, ℕ, ◌<◌, ◌^◌, List, length, Option, Some, None}
use Rattle.wdf_base.specs.declared.declared.Declared.{Declared}
use Rattle.wdf_base.specs.declared.declared.Declared.TheVariants as declared
use Rattle.wdf_base.specs.declared.script.Act.{Act}
use Rattle.wdf_base.specs.declared.script.Act.TheVariants as act
use Rattle.wdf_base.specs.declared.script.ArgNode.{ArgNode}
use Rattle.wdf_base.specs.declared.script.ArgNode.TheVariants as node_arg
use Rattle.wdf_base.specs.declared.script.ExprNode.{ExprNode}
use Rattle.wdf_base.specs.declared.script.ExprNode.TheVariants as node
use Rattle.wdf_base.specs.declared.script.Script.{Script}
use Rattle.wdf_base.specs.declared.script.Statement.{Statement}
use Rattle.wdf_scene.specs.declared.scene.Scene.{Scene}
use Rattle.wdf_scene.specs.Written.{IsScene}
use Rattle.wdf_blocks.specs.declared.declaration.Declaration.{Declaration}
use Rattle.wdf_blocks.specs.Declarations.{declarations}
use Rattle.wdf_refusals.specs.First.{first_refusal}
use Rattle.wdf_refusals.specs.Numbered.{Every}

-- ---- objects

-- the level of an interrupt, and the number of a class
abbrev pub IsFitDeclared : Declared → Type 0
IsFitDeclared (declared.Interrupt i) = i.level.0 < 2 ^ 8
IsFitDeclared (declared.OfClass c) = c < 2 ^ 16
IsFitDeclared _ = Unit {0}

-- ---- expressions and statements

-- the number of a variable
abbrev pub IsFitNode : ExprNode → Type 0
IsFitNode (node.Variable v) = v < 2 ^ 8
IsFitNode _ = Unit {0}

abbrev pub IsFitPlace : Option ℕ → Type 0
IsFitPlace None = Unit {0}
IsFitPlace (Some v) = v < 2 ^ 8

-- the number of a class
abbrev pub IsFitArgument : ArgNode → Type 0
IsFitArgument (node_arg.OfClass c) = c < 2 ^ 16
IsFitArgument _ = Unit {0}

-- the numbers of variables, classes and statements, and how many `repeat` are open
abbrev pub IsFitAct : Act → Type 0
IsFitAct (act.Let v e) = v < 2 ^ 8
IsFitAct (act.Call k into a b c) = IsFitPlace into × IsFitArgument a × IsFitArgument b × IsFitArgument c
IsFitAct (act.Get v r) = v < 2 ^ 8
IsFitAct (act.If e otherwise) = otherwise < 2 ^ 32
IsFitAct (act.Repeat e depth past) = (depth < 2 ^ 8) × (past < 2 ^ 32)
IsFitAct (act.Again depth body) = (depth < 2 ^ 8) × (body < 2 ^ 32)
IsFitAct _ = Unit {0}

pub record IsFitStatement (s : Statement) : Type 0 where
  pub next : s.next < 2 ^ 32
  pub act' : IsFitAct s.act

pub record IsFitScript (s : Script) : Type 0 where
  pub owner : IsFitDeclared s.owner
  pub statements : Every IsFitStatement s.statements
  -- the number of each statement
  pub few : length s.statements < 2 ^ 32

-- ---- the whole

-- a scene that has a text and in which nothing is refused, with its declarations
pub record CanPlan (scene : Scene) (names : List Declaration) : Type 0 where
  pub text : IsScene scene
  pub own : names ≡ declarations scene
  pub accepted : first_refusal scene ≡ None
  -- as the types of the scene's lists say
  pub few_lines : length scene.lines < 2 ^ 32
  pub few_nodes : length scene.exprs < 2 ^ 32
