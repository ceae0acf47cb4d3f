-- What a reading function leaves in the scene that it fills.
use Rattle.std.specs.Prelude.{◌≡◌, ℕ, ◌+◌, List, [], ◌++◌, length, Option, Some, None, map}
use Rattle.wdf_scene.specs.declared.line.SceneArg.{SceneArg}
use Rattle.wdf_scene.specs.declared.line.SceneExpr.{SceneExpr}
use Rattle.wdf_scene.specs.declared.line.SceneLine.{SceneLine}
use Rattle.wdf_scene.specs.declared.line.SceneLine.TheVariants as line
use Rattle.wdf_scene.specs.declared.scene.Scene.{Scene}
use Rattle.wdf_scene.specs.Written.{Tree, Argument, Written, root, nodes, numbered_argument, argument_nodes, line_at, nodes_at, picks_in}
use Rattle.wdf_tokens.specs.declared.token.Token.{Token}
use Rattle.wdf_scene_lines.specs.declared.statements.Form.{Form}
use Rattle.wdf_scene_lines.specs.declared.statements.Form.TheVariants as form
use Rattle.wdf_scene_lines.specs.Reading.{TreeReading, NoTree, TreeBefore, ArgumentReading, NoArgument, ArgumentBefore, number_in}

-- the scene with some nodes more
abbrev pub with_nodes : Scene → List SceneExpr → Scene
with_nodes s ns = record s { exprs = s.exprs ++ ns }

-- the number of the next node
abbrev pub next_node : Scene → ℕ
next_node s = length s.exprs

-- an expression is read: its number, its nodes, and the tokens that are left
pub record BuildsTree (t : Tree) (rest : List Token) (e : ℕ) (left : List Token) (old new : Scene) : Type 0 where
  pub left_is : left ≡ rest
  pub number : e ≡ root (next_node old) t
  pub built : new ≡ with_nodes old (nodes (next_node old) t)

-- an answer says what is read, or that nothing is
abbrev pub IsTreeRead : TreeReading → Option ℕ → List Token → Scene → Scene → Type 0
IsTreeRead NoTree None left old new = Unit {0}
IsTreeRead (TreeBefore t rest) (Some e) left old new = BuildsTree t rest e left old new
IsTreeRead NoTree (Some e) left old new = ⊥
IsTreeRead (TreeBefore t rest) None left old new = ⊥

-- an argument is read
pub record BuildsArgument (a : Argument) (rest : List Token) (x : SceneArg) (left : List Token) (old new : Scene) : Type 0 where
  pub left_is : left ≡ rest
  pub number : x ≡ numbered_argument (next_node old) a
  pub built : new ≡ with_nodes old (argument_nodes a)

abbrev pub IsArgumentRead : ArgumentReading → Option SceneArg → List Token → Scene → Scene → Type 0
IsArgumentRead NoArgument None left old new = Unit {0}
IsArgumentRead (ArgumentBefore a rest) (Some x) left old new = BuildsArgument a rest x left old new
IsArgumentRead NoArgument (Some x) left old new = ⊥
IsArgumentRead (ArgumentBefore a rest) None left old new = ⊥

-- a line without picks is read
pub record BuildsLine (w : Written) (l : SceneLine) (old new : Scene) : Type 0 where
  pub form_is : l ≡ line_at (next_node old) w
  pub unpicked : picks_in w ≡ []
  pub built : new ≡ with_nodes old (nodes_at (next_node old) w)

abbrev pub IsLineRead : Option Written → Option SceneLine → Scene → Scene → Type 0
IsLineRead None None old new = Unit {0}
IsLineRead (Some w) (Some l) old new = BuildsLine w l old new
IsLineRead None (Some l) old new = ⊥
IsLineRead (Some w) None old new = ⊥

-- the line of a form
abbrev pub form_line : Form → SceneLine
form_line (form.Line l) = l
form_line form.Picked = line.Picks

-- its picks, where these tokens come after the first word
abbrev pub form_picks : Form → List Token → List ℕ
form_picks (form.Line l) ts = []
form_picks form.Picked ts = map number_in ts

-- a line is read, whose tokens after the first word may be picks
pub record BuildsForm (w : Written) (f : Form) (ts : List Token) (old new : Scene) : Type 0 where
  pub line_is : form_line f ≡ line_at (next_node old) w
  pub picks_are : picks_in w ≡ form_picks f ts
  pub built : new ≡ with_nodes old (nodes_at (next_node old) w)

abbrev pub IsFormRead : Option Written → Option Form → List Token → Scene → Scene → Type 0
IsFormRead None None ts old new = Unit {0}
IsFormRead (Some w) (Some f) ts old new = BuildsForm w f ts old new
IsFormRead None (Some f) ts old new = ⊥
IsFormRead (Some w) None ts old new = ⊥
