-- What the lines of a scene say, for the plan written out to be compared with.
use Rattle.std.specs.Prelude.{◌≡◌, ℕ, suc, ◌-◌, Bool, true, false, not, cond, List, [], ◌∷◌, ◌++◌, map, take, drop, Option, Some, None, option_and_then}
use Rattle.std.specs.List.{filter_map}
use Rattle.std.specs.Option.{unwrap_or}
use Rattle.wdf_base.specs.declared.declared.ClassInfo.{ClassInfo}
use Rattle.wdf_base.specs.declared.declared.ClassInfo.TheVariants as class
use Rattle.wdf_base.specs.declared.declared.Declared.{Declared}
use Rattle.wdf_base.specs.declared.declared.DeviceInfo.{DeviceInfo}
use Rattle.wdf_base.specs.declared.declared.QueueInfo.{QueueInfo}
use Rattle.wdf_base.specs.declared.declared.Declared.TheVariants as declared
use Rattle.wdf_base.specs.declared.ids.ObjectId.{ObjectId}
use Rattle.wdf_base.specs.declared.plan.Plan.{Plan}
use Rattle.wdf_base.specs.declared.script.AgentInfo.{AgentInfo}
use Rattle.wdf_base.specs.declared.script.Script.{Script}
use Rattle.wdf_scene.specs.declared.line.NumberedLine.{NumberedLine}
use Rattle.wdf_scene.specs.declared.line.SceneLine.{SceneLine}
use Rattle.wdf_scene.specs.declared.line.SceneLine.TheVariants as line
use Rattle.wdf_scene.specs.declared.scene.Scene.{Scene}
use Rattle.wdf_scene.specs.Naming.{declared_name}
use Rattle.wdf_blocks.specs.declared.placed.Placed.{Placed}
use Rattle.wdf_blocks.specs.declared.attribute.Attribute.TheVariants as attribute
use Rattle.wdf_blocks.specs.Blocks.{depth_after, effective_level, effective_scope, ends_block, form_at, has_given, ticks_in}
use Rattle.wdf_plan.specs.Parts.{serves}
use Rattle.wdf_plan.specs.Flow.{numbered}
use Rattle.wdf_blocks.specs.Forms.{is_app, is_device, is_statement, nodes_end}
use Rattle.wdf_blocks.specs.Placed.{placed}
use Rattle.wdf_blocks.specs.Variables.{variables, variables_at}
use Rattle.law_plan.specs.WrittenOut.{name_text, object_text, post_line, statement_line, node_text, owner_text, script_line}

-- ---- which lines

-- a `when` line
abbrev pub is_when : SceneLine → Bool
is_when (line.When access r a after) = true
is_when _ = false

-- what the Plug and Play manager posts
abbrev pub is_ask : SceneLine → Bool
is_ask (line.AtAsk tick ask d) = true
is_ask _ = false

-- what an app posts
abbrev pub is_app_post : SceneLine → Bool
is_app_post (line.AtRead tick d n) = true
is_app_post (line.AtWrite tick d n) = true
is_app_post (line.AtControl tick d code n) = true
is_app_post (line.AtCancel tick k) = true
is_app_post _ = false

-- what a device posts
abbrev pub is_device_post : SceneLine → Bool
is_device_post (line.At tick a) = true
is_device_post _ = false

-- ---- the lines that pass a test

-- the form of a line that passes
abbrev pub kept_form : (SceneLine → Bool) → SceneLine → Option SceneLine
kept_form test form = cond (test form) (Some form) None

-- a line that passes, with its number
abbrev pub kept_line : (SceneLine → Bool) → ℕ → SceneLine → Option NumberedLine
kept_line test number form = cond (test form) (Some (numbered number form)) None

-- the forms that pass, in the order of the text
abbrev pub forms_that : (SceneLine → Bool) → List NumberedLine → List SceneLine
forms_that test lines = filter_map (λ l. kept_form test l.form) lines

-- the lines that pass, in the order of the text
abbrev pub lines_that : (SceneLine → Bool) → List NumberedLine → List NumberedLine
lines_that test lines = filter_map (λ l. kept_line test l.number l.form) lines

-- the names that lines declare, in the order of the text
abbrev pub names_declared : List NumberedLine → List (List ℕ)
names_declared lines = filter_map (λ l. declared_name l.form) lines

-- ---- blocks

-- the lines up to the `end` of a block in which so many blocks are open
unfoldable pub until_end : ℕ → List NumberedLine → List NumberedLine
until_end depth [] = []
until_end depth (l ∷ ls) =
    cond (ends_block depth l.form) [] (l ∷ until_end (depth_after depth l.form) ls)

-- the lines of the block that line k opens
abbrev pub block_lines : Scene → ℕ → List NumberedLine
block_lines scene k = until_end 0 (drop (suc k) scene.lines)

-- how many nodes the expressions of a line have
abbrev pub node_count : Placed → ℕ
node_count p = nodes_end p.counts.nodes p.form - p.counts.nodes

-- the nodes of a line in the plan, written out with the variables of its callback, are those of the scene
abbrev pub AreNodesTold : Plan → Scene → Placed → Type 0
AreNodesTold plan scene p =
    map (node_text plan (variables_at scene p)) (take (node_count p) (drop p.counts.nodes plan.exprs)) ≡ take (node_count p) (drop p.counts.nodes scene.exprs)

-- ---- periods

-- the ticks of the first `period` line of some lines, 0 where there is none
abbrev pub period_told : List NumberedLine → ℕ
period_told [] = 0
period_told (l ∷ ls) = unwrap_or (ticks_in l.form) (period_told ls)

-- the period of the class of a line is that of its block
abbrev pub IsPeriodTold : Scene → Placed → ClassInfo → Type 0
IsPeriodTold scene p (class.Plain name k) = Unit {0}
IsPeriodTold scene p (class.Deferred name k parent serialize period) =
    period ≡ period_told (block_lines scene p.at)

-- ---- callbacks and agents, one after another

-- the lines with these forms, where they are
abbrev pub placed_that : (SceneLine → Bool) → Scene → List Placed
placed_that test scene = filter_map (λ p. cond (test p.form) (Some p) None) (placed scene)

-- each item has the property
abbrev pub Each : {T : Type 0} → (T → Type 0) → List T → Type 0
Each P [] = Unit {0}
Each P (x ∷ xs) = P x × Each P xs

-- the items of two lists belong together, one by one
abbrev pub Paired : {A B : Type 0} → (A → B → Type 0) → List A → List B → Type 0
Paired R [] [] = Unit {0}
Paired R (a ∷ as') (b ∷ bs) = R a b × Paired R as' bs
Paired R _ _ = ⊥

-- the line of a callback
abbrev pub is_on : SceneLine → Bool
is_on (line.On c) = true
is_on _ = false

-- the name that the line of a block declares
abbrev pub block_name : Scene → Option ℕ → Option (List ℕ)
block_name scene b = option_and_then declared_name (option_and_then (form_at scene) b)

-- the device of an object that is declared in one
abbrev pub device_in : Declared → Option ObjectId
device_in (declared.Queue q) = Some q.device
device_in (declared.Interrupt i) = Some i.device
device_in (declared.Target t) = Some t.device
device_in _ = None

-- the device of an item is the one whose line opened the block of the item's line
abbrev pub IsInDevice : Plan → Scene → Placed → Option ObjectId → Type 0
IsInDevice plan scene p None = Unit {0}
IsInDevice plan scene p (Some d) = block_name scene p.stand.block ≡ Some (object_text plan d)

-- what the lines of its block, of its device's and of the `driver` block give a device or a queue
pub record IsDeviceGiven (scene : Scene) (p : Placed) (d : DeviceInfo) : Type 0 where
  pub scope : d.scope ≡ effective_scope scene p.at None
  pub level : d.level ≡ effective_level scene p.at None

pub record IsQueueGiven (scene : Scene) (p : Placed) (q : QueueInfo) : Type 0 where
  pub serves : q.serves ≡ serves scene p.at
  pub powered : q.powered ≡ not (has_given scene p.at attribute.PowerOff)
  pub zero : q.zero ≡ has_given scene p.at attribute.Zero
  pub scope : q.scope ≡ effective_scope scene p.at p.stand.device
  pub level : q.level ≡ effective_level scene p.at p.stand.device

abbrev pub AreObjectsGiven : Scene → Placed → Declared → Type 0
AreObjectsGiven scene p (declared.Device d) = IsDeviceGiven scene p d
AreObjectsGiven scene p (declared.Queue q) = IsQueueGiven scene p q
AreObjectsGiven scene p _ = Unit {0}

-- what the lines of its block give a class
abbrev pub IsClassGiven : Scene → Placed → ClassInfo → Type 0
IsClassGiven scene p (class.Plain name k) = Unit {0}
IsClassGiven scene p (class.Deferred name k parent serialize period) = serialize ≡ has_given scene p.at attribute.Serialize

-- a callback of the plan is that of an `on` line
pub record IsCallbackTold (plan : Plan) (scene : Scene) (p : Placed) (s : Script) : Type 0 where
  pub on : script_line s ≡ numbered p.number p.form
  -- it is declared on what its block declares
  pub owner : block_name scene p.stand.block ≡ Some (owner_text plan s.owner)
  pub statements : filter_map (statement_line plan (variables scene p.at)) s.statements ≡ lines_that is_statement (block_lines scene p.at)

-- an agent of the plan is an app's or a device's: it has the name of this line, and posts what its block says
pub record IsAgentTold (plan : Plan) (scene : Scene) (posts : SceneLine → Bool) (p : Placed) (a : AgentInfo) : Type 0 where
  pub name : declared_name p.form ≡ Some (name_text plan a.name)
  pub all : map (post_line plan) a.posts ≡ map Some (lines_that posts (block_lines scene p.at))

abbrev pub is_target : SceneLine → Bool
is_target (line.Target n delay status depth) = true
is_target _ = false

-- a target posts by no line
abbrev pub is_no_post : SceneLine → Bool
is_no_post form = false

-- the agents are the apps, the devices and the targets, each sort in the order of its lines
pub record AreAgentsTold (plan : Plan) (scene : Scene) : Type 0 where
  pub apps : List AgentInfo
  pub devices : List AgentInfo
  pub targets : List AgentInfo
  pub are : plan.agents ≡ apps ++ devices ++ targets
  pub app_lines : Paired (IsAgentTold plan scene is_app_post) (placed_that is_app scene) apps
  pub device_lines : Paired (IsAgentTold plan scene is_device_post) (placed_that is_device scene) devices
  pub target_lines : Paired (IsAgentTold plan scene is_no_post) (placed_that is_target scene) targets
