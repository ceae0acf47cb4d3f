-- What the forms of lines are, and which names and expressions are in them.
use Rattle.std.specs.Prelude.{Bool, true, false, ℕ, suc, List, Option, Some, None}
use Rattle.std.specs.Option.{is_some}
use Rattle.wdf_base.specs.declared.object.Kind.{Kind}
use Rattle.wdf_base.specs.declared.object.Kind.TheVariants as kind
use Rattle.wdf_base.specs.Kinds.{plain_kind, deferred_kind}
use Rattle.wdf_scene.specs.declared.line.SceneArg.{SceneArg}
use Rattle.wdf_scene.specs.declared.line.SceneArg.TheVariants as arg
use Rattle.wdf_scene.specs.declared.line.SceneLine.{SceneLine}
use Rattle.wdf_scene.specs.declared.line.SceneLine.TheVariants as line
use Rattle.wdf_scene.specs.Blocks.{opened}

-- the line opens a block
unfoldable pub opens : SceneLine → Bool
opens form = is_some (opened form)

-- the line closes a block
unfoldable pub is_end : SceneLine → Bool
is_end line.End = true
is_end _ = false

unfoldable pub is_driver : SceneLine → Bool
is_driver line.Driver = true
is_driver _ = false

unfoldable pub is_device : SceneLine → Bool
is_device (line.Device n working) = true
is_device _ = false

unfoldable pub is_app : SceneLine → Bool
is_app (line.App n) = true
is_app _ = false

unfoldable pub is_register : SceneLine → Bool
is_register (line.Register n v) = true
is_register _ = false

unfoldable pub is_class : SceneLine → Bool
is_class (line.Class n k) = true
is_class (line.DeferredClass n k parent) = true
is_class _ = false

-- a declared object
unfoldable pub is_object : SceneLine → Bool
is_object (line.Device n working) = true
is_object (line.Queue n dispatch) = true
is_object (line.Interrupt n level) = true
is_object (line.Target n delay status depth) = true
is_object _ = false

-- a statement that counts
unfoldable pub is_statement : SceneLine → Bool
is_statement (line.Let x e) = true
is_statement (line.Call k into a b c) = true
is_statement (line.Get x r) = true
is_statement (line.Put r e) = true
is_statement (line.If e) = true
is_statement (line.Repeat e) = true
is_statement (line.Spend e) = true
is_statement (line.Log e) = true
is_statement (line.Return e) = true
is_statement _ = false

-- a line with `at`
unfoldable pub is_post : SceneLine → Bool
is_post (line.At tick action) = true
is_post (line.AtRead tick d n) = true
is_post (line.AtWrite tick d n) = true
is_post (line.AtControl tick d code n) = true
is_post (line.AtCancel tick k) = true
is_post (line.AtAsk tick ask d) = true
is_post _ = false

-- the variable that the line assigns
unfoldable pub assigned_name : SceneLine → Option (List ℕ)
assigned_name (line.Let x e) = Some x
assigned_name (line.Call k into a b c) = into
assigned_name (line.Get x r) = Some x
assigned_name _ = None

-- the nodes that end after an argument, where n come before it
unfoldable pub nodes_after : ℕ → SceneArg → ℕ
nodes_after n (arg.Expression e) = suc e
nodes_after n _ = n

-- how many nodes there are up to the end of the line, where n come before it
unfoldable pub nodes_end : ℕ → SceneLine → ℕ
nodes_end n (line.Let x e) = suc e
nodes_end n (line.Call k into a b c) = nodes_after (nodes_after (nodes_after n a) b) c
nodes_end n (line.Put r e) = suc e
nodes_end n (line.If e) = suc e
nodes_end n (line.Repeat e) = suc e
nodes_end n (line.Spend e) = suc e
nodes_end n (line.Log e) = suc e
nodes_end n (line.Return e) = suc e
nodes_end n _ = n

-- the kind of the objects that a block is for
unfoldable pub block_kind : SceneLine → Option Kind
block_kind (line.Class n k) = Some (plain_kind k)
block_kind (line.DeferredClass n k parent) = Some (deferred_kind k)
block_kind (line.Device n working) = Some kind.Device
block_kind (line.Interrupt n level) = Some kind.Interrupt
block_kind (line.Queue n dispatch) = Some kind.Queue
block_kind (line.Target n delay status depth) = Some kind.Target
block_kind _ = None
