-- What the lists of a plan have of each line.
use Rattle.std.specs.Prelude.{Bool, not, ℕ, ◌==◌, cond, List, [], Option, Some, None, option_and_then}
use Rattle.std.specs.Option.{unwrap_or}
use Rattle.std.specs.List.{filter_map}
use Rattle.wdf_base.specs.declared.ids.Irql.{Irql}
use Rattle.wdf_base.specs.declared.event.Post.{Post}
use Rattle.wdf_base.specs.declared.event.Post.TheVariants as post
use Rattle.wdf_base.specs.declared.object.RequestForm.TheVariants as form
use Rattle.wdf_base.specs.declared.declared.ClassInfo.{ClassInfo}
use Rattle.wdf_base.specs.declared.declared.ClassInfo.TheVariants as class
use Rattle.wdf_base.specs.declared.declared.Declared.{Declared}
use Rattle.wdf_base.specs.declared.declared.Declared.TheVariants as declared
use Rattle.wdf_base.specs.declared.declared.DeviceInfo.{DeviceInfo}
use Rattle.wdf_base.specs.declared.declared.QueueInfo.{QueueInfo}
use Rattle.wdf_base.specs.declared.declared.InterruptInfo.{InterruptInfo}
use Rattle.wdf_base.specs.declared.declared.TargetInfo.{TargetInfo}
use Rattle.wdf_base.specs.declared.declared.DispatchKind.{DispatchKind}
use Rattle.wdf_base.specs.declared.declared.Serves.{Serves}
use Rattle.wdf_base.specs.declared.declared.PostLine.{PostLine}
use Rattle.wdf_base.specs.declared.declared.RegisterInfo.{RegisterInfo}
use Rattle.wdf_base.specs.declared.declared.WhenLine.{WhenLine}
use Rattle.wdf_base.specs.declared.script.AgentInfo.{AgentInfo}
use Rattle.wdf_base.specs.declared.value.Status.{Status}
use Rattle.wdf_base.specs.Same.{same_option}
use Rattle.wdf_scene.specs.declared.line.InterruptLevel.{InterruptLevel}
use Rattle.wdf_scene.specs.declared.line.InterruptLevel.TheVariants as level
use Rattle.wdf_scene.specs.declared.line.NumberedLine.{NumberedLine}
use Rattle.wdf_scene.specs.declared.line.SceneLine.{SceneLine}
use Rattle.wdf_scene.specs.declared.line.SceneLine.TheVariants as line
use Rattle.wdf_scene.specs.declared.scene.Scene.{Scene}
use Rattle.wdf_blocks.specs.declared.attribute.Attribute.TheVariants as attribute
use Rattle.wdf_blocks.specs.declared.declaration.Declaration.{Declaration}
use Rattle.wdf_blocks.specs.declared.declaration.Wanted.TheVariants as wanted
use Rattle.wdf_blocks.specs.declared.placed.Placed.{Placed}
use Rattle.wdf_blocks.specs.Blocks.{given, has_given, form_at, ticks_in, effective_level, effective_scope}
use Rattle.wdf_refusals.specs.Numbers.{id_of, name_number, number_of, handle_of, action_of}
use Rattle.wdf_blocks.specs.Placed.{placed}

-- ---- objects

-- the device that line b declares
unfoldable pub device_info : Scene → List Declaration → ℕ → List ℕ → Bool → DeviceInfo
device_info scene names b n working =
    record {
      name = name_number names n;
      working = working;
      scope = effective_scope scene b None;
      level = effective_level scene b None;
    }

-- the types of requests that the queue of line b takes
unfoldable pub serves : Scene → ℕ → Serves
serves scene b =
    record {
      rest = has_given scene b attribute.Default;
      read = has_given scene b (attribute.For form.Read);
      write = has_given scene b (attribute.For form.Write);
      control = has_given scene b (attribute.For form.Control);
    }

-- the queue that line b declares in the device of this line, before which so many objects were declared
unfoldable pub queue_info : Scene → List Declaration → Option ℕ → ℕ → ℕ → List ℕ → DispatchKind → QueueInfo
queue_info scene names device order b n dispatch =
    record {
      name = name_number names n;
      device = id_of order;
      dispatch = dispatch;
      serves = serves scene b;
      powered = not (has_given scene b attribute.PowerOff);
      zero = has_given scene b attribute.Zero;
      scope = effective_scope scene b device;
      level = effective_level scene b device;
    }

-- the level of a passive interrupt is 0
abbrev pub irql_of : InterruptLevel → Irql
irql_of (level.Numbered l) = record { 0 = l }
irql_of level.AtPassive = record { 0 = 0 }

unfoldable pub interrupt_info : List Declaration → ℕ → List ℕ → InterruptLevel → InterruptInfo
interrupt_info names order n l =
    record { name = name_number names n; device = id_of order; level = irql_of l }

unfoldable pub target_info : List Declaration → ℕ → List ℕ → ℕ → Status → ℕ → TargetInfo
target_info names order n delay status depth =
    record {
      name = name_number names n;
      device = id_of order;
      delay = delay;
      status = status;
      depth = depth;
    }

-- the object that line b declares, where line p is in the same device or declares one
unfoldable pub object_of : Scene → List Declaration → Placed → ℕ → SceneLine → Option Declared
object_of scene names p b (line.Device n working) =
    Some (declared.Device (device_info scene names b n working))
object_of scene names p b (line.Queue n dispatch) =
    Some (declared.Queue (queue_info scene names p.stand.device p.counts.device b n dispatch))
object_of scene names p b (line.Interrupt n l) =
    Some (declared.Interrupt (interrupt_info names p.counts.device n l))
object_of scene names p b (line.Target n delay status depth) =
    Some (declared.Target (target_info names p.counts.device n delay status depth))
object_of scene names p b _ = None

abbrev pub object_on : Scene → List Declaration → Placed → Option Declared
object_on scene names p = object_of scene names p p.at p.form

-- ---- classes

-- the object that a class names as its parent
abbrev pub parent_order : List Declaration → Option (List ℕ) → ℕ
parent_order names None = 0
parent_order names (Some n) = number_of names n wanted.Parent

-- the ticks of the period that line b's block gives, 0 for none
unfoldable pub period_of : Scene → ℕ → ℕ
period_of scene b =
    unwrap_or (option_and_then ticks_in (option_and_then (form_at scene) (given scene b attribute.Period))) 0

unfoldable pub class_on : Scene → List Declaration → Placed → SceneLine → Option ClassInfo
class_on scene names p (line.Class n k) = Some (class.Plain (name_number names n) k)
class_on scene names p (line.DeferredClass n k parent) =
    Some (class.Deferred (name_number names n) k (id_of (parent_order names parent)) (has_given scene p.at attribute.Serialize) (period_of scene p.at))
class_on scene names p _ = None

-- ---- registers and what devices do

unfoldable pub register_on : List Declaration → Placed → SceneLine → Option RegisterInfo
register_on names p (line.Register n v) =
    Some (record { name = name_number names n; device = id_of p.counts.device; value = v })
register_on names p _ = None

unfoldable pub when_on : List Declaration → ℕ → Option ℕ → SceneLine → Option WhenLine
when_on names number device (line.When access r a after) =
    Some (record {
      access = access;
      register = number_of names r (wanted.RegisterOf device);
      action = action_of names device a;
      after = after;
      line = number;
    })
when_on names number device _ = None

-- ---- posts

-- the post of the line with this number
abbrev pub post_at : ℕ → ℕ → Post → PostLine
post_at number tick p = record { tick = tick; post = p; line = number }

-- what the Plug and Play manager posts
unfoldable pub pnp_post : List Declaration → ℕ → SceneLine → Option PostLine
pnp_post names number (line.AtAsk tick ask d) =
    Some (post_at number tick (post.Ask ask (handle_of names d wanted.Device)))
pnp_post names number _ = None

-- what an app posts
unfoldable pub app_post : List Declaration → ℕ → SceneLine → Option PostLine
app_post names number (line.AtRead tick d n) =
    Some (post_at number tick (post.Read (handle_of names d wanted.Device) n))
app_post names number (line.AtWrite tick d n) =
    Some (post_at number tick (post.Write (handle_of names d wanted.Device) n))
app_post names number (line.AtControl tick d code n) =
    Some (post_at number tick (post.Control (handle_of names d wanted.Device) code n))
app_post names number (line.AtCancel tick k) = Some (post_at number tick (post.Cancel k))
app_post names number _ = None

-- what a device posts
unfoldable pub device_post : List Declaration → ℕ → Option ℕ → SceneLine → Option PostLine
device_post names number device (line.At tick a) =
    Some (post_at number tick (post.Act (action_of names device a)))
device_post names number device _ = None

-- the line is in the block of line b
abbrev pub stands_in : ℕ → Placed → Bool
stands_in b p = same_option ◌==◌ p.stand.block (Some b)

-- the posts of the app, or of the device, of line b
abbrev pub app_post_in : List Declaration → ℕ → Placed → Option PostLine
app_post_in names b p = cond (stands_in b p) (app_post names p.number p.form) None

abbrev pub device_post_in : List Declaration → ℕ → Placed → Option PostLine
device_post_in names b p = cond (stands_in b p) (device_post names p.number p.stand.device p.form) None

-- ---- agents

abbrev pub agent : ℕ → List PostLine → AgentInfo
agent name posts = record { name = name; posts = posts }

unfoldable pub app_agent : Scene → List Declaration → Placed → SceneLine → Option AgentInfo
app_agent scene names p (line.App n) =
    Some (agent (name_number names n) (filter_map (app_post_in names p.at) (placed scene)))
app_agent scene names p _ = None

unfoldable pub device_agent : Scene → List Declaration → Placed → SceneLine → Option AgentInfo
device_agent scene names p (line.Device n working) =
    Some (agent (name_number names n) (filter_map (device_post_in names p.at) (placed scene)))
device_agent scene names p _ = None

unfoldable pub target_agent : List Declaration → SceneLine → Option AgentInfo
target_agent names (line.Target n delay status depth) = Some (agent (name_number names n) [])
target_agent names _ = None

-- ---- picks

-- the numbers after `picks` of a line
abbrev pub line_picks : NumberedLine → List ℕ
line_picks l = l.picks
