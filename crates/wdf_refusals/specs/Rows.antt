-- When a line is refused: one definition for each refusal, in the words of the text language.
use Rattle.std.specs.Prelude.{Bool, true, false, not, ℕ, ◌-◌, ◌&&◌, ◌||◌, nat_lt, cond, List, take, drop, Option, Some, None, find, option_and_then}
use Rattle.std.specs.Option.{is_some}
use Rattle.std.specs.List.{list_any}
use Rattle.wdf_base.specs.declared.call.Callback.TheVariants as callback
use Rattle.wdf_base.specs.declared.declared.DeferredKind.{DeferredKind}
use Rattle.wdf_base.specs.declared.declared.DeferredKind.TheVariants as deferred
use Rattle.wdf_base.specs.declared.rank.Owner.{Owner}
use Rattle.wdf_base.specs.declared.rank.Owner.TheVariants as owner
use Rattle.wdf_base.specs.declared.signature.Sort.{Sort}
use Rattle.wdf_base.specs.declared.signature.Sort.TheVariants as sort
use Rattle.wdf_base.specs.Calls.{signature_of}
use Rattle.wdf_base.specs.Callbacks.{row_of}
use Rattle.wdf_base.specs.Resolved.{function_of, serial_level, is_reserved}
use Rattle.wdf_base.specs.Same.{same_option, same_kind}
use Rattle.wdf_scene.specs.declared.line.SceneAction.{SceneAction}
use Rattle.wdf_scene.specs.declared.line.SceneAction.TheVariants as action
use Rattle.wdf_scene.specs.declared.line.SceneArg.{SceneArg}
use Rattle.wdf_scene.specs.declared.line.SceneArg.TheVariants as arg
use Rattle.wdf_scene.specs.declared.line.SceneExpr.{SceneExpr}
use Rattle.wdf_scene.specs.declared.line.SceneExpr.TheVariants as expr
use Rattle.wdf_scene.specs.declared.line.SceneLine.{SceneLine}
use Rattle.wdf_scene.specs.declared.line.SceneLine.TheVariants as line
use Rattle.wdf_scene.specs.declared.scene.Scene.{Scene}
use Rattle.wdf_scene.specs.Naming.{declared_name}
use Rattle.wdf_blocks.specs.declared.attribute.Attribute.{Attribute}
use Rattle.wdf_blocks.specs.declared.attribute.Attribute.TheVariants as attribute
use Rattle.wdf_blocks.specs.declared.declaration.Declaration.{Declaration}
use Rattle.wdf_blocks.specs.declared.declaration.Wanted.TheVariants as wanted
use Rattle.wdf_blocks.specs.declared.placed.Placed.{Placed}
use Rattle.wdf_blocks.specs.Attribute.{attribute_of, is_device_wide}
use Rattle.wdf_blocks.specs.Blocks.{given, has_given, form_at, number_at}
use Rattle.wdf_blocks.specs.Declarations.{stands, has_name, is_parent_at}
use Rattle.wdf_blocks.specs.Forms.{assigned_name, nodes_end, block_kind}
use Rattle.wdf_blocks.specs.Variables.{variable_number}

-- ---- a name that stands for nothing there

-- a register or an interrupt that isn't this line's device's
unfoldable pub unknown_action : List Declaration → Option ℕ → SceneAction → Bool
unknown_action names device (action.Set r v) = not (stands names r (wanted.RegisterOf device))
unknown_action names device (action.Raise i) = not (stands names i (wanted.InterruptOf device))
unknown_action names device (action.Lower i) = not (stands names i (wanted.InterruptOf device))

-- a class of another kind than the call makes
unfoldable pub unknown_class : List Declaration → Sort → List ℕ → Bool
unknown_class names (sort.Class k) n = not (stands names n (wanted.ClassOf k))
unknown_class names _ n = true

unfoldable pub unknown_argument : List Declaration → Sort → SceneArg → Bool
unknown_argument names s (arg.OfClass n) = unknown_class names s n
unknown_argument names s _ = false

-- a parent that isn't declared at all
unfoldable pub unknown_parent : List Declaration → Option (List ℕ) → Bool
unknown_parent names None = false
unknown_parent names (Some n) = not (stands names n wanted.Anything)

-- a name of the line outside its expressions
unfoldable pub unknown_word : List Declaration → Option ℕ → SceneLine → Bool
unknown_word names device (line.DeferredClass n k parent) = unknown_parent names parent
unknown_word names device (line.When access r a after) =
    not (stands names r (wanted.RegisterOf device)) || unknown_action names device a
unknown_word names device (line.At tick a) = unknown_action names device a
unknown_word names device (line.AtRead tick d n) = not (stands names d wanted.Device)
unknown_word names device (line.AtWrite tick d n) = not (stands names d wanted.Device)
unknown_word names device (line.AtControl tick d code n) = not (stands names d wanted.Device)
unknown_word names device (line.AtAsk tick ask d) = not (stands names d wanted.Device)
unknown_word names device (line.Get x r) = not (stands names r wanted.Register)
unknown_word names device (line.Put r e) = not (stands names r wanted.Register)
unknown_word names device (line.Call k into a b c) =
    unknown_argument names (signature_of k).a a || (unknown_argument names (signature_of k).b b || unknown_argument names (signature_of k).c c)
unknown_word names device _ = false

-- a name in an expression: neither a variable of the callback nor a declared object
unfoldable pub unknown_node : List Declaration → List (List ℕ) → SceneExpr → Bool
unknown_node names variables (expr.Named n) =
    not (is_some (variable_number variables n)) && not (stands names n wanted.Object)
unknown_node names variables _ = false

-- the nodes of the line's expressions
unfoldable pub nodes_of : Scene → Placed → List SceneExpr
nodes_of scene p =
    take (nodes_end p.counts.nodes p.form - p.counts.nodes) (drop p.counts.nodes scene.exprs)

unfoldable pub unknown_name : Scene → List Declaration → List (List ℕ) → Placed → Bool
unknown_name scene names variables p =
    unknown_word names p.stand.device p.form || list_any (unknown_node names variables) (nodes_of scene p)

-- ---- a name or an attribute that is given twice, with the first line that gives it

-- 0 stands for the language itself
unfoldable pub reserved_line : List ℕ → Option ℕ
reserved_line n = cond (is_reserved n) (Some 0) None

-- the first line that declares the name
unfoldable pub first_line : List Declaration → List ℕ → Option Declaration
first_line names n = find (has_name n) names

-- a line at this place declares a name that an earlier one declared
abbrev pub earlier_line : ℕ → List ℕ → Option Declaration → Option ℕ
earlier_line at n None = reserved_line n
earlier_line at n (Some d) = cond (nat_lt d.at at) (Some d.number) (reserved_line n)

-- a variable has the name of something declared
abbrev pub taken_line : List ℕ → Option Declaration → Option ℕ
taken_line n None = reserved_line n
taken_line n (Some d) = Some d.number

-- the line that opened the block, or the device, that has the attribute
abbrev pub home : Placed → Attribute → Option ℕ
home p a = cond (is_device_wide a) p.stand.device p.stand.block

-- a line at this place gives what an earlier one gave
abbrev pub given_line : Scene → ℕ → Option ℕ → Option ℕ
given_line scene at None = None
given_line scene at (Some k) = cond (nat_lt k at) (Some (number_at scene k)) None

unfoldable pub twice_given : Scene → Placed → Attribute → Option ℕ
twice_given scene p a = given_line scene p.at (option_and_then (λ b. given scene b a) (home p a))

abbrev pub twice_attribute : Scene → Placed → Option Attribute → Option ℕ
twice_attribute scene p None = None
twice_attribute scene p (Some a) = twice_given scene p a

abbrev pub twice_assigned : Scene → List Declaration → Placed → Option (List ℕ) → Option ℕ
twice_assigned scene names p None = twice_attribute scene p (attribute_of p.form)
twice_assigned scene names p (Some n) = taken_line n (first_line names n)

abbrev pub twice_declared : Scene → List Declaration → Placed → Option (List ℕ) → Option ℕ
twice_declared scene names p None = twice_assigned scene names p (assigned_name p.form)
twice_declared scene names p (Some n) = earlier_line p.at n (first_line names n)

unfoldable pub twice_named : Scene → List Declaration → Placed → Option ℕ
twice_named scene names p = twice_declared scene names p (declared_name p.form)

-- ---- a callback, or an attribute, that isn't of its block

-- objects of a class and devices have cleanup and destroy callbacks
unfoldable pub is_class_or_device : SceneLine → Bool
is_class_or_device (line.Class n k) = true
is_class_or_device (line.DeferredClass n k parent) = true
is_class_or_device (line.Device n working) = true
is_class_or_device _ = false

abbrev pub has_callbacks : Owner → SceneLine → Bool
has_callbacks (owner.Of k) form = same_option same_kind (block_kind form) (Some k)
has_callbacks owner.ClassOrDevice form = is_class_or_device form

-- the block may be serialized, or have a period
unfoldable pub is_deferred_block : SceneLine → Bool
is_deferred_block (line.DeferredClass n k parent) = true
is_deferred_block _ = false

unfoldable pub is_timer_block : SceneLine → Bool
is_timer_block (line.DeferredClass n deferred.Timer parent) = true
is_timer_block _ = false

unfoldable pub is_working_block : SceneLine → Bool
is_working_block (line.Device n working) = working
is_working_block _ = false

-- the form of the line that opened a block
abbrev pub block_form : Scene → Option ℕ → Option SceneLine
block_form scene b = option_and_then (form_at scene) b

-- the form of the line that opened a block passes the test
abbrev pub block_is : (SceneLine → Bool) → Scene → Option ℕ → Bool
block_is test scene b =
    elim (block_form scene b) as (λ _. Bool) [ None ↦ false | Some form ↦ test form ]

unfoldable pub wrong_callback : Scene → Placed → SceneLine → Bool
wrong_callback scene p (line.On c) =
    not (block_is (has_callbacks (row_of c).owner) scene p.stand.block)
wrong_callback scene p line.Serialize = not (block_is is_deferred_block scene p.stand.block)
wrong_callback scene p (line.Period n) = not (block_is is_timer_block scene p.stand.block)
wrong_callback scene p (line.Interrupt n level) =
    not (has_given scene p.at (attribute.On callback.EvtInterruptIsr)) || block_is is_working_block scene p.stand.device
wrong_callback scene p (line.Target n delay status depth) =
    not (has_given scene p.at (attribute.On callback.EvtRequestCompletion))
wrong_callback scene p (line.DeferredClass n k parent) =
    not (has_given scene p.at (attribute.On (function_of k)))
wrong_callback scene p _ = false

-- ---- `serialize` under a parent whose level doesn't fit

-- the parent is known as a device or a queue, and nowhere with this level
unfoldable pub unlike_parent : Scene → List Declaration → DeferredKind → List ℕ → Bool
unlike_parent scene names k n =
    stands names n wanted.Parent && not (list_any (is_parent_at scene (serial_level k) n) names)

unfoldable pub unlike_block : Scene → List Declaration → SceneLine → Bool
unlike_block scene names (line.DeferredClass n k (Some parent)) =
    unlike_parent scene names k parent
unlike_block scene names _ = false

unfoldable pub incompatible_level : Scene → List Declaration → Placed → SceneLine → Bool
incompatible_level scene names p line.Serialize =
    block_is (unlike_block scene names) scene p.stand.block
incompatible_level scene names p _ = false

-- ---- a class that needs a parent and has none

abbrev pub lacks_parent : List Declaration → Option (List ℕ) → Bool
lacks_parent names None = true
lacks_parent names (Some n) = stands names n wanted.Anything && not (stands names n wanted.Parent)

unfoldable pub no_parent : List Declaration → SceneLine → Bool
no_parent names (line.DeferredClass n k parent) = lacks_parent names parent
no_parent names _ = false
