-- What the lines of one block give.
use Rattle.std.specs.Prelude.{Bool, false, ℕ, zero, suc, ◌-◌, cond, List, [], ◌∷◌, drop, Option, Some, None, option_map, option_and_then, slice_get, position}
use Rattle.std.specs.Option.{is_some, option_or, unwrap_or}
use Rattle.wdf_base.specs.declared.declared.ExecutionLevel.{ExecutionLevel}
use Rattle.wdf_base.specs.declared.declared.ExecutionLevel.TheVariants as level
use Rattle.wdf_base.specs.declared.declared.Scope.{Scope}
use Rattle.wdf_base.specs.declared.declared.Scope.TheVariants as scope
use Rattle.wdf_scene.specs.declared.line.SceneLine.{SceneLine}
use Rattle.wdf_scene.specs.declared.line.SceneLine.TheVariants as line
use Rattle.wdf_scene.specs.declared.line.NumberedLine.{NumberedLine}
use Rattle.wdf_scene.specs.declared.scene.Scene.{Scene}
use Rattle.wdf_blocks.specs.declared.attribute.Attribute.{Attribute}
use Rattle.wdf_blocks.specs.declared.attribute.Attribute.TheVariants as attribute
use Rattle.wdf_blocks.specs.Attribute.{gives, is_device_wide}
use Rattle.wdf_blocks.specs.Forms.{opens, is_end, is_driver}

-- how deep in the block the next line is, where this one is at this depth and doesn't end the block
abbrev pub depth_after : ℕ → SceneLine → ℕ
depth_after depth form = cond (opens form) (suc depth) (cond (is_end form) (depth - 1) depth)

-- a line at this depth of the block gives it the attribute
abbrev pub counts_for : Attribute → ℕ → SceneLine → Bool
counts_for a zero form = gives a form
counts_for a (suc depth) form = cond (is_device_wide a) (gives a form) false

-- the line ends the block
abbrev pub ends_block : ℕ → SceneLine → Bool
ends_block zero form = is_end form
ends_block (suc depth) form = false

-- the place of the first line, from line k on, that gives the block the attribute
unfoldable pub given_from : Attribute → ℕ → ℕ → List NumberedLine → Option ℕ
given_from a depth k [] = None
given_from a depth k (l ∷ ls) =
    cond (counts_for a depth l.form) (Some k)
    (cond (ends_block depth l.form) None (given_from a (depth_after depth l.form) (suc k) ls))

-- the place of the first line that gives the attribute to the block, or to the device, that line b opened
unfoldable pub given : Scene → ℕ → Attribute → Option ℕ
given scene b a = given_from a 0 (suc b) (drop (suc b) scene.lines)

-- whether there is such a line
unfoldable pub has_given : Scene → ℕ → Attribute → Bool
has_given scene b a = is_some (given scene b a)

-- the form of line k
unfoldable pub form_at : Scene → ℕ → Option SceneLine
form_at scene k = option_map (λ l. l.form) (slice_get scene.lines k)

-- the number of line k in the text
unfoldable pub number_at : Scene → ℕ → ℕ
number_at scene k = unwrap_or (option_map (λ l. l.number) (slice_get scene.lines k)) 0

-- the level, the scope and the ticks that lines give
unfoldable pub level_in : SceneLine → Option ExecutionLevel
level_in (line.Level l) = l
level_in _ = None

unfoldable pub scope_in : SceneLine → Option Scope
scope_in (line.Scope s) = s
scope_in _ = None

unfoldable pub ticks_in : SceneLine → Option ℕ
ticks_in (line.Period n) = Some n
ticks_in _ = None

-- the level that the lines of a block give it, where it doesn't inherit
unfoldable pub given_level : Scene → ℕ → Option ExecutionLevel
given_level scene b =
    option_and_then level_in (option_and_then (form_at scene) (given scene b attribute.Level))

unfoldable pub given_scope : Scene → ℕ → Option Scope
given_scope scene b =
    option_and_then scope_in (option_and_then (form_at scene) (given scene b attribute.Scope))

-- a line begins the `driver` block
abbrev pub is_driver_line : NumberedLine → Bool
is_driver_line l = is_driver l.form

-- the line of the `driver` block
unfoldable pub driver_line : Scene → Option ℕ
driver_line scene = position is_driver_line scene.lines

-- the effective level of a device or a queue: its own, its device's, the driver's, dispatch
unfoldable pub effective_level : Scene → ℕ → Option ℕ → ExecutionLevel
effective_level scene b device =
    unwrap_or (option_or (given_level scene b) (option_or (option_and_then (given_level scene) device) (option_and_then (given_level scene) (driver_line scene)))) level.Dispatch

-- the effective scope of a device or a queue: its own, its device's, the driver's, none
unfoldable pub effective_scope : Scene → ℕ → Option ℕ → Scope
effective_scope scene b device =
    unwrap_or (option_or (given_scope scene b) (option_or (option_and_then (given_scope scene) device) (option_and_then (given_scope scene) (driver_line scene)))) scope.Unscoped
