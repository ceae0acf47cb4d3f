-- The limits of a scenario. A line past several is refused for the first in the order of `Limit`.
use Rattle.std.specs.Prelude.{Bool, false, not, ℕ, ◌+◌, ◌&&◌, ◌||◌, nat_lt, nat_le, List, Option, Some, None, find, codes}
use Rattle.wdf_base.specs.Resolved.{is_from, is_ticks}
use Rattle.wdf_base.specs.declared.declared.DispatchKind.TheVariants as dispatch
use Rattle.wdf_scene.specs.declared.line.InterruptLevel.TheVariants as level
use Rattle.wdf_scene.specs.declared.line.SceneLine.{SceneLine}
use Rattle.wdf_scene.specs.declared.line.SceneLine.TheVariants as line
use Rattle.wdf_blocks.specs.declared.declaration.Declaration.{Declaration}
use Rattle.wdf_refusals.specs.declared.limit.Limit.{Limit}
use Rattle.wdf_refusals.specs.declared.limit.Limit.TheVariants as limit
use Rattle.wdf_refusals.specs.declared.limit.TheConstants.{LIMITS}
use Rattle.wdf_blocks.specs.declared.placed.Placed.{Placed}
use Rattle.wdf_blocks.specs.Declarations.{object_count}
use Rattle.wdf_blocks.specs.Forms.{is_device, is_app, is_register, is_class, is_statement, is_post, assigned_name}
use Rattle.wdf_blocks.specs.Variables.{variable_number}

unfoldable pub over_cpus : SceneLine → Bool
over_cpus (line.Cpus n) = not (is_from 1 8 n)
over_cpus _ = false

unfoldable pub over_limit : SceneLine → Bool
over_limit (line.Limit n) = not (is_from 1 200000 n)
over_limit _ = false

-- the declared objects and the driver object count too
unfoldable pub over_objects : List Declaration → SceneLine → Bool
over_objects names (line.Objects n) = not (is_from 1 4096 n) || nat_le n (object_count names)
over_objects names _ = false

-- so many of a sort come before a line of that sort
abbrev pub is_one_too_many : Bool → ℕ → ℕ → Bool
is_one_too_many is bound before = is && nat_le bound before

-- the numbers of a `picks` line are too many
abbrev pub over_picks : Placed → Bool
over_picks p = nat_lt 200000 (p.counts.picks + p.picks)

-- a variable with a number past the sixteenth's
abbrev pub is_past : Option ℕ → Bool
is_past None = false
is_past (Some k) = nat_le 16 k

abbrev pub over_variables : List (List ℕ) → Option (List ℕ) → Bool
over_variables variables None = false
over_variables variables (Some n) = is_past (variable_number variables n)

unfoldable pub over_level : SceneLine → Bool
over_level (line.Interrupt n (level.Numbered l)) = not (is_from 3 12 l)
over_level _ = false

unfoldable pub over_parallel : SceneLine → Bool
over_parallel (line.Queue n (dispatch.Parallel k)) = not (is_from 1 1024 k)
over_parallel _ = false

unfoldable pub over_depth : SceneLine → Bool
over_depth (line.Target n delay status depth) = not (is_from 1 256 depth)
over_depth _ = false

unfoldable pub over_ticks : SceneLine → Bool
over_ticks (line.Target n delay status depth) = not (is_ticks delay)
over_ticks (line.Period n) = not (is_ticks n)
over_ticks (line.When access r a after) = not (is_ticks after)
over_ticks (line.At tick a) = not (is_ticks tick)
over_ticks (line.AtRead tick d n) = not (is_ticks tick)
over_ticks (line.AtWrite tick d n) = not (is_ticks tick)
over_ticks (line.AtControl tick d code n) = not (is_ticks tick)
over_ticks (line.AtCancel tick k) = not (is_ticks tick)
over_ticks (line.AtAsk tick ask d) = not (is_ticks tick)
over_ticks _ = false

-- the line is past this limit
unfoldable pub exceeds : List Declaration → List (List ℕ) → Placed → Limit → Bool
exceeds names variables p limit.Cpus = over_cpus p.form
exceeds names variables p limit.Limit = over_limit p.form
exceeds names variables p limit.Objects = over_objects names p.form
exceeds names variables p limit.Devices = is_one_too_many (is_device p.form) 8 p.counts.devices
exceeds names variables p limit.Apps = is_one_too_many (is_app p.form) 256 p.counts.apps
exceeds names variables p limit.Registers = is_one_too_many (is_register p.form) 64 p.counts.registers
exceeds names variables p limit.Classes = is_one_too_many (is_class p.form) 256 p.counts.classes
exceeds names variables p limit.Statements = is_one_too_many (is_statement p.form) 4096 p.counts.statements
exceeds names variables p limit.Posts = is_one_too_many (is_post p.form) 4096 p.counts.posts
exceeds names variables p limit.Picks = over_picks p
exceeds names variables p limit.Variables = over_variables variables (assigned_name p.form)
exceeds names variables p limit.Level = over_level p.form
exceeds names variables p limit.Parallel = over_parallel p.form
exceeds names variables p limit.Depth = over_depth p.form
exceeds names variables p limit.Ticks = over_ticks p.form

-- the first limit that the line is past
unfoldable pub exceeded : List Declaration → List (List ℕ) → Placed → Option Limit
exceeded names variables p = find (exceeds names variables p) LIMITS

-- the word by which a refusal names a limit
abbrev pub limit_word : Limit → List ℕ
limit_word limit.Cpus = codes "cpus"
limit_word limit.Limit = codes "limit"
limit_word limit.Objects = codes "objects"
limit_word limit.Devices = codes "devices"
limit_word limit.Apps = codes "apps"
limit_word limit.Registers = codes "registers"
limit_word limit.Classes = codes "classes"
limit_word limit.Statements = codes "statements"
limit_word limit.Posts = codes "posts"
limit_word limit.Picks = codes "picks"
limit_word limit.Variables = codes "variables"
limit_word limit.Level = codes "level"
limit_word limit.Parallel = codes "parallel"
limit_word limit.Depth = codes "depth"
limit_word limit.Ticks = codes "ticks"
