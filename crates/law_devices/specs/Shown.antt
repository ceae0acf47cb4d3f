-- What the devices show, read off the events of a run alone: their registers, and the level lines of their interrupts.
use Rattle.std.specs.Prelude.{if◌then◌else◌, ℕ, ◌==◌, ◌&&◌, List, fold, Option, Some, None, option_map, unwrap_or, slice_get}
use Rattle.wdf_base.specs.declared.plan.Plan.{Plan}
use Rattle.wdf_base.specs.declared.declared.WhenLine.{WhenLine}
use Rattle.wdf_base.specs.declared.event.Access.{Access}
use Rattle.wdf_base.specs.declared.event.Access.TheVariants as access
use Rattle.wdf_base.specs.declared.event.Action.{Action}
use Rattle.wdf_base.specs.declared.event.Action.TheVariants as action
use Rattle.wdf_base.specs.declared.event.Event.{Event}
use Rattle.wdf_base.specs.declared.event.Event.TheVariants as event
use Rattle.wdf_base.specs.declared.event.Post.TheVariants as post
use Rattle.wdf_base.specs.Same.{same_access}

-- what a device shows
pub data Shown : Type 0 where
  -- the register with this number
  Register : (k : ℕ) → Shown
  -- the level line of the interrupt with this id
  Line : (i : ℕ) → Shown

-- ---- what one event makes of it

-- the value that an action gives it, none where the action is about something else
abbrev pub given : Shown → Action → Option ℕ
-- own: a register takes a value
given (Register k) (action.Set r v) = if k == r then Some v else None
-- own: a level line becomes 1
given (Line i) (action.Raise j) = if i == j.id.0 then Some 1 else None
-- own: a level line becomes 0
given (Line i) (action.Lower j) = if i == j.id.0 then Some 0 else None
given x a = None

-- its value after an action
abbrev pub acted : Shown → ℕ → Action → ℕ
acted x before a = unwrap_or (given x a) before

-- its value after one `when` line is looked at for access a of register r: a line without a delay that is on this access
-- takes effect in the access itself (own)
abbrev pub set_at_once : Shown → Access → ℕ → ℕ → WhenLine → ℕ
set_at_once x a r before w = if same_access w.access a && w.register == r && w.after == 0 then acted x before w.action else before

-- its value after access a of register r with value v, before the `when` lines: a write stores its value (own)
abbrev pub stored : Shown → Access → ℕ → ℕ → ℕ → ℕ
stored (Register k) access.Write r v before = if k == r then v else before
stored x a r v before = before

-- its value after event e, by its value before: one row for each event that changes it
abbrev pub value_by : Plan → Shown → ℕ → Event → ℕ
-- own: the driver reads or writes a register; of the `when` lines without a delay that are on this access, the last in the
-- text counts
value_by plan x before (event.Register cpu a r v) = fold (set_at_once x a r) (stored x a r v before) plan.whens
-- own: a device posts an action, of an `at` line or of a `when` line with a delay
value_by plan x before (event.Posted agent (post.Act a) answer) = acted x before a
value_by plan x before _ = before

-- ---- what the events of a run make of it

-- its value at the opening: a register has the one that the scenario declares, a level line is 0 (own)
abbrev pub first_value : Plan → Shown → ℕ
first_value plan (Register k) = unwrap_or (option_map (λ r. r.value) (slice_get plan.registers k)) 0
first_value plan (Line i) = 0

-- its value after these events
unfoldable pub value_told : Plan → Shown → List Event → ℕ
value_told plan x events = fold (value_by plan x) (first_value plan x) events
