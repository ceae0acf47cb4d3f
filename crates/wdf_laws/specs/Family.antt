-- Parents and classes, as the plan and the whole list of events give them: the plan first, then the earliest event.
use Rattle.std.specs.Prelude.{ℕ, zero, suc, ◌+◌, Bool, false, ◌==◌, not, ◌&&◌, ◌||◌, List, length, Option, Some, None, option_and_then, option_map, find}
use Rattle.wdf_base.specs.declared.plan.Plan.{Plan}
use Rattle.wdf_base.specs.declared.declared.Declared.{Declared}
use Rattle.wdf_base.specs.declared.declared.Declared.TheVariants as declared
use Rattle.wdf_base.specs.declared.object.LockRef.{LockRef}
use Rattle.wdf_base.specs.declared.call.Callback.{Callback}
use Rattle.wdf_base.specs.declared.event.Event.{Event}
use Rattle.wdf_base.specs.Plan.{declared_of}
use Rattle.wdf_model.specs.parts.Locks.{scope_of}
use Rattle.wdf_model.specs.parts.Tree.{declared_parent}
use Rattle.wdf_laws.specs.declared.sign.Sign.TheVariants as sign
use Rattle.wdf_laws.specs.declared.sign.Told.{Told}
use Rattle.wdf_laws.specs.Events.{told}
use Rattle.wdf_laws.specs.Words.{ever}

-- an event says something of this object
abbrev pub is_told : ℕ → Option Told → Bool
is_told o None = false
is_told o (Some t) = t.object == o

abbrev pub tells_of : Plan → ℕ → Event → Bool
tells_of plan o e = is_told o (told plan e)

-- what the earliest event that says something of an object says
abbrev pub first_told : Plan → List Event → ℕ → Option Told
first_told plan all o = option_and_then (told plan) (find (tells_of plan o) all)

abbrev pub told_parent : Option Told → ℕ
told_parent None = 0
told_parent (Some t) = t.parent

abbrev pub parent_by : Option Declared → Option Told → ℕ
parent_by (Some d) t = declared_parent d
parent_by None t = told_parent t

-- the parent of an object, 0 for none
abbrev pub parent_of : Plan → List Event → ℕ → ℕ
parent_of plan all o = parent_by (declared_of plan o) (first_told plan all o)

-- an object, or one of the first so many from it upwards, was cleaned up
abbrev pub cleaned_above : Plan → List Event → List Event → ℕ → ℕ → Bool
cleaned_above plan all before zero o = false
cleaned_above plan all before (suc n) o =
    ever (sign.Cleaned o) before || (not (parent_of plan all o == 0) && cleaned_above plan all before n (parent_of plan all o))

-- an object has no more objects above it than the plan and the events give
abbrev pub most_above : Plan → List Event → ℕ
most_above plan all = length plan.declared + length all + 1

abbrev pub told_class : Option Told → Option Declared
told_class None = None
told_class (Some t) = option_map declared.OfClass t.class

abbrev pub declared_by : Option Declared → Option Told → Option Declared
declared_by (Some d) t = Some d
declared_by None t = told_class t

-- what an object is in the plan
abbrev pub made_as : Plan → List Event → ℕ → Option Declared
made_as plan all o = declared_by (declared_of plan o) (first_told plan all o)

-- the scope lock that a callback needs on an object
abbrev pub scope_on : Plan → List Event → Callback → ℕ → Option LockRef
scope_on plan all c o = scope_of plan c o (made_as plan all o)
