-- Whether a run may go on, and by which tick.
use Rattle.std.specs.Prelude.{ℕ, ◌+◌, Bool, true, false, nat_lt, ◌&&◌, List, length, Option, Some, None, is_none}
use Rattle.wdf_base.specs.declared.plan.Plan.{Plan}
use Rattle.wdf_base.specs.declared.event.Event.{Event}
use Rattle.wdf_base.specs.declared.event.Event.TheVariants as event
use Rattle.wdf_model.specs.rules.Ready.{last_fault}

-- time and the state aside: its last event is no fault, and it has fewer events than its limit
abbrev pub goes_on : Plan → List Event → Bool
goes_on plan journal = is_none (last_fault journal) && nat_lt (length journal) plan.limit

-- the next tick of a clock, where something waits for it
abbrev pub tick_if : Bool → ℕ → Option Event
tick_if true clock = Some (event.Tick (clock + 1))
tick_if false clock = None

-- a tick of the clock
abbrev pub is_tick : Event → Bool
is_tick (event.Tick time) = true
is_tick _ = false
