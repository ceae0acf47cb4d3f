-- A run by its picks, computed: each picked event in turn, threaded through the states, as far as it is
-- asked for. What it comes to is the picked run. (own)
use Rattle.std.specs.Prelude.{◌≡◌, ℕ, zero, suc, ◌%◌, List, [], ◌∷◌, ◌++◌, length, drop, Option, Some, None, slice_get, slice_index}
use Rattle.wdf_base.specs.Meaning.{Meaning}
use Rattle.wdf_base.specs.declared.event.Event.{Event}
use Rattle.wdf_base.specs.declared.event.Ending.{Ending}
use Rattle.wdf_base.specs.declared.event.Fault.{Fault}
use Rattle.wdf_base.specs.declared.plan.Plan.{Plan}
use Rattle.wdf_base.specs.declared.wait.WaitLine.{WaitLine}
use Rattle.wdf_model.specs.State.{State, opening}
use Rattle.wdf_model.specs.rules.Steps.{after}
use Rattle.wdf_model.specs.rules.Ready.{IsPickedRun, ready_in, fault_in, unless_fault, ending_by, ending_of}
use Rattle.wdf_model.specs.agents.AnyAgent.{AnyAgent, agents}
use Rattle.wdf_model.specs.rules.Waits.{if_stuck, wait_lines}

-- a run so far, with agents of any kind
pub record CourseOf (A : Type 0) : Type 0 where
  -- its plan
  pub plan : Plan
  -- its events, in order
  pub events : List Event
  -- the state after them
  pub state : State A
  -- how it ends, or that it goes on
  pub ending : Ending

-- the events of a computed run
abbrev pub events_of : {A : Type 0} → CourseOf A → List Event
events_of c = c.events

-- how a computed run ends, or that it goes on
abbrev pub ending_at : {A : Type 0} → CourseOf A → Ending
ending_at c = c.ending

-- its wait list, with agents of this meaning; the empty list where it isn't stuck
abbrev pub waits_with : {A : Type 0} → Meaning A → CourseOf A → List WaitLine
waits_with m c = if_stuck c.ending (wait_lines c.plan m c.state)

-- its wait list; the empty list where it isn't stuck
abbrev pub waits_at : CourseOf AnyAgent → List WaitLine
waits_at c = waits_with agents c

-- the run with these events and this state, whose last event is fault x or none, and no further
abbrev pub stopped : {A : Type 0} → Plan → Meaning A → List Event → State A → Option Fault → CourseOf A
stopped plan m events S x = record { plan = plan; events = events; state = S; ending = ending_by plan m S x (unless_fault x (ready_in plan m S)) }

-- the run with the picked event, if there is one, and from there on by `next`
abbrev pub with_picked : {A : Type 0} → (List Event → State A → Option Fault → CourseOf A) → Plan → Meaning A → List Event → State A → Option Fault → Option Event → CourseOf A
with_picked next plan m events S x None = stopped plan m events S x
with_picked next plan m events S x (Some e) = next (events ++ e ∷ []) (after plan m S e) (fault_in e)

-- the event that the first pick names among these; a pick that is missing is 0, and none where nothing may follow
abbrev pub pick : List ℕ → List Event → Option Event
pick picks ready = slice_get ready (slice_index picks 0 % length ready)

-- the run that goes on from these events by the picks, with at most so many events more
abbrev pub run_from : {A : Type 0} → ℕ → Plan → Meaning A → List ℕ → List Event → State A → Option Fault → CourseOf A
run_from zero plan m picks events S x = stopped plan m events S x
run_from (suc turns) plan m picks events S x =
    with_picked (run_from turns plan m (drop 1 picks)) plan m events S x (pick picks (unless_fault x (ready_in plan m S)))

-- the run of the plan's picks with agents of this meaning, with at most so many events
unfoldable pub run_with : {A : Type 0} → Plan → Meaning A → ℕ → CourseOf A
run_with plan m turns = run_from turns plan m plan.picks [] (opening plan m) None

-- the run of the plan's picks, with at most so many events
unfoldable pub run_by : Plan → ℕ → CourseOf AnyAgent
run_by plan turns = run_from turns plan agents plan.picks [] (opening plan agents) None

-- ---- worked runs

-- these events are the run that the plan's picks determine with such agents, from its opening to where nothing may follow, and this is how it ends
pub record IsWorkedWith {A : Type 0} (plan : Plan) (m : Meaning A) (events : List Event) (ending : Ending) : Type 0 where
  pub run : IsPickedRun plan m plan.picks events
  pub ends : ending_of plan m events ≡ ending

-- these events are the run that the plan's picks determine, from its opening to where nothing may follow, and this
-- is how it ends
abbrev pub IsWorked : Plan → List Event → Ending → Type 0
IsWorked plan events e = IsWorkedWith plan agents events e
