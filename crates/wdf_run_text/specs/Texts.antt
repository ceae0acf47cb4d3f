-- The text of a run, and its lines; and that its events are of a plan.
use Rattle.std.specs.Prelude.{◌≡◌, ℕ, ◌+◌, List, [], ◌∷◌, ◌++◌, length, map, take, codes, Some, slice_get}
use Rattle.wdf_base.specs.Meaning.{Meaning}
use Rattle.wdf_base.specs.declared.plan.Plan.{Plan}
use Rattle.wdf_base.specs.declared.event.Event.{Event}
use Rattle.wdf_base.specs.declared.event.Ending.{Ending}
use Rattle.wdf_base.specs.declared.event.Ending.TheVariants as ending
use Rattle.wdf_base.specs.declared.wait.WaitLine.{WaitLine}
use Rattle.wdf_model.specs.rules.Ready.{ending_of}
use Rattle.wdf_model.specs.rules.Waits.{wait_list}
use Rattle.wdf_lines.specs.Lines.{line_text, lines_from}
use Rattle.wdf_lines.specs.Endings.{ending_text, wait_text, wait_lines}
use Rattle.wdf_trace.specs.Events.{IsEventOf}
use Rattle.wdf_run_text.specs.Lines.{fed}

-- The text of a run: a line for each event, the line of its ending, and a line for each line of its wait list.
abbrev pub text_of : {A : Type 0} → Plan → Meaning A → List Event → List ℕ
text_of plan m run =
    lines_from plan 1 run ++ ((ending_text (length run) (ending_of plan m run) ++ codes "\n") ++ wait_lines plan (wait_list plan m run))

-- a line for each event, with their numbers from here on
abbrev pub event_lines : Plan → ℕ → List Event → List (List ℕ)
event_lines plan number [] = []
event_lines plan number (e ∷ es) = fed (line_text plan number e) ∷ event_lines plan (number + 1) es

-- a line of the wait list
abbrev pub fed_wait : Plan → WaitLine → List ℕ
fed_wait plan w = fed (wait_text plan w)

-- the lines after the events of a run that ended so, with this many events and these lines of its wait list
abbrev pub last_lines : Plan → ℕ → List WaitLine → Ending → List (List ℕ)
last_lines plan events waits ending.Running = []
last_lines plan events waits e = fed (ending_text events e) ∷ map (fed_wait plan) waits

-- the lines after the events: none while the run goes on
abbrev pub end_lines : {A : Type 0} → Plan → Meaning A → List Event → List (List ℕ)
end_lines plan m run = last_lines plan (length run) (wait_list plan m run) (ending_of plan m run)

-- the lines of a run's events, and this many of those after them
abbrev pub lines_so_far : {A : Type 0} → Plan → Meaning A → List Event → ℕ → List (List ℕ)
lines_so_far plan m run told = event_lines plan 1 run ++ take told (end_lines plan m run)

-- ---- events of a plan

-- the event is among these
abbrev pub IsAmong : Event → List Event → Type 0
IsAmong event events = (place : ℕ) × (slice_get events place ≡ Some event)

-- each event is one of the plan
abbrev pub HasEventsOf : Plan → List Event → Type 0
HasEventsOf plan run = (event : Event) → IsAmong event run → IsEventOf plan event
