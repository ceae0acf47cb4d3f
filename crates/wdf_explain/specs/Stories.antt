-- The story of a run's ending. (own)
use Rattle.std.specs.Prelude.{if◌then◌else◌, ℕ, ◌+◌, ◌-◌, Bool, true, false, List, [], ◌∷◌, ◌++◌, codes, decimal, length, Option, Some, None, slice_get}
use Rattle.wdf_base.specs.declared.plan.Plan.{Plan}
use Rattle.wdf_base.specs.declared.ids.Cpu.{Cpu}
use Rattle.wdf_base.specs.declared.ids.Handle.{Handle}
use Rattle.wdf_base.specs.declared.event.Event.{Event}
use Rattle.wdf_base.specs.declared.event.Event.TheVariants as event
use Rattle.wdf_base.specs.declared.event.Ending.{Ending}
use Rattle.wdf_base.specs.declared.event.Ending.TheVariants as ending
use Rattle.wdf_base.specs.declared.event.Fault.{Fault}
use Rattle.wdf_base.specs.declared.frame.Intent.{Intent}
use Rattle.wdf_base.specs.declared.frame.Intent.TheVariants as intent
use Rattle.wdf_base.specs.declared.wait.OpenThing.{OpenThing}
use Rattle.wdf_base.specs.declared.wait.OpenThing.TheVariants as thing
use Rattle.wdf_base.specs.declared.wait.WaitLine.{WaitLine}
use Rattle.wdf_base.specs.Words.{callback_word, fault_word}
use Rattle.wdf_lines.specs.Endings.{wait_text}
use Rattle.wdf_lines.specs.Lines.{object_text}
use Rattle.wdf_explain.specs.declared.told.Doing.{Doing}
use Rattle.wdf_explain.specs.declared.told.Standing.{Standing}
use Rattle.wdf_explain.specs.declared.asked.Asked.TheVariants.{About, OnCpu}
use Rattle.wdf_explain.specs.About.{event_lines, frame_of, last_of, numbers_of}
use Rattle.wdf_explain.specs.Links.{circle_text, next_of}
use Rattle.wdf_explain.specs.Rules.{rule_text, why_text}
use Rattle.wdf_explain.specs.Standings.{moved_at, standing_text}
use Rattle.wdf_explain.specs.Words.{intent_text}

-- ---- a fault

-- the heading of the events about an object
unfoldable pub heading_text : Plan → Handle → List ℕ
heading_text plan o = codes "The last events about " ++ object_text plan o ++ codes ":\n"

-- an object at the end of a run, and the last events about it
abbrev pub object_story : Plan → List Event → Option Standing → List ℕ
object_story plan run None = []
object_story plan run (Some s) = standing_text plan run s ++ heading_text plan s.object ++ event_lines plan run (last_of (numbers_of (About s.object.id) run))

-- the heading of the events on a processor
unfoldable pub cpu_heading : Cpu → List ℕ
cpu_heading cpu = codes "The last events on cpu" ++ decimal cpu.0 ++ codes ":\n"

-- the last events on a processor
abbrev pub cpu_story : Plan → List Event → Cpu → List ℕ
cpu_story plan run cpu = cpu_heading cpu ++ event_lines plan run (last_of (numbers_of (OnCpu cpu) run))

-- a frame is about to make a call
abbrev pub is_call : Intent → Bool
is_call (intent.Do c) = true
is_call _ = false

-- what is told of what a frame is about to do: of a call its objects, of anything else the processor
abbrev pub objects_story : Plan → List Event → Doing → List ℕ
objects_story plan run d =
    if is_call d.intent then object_story plan run d.first ++ object_story plan run d.second ++ object_story plan run d.third else cpu_story plan run d.cpu

-- the callback of a frame
unfoldable pub callback_text : Plan → Doing → List ℕ
callback_text plan d = callback_word d.callback ++ (codes " of " ++ object_text plan d.object ++ codes " began on cpu")

-- its processor, and the event with which it began
unfoldable pub began_text : Doing → List ℕ
began_text d = decimal d.cpu.0 ++ (codes " with event " ++ decimal d.number.0 ++ codes ". It was about to ")

-- what it was about to do
unfoldable pub about_text : Plan → Doing → List ℕ
about_text plan d = intent_text plan d.intent ++ codes ".\n"

-- the callback of a frame, and what it was about to do
unfoldable pub doing_text : Plan → Doing → List ℕ
doing_text plan d = callback_text plan d ++ began_text d ++ about_text plan d

-- what a frame was about to do, and how the objects are that it names
abbrev pub doing_story : Plan → List Event → Option Doing → List ℕ
doing_story plan run None = []
doing_story plan run (Some d) = doing_text plan d ++ objects_story plan run d

-- how many events there were
unfoldable pub ended_text : ℕ → List ℕ
ended_text events = codes "The run of " ++ decimal events ++ codes " events ended in the fault "

-- a fault and its line
unfoldable pub place_text : Fault → ℕ → List ℕ
place_text f line = fault_word f ++ (codes " at line " ++ decimal line ++ codes ".\n")

-- its rule
unfoldable pub rule_line : Fault → List ℕ
rule_line f = codes "The rule: " ++ rule_text f ++ codes "\n"

-- how many events there were, and a fault with its line and its rule
unfoldable pub fault_text : ℕ → Fault → ℕ → List ℕ
fault_text events f line = ended_text events ++ place_text f line ++ rule_line f

-- the story of a fault
unfoldable pub told_fault : Plan → List Event → Option Doing → Fault → ℕ → List ℕ
told_fault plan run d f line = fault_text (length run) f line ++ doing_story plan run d

-- the story of the fault that an event is
abbrev pub fault_story : Plan → List Event → Option Doing → Option Event → List ℕ
fault_story plan run d (Some (event.Fault cpu f line)) = told_fault plan run d f line
fault_story plan run d _ = []

-- ---- a stuck run

-- the callback in which an event came, by the number of its start
abbrev pub in_callback : Option ℕ → List ℕ
in_callback None = []
in_callback (Some f) = codes " in the callback of event " ++ decimal f

-- since when the driver has a request, and in which callback it got it
abbrev pub owned_since : Plan → List Event → Option ℕ → List ℕ
owned_since plan run None = []
owned_since plan run (Some n) = codes "  It got it" ++ in_callback (frame_of run n) ++ codes ", by\n" ++ event_lines plan run (n ∷ [])

-- what is told of a request that the driver has
abbrev pub owned_story : Plan → List Event → OpenThing → List ℕ
owned_story plan run (thing.Owned r) = owned_since plan run (moved_at run r)
owned_story plan run _ = []

-- the line for which a line waits
abbrev pub see_text : Option ℕ → List ℕ
see_text None = []
see_text (Some i) = codes " See line " ++ decimal i ++ codes "."

-- a line of the wait list with this number
unfoldable pub numbered_text : Plan → ℕ → WaitLine → List ℕ
numbered_text plan n w = decimal n ++ (codes ": " ++ wait_text plan w ++ codes "\n")

-- why it is open, and the line for which it waits
unfoldable pub open_text : List WaitLine → WaitLine → List ℕ
open_text waits w = codes "  " ++ why_text w ++ see_text (next_of waits w) ++ codes "\n"

-- a line of the wait list with this number, why it is open, and the line for which it waits
unfoldable pub wait_story : Plan → List Event → List WaitLine → ℕ → WaitLine → List ℕ
wait_story plan run waits n w = numbered_text plan n w ++ open_text waits w ++ owned_story plan run w.thing

-- the lines of a wait list whose numbers begin here
abbrev pub wait_stories : Plan → List Event → List WaitLine → ℕ → List WaitLine → List ℕ
wait_stories plan run waits n [] = []
wait_stories plan run waits n (w ∷ ws) = wait_story plan run waits n w ++ wait_stories plan run waits (n + 1) ws

-- how many events there were
unfoldable pub stuck_text : ℕ → List ℕ
stuck_text events = codes "The run of " ++ decimal events ++ codes " events is stuck: this is open, and nothing can happen.\n"

abbrev pub stuck_story : Plan → List Event → List WaitLine → List ℕ
stuck_story plan run waits = stuck_text (length run) ++ wait_stories plan run waits 1 waits ++ circle_text waits

-- ---- all endings

-- The story of an ending, a row for each; an accepted run doesn't go on.
abbrev pub story_of : Plan → List Event → Option Doing → List WaitLine → Ending → List ℕ
story_of plan run d waits ending.Running = []
story_of plan run d waits ending.Finished = codes "The run of " ++ decimal (length run) ++ codes " events finished: nothing is open.\n"
story_of plan run d waits ending.Limit = codes "The run came to its limit of " ++ decimal (length run) ++ codes " events, and might go on.\n"
story_of plan run d waits (ending.Fault f) = fault_story plan run d (slice_get run (length run - 1))
story_of plan run d waits ending.Stuck = stuck_story plan run waits
