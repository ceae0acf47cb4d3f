-- When a trace is accepted, and which line of it is refused, and why.
use Rattle.std.specs.Prelude.{◌≡◌, ◌≢◌, ℕ, ◌+◌, ◌^◌, ◌<◌, ◌≤◌, ◌⊎◌, List, [], ◌∷◌, ◌++◌, length, Some, slice_get}
use Rattle.wdf_base.specs.Meaning.{Meaning}
use Rattle.wdf_base.specs.declared.plan.Plan.{Plan}
use Rattle.wdf_base.specs.declared.event.Event.{Event}
use Rattle.wdf_base.specs.declared.event.Ending.{Ending}
use Rattle.wdf_base.specs.declared.event.Ending.TheVariants as ending
use Rattle.wdf_base.specs.declared.wait.WaitLine.{WaitLine}
use Rattle.wdf_model.specs.rules.Ready.{IsRunOf, ending_of, ready}
use Rattle.wdf_lines.specs.Lines.{line_text}
use Rattle.wdf_lines.specs.Endings.{wait_text}
use Rattle.wdf_trace.specs.Events.{IsEventOf}
use Rattle.wdf_trace.specs.Waits.{IsEndingText, IsWaitOf}
use Rattle.wdf_replay.specs.declared.verdict.Why.{Why}
use Rattle.wdf_replay.specs.declared.verdict.Why.TheVariants.{NotALine, NotReady, WrongEnding, Missing}
use Rattle.wdf_replay.specs.declared.verdict.Verdict.{Verdict}
use Rattle.wdf_replay.specs.declared.verdict.Verdict.TheVariants.{Accepted, RefusedAt}
use Rattle.wdf_run_text.specs.Lines.{fed, trace_lines}
use Rattle.wdf_run_text.specs.Texts.{text_of, event_lines, end_lines, lines_so_far, IsAmong, HasEventsOf}

-- ---- which texts are lines

-- the text of an event of the plan with this number
abbrev pub IsTextOfEvent : Plan → ℕ → Event → List ℕ → Type 0
IsTextOfEvent plan number event text = (number < 2 ^ 64) × IsEventOf plan event × (line_text plan number event ≡ text)

abbrev pub IsEventText : Plan → List ℕ → Type 0
IsEventText plan text = (number : ℕ) × (event : Event) × IsTextOfEvent plan number event text

-- the text of a line of a wait list
abbrev pub IsWaitText : Plan → List ℕ → Type 0
IsWaitText plan text = (wait : WaitLine) × (wait_text plan wait ≡ text) × IsWaitOf plan wait

-- ---- accepted

-- The trace is the text of a run that ended so.
pub record IsAccepted {A : Type 0} (plan : Plan) (m : Meaning A) (trace : List ℕ) (e : Ending) : Type 0 where
  pub run : List Event
  pub is_run : IsRunOf plan m run
  pub ended : ending_of plan m run ≡ e
  pub over : e ≢ ending.Running
  pub text : trace ≡ text_of plan m run
  -- its lines are those of the run, and its events are of the plan
  pub lines : trace_lines trace ≡ event_lines plan 1 run ++ end_lines plan m run
  pub valid : HasEventsOf plan run
  pub limited : length run ≤ plan.limit

-- ---- refused

-- the line is that of an event, which isn't the next one of the run
abbrev pub IsNotReady : {A : Type 0} → Plan → Meaning A → List Event → List ℕ → Type 0
IsNotReady plan m run text =
    (number : ℕ) × (event : Event) × IsTextOfEvent plan number event text
    × (number ≡ length run + 1 → IsAmong event (ready plan m run) → ⊥)

-- why a line is bad after these events and this many of the lines after them, a row for each reason
abbrev pub IsBadFor : {A : Type 0} → Plan → Meaning A → List Event → Why → List ℕ → Type 0
IsBadFor plan m run NotALine line =
    (text : List ℕ) → line ≡ fed text → (IsEventText plan text → ⊥) × (IsEndingText text → ⊥) × (IsWaitText plan text → ⊥)
IsBadFor plan m run NotReady line = (text : List ℕ) × (line ≡ fed text) × IsNotReady plan m run text
IsBadFor plan m run WrongEnding line =
    (text : List ℕ) × (line ≡ fed text) × (IsEventText plan text → ⊥) × (IsEndingText text ⊎ IsWaitText plan text)
IsBadFor plan m run Missing line = ⊥

-- the line is bad, and it isn't the next of the lines after the events
abbrev pub IsBadLine : {A : Type 0} → Plan → Meaning A → List Event → ℕ → Why → List ℕ → Type 0
IsBadLine plan m run told why line = IsBadFor plan m run why line × (slice_get (end_lines plan m run) told ≢ Some line)

-- what is left of the trace is bad: its first line, or that there is none where the run's text has more
abbrev pub IsBad : {A : Type 0} → Plan → Meaning A → List Event → ℕ → Why → List (List ℕ) → Type 0
IsBad plan m run told why (line ∷ lines) = IsBadLine plan m run told why line
IsBad plan m run told why [] =
    (why ≡ Missing) × ((ending_of plan m run ≡ ending.Running) ⊎ (told < length (end_lines plan m run)))

-- The lines before are those of a run so far, and what is left is bad.
pub record IsRefused {A : Type 0} (plan : Plan) (m : Meaning A) (trace : List ℕ) (line : ℕ) (why : Why) : Type 0 where
  pub run : List Event
  pub is_run : IsRunOf plan m run
  pub valid : HasEventsOf plan run
  pub limited : length run ≤ plan.limit
  pub told : ℕ
  pub within : told ≤ length (end_lines plan m run)
  pub left : List (List ℕ)
  pub good : trace_lines trace ≡ lines_so_far plan m run told ++ left
  pub number : line ≡ length (lines_so_far plan m run told) + 1
  pub bad : IsBad plan m run told why left

-- What the verdict on a trace says of it.
abbrev pub GivesVerdict : {A : Type 0} → Plan → Meaning A → List ℕ → Verdict → Type 0
GivesVerdict plan m trace (Accepted e) = IsAccepted plan m trace e
GivesVerdict plan m trace (RefusedAt line why) = IsRefused plan m trace line why

-- an accepted trace is the text of this run; of a refused one, the lines before the bad one are those of this run so far
abbrev pub IsLeft : {A : Type 0} → Plan → Meaning A → List ℕ → Verdict → List Event → Type 0
IsLeft plan m trace (Accepted e) run = (accepted : IsAccepted plan m trace e) × (accepted.run ≡ run)
IsLeft plan m trace (RefusedAt line why) run = (refused : IsRefused plan m trace line why) × (refused.run ≡ run)

-- The lines of the trace are those of a run that has ended, whose events are of the plan.
pub record IsWhole {A : Type 0} (plan : Plan) (m : Meaning A) (trace : List ℕ) (run : List Event) : Type 0 where
  pub is_run : IsRunOf plan m run
  pub over : ending_of plan m run ≢ ending.Running
  pub valid : HasEventsOf plan run
  pub lines : trace_lines trace ≡ event_lines plan 1 run ++ end_lines plan m run
