-- What becomes of one line, after the lines of a run so far.
use Rattle.std.specs.Prelude.{◌≡◌, ◌≢◌, ◌+◌, ◌≤◌, ◌⊎◌, ℕ, List, [], ◌∷◌, ◌++◌, drop, length, map, Some, slice_get, Result, Ok, Err}
use Rattle.wdf_base.specs.Meaning.{Meaning}
use Rattle.wdf_base.specs.declared.plan.Plan.{Plan}
use Rattle.wdf_base.specs.declared.event.Event.{Event}
use Rattle.wdf_model.specs.rules.Ready.{ready}
use Rattle.wdf_lines.specs.Lines.{line_text}
use Rattle.wdf_trace.specs.Events.{IsEventOf}
use Rattle.wdf_trace.specs.Waits.{IsEndingText}
use Rattle.wdf_replay.specs.declared.verdict.Why.{Why}
use Rattle.wdf_replay.specs.declared.verdict.Why.TheVariants as why
use Rattle.wdf_replay.specs.declared.step.Reading.{Reading}
use Rattle.wdf_replay.specs.declared.step.Reading.TheVariants as reading
use Rattle.wdf_replay.specs.declared.told.Told.{Told}
use Rattle.wdf_core.specs.Walks.{waits_from}
use Rattle.wdf_run_text.specs.Texts.{end_lines, fed_wait, lines_so_far, IsAmong, HasEventsOf}
use Rattle.wdf_replay.specs.Verdicts.{IsEventText, IsWaitText, IsNotReady, IsBadLine}

-- what a text is as far as events go, with the events before and after
abbrev pub IsReadAs : {A : Type 0} → Plan → Meaning A → List Event → List Event → List ℕ → Reading → Type 0
IsReadAs plan m old new text reading.Taken =
    (event : Event) × IsEventOf plan event × IsAmong event (ready plan m old) × (line_text plan (length old + 1) event ≡ text) × (new ≡ old ++ event ∷ [])
IsReadAs plan m old new text reading.NotReady = (new ≡ old) × IsNotReady plan m old text
IsReadAs plan m old new text reading.NoEvent = (new ≡ old) × (IsEventText plan text → ⊥)

-- none of the lines after the events has come; or those that are left are the wait list's from this place on, as many as are counted
abbrev pub IsTold : {A : Type 0} → Plan → Meaning A → List Event → Told → Type 0
IsTold plan m run told =
    (told.lines ≡ 0)
    ⊎ ((drop told.lines (end_lines plan m run) ≡ map (fed_wait plan) (waits_from plan m run told.place)) × (length (waits_from plan m run told.place) ≡ told.left))

-- the line was the next of the lines after the events; or it wasn't, and the reason is the given one
abbrev pub IsTakenEnd : {A : Type 0} → Plan → Meaning A → List Event → Told → List ℕ → Why → Result Told Why → Type 0
IsTakenEnd plan m run told line why (Ok now) = (now.lines ≡ told.lines + 1) × (slice_get (end_lines plan m run) told.lines ≡ Some line) × IsTold plan m run now
IsTakenEnd plan m run told line why (Err y) = (y ≡ why) × (slice_get (end_lines plan m run) told.lines ≢ Some line)

-- why a text is bad that is the line of no event
abbrev pub IsNoEventFor : Plan → List ℕ → Why → Type 0
IsNoEventFor plan text why.WrongEnding = IsEndingText text ⊎ IsWaitText plan text
IsNoEventFor plan text why.NotALine = (IsEndingText text → ⊥) × (IsWaitText plan text → ⊥)
IsNoEventFor plan text _ = ⊥

-- The line was the next one, and is now among the lines so far; or it is bad, and there are no more events.
abbrev pub IsTakenLine : {A : Type 0} → Plan → Meaning A → List Event → List Event → Told → List ℕ → Result Told Why → Type 0
IsTakenLine plan m old new told line (Ok now) =
    (lines_so_far plan m new now.lines ≡ lines_so_far plan m old told.lines ++ line ∷ []) × (now.lines ≤ length (end_lines plan m new)) × (now.lines ≤ told.lines + 1)
    × (HasEventsOf plan old → HasEventsOf plan new) × IsTold plan m new now
IsTakenLine plan m old new told line (Err why) = IsBadLine plan m old told.lines why line × (new ≡ old)
