-- How an object is at the end of a run, in words: who has it, and what is under way with it. (own)
use Rattle.std.specs.Prelude.{if◌then◌else◌, ℕ, ◌==◌, List, [], ◌++◌, codes, decimal, Option, Some, None}
use Rattle.wdf_base.specs.declared.plan.Plan.{Plan}
use Rattle.wdf_base.specs.declared.ids.Handle.{Handle}
use Rattle.wdf_base.specs.declared.object.Life.{Life}
use Rattle.wdf_base.specs.declared.object.Life.TheVariants as life
use Rattle.wdf_base.specs.declared.object.Mark.{Mark}
use Rattle.wdf_base.specs.declared.object.Mark.TheVariants as mark
use Rattle.wdf_base.specs.declared.event.Event.{Event}
use Rattle.wdf_base.specs.Words.{status_word}
use Rattle.wdf_lines.specs.Lines.{object_text}
use Rattle.wdf_explain.specs.declared.told.Having.{Having}
use Rattle.wdf_explain.specs.declared.told.Having.TheVariants as having
use Rattle.wdf_explain.specs.declared.told.Standing.{Standing}
use Rattle.wdf_explain.specs.declared.asked.Asked.TheVariants.{Moves, Takes}
use Rattle.wdf_explain.specs.About.{last_number, numbers_of}

-- since which event, where one is known
abbrev pub since_text : Option ℕ → List ℕ
since_text None = codes "."
since_text (Some n) = codes ", since event " ++ decimal n ++ codes "."

-- the last event that brought a request where it is
abbrev pub moved_at : List Event → Handle → Option ℕ
moved_at run h = last_number (numbers_of (Moves h.id) run)

-- the last event that took the lock of an object
abbrev pub taken_at : List Event → Handle → Option ℕ
taken_at run h = last_number (numbers_of (Takes h.id) run)

-- the frame that holds a lock
abbrev pub holder_text : Option ℕ → Option ℕ → List ℕ
holder_text at None = codes " No callback holds its lock."
holder_text at (Some f) = codes " The callback of event " ++ decimal f ++ codes " holds its lock" ++ since_text at

-- Who has an object, a row for each.
abbrev pub having_text : Plan → List Event → Handle → Having → List ℕ
having_text plan run h having.Driver = codes " The driver has it" ++ since_text (moved_at run h)
having_text plan run h (having.Queued q) = codes " It waits in " ++ object_text plan q ++ since_text (moved_at run h)
having_text plan run h (having.Target t) = codes " It is at " ++ object_text plan t ++ since_text (moved_at run h)
having_text plan run h having.Done = codes " It is completed" ++ since_text (moved_at run h)
having_text plan run h (having.Returning q) = codes " It was cancelled in " ++ object_text plan q ++ codes ", and EvtIoCanceledOnQueue is due for it."
having_text plan run h (having.Closing s) = codes " The framework is about to complete it with " ++ status_word s ++ codes "."
having_text plan run h (having.Lock f) = holder_text (taken_at run h) f
having_text plan run h having.Nobody = []

-- how far the cancel of a request has come
abbrev pub mark_text : Mark → List ℕ
mark_text mark.Unmarked = []
mark_text mark.Marked = codes " It is cancelable."
mark_text mark.Due = codes " It was cancelable and is cancelled: its EvtRequestCancel is due."
mark_text mark.Taken = codes " Its EvtRequestCancel has begun."

-- how many references the driver holds
abbrev pub references_text : ℕ → List ℕ
references_text n = if n == 0 then [] else codes " The driver holds " ++ decimal n ++ codes " references to it."

-- how far its deletion has come
abbrev pub life_text : Life → List ℕ
life_text life.Live = codes " Nobody has asked for its deletion."
life_text life.Asked = codes " Its deletion was asked."
life_text life.Cleaned = codes " It is cleaned up."
life_text life.Gone = codes " It is gone."

-- who has an object, and how far its cancel has come
unfoldable pub who_text : Plan → List Event → Standing → List ℕ
who_text plan run s = having_text plan run s.object s.having ++ mark_text s.mark

-- its references, and how far its deletion has come
unfoldable pub kept_text : Standing → List ℕ
kept_text s = references_text s.references ++ life_text s.life

-- How an object is, in one line.
unfoldable pub standing_text : Plan → List Event → Standing → List ℕ
standing_text plan run s = object_text plan s.object ++ codes ":" ++ who_text plan run s ++ kept_text s ++ codes "\n"
