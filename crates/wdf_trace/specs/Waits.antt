-- Which texts are lines of an ending and lines of a wait list, and what such a line gives.
use Rattle.std.specs.Prelude.{if◌then◌else◌, ◌≡◌, ◌≢◌, ℕ, ◌+◌, ◌^◌, ◌<◌, Bool, true, false, List, codes, Option, Some, None}
use Rattle.std.specs.Str.{bytes_eq}
use Rattle.wdf_base.specs.declared.plan.Plan.{Plan}
use Rattle.wdf_base.specs.declared.ids.FrameId.{FrameId}
use Rattle.wdf_base.specs.declared.event.Ending.{Ending}
use Rattle.wdf_base.specs.declared.event.Ending.TheVariants as ending
use Rattle.wdf_base.specs.declared.event.Fault.TheVariants as fault
use Rattle.wdf_base.specs.declared.event.Stage.{Stage}
use Rattle.wdf_base.specs.declared.event.Step.{Step}
use Rattle.wdf_base.specs.declared.event.Step.TheVariants as step
use Rattle.wdf_base.specs.declared.call.Callback.{Callback}
use Rattle.wdf_base.specs.declared.wait.OpenThing.{OpenThing}
use Rattle.wdf_base.specs.declared.wait.OpenThing.TheVariants as thing
use Rattle.wdf_base.specs.declared.wait.Cause.{Cause}
use Rattle.wdf_base.specs.declared.wait.Cause.TheVariants as cause
use Rattle.wdf_base.specs.declared.wait.WaitLine.{WaitLine}
use Rattle.wdf_lines.specs.Endings.{ending_text}
use Rattle.wdf_trace.specs.declared.cause_word.CauseWord.{CauseWord}
use Rattle.wdf_trace.specs.declared.cause_word.CauseWord.TheVariants as cause_word
use Rattle.wdf_trace.specs.CauseWords.{cause_word_of}
use Rattle.wdf_trace.specs.Events.{IsHandleOf}
use Rattle.wdf_trace.specs.Reading.{word, short_of, has_dot, object_of}
use Rattle.wdf_trace.specs.Told.{callback_named, callback_in, stage_in}

-- ---- endings

-- the text is the line of an ending
abbrev pub IsEndingText : List ℕ → Type 0
IsEndingText text = (events : ℕ) × (e : Ending) × (events < 2 ^ 64) × (e ≢ ending.Running) × (ending_text events e ≡ text)

-- the ending that a word gives; a fault is any
abbrev pub ending_of : List ℕ → Ending
ending_of w =
    if bytes_eq w (codes "finished") then ending.Finished
    else if bytes_eq w (codes "limit") then ending.Limit
    else if bytes_eq w (codes "fault") then ending.Fault fault.ScriptError
    else if bytes_eq w (codes "stuck") then ending.Stuck
    else ending.Running

-- ---- the lines of a wait list

-- The causes of each form, a row for each.
abbrev pub has_cause : OpenThing → Option Cause → Bool
has_cause (thing.Waiting f c o) (Some (cause.ByFrame g)) = true
has_cause (thing.Waiting f c o) (Some (cause.ByLock l g)) = true
has_cause (thing.Waiting f c o) (Some (cause.ByRequest r)) = true
has_cause (thing.Waiting f c o) (Some (cause.ByWork w)) = true
has_cause (thing.Waiting f c o) (Some cause.NoCpu) = true
has_cause (thing.Owned r) None = true
has_cause (thing.Sent r t) None = true
has_cause (thing.Queued r q) (Some cause.Stopped) = true
has_cause (thing.Queued r q) (Some cause.Unpowered) = true
has_cause (thing.Queued r q) (Some cause.Manual) = true
has_cause (thing.Queued r q) (Some (cause.Behind b)) = true
has_cause (thing.Queued r q) (Some cause.Full) = true
has_cause (thing.Queued r q) (Some cause.ScopeHeld) = true
has_cause (thing.Queued r q) (Some cause.NoCpu) = true
has_cause (thing.Returning r q) (Some cause.ScopeHeld) = true
has_cause (thing.Returning r q) (Some cause.NoCpu) = true
has_cause (thing.Sequence d s) (Some (cause.ByRequest r)) = true
has_cause (thing.Sequence d s) (Some (cause.ByFrame f)) = true
has_cause (thing.Sequence d s) (Some cause.NoCpu) = true
has_cause (thing.Leaving o) (Some (cause.References n)) = true
has_cause (thing.Leaving o) (Some (cause.ByChild c)) = true
has_cause (thing.Leaving o) (Some (cause.ByFrame f)) = true
has_cause (thing.Leaving o) (Some cause.NoCpu) = true
has_cause (thing.Leaving o) (Some (cause.AtTarget t)) = true
has_cause (thing.Deferred o) (Some cause.ScopeHeld) = true
has_cause (thing.Deferred o) (Some (cause.ByFrame f)) = true
has_cause (thing.Deferred o) (Some cause.NoCpu) = true
has_cause (thing.Asking d) None = true
has_cause _ _ = false

-- what is open has names of the plan
abbrev pub IsThingOf : Plan → OpenThing → Type 0
IsThingOf plan (thing.Waiting f c o) = (f.0 < 2 ^ 32) × IsHandleOf plan o
IsThingOf plan (thing.Owned r) = IsHandleOf plan r
IsThingOf plan (thing.Sent r t) = IsHandleOf plan r × IsHandleOf plan t
IsThingOf plan (thing.Queued r q) = IsHandleOf plan r × IsHandleOf plan q
IsThingOf plan (thing.Returning r q) = IsHandleOf plan r × IsHandleOf plan q
IsThingOf plan (thing.Sequence d s) = IsHandleOf plan d
IsThingOf plan (thing.Leaving o) = IsHandleOf plan o
IsThingOf plan (thing.Deferred o) = IsHandleOf plan o
IsThingOf plan (thing.Asking d) = IsHandleOf plan d

-- a cause has names of the plan
abbrev pub IsCauseOf : Plan → Option Cause → Type 0
IsCauseOf plan (Some (cause.ByFrame f)) = f.0 < 2 ^ 32
IsCauseOf plan (Some (cause.ByLock l f)) = IsHandleOf plan l × (f.0 < 2 ^ 32)
IsCauseOf plan (Some (cause.ByRequest r)) = IsHandleOf plan r
IsCauseOf plan (Some (cause.ByWork w)) = IsHandleOf plan w
IsCauseOf plan (Some (cause.Behind r)) = IsHandleOf plan r
IsCauseOf plan (Some (cause.References n)) = n < 2 ^ 32
IsCauseOf plan (Some (cause.ByChild c)) = IsHandleOf plan c
IsCauseOf plan (Some (cause.AtTarget t)) = IsHandleOf plan t
IsCauseOf plan _ = Unit {0}

-- the lines whose texts are lines of a wait list: the form and the cause are in one row
abbrev pub IsWaitOf : Plan → WaitLine → Type 0
IsWaitOf plan w = (has_cause w.thing w.cause ≡ true) × IsThingOf plan w.thing × IsCauseOf plan w.cause

-- ---- what a line of a wait list gives

-- a frame that a word names
abbrev pub frame_of : List ℕ → FrameId
frame_of w = record { 0 = short_of w }

-- the cause with this word, whose parts come after place k
abbrev pub cause_with : Plan → ℕ → List (List ℕ) → Option CauseWord → Option Cause
cause_with plan k ws None = None
cause_with plan k ws (Some cause_word.Frame) = Some (cause.ByFrame (frame_of (word (k + 1) ws)))
cause_with plan k ws (Some cause_word.Lock) = Some (cause.ByLock (object_of plan (word (k + 1) ws)) (frame_of (word (k + 4) ws)))
cause_with plan k ws (Some cause_word.Request) = Some (cause.ByRequest (object_of plan (word (k + 1) ws)))
cause_with plan k ws (Some cause_word.Work) = Some (cause.ByWork (object_of plan (word (k + 1) ws)))
cause_with plan k ws (Some cause_word.Stopped) = Some cause.Stopped
cause_with plan k ws (Some cause_word.Unpowered) = Some cause.Unpowered
cause_with plan k ws (Some cause_word.Manual) = Some cause.Manual
cause_with plan k ws (Some cause_word.Behind) = Some (cause.Behind (object_of plan (word (k + 1) ws)))
cause_with plan k ws (Some cause_word.Full) = Some cause.Full
cause_with plan k ws (Some cause_word.Scope) = Some cause.ScopeHeld
cause_with plan k ws (Some cause_word.Cpus) = Some cause.NoCpu
cause_with plan k ws (Some cause_word.References) = Some (cause.References (short_of (word (k + 1) ws)))
cause_with plan k ws (Some cause_word.Child) = Some (cause.ByChild (object_of plan (word (k + 1) ws)))
cause_with plan k ws (Some cause_word.Sent) = Some (cause.AtTarget (object_of plan (word (k + 1) ws)))

-- the cause that comes from place k on
abbrev pub cause_in : Plan → ℕ → List (List ℕ) → Option Cause
cause_in plan k ws = cause_with plan k ws (cause_word_of (word k ws))

-- the step that a word names, without an interrupt
abbrev pub step_with : Option Callback → Stage → Step
step_with None s = step.Pass s None
step_with (Some c) s = step.Run c None

abbrev pub step_of : List ℕ → Step
step_of w = step_with (callback_named w) (stage_in w)

-- a line with `queued`: a request in the line of a queue, or an object that is queued itself
abbrev pub queued_line : Plan → List (List ℕ) → WaitLine
queued_line plan ws =
    if has_dot (word 2 ws) then record { thing = thing.Queued (object_of plan (word 0 ws)) (object_of plan (word 2 ws)); cause = cause_in plan 3 ws }
    else record { thing = thing.Deferred (object_of plan (word 0 ws)); cause = cause_in plan 2 ws }

-- a line with the step of a sequence
abbrev pub sequence_line : Plan → List (List ℕ) → WaitLine
sequence_line plan ws = record { thing = thing.Sequence (object_of plan (word 0 ws)) (step_of (word 1 ws)); cause = cause_in plan 3 ws }

-- a line that begins with an object
abbrev pub object_line : Plan → List (List ℕ) → WaitLine
object_line plan ws =
    if bytes_eq (word 1 ws) (codes "owned") then record { thing = thing.Owned (object_of plan (word 0 ws)); cause = None }
    else if bytes_eq (word 1 ws) (codes "sent") then record { thing = thing.Sent (object_of plan (word 0 ws)) (object_of plan (word 2 ws)); cause = None }
    else if bytes_eq (word 1 ws) (codes "returning") then record { thing = thing.Returning (object_of plan (word 0 ws)) (object_of plan (word 2 ws)); cause = cause_in plan 3 ws }
    else if bytes_eq (word 2 ws) (codes "waits") then sequence_line plan ws
    else if bytes_eq (word 1 ws) (codes "queued") then queued_line plan ws
    else record { thing = thing.Leaving (object_of plan (word 0 ws)); cause = cause_in plan 1 ws }

-- the line that these words give
abbrev pub wait_in : Plan → List (List ℕ) → WaitLine
wait_in plan ws =
    if bytes_eq (word 0 ws) (codes "frame") then record { thing = thing.Waiting (frame_of (word 1 ws)) (callback_in (word 2 ws)) (object_of plan (word 3 ws)); cause = cause_in plan 5 ws }
    else if bytes_eq (word 0 ws) (codes "pnp") then record { thing = thing.Asking (object_of plan (word 2 ws)); cause = None }
    else object_line plan ws
