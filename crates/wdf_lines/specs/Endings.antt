-- The text of an ending and of each line of the wait list.
use Rattle.std.specs.Prelude.{ℕ, List, [], ◌∷◌, ◌++◌, codes, decimal, Option, Some, None}
use Rattle.wdf_base.specs.declared.plan.Plan.{Plan}
use Rattle.wdf_base.specs.declared.event.Ending.{Ending}
use Rattle.wdf_base.specs.declared.event.Ending.TheVariants as ending
use Rattle.wdf_base.specs.declared.event.Step.{Step}
use Rattle.wdf_base.specs.declared.event.Step.TheVariants as step
use Rattle.wdf_base.specs.declared.wait.OpenThing.{OpenThing}
use Rattle.wdf_base.specs.declared.wait.OpenThing.TheVariants as thing
use Rattle.wdf_base.specs.declared.wait.Cause.{Cause}
use Rattle.wdf_base.specs.declared.wait.Cause.TheVariants as cause
use Rattle.wdf_base.specs.declared.wait.WaitLine.{WaitLine}
use Rattle.wdf_base.specs.Words.{callback_word, stage_word}
use Rattle.wdf_lines.specs.Lines.{spaced, object_text}

-- words with a blank between each two
abbrev pub joined : List (List ℕ) → List ℕ
joined [] = []
joined (w ∷ ws) = w ++ spaced ws

-- ---- endings

-- the word of an ending; a run that goes on has none
abbrev pub ending_word : Ending → List ℕ
ending_word ending.Running = []
ending_word ending.Finished = codes "finished"
ending_word ending.Limit = codes "limit"
ending_word (ending.Fault f) = codes "fault"
ending_word ending.Stuck = codes "stuck"

-- the line of an ending: its word, and how many events there were
abbrev pub ending_text : ℕ → Ending → List ℕ
ending_text events e = joined (ending_word e ∷ decimal events ∷ [])

-- ---- wait lines

-- a step of a sequence is shown as its callback or its stage
abbrev pub step_word : Step → List ℕ
step_word (step.Run callback i) = callback_word callback
step_word (step.Pass stage i) = stage_word stage

-- what is open, a row for each form
abbrev pub thing_words : Plan → OpenThing → List (List ℕ)
thing_words plan (thing.Waiting f callback o) = codes "frame" ∷ decimal f.0 ∷ callback_word callback ∷ object_text plan o ∷ codes "waits" ∷ []
thing_words plan (thing.Owned r) = object_text plan r ∷ codes "owned" ∷ []
thing_words plan (thing.Sent r t) = object_text plan r ∷ codes "sent" ∷ object_text plan t ∷ []
thing_words plan (thing.Queued r q) = object_text plan r ∷ codes "queued" ∷ object_text plan q ∷ []
thing_words plan (thing.Returning r q) = object_text plan r ∷ codes "returning" ∷ object_text plan q ∷ []
thing_words plan (thing.Sequence d s) = object_text plan d ∷ step_word s ∷ codes "waits" ∷ []
thing_words plan (thing.Leaving o) = object_text plan o ∷ []
thing_words plan (thing.Deferred o) = object_text plan o ∷ codes "queued" ∷ []
thing_words plan (thing.Asking d) = codes "pnp" ∷ codes "waits" ∷ object_text plan d ∷ []

-- why it is open, a row for each cause
abbrev pub cause_words : Plan → Option Cause → List (List ℕ)
cause_words plan None = []
cause_words plan (Some (cause.ByFrame f)) = codes "frame" ∷ decimal f.0 ∷ []
cause_words plan (Some (cause.ByLock l f)) = codes "lock" ∷ object_text plan l ∷ codes "of" ∷ codes "frame" ∷ decimal f.0 ∷ []
cause_words plan (Some (cause.ByRequest r)) = codes "request" ∷ object_text plan r ∷ []
cause_words plan (Some (cause.ByWork w)) = codes "work" ∷ object_text plan w ∷ []
cause_words plan (Some cause.Stopped) = codes "stopped" ∷ []
cause_words plan (Some cause.Unpowered) = codes "unpowered" ∷ []
cause_words plan (Some cause.Manual) = codes "manual" ∷ []
cause_words plan (Some (cause.Behind r)) = codes "behind" ∷ object_text plan r ∷ []
cause_words plan (Some cause.Full) = codes "full" ∷ []
cause_words plan (Some cause.ScopeHeld) = codes "scope" ∷ []
cause_words plan (Some cause.NoCpu) = codes "cpus" ∷ []
cause_words plan (Some (cause.References n)) = codes "references" ∷ decimal n ∷ []
cause_words plan (Some (cause.ByChild c)) = codes "child" ∷ object_text plan c ∷ []
cause_words plan (Some (cause.AtTarget t)) = codes "sent" ∷ object_text plan t ∷ []

-- a line of the wait list: what is open, and why
abbrev pub wait_text : Plan → WaitLine → List ℕ
wait_text plan wait = joined (thing_words plan wait.thing ++ cause_words plan wait.cause)

-- the lines of a wait list, each with its line feed
abbrev pub wait_lines : Plan → List WaitLine → List ℕ
wait_lines plan [] = []
wait_lines plan (w ∷ ws) = (wait_text plan w ++ codes "\n") ++ wait_lines plan ws
