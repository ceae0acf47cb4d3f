-- The form of a line of the wait list: the line without the numbers of frames and requests. (own)
use Rattle.std.specs.Prelude.{if◌then◌else◌, ℕ, ◌==◌, List, [], ◌++◌, codes, decimal, Option, Some, None}
use Rattle.wdf_base.specs.declared.plan.Plan.{Plan}
use Rattle.wdf_base.specs.declared.ids.Handle.{Handle}
use Rattle.wdf_base.specs.declared.wait.OpenThing.{OpenThing}
use Rattle.wdf_base.specs.declared.wait.OpenThing.TheVariants as thing
use Rattle.wdf_base.specs.declared.wait.Cause.{Cause}
use Rattle.wdf_base.specs.declared.wait.Cause.TheVariants as cause
use Rattle.wdf_base.specs.declared.wait.WaitLine.{WaitLine}
use Rattle.wdf_base.specs.Words.{callback_word}
use Rattle.wdf_lines.specs.Lines.{object_text}
use Rattle.wdf_lines.specs.Endings.{step_word}

-- an object: a request, whose name is the second of the plan's, without its number
abbrev pub object_form : Plan → Handle → List ℕ
object_form plan o = if o.name == 1 then codes "req" else object_text plan o

-- what is open, a row for each form
abbrev pub thing_form : Plan → OpenThing → List ℕ
thing_form plan (thing.Waiting f callback o) = codes "frame " ++ callback_word callback ++ codes " " ++ object_form plan o ++ codes " waits"
thing_form plan (thing.Owned r) = codes "owned"
thing_form plan (thing.Sent r t) = codes "sent " ++ object_form plan t
thing_form plan (thing.Queued r q) = codes "queued " ++ object_form plan q
thing_form plan (thing.Returning r q) = codes "returning " ++ object_form plan q
thing_form plan (thing.Sequence d s) = object_form plan d ++ codes " " ++ step_word s ++ codes " waits"
thing_form plan (thing.Leaving o) = object_form plan o
thing_form plan (thing.Deferred o) = object_form plan o ++ codes " queued"
thing_form plan (thing.Asking d) = codes "pnp waits " ++ object_form plan d

-- why it is open, after a blank, a row for each cause
abbrev pub cause_form : Plan → Option Cause → List ℕ
cause_form plan None = []
cause_form plan (Some (cause.ByFrame f)) = codes " frame"
cause_form plan (Some (cause.ByLock l f)) = codes " lock " ++ object_form plan l ++ codes " of frame"
cause_form plan (Some (cause.ByRequest r)) = codes " request"
cause_form plan (Some (cause.ByWork w)) = codes " work " ++ object_form plan w
cause_form plan (Some cause.Stopped) = codes " stopped"
cause_form plan (Some cause.Unpowered) = codes " unpowered"
cause_form plan (Some cause.Manual) = codes " manual"
cause_form plan (Some (cause.Behind r)) = codes " behind"
cause_form plan (Some cause.Full) = codes " full"
cause_form plan (Some cause.ScopeHeld) = codes " scope"
cause_form plan (Some cause.NoCpu) = codes " cpus"
cause_form plan (Some (cause.References n)) = codes " references " ++ decimal n
cause_form plan (Some (cause.ByChild c)) = codes " child " ++ object_form plan c
cause_form plan (Some (cause.AtTarget t)) = codes " sent " ++ object_form plan t

-- The form of a line: what is open, and why.
abbrev pub wait_form : Plan → WaitLine → List ℕ
wait_form plan wait = thing_form plan wait.thing ++ cause_form plan wait.cause
