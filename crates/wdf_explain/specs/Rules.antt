-- The rule behind each fault, and what each cause of a wait means, in one sentence. (own)
use Rattle.std.specs.Prelude.{ℕ, List, codes, Option, Some, None}
use Rattle.wdf_base.specs.declared.event.Fault.{Fault}
use Rattle.wdf_base.specs.declared.event.Fault.TheVariants as fault
use Rattle.wdf_base.specs.declared.wait.Cause.{Cause}
use Rattle.wdf_base.specs.declared.wait.Cause.TheVariants as cause
use Rattle.wdf_base.specs.declared.wait.OpenThing.{OpenThing}
use Rattle.wdf_base.specs.declared.wait.OpenThing.TheVariants as thing
use Rattle.wdf_base.specs.declared.wait.WaitLine.{WaitLine}

-- The rule that a driver breaks with a fault, a row for each.
abbrev pub rule_text : Fault → List ℕ
rule_text fault.StaleHandle = codes "an object may be named until it is cleaned up, and with a reference until it is gone, but then only for its cells, its references and unmarking it."
rule_text fault.WrongKind = codes "each argument of a call is an object of the kind that the call asks for, and a request that the driver made isn't sent and forgotten."
rule_text fault.IrqlTooHigh = codes "a call may be made at the level that its row allows, or below. What needs a lower level goes to a DPC or a work item."
rule_text fault.NotOwned = codes "only who has a request may complete, mark, forward, requeue, send, acknowledge or ask about it."
rule_text fault.CompleteWhileMarked = codes "a cancelable request is unmarked before it is completed, forwarded, requeued, sent or given back at a stop."
rule_text fault.CompleteBeforeCancelCallback = codes "a cancelable request that was cancelled is its EvtRequestCancel's; nobody else may complete, forward, requeue, send or give it back."
rule_text fault.MarkedTwice = codes "a request is marked cancelable once, until it is unmarked."
rule_text fault.AckOutsideStop = codes "a request is acknowledged in its own EvtIoStop, and once."
rule_text fault.NoReferenceHeld = codes "a reference is given back by who holds one."
rule_text fault.DeleteNotAllowed = codes "a driver deletes what it made: no driver, device, queue, interrupt or target, and no request of an app."
rule_text fault.LockHeldAlready = codes "a callback takes a lock that it doesn't have; an interrupt's service routine has the interrupt's lock."
rule_text fault.LockNotHeld = codes "a callback gives back the locks that it took by a call, and no others."
rule_text fault.ReturnHoldingLock = codes "a callback ends without a lock that it took by a call."
rule_text fault.HardwareReleased = codes "registers are touched while the device has its hardware, from `hardware` to `no_hardware`."
rule_text fault.SyncInOwnScope = codes "a callback doesn't wait for callbacks of its own object, nor for ones that need the scope lock that it runs under."
rule_text fault.ScriptError = codes "each value is of the kind that its place asks for and within its limit, and no divisor is 0."

-- Why something waits, a row for each cause.
abbrev pub cause_text : Cause → List ℕ
cause_text (cause.ByFrame f) = codes "A callback keeps it."
cause_text (cause.ByLock l f) = codes "A callback holds the lock."
cause_text (cause.ByRequest r) = codes "A request keeps it."
cause_text (cause.ByWork w) = codes "The work item is still queued."
cause_text cause.Stopped = codes "The queue is stopped, and nobody starts it."
cause_text cause.Unpowered = codes "The device has no power, and nobody gives it power."
cause_text cause.Manual = codes "The queue presents nothing by itself, and the driver retrieves nothing from it."
cause_text (cause.Behind r) = codes "Another request is ahead of it."
cause_text cause.Full = codes "The driver has as many requests of the queue as it gets at a time."
cause_text cause.ScopeHeld = codes "The lock that its callback needs is held."
cause_text cause.NoCpu = codes "No processor is left for its callback."
cause_text (cause.References n) = codes "The driver holds references to it."
cause_text (cause.ByChild c) = codes "A child or a younger sibling goes first."
cause_text (cause.AtTarget t) = codes "A target isn't done with it."

-- What is open where no cause is named, a row for each thing.
abbrev pub thing_text : OpenThing → List ℕ
thing_text (thing.Owned r) = codes "The driver has it, and doesn't complete it."
thing_text (thing.Sent r t) = codes "The target isn't done with it."
thing_text (thing.Asking d) = codes "The device isn't done with the last thing that was asked of it."
thing_text _ = codes "No rule names what it waits for."

abbrev pub cause_or_thing : OpenThing → Option Cause → List ℕ
cause_or_thing t (Some c) = cause_text c
cause_or_thing t None = thing_text t

-- why a line of the wait list is open
abbrev pub why_text : WaitLine → List ℕ
why_text w = cause_or_thing w.thing w.cause
