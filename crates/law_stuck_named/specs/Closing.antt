-- What a sequence of Plug and Play waits for in a run that ends stuck.
use Rattle.std.specs.Prelude.{◌≡◌, Bool, true, false, Option, Some}
use Rattle.wdf_base.specs.declared.plan.Plan.{Plan}
use Rattle.wdf_base.specs.declared.event.Step.{Step}
use Rattle.wdf_base.specs.declared.ids.Handle.{Handle}
use Rattle.wdf_base.specs.declared.wait.Cause.{Cause}
use Rattle.wdf_base.specs.declared.wait.Cause.TheVariants as cause
use Rattle.wdf_base.specs.declared.wait.OpenThing.{OpenThing}
use Rattle.wdf_base.specs.declared.wait.OpenThing.TheVariants as thing
use Rattle.wdf_base.specs.Places.{is_closing}
use Rattle.wdf_model.specs.parts.Requests.{place_of}
use Rattle.wdf_model.specs.State.{State}
use Rattle.law_stuck_causes.specs.Causes.{keeps_step}

-- the cause is a request, the frame of a callback, or `cpus`
abbrev pub is_in_hand : Cause → Bool
is_in_hand (cause.ByRequest r) = true
is_in_hand (cause.ByFrame f) = true
is_in_hand cause.NoCpu = true
is_in_hand _ = false

-- The device's next step, or the one whose callback runs, waits for what its line names. `what` is named, it is one of
-- these three, and it does keep the step. A request that is named isn't one that the framework is about to complete. So
-- where a device is started, stopped or removed and its sequence doesn't come to its end, one of three things is so. A
-- request is out that the driver, or a target, hasn't given back or acknowledged. Or a callback hasn't returned or
-- doesn't give a lock back. Or no processor is left for what comes next.
pub record WaitsForOthers {A : Type 0} (plan : Plan) (S : State A) (d : Handle) (s : Step) (x : Option Cause) : Type 0 where
  pub what : Cause
  pub named : x ≡ Some what
  pub in_hand : is_in_hand what ≡ true
  pub keeps : keeps_step plan S d.id.0 s what ≡ true
  pub unclosed : (r : Handle) → what ≡ cause.ByRequest r → is_closing (place_of S.requests r.id.0) ≡ false

-- What something keeps back in each stuck run. It is a frame, a request that waits in a queue or returns from one, or a
-- device whose sequence is under way. Or it is a queued DPC or work item, or a timer whose tick is reached. A request
-- that the driver owns or sent waits for the driver, and the Plug and Play manager for the device: their lines name
-- nothing. Of objects that are being deleted nothing is said here.
abbrev pub is_kept_back : OpenThing → Bool
is_kept_back (thing.Waiting f c o) = true
is_kept_back (thing.Queued r q) = true
is_kept_back (thing.Returning r q) = true
is_kept_back (thing.Sequence d s) = true
is_kept_back (thing.Deferred o) = true
is_kept_back _ = false
