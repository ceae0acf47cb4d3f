-- Each line that is kept back names a cause.
use Rattle.std.proofs.Common.{◌≡◌, ℕ, true, List, Option, Some, is_some, slice_get}
use Rattle.wdf_base.specs.Meaning.{Meaning}
use Rattle.wdf_base.specs.Resolved.{IsResolved}
use Rattle.wdf_base.specs.declared.plan.Plan.{Plan}
use Rattle.wdf_base.specs.declared.event.Event.{Event}
use Rattle.wdf_base.specs.declared.event.Ending.TheVariants as ending
use Rattle.wdf_base.specs.declared.ids.Handle.{Handle}
use Rattle.wdf_base.specs.declared.wait.Cause.{Cause}
use Rattle.wdf_base.specs.declared.wait.OpenThing.{OpenThing}
use Rattle.wdf_base.specs.declared.wait.OpenThing.TheVariants as thing
use Rattle.wdf_model.specs.parts.Requests.{place_of}
use Rattle.wdf_model.specs.rules.Ready.{IsRunOf, ending_of, state_after}
use Rattle.wdf_model.specs.rules.Waits.{wait_list}
use Rattle.law_stuck_named_if.proofs.Lines.{line_names}
use Rattle.law_stuck_named.specs.Closing.{is_kept_back}
use Rattle.law_stuck_named.proofs.Deferred.{work_named}
use Rattle.law_stuck_named.proofs.Devices.{device_named}
use Rattle.law_stuck_named.proofs.Lines.{line_tells}
use Rattle.law_stuck_named.proofs.Queues.{queued_in, queues_live, returning_in}

module _ {A : Type 0} (plan : Plan) (m : Meaning A) (run : List Event) (resolved : IsResolved plan) (is_run : IsRunOf plan m run) (ends : ending_of plan m run ≡ ending.Stuck) (k : ℕ) where
  abbrev Line : OpenThing → Option Cause → Type 0
  Line t x = slice_get (wait_list plan m run) k ≡ Some (record { thing = t; cause = x })

  pub waiting_named : (r q : Handle) (x : Option Cause) → Line (thing.Queued r q) x → is_some x ≡ true
  waiting_named r q x h =
      line_names plan m run resolved is_run ends k (record { thing = thing.Queued r q; cause = x }) h
      ((queues_live plan m run resolved is_run).queues q.id.0 r.id.0 (queued_in q.id.0 (place_of (state_after plan m run).requests r.id.0) (line_tells plan m run ends k (thing.Queued r q) x h)))

  pub returning_named : (r q : Handle) (x : Option Cause) → Line (thing.Returning r q) x → is_some x ≡ true
  returning_named r q x h =
      line_names plan m run resolved is_run ends k (record { thing = thing.Returning r q; cause = x }) h
      ((queues_live plan m run resolved is_run).queues q.id.0 r.id.0 (returning_in q.id.0 (place_of (state_after plan m run).requests r.id.0) (line_tells plan m run ends k (thing.Returning r q) x h)))

  pub line_is_named : (t : OpenThing) (x : Option Cause) → Line t x → is_kept_back t ≡ true → is_some x ≡ true
  line_is_named (thing.Waiting f c o) x h is = line_names plan m run resolved is_run ends k (record { thing = thing.Waiting f c o; cause = x }) h
  line_is_named (thing.Queued r q) x h is = waiting_named r q x h
  line_is_named (thing.Returning r q) x h is = returning_named r q x h
  line_is_named (thing.Sequence d s) x h is = device_named plan m run resolved is_run ends k d s x h
  line_is_named (thing.Deferred o) x h is = work_named plan m run resolved is_run ends k o x h
  line_is_named _ x h is = absurd (let z : ⊥ = cc in z)
