-- What each line of a stuck run's wait list is about is so of the state.
use Rattle.std.proofs.Common.{◌≡◌, ℕ, true, List, [], ◌∷◌, Option, Some, None, slice_get, refl, ap, ◌∙◌}
use Rattle.std.specs.Prelude.{⊤}
use Rattle.wdf_base.specs.Meaning.{Meaning}
use Rattle.wdf_base.specs.declared.plan.Plan.{Plan}
use Rattle.wdf_base.specs.declared.object.Place.{Place}
use Rattle.wdf_base.specs.declared.object.Place.TheVariants as place
use Rattle.wdf_base.specs.declared.event.Event.{Event}
use Rattle.wdf_base.specs.declared.event.Ending.TheVariants as ending
use Rattle.wdf_base.specs.declared.event.Step.{Step}
use Rattle.wdf_base.specs.declared.wait.Cause.{Cause}
use Rattle.wdf_base.specs.declared.wait.WaitLine.{WaitLine}
use Rattle.wdf_base.specs.declared.wait.OpenThing.{OpenThing}
use Rattle.wdf_base.specs.declared.wait.OpenThing.TheVariants as thing
use Rattle.wdf_base.specs.Places.{is_queued_in, is_returning_to}
use Rattle.wdf_model.specs.parts.Requests.{place_of}
use Rattle.wdf_model.specs.parts.Pnp.{next_step, running_step}
use Rattle.wdf_model.specs.State.{State}
use Rattle.wdf_model.specs.rules.Ready.{ending_of, is_leaving, is_open_work, state_after}
use Rattle.wdf_model.specs.rules.Waits.{first_cause, object_cause, request_line, resumes_cause, running_cause, sequence_line, step_cause, wait_list}
use Rattle.wdf_model.proofs.Tests.{itself}
use Rattle.law_stuck_causes.proofs.EachLine.{OfLines, each_line}
use Rattle.law_stuck_causes.proofs.Gives.{IfThere}

-- the line of a device, by the step whose callback runs, or by its next step
pub data DeviceLine {A : Type 0} (plan : Plan) (S : State A) (d : ℕ) (s : Step) (x : Option Cause) : Type 0 where
  Runs_it : running_step S.pnp d ≡ Some s → x ≡ running_cause S d s → DeviceLine plan S d s x
  Waits_at : running_step S.pnp d ≡ None → next_step S.pnp d ≡ Some s → x ≡ first_cause (resumes_cause plan S d ∷ step_cause plan S d s ∷ []) → DeviceLine plan S d s x

-- the line of an object that is being deleted
pub record LeavingLine {A : Type 0} (plan : Plan) (S : State A) (o : ℕ) (x : Option Cause) : Type 0 where
  pub cause : x ≡ object_cause plan S o
  pub leaves : is_leaving S o ≡ true

abbrev pub Tells : {A : Type 0} → Plan → State A → OpenThing → Option Cause → Type 0
Tells plan S (thing.Queued r q) x = is_queued_in q.id.0 (place_of S.requests r.id.0) ≡ true
Tells plan S (thing.Returning r q) x = is_returning_to q.id.0 (place_of S.requests r.id.0) ≡ true
Tells plan S (thing.Sequence d s) x = DeviceLine plan S d.id.0 s x
Tells plan S (thing.Leaving o) x = LeavingLine plan S o.id.0 x
Tells plan S (thing.Deferred o) x = is_open_work S o.id.0 ≡ true
Tells plan S _ x = ⊤

abbrev LineTells : {A : Type 0} → Plan → State A → WaitLine → Type 0
LineTells plan S l = Tells plan S l.thing l.cause

module _ {A : Type 0} (plan : Plan) (m : Meaning A) (S : State A) where
  request_told : (r : ℕ) (p : Place) → place_of S.requests r ≡ p → IfThere (LineTells plan S) (request_line plan S r p)
  request_told r (place.Queued q) e = ap (is_queued_in q.0) e ∙ itself q.0
  request_told r (place.Returning q) e = ap (is_returning_to q.0) e ∙ itself q.0
  request_told r _ e = tt

  device_told : (d : ℕ) (now next : Option Step) → running_step S.pnp d ≡ now → next_step S.pnp d ≡ next → IfThere (LineTells plan S) (sequence_line plan S d now next)
  device_told d (Some s) next e h = Runs_it e refl
  device_told d None (Some s) e h = Waits_at e h refl
  device_told d None None e h = tt

  lines_tell : OfLines plan S (LineTells plan S)
  lines_tell = record {
    frames = λ f there. tt;
    requests = λ r. request_told r (place_of S.requests r) refl;
    devices = λ d low. device_told d (running_step S.pnp d) (next_step S.pnp d) refl refl;
    objects = λ o low leaving. record { cause = refl; leaves = leaving };
    work = λ o opened. opened;
    asking = λ d. tt;
  }

pub line_tells : {A : Type 0} (plan : Plan) (m : Meaning A) (run : List Event) → ending_of plan m run ≡ ending.Stuck → (k : ℕ) (t : OpenThing) (x : Option Cause)
    → slice_get (wait_list plan m run) k ≡ Some (record { thing = t; cause = x }) → Tells plan (state_after plan m run) t x
line_tells plan m run ends k t x h = each_line plan m run (LineTells plan (state_after plan m run)) (lines_tell plan m (state_after plan m run)) ends k (record { thing = t; cause = x }) h
