-- A sequence under way in a stuck run waits for a request, a frame or a processor.
use Rattle.std.proofs.Common.{if◌then◌else◌, ◌≡◌, ℕ, Bool, true, false, ◌&&◌, ◌||◌, List, Option, Some, None, is_some, slice_get, refl}
use Rattle.wdf_base.specs.Meaning.{Meaning}
use Rattle.wdf_base.specs.Resolved.{IsResolved}
use Rattle.wdf_base.specs.declared.plan.Plan.{Plan}
use Rattle.wdf_base.specs.declared.ids.Handle.{Handle}
use Rattle.wdf_base.specs.declared.event.Event.{Event}
use Rattle.wdf_base.specs.declared.event.Ending.TheVariants as ending
use Rattle.wdf_base.specs.declared.event.Step.{Step}
use Rattle.wdf_base.specs.declared.event.Step.TheVariants as step
use Rattle.wdf_base.specs.declared.wait.Cause.{Cause}
use Rattle.wdf_base.specs.declared.wait.Cause.TheVariants as cause
use Rattle.wdf_base.specs.declared.wait.OpenThing.TheVariants as thing
use Rattle.wdf_model.specs.parts.Pnp.{follows_queues_up, is_running_step}
use Rattle.wdf_model.specs.State.{State}
use Rattle.wdf_model.specs.rules.Ready.{IsRunOf, ending_of, state_after}
use Rattle.wdf_model.specs.rules.Waits.{wait_list}
use Rattle.law_stuck_causes.specs.Causes.{keeps_next, keeps_resumes, keeps_running, keeps_step}
use Rattle.law_stuck_causes.proofs.Endings.{at_rest}
use Rattle.law_stuck_causes.proofs.Told.{line_so}
use Rattle.law_stuck_named.specs.Closing.{WaitsForOthers, is_in_hand}
use Rattle.law_stuck_named.proofs.Devices.{device_named}
use Rattle.law_stuck_named.proofs.Unclosed.{not_closing}

module _ {A : Type 0} (plan : Plan) (S : State A) (d : ℕ) where
  next_in_hand : (s : Step) (y : Cause) → keeps_next plan S d s y ≡ true → is_in_hand y ≡ true
  next_in_hand s (cause.ByRequest r) h = refl
  next_in_hand s (cause.ByFrame f) h = refl
  next_in_hand s cause.NoCpu h = refl
  next_in_hand (step.Pass s i) _ h = absurd (let z : ⊥ = cc in z)
  next_in_hand (step.Run c i) _ h = absurd (let z : ⊥ = cc in z)

  resumes_in_hand : (y : Cause) → keeps_resumes plan S d y ≡ true → is_in_hand y ≡ true
  resumes_in_hand (cause.ByRequest r) h = refl
  resumes_in_hand (cause.ByFrame f) h = refl
  resumes_in_hand cause.NoCpu h = refl
  resumes_in_hand _ h = absurd (let z : ⊥ = cc in z)

  running_in_hand : (s : Step) (y : Cause) → keeps_running S d s y ≡ true → is_in_hand y ≡ true
  running_in_hand s (cause.ByRequest r) h = refl
  running_in_hand s (cause.ByFrame f) h = refl
  running_in_hand s cause.NoCpu h = refl
  running_in_hand (step.Pass s i) _ h = absurd (let z : ⊥ = cc in z)
  running_in_hand (step.Run c i) _ h = absurd (let z : ⊥ = cc in z)

  after_in_hand : (s : Step) (y : Cause) (b n : Bool) → keeps_resumes plan S d y ≡ b → keeps_next plan S d s y ≡ n → ((follows_queues_up S.pnp d && keeps_resumes plan S d y) || keeps_next plan S d s y) ≡ true → is_in_hand y ≡ true
  after_in_hand s y true n e f h = resumes_in_hand y e
  after_in_hand s y false true e f h = next_in_hand s y f
  after_in_hand s y false false e f h = by_up (follows_queues_up S.pnp d) (rw (e, f) at h)
    where
      by_up : (u : Bool) → ((u && false) || false) ≡ true → is_in_hand y ≡ true
      by_up true k = absurd (let z : ⊥ = cc in z)
      by_up false k = absurd (let z : ⊥ = cc in z)

  step_in_hand_by : (s : Step) (y : Cause) (b : Bool) → (if b then keeps_running S d s y else ((follows_queues_up S.pnp d && keeps_resumes plan S d y) || keeps_next plan S d s y)) ≡ true → is_in_hand y ≡ true
  step_in_hand_by s y true h = running_in_hand s y h
  step_in_hand_by s y false h = after_in_hand s y (keeps_resumes plan S d y) (keeps_next plan S d s y) refl refl h

  step_in_hand : (s : Step) (y : Cause) → keeps_step plan S d s y ≡ true → is_in_hand y ≡ true
  step_in_hand s y h = step_in_hand_by s y (is_running_step S.pnp d) h

module _ {A : Type 0} (plan : Plan) (m : Meaning A) (run : List Event) (resolved : IsResolved plan) (is_run : IsRunOf plan m run) (ends : ending_of plan m run ≡ ending.Stuck) (k : ℕ) (d : Handle) (s : Step) where
  abbrev S : State A
  S = state_after plan m run

  waits_by : (x : Option Cause) → is_some x ≡ true → slice_get (wait_list plan m run) k ≡ Some (record { thing = thing.Sequence d s; cause = x }) → WaitsForOthers plan S d s x
  waits_by None some h = absurd (let z : ⊥ = cc in z)
  waits_by (Some y) some h =
      let so : keeps_step plan S d.id.0 s y ≡ true = line_so plan m run is_run ends k (thing.Sequence d s) y h in
      record { what = y; named = refl; in_hand = step_in_hand plan S d.id.0 s y so; keeps = so; unclosed = λ r e. not_closing plan m S (at_rest plan m run true ends) r.id.0 }

  pub waits_for_others : (x : Option Cause) → slice_get (wait_list plan m run) k ≡ Some (record { thing = thing.Sequence d s; cause = x }) → WaitsForOthers plan S d s x
  waits_for_others x h = waits_by x (device_named plan m run resolved is_run ends k d s x h) h
