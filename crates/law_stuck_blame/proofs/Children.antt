-- The child that the line of an object names goes before the object.
use Rattle.std.proofs.Common.{◌≡◌, ℕ, true, Option, Some, None, subst}
use Rattle.wdf_base.specs.declared.plan.Plan.{Plan}
use Rattle.wdf_base.specs.declared.ids.Handle.{Handle}
use Rattle.wdf_base.specs.declared.event.Step.{Step}
use Rattle.wdf_base.specs.declared.object.Place.{Place}
use Rattle.wdf_base.specs.declared.object.Place.TheVariants as place
use Rattle.wdf_base.specs.declared.wait.Cause.TheVariants as cause
use Rattle.wdf_base.specs.declared.wait.OpenThing.TheVariants as thing
use Rattle.wdf_base.specs.declared.wait.WaitLine.{WaitLine}
use Rattle.wdf_model.specs.parts.Requests.{place_of}
use Rattle.wdf_model.specs.parts.Pnp.{next_step, running_step}
use Rattle.wdf_model.specs.State.{State, handle_in}
use Rattle.wdf_model.specs.rules.Waits.{object_cause, request_line, sequence_line}
use Rattle.law_stuck_causes.proofs.EachLine.{OfLines}
use Rattle.law_stuck_causes.proofs.Gives.{IfThere}
use Rattle.law_stuck_blame.specs.Blame.{goes_first}
use Rattle.law_stuck_blame.proofs.FirstObjects.{child_first}

abbrev pub ChildGoes : {A : Type 0} → State A → WaitLine → Type 0
ChildGoes S l = (o x : Handle) → l.thing ≡ thing.Leaving o → l.cause ≡ Some (cause.ByChild x) → goes_first S o.id.0 x.id.0 ≡ true

module _ {A : Type 0} (plan : Plan) (S : State A) where
  request_goes : (r : ℕ) (p : Place) → IfThere (ChildGoes S) (request_line plan S r p)
  request_goes r (place.Closing s) = tt
  request_goes r place.Done = tt
  request_goes r _ = λ o x is found. absurd (let z : ⊥ = cc in z)

  device_goes : (d : ℕ) (now next : Option Step) → IfThere (ChildGoes S) (sequence_line plan S d now next)
  device_goes d (Some s) next = λ o x is found. absurd (let z : ⊥ = cc in z)
  device_goes d None (Some s) = λ o x is found. absurd (let z : ⊥ = cc in z)
  device_goes d None None = tt

  object_goes : (o : ℕ) (h x : Handle) → thing.Leaving (handle_in plan S o) ≡ thing.Leaving h → object_cause plan S o ≡ Some (cause.ByChild x) → goes_first S h.id.0 x.id.0 ≡ true
  object_goes o h x is found = let same : handle_in plan S o ≡ h = cc in subst (λ (k : Handle). goes_first S k.id.0 x.id.0 ≡ true) same (child_first plan S o x found)

  pub children_go : OfLines plan S (ChildGoes S)
  children_go = record {
    frames = λ f there. λ o x is found. absurd (let z : ⊥ = cc in z);
    requests = λ r. request_goes r (place_of S.requests r);
    devices = λ d low. device_goes d (running_step S.pnp d) (next_step S.pnp d);
    objects = λ o low leaving. object_goes o;
    work = λ o opened. λ h x is found. absurd (let z : ⊥ = cc in z);
    asking = λ d. λ o x is found. absurd (let z : ⊥ = cc in z);
  }
