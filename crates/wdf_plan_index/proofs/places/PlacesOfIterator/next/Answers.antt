-- The next place is taken.
use Rattle.std.proofs.Common.{◌≡◌, ◌∷◌}
use Rattle.wdf_plan_index.specs.Places.{places_left}
use Rattle.wdf_plan_index.proofs.Placing.{place_fits, place_taken, shorter}
use Rattle.wdf_plan_index.proofs.places.PlacesOfIterator.next.Goals as goal

pub returns-clause-steps : goal.returns-clause-steps
returns-clause-steps c = (
  place_taken c.self.inside.places.now c.self.inside.number c.in_ok-place.place c.self.inside.next c.after-self-inside.result c.args.self.now c.in_ok-place.was c.self.invariant c.self.view_is c.after-self-inside.ensures.next c.after-self-inside.ensures.within,
  place_fits c.self.inside.places.now c.self.inside.number c.in_ok-place.place c.self.inside.next c.in_ok-place.was c.self.invariant,
)

pub returns-clause-goes : goal.returns-clause-goes
returns-clause-goes c =
    let taken : c.args.self.now ≡ c.in_ok-place.place ∷ places_left c.self.inside.places.now c.self.inside.number c.after-self-inside.result =
    place_taken c.self.inside.places.now c.self.inside.number c.in_ok-place.place c.self.inside.next c.after-self-inside.result c.args.self.now c.in_ok-place.was c.self.invariant c.self.view_is c.after-self-inside.ensures.next c.after-self-inside.ensures.within in
    record { on = λ _. (tt, tt, shorter c.in_ok-place.place _ _ taken); keeps = tt; rests = λ _. tt }
