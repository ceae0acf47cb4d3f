-- The first event of a crew, as an event and as a place.
use Rattle.std.proofs.Common.{◌≡◌, ℕ, zero, suc, Bool, true, false, ◌||◌, List, [], ◌∷◌, ◌++◌, find, length, slice_get, Option, Some, None, refl, sym, ap, ◌∙◌, arith}
use Rattle.std.specs.Prelude.{nat_lt}
use Rattle.std.proofs.lemmas.Bool.{ltb-false}
use Rattle.wdf_base.specs.declared.event.Event.{Event}
use Rattle.wdf_base.specs.declared.event.Event.TheVariants as event
use Rattle.wdf_base.specs.declared.event.Actor.{Actor}
use Rattle.wdf_base.specs.declared.event.Actor.TheVariants as actor
use Rattle.wdf_base.specs.Same.{same_actor}
use Rattle.wdf_model.specs.Runs.{place_for}
use Rattle.wdf_ready.specs.Actors.{actor_of}
use Rattle.wdf_offers.specs.Search.{NoneBefore}
use Rattle.wdf_ready.specs.Sides as sides
use Rattle.wdf_offers.proofs.Passing.{first_at, none_at}
use Rattle.wdf_workers.specs.Crews.{Advances, progress_of, progress_where, side_of, takes_of}
use Rattle.wdf_crew.specs.declared.crew.Crew.{Crew}
use Rattle.wdf_crew.specs.declared.crew.Crew.TheVariants.{Processor, Framework, Agents}
use Rattle.wdf_crew.specs.declared.advance.Progress.TheVariants.{Added, Waits, Over}

-- ---- an event is a crew's exactly where it is of its side

of_processor : (cpu : ℕ) (a : Actor) → sides.same_side (sides.side_of a) (side_of (Processor cpu)) ≡ same_actor a (actor.Cpu cpu)
of_processor cpu (actor.Cpu c) = refl
of_processor cpu actor.Framework = refl
of_processor cpu (actor.Agent k) = refl
of_processor cpu actor.Clock = refl

of_framework : (a : Actor) → sides.same_side (sides.side_of a) (side_of Framework) ≡ (same_actor a actor.Framework || same_actor a actor.Clock)
of_framework (actor.Cpu c) = refl
of_framework actor.Framework = refl
of_framework (actor.Agent k) = refl
of_framework actor.Clock = refl

of_agents : (e : Event) → sides.is_of (side_of Agents) e ≡ takes_of Agents e
of_agents (event.Posted agent p answer) = refl
of_agents _ = refl

same_events : (crew : Crew) (e : Event) → sides.is_of (side_of crew) e ≡ takes_of crew e
same_events (Processor cpu) e = of_processor cpu (actor_of e)
same_events Framework e = of_framework (actor_of e)
same_events Agents e = of_agents e

-- ---- the first that passes, and its place

record FoundAt (q : Event → Bool) (xs : List Event) (e : Event) : Type 0 where
  place : ℕ
  at : slice_get xs place ≡ Some e
  passes : q e ≡ true
  before : NoneBefore q xs place

more_before : (q : Event → Bool) (x : Event) (xs : List Event) (k : ℕ) → q x ≡ false → NoneBefore q xs k → NoneBefore q (x ∷ xs) (suc k)
more_before q x xs k off h zero y low at = let is : x ≡ y = cc in ap q (sym is) ∙ off
more_before q x xs k off h (suc j) y low at = h j y (omega arith) at

module _ (p q : Event → Bool) (same : (e : Event) → p e ≡ q e) where
  found_at : (xs : List Event) (e : Event) → find p xs ≡ Some e → FoundAt q xs e
  found_at [] e h = absurd (let z : ⊥ = cc in z)
  found_at (x ∷ xs) e h = by (p x) refl (found_at xs e)
    where
      by : (b : Bool) → p x ≡ b → (find p xs ≡ Some e → FoundAt q xs e) → FoundAt q (x ∷ xs) e
      by true is rest =
          let here : Some x ≡ Some e = rw is at h in
          let one : x ≡ e = cc in
          record { place = 0; at = here; passes = ap q (sym one) ∙ sym (same x) ∙ is; before = λ j y low at. absurd (omega arith) }
      by false is rest =
          let further = rest (rw is at h) in
          record { place = suc further.place; at = further.at; passes = further.passes; before = more_before q x xs further.place (sym (same x) ∙ is) further.before }

  none_found : (xs : List Event) → find p xs ≡ None → NoneBefore q xs (length xs)
  none_found [] h = λ j y low at. absurd (omega arith)
  none_found (x ∷ xs) h = by (p x) refl (none_found xs)
    where
      by : (b : Bool) → p x ≡ b → (find p xs ≡ None → NoneBefore q xs (length xs)) → NoneBefore q (x ∷ xs) (suc (length xs))
      by true is rest = absurd (let here = rw is at h in let z : ⊥ = cc in z)
      by false is rest = more_before q x xs (length xs) (sym (same x) ∙ is) (rest (rw is at h))

  place_found : (xs : List Event) (e : Event) (h : find p xs ≡ Some e) → place_for q xs ≡ Some (found_at xs e h).place
  place_found xs e h = let f = found_at xs e h in first_at q xs f.place e f.before f.at f.passes

  no_place : (xs : List Event) → find p xs ≡ None → place_for q xs ≡ None
  no_place xs h = none_at q xs (length xs) (omega arith) (none_found xs h)

-- ---- a turn

module _ (ready : List Event → List Event) (crew : Crew) (old new : List Event) where
  pub turn_added : (e : Event) → find (sides.is_of (side_of crew)) (ready old) ≡ Some e → new ≡ old ++ e ∷ [] → Advances ready crew old new
  turn_added e h grown =
      let f = found_at (sides.is_of (side_of crew)) (takes_of crew) (same_events crew) (ready old) e h in
      rw (place_found (sides.is_of (side_of crew)) (takes_of crew) (same_events crew) (ready old) e h) (e, f.at, grown)

  pub turn_vain : find (sides.is_of (side_of crew)) (ready old) ≡ None → new ≡ old → Advances ready crew old new
  turn_vain h same = rw (no_place (sides.is_of (side_of crew)) (takes_of crew) (same_events crew) (ready old) h) same

pub progress_added : (crew : Crew) (xs : List Event) (e : Event) → find (sides.is_of (side_of crew)) xs ≡ Some e → Added ≡ progress_of crew xs
progress_added crew xs e h = by xs (place_for (takes_of crew) xs) (place_found (sides.is_of (side_of crew)) (takes_of crew) (same_events crew) xs e h)
  where
    by : (ys : List Event) (o : Option ℕ) → o ≡ Some (found_at (sides.is_of (side_of crew)) (takes_of crew) (same_events crew) xs e h).place → Added ≡ progress_where ys o
    by ys (Some k) is = refl
    by ys None is = absurd (let z : ⊥ = cc in z)

pub progress_waits : (crew : Crew) (xs : List Event) → find (sides.is_of (side_of crew)) xs ≡ None → nat_lt 0 (length xs) ≡ true → Waits ≡ progress_of crew xs
progress_waits crew xs h some = rw (no_place (sides.is_of (side_of crew)) (takes_of crew) (same_events crew) xs h) (by xs some)
  where
    by : (ys : List Event) → nat_lt 0 (length ys) ≡ true → Waits ≡ progress_where ys None
    by [] e = absurd (let z : ⊥ = cc in z)
    by (y ∷ ys) e = refl

pub progress_over : (crew : Crew) (xs : List Event) → find (sides.is_of (side_of crew)) xs ≡ None → nat_lt 0 (length xs) ≡ false → Over ≡ progress_of crew xs
progress_over crew xs h none = rw (no_place (sides.is_of (side_of crew)) (takes_of crew) (same_events crew) xs h) (by xs none)
  where
    by : (ys : List Event) → nat_lt 0 (length ys) ≡ false → Over ≡ progress_where ys None
    by [] e = refl
    by (y ∷ ys) e = absurd (let few = ltb-false 0 (length (y ∷ ys)) e in omega arith)
