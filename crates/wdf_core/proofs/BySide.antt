-- The first event of a side among those that may follow.
use Rattle.std.proofs.Common.{◌≡◌, ℕ, suc, ◌+◌, Bool, true, false, List, [], ◌∷◌, find, slice_get, Some, None, refl, sym, ap, ◌∙◌}
use Rattle.wdf_base.specs.Meaning.{Meaning}
use Rattle.wdf_base.specs.declared.event.Event.{Event}
use Rattle.wdf_base.specs.declared.event.Event.TheVariants as event
use Rattle.wdf_base.specs.declared.plan.Plan.{Plan}
use Rattle.wdf_model.specs.State.{State}
use Rattle.wdf_model.specs.declared.enums.Group.{Group}
use Rattle.wdf_model.specs.rules.Ready.{allowed, or_tick, ready, state_after, waits_for_time}
use Rattle.wdf_core.specs.Course.{IsUnderWay}
use Rattle.wdf_core.specs.Going.{goes_on, tick_if}
use Rattle.wdf_core.proofs.Journal.{ready_going, ready_stopped}

-- what is found is at a place
pub found_place : (p : Event → Bool) (xs : List Event) (e : Event) → find p xs ≡ Some e → (k : ℕ) × (slice_get xs k ≡ Some e)
found_place p [] e h = absurd (let z : ⊥ = cc in z)
found_place p (x ∷ xs) e h = by (p x) refl (found_place p xs e)
  where
    by : (b : Bool) → p x ≡ b → (find p xs ≡ Some e → (k : ℕ) × (slice_get xs k ≡ Some e)) → (k : ℕ) × (slice_get (x ∷ xs) k ≡ Some e)
    by true is rest = (0, rw is at h)
    by false is rest = let later = rest (rw is at h) in (suc later.0, later.1)

module _ {A : Type 0} (m : Meaning A) (plan : Plan) (journal : List Event) (S : State A) (all : List Group) (space : ℕ) (u : IsUnderWay m plan journal S all space) (p : Event → Bool) where
  abbrev come : List Event
  come = allowed plan m (state_after plan m journal)

  abbrev tick_next : Event
  tick_next = event.Tick ((state_after plan m journal).clock + 1)

  pub side_stops : goes_on plan journal ≡ false → None ≡ find p (ready plan m journal)
  side_stops h = sym (ap (find p) (ready_stopped m plan journal S all space u h))

  going : goes_on plan journal ≡ true → find p (ready plan m journal) ≡ find p (or_tick m (state_after plan m journal) come)
  going h = ap (find p) (ready_going m plan journal S all space u h)

  found_by : (xs : List Event) (e : Event) → find p xs ≡ Some e → find p (or_tick m (state_after plan m journal) xs) ≡ Some e
  found_by [] e h = absurd (let z : ⊥ = cc in z)
  found_by (x ∷ xs) e h = h

  pub side_found : (e : Event) → goes_on plan journal ≡ true → find p come ≡ Some e → Some e ≡ find p (ready plan m journal)
  side_found e h f = sym (going h ∙ found_by come e f)

  some_by : (xs : List Event) (x : Event) → slice_get xs 0 ≡ Some x → find p xs ≡ None → find p (or_tick m (state_after plan m journal) xs) ≡ None
  some_by [] x at f = absurd (let z : ⊥ = cc in z)
  some_by (y ∷ ys) x at f = f

  -- where another event may come, no tick does
  pub side_waits : (x : Event) → goes_on plan journal ≡ true → find p come ≡ None → slice_get come 0 ≡ Some x → None ≡ find p (ready plan m journal)
  side_waits x h f at = sym (going h ∙ some_by come x at f)

  other_by : (xs : List Event) (b : Bool) → waits_for_time m (state_after plan m journal) ≡ b → p tick_next ≡ false → find p xs ≡ None → find p (or_tick m (state_after plan m journal) xs) ≡ None
  other_by [] true w t f = rw (w, t) refl
  other_by [] false w t f = rw w refl
  other_by (x ∷ xs) b w t f = f

  -- a side that isn't the clock's has none
  pub side_other : goes_on plan journal ≡ true → find p come ≡ None → p tick_next ≡ false → None ≡ find p (ready plan m journal)
  side_other h f t = sym (going h ∙ other_by come (waits_for_time m (state_after plan m journal)) refl t f)

  tick_by : (xs : List Event) (b : Bool) → slice_get xs 0 ≡ None → waits_for_time m (state_after plan m journal) ≡ b → p tick_next ≡ true → find p (or_tick m (state_after plan m journal) xs) ≡ tick_if b (state_after plan m journal).clock
  tick_by [] true none w t = rw (w, t) refl
  tick_by [] false none w t = rw w refl
  tick_by (x ∷ xs) b none w t = absurd (let z : ⊥ = cc in z)

  -- where nothing else may come, the tick does, if something waits for it
  pub side_ticks : goes_on plan journal ≡ true → slice_get come 0 ≡ None → p tick_next ≡ true
      → tick_if (waits_for_time m (state_after plan m journal)) (state_after plan m journal).clock ≡ find p (ready plan m journal)
  side_ticks h none t = sym (going h ∙ tick_by come (waits_for_time m (state_after plan m journal)) none refl t)
