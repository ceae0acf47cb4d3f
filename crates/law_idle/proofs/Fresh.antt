-- A request that arrives wasn't completed before.
use Rattle.std.proofs.Common.{◌≡◌, ◌<◌, ℕ, Bool, true, false, List, Option, Some, None, take, refl, ap, subst, arith}
use Rattle.wdf_base.proofs.Tests.{both_left}
use Rattle.wdf_base.specs.Meaning.{Meaning}
use Rattle.wdf_base.specs.declared.ids.Handle.{Handle}
use Rattle.wdf_base.specs.declared.plan.Plan.{Plan}
use Rattle.wdf_base.specs.declared.event.Event.{Event}
use Rattle.wdf_base.specs.declared.event.Event.TheVariants as event
use Rattle.wdf_base.specs.declared.event.Post.{Post}
use Rattle.wdf_model.specs.parts.Tree.{next_id}
use Rattle.wdf_model.specs.rules.Ready.{IsRunOf, state_after}
use Rattle.wdf_laws.specs.declared.sign.Sign.TheVariants as sign
use Rattle.wdf_laws.specs.declared.sign.Told.{Told}
use Rattle.wdf_laws.specs.Events.{brought_to, completed, id_in, is_there, or_none, told, told_of, where_so}
use Rattle.wdf_laws.specs.Laws.{completes_once}
use Rattle.wdf_laws.specs.Signs.{shows}
use Rattle.wdf_laws.specs.Words.{ever}
use Rattle.law_trace_once.proofs.Completions.{completes_at_each}
use Rattle.law_trace_families.proofs.Families.{family_at_each}
use Rattle.law_trace_families.proofs.Drained.{ever_place, told_from}
use Rattle.law_idle.proofs.Pending.{is_some_id}

tells_by : (plan : Plan) (r : ℕ) (agent : ℕ) (p : Post) (answer : Option Handle) → shows (sign.Arrival r) (event.Posted agent p answer) ≡ true → (t : Told) × (told plan (event.Posted agent p answer) ≡ Some t) × (t.object ≡ r)
tells_by plan r agent p answer h =
    let is : where_so (is_there (brought_to p)) (id_in answer) ≡ Some r = is_some_id r (where_so (is_there (brought_to p)) (id_in answer)) h in
    (record { object = r; parent = or_none (brought_to p); class = None }, ap (told_of (or_none (brought_to p)) None) is, refl)

-- what shows an arrival tells of it
tells : (plan : Plan) (r : ℕ) (e : Event) → shows (sign.Arrival r) e ≡ true → (t : Told) × (told plan e ≡ Some t) × (t.object ≡ r)
tells plan r (event.Posted agent p answer) h = tells_by plan r agent p answer h
tells plan r _ h = absurd (let z : ⊥ = cc in z)

module _ {A : Type 0} (plan : Plan) (m : Meaning A) (run : List Event) (is_run : IsRunOf plan m run) where
  not_arrived : (k : ℕ) (r : ℕ) → r ≡ next_id (state_after plan m (take k run)).tree → ever (sign.Arrival r) (take k run) ≡ true → ⊥
  not_arrived k r fresh h =
      let place = ever_place (sign.Arrival r) run k h in
      let t = tells plan r place.2.0 place.2.2 in
      let first = told_from plan m run place.0 k place.2.0 t.0 is_run place.2.1 t.1 place.1 in
      let within = ((family_at_each plan m run is_run k).after t.0.object t.0 first).1 in
      let same = t.2 in
      let z : ⊥ = omega (arith, fresh, within, same) in z

  not_completed : (k : ℕ) (r : ℕ) → r ≡ next_id (state_after plan m (take k run)).tree → ever (sign.Completion r) (take k run) ≡ true → ⊥
  not_completed k r fresh h =
      let place = ever_place (sign.Completion r) run k h in
      let is : completed place.2.0 ≡ Some r = is_some_id r (completed place.2.0) place.2.2 in
      let once : completes_once (take place.0 run) (Some r) ≡ true = subst (λ o. completes_once (take place.0 run) o ≡ true) is (completes_at_each plan m run place.0 place.2.0 is_run place.2.1) in
      let came : ever (sign.Arrival r) (take place.0 run) ≡ true = both_left (ever (sign.Arrival r) (take place.0 run)) _ once in
      let earlier = ever_place (sign.Arrival r) run place.0 came in
      let t = tells plan r earlier.2.0 earlier.2.2 in
      let low : earlier.0 < k = (let a = earlier.1 in let b = place.1 in omega arith) in
      let first = told_from plan m run earlier.0 k earlier.2.0 t.0 is_run earlier.2.1 t.1 low in
      let within = ((family_at_each plan m run is_run k).after t.0.object t.0 first).1 in
      let same = t.2 in
      let z : ⊥ = omega (arith, fresh, within, same) in z

  falls : (b : Bool) → (b ≡ true → ⊥) → b ≡ false
  falls true h = absurd (h refl)
  falls false h = refl

  pub is_fresh : (k : ℕ) (r : ℕ) → r ≡ next_id (state_after plan m (take k run)).tree → ever (sign.Completion r) (take k run) ≡ false
  is_fresh k r fresh = falls (ever (sign.Completion r) (take k run)) (not_completed k r fresh)
