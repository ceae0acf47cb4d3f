-- Whether one event may follow the events so far.
use Rattle.std.proofs.Common.{if◌then◌else◌, ◌≡◌, ◌↔◌, ℕ, zero, suc, ◌+◌, Bool, true, false, List, [], ◌∷◌, length, slice_get, Option, Some, None, sym, ap, refl, subst, ◌∙◌}
use Rattle.std.specs.Prelude.{IsTrue}
use Rattle.wdf_base.specs.Lives.{is_live}
use Rattle.wdf_base.specs.Meaning.{Meaning}
use Rattle.wdf_base.specs.declared.call.Callback.TheVariants as callback
use Rattle.wdf_base.specs.declared.event.Event.{Event}
use Rattle.wdf_base.specs.declared.event.Event.TheVariants as event
use Rattle.wdf_base.specs.declared.plan.Plan.{Plan}
use Rattle.wdf_model.specs.State.{State, declares_in, is_with_driver}
use Rattle.wdf_model.specs.declared.enums.Group.{Group}
use Rattle.wdf_model.specs.parts.Requests.{origin_of}
use Rattle.wdf_model.specs.parts.Tree.{life_of}
use Rattle.wdf_model.specs.rules.Groups.{candidates}
use Rattle.wdf_model.specs.rules.Ready.{allowed, or_tick, ready, state_after, waits_for_time}
use Rattle.wdf_model.specs.rules.Steps.{may}
use Rattle.wdf_model.proofs.Tests.{both_left, both_right, in_filter}
use Rattle.law_machine_base.specs.Agreement.{managed_origin}
use Rattle.law_machine_base.specs.OverRuns.{PlacesAgree}
use Rattle.law_machine_counts.proofs.HeldOverRuns.{holds_at_each}
use Rattle.law_machine_counts.proofs.Holding.{HoldsIn}
use Rattle.law_machine_lives.proofs.Keeping.{at_the_end, known_now}
use Rattle.law_machine_once.specs.Owned.{StepsOwned}
use Rattle.law_machine_once.proofs.Steps.{steps_owned_at_each}
use Rattle.law_machine_places.specs.Placed.{IsAmong}
use Rattle.law_stuck_named.proofs.Worked.{work_may_run}
use Rattle.law_stuck_objects.proofs.Places.{nothing_there, request_done}
use Rattle.wdf_offers.specs.Leaving.{IsSettled}
use Rattle.wdf_core.specs.Course.{IsUnderWay}
use Rattle.wdf_core.specs.Going.{goes_on, is_tick}
use Rattle.wdf_core.proofs.Journal.{ready_going, ready_stopped}

nowhere : (e : Event) (xs : List Event) → xs ≡ [] → IsAmong e xs → ⊥
nowhere e [] h at = let k = at.1 in let z : ⊥ = cc in z
nowhere e (x ∷ xs) h at = let z : ⊥ = cc in z

not_first : (e : Event) (n : ℕ) → is_tick e ≡ false → IsAmong e (event.Tick n ∷ []) → ⊥
not_first e n h (zero, at) = let same : event.Tick n ≡ e = cc in let k : is_tick e ≡ true = ap is_tick (sym same) in let z : ⊥ = cc in z
not_first e n h (suc k, at) = let z : ⊥ = cc in z

only_first : (e : Event) (n k : ℕ) → slice_get (event.Tick n ∷ []) k ≡ Some e → slice_get (event.Tick n ∷ []) 0 ≡ Some e
only_first e n zero at = at
only_first e n (suc k) at = absurd (let z : ⊥ = cc in z)

noted_by : (plan : Plan) (b : Bool) (o : Option ℕ) → managed_origin plan (if b then o else None) ≡ (if b then managed_origin plan o else 0)
noted_by plan true o = refl
noted_by plan false o = refl

module _ {A : Type 0} (m : Meaning A) (plan : Plan) (journal : List Event) (S : State A) (all : List Group) (space : ℕ) (u : IsUnderWay m plan journal S all space) where
  -- requests are where they are, and steps are their devices' own
  pub agree_now : PlacesAgree S
  agree_now = subst (λ (T : State A). PlacesAgree T) (sym u.state) (known_now plan m journal u.run).places

  pub owned_now : StepsOwned plan S
  owned_now =
      subst (λ (T : State A). StepsOwned plan T) (sym u.state)
      (at_the_end plan m (λ (T : State A). StepsOwned plan T) journal (steps_owned_at_each plan m journal u.run (length journal)))

  -- no request of an app is deleted that isn't completed, and nothing to which a request is sent; what is queued as a work item
  -- or as a timer is live and has its callback; each request is noted as held from the power-managed queue from which the
  -- driver holds it; and a target has just what is sent to it
  pub settled_now : IsSettled plan S
  settled_now =
      let T : State A = state_after plan m journal in
      let w = work_may_run plan m journal u.resolved u.run in
      let held : HoldsIn plan T = at_the_end plan m (λ (U : State A). HoldsIn plan U) journal (holds_at_each plan m journal u.run (length journal)) in
      subst (λ (U : State A). IsSettled plan U) (sym u.state)
      (record {
        deleted = record {
          done = request_done plan m journal u.resolved u.run;
          nothing = nothing_there plan m journal u.resolved u.run;
          works = λ o queued. both_left (is_live (life_of T.tree o)) (declares_in plan T callback.EvtWorkItem o) (w.items o queued);
          timers = λ o queued. both_left (is_live (life_of T.tree o)) (declares_in plan T callback.EvtTimerFunc o) (w.timers o queued);
        };
        declared = λ o queued. both_right (is_live (life_of T.tree o)) (declares_in plan T callback.EvtWorkItem o) (w.items o queued);
        timed = λ o queued. both_right (is_live (life_of T.tree o)) (declares_in plan T callback.EvtTimerFunc o) (w.timers o queued);
        holdings = λ r. held.holdings r ∙ noted_by plan (is_with_driver T r) (origin_of T.requests r);
        sent = (known_now plan m journal u.run).places.sent;
      })

  -- ---- beside ticks

  to_either : (e : Event) (xs : List Event) → IsAmong e xs → IsAmong e (or_tick m (state_after plan m journal) xs)
  to_either e [] at = absurd (nowhere e [] refl at)
  to_either e (x ∷ xs) at = at

  from_tick : (e : Event) (b : Bool) (n : ℕ) → is_tick e ≡ false → IsAmong e (if b then event.Tick n ∷ [] else []) → ⊥
  from_tick e true n h at = not_first e n h at
  from_tick e false n h at = nowhere e [] refl at

  from_either : (e : Event) (xs : List Event) → is_tick e ≡ false → IsAmong e (or_tick m (state_after plan m journal) xs) → IsAmong e xs
  from_either e [] h at = absurd (from_tick e (waits_for_time m (state_after plan m journal)) ((state_after plan m journal).clock + 1) h at)
  from_either e (x ∷ xs) h at = at

  -- an event that is no tick may follow where it may come
  pub by_allowed : (e : Event) (b : Bool) → is_tick e ≡ false → goes_on plan journal ≡ true → (IsTrue b ↔ IsAmong e (allowed plan m (state_after plan m journal))) → (IsTrue b ↔ IsAmong e (ready plan m journal))
  by_allowed e b h going k =
      let is = ready_going m plan journal S all space u going in (
        λ yes. subst (IsAmong e) (sym is) (to_either e (allowed plan m (state_after plan m journal)) (k.0 yes)),
        λ at. k.1 (from_either e (allowed plan m (state_after plan m journal)) h (subst (IsAmong e) is at)),
      )

  -- ---- ticks

  -- no tick may come where something else may
  no_tick : (e : Event) (k : ℕ) → is_tick e ≡ true → slice_get (allowed plan m (state_after plan m journal)) k ≡ Some e → ⊥
  no_tick (event.Tick n) k h at = let comes = in_filter (may plan m (state_after plan m journal)) (candidates plan m (state_after plan m journal)) k (event.Tick n) at in let z : ⊥ = cc in z
  no_tick _ k h at = let z : ⊥ = cc in z

  tick_by : (e : Event) (b : Bool) (n k : ℕ) → slice_get (if b then event.Tick n ∷ [] else []) k ≡ Some e → slice_get (if b then event.Tick n ∷ [] else []) 0 ≡ Some e
  tick_by e true n k at = only_first e n k at
  tick_by e false n k at = absurd (let z : ⊥ = cc in z)

  tick_first : (e : Event) (xs : List Event) (k : ℕ) → xs ≡ allowed plan m (state_after plan m journal) → is_tick e ≡ true → slice_get (or_tick m (state_after plan m journal) xs) k ≡ Some e
      → slice_get (or_tick m (state_after plan m journal) xs) 0 ≡ Some e
  tick_first e [] k is h at = tick_by e (waits_for_time m (state_after plan m journal)) ((state_after plan m journal).clock + 1) k at
  tick_first e (x ∷ xs) k is h at = absurd (no_tick e k h (subst (λ ys. slice_get ys k ≡ Some e) is at))

  -- a tick may follow where it is the first that may
  pub by_first : (e : Event) (b : Bool) → is_tick e ≡ true → goes_on plan journal ≡ true → (IsTrue b ↔ (slice_get (ready plan m journal) 0 ≡ Some e)) → (IsTrue b ↔ IsAmong e (ready plan m journal))
  by_first e b h going k =
      let is = ready_going m plan journal S all space u going in (
        λ yes. (0, k.0 yes),
        λ at. k.1 (subst (λ ys. slice_get ys 0 ≡ Some e) (sym is) (tick_first e (allowed plan m (state_after plan m journal)) at.0 refl h (subst (λ ys. slice_get ys at.0 ≡ Some e) is at.1))),
      )

  -- nothing may follow once the run is over
  pub by_none : (e : Event) → goes_on plan journal ≡ false → (IsTrue false ↔ IsAmong e (ready plan m journal))
  by_none e h = (λ no. absurd (let z : ⊥ = cc in z), λ at. absurd (nowhere e (ready plan m journal) (ready_stopped m plan journal S all space u h) at))
