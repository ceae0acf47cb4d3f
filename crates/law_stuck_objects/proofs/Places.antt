-- What is so of requests that are sent, and of those that arrived, in the state after a run of a resolved plan.
use Rattle.std.proofs.Common.{◌≡◌, ℕ, Bool, true, false, not, ◌&&◌, List, inl, inr, is_some, take, refl, sym, ap, subst, arith}
use Rattle.std.specs.List.{list_any}
use Rattle.std.proofs.lemmas.Bool.{cases_Bool}
use Rattle.wdf_base.specs.Meaning.{Meaning}
use Rattle.wdf_base.specs.Resolved.{IsResolved}
use Rattle.wdf_base.specs.declared.plan.Plan.{Plan}
use Rattle.wdf_base.specs.declared.event.Event.{Event}
use Rattle.wdf_base.specs.Lives.{is_live}
use Rattle.wdf_base.specs.Places.{is_done, is_sent_to}
use Rattle.wdf_model.specs.declared.entries.Request.{Request}
use Rattle.wdf_model.specs.Tables.{flag}
use Rattle.wdf_model.specs.Plans.{device_of, target_of}
use Rattle.wdf_model.specs.parts.Tree.{life_of, parent_of}
use Rattle.wdf_model.specs.parts.Requests.{has_arrived, no_request, place_of, request_of}
use Rattle.wdf_model.specs.State.{State, nothing_at}
use Rattle.wdf_model.specs.rules.Ready.{IsRunOf, ready, state_after}
use Rattle.wdf_model.proofs.Runs.{run_front}
use Rattle.wdf_model.proofs.Tests.{both, both_right}
use Rattle.law_machine_base.proofs.Kept.{is_request}
use Rattle.law_stuck_named.proofs.Runs.{Known, known_now, stands_now}
use Rattle.law_stuck_named.proofs.Standing.{Stands}
use Rattle.law_stuck_objects.specs.Deleted.{ArrivedEnd, SentToTargets}
use Rattle.law_stuck_objects.proofs.Runs.{GoesWell, goes_well}
use Rattle.law_stuck_named.proofs.AfterUp.{any_place}

module _ {A : Type 0} (plan : Plan) (m : Meaning A) (run : List Event) (resolved : IsResolved plan) (is_run : IsRunOf plan m run) where
  abbrev S : State A
  S = state_after plan m run

  known : Known plan (state_after plan m run)
  known = known_now plan m resolved run is_run

  well : GoesWell plan (state_after plan m run)
  well = goes_well plan m run resolved is_run

  stands : Stands plan (state_after plan m run)
  stands = stands_now plan m run resolved is_run

  -- ---- an object that isn't live has nothing sent to it

  pub nothing_there : (o : ℕ) → is_live (life_of S.tree o) ≡ false → nothing_at S o ≡ true
  nothing_there o off = by (list_any (λ (r : Request). is_sent_to o r.place) S.requests.all) refl
    where
      by : (b : Bool) → list_any (λ (r : Request). is_sent_to o r.place) S.requests.all ≡ b → nothing_at S o ≡ true
      by false e = ap not e
      by true e = absurd (
          let r = any_place no_request (λ (r : Request). is_sent_to o r.place) S.requests.all e in
          let n = known.placed.sent o r.0 in
          let one : flag (is_sent_to o (place_of S.requests r.0)) ≡ 1 = ap flag r.1 in
          let live : is_live (life_of S.tree o) ≡ true = well.sent.lives o r.0 (omega arith) in
          let z : ⊥ = cc in z)

  -- ---- a request that arrived and isn't live is done

  undone_by : (a b : Bool) → a ≡ true → b ≡ false → (a && not b) ≡ true
  undone_by true b h e = ap not e
  undone_by false b h e = absurd (let z : ⊥ = cc in z)

  pub request_done : (o : ℕ) → is_request S.tree o ≡ true → is_live (life_of S.tree o) ≡ false → is_done (place_of S.requests o) ≡ true
  request_done o is off = elim (cases_Bool (is_done (place_of S.requests o))) [
    | inl e ↦ e
    | inr undone ↦ absurd (
        let came : has_arrived (request_of S.requests o) ≡ true = known.placed.kinds o is in
        let d : ℕ = (request_of S.requests o).info.device.0 in
        let dev : (is_some (device_of plan d) && is_live (life_of S.tree d)) ≡ true = (stands.opened o).1 (undone_by (has_arrived (request_of S.requests o)) (is_done (place_of S.requests o)) came undone) in
        let live : is_live (life_of S.tree (parent_of S.tree o)) ≡ true = subst (λ y. is_live (life_of S.tree y) ≡ true) (sym (well.ends.owner o is)) (both_right (is_some (device_of plan d)) (is_live (life_of S.tree d)) dev) in
        let done : is_done (place_of S.requests o) ≡ true = well.ends.ended o is off live in
        let z : ⊥ = cc in z)
  ]

  -- ---- as the laws say it

  pub sent_to_targets : SentToTargets plan (state_after plan m run)
  sent_to_targets = record {
    targets = λ r t there.
        let n = known.placed.sent t r in
        let one : flag (is_sent_to t (place_of S.requests r)) ≡ 1 = ap flag there in
        both (is_some (target_of plan t)) (is_live (life_of S.tree t)) (well.sent.targets t r (omega arith)) (well.sent.lives t r (omega arith));
  }

  pub arrived_end : ArrivedEnd (state_after plan m run)
  arrived_end = record { done = request_done }

-- at each place of a run
module _ {A : Type 0} (plan : Plan) (m : Meaning A) (run : List Event) (resolved : IsResolved plan) (is_run : IsRunOf plan m run) (n : ℕ) where
  so_far : IsRunOf plan m (take n run)
  so_far = run_front (ready plan m) run n is_run

  pub sent_at_each : SentToTargets plan (state_after plan m (take n run))
  sent_at_each = sent_to_targets plan m (take n run) resolved so_far

  pub ended_at_each : ArrivedEnd (state_after plan m (take n run))
  ended_at_each = arrived_end plan m (take n run) resolved so_far
