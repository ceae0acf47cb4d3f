-- The laws on what is held, at each place of every run.
use Rattle.std.proofs.Common.{if◌then◌else◌, ◌≡◌, ℕ, zero, suc, ◌==◌, Bool, true, false, ◌&&◌, List, [], ◌∷◌, ◌⊎◌, inl, inr, Option, Some, None, map, take, length, refl, sym, subst, ◌∙◌, arith}
use Rattle.std.specs.List.{list_all}
use Rattle.std.proofs.lemmas.List.Sums.{length-filter}
use Rattle.std.proofs.Math.Bool.{and-false, and-true}
use Rattle.wdf_base.specs.Meaning.{Meaning}
use Rattle.wdf_base.specs.declared.plan.Plan.{Plan}
use Rattle.wdf_base.specs.declared.event.Event.{Event}
use Rattle.wdf_model.specs.Tables.{entry, ids_of, same_id}
use Rattle.wdf_model.specs.Plans.{declared_ids}
use Rattle.wdf_model.specs.parts.Requests.{origin_of}
use Rattle.wdf_model.specs.parts.Queues.{held_count}
use Rattle.wdf_model.specs.parts.Power.{holding_of}
use Rattle.wdf_model.specs.State.{State, held_from, is_held_from, is_with_driver, opening}
use Rattle.wdf_model.specs.rules.Steps.{after, deeds, may}
use Rattle.wdf_model.specs.rules.Ready.{IsRunOf, ready, state_after}
use Rattle.law_machine_base.specs.FactsOfEvents.{IsTick}
use Rattle.law_machine_base.specs.Agreement.{held_agrees, holding_queue, holdings_agree, managed_origin}
use Rattle.wdf_model.proofs.Runs.{along_run}
use Rattle.wdf_model.proofs.Tests.{both}
use Rattle.wdf_model.proofs.Counts.{equal}
use Rattle.law_machine_base.proofs.Follows.{follows, state_goes_on}
use Rattle.law_machine_base.proofs.FitsOfEvents.{event_fits}
use Rattle.law_machine_base.proofs.KeptByDeeds.{KeptIn}
use Rattle.law_machine_base.proofs.LawsOverRuns.{history_now}
use Rattle.law_machine_counts.specs.AtPlaces.{AtEachPlace}
use Rattle.law_machine_counts.proofs.Totals.{same_total}
use Rattle.law_machine_counts.proofs.Holding.{HoldsIn, is_from}
use Rattle.law_machine_counts.proofs.HeldMoves.{Placed}
use Rattle.law_machine_counts.proofs.HeldByDeeds.{deeds_hold}
use Rattle.law_machine_counts.proofs.Exchanges.{none_from}

-- ---- the opening

queues_open : (ids : List ℕ) (q : ℕ) → entry {T = ℕ} 0 (map (λ i. 0) ids) q ≡ 0
queues_open [] q = refl
queues_open (i ∷ ids) zero = refl
queues_open (i ∷ ids) (suc q) = queues_open ids q

opening_holds : {A : Type 0} (plan : Plan) (m : Meaning A) → HoldsIn plan (opening plan m)
opening_holds plan m = record {
  counts = λ q n within. queues_open (declared_ids plan) q ∙ sym (none_from 0 n);
  holdings = λ r. refl;
}

-- ---- one event more

-- what was completed and what arrived doesn't matter here
pub placed : {A : Type 0} {F B : ℕ → Bool} (S : State A) → KeptIn F B S → Placed S
placed S k = record {
  queued = k.queued;
  sent = k.sent;
  room = k.room;
  kinds = k.kinds;
  made = k.made;
  returns = k.returns;
  ended = λ r h. absurd (let z : ⊥ = cc in z);
  numbered = λ r h. absurd (let z : ⊥ = cc in z);
  begun = λ r h. refl;
}

one_event_more : {A : Type 0} (plan : Plan) (m : Meaning A) (S : State A) (offered : List Event) (e : Event) → (may plan m S e ≡ true) ⊎ IsTick m S offered e → Placed S → HoldsIn plan S → HoldsIn plan (after plan m S e)
one_event_more plan m S offered e (inl may_come) k h = deeds_hold plan (deeds plan S e) S (event_fits plan m S e may_come) k h
one_event_more plan m S offered e (inr t) k h = subst (λ x. HoldsIn plan (after plan m S x)) (sym t.tick) h

-- ---- each place of a run

holds_at_first : {A : Type 0} (plan : Plan) (m : Meaning A) → HoldsIn plan (state_after plan m [])
unfolding state_after
holds_at_first plan m = opening_holds plan m

pub holds_at_each : {A : Type 0} (plan : Plan) (m : Meaning A) (run : List Event) → IsRunOf plan m run → (n : ℕ) → HoldsIn plan (state_after plan m (take n run))
holds_at_each plan m run is_run n = along_run (λ es. HoldsIn plan (state_after plan m es)) (ready plan m) run (holds_at_first plan m)
    (λ before e place so_far held at. subst (λ T. HoldsIn plan T) (sym (state_goes_on plan m before e))
    (one_event_more plan m (state_after plan m before) (ready plan m before) e (follows plan m before place e at) (placed (state_after plan m before) (history_now plan m before so_far).kept) held))
    is_run n

-- ---- the laws

pub each_passes : {X : Type 0} (p : X → Bool) → ((x : X) → p x ≡ true) → (xs : List X) → list_all p xs ≡ true
each_passes p h [] = refl
each_passes p h (x ∷ xs) = both (p x) (list_all p xs) (h x) (each_passes p h xs)

pub from_by : (b : Bool) (o : Option ℕ) (q : ℕ) → (same_id o q && b) ≡ same_id (if b then o else None) q
from_by true None q = refl
from_by true (Some p) q = and-true (p == q)
from_by false None q = refl
from_by false (Some p) q = and-false (p == q)

pub held_number : {A : Type 0} (plan : Plan) (S : State A) → HoldsIn plan S → (q : ℕ) → held_count S.queues q ≡ length (held_from S q)
held_number plan S h q =
    h.counts q (length S.requests.all) (omega arith)
    ∙ sym (same_total (is_from S.requests S.targets q) (is_held_from S q) 0 (length S.requests.all) (λ r above. from_by (is_with_driver S r) (origin_of S.requests r) q))
    ∙ sym (length-filter (is_held_from S q) (ids_of S.requests.all))

named_by : (plan : Plan) (b : Bool) (o : Option ℕ) → managed_origin plan (if b then o else None) ≡ (if b then managed_origin plan o else 0)
named_by plan true o = refl
named_by plan false o = refl

named : {A : Type 0} (plan : Plan) (S : State A) → HoldsIn plan S → (r : ℕ) → (holding_of S.power r).queue.0 ≡ holding_queue plan S r
named plan S h r = h.holdings r ∙ named_by plan (is_with_driver S r) (origin_of S.requests r)

pub held_agrees_at_each : {A : Type 0} → AtEachPlace {A = A} held_agrees
held_agrees_at_each plan m run is_run n =
    let S = state_after plan m (take n run) in
    each_passes (λ q. held_count S.queues q == length (held_from S q)) (λ q. equal (held_count S.queues q) (length (held_from S q)) (held_number plan S (holds_at_each plan m run is_run n) q)) (declared_ids plan)

pub holdings_agree_at_each : {A : Type 0} → AtEachPlace {A = A} holdings_agree
holdings_agree_at_each plan m run is_run n =
    let S = state_after plan m (take n run) in
    each_passes (λ r. (holding_of S.power r).queue.0 == holding_queue plan S r) (λ r. equal (holding_of S.power r).queue.0 (holding_queue plan S r) (named plan S (holds_at_each plan m run is_run n) r)) (ids_of S.tree.nodes)
