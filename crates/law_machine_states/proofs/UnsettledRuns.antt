-- Nothing is unsettled while the queues of a device are down, at each place of every run.
use Rattle.std.proofs.Common.{if◌then◌else◌, ◌≡◌, ℕ, zero, suc, nat_lt, Bool, true, false, not, List, [], ◌∷◌, ◌⊎◌, inl, inr, Option, Some, None, filter, slice_get, take, refl, sym, ap, subst, ◌∙◌}
use Rattle.wdf_base.specs.Meaning.{Meaning}
use Rattle.wdf_base.specs.Resolved.{IsResolved}
use Rattle.wdf_base.specs.declared.plan.Plan.{Plan}
use Rattle.wdf_base.specs.declared.event.Event.{Event}
use Rattle.wdf_base.specs.declared.event.Event.TheVariants as event
use Rattle.wdf_model.specs.Tables.{ids_of}
use Rattle.wdf_model.specs.Plans.{is_managed}
use Rattle.wdf_model.specs.parts.Power.{Power, acknowledged, holding_of, is_held, is_held_at, is_unsettled_at, opening_power}
use Rattle.wdf_model.specs.State.{State}
use Rattle.wdf_model.specs.rules.Steps.{after, may}
use Rattle.wdf_model.specs.rules.Ready.{IsRunOf, ready, state_after}
use Rattle.law_machine_base.specs.FactsOfEvents.{IsTick}
use Rattle.law_machine_base.proofs.Follows.{state_goes_on}
use Rattle.wdf_model.proofs.Runs.{run_front, take_ended, take_next}
use Rattle.wdf_model.proofs.Tests.{both, both_left, both_right}
use Rattle.law_machine_lives.proofs.SoundRuns.{KnownAll, all_known, all_sound}
use Rattle.law_machine_counts.proofs.Holding.{HoldsIn, holder}
use Rattle.law_machine_counts.proofs.PowerQueues.{queues_at_each}
use Rattle.law_trace_held.proofs.Holdings.{noted}
use Rattle.law_trace_held.proofs.HoldingsOverRuns.{holds_now}
use Rattle.law_trace_power.proofs.Events.{staged}
use Rattle.law_trace_power.proofs.Laws.{comes_by}
use Rattle.law_trace_power.proofs.Runs.{kept_at_each}
use Rattle.law_trace_settled.proofs.Course.{TakesUp}
use Rattle.law_trace_settled.proofs.Never.{not_so}
use Rattle.law_trace_settled.proofs.ReturnsUp.{ReturnsUp, returns_after}
use Rattle.law_trace_settled.proofs.Takes.{takes_up}
use Rattle.law_machine_states.specs.Settled.{NothingUnsettled}
use Rattle.law_machine_states.proofs.Open.{either_opens}
use Rattle.law_machine_states.proofs.Runs.{courses_at, moves_at}
use Rattle.law_machine_states.proofs.Unsettled.{Settled, settled_after}
use Rattle.law_trace_held.proofs.AckedAsTold.{managed_note}

managed_noted : {A : Type 0} (plan : Plan) (U : State A) → HoldsIn plan U → (x : ℕ) → is_held (holding_of U.power x) ≡ true → is_managed plan (noted U.power x) ≡ true
managed_noted plan U hold x h =
    let note = hold.holdings x in
    subst (λ i. is_managed plan i ≡ true) (sym note) (managed_note plan (holder U.requests U.targets x) (subst (λ i. nat_lt 0 i ≡ true) note h))

record Rests {A : Type 0} (plan : Plan) (S : State A) : Type 0 where
  returns : ReturnsUp plan S
  settled : Settled S

rests_first : {A : Type 0} (plan : Plan) (m : Meaning A) → Rests plan (state_after plan m [])
unfolding state_after
rests_first plan m = record { returns = λ r q h. absurd (let z : ⊥ = cc in z); settled = λ d low off x held open_. let z : ⊥ = cc in z }

-- ---- each place

module _ {A : Type 0} (plan : Plan) (m : Meaning A) (run : List Event) (resolved : IsResolved plan) (is_run : IsRunOf plan m run) where
  abbrev at_place : ℕ → State A
  at_place n = state_after plan m (take n run)

  next_is : (n : ℕ) (e : Event) → slice_get run n ≡ Some e → at_place (suc n) ≡ after plan m (at_place n) e
  next_is n e at = ap (state_after plan m) (take_next run n e at) ∙ state_goes_on plan m (take n run) e

  returns_next : (n : ℕ) (e : Event) → (may plan m (at_place n) e ≡ true) ⊎ IsTick m (at_place n) (ready plan m (take n run)) e → ReturnsUp plan (at_place n) → ReturnsUp plan (after plan m (at_place n) e)
  returns_next n e (inl h) k =
      let S : State A = at_place n in
      let known : KnownAll plan S = all_known plan m (take n run) (run_front (ready plan m) run n is_run) in
      λ r q t. returns_after plan m S known k (λ device s j may_come. (staged plan m S (take n run) resolved known (kept_at_each plan m run resolved is_run n) device.id.0 s j (all_sound plan m S (event.Stage device s j) known may_come).1.1).devices) e h r q t
  returns_next n e (inr t) k = subst (λ x. ReturnsUp plan (after plan m (at_place n) x)) (sym t.tick) (λ r q h. k r q h)

  takes_at : (n : ℕ) (e : Event) → (may plan m (at_place n) e ≡ true) ⊎ IsTick m (at_place n) (ready plan m (take n run)) e → ReturnsUp plan (at_place n) → TakesUp plan (at_place n).power.devices e
  takes_at n e (inl h) k = takes_up plan m (at_place n) e k h
  takes_at n e (inr t) k = subst (TakesUp plan (at_place n).power.devices) (sym t.tick) (λ r q d of told. absurd (not_so told))

  rests_next : (n : ℕ) (e : Event) → slice_get run n ≡ Some e → Rests plan (at_place n) → Rests plan (after plan m (at_place n) e)
  rests_next n e at k =
      let S : State A = at_place n in
      let U : State A = after plan m S e in
      let follows_ = comes_by plan m run n e is_run at in
      let now : U.power.queues ≡ (opening_power plan).queues = subst (λ (T : State A). T.power.queues ≡ (opening_power plan).queues) (next_is n e at) (queues_at_each plan m run is_run (suc n)) in
      let hold : HoldsIn plan U = subst (HoldsIn plan) (next_is n e at) (holds_now plan m (take (suc n) run) (run_front (ready plan m) run (suc n) is_run)) in
      record {
        returns = returns_next n e follows_ k.returns;
        settled = settled_after plan S U e (courses_at plan m run resolved is_run n) (moves_at plan m run resolved is_run n e at) (takes_at n e follows_ k.returns) (either_opens plan m S (ready plan m (take n run)) e follows_)
            (now ∙ sym (queues_at_each plan m run is_run n)) now (managed_noted plan U hold) k.settled;
      }

  next_place : (n : ℕ) (found : Option Event) → slice_get run n ≡ found → Rests plan (at_place n) → Rests plan (at_place (suc n))
  next_place n None at k = subst (λ es. Rests plan (state_after plan m es)) (sym (take_ended run n at)) k
  next_place n (Some e) at k = subst (Rests plan) (sym (next_is n e at)) (rests_next n e at k)

  rests_at : (n : ℕ) → Rests plan (at_place n)
  rests_at zero = rests_first plan m
  rests_at (suc n) = next_place n (slice_get run n) refl (rests_at n)

-- ---- the law

none_kept_by : (p : ℕ → Bool) (x : ℕ) (xs : List ℕ) (b : Bool) → (b ≡ true → ⊥) → filter p xs ≡ [] → (if b then x ∷ filter p xs else filter p xs) ≡ []
none_kept_by p x xs true h k = absurd (h refl)
none_kept_by p x xs false h k = k

none_kept : (p : ℕ → Bool) → ((x : ℕ) → p x ≡ true → ⊥) → (xs : List ℕ) → filter p xs ≡ []
none_kept p h [] = refl
none_kept p h (x ∷ xs) = none_kept_by p x xs (p x) (h x) (none_kept p h xs)

pub nothing_unsettled_at_each : {A : Type 0} (plan : Plan) (m : Meaning A) (run : List Event) → IsResolved plan → IsRunOf plan m run → (n : ℕ) → NothingUnsettled (state_after plan m (take n run))
nothing_unsettled_at_each plan m run resolved is_run n d low off =
    let P : Power = (state_after plan m (take n run)).power in
    none_kept (λ r. is_unsettled_at P d (holding_of P r)) (λ r h.
    let held : is_held_at P d (holding_of P r) ≡ true = both_left (is_held_at P d (holding_of P r)) (not (acknowledged P r)) h in
    (rests_at plan m run resolved is_run n).settled d low off r held (both (is_held (holding_of P r)) (not (acknowledged P r)) (both_left (is_held (holding_of P r)) _ held) (both_right (is_held_at P d (holding_of P r)) (not (acknowledged P r)) h)))
    (ids_of P.holdings)
