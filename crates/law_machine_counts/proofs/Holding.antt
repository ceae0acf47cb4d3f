-- From which queue the driver holds each request, and what is counted and noted of it: the invariant, and what a
-- change of one request makes of it.
use Rattle.std.proofs.Common.{if◌then◌else◌, ◌≡◌, ◌≢◌, ℕ, suc, ◌+◌, ◌<◌, ◌≤◌, Bool, ◌⊎◌, inl, inr, Option, None, option_map, length, count_by, ap, sym, ◌∙◌, arith}
use Rattle.std.specs.List.{range_with_len}
use Rattle.wdf_base.specs.declared.plan.Plan.{Plan}
use Rattle.wdf_model.specs.declared.entries.Request.{Request}
use Rattle.wdf_model.specs.Tables.{flag, same_id}
use Rattle.wdf_model.specs.parts.Requests.{Requests, request_of}
use Rattle.wdf_model.specs.parts.Queues.{Queues, held_count}
use Rattle.wdf_model.specs.parts.Targets.{Targets, is_forgotten}
use Rattle.wdf_model.specs.parts.Power.{Power, holding_of}
use Rattle.wdf_model.specs.State.{State, held_at}
use Rattle.law_machine_base.specs.Agreement.{managed_origin}
use Rattle.wdf_model.proofs.Counts.{one_or_two}
use Rattle.law_machine_counts.proofs.Totals.{counts_it, one_changes, same_total}

-- ---- readers

-- the queue from which the driver holds a request, if any
abbrev pub held_by : Bool → Request → Option ℕ
held_by forgotten q = if held_at forgotten q.place then option_map (λ o. o.0) q.info.origin else None

abbrev pub holder : Requests → Targets → ℕ → Option ℕ
holder R T r = held_by (is_forgotten T r) (request_of R r)

-- one is held from this queue
abbrev pub is_from : Requests → Targets → ℕ → ℕ → Bool
is_from R T q r = same_id (holder R T r) q

-- ---- the invariant

pub record Holds (plan : Plan) (R : Requests) (Q : Queues) (T : Targets) (P : Power) : Type 0 where
  -- a queue counts what is held from it
  pub counts : (q n : ℕ) → length R.all ≤ n → held_count Q q ≡ count_by (is_from R T q) (range_with_len 0 n)
  -- a holding names the power-managed queue from which the request is held
  pub holdings : (r : ℕ) → (holding_of P r).queue.0 ≡ managed_origin plan (holder R T r)

abbrev pub HoldsIn : {A : Type 0} → Plan → State A → Type 0
HoldsIn plan S = Holds plan S.requests S.queues S.targets S.power

-- what is held is counted
pub is_counted : {plan : Plan} {R : Requests} {Q : Queues} {T : Targets} {P : Power} → Holds plan R Q T P → (q r : ℕ) → flag (is_from R T q r) ≤ held_count Q q
is_counted {R = R} {T = T} h q r =
    let count = h.counts q (length R.all + suc r) (omega arith) in
    let it = counts_it (is_from R T q) r 0 (length R.all + suc r) (omega arith) (omega arith) in
    omega arith

-- ---- one request changes

pub record Turns (plan : Plan) (R R' : Requests) (Q Q' : Queues) (T T' : Targets) (P P' : Power) (r : ℕ) : Type 0 where
  pub elsewhere : (x : ℕ) → x ≢ r → holder R' T' x ≡ holder R T x
  pub inside : r < length R'.all
  pub longer : length R.all ≤ length R'.all
  pub counts : (q : ℕ) → held_count Q' q + flag (is_from R T q r) ≡ held_count Q q + flag (is_from R' T' q r)
  pub others : (x : ℕ) → x ≢ r → (holding_of P' x).queue.0 ≡ (holding_of P x).queue.0
  pub here : (holding_of P' r).queue.0 ≡ managed_origin plan (holder R' T' r)

the_same : (R R' : Requests) (T T' : Targets) (r : ℕ) → ((x : ℕ) → x ≢ r → holder R' T' x ≡ holder R T x) → holder R' T' r ≡ holder R T r → (x : ℕ) → (x ≡ r) ⊎ (x ≢ r) → holder R' T' x ≡ holder R T x
the_same R R' T T' r elsewhere here x (inl e) = rw e here
the_same R R' T T' r elsewhere here x (inr d) = elsewhere x d

module _ {plan : Plan} {R R' : Requests} {Q Q' : Queues} {T T' : Targets} {P P' : Power} where
  counts_after : Holds plan R Q T P → (r : ℕ) → Turns plan R R' Q Q' T T' P P' r → (q n : ℕ) → length R'.all ≤ n → held_count Q' q ≡ count_by (is_from R' T' q) (range_with_len 0 n)
  counts_after h r t q n within =
      let before : held_count Q q ≡ count_by (is_from R T q) (range_with_len 0 n) = let longer = t.longer in h.counts q n (omega arith) in
      let inside : r < 0 + n = let i = t.inside in omega arith in
      let changed = one_changes (is_from R T q) (is_from R' T' q) r 0 n (omega arith) inside (λ x d. ap (λ o. same_id o q) (t.elsewhere x d)) in
      let count = t.counts q in
      omega arith

  holding_after : Holds plan R Q T P → (r : ℕ) → Turns plan R R' Q Q' T T' P P' r → (x : ℕ) → (x ≡ r) ⊎ (x ≢ r) → (holding_of P' x).queue.0 ≡ managed_origin plan (holder R' T' x)
  holding_after h r t x (inl e) = rw e t.here
  holding_after h r t x (inr d) = t.others x d ∙ h.holdings x ∙ ap (managed_origin plan) (sym (t.elsewhere x d))

  pub holds_by_turn : Holds plan R Q T P → (r : ℕ) → Turns plan R R' Q Q' T T' P P' r → Holds plan R' Q' T' P'
  holds_by_turn h r t = record { counts = λ q n within. counts_after h r t q n within; holdings = λ x. holding_after h r t x (one_or_two x r) }

  -- nothing changes of who holds what
  pub holds_alike : Holds plan R Q T P → ((x : ℕ) → holder R' T' x ≡ holder R T x) → length R.all ≤ length R'.all → ((q : ℕ) → held_count Q' q ≡ held_count Q q)
      → ((x : ℕ) → (holding_of P' x).queue.0 ≡ (holding_of P x).queue.0) → Holds plan R' Q' T' P'
  holds_alike h same longer queues power = record {
    counts = λ q n within. queues q ∙ h.counts q n (omega arith) ∙ sym (same_total (is_from R T q) (is_from R' T' q) 0 n (λ x above. ap (λ o. same_id o q) (same x)));
    holdings = λ x. power x ∙ h.holdings x ∙ ap (managed_origin plan) (sym (same x));
  }

  -- one request changes, but not who holds it
  pub holds_still : Holds plan R Q T P → (r : ℕ) → ((x : ℕ) → x ≢ r → holder R' T' x ≡ holder R T x) → holder R' T' r ≡ holder R T r → length R.all ≤ length R'.all
      → ((q : ℕ) → held_count Q' q ≡ held_count Q q) → ((x : ℕ) → (holding_of P' x).queue.0 ≡ (holding_of P x).queue.0) → Holds plan R' Q' T' P'
  holds_still h r elsewhere here longer queues power = holds_alike h (λ x. the_same R R' T T' r elsewhere here x (one_or_two x r)) longer queues power
