-- The driver takes a request from a queue, and gives one up: lines and holdings change together.
use Rattle.std.proofs.Common.{if◌then◌else◌, ◌≡◌, ◌≢◌, ℕ, ◌+◌, ◌-◌, ◌==◌, ◌<◌, ◌≤◌, nat_lt, Bool, true, false, ◌⊎◌, inl, inr, Option, Some, None, length, refl, ap, sym, ◌∙◌, arith}
use Rattle.std.proofs.lemmas.Bool.Decides.{nat_tests}
use Rattle.wdf_base.specs.declared.plan.Plan.{Plan}
use Rattle.wdf_model.specs.declared.entries.Holding.{Holding}
use Rattle.wdf_model.specs.Tables.{flag, same_id}
use Rattle.wdf_model.specs.Plans.{is_managed}
use Rattle.wdf_model.specs.parts.Requests.{Requests, origin_of}
use Rattle.wdf_model.specs.parts.Queues.{Queues, held_count}
use Rattle.wdf_model.specs.parts.Queues as queues
use Rattle.wdf_model.specs.parts.Targets.{Targets}
use Rattle.wdf_model.specs.parts.Power.{Power, holding_of, is_held, no_holding, with_holding}
use Rattle.wdf_model.specs.parts.Power as power
use Rattle.wdf_model.specs.State.{State, is_with_driver}
use Rattle.wdf_model.specs.rules.Deeds.{give_up, hold_power, release_line, release_power}
use Rattle.law_machine_base.specs.Agreement.{managed_origin}
use Rattle.wdf_model.proofs.Maps.{entry_put_other, entry_put_same}
use Rattle.wdf_model.proofs.Counts.{equal, not_equal, one_or_two}
use Rattle.law_machine_counts.proofs.Holding.{Holds, HoldsIn, holder, holds_by_turn, is_counted, is_from}

-- ---- lines

-- a queue that counts one more
pub one_more : (Q : Queues) (q p : ℕ) → held_count (queues.hold Q q) p ≡ held_count Q p + flag (q == p)
one_more Q q p = elim (one_or_two p q) [
  | inl e ↦ rw e (entry_put_same 0 Q.held q (held_count Q q + 1) ∙ (let yes : flag (q == q) ≡ 1 = ap flag (equal q q refl) in omega arith))
  | inr n ↦ entry_put_other 0 Q.held q p (held_count Q q + 1) n ∙ (let no : flag (q == p) ≡ 0 = ap flag (not_equal q p (λ e. n (sym e))) in omega arith)
]

one_less : (Q : Queues) (q p : ℕ) → (p ≡ q) ⊎ (p ≢ q) → flag (q == p) ≤ held_count Q p → held_count (queues.let_go Q q) p + flag (q == p) ≡ held_count Q p
one_less Q q p (inl e) there =
    let yes : flag (q == p) ≡ 1 = ap flag (equal q p (sym e)) in
    let less : held_count (queues.let_go Q q) p ≡ held_count Q p - 1 = rw e (entry_put_same 0 Q.held q (held_count Q q - 1)) in
    omega arith
one_less Q q p (inr n) there =
    let no : flag (q == p) ≡ 0 = ap flag (not_equal q p (λ e. n (sym e))) in
    let same : held_count (queues.let_go Q q) p ≡ held_count Q p = entry_put_other 0 Q.held q p (held_count Q q - 1) n in
    omega arith

released_line : (Q : Queues) (from : Option ℕ) (p : ℕ) → flag (same_id from p) ≤ held_count Q p → held_count (release_line Q from) p + flag (same_id from p) ≡ held_count Q p
released_line Q None p there = omega arith
released_line Q (Some q) p there = one_less Q q p (one_or_two p q) there

-- ---- holdings

pub holding_here : (P : Power) (r : ℕ) (f : Holding → Holding) → holding_of (with_holding P r f) r ≡ f (holding_of P r)
holding_here P r f = entry_put_same no_holding P.holdings r (f (holding_of P r))

pub holding_elsewhere : (P : Power) (r x : ℕ) (f : Holding → Holding) → x ≢ r → holding_of (with_holding P r f) x ≡ holding_of P x
holding_elsewhere P r x f n = entry_put_other no_holding P.holdings r x (f (holding_of P r)) n

-- a holding's change that keeps its queue
pub same_holding : (P : Power) (r x : ℕ) (f : Holding → Holding) → ((h : Holding) → (f h).queue.0 ≡ h.queue.0) → (holding_of (with_holding P r f) x).queue.0 ≡ (holding_of P x).queue.0
same_holding P r x f same = elim (one_or_two x r) [
  | inl e ↦ rw e (ap (λ (h : Holding). h.queue.0) (holding_here P r f) ∙ same _)
  | inr n ↦ ap (λ (h : Holding). h.queue.0) (holding_elsewhere P r x f n)
]

-- what a change of one holding leaves alone, and the queue that it names now
pub record Notes (P P' : Power) (r q : ℕ) : Type 0 where
  pub others : (x : ℕ) → x ≢ r → (holding_of P' x).queue.0 ≡ (holding_of P x).queue.0
  pub here : (holding_of P' r).queue.0 ≡ q

pub none_named : (n : ℕ) → nat_lt 0 n ≡ false → n ≡ 0
none_named n h = grind (arith, nat_tests)

released_by : (P : Power) (r : ℕ) (b : Bool) → is_held (holding_of P r) ≡ b → Notes P (if b then power.held_less P r else P) r 0
released_by P r true e = record {
  others = λ x n. ap (λ (h : Holding). h.queue.0) (holding_elsewhere P r x (λ _. no_holding) n);
  here = ap (λ (h : Holding). h.queue.0) (holding_here P r (λ _. no_holding));
}
released_by P r false e = record { others = λ x n. refl; here = none_named (holding_of P r).queue.0 e }

held_by_power : (plan : Plan) (P : Power) (r q : ℕ) (b : Bool) → (holding_of P r).queue.0 ≡ 0 → Notes P (if b then power.held_more P r q else P) r (if b then q else 0)
held_by_power plan P r q true e = record {
  others = λ x n. ap (λ (h : Holding). h.queue.0) (holding_elsewhere P r x (λ _. record { queue = record { 0 = q }; acknowledged = false; stop_asked = false; resume_due = false }) n);
  here = ap (λ (h : Holding). h.queue.0) (holding_here P r (λ _. record { queue = record { 0 = q }; acknowledged = false; stop_asked = false; resume_due = false }));
}
held_by_power plan P r q false e = record { others = λ x n. refl; here = e }

-- ---- a request is taken from a queue

pub taken : {plan : Plan} {R R' : Requests} {Q Q' : Queues} {T : Targets} {P : Power} (q r : ℕ) → Holds plan R Q T P → ((x : ℕ) → x ≢ r → holder R' T x ≡ holder R T x)
    → r < length R'.all → length R.all ≤ length R'.all → holder R T r ≡ None → holder R' T r ≡ Some q → ((p : ℕ) → held_count Q' p ≡ held_count Q p + flag (q == p))
    → Holds plan R' Q' T (hold_power plan P r q)
taken {plan} {R} {R'} {Q} {Q'} {T} {P} q r h elsewhere inside longer before now more =
    let free : (holding_of P r).queue.0 ≡ 0 = h.holdings r ∙ ap (managed_origin plan) before in
    let notes : Notes P (hold_power plan P r q) r (managed_origin plan (Some q)) = held_by_power plan P r q (is_managed plan q) free in
    holds_by_turn h r (record {
      elsewhere = elsewhere;
      inside = inside;
      longer = longer;
      counts = λ p.
          let one = more p in
          let none : flag (is_from R T p r) ≡ 0 = ap (λ o. flag (same_id o p)) before in
          let it : flag (is_from R' T p r) ≡ flag (q == p) = ap (λ o. flag (same_id o p)) now in
          omega arith;
      others = notes.others;
      here = notes.here ∙ ap (managed_origin plan) (sym now);
    })

-- ---- a request is given up

pub record Released {A : Type 0} (S U : State A) (r : ℕ) (from : Option ℕ) : Type 0 where
  pub counts : (q : ℕ) → held_count U.queues q + flag (same_id from q) ≡ held_count S.queues q
  pub notes : Notes S.power U.power r 0
  pub requests : U.requests ≡ S.requests
  pub targets : U.targets ≡ S.targets

released : {A : Type 0} (plan : Plan) (S : State A) (r : ℕ) (b : Bool) (from : Option ℕ) → ((q : ℕ) → flag (same_id (if b then from else None) q) ≤ held_count S.queues q)
    → (holding_of S.power r).queue.0 ≡ managed_origin plan (if b then from else None)
    → Released S (if b then record S { queues = release_line S.queues from; power = release_power S.power r } else S) r (if b then from else None)
released plan S r true from there named = record {
  counts = λ q. released_line S.queues from q (there q);
  notes = released_by S.power r (is_held (holding_of S.power r)) refl;
  requests = refl;
  targets = refl;
}
released plan S r false from there named = record {
  counts = λ q. omega arith;
  notes = record { others = λ x n. refl; here = named };
  requests = refl;
  targets = refl;
}

pub gives_up : {A : Type 0} (plan : Plan) (S : State A) (r : ℕ) → HoldsIn plan S → Released S (give_up S r) r (holder S.requests S.targets r)
gives_up plan S r h = released plan S r (is_with_driver S r) (origin_of S.requests r) (λ q. is_counted h q r) (h.holdings r)

-- and is held no more
pub given_up : {A : Type 0} {plan : Plan} {S U : State A} {R' : Requests} {Q' : Queues} {T' : Targets} (r : ℕ) → HoldsIn plan S → Released S U r (holder S.requests S.targets r)
    → ((x : ℕ) → x ≢ r → holder R' T' x ≡ holder S.requests S.targets x) → r < length R'.all → length S.requests.all ≤ length R'.all → holder R' T' r ≡ None
    → ((q : ℕ) → held_count Q' q ≡ held_count U.queues q) → Holds plan R' Q' T' U.power
given_up {A} {plan} {S} {U} {R'} {Q'} {T'} r h g elsewhere inside longer none queues = holds_by_turn h r (record {
  elsewhere = elsewhere;
  inside = inside;
  longer = longer;
  counts = λ q.
      let count = g.counts q in
      let same = queues q in
      let not_now : flag (is_from R' T' q r) ≡ 0 = ap (λ o. flag (same_id o q)) none in
      omega arith;
  others = g.notes.others;
  here = g.notes.here ∙ ap (managed_origin plan) (sym none);
})
