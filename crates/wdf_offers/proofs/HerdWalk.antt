-- The k-th request for which a callback of a queue is due, found among those that are counted for whatever queue.
use Rattle.std.proofs.Common.{if◌then◌else◌, ℕ, zero, suc, ◌≡◌, ◌⊎◌, ◌+◌, ◌-◌, ◌<◌, ◌≤◌, Bool, true, false, ◌&&◌, List, [], ◌∷◌, filter, find, length, slice_get, Option, Some, None, is_some, refl, sym, ap, ◌∙◌, inl, inr, arith}
use Rattle.std.specs.Prelude.{nat_le}
use Rattle.std.specs.List.{range_with_len}
use Rattle.std.proofs.lemmas.Bool.{cases_lt, le-leb, leb-true}
use Rattle.wdf_base.specs.declared.plan.Plan.{Plan}
use Rattle.wdf_base.specs.Places.{is_due}
use Rattle.wdf_model.specs.State.{State}
use Rattle.wdf_model.specs.Tables.{entry}
use Rattle.wdf_model.specs.declared.entries.Holding.{Holding}
use Rattle.wdf_model.specs.declared.entries.Request.{Request}
use Rattle.wdf_model.specs.parts.Power.{no_holding}
use Rattle.wdf_model.specs.parts.Requests.{no_request}
use Rattle.wdf_model.proofs.Maps.{entry_past}
use Rattle.wdf_model.proofs.Tests.{both_left, both_right}
use Rattle.wdf_sets.proofs.Nexts.{First, find_filter, first_in, none_in}
use Rattle.wdf_request.specs.Keys.{returning_queue}
use Rattle.wdf_power.specs.ForQueues.{unasked_queue}
use Rattle.wdf_offers.specs.declared.for_requests.Herd.{Herd}
use Rattle.wdf_offers.specs.declared.for_requests.Herd.TheVariants as herd
use Rattle.wdf_offers.specs.ForRequests.{IsExact, can_be, is_counted, is_due_for, whole}
use Rattle.wdf_offers.proofs.Herds.{whole_part, whole_test}
use Rattle.wdf_offers.proofs.Skips.{right_false}

-- ---- the next one that is counted

-- no id from one on passes
abbrev pub NoneOn : (ℕ → Bool) → ℕ → Type 0
NoneOn w at = (r : ℕ) → at ≤ r → w r ≡ false

-- an id is the first one that passes
pub record IsFirstOn (w : ℕ → Bool) (at x : ℕ) : Type 0 where
  pub after : at ≤ x
  pub before : (r : ℕ) → at ≤ r → r < x → w r ≡ false

module _ (w : ℕ → Bool) (n : ℕ) (blank : (r : ℕ) → n ≤ r → w r ≡ false) (at : ℕ) where
  seen : (o : Option ℕ) → o ≡ find (nat_le at) (filter w (range_with_len 0 n)) → find (λ r. nat_le at r && w r) (range_with_len 0 n) ≡ o
  seen o h = sym (find_filter (nat_le at) w (range_with_len 0 n)) ∙ sym h

  pub none_on : None ≡ find (nat_le at) (filter w (range_with_len 0 n)) → NoneOn w at
  none_on h r after = by (cases_lt r n)
    where
      by : (r < n) ⊎ (n ≤ r) → w r ≡ false
      by (inl within) = right_false (nat_le at r) (w r) (le-leb at r after) (none_in (λ y. nat_le at y && w y) 0 n (seen None h) r (omega arith) (omega arith))
      by (inr past) = blank r past

  first_on : (x : ℕ) → Some x ≡ find (nat_le at) (filter w (range_with_len 0 n)) → IsFirstOn w at x
  first_on x h =
      let first : First (λ y. nat_le at y && w y) 0 n x = first_in (λ y. nat_le at y && w y) 0 n x (seen (Some x) h) in
      record {
        after = leb-true at x (both_left (nat_le at x) (w x) first.passes);
        before = λ r after below. right_false (nat_le at r) (w r) (le-leb at r after) (first.before r (omega arith) below);
      }

module _ {A : Type 0} (S : State A) where
  past_requests : (test : Request → Bool) → test no_request ≡ false → (r : ℕ) → length S.requests.all ≤ r → test (entry no_request S.requests.all r) ≡ false
  past_requests test none r past = ap test (entry_past no_request S.requests.all r past) ∙ none

  pub past_holdings : (test : Holding → Bool) → test no_holding ≡ false → (r : ℕ) → length S.power.holdings ≤ r → test (entry no_holding S.power.holdings r) ≡ false
  past_holdings test none r past = ap test (entry_past no_holding S.power.holdings r past) ∙ none

  pub none_of : (h : Herd) (at : ℕ) → None ≡ find (nat_le at) (whole h S) → NoneOn (whole_test h S) at
  none_of herd.Cancel at = none_on (whole_test herd.Cancel S) (length S.requests.all) (past_requests (λ (x : Request). is_due x.info.mark) refl) at
  none_of herd.Return at = none_on (whole_test herd.Return S) (length S.requests.all) (past_requests (λ (x : Request). is_some (returning_queue x.place)) refl) at
  none_of herd.Stop at = none_on (whole_test herd.Stop S) (length S.power.holdings) (past_holdings (λ (x : Holding). is_some (unasked_queue x)) refl) at
  none_of herd.Resume at = none_on (whole_test herd.Resume S) (length S.power.holdings) (past_holdings (λ (x : Holding). x.resume_due) refl) at

  first_of : (h : Herd) (at x : ℕ) → Some x ≡ find (nat_le at) (whole h S) → IsFirstOn (whole_test h S) at x
  first_of herd.Cancel at = first_on (whole_test herd.Cancel S) (length S.requests.all) (past_requests (λ (x : Request). is_due x.info.mark) refl) at
  first_of herd.Return at = first_on (whole_test herd.Return S) (length S.requests.all) (past_requests (λ (x : Request). is_some (returning_queue x.place)) refl) at
  first_of herd.Stop at = first_on (whole_test herd.Stop S) (length S.power.holdings) (past_holdings (λ (x : Holding). is_some (unasked_queue x)) refl) at
  first_of herd.Resume at = first_on (whole_test herd.Resume S) (length S.power.holdings) (past_holdings (λ (x : Holding). x.resume_due) refl) at

-- ---- what is left of a list

-- what passes from an id on
abbrev pub left_from : (ℕ → Bool) → ℕ → ℕ → List ℕ
left_from p n at = filter p (range_with_len at (n - at))

longer : (p : ℕ → Bool) (a d e : ℕ) → ((x : ℕ) → a ≤ x → x < a + d → p x ≡ false) → filter p (range_with_len a (d + e)) ≡ filter p (range_with_len (a + d) e)
longer p a zero e off = let z : a + 0 ≡ a = omega arith in let s : 0 + e ≡ e = omega arith in rw (z, s) refl
longer p a (suc d) e off =
    let more : suc d + e ≡ suc (d + e) = omega arith in
    let place : a + 1 + d ≡ a + suc d = omega arith in
    rw (more, off a (omega arith) (omega arith)) (longer p (a + 1) d e (λ x after below. off x (omega arith) (omega arith)) ∙ ap (λ y. filter p (range_with_len y e)) place)

-- ids that don't pass are passed over
passed_over : (p : ℕ → Bool) (n at x : ℕ) → at ≤ x → x ≤ n → ((r : ℕ) → at ≤ r → r < x → p r ≡ false) → left_from p n at ≡ left_from p n x
passed_over p n at x after within off =
    let d : n - at ≡ (x - at) + (n - x) = omega arith in
    let place : at + (x - at) ≡ x = omega arith in
    ap (λ k. filter p (range_with_len at k)) d ∙ longer p at (x - at) (n - x) (λ r up under. off r up (omega arith)) ∙ ap (λ y. filter p (range_with_len y (n - x))) place

empty_from : (p : ℕ → Bool) (n : ℕ) → left_from p n n ≡ []
empty_from p n = let z : n - n ≡ 0 = omega arith in ap (λ k. filter p (range_with_len n k)) z

one_from : (p : ℕ → Bool) (n x : ℕ) → x < n → left_from p n x ≡ (if p x then x ∷ left_from p n (x + 1) else left_from p n (x + 1))
one_from p n x within = let d : n - x ≡ suc (n - (x + 1)) = omega arith in ap (λ k. filter p (range_with_len x k)) d

module _ {A : Type 0} (plan : Plan) (S : State A) (h : Herd) (q : ℕ) (exact : IsExact plan S h q) (at : ℕ) (low : at ≤ length S.requests.all) where
  abbrev due : ℕ → Bool
  due r = is_due_for plan S h q r

  not_due : (r : ℕ) → whole_test h S r ≡ false → due r ≡ false
  not_due r off = by (due r) refl
    where
      by : (b : Bool) → due r ≡ b → b ≡ false
      by true e = absurd (let on = whole_part h S q r (both_right (can_be plan S h q) (is_counted h S q r) (sym (exact.due r) ∙ e)) in let z : ⊥ = cc in z)
      by false e = refl

  -- none is left
  pub walked : None ≡ find (nat_le at) (whole h S) → left_from due (length S.requests.all) at ≡ []
  walked none =
      passed_over due (length S.requests.all) at (length S.requests.all) low (omega arith) (λ r after below. not_due r (none_of S h at none r after))
      ∙ empty_from due (length S.requests.all)

  module _ (x : ℕ) (next : Some x ≡ find (nat_le at) (whole h S)) where
    first : IsFirstOn (whole_test h S) at x
    first = first_of S h at x next

    pub next_after : at ≤ x
    next_after = first.after

    pub walked_past : length S.requests.all ≤ x → left_from due (length S.requests.all) at ≡ []
    walked_past past =
        passed_over due (length S.requests.all) at (length S.requests.all) low (omega arith) (λ r after below. not_due r (first.before r after (omega arith)))
        ∙ empty_from due (length S.requests.all)

    next_here : x < length S.requests.all → left_from due (length S.requests.all) at ≡ left_from due (length S.requests.all) x
    next_here within = passed_over due (length S.requests.all) at x first.after (omega arith) (λ r after below. not_due r (first.before r after below))

    pub next_due : x < length S.requests.all → due x ≡ true → left_from due (length S.requests.all) at ≡ x ∷ left_from due (length S.requests.all) (x + 1)
    next_due within on =
        next_here within ∙ one_from due (length S.requests.all) x within
        ∙ ap (λ b. if b then x ∷ left_from due (length S.requests.all) (x + 1) else left_from due (length S.requests.all) (x + 1)) on

    pub next_other : x < length S.requests.all → due x ≡ false → left_from due (length S.requests.all) at ≡ left_from due (length S.requests.all) (x + 1)
    next_other within off =
        next_here within ∙ one_from due (length S.requests.all) x within
        ∙ ap (λ b. if b then x ∷ left_from due (length S.requests.all) (x + 1) else left_from due (length S.requests.all) (x + 1)) off

-- one less to go
pub one_less : (x : ℕ) (xs : List ℕ) (k j : ℕ) → k ≡ suc j → slice_get (x ∷ xs) k ≡ slice_get xs j
one_less x xs k j e = rw e refl
