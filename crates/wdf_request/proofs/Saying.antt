-- The request of an arrival, as the rows say it.
use Rattle.std.proofs.Common.{if◌then◌else◌, ℕ, suc, ◌≡◌, ◌<◌, ◌≤◌, ◌==◌, nat_lt, Bool, true, false, not, ◌&&◌, Option, Some, None, length, refl, ap, sym, ◌∙◌, arith}
use Rattle.std.proofs.lemmas.Bool.{and_parts, eqb-true, not-true}
use Rattle.std.proofs.lemmas.Bool.Decides.{nat_tests}
use Rattle.wdf_model.specs.Tables.{entry}
use Rattle.wdf_model.specs.parts.Requests.{Requests, arrival_of, is_arrival, no_request}
use Rattle.wdf_model.proofs.Maps.{entry_past}
use Rattle.wdf_request.specs.Arrivals.{IsNoted, Noted, has_slot, is_sure, slot}
use Rattle.wdf_request.proofs.Finding.{find_only}

-- the rows name the request of an arrival
named : (R : Requests) (A : Noted) (agent k r : ℕ) → IsNoted R.all A → is_sure A agent k ≡ true → is_arrival R agent k r ≡ true → slot A.rows agent k ≡ suc r
named R A agent k r is sure it =
    let info = (entry no_request R.all r).info in
    let tests = and_parts (nat_lt 0 k && info.agent == agent) (info.arrival == k) it in
    let first = and_parts (nat_lt 0 k) (info.agent == agent) tests.0 in
    let some : 0 < k = let e = first.0 in grind (arith, nat_tests) in
    let by : info.agent ≡ agent = eqb-true info.agent agent first.1 in
    let number : info.arrival ≡ k = eqb-true info.arrival k tests.1 in
    let parts = and_parts (not A.twice) (has_slot A.rows agent k) sure in
    let once : A.twice ≡ false = not-true A.twice parts.0 in
    let has : has_slot A.rows info.agent info.arrival ≡ true = rw (by, number) parts.1 in
    let says = (is.once once).at r (omega arith) has in
    rw (by, number) at says

there_by : (R : Requests) (agent k r : ℕ) (b : Bool) → nat_lt r (length R.all) ≡ b → is_arrival R agent k r ≡ true → r < length R.all
there_by R agent k r true e it = grind (arith, nat_tests)
there_by R agent k r false e it =
    let far : length R.all ≤ r = grind (arith, nat_tests) in
    let past = entry_past no_request R.all r far in
    let info = (entry no_request R.all r).info in
    let tests = and_parts (nat_lt 0 k && info.agent == agent) (info.arrival == k) it in
    let first = and_parts (nat_lt 0 k) (info.agent == agent) tests.0 in
    let some : 0 < k = let e2 = first.0 in grind (arith, nat_tests) in
    let number : info.arrival ≡ k = eqb-true info.arrival k tests.1 in
    let none : info.arrival ≡ 0 = ap (λ x. x.info.arrival) past in
    absurd (omega arith)

-- a request, if it is that of an arrival
seen : Requests → ℕ → ℕ → ℕ → Option ℕ
seen R agent k s = if is_arrival R agent k s then Some s else None

found_by : (R : Requests) (agent k s : ℕ) → ((r : ℕ) → is_arrival R agent k r ≡ true → r ≡ s) → arrival_of R agent k ≡ seen R agent k s
unfolding seen
found_by R agent k s only =
    find_only (is_arrival R agent k) 0 (length R.all) s (λ r h j e. only r e)
    (λ e. let h = there_by R agent k s (nat_lt s (length R.all)) refl e in (omega arith, omega arith))

seen_by : (R : Requests) (agent k s : ℕ) (b : Bool) → is_arrival R agent k s ≡ b → seen R agent k s ≡ (if b then Some s else None)
unfolding seen
seen_by R agent k s b e = rw e refl

unseen_by : (R : Requests) (agent k s : ℕ) (b : Bool) → is_arrival R agent k s ≡ b → (is_arrival R agent k s ≡ true → ⊥) → seen R agent k s ≡ None
unseen_by R agent k s true e never = absurd (never e)
unseen_by R agent k s false e never = seen_by R agent k s false e

-- the rows say that there is none
pub found_none : (R : Requests) (A : Noted) (agent k : ℕ) → IsNoted R.all A → is_sure A agent k ≡ true → slot A.rows agent k ≡ 0 → arrival_of R agent k ≡ None
found_none R A agent k is sure none =
    let never : (r : ℕ) → is_arrival R agent k r ≡ true → ⊥ = λ r e. (let one : slot A.rows agent k ≡ suc r = named R A agent k r is sure e in let z : 0 ≡ suc r = sym none ∙ one in omega arith) in
    found_by R agent k 0 (λ r e. absurd (never r e)) ∙ unseen_by R agent k 0 (is_arrival R agent k 0) refl (never 0)

-- the rows name one, which it is or isn't
pub found_one : (R : Requests) (A : Noted) (agent k s : ℕ) (b : Bool) → IsNoted R.all A → is_sure A agent k ≡ true → slot A.rows agent k ≡ suc s
    → is_arrival R agent k s ≡ b → arrival_of R agent k ≡ (if b then Some s else None)
found_one R A agent k s b is sure one it =
    found_by R agent k s (λ r e. let same : suc s ≡ suc r = sym one ∙ named R A agent k r is sure e in omega arith)
    ∙ seen_by R agent k s b it
