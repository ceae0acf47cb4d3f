-- How many of the ids from one on pass a test, and what a change at one id makes of that.
use Rattle.std.proofs.Common.{◌≡◌, ◌≢◌, ℕ, zero, suc, ◌+◌, ◌<◌, ◌≤◌, Bool, ◌⊎◌, inl, inr, count_by, refl, ap, true, false, arith}
use Rattle.std.specs.List.{range_with_len}
use Rattle.wdf_model.proofs.Counts.{count_cons, one_or_two}
use Rattle.wdf_model.specs.Tables.{flag}

pub flagged : (b : Bool) → 1 ≤ flag b → b ≡ true
flagged true h = refl
flagged false h = absurd (omega arith)

pub same_total : (p p' : ℕ → Bool) (a n : ℕ) → ((x : ℕ) → a ≤ x → p' x ≡ p x) → count_by p' (range_with_len a n) ≡ count_by p (range_with_len a n)
same_total p p' a zero h = refl
same_total p p' a (suc n) h =
    let old = count_cons p a (range_with_len (a + 1) n) in
    let new = count_cons p' a (range_with_len (a + 1) n) in
    let head : flag (p' a) ≡ flag (p a) = ap flag (h a (omega arith)) in
    let rest : count_by p' (range_with_len (a + 1) n) ≡ count_by p (range_with_len (a + 1) n) = same_total p p' (a + 1) n (λ x above. h x (omega arith)) in
    omega arith

changes_by : (p p' : ℕ → Bool) (r a n : ℕ) → (a ≡ r) ⊎ (a ≢ r) → a ≤ r → r < a + suc n → ((x : ℕ) → x ≢ r → p' x ≡ p x)
    → (a + 1 ≤ r → r < (a + 1) + n → count_by p' (range_with_len (a + 1) n) + flag (p r) ≡ count_by p (range_with_len (a + 1) n) + flag (p' r))
    → count_by p' (range_with_len a (suc n)) + flag (p r) ≡ count_by p (range_with_len a (suc n)) + flag (p' r)
changes_by p p' r a n (inl e) low high h rest =
    let old = count_cons p a (range_with_len (a + 1) n) in
    let new = count_cons p' a (range_with_len (a + 1) n) in
    let same : count_by p' (range_with_len (a + 1) n) ≡ count_by p (range_with_len (a + 1) n) = same_total p p' (a + 1) n (λ x above. h x (λ f. let z : ⊥ = omega arith in z)) in
    let here : flag (p a) ≡ flag (p r) = ap (λ x. flag (p x)) e in
    let here_too : flag (p' a) ≡ flag (p' r) = ap (λ x. flag (p' x)) e in
    omega arith
changes_by p p' r a n (inr d) low high h rest =
    let above : a + 1 ≤ r = omega arith in
    let later : count_by p' (range_with_len (a + 1) n) + flag (p r) ≡ count_by p (range_with_len (a + 1) n) + flag (p' r) = rest above (omega arith) in
    let old = count_cons p a (range_with_len (a + 1) n) in
    let new = count_cons p' a (range_with_len (a + 1) n) in
    let head : flag (p' a) ≡ flag (p a) = ap flag (h a d) in
    omega arith

pub one_changes : (p p' : ℕ → Bool) (r a n : ℕ) → a ≤ r → r < a + n → ((x : ℕ) → x ≢ r → p' x ≡ p x)
    → count_by p' (range_with_len a n) + flag (p r) ≡ count_by p (range_with_len a n) + flag (p' r)
one_changes p p' r a zero low high h = absurd (omega arith)
one_changes p p' r a (suc n) low high h = changes_by p p' r a n (one_or_two a r) low high h (λ lower higher. one_changes p p' r (a + 1) n lower higher h)

-- one of the ids is counted
counts_by : (p : ℕ → Bool) (r a n : ℕ) → (a ≡ r) ⊎ (a ≢ r) → a ≤ r → r < a + suc n → (a + 1 ≤ r → r < (a + 1) + n → flag (p r) ≤ count_by p (range_with_len (a + 1) n))
    → flag (p r) ≤ count_by p (range_with_len a (suc n))
counts_by p r a n (inl e) low high rest =
    let all = count_cons p a (range_with_len (a + 1) n) in
    let here : flag (p a) ≡ flag (p r) = ap (λ x. flag (p x)) e in
    omega arith
counts_by p r a n (inr d) low high rest =
    let above : a + 1 ≤ r = omega arith in
    let later : flag (p r) ≤ count_by p (range_with_len (a + 1) n) = rest above (omega arith) in
    let all = count_cons p a (range_with_len (a + 1) n) in
    omega arith

pub counts_it : (p : ℕ → Bool) (r a n : ℕ) → a ≤ r → r < a + n → flag (p r) ≤ count_by p (range_with_len a n)
counts_it p r a zero low high = absurd (omega arith)
counts_it p r a (suc n) low high = counts_by p r a n (one_or_two a r) low high (λ lower higher. counts_it p r (a + 1) n lower higher)
