-- The least of the ids that pass a test.
use Rattle.std.proofs.Common.{◌≡◌, ℕ, zero, suc, ◌+◌, ◌<◌, ◌≤◌, nat_le, Bool, true, false, ◌∷◌, Some, None, filter, fold, refl, sym, ap, ◌∙◌, arith, add-zero}
use Rattle.std.specs.List.{range_with_len}
use Rattle.std.proofs.lemmas.Bool.Decides.{nat_tests}
use Rattle.wdf_model.specs.Tables.{least, lesser}

at_most : (m n : ℕ) → m ≤ n → nat_le m n ≡ true
at_most m n h = grind (arith, nat_tests)

-- nothing that comes later is less
least_stays_by : (p : ℕ → Bool) (m from n : ℕ) (b : Bool) → p from ≡ b → m ≤ from → fold lesser (Some m) (filter p (range_with_len (from + 1) n)) ≡ Some m
    → fold lesser (Some m) (filter p (from ∷ range_with_len (from + 1) n)) ≡ Some m
least_stays_by p m from n true e h rest =
    let stays : lesser (Some m) from ≡ Some m = rw (at_most m from h) refl in
    rw e (ap (λ o. fold lesser o (filter p (range_with_len (from + 1) n))) stays ∙ rest)
least_stays_by p m from n false e h rest = rw e rest

least_stays : (p : ℕ → Bool) (m from n : ℕ) → m ≤ from → fold lesser (Some m) (filter p (range_with_len from n)) ≡ Some m
least_stays p m from zero h = refl
least_stays p m from (suc n) h = least_stays_by p m from n (p from) refl h (least_stays p m (from + 1) n (omega arith))

-- the first id that passes is the least
pub first_from : (p : ℕ → Bool) (from n k : ℕ) → k < n → ((j : ℕ) → j < k → p (from + j) ≡ false) → p (from + k) ≡ true
    → least (filter p (range_with_len from n)) ≡ Some (from + k)
first_from p from zero k h before here = absurd (omega arith)
first_from p from (suc n) zero h before here =
    let e : from + 0 ≡ from = add-zero from in
    let passes : p from ≡ true = ap p (sym e) ∙ here in
    rw (e, passes) (least_stays p from (from + 1) n (omega arith))
first_from p from (suc n) (suc k) h before here =
    let e : from + 0 ≡ from = add-zero from in
    let not_first : p from ≡ false = ap p (sym e) ∙ before 0 (omega arith) in
    let f : (from + 1) + k ≡ from + suc k = omega arith in
    let rest = first_from p (from + 1) n k (omega arith) (λ j l. let g : (from + 1) + j ≡ from + suc j = omega arith in ap p g ∙ before (suc j) (omega arith)) (ap p f ∙ here) in
    rw not_first (rest ∙ ap Some f)

none_from : (p : ℕ → Bool) (from n : ℕ) → ((j : ℕ) → j < n → p (from + j) ≡ false) → least (filter p (range_with_len from n)) ≡ None
none_from p from zero h = refl
none_from p from (suc n) h =
    let e : from + 0 ≡ from = add-zero from in
    let not_first : p from ≡ false = ap p (sym e) ∙ h 0 (omega arith) in
    rw not_first (none_from p (from + 1) n (λ j l. let g : (from + 1) + j ≡ from + suc j = omega arith in ap p g ∙ h (suc j) (omega arith)))

pub first_is_least : (p : ℕ → Bool) (n k : ℕ) → k < n → ((j : ℕ) → j < k → p j ≡ false) → p k ≡ true → Some k ≡ least (filter p (range_with_len 0 n))
first_is_least p n k h before here =
    let e : 0 + k ≡ k = omega arith in
    sym (first_from p 0 n k h (λ j l. let f : 0 + j ≡ j = omega arith in ap p f ∙ before j l) (ap p e ∙ here) ∙ ap Some e)

pub least_of_none : (p : ℕ → Bool) (n : ℕ) → ((j : ℕ) → j < n → p j ≡ false) → None ≡ least (filter p (range_with_len 0 n))
least_of_none p n h = sym (none_from p 0 n (λ j l. let f : 0 + j ≡ j = omega arith in ap p f ∙ h j l))
