-- Lists of numbers in which each is once, and lists in order.
use Rattle.std.proofs.Common.{◌≡◌, ◌≢◌, ℕ, zero, suc, ◌+◌, ◌==◌, ◌≤◌, Bool, true, false, not, List, [], ◌∷◌, inl, inr, None, is_some, length, count_by, refl, ap, sym, ◌∙◌, arith}
use Rattle.std.proofs.Math.Bool.{not-not}
use Rattle.std.proofs.lemmas.List.Sums.{length-filter}
use Rattle.std.proofs.lemmas.List.Filters.{length-filter_both}
use Rattle.wdf_model.specs.Tables.{contains, flag, in_order, without}
use Rattle.wdf_maps.specs.Places.{entry_of, with_entry}
use Rattle.wdf_maps.proofs.EntriesById.{others_absent}
use Rattle.wdf_model.proofs.Counts.{at_head, equal, filter_less, it_leaves, one_or_two, others_stay}

-- what a list does not contain is in it no time
absent_from_by : (f x : ℕ) (xs : List ℕ) (b : Bool) → (x == f) ≡ b → contains f (x ∷ xs) ≡ false → (contains f xs ≡ false → count_by (λ y. y == f) xs ≡ 0) → count_by (λ y. y == f) (x ∷ xs) ≡ 0
absent_from_by f x xs true e h rest = absurd (let z : true ≡ false = rw e at h in let y : ⊥ = cc in y)
absent_from_by f x xs false e h rest = let a = at_head f x xs in let no : flag (x == f) ≡ 0 = ap flag e in let r = rest (rw e at h) in omega arith

pub absent_from : (f : ℕ) (xs : List ℕ) → contains f xs ≡ false → count_by (λ y. y == f) xs ≡ 0
absent_from f [] h = refl
absent_from f (x ∷ xs) h = absent_from_by f x xs (x == f) refl h (absent_from f xs)

-- ---- numbers that are there once each

without_shortens : (n : ℕ) (xs : List ℕ) → length (without n xs) + count_by (λ x. x == n) xs ≡ length xs
without_shortens n xs =
    let both = length-filter_both (λ x. not (x == n)) (λ x. x == n) (λ x. sym (not-not (x == n))) xs in
    let e = length-filter (λ x. x == n) xs in
    omega arith

-- numbers below a bound that are there once each are no more than the bound
pub few_numbers : (n : ℕ) (xs : List ℕ) → ((x : ℕ) → count_by (λ y. y == x) xs ≤ 1) → ((x : ℕ) → n ≤ x → count_by (λ y. y == x) xs ≡ 0) → length xs ≤ n
few_numbers zero [] once below = omega arith
few_numbers zero (x ∷ xs) once below = absurd (let a = at_head x x xs in let yes : flag (x == x) ≡ 1 = ap flag (equal x x refl) in let b = below x (omega arith) in omega arith)
few_numbers (suc n) xs once below =
    let fewer = few_numbers n (without n xs)
    (λ x. let l = filter_less (λ y. y == x) (λ y. not (y == n)) xs in let o = once x in omega arith)
    (λ x h. elim (one_or_two x n) [
      | inl e ↦ ap (λ z. count_by (λ y. y == z) (without n xs)) e ∙ it_leaves n xs
      | inr d ↦ others_stay x n xs (λ e. d (sym e)) ∙ below x (let k : n ≢ x = λ e. d (sym e) in omega arith)
    ]) in
    let w = without_shortens n xs in
    let o = once n in
    omega arith

pub one_and : (n : ℕ) → 1 + n ≡ suc n
one_and n = omega arith

-- ---- numbers by their ids

found_by : (f x : ℕ) (xs : List ℕ) (b : Bool) → (x == f) ≡ b → is_some (entry_of (λ n. n) xs f) ≡ contains f xs → is_some (entry_of (λ n. n) (x ∷ xs) f) ≡ contains f (x ∷ xs)
found_by f x xs true e rest = rw e refl
found_by f x xs false e rest = rw e rest

-- a number is found where it is there
pub found_is_contained : (f : ℕ) (xs : List ℕ) → is_some (entry_of (λ n. n) xs f) ≡ contains f xs
found_is_contained f [] = refl
found_is_contained f (x ∷ xs) = found_by f x xs (x == f) refl (found_is_contained f xs)

unfound_by : (f x : ℕ) (xs : List ℕ) (b : Bool) → (x == f) ≡ b → count_by (λ y. y == f) (x ∷ xs) ≡ 0 → (count_by (λ y. y == f) xs ≡ 0 → entry_of (λ n. n) xs f ≡ None) → entry_of (λ n. n) (x ∷ xs) f ≡ None
unfound_by f x xs true e none rest = absurd (let a = at_head f x xs in let yes : flag (x == f) ≡ 1 = ap flag e in omega arith)
unfound_by f x xs false e none rest = rw e (rest (let a = at_head f x xs in let no : flag (x == f) ≡ 0 = ap flag e in omega arith))

-- a number that isn't there isn't found
pub unfound : (f : ℕ) (xs : List ℕ) → count_by (λ y. y == f) xs ≡ 0 → entry_of (λ n. n) xs f ≡ None
unfound f [] none = refl
unfound f (x ∷ xs) none = unfound_by f x xs (x == f) refl none (unfound f xs)

-- it comes in its place
pub in_order_is : (f : ℕ) (xs : List ℕ) → count_by (λ y. y == f) xs ≡ 0 → with_entry (λ n. n) f xs ≡ in_order f xs
in_order_is f xs none = ap (in_order f) (others_absent (λ n. n) f xs (unfound f xs none))
