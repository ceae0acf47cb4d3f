-- How long a map by id is after a write, and what its entries come to.
use Rattle.std.proofs.Common.{◌≡◌, ℕ, zero, suc, ◌+◌, ◌<◌, ◌≤◌, Bool, true, false, List, [], ◌∷◌, ◌⊎◌, inl, inr, length, filter, count_by, slice_index_or, refl, ◌==◌, ap, ◌∙◌, arith}
use Rattle.std.specs.List.{sum_by}
use Rattle.std.proofs.lemmas.List.Sums.{count_by-le-length, length-filter, sum_by-cons}
use Rattle.wdf_model.specs.Tables.{change_at, entry, flag, put}
use Rattle.wdf_model.proofs.Maps.{as_long, entry_past, entry_put_other, entry_put_same, put_within}
use Rattle.wdf_model.proofs.Counts.{at_head, equal, one_or_two}

-- a write where there is an entry
pub put_keeps : {T : Type 0} (blank : T) (xs : List T) (id : ℕ) (new : T) → id < length xs → length (put blank xs id new) ≡ length xs
put_keeps blank xs id new h = ap length (put_within blank xs id new h) ∙ as_long xs id new

-- where there is no entry the blank one is read
within_by : {T : Type 0} (blank : T) (xs : List T) (id : ℕ) (p : T → Bool) → p blank ≡ false → p (entry blank xs id) ≡ true → (length xs ≤ id) ⊎ (id < length xs)
    → id < length xs
within_by blank xs id p none is (inl past) =
    absurd (let at_blank : p (entry blank xs id) ≡ p blank = ap p (entry_past blank xs id past) in let z : ⊥ = cc in z)
within_by blank xs id p none is (inr there) = there

past_or_there : (n id : ℕ) → (n ≤ id) ⊎ (id < n)
past_or_there zero id = inl (omega arith)
past_or_there (suc n) zero = inr (omega arith)
past_or_there (suc n) (suc id) = elim (past_or_there n id) [ inl h ↦ inl (omega arith) | inr h ↦ inr (omega arith) ]

-- an entry of which the blank one has nothing is there
pub within : {T : Type 0} (blank : T) (xs : List T) (id : ℕ) (p : T → Bool) → p blank ≡ false → p (entry blank xs id) ≡ true → id < length xs
within blank xs id p none is = within_by blank xs id p none is (past_or_there (length xs) id)

-- where a blank entry comes to nothing, a write exchanges what one entry comes to
pub put_sums : {T : Type 0} (f : T → ℕ) (blank : T) (xs : List T) (id : ℕ) (new : T) → f blank ≡ 0
    → sum_by f (put blank xs id new) + f (entry blank xs id) ≡ sum_by f xs + f new
put_sums f blank [] zero new none = let e = sum_by-cons f new [] in omega arith
put_sums f blank [] (suc id) new none =
    let e = sum_by-cons f blank (put blank [] id new) in
    let rest = put_sums f blank [] id new none in
    omega arith
put_sums f blank (x ∷ xs) zero new none = let e = sum_by-cons f new xs in let k = sum_by-cons f x xs in omega arith
put_sums f blank (x ∷ xs) (suc id) new none =
    let e = sum_by-cons f x (put blank xs id new) in
    let k = sum_by-cons f x xs in
    let rest = put_sums f blank xs id new none in
    omega arith

-- one entry is one more
pub one_more : (xs : List ℕ) (id other : ℕ) → entry 0 (change_at 0 xs id suc) other ≤ entry 0 xs other + 1
one_more xs id other = elim (one_or_two other id) [
  | inl e ↦ rw e (let k = entry_put_same 0 xs id (suc (entry 0 xs id)) in omega arith)
  | inr n ↦ let k = entry_put_other 0 xs id other (suc (entry 0 xs id)) n in omega arith
]

-- a filter makes no list longer
pub filtered : {T : Type 0} (p : T → Bool) (xs : List T) → length (filter p xs) ≤ length xs
filtered p xs = let e = length-filter p xs in let k = count_by-le-length p xs in omega arith

-- an element of a list is counted in it
pub element_counts : (xs : List ℕ) (i d : ℕ) → i < length xs → 1 ≤ count_by (λ x. x == slice_index_or xs i d) xs
element_counts [] i d h = absurd (omega arith)
element_counts (x ∷ xs) zero d h = let e = at_head x x xs in let one : flag (x == x) ≡ 1 = ap flag (equal x x refl) in omega arith
element_counts (x ∷ xs) (suc i) d h = let rest = element_counts xs i d (omega arith) in let e = at_head (slice_index_or xs i d) x xs in omega arith
