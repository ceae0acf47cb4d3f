-- The first of what is gathered from a list, and the first that passes a test.
use Rattle.std.proofs.Common.{if◌then◌else◌, ◌≡◌, ◌≤◌, ℕ, zero, suc, nat_lt, Bool, true, false, List, [], ◌∷◌, ◌++◌, length, take, fold, Option, Some, None, position, slice_get, refl, ap, ◌∙◌, arith}
use Rattle.std.specs.List.{filter_map, find, position_or_len}
use Rattle.std.proofs.lemmas.List.Folds.{find_at}
use Rattle.std.proofs.lemmas.List.Sums.{fold-append}
use Rattle.std.proofs.lemmas.Bool.Decides.{nat_tests}
use Rattle.wdf_model.specs.Tables.{first_of_list}

-- ---- the first of which something is gathered

first_by : {S T : Type 0} (f : S → Option T) (x : S) (xs : List S) (k : ℕ) (z : S) (y : T) (o : Option T) → f x ≡ o → slice_get xs k ≡ Some z → filter_map f (x ∷ take k xs) ≡ [] → f z ≡ Some y
    → (filter_map f (take k xs) ≡ [] → first_of_list (filter_map f xs) ≡ Some y) → first_of_list (filter_map f (x ∷ xs)) ≡ Some y
first_by f x xs k z y None e at none is more = let here : filter_map f (take k xs) ≡ [] = rw e at none in rw e (more here)
first_by f x xs k z y (Some w) e at none is more = absurd (let here : w ∷ filter_map f (take k xs) ≡ [] = rw e at none in let z : ⊥ = cc in z)

pub first_found : {S T : Type 0} (f : S → Option T) (xs : List S) (k : ℕ) (z : S) (y : T) → slice_get xs k ≡ Some z → filter_map f (take k xs) ≡ [] → f z ≡ Some y → first_of_list (filter_map f xs) ≡ Some y
first_found f [] k z y at none is = absurd (let z : ⊥ = cc in z)
first_found f (x ∷ xs) zero z y at none is = let same : x ≡ z = cc in let here : f x ≡ Some y = ap f same ∙ is in rw here refl
first_found f (x ∷ xs) (suc k) z y at none is = first_by f x xs k z y (f x) refl at none is (λ h. first_found f xs k z y at h is)

-- ---- one more is gathered into a fold

pub fold_last : {S T : Type 0} (g : S → T → S) (z : S) (xs : List T) (x : T) → fold g z (xs ++ x ∷ []) ≡ g (fold g z xs) x
fold_last g z xs x = fold-append g z xs (x ∷ [])

-- ---- the first that passes a test

beyond : {T : Type 0} (xs : List T) (k : ℕ) → length xs ≤ k → slice_get xs k ≡ None
beyond [] k h = refl
beyond (x ∷ xs) zero h = absurd (omega arith)
beyond (x ∷ xs) (suc k) h = beyond xs k (omega arith)

at_place : {T : Type 0} (p : T → Bool) (xs : List T) (k n : ℕ) (r : T) (b : Bool) → find p xs ≡ slice_get xs n → (if b then Some n else None) ≡ Some k → slice_get xs k ≡ Some r → find p xs ≡ Some r
at_place p xs k n r true e h at = let same : n ≡ k = cc in e ∙ ap (slice_get xs) same ∙ at
at_place p xs k n r false e h at = absurd (let z : ⊥ = cc in z)

pub found_at : {T : Type 0} (p : T → Bool) (xs : List T) (k : ℕ) (r : T) → position p xs ≡ Some k → slice_get xs k ≡ Some r → find p xs ≡ Some r
found_at p xs k r h at = at_place p xs k (position_or_len p xs) r (nat_lt (position_or_len p xs) (length xs)) (find_at p xs) h at

past : (n m : ℕ) → nat_lt n m ≡ false → m ≤ n
past n m h = grind (arith, nat_tests)

no_place : {T : Type 0} (p : T → Bool) (xs : List T) (n : ℕ) (b : Bool) → nat_lt n (length xs) ≡ b → find p xs ≡ slice_get xs n → (if b then Some n else None) ≡ None → find p xs ≡ None
no_place p xs n true l e h = absurd (let z : ⊥ = cc in z)
no_place p xs n false l e h = e ∙ beyond xs n (past n (length xs) l)

pub not_found : {T : Type 0} (p : T → Bool) (xs : List T) → position p xs ≡ None → find p xs ≡ None
not_found p xs h = no_place p xs (position_or_len p xs) (nat_lt (position_or_len p xs) (length xs)) refl (find_at p xs) h
