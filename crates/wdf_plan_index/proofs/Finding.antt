-- The first item of a list that passes a test.
use Rattle.std.proofs.Common.{◌≡◌, ◌≢◌, ℕ, ◌<◌, ◌≤◌, Bool, true, false, ◌==◌, nat_lt, List, [], ◌∷◌, length, get_or, slice_get, slice_index, Some, None, position, unwrap_or, refl, ap, ◌∙◌, arith}
use Rattle.std.specs.List.{position_or_len}
use Rattle.std.proofs.lemmas.Bool.Decides.{nat_tests}
use Rattle.std.proofs.lemmas.List.Sums.{position_or_len_is}
use Rattle.std.proofs.lemmas.Option.{get_or_from_slice_get, slice_get-get_or, slice_get_within}
use Rattle.wdf_plan_index.specs.Places.{IsFirstAt}

position_at : {T : Type 0} (p : T → Bool) (xs : List T) (k : ℕ) → position_or_len p xs ≡ k → k < length xs → position p xs ≡ Some k
position_at p xs k e h = let l : nat_lt k (length xs) ≡ true = grind (arith, nat_tests) in rw (e, l) refl

position_past : {T : Type 0} (p : T → Bool) (xs : List T) (k : ℕ) → position_or_len p xs ≡ k → length xs ≤ k → position p xs ≡ None
position_past p xs k e h = let l : nat_lt k (length xs) ≡ false = grind (arith, nat_tests) in rw (e, l) refl

pub first_place : {T : Type 0} (p : T → Bool) (xs : List T) (k : ℕ) (x : T) → ((j : ℕ) (y : T) → j < k → slice_get xs j ≡ Some y → p y ≡ false) → slice_get xs k ≡ Some x → p x ≡ true → position p xs ≡ Some k
first_place p xs k x fails at this =
    let within = slice_get_within xs k x at in
    let here : p (get_or xs k x) ≡ true = ap p (get_or_from_slice_get xs k x x at) ∙ this in
    position_at p xs k (position_or_len_is p xs k x (omega arith) (λ j l. fails j (get_or xs j x) l (slice_get-get_or xs j x (omega arith))) (λ _. here)) within

pub no_place : {T : Type 0} (p : T → Bool) (xs : List T) → ((j : ℕ) (y : T) → slice_get xs j ≡ Some y → p y ≡ false) → position p xs ≡ None
no_place p [] fails = refl
no_place p (x ∷ xs) fails =
    position_past p (x ∷ xs) (length (x ∷ xs)) (position_or_len_is p (x ∷ xs) (length (x ∷ xs)) x (omega arith) (λ j l. fails j (get_or (x ∷ xs) j x) (slice_get-get_or (x ∷ xs) j x l)) (λ l. absurd (omega arith))) (omega arith)

place_by : (ids : List ℕ) (id at : ℕ) (b : Bool) → nat_lt at (length ids) ≡ b → position_or_len (λ other. other == id) ids ≡ at → at ≤ length ids → unwrap_or (position (λ other. other == id) ids) (length ids) ≡ at
place_by ids id at true l e h = rw (e, l) refl
place_by ids id at false l e h = let same : length ids ≡ at = grind (arith, nat_tests) in rw (e, l) same

-- where an id is first in a list, or the list's length
pub place_is : (ids : List ℕ) (id at : ℕ) → IsFirstAt ids id 0 at → unwrap_or (position (λ other. other == id) ids) (length ids) ≡ at
place_is ids id at f =
    let within = f.within in
    let fails : (j : ℕ) → j < at → (get_or ids j 0 == id) ≡ false = λ j l. let n : slice_index ids j ≢ id = f.passed j (omega arith) l in grind (arith, nat_tests) in
    let passes : at < length ids → (get_or ids at 0 == id) ≡ true = λ l. let e : slice_index ids at ≡ id = f.here l in grind (arith, nat_tests) in
    place_by ids id at (nat_lt at (length ids)) refl (position_or_len_is (λ other. other == id) ids at 0 within fails passes) within
