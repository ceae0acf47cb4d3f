-- The ids of a range, one after the other.
use Rattle.std.proofs.Common.{◌≡◌, ℕ, suc, ◌+◌, ◌-◌, ◌<◌, ◌≤◌, Bool, true, false, ◌&&◌, ◌||◌, List, [], ◌∷◌, filter, refl, ap, arith}
use Rattle.std.specs.List.{list_all, list_any, range_with_len}

-- the numbers from one below the end on
pub range_opens : (a n : ℕ) → a < n → range_with_len a (n - a) ≡ a ∷ range_with_len (a + 1) (n - (a + 1))
range_opens a n h =
    let e : n - a ≡ suc (n - (a + 1)) = omega arith in
    rw e refl

-- nothing of the range is left at its end
pub range_ends : (a n : ℕ) → n ≤ a → range_with_len a (n - a) ≡ []
range_ends a n h =
    let e : n - a ≡ 0 = omega arith in
    rw e refl

-- the whole range
pub range_whole : (n : ℕ) → range_with_len 0 (n - 0) ≡ range_with_len 0 n
range_whole n = let e : n - 0 ≡ n = omega arith in rw e refl

-- ---- whether all or some of the ids pass a test

pub all_next : (p : ℕ → Bool) (a n : ℕ) → a < n → p a ≡ true → list_all p (range_with_len (a + 1) (n - (a + 1))) ≡ list_all p (range_with_len a (n - a))
all_next p a n h e = rw (range_opens a n h, e) refl

pub all_stops : (p : ℕ → Bool) (a n : ℕ) → a < n → p a ≡ false → false ≡ list_all p (range_with_len a (n - a))
all_stops p a n h e = rw (range_opens a n h, e) refl

pub all_ends : (p : ℕ → Bool) (a n : ℕ) → n ≤ a → true ≡ list_all p (range_with_len a (n - a))
all_ends p a n h = rw (range_ends a n h) refl

pub any_next : (p : ℕ → Bool) (a n : ℕ) → a < n → p a ≡ false → list_any p (range_with_len (a + 1) (n - (a + 1))) ≡ list_any p (range_with_len a (n - a))
any_next p a n h e = rw (range_opens a n h, e) refl

pub any_stops : (p : ℕ → Bool) (a n : ℕ) → a < n → p a ≡ true → true ≡ list_any p (range_with_len a (n - a))
any_stops p a n h e = rw (range_opens a n h, e) refl

pub any_ends : (p : ℕ → Bool) (a n : ℕ) → n ≤ a → false ≡ list_any p (range_with_len a (n - a))
any_ends p a n h = rw (range_ends a n h) refl

-- ---- ids that pass one test and another

any_by : (p q : ℕ → Bool) (x : ℕ) (xs : List ℕ) (b : Bool) → p x ≡ b → list_any q (filter p xs) ≡ list_any (λ y. p y && q y) xs
    → list_any q (filter p (x ∷ xs)) ≡ list_any (λ y. p y && q y) (x ∷ xs)
any_by p q x xs true e rest = rw e (ap (λ b. q x || b) rest)
any_by p q x xs false e rest = rw e rest

pub any_filtered : (p q : ℕ → Bool) (xs : List ℕ) → list_any q (filter p xs) ≡ list_any (λ x. p x && q x) xs
any_filtered p q [] = refl
any_filtered p q (x ∷ xs) = any_by p q x xs (p x) refl (any_filtered p q xs)

-- the id 0 passes no test of what is declared
pub any_from_one : (p q : ℕ → Bool) (n : ℕ) → p 0 ≡ false → list_any (λ x. p x && q x) (range_with_len (0 + 1) (suc n - (0 + 1))) ≡ list_any q (filter p (range_with_len 0 (suc n)))
any_from_one p q n none =
    let one : 0 + 1 ≡ 1 = omega arith in
    let left : suc n - (0 + 1) ≡ n = omega arith in
    rw (left, any_filtered p q (range_with_len 0 (suc n)), none) refl
