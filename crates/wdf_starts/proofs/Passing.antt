-- Ids that pass two tests.
use Rattle.std.proofs.Common.{◌≡◌, ℕ, Bool, true, false, ◌&&◌, List, [], ◌∷◌, filter, refl, ap}

-- of the ids with the first test those with the second
filter_by : (p q : ℕ → Bool) (x : ℕ) (xs : List ℕ) (b c : Bool) → p x ≡ b → q x ≡ c → filter q (filter p xs) ≡ filter (λ y. p y && q y) xs
    → filter q (filter p (x ∷ xs)) ≡ filter (λ y. p y && q y) (x ∷ xs)
filter_by p q x xs true true e f rest = simp (e, f) (ap (λ ys. x ∷ ys) rest)
filter_by p q x xs true false e f rest = simp (e, f) rest
filter_by p q x xs false c e f rest = simp e rest

pub filter_twice : (p q : ℕ → Bool) (xs : List ℕ) → filter q (filter p xs) ≡ filter (λ x. p x && q x) xs
filter_twice p q [] = refl
filter_twice p q (x ∷ xs) = filter_by p q x xs (p x) (q x) refl refl (filter_twice p q xs)
