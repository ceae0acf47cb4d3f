-- A list whose entries are changed one after the other.
use Rattle.std.proofs.Common.{◌≡◌, ℕ, zero, suc, List, [], ◌∷◌, ◌++◌, map, length, take, drop, slice_set, slice_index_or, ◌<◌, refl, ap, arith}

-- the first entries are changed, the others aren't yet
abbrev pub changed_to : {T : Type 0} → (T → T) → ℕ → List T → List T
changed_to f k xs = map f (take k xs) ++ drop k xs

pub changed_next : {T : Type 0} (f : T → T) (xs : List T) (k : ℕ) (d : T) → k < length xs → slice_set (changed_to f k xs) k (f (slice_index_or (changed_to f k xs) k d)) ≡ changed_to f (suc k) xs
changed_next f [] k d h = absurd (omega (arith, h))
changed_next f (y ∷ ys) zero d h = refl
changed_next f (y ∷ ys) (suc k) d h = ap (λ zs. f y ∷ zs) (changed_next f ys k d (omega (arith, h)))
