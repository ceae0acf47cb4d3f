-- One item more of a list that a function goes over.
use Rattle.std.proofs.Common.{◌≡◌, ℕ, ◌+◌, ◌<◌, List, [], ◌∷◌, ◌++◌, length, get_or, take, map, arith}
use Rattle.std.proofs.lemmas.List.{take_more, map-append}

pub map_more : {A B : Type 0} (f : A → B) (xs : List A) (i : ℕ) (d : A) → i < length xs → map f (take (i + 1) xs) ≡ map f (take i xs) ++ f (get_or xs i d) ∷ []
map_more f xs i d h = grind (arith, take_more xs i d h, map-append f (take i xs) (get_or xs i d ∷ []))
