-- A walk along a list of the requests that are held: the next one is at the counter's place.
use Rattle.std.proofs.Common.{◌≡◌, ℕ, ◌+◌, ◌<◌, List, [], ◌∷◌, ◌++◌, length, take, slice_get, Option, Some, None, ap, ◌∙◌, add-one}
use Rattle.std.proofs.lemmas.Option.{slice_get-get_or}
use Rattle.wdf_model.proofs.Runs.{take_next}

-- one more is passed
pub passed_more : (xs : List ℕ) (k r : ℕ) → slice_get xs k ≡ Some r → take (k + 1) xs ≡ take k xs ++ r ∷ []
passed_more xs k r e = ap (λ n. take n xs) (add-one k) ∙ take_next xs k r e

-- there is a next one up to the end of the list
pub goes_on : (xs : List ℕ) (k : ℕ) (next : Option ℕ) → next ≡ slice_get xs k → next ≡ None → k < length xs → ⊥
goes_on xs k next at none h = let there = slice_get-get_or xs k 0 h in let z : ⊥ = cc in z
