-- The sum of a map's numbers, after one was written.
use Rattle.std.proofs.Common.{ℕ, zero, suc, ◌≡◌, ◌+◌, List, [], ◌∷◌, sum, arith}
use Rattle.std.proofs.lemmas.List.Sums.{sum_by-cons}
use Rattle.wdf_model.specs.Tables.{entry, put}

pub sum_put : (xs : List ℕ) (id new : ℕ) → sum (put 0 xs id new) + entry 0 xs id ≡ sum xs + new
sum_put [] zero new = omega arith
sum_put [] (suc id) new =
    let nil : List ℕ = [] in
    let first = sum_by-cons (λ x. x) 0 (put 0 nil id new) in
    let rest = sum_put nil id new in
    omega arith
sum_put (x ∷ xs) zero new =
    let before = sum_by-cons (λ y. y) x xs in
    let after = sum_by-cons (λ y. y) new xs in
    omega arith
sum_put (x ∷ xs) (suc id) new =
    let before = sum_by-cons (λ y. y) x xs in
    let after = sum_by-cons (λ y. y) x (put 0 xs id new) in
    let rest = sum_put xs id new in
    omega arith
