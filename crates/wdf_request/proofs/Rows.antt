-- The rows of the agents at the opening, one after the other.
use Rattle.std.proofs.Common.{◌≡◌, ℕ, ◌+◌, List, [], ◌∷◌, ◌++◌, length, map, refl, sym, ap, arith}
use Rattle.std.specs.List.{range_with_len}
use Rattle.std.proofs.lemmas.List.FromFn.{map-range_with_len_more}
use Rattle.wdf_base.specs.declared.plan.Plan.{Plan}
use Rattle.wdf_request.specs.Arrivals.{opening_row, opening_rows, opening_arrivals}

pub rows_none : (plan : Plan) → [] ≡ opening_rows plan 0
unfolding opening_rows
rows_none plan = refl

pub rows_more : (plan : Plan) (n : ℕ) (xs ys : List (List ℕ)) (row : List ℕ) → xs ≡ opening_rows plan n → row ≡ opening_row plan n → ys ≡ xs ++ row ∷ [] → ys ≡ opening_rows plan (n + 1)
unfolding opening_rows
rows_more plan n xs ys row e is pushed =
    let zero_on : 0 + n ≡ n = omega arith in
    let more : map (opening_row plan) (range_with_len 0 (n + 1)) ≡ map (opening_row plan) (range_with_len 0 n) ++ opening_row plan n ∷ [] = map-range_with_len_more (opening_row plan) 0 n n zero_on in
    rw (pushed, e, is) (sym more)

pub rows_all : (plan : Plan) (n : ℕ) → n ≡ 1 + length plan.agents → opening_rows plan n ≡ (opening_arrivals plan).rows
rows_all plan n e = ap (opening_rows plan) e
