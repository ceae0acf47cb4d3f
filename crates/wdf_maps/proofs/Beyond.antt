-- A write past the end of a map.
use Rattle.std.proofs.Common.{◌≡◌, ℕ, zero, suc, ◌+◌, ◌-◌, ◌<◌, ◌≤◌, List, [], ◌∷◌, ◌++◌, length, take, replicate, arith, refl}
use Rattle.std.proofs.lemmas.List.{take_all}
use Rattle.wdf_model.specs.Tables.{put}
use Rattle.wdf_model.proofs.Maps.{put_behind}

-- some entries further on
put_further : {T : Type 0} (blank : T) (xs : List T) (id more : ℕ) (new : T) → length xs + more ≡ id
    → put blank xs id new ≡ xs ++ replicate more blank ++ new ∷ []
put_further blank xs id more new e = rw e at (put_behind blank xs more new)

-- the entries so far, blank ones up to the id, and the new one
pub put_beyond : {T : Type 0} (blank : T) (xs : List T) (n id : ℕ) (new : T) → length xs ≡ n → n ≤ id
    → take id xs ++ replicate (id - n) blank ++ new ∷ [] ≡ put blank xs id new
put_beyond blank xs n id new e h =
    rw (take_all id xs (omega arith), put_further blank xs id (id - n) new (omega arith)) refl

-- what was written is there
pub put_there : {T : Type 0} (blank : T) (xs : List T) (id : ℕ) (new : T) → id < length (put blank xs id new)
put_there blank [] zero new = omega arith
put_there blank [] (suc id) new = let rest = put_there blank [] id new in omega arith
put_there blank (x ∷ xs) zero new = omega arith
put_there blank (x ∷ xs) (suc id) new = let rest = put_there blank xs id new in omega arith
