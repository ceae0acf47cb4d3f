-- Sets of ids, as contracts see them: a list of bits, one for each id from 0.
use Rattle.std.specs.Prelude.{ℕ, Bool, false, List, filter, count_by, length, slice_index_or, take}
use Rattle.std.specs.List.{range_with_len}

-- whether an id is a member
abbrev pub is_in : ℕ → List Bool → Bool
is_in id bits = slice_index_or bits id false

-- the members, rising
abbrev pub members : List Bool → List ℕ
members bits = filter (λ id. is_in id bits) (range_with_len 0 (length bits))

-- how many members are below an id
abbrev pub rank : ℕ → List Bool → ℕ
rank id bits = count_by (λ bit. bit) (take id bits)
