-- Maps by id, and lists of ids in order. A map is a list of entries by id; what was never written is
-- the blank entry of its map. No object has the id 0.
use Rattle.std.specs.Prelude.{if◌then◌else◌, ℕ, zero, suc, min, ◌+◌, ◌-◌, ◌^◌, Bool, true, false, ◌==◌, nat_lt, nat_le, not, List, [], ◌∷◌, length, filter, Option, Some, None, fold, slice_index_or}
use Rattle.std.specs.List.{list_any, range_with_len}

-- the entry of an id in a map, the blank one where the map doesn't reach that far
abbrev pub entry : {T : Type 0} → T → List T → ℕ → T
entry blank xs id = slice_index_or xs id blank

-- the map with entry `new` for an id; blank entries fill the way to it
abbrev pub put : {T : Type 0} → T → List T → ℕ → T → List T
put blank [] zero new = new ∷ []
put blank [] (suc id) new = blank ∷ put blank [] id new
put blank (x ∷ xs) zero new = new ∷ xs
put blank (x ∷ xs) (suc id) new = x ∷ put blank xs id new

-- the map with the entry of an id changed by f
abbrev pub change_at : {T : Type 0} → T → List T → ℕ → (T → T) → List T
change_at blank xs id f = put blank xs id (f (entry blank xs id))

-- the ids of a map's entries, rising
abbrev pub ids_of : {T : Type 0} → List T → List ℕ
ids_of xs = range_with_len 0 (length xs)

-- whether an id is in a list
abbrev pub contains : ℕ → List ℕ → Bool
contains id ids = list_any (λ other. other == id) ids

-- a list without an id
abbrev pub without : ℕ → List ℕ → List ℕ
without id ids = filter (λ other. not (other == id)) ids

-- a list that rises by the number `key` of its items, with item x more; after those with the same number
abbrev pub in_order_by : {T : Type 0} → (T → ℕ) → T → List T → List T
in_order_by key x [] = x ∷ []
in_order_by key x (y ∷ ys) = if nat_lt (key x) (key y) then x ∷ y ∷ ys else y ∷ in_order_by key x ys

-- a rising list with an id more
abbrev pub in_order : ℕ → List ℕ → List ℕ
in_order id ids = in_order_by (λ x. x) id ids

-- the least of the numbers seen so far, if any, and of n
abbrev pub lesser : Option ℕ → ℕ → Option ℕ
lesser None n = Some n
lesser (Some m) n = if nat_le m n then Some m else Some n

-- the least number of a list
abbrev pub least : List ℕ → Option ℕ
least ns = fold lesser None ns

-- whether there is a number, and it is this one
abbrev pub same_id : Option ℕ → ℕ → Bool
same_id None id = false
same_id (Some other) id = other == id

-- own: the last tick that a clock of 64 bits shows; a tick past it is this one
abbrev pub LAST_TICK : ℕ
LAST_TICK = 2 ^ 64 - 1

-- the tick that is `more` ticks after `now`, at most the last tick
abbrev pub tick_after : ℕ → ℕ → ℕ
tick_after now more = min (now + more) LAST_TICK

-- 1 for true, 0 for false
abbrev pub flag : Bool → ℕ
flag true = 1
flag false = 0

-- the first item of a list, None for an empty list
abbrev pub first_of_list : {T : Type 0} → List T → Option T
first_of_list [] = None
first_of_list (x ∷ xs) = Some x
