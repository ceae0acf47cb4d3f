-- What is kept by id, and what an act on it keeps.
use Rattle.std.specs.Prelude.{if◌then◌else◌, ℕ, ◌+◌, Bool, false, nat_eq, List, [], ◌∷◌, ◌++◌, Option, Some, None, Vec}
use Rattle.std.specs.HashMap.{HashMap, get}
use Rattle.wdf_laws.specs.Events.{is_id}

-- ---- what is there, or nothing

abbrev pub or_zero : Option ℕ → ℕ
or_zero None = 0
or_zero (Some n) = n

abbrev pub or_false : Option Bool → Bool
or_false None = false
or_false (Some b) = b

abbrev pub or_empty : {X Z : Type 0} → Option (Vec X Z) → List X
or_empty None = []
or_empty (Some v) = v.items

-- the number at an id, 0 for none
abbrev pub number_at : {S : Type 0} → HashMap ℕ ℕ S → ℕ → ℕ
number_at numbers x = or_zero (get nat_eq numbers x)

-- the flag at an id
abbrev pub flag_at : {S : Type 0} → HashMap ℕ Bool S → ℕ → Bool
flag_at flags x = or_false (get nat_eq flags x)

-- the list at an id
abbrev pub group_at : {X Z S : Type 0} → HashMap ℕ (Vec X Z) S → ℕ → List X
group_at groups x = or_empty (get nat_eq groups x)

-- ---- acts

-- what is at an id after a value is put at one, if there is one
abbrev pub put_at : {V : Type 0} → Option ℕ → V → ℕ → Option V → Option V
put_at id value x kept = if is_id x id then Some value else kept

-- the number at an id after one more is counted at one, if there is one
abbrev pub counted : Option ℕ → ℕ → ℕ → ℕ
counted id x kept = kept + (if is_id x id then 1 else 0)

-- the list at an id after an item is added at one, if there is one
abbrev pub added_at : {X : Type 0} → Option ℕ → X → ℕ → List X → List X
added_at id item x kept = if is_id x id then kept ++ item ∷ [] else kept
