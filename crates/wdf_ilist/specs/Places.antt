-- Rings of places. A list is a ring: its end, then its items, and the end again. Ends have the even
-- places and items the odd ones, so one table holds both.
use Rattle.std.specs.Prelude.{if◌then◌else◌, ℕ, zero, suc, ◌≡◌, ◌+◌, ◌*◌, ◌/◌, ◌%◌, ◌≤◌, ◌==◌, true, List, [], ◌∷◌, length, Option, Some, None}
use Rattle.wdf_ilist.specs.Family.{is_on, are_distinct}

-- the place of a list's end
abbrev pub end_of : ℕ → ℕ
end_of list = 2 * list

-- the place of an item
abbrev pub place_of : ℕ → ℕ
place_of item = 2 * item + 1

-- the item at a place, None at an end
abbrev pub item_at : ℕ → Option ℕ
item_at place = if place % 2 == 1 then Some (place / 2) else None

-- The items from one place to another, each linked both ways with the one after it.
abbrev pub IsPath : (ℕ → ℕ) → (ℕ → ℕ) → ℕ → List ℕ → ℕ → Type 0
IsPath next previous from [] to = (next from ≡ to) × (previous to ≡ from)
IsPath next previous from (x ∷ xs) to = (next from ≡ place_of x) × (previous (place_of x) ≡ from) × IsPath next previous (place_of x) xs to

-- as many items as this, read from a place on
unfoldable pub walk : (ℕ → ℕ) → ℕ → ℕ → List ℕ
walk next place zero = []
walk next place (suc n) = place / 2 ∷ walk next (next place) n

-- What the tables say of the lists. An item's owner is the number of its list and one more, or 0.
pub record IsLinked (next previous owner count : ℕ → ℕ) (items : ℕ) (lists : ℕ → List ℕ) : Type 0 where
  -- each list is a ring
  pub ring : (q : ℕ) → IsPath next previous (end_of q) (lists q) (end_of q)
  pub counted : (q : ℕ) → count q ≡ length (lists q)
  pub owned : (q x : ℕ) → is_on x (lists q) ≡ (owner x == suc q)
  pub once : (q : ℕ) → are_distinct (lists q) ≡ true
  pub within : (x : ℕ) → items ≤ x → owner x ≡ 0
