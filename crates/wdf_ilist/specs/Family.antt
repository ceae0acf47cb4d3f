-- A family of lists of items, as contracts see it. Lists and items have numbers from 0.
use Rattle.std.specs.Prelude.{if◌then◌else◌, ℕ, ◌≡◌, ◌<◌, Bool, true, ◌==◌, not, ◌&&◌, List, [], ◌∷◌, filter, Option, Some, None, option_and_then, position, slice_index_or}
use Rattle.std.specs.List.{list_any}

-- the lists by number, and how many items there are
pub record Family : Type 0 where
  pub lists : List (List ℕ)
  pub items : ℕ

-- the list with this number, empty where there is none
abbrev pub list_at : List (List ℕ) → ℕ → List ℕ
list_at lists list = slice_index_or lists list []

-- whether an item is on a list
abbrev pub is_on : ℕ → List ℕ → Bool
is_on item xs = list_any (λ other. other == item) xs

-- whether an item is on any of the lists
abbrev pub is_on_any : ℕ → List (List ℕ) → Bool
is_on_any item lists = list_any (is_on item) lists

-- the number of the list that an item is on
abbrev pub list_of : ℕ → List (List ℕ) → Option ℕ
list_of item lists = position (is_on item) lists

-- a list without an item; the others keep their order
abbrev pub without : ℕ → List ℕ → List ℕ
without item xs = filter (λ other. not (other == item)) xs

-- the first item of a list
abbrev pub first_of : List ℕ → Option ℕ
first_of [] = None
first_of (x ∷ xs) = Some x

-- the last item of a list
abbrev pub last_of : List ℕ → Option ℕ
last_of [] = None
last_of (x ∷ []) = Some x
last_of (x ∷ y ∷ ys) = last_of (y ∷ ys)

-- the item after this one on a list
abbrev pub after_on : ℕ → List ℕ → Option ℕ
after_on item [] = None
after_on item (x ∷ xs) = if x == item then first_of xs else after_on item xs

-- the item after this one on its list
abbrev pub after_in : ℕ → List (List ℕ) → Option ℕ
after_in item lists = option_and_then (λ list. after_on item (list_at lists list)) (list_of item lists)

-- whether no item is twice on a list
abbrev pub are_distinct : List ℕ → Bool
are_distinct [] = true
are_distinct (x ∷ xs) = not (is_on x xs) && are_distinct xs

-- No item is on two lists, and none twice on one. Whatever is on a list is one of the items.
pub record AreApart (family : Family) : Type 0 where
  pub apart : (item p q : ℕ) → is_on item (list_at family.lists p) ≡ true → is_on item (list_at family.lists q) ≡ true → p ≡ q
  pub once : (q : ℕ) → are_distinct (list_at family.lists q) ≡ true
  pub within : (item q : ℕ) → is_on item (list_at family.lists q) ≡ true → item < family.items
