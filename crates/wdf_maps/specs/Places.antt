-- Lists whose keys rise, and where a key is in one.
use Rattle.std.specs.Prelude.{if◌then◌else◌, ℕ, suc, ◌<◌, ◌≤◌, ◌≡◌, Bool, true, ◌==◌, nat_le, nat_lt, not, ◌&&◌, List, [], ◌∷◌, length, filter, find, Option, Some, None, Result, Ok, Err, slice_get, slice_set, insert, remove}
use Rattle.std.specs.List.Sorted.{IsSearchInRange}
use Rattle.wdf_model.specs.Tables.{in_order_by}

-- the keys rise, from `low` on and below `high`
abbrev pub rises : {T : Type 0} → (T → ℕ) → ℕ → ℕ → List T → Bool
rises key low high [] = true
rises key low high (x ∷ xs) = nat_le low (key x) && (nat_lt (key x) high && rises key (suc (key x)) high xs)

-- a place one further on
abbrev pub one_on : Result ℕ ℕ → Result ℕ ℕ
one_on (Ok place) = Ok (suc place)
one_on (Err place) = Err (suc place)

-- the place of the key, or else the place where it belongs
abbrev pub place_of : {T : Type 0} → (T → ℕ) → ℕ → List T → Result ℕ ℕ
place_of key k [] = Err 0
place_of key k (x ∷ xs) =
    if nat_lt (key x) k then one_on (place_of key k xs)
    else if key x == k then Ok 0
    else Err 0

-- the item at a place where one was found
abbrev pub item_at : {T : Type 0} → List T → Result ℕ ℕ → Option T
item_at xs (Ok place) = slice_get xs place
item_at xs (Err place) = None

-- the list without that item
abbrev pub removed_at : {T : Type 0} → List T → Result ℕ ℕ → List T
removed_at xs (Ok place) = remove xs place
removed_at xs (Err place) = xs

-- the list with an item there: in place of the one that was found, or at the place where it belongs
abbrev pub entered_at : {T : Type 0} → T → List T → Result ℕ ℕ → List T
entered_at x xs (Ok place) = slice_set xs place x
entered_at x xs (Err place) = insert xs place x

-- ---- entries by id

-- the entry with an id
abbrev pub entry_of : {T : Type 0} → (T → ℕ) → List T → ℕ → Option T
entry_of key xs id = find (λ x. key x == id) xs

-- the entries without an id
abbrev pub others : {T : Type 0} → (T → ℕ) → ℕ → List T → List T
others key id xs = filter (λ x. not (key x == id)) xs

-- the entries with one more, in place of that with its id
abbrev pub with_entry : {T : Type 0} → (T → ℕ) → T → List T → List T
with_entry key x xs = in_order_by key x (others key (key x) xs)

-- the number of a place, where one was found and where one belongs
abbrev pub number_of : Result ℕ ℕ → ℕ
number_of (Ok place) = place
number_of (Err place) = place

-- The entries with a lesser id than one come first, so many of them.
pub record SplitsAt {T : Type 0} (key : T → ℕ) (id : ℕ) (xs : List T) (count : ℕ) : Type 0 where
  pub within : count ≤ length xs
  pub lesser : (k : ℕ) (x : T) → slice_get xs k ≡ Some x → k < count → key x < id
  pub others : (k : ℕ) (x : T) → slice_get xs k ≡ Some x → count ≤ k → id ≤ key x

-- What a place says of the entries: which one is there, what an edit there leaves, and which come before it.
pub record IsPlace {T : Type 0} (key : T → ℕ) (high id : ℕ) (xs : List T) (place : Result ℕ ℕ) : Type 0 where
  pub bound : IsSearchInRange place (length xs)
  pub found : entry_of key xs id ≡ item_at xs place
  pub rest : others key id xs ≡ removed_at xs place
  pub rest_rises : rises key 0 high (removed_at xs place) ≡ true
  pub entered : (x : T) → key x ≡ id → with_entry key x xs ≡ entered_at x xs place
  pub entered_rises : (x : T) → key x ≡ id → id < high → rises key 0 high (entered_at x xs place) ≡ true
  pub splits : SplitsAt key id xs (number_of place)
