-- Where numbers are in a list.
use Rattle.std.specs.Prelude.{ℕ, ◌≡◌, ◌≢◌, ◌+◌, ◌-◌, ◌%◌, ◌<◌, ◌≤◌, ◌^◌, ◌==◌, List, [], ◌∷◌, length, Option, Some, None, IfSome, MatchOption, filter, slice_index}
use Rattle.std.specs.List.{range_with_len}
use Rattle.wdf_plan_index.specs.declared.places.Chains.{Chains}
use Rattle.wdf_plan_index.specs.declared.places.Places.TheInside.{Inside}

-- a place, or the list's length for none
abbrev pub place_of : List ℕ → Option ℕ → ℕ
place_of numbers None = length numbers
place_of numbers (Some place) = place

-- The first place of a number from a place on, or the list's length where there is none.
pub record IsFirstAt (numbers : List ℕ) (number from at : ℕ) : Type 0 where
  pub after : from ≤ at
  pub within : at ≤ length numbers
  pub passed : (j : ℕ) → from ≤ j → j < at → slice_index numbers j ≢ number
  pub here : at < length numbers → slice_index numbers at ≡ number

-- The first place from a place on whose number has this remainder by `heads`, or the list's length.
pub record IsFirstBy (heads : ℕ) (numbers : List ℕ) (remainder from at : ℕ) : Type 0 where
  pub after : from ≤ at
  pub within : at ≤ length numbers
  pub passed : (j : ℕ) → from ≤ j → j < at → slice_index numbers j % heads ≢ remainder
  pub here : at < length numbers → slice_index numbers at % heads ≡ remainder

-- From a place on, each head leads to the first place of its remainder, and each place to the next of its own.
pub record AreLinkedFrom (numbers heads nexts : List ℕ) (count from : ℕ) : Type 0 where
  pub first : (b : ℕ) → b < count → IsFirstBy count numbers b from (slice_index heads b)
  pub next : (k : ℕ) → from ≤ k → k < length numbers → IsFirstBy count numbers (slice_index numbers k % count) (k + 1) (slice_index nexts k)

-- The chains are those of the numbers.
pub record AreLinked (numbers : List ℕ) (chains : Chains) : Type 0 where
  pub few : length numbers < 2 ^ 32
  pub some : 0 < length chains.heads.items
  pub as_many : length chains.nexts.items ≡ length numbers
  pub linked : AreLinkedFrom numbers chains.heads.items chains.nexts.items (length chains.heads.items) 0

abbrev pub IsSound : Inside → Type 0
IsSound places = AreLinked places.numbers.items places.chains

-- the places of a number from a place on
abbrev pub places_from : List ℕ → ℕ → ℕ → List ℕ
places_from numbers number from = filter (λ k. slice_index numbers k == number) (range_with_len from (length numbers - from))

-- the places of a number
abbrev pub places_of : List ℕ → ℕ → List ℕ
places_of numbers number = places_from numbers number 0

-- what is left of them, the next of them first
abbrev pub places_left : List ℕ → ℕ → Option ℕ → List ℕ
places_left numbers number None = []
places_left numbers number (Some place) = place ∷ places_from numbers number (place + 1)

-- the next one is a place of the number, and fits
abbrev pub IsAtPlace : List ℕ → ℕ → Option ℕ → Type 0
IsAtPlace numbers number next = IfSome next (λ place. (place < length numbers) × (place + 1 < 2 ^ 32) × (slice_index numbers place ≡ number))

-- the first of what is left is taken, and fits
abbrev pub TakesPlace : List ℕ → Option ℕ → List ℕ → Type 0
TakesPlace left taken rest = MatchOption taken ((left ≡ []) × (rest ≡ [])) (λ place. (left ≡ place ∷ rest) × (place + 1 < 2 ^ 32))
