-- What reading a source into a text takes from it.
use Rattle.std.specs.Prelude.{◌≡◌, ℕ, ◌≤◌, List, [], ◌++◌, length, ⊤, Option, None, Some}
use Rattle.wdf_io.specs.Outside.{Takes}

-- a source that says what it has left has nothing left
abbrev pub UsesUp : Option (List ℕ) → Option (List ℕ) → Type 0
UsesUp None after = ⊤
UsesUp (Some left) after = after ≡ Some []

-- the bytes were all that a source had left, where it says what it has left, and nothing is left of it
abbrev pub TakesAll : Option (List ℕ) → Option (List ℕ) → List ℕ → Type 0
TakesAll None after bytes = ⊤
TakesAll (Some left) after bytes = (left ≡ bytes) × (after ≡ Some [])

-- the text grew by the next bytes of a source
abbrev pub ReadsInto : Option (List ℕ) → Option (List ℕ) → List ℕ → List ℕ → Type 0
ReadsInto before after old new = (bytes : List ℕ) × (new ≡ old ++ bytes) × Takes before after bytes

-- the next bytes of a source were taken, this many
abbrev pub TakesCount : Option (List ℕ) → Option (List ℕ) → ℕ → Type 0
TakesCount before after count = (bytes : List ℕ) × (length bytes ≡ count) × Takes before after bytes

-- the next bytes of a source were taken, at most this many
abbrev pub TakesAtMost : Option (List ℕ) → Option (List ℕ) → ℕ → Type 0
TakesAtMost before after limit = (bytes : List ℕ) × (length bytes ≤ limit) × Takes before after bytes
