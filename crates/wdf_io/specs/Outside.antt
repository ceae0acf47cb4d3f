-- What a source gives, what a sink takes, and how their faults are counted.
use Rattle.std.specs.Prelude.{◌≡◌, ℕ, ◌+◌, ◌-◌, ◌^◌, ◌<◌, ◌⊎◌, min, List, ◌++◌, ⊤, Option, None, Some}

-- the last value of a count
abbrev pub last_count : ℕ
last_count = 2 ^ 64 - 1

-- one more, and no more than the last value
abbrev pub counted : ℕ → ℕ
counted count = min (count + 1) last_count

-- a count rose in a call, or was at its last value before it
abbrev pub Rose : ℕ → ℕ → Type 0
Rose before after = (before < after) ⊎ (before ≡ last_count)

-- a source that says what it has left had the bytes at its front, and has only the rest after them
abbrev pub Takes : Option (List ℕ) → Option (List ℕ) → List ℕ → Type 0
Takes None after bytes = ⊤
Takes (Some left) None bytes = ⊥
Takes (Some left) (Some rest) bytes = left ≡ bytes ++ rest

-- a sink that says what was written has the bytes after what it had
abbrev pub Gains : Option (List ℕ) → Option (List ℕ) → List ℕ → Type 0
Gains None after bytes = ⊤
Gains (Some written) None bytes = ⊥
Gains (Some written) (Some more) bytes = more ≡ written ++ bytes

-- The last call of a sink failed, and none before it did: so it wasn't tried again. `refused` says what a
-- failed call does to the sink.
abbrev pub EndsRefused : {K : Type 0} → (K → K → Type 0) → (K → ℕ) → K → K → Type 0
EndsRefused {K} refused faults old new = (last : K) × refused last new × (faults last ≡ faults old)
