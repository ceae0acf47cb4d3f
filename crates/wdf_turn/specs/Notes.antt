-- Sums over all tokens, and the notes that a seat keeps of the events that it added.
use Rattle.std.specs.Prelude.{◌≡◌, ◌==◌, ℕ, ◌+◌, ◌≤◌, ◌&&◌, List, [], ◌∷◌, All, drop, length, nat_le, nat_lt, slice_get, Some, if◌then◌else◌}
use Rattle.wdf_base.specs.declared.event.Event.{Event}

-- f of each, added up
abbrev pub total : {A : Type 0} → (A → ℕ) → List A → ℕ
total f [] = 0
total f (x ∷ xs) = f x + total f xs

-- an event with its place in the history
abbrev pub Note : Type 0
Note = ℕ × Event

-- the events with their places, of which the first is `from`
abbrev pub notes_from : ℕ → List Event → List Note
notes_from from [] = []
notes_from from (e ∷ es) = (from, e) ∷ notes_from (from + 1) es

-- the notes of what a longer history has beyond the older one
abbrev pub notes_beyond : List Event → List Event → List Note
notes_beyond old new = notes_from (length old) (drop (length old) new)

-- how often the place is noted
abbrev pub times : ℕ → List Note → ℕ
times place notes = total (λ (n : Note). if n.0 == place then 1 else 0) notes

-- 1 where the place is one of the history's, and not before `from`
abbrev pub within : ℕ → List Event → ℕ → ℕ
within from history place = if nat_le from place && nat_lt place (length history) then 1 else 0

-- the history has the note's event at its place, which isn't before `from`
abbrev pub IsNoteOf : ℕ → List Event → Note → Type 0
IsNoteOf from history n = (from ≤ n.0) × (slice_get history n.0 ≡ Some n.1)

-- the notes are those of all places from `from` on, each once
abbrev pub IsAccountOf : ℕ → List Event → List Note → Type 0
IsAccountOf from history notes = All (IsNoteOf from history) notes × ((place : ℕ) → times place notes ≡ within from history place)
