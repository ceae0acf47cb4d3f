-- The first law that a list of events breaks, and where, computed.
use Rattle.std.specs.Prelude.{ℕ, ◌+◌, List, [], ◌∷◌, length, Option, Some, None}
use Rattle.std.specs.List.{range_with_len}
use Rattle.wdf_base.specs.declared.plan.Plan.{Plan}
use Rattle.wdf_base.specs.declared.event.Event.{Event}
use Rattle.wdf_laws.specs.First.{broken_at}

-- this law at this place, or what is found after it
abbrev pub or_later : ℕ → Option ℕ → Option (ℕ × ℕ) → Option (ℕ × ℕ)
or_later k None later = later
or_later k (Some law) later = Some (law, k + 1)

-- the first of these places where a law is broken
abbrev pub found_at : Plan → List Event → List ℕ → Option (ℕ × ℕ)
found_at plan events [] = None
found_at plan events (k ∷ ks) = or_later k (broken_at plan events k) (found_at plan events ks)

abbrev pub found : Plan → List Event → Option (ℕ × ℕ)
found plan events = found_at plan events (range_with_len 0 (length events))
