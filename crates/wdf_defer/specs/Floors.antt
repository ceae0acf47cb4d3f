-- For each 64 ids a floor: a tick before which none of their timers is due that isn't reached.
use Rattle.std.specs.Prelude.{ℕ, ◌^◌, ◌-◌, ◌/◌, List}
use Rattle.wdf_model.specs.Tables.{entry}

-- what reads as a floor where none was written
abbrev pub NEVER : ℕ
NEVER = 2 ^ 64 - 1

-- the floor of an id
abbrev pub floor_of : List ℕ → ℕ → ℕ
floor_of floors id = entry NEVER floors (id / 64)
