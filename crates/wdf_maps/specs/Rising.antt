-- Entries by rising id: what a list of them holds, and how its fields say it.
use Rattle.std.specs.Prelude.{ℕ, ◌≡◌, ◌<◌, ◌≤◌, ◌^◌, true, List, length, vec_capacity}
use Rattle.wdf_maps.specs.Places.{rises}
use Rattle.wdf_maps.specs.declared.rising.Rising.TheInside.{Inside}

-- what a list of entries holds, and how many it has room for
pub record Shelf (T : Type 0) : Type 0 where
  pub room : ℕ
  pub entries : List T

abbrev pub shelf_in : {T : Type 0} → Inside T → Shelf T
shelf_in s = record { room = s.room; entries = s.entries.items }

-- The ids rise, and all entries have room.
pub record IsInOrder {T : Type 0} (key : T → ℕ) (s : Inside T) : Type 0 where
  pub rising : rises key 0 (2 ^ 32) s.entries.items ≡ true
  pub within : length s.entries.items ≤ s.room
  pub room : s.room ≤ vec_capacity s.entries
  pub few : s.room < 2 ^ 32
