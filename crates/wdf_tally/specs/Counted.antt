-- The ids of which counts have some, as a set.
use Rattle.std.specs.Prelude.{if◌then◌else◌, ℕ, ◌≡◌, ◌<◌, ◌≤◌, nat_lt, Bool, List, length, slice_set, Option, Some, None}
use Rattle.wdf_base.specs.declared.ids.ObjectId.{ObjectId}
use Rattle.wdf_model.specs.declared.room.TheConstants.{OBJECTS}
use Rattle.wdf_model.specs.Tables.{entry}
use Rattle.wdf_sets.specs.Members.{is_in}
use Rattle.wdf_tally.specs.declared.tally.Tally.TheInside.{Inside}

-- whether there are some of an id
abbrev pub is_counted : List ℕ → ℕ → Bool
is_counted counts id = nat_lt 0 (entry 0 counts id)

-- the bits, where that of an id that an object can have says now whether there are some of it
abbrev pub noted : List ℕ → List Bool → Option ObjectId → List Bool
noted counts bits None = bits
noted counts bits (Some o) = if nat_lt o.0 OBJECTS then slice_set bits o.0 (is_counted counts o.0) else bits

-- A set has a bit for each object, and its members are the ids of which there are some.
pub record HoldsCounted (counts : List ℕ) (bits : List Bool) : Type 0 where
  pub room : OBJECTS ≤ length bits
  pub same : (id : ℕ) → id < OBJECTS → is_in id bits ≡ is_counted counts id

abbrev pub IsTallied : Inside → Type 0
IsTallied t = HoldsCounted t.counts t.some
