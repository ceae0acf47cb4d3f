-- Counts by id, and how many entries of a map are of each id.
use Rattle.std.specs.Prelude.{if◌then◌else◌, ℕ, ◌≡◌, ◌+◌, ◌-◌, ◌<◌, ◌==◌, nat_lt, Bool, false, List, count_by, Option, Some, None}
use Rattle.wdf_base.specs.declared.ids.ObjectId.{ObjectId}
use Rattle.wdf_model.specs.declared.room.TheConstants.{OBJECTS}
use Rattle.wdf_model.specs.Tables.{entry, change_at}

-- whether what has this key is of an id
abbrev pub is_at : ℕ → Option ObjectId → Bool
is_at id None = false
is_at id (Some o) = o.0 == id

-- how many there are of an id; ids that no object can have aren't counted
abbrev pub count_at : List ℕ → Option ObjectId → ℕ
count_at counts None = 0
count_at counts (Some o) = if nat_lt o.0 OBJECTS then entry 0 counts o.0 else 0

abbrev pub changed_at : List ℕ → (ℕ → ℕ) → Option ObjectId → List ℕ
changed_at counts f None = counts
changed_at counts f (Some o) = if nat_lt o.0 OBJECTS then change_at 0 counts o.0 f else counts

-- one that was of an id is of another
abbrev pub moved_count : List ℕ → Option ObjectId → Option ObjectId → List ℕ
moved_count counts from to = changed_at (changed_at counts (λ n. n + 1) to) (λ n. n - 1) from

-- The counts say how many entries are of each id.
pub record AreCounted {T : Type 0} (key : T → Option ObjectId) (entries : List T) (counts : List ℕ) : Type 0 where
  pub count : (id : ℕ) → id < OBJECTS → entry 0 counts id ≡ count_by (λ x. is_at id (key x)) entries
