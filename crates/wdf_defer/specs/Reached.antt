-- Which of the queued timers are reached: their due tick is at most a tick that was told last. Beside them floors for the others.
use Rattle.std.specs.Prelude.{if◌then◌else◌, ℕ, ◌≡◌, ◌≢◌, ◌/◌, ◌<◌, ◌≤◌, Bool, true, ◌&&◌, ◌||◌, nat_le, nat_lt, List, length}
use Rattle.wdf_model.specs.declared.room.TheConstants.{OBJECTS}
use Rattle.wdf_model.specs.Tables.{entry}
use Rattle.wdf_sets.specs.Members.{is_in}
use Rattle.wdf_defer.specs.Floors.{floor_of}

-- whether timer o is queued and its due tick is at most now
abbrev pub is_reached_at : List Bool → List ℕ → ℕ → ℕ → Bool
is_reached_at queued ticks now o = is_in o queued && nat_le (entry 0 ticks o) now

-- Each queued timer is an object, and there is room for all objects.
pub record HaveRoom (queued reached : List Bool) : Type 0 where
  pub objects : (o : ℕ) → is_in o queued ≡ true → o < OBJECTS
  pub queued_room : OBJECTS ≤ length queued
  pub reached_room : OBJECTS ≤ length reached

-- The reached are the queued timers whose due tick is at most the tick that was told last, and no other is due before the
-- floor of its id. The tick that was told is said of each id, since it is told to one block of ids after the other.
pub record AreReached (queued : List Bool) (ticks : List ℕ) (reached : List Bool) (floors : List ℕ) (told : ℕ → ℕ) : Type 0 where
  pub due : (o : ℕ) → is_in o reached ≡ is_reached_at queued ticks (told o) o
  pub low : (o : ℕ) → is_in o queued ≡ true → told o < entry 0 ticks o → floor_of floors o ≤ entry 0 ticks o

-- the ids below one were told now, the others an earlier tick
abbrev pub told_below : ℕ → ℕ → ℕ → ℕ → ℕ
told_below at now seen o = if nat_lt o at then now else seen

-- none of the queued timers of a block that are due later than now is due before a tick
pub record IsFloor (queued : List Bool) (ticks : List ℕ) (block now tick : ℕ) : Type 0 where
  pub low : (o : ℕ) → o / 64 ≡ block → is_in o queued ≡ true → now < entry 0 ticks o → tick ≤ entry 0 ticks o

-- the same of all ids below one
pub record IsLeast (queued : List Bool) (ticks : List ℕ) (end now tick : ℕ) : Type 0 where
  pub low : (o : ℕ) → o < end → is_in o queued ≡ true → now < entry 0 ticks o → tick ≤ entry 0 ticks o

-- Of a block those that are reached now are added, and none of other ids.
pub record Adds (queued : List Bool) (ticks : List ℕ) (block now : ℕ) (old new : List Bool) : Type 0 where
  pub inside : (o : ℕ) → o / 64 ≡ block → is_in o new ≡ (is_in o old || is_reached_at queued ticks now o)
  pub outside : (o : ℕ) → o / 64 ≢ block → is_in o new ≡ is_in o old
