-- What the fields of the levels say: the room, and how many levels each frame holds.
use Rattle.std.specs.Prelude.{ℕ, ◌≡◌, ◌≤◌, List, length, vec_capacity}
use Rattle.std.specs.VecDeque.{deque_capacity}
use Rattle.wdf_model.specs.declared.room.TheConstants.{EVENTS, FRAMES}
use Rattle.wdf_model.specs.declared.entries.HeldLevel.{HeldLevel}
use Rattle.wdf_model.specs.Tables.{entry}
use Rattle.wdf_cpu.specs.Levels.{held_by}
use Rattle.wdf_cpu.specs.declared.levels.Levels.TheInside.{Inside}

-- the counts are those of the levels
pub record CountsLevels (ls : List HeldLevel) (counts : List ℕ) : Type 0 where
  pub counted : (f : ℕ) → entry 0 counts f ≡ length (held_by ls f)

pub record HasLevels (a : Inside) : Type 0 where
  pub room : EVENTS ≤ deque_capacity a.held
  pub counts_room : FRAMES ≤ vec_capacity a.counts
  pub counts : CountsLevels a.held.items a.counts.items
