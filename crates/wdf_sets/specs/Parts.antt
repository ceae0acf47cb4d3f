-- Parts of a set, in which a member is looked for.
use Rattle.std.specs.Prelude.{ℕ, ◌≡◌, ◌+◌, ◌%◌, ◌<◌, ◌≤◌, Bool, List, length}
use Rattle.wdf_sets.specs.Members.{rank}
use Rattle.wdf_sets.specs.declared.bits.Part.{Part}

-- how many members are before the one that is looked for
abbrev pub number_of : List Bool → Part → ℕ
number_of bits part = part.skipped + rank part.start bits

-- A part of this size has the member, and begins at a multiple of the size.
pub record HasMember (bits : List Bool) (part : Part) (size : ℕ) : Type 0 where
  pub begins : part.start % size ≡ 0
  pub there : number_of bits part < rank (part.start + size) bits
  pub within : part.start + size ≤ length bits
