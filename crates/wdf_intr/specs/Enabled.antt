-- The enabled interrupts as a set, and the list of Bool that it stands for.
use Rattle.std.specs.Prelude.{ℕ, ◌≡◌, ◌≤◌, Bool, false, List, length, take}
use Rattle.wdf_model.specs.declared.room.TheConstants.{OBJECTS}
use Rattle.wdf_model.specs.parts.Interrupts.{Interrupts}
use Rattle.wdf_sets.specs.Members.{is_in}
use Rattle.wdf_intr.specs.declared.interrupts.Interrupts.TheInside.{Inside}

-- a list as long as the ids that were written, which says whether each is a member
abbrev pub enabled_in : Inside → Interrupts
enabled_in s = record { enabled = take s.end s.set }

-- A set has a bit for each object, and no member from an end on, up to which objects were written.
pub record HoldsEnabled (bits : List Bool) (end : ℕ) : Type 0 where
  pub room : OBJECTS ≤ length bits
  pub within : end ≤ OBJECTS
  pub none : (id : ℕ) → end ≤ id → is_in id bits ≡ false

abbrev pub IsSound : Inside → Type 0
IsSound s = HoldsEnabled s.set s.end
