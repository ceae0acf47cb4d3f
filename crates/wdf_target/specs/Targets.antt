-- What the fields of the targets say.
use Rattle.std.specs.Prelude.{ℕ, ◌≡◌, ◌≤◌, ◌==◌, Bool, false, List, Option, Some, None, is_some, length, vec_capacity}
use Rattle.wdf_base.specs.declared.ids.ObjectId.{ObjectId}
use Rattle.wdf_model.specs.declared.room.TheConstants.{OBJECTS}
use Rattle.wdf_model.specs.Tables.{entry}
use Rattle.wdf_model.specs.parts.Targets.{Target, Targets, no_target}
use Rattle.wdf_maps.specs.Places.{entry_of}
use Rattle.wdf_sets.specs.SetOf.{IsSetOf, passes}
use Rattle.wdf_target.specs.declared.targets.Targets.TheInside.{Inside}
use Rattle.wdf_target.specs.Finished.{has_done}
use Rattle.wdf_target.specs.Target.{request_id}

-- whether what is kept of a request says that this target has it
abbrev pub is_with : ℕ → Option ObjectId → Bool
is_with t None = false
is_with t (Some holder) = holder.0 == t

-- A target has a request exactly where that is kept of it.
pub record IsKept (targets : List Target) (holders : List (Option ObjectId)) : Type 0 where
  pub kept : (t r : ℕ) → is_some (entry_of request_id (entry no_target targets t).sent r) ≡ is_with t (entry None holders r)

-- A set's members are the targets that are done with a request that comes back.
abbrev pub AreNoted : List Target → List Bool → Type 0
AreNoted targets bits = IsSetOf (passes no_target has_done targets) (length targets) bits

abbrev pub targets_in : Inside → Targets
targets_in t = record { targets = t.targets.items }

pub record IsSound (t : Inside) : Type 0 where
  pub kept : IsKept t.targets.items t.holders.items
  pub room : OBJECTS ≤ vec_capacity t.holders
  pub noted : AreNoted t.targets.items t.with_done
