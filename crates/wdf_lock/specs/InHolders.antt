-- What the fields of the holders say, and their room.
use Rattle.std.specs.Prelude.{◌≤◌, Bool, List, is_some, vec_capacity, Option, None}
use Rattle.wdf_model.specs.declared.entries.Held.{Held}
use Rattle.wdf_model.specs.declared.room.TheConstants.{OBJECTS}
use Rattle.wdf_sets.specs.SetOf.{IsSetOf, passes}
use Rattle.wdf_lock.specs.Holders.{Holds}
use Rattle.wdf_lock.specs.declared.holders.Holders.TheInside.{Inside}

abbrev pub holds_in : Inside → Holds
holds_in a = record { objects = a.objects.items; devices = a.devices.items; queues = a.queues.items }

-- A set has a bit for each object, and its members are the objects whose lock is held.
abbrev pub HoldsTaken : List (Option Held) → List Bool → Type 0
HoldsTaken objects bits = IsSetOf (passes None is_some objects) OBJECTS bits

pub record HasRoom (a : Inside) : Type 0 where
  pub objects : OBJECTS ≤ vec_capacity a.objects
  pub devices : OBJECTS ≤ vec_capacity a.devices
  pub queues : OBJECTS ≤ vec_capacity a.queues
  pub taken : HoldsTaken a.objects.items a.taken
