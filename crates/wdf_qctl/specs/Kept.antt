-- What is kept of the queues, and what it stands for.
use Rattle.std.specs.Prelude.{if◌then◌else◌, ◌≤◌, Bool, false, List, length, map, vec_capacity}
use Rattle.wdf_model.specs.Tables.{entry}
use Rattle.wdf_model.specs.declared.entries.QueueControl.{QueueControl}
use Rattle.wdf_model.specs.declared.enums.Mode.TheVariants.{Purged}
use Rattle.wdf_model.specs.parts.Control.{Control, no_control}
use Rattle.wdf_sets.specs.SetOf.{IsSetOf, passes}
use Rattle.wdf_qctl.specs.declared.control.Control.TheInside.{Inside}

-- what is kept of a queue, as it is where these devices are closed: Purged, where its own is
abbrev pub seen : List Bool → QueueControl → QueueControl
seen closed c = if entry false closed c.device.0 then record c { mode = Purged } else c

abbrev pub control_in : Inside → Control
control_in c = record { controls = map (seen c.closed.items) c.kept.items; closed = c.closed.items }

-- The members are the queues whose notification is due.
abbrev pub HoldsDue : List QueueControl → List Bool → Type 0
HoldsDue kept bits = IsSetOf (passes no_control (λ (c : QueueControl). c.due) kept) (length kept) bits

-- There is room to close each device, and the queues of which notification is due are in the set.
pub record IsSound (c : Inside) : Type 0 where
  pub room : length c.kept.items ≤ vec_capacity c.closed
  pub due : HoldsDue c.kept.items c.due
