-- What the code keeps of power, and what holds of it.
use Rattle.std.specs.Prelude.{◌≡◌, ◌+◌, length}
use Rattle.wdf_model.specs.declared.room.TheConstants.{OBJECTS}
use Rattle.wdf_model.specs.parts.Power.{Power}
use Rattle.wdf_power.specs.declared.power.Power.TheInside.{Inside}
use Rattle.wdf_power.specs.Held.{AreListed}

-- the power that is kept
abbrev pub power_in : Inside → Power
power_in a = record { devices = a.devices.items; queues = a.holdings.queues; holdings = a.holdings.holdings }

-- There is a list for each id that a device can have, and one more; and as many queues as devices, since each id is in both tables.
pub record IsSound (a : Inside) : Type 0 where
  pub lists : length a.held.lists ≡ OBJECTS + 1
  pub items : a.held.items ≡ OBJECTS
  pub listed : AreListed a.holdings.queues a.holdings.holdings a.held.lists
  pub as_many : length a.holdings.queues ≡ length a.devices.items
