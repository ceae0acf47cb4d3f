-- The devices with a timeout, by their registers. (own)
use Rattle.std.specs.Prelude.{if◌then◌else◌, ℕ, List, Option, Some, None, map, codes}
use Rattle.std.specs.List.{filter_map}
use Rattle.wdf_base.specs.declared.event.Event.{Event}
use Rattle.wdf_base.specs.declared.plan.Plan.{Plan}
use Rattle.wdf_base.specs.declared.declared.RegisterInfo.{RegisterInfo}
use Rattle.wdf_model.specs.agents.IdlePolicy.{is_register_named}
use Rattle.check_idle.specs.Watched.{Watched, opened, watched}

-- the device that a register gives a timeout, if it is its register IDLE_TIMEOUT
abbrev pub timed_by : Plan → RegisterInfo → Option ℕ
timed_by plan r = if is_register_named plan r.device.0 (codes "IDLE_TIMEOUT") r then Some r.device.0 else None

-- the devices that have one, in the order of their registers
abbrev pub timed_devices : Plan → List ℕ
timed_devices plan = filter_map (timed_by plan) plan.registers

-- what is kept of each before the first event
abbrev pub opened_by : Plan → RegisterInfo → Option Watched
opened_by plan r = if is_register_named plan r.device.0 (codes "IDLE_TIMEOUT") r then Some (opened plan r.device.0) else None

-- what is kept of each after these events
abbrev pub watches_after : Plan → List Event → List Watched
watches_after plan events = map (watched plan events) (timed_devices plan)
