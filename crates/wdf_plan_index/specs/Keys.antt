-- The numbers by which a plan's scripts, and what belongs to its devices, are found.
use Rattle.std.specs.Prelude.{ℕ, ◌==◌, Bool, false, List, map, Option, Some, None, unwrap_or}
use Rattle.wdf_base.specs.declared.declared.Declared.{Declared}
use Rattle.wdf_base.specs.declared.declared.Declared.TheVariants as declared
use Rattle.wdf_base.specs.declared.plan.Plan.{Plan}
use Rattle.wdf_base.specs.declared.script.Script.{Script}
use Rattle.wdf_base.specs.Kinds.{declared_name}
use Rattle.wdf_model.specs.Plans.{name_of_class}

-- the number of the name of what a script is declared on
abbrev pub owner_name : Plan → Declared → ℕ
owner_name plan (declared.OfClass c) = name_of_class plan c
owner_name plan o = unwrap_or (declared_name o) 0

abbrev pub script_name : Plan → Script → ℕ
script_name plan s = owner_name plan s.owner

-- these of all scripts
abbrev pub script_names : Plan → List ℕ
script_names plan = map (script_name plan) plan.scripts

-- the device that a queue, an interrupt or a target belongs to, 0 for what belongs to none
abbrev pub device_over : Declared → ℕ
device_over (declared.Queue q) = q.device.0
device_over (declared.Interrupt i) = i.device.0
device_over (declared.Target t) = t.device.0
device_over _ = 0

-- these of all that is declared
abbrev pub devices_over : Plan → List ℕ
devices_over plan = map device_over plan.declared

-- whether what is declared belongs to a device
abbrev pub belongs_to : ℕ → Option Declared → Bool
belongs_to device None = false
belongs_to device (Some o) = device_over o == device
