-- Stacks of devices: which target sends down to which device, and the chains that they make. (own)
use Rattle.std.specs.Prelude.{if◌then◌else◌, ℕ, Bool, nat_lt, ◌&&◌, List, [], ◌++◌, find, Option, Some, None, is_some, option_map, option_and_then, unwrap_or, slice_index_or, codes}
use Rattle.std.specs.Str.{bytes_eq}
use Rattle.wdf_base.specs.declared.plan.Plan.{Plan}
use Rattle.wdf_base.specs.declared.ids.Handle.{Handle}
use Rattle.wdf_base.specs.declared.declared.TargetInfo.{TargetInfo}
use Rattle.wdf_model.specs.Tables.{same_id}
use Rattle.wdf_model.specs.Plans.{device_of, devices_of, target_of, targets_of, is_target_of}

-- ---- names

-- own: the name of a target to a device, `TO_` and the device's name
abbrev pub name_to : Plan → ℕ → List ℕ
name_to plan device = codes "TO_" ++ slice_index_or plan.names (unwrap_or (option_map (λ d. d.name) (device_of plan device)) 0) []

-- the name of a target
abbrev pub target_name : Plan → ℕ → List ℕ
target_name plan target = slice_index_or plan.names (unwrap_or (option_map (λ t. t.name) (target_of plan target)) 0) []

-- own: a target names a device that is declared later
abbrev pub names_device : Plan → ℕ → ℕ → Bool
names_device plan target device = nat_lt target device && bytes_eq (target_name plan target) (name_to plan device)

-- the device that a target names
abbrev pub named_device : Plan → ℕ → Option ℕ
named_device plan target = find (names_device plan target) (devices_of plan)

-- ---- which are connected

-- a target of this device that names a device
abbrev pub is_naming : Plan → ℕ → ℕ → Bool
is_naming plan device target = is_target_of device (target_of plan target) && is_some (named_device plan target)

-- own: the first target of a device that names one; no other counts
abbrev pub naming_target : Plan → ℕ → Option ℕ
naming_target plan device = find (is_naming plan device) (targets_of plan)

-- the device that a device names by that target
abbrev pub device_named_by : Plan → ℕ → Option ℕ
device_named_by plan device = option_and_then (named_device plan) (naming_target plan device)

-- own: the device above one is the first that names it
abbrev pub above : Plan → ℕ → Option ℕ
above plan device = find (λ d. same_id (device_named_by plan d) device) (devices_of plan)

-- one that names this device is above it
abbrev pub if_above : Plan → ℕ → Option ℕ → Option ℕ
if_above plan device None = None
if_above plan device (Some lower) = if same_id (above plan lower) device then Some lower else None

-- the device below one: that which it names, and no device before it does
abbrev pub below : Plan → ℕ → Option ℕ
below plan device = if_above plan device (device_named_by plan device)

-- own: the device to which a target is connected; none for one that counts for nothing
abbrev pub lower_device : Plan → ℕ → Option TargetInfo → Option ℕ
lower_device plan target None = None
lower_device plan target (Some t) = if same_id (naming_target plan t.device.0) target then below plan t.device.0 else None

-- the device to which a target is connected
abbrev pub connected_to : Plan → ℕ → Option ℕ
connected_to plan target = lower_device plan target (target_of plan target)

-- ---- handles

-- the handle of a device
abbrev pub device_handle : Plan → ℕ → Handle
device_handle plan device = record { id = record { 0 = device }; name = unwrap_or (option_map (λ d. d.name) (device_of plan device)) 0 }
