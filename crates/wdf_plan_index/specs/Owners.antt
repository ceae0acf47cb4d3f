-- What has an agent of its own: the devices and the targets.
use Rattle.std.specs.Prelude.{ℕ, Bool, false, List, Option, Some, None, filter, is_some}
use Rattle.std.specs.List.{filter_map}
use Rattle.wdf_base.specs.declared.plan.Plan.{Plan}
use Rattle.wdf_base.specs.declared.declared.Declared.{Declared}
use Rattle.wdf_base.specs.Plan.{declared_of}
use Rattle.wdf_base.specs.Resolved.{device_name, target_name}
use Rattle.wdf_model.specs.Plans.{declared_ids}
use Rattle.wdf_plan_index.specs.declared.owners.Owner.{Owner}
use Rattle.wdf_plan_index.specs.declared.owners.Owner.TheVariants as owner

-- the number of its name, for a declared object of this sort
abbrev pub name_of : Owner → Declared → Option ℕ
name_of owner.Device o = device_name o
name_of owner.Target o = target_name o

abbrev pub is_of : Owner → Declared → Bool
is_of s o = is_some (name_of s o)

abbrev pub is_id_of : Owner → Option Declared → Bool
is_id_of s None = false
is_id_of s (Some o) = is_of s o

abbrev pub ids_of : Owner → Plan → List ℕ
ids_of s plan = filter (λ id. is_id_of s (declared_of plan id)) (declared_ids plan)

abbrev pub names_of : Owner → Plan → List ℕ
names_of s plan = filter_map (name_of s) plan.declared
