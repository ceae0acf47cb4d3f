-- What belongs to a device, by sort.
use Rattle.std.specs.Prelude.{ℕ, ◌+◌, Bool, List, filter, map}
use Rattle.wdf_base.specs.declared.plan.Plan.{Plan}
use Rattle.wdf_model.specs.Plans.{declared_ids, interrupt_of, is_interrupt_of, is_queue_of, is_target_of, queue_of, target_of}
use Rattle.wdf_plan_index.specs.declared.belongings.Sort.{Sort}
use Rattle.wdf_plan_index.specs.declared.belongings.Sort.TheVariants as sort

-- whether an id is that of an object of this sort of a device
abbrev pub is_of : Sort → Plan → ℕ → ℕ → Bool
is_of sort.Queue plan device o = is_queue_of device (queue_of plan o)
is_of sort.Interrupt plan device o = is_interrupt_of device (interrupt_of plan o)
is_of sort.Target plan device o = is_target_of device (target_of plan o)

-- the ids of these
abbrev pub ids_of : Sort → Plan → ℕ → List ℕ
ids_of s plan device = filter (is_of s plan device) (declared_ids plan)

-- those of what is declared at some places: ids count from 1
abbrev pub ids_at : Sort → Plan → ℕ → List ℕ → List ℕ
ids_at s plan device places = map (λ k. k + 1) (filter (λ k. is_of s plan device (k + 1)) places)
