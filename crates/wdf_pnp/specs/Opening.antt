-- What the devices' sequences are at the opening, id by id.
use Rattle.std.specs.Prelude.{if◌then◌else◌, ℕ, List, filter, map, Option, Some, None}
use Rattle.std.specs.List.{range_with_len}
use Rattle.wdf_base.specs.declared.plan.Plan.{Plan}
use Rattle.wdf_model.specs.Plans.{device_of, interrupt_of, is_interrupt_of}
use Rattle.wdf_model.specs.parts.Pnp.{InterruptSteps, Sequence, interrupt_steps, opening_sequence}

-- the steps of an id, if it is an interrupt of this device
abbrev pub steps_at : Plan → ℕ → ℕ → Option InterruptSteps
steps_at plan d i = if is_interrupt_of d (interrupt_of plan i) then Some (interrupt_steps plan i) else None

-- the device's interrupts among the first ids
abbrev pub interrupts_below : Plan → ℕ → ℕ → List InterruptSteps
interrupts_below plan d n = map (interrupt_steps plan) (filter (λ i. is_interrupt_of d (interrupt_of plan i)) (range_with_len 0 n))

-- the sequence of an id
abbrev pub sequence_at : Plan → ℕ → Sequence
sequence_at plan d = opening_sequence plan d (device_of plan d)
