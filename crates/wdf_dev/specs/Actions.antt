-- The actions of a device as the code looks at them.
use Rattle.std.specs.Prelude.{ℕ, ◌≡◌, ◌<◌, Bool, nat_lt, List, Some, slice_get}
use Rattle.wdf_base.specs.declared.event.Action.{Action}
use Rattle.wdf_base.specs.declared.event.Action.TheVariants as action
use Rattle.wdf_model.specs.declared.entries.DeviceAction.{DeviceAction}
use Rattle.wdf_model.specs.agents.Device.{is_due_at}

-- the interrupt of an action, 0 for none
abbrev pub interrupt_in : Action → ℕ
interrupt_in (action.Set k v) = 0
interrupt_in (action.Raise i) = i.id.0
interrupt_in (action.Lower i) = i.id.0

-- there is room for the level line of each interrupt that the actions name
abbrev pub IsWithin : ℕ → List DeviceAction → Type 0
IsWithin room actions = (k : ℕ) (a : DeviceAction) → slice_get actions k ≡ Some a → interrupt_in a.action < room

abbrev pub comes_after : ℕ → DeviceAction → Bool
comes_after line a = nat_lt line a.line

abbrev pub is_due : ℕ → DeviceAction → Bool
is_due now a = is_due_at now a.tick
