-- The events that were read so far, of a whole list.
use Rattle.std.specs.Prelude.{ℕ, Bool, false, List, take, Option, Some, None}
use Rattle.wdf_base.specs.declared.plan.Plan.{Plan}
use Rattle.wdf_base.specs.declared.declared.InterruptInfo.{InterruptInfo}
use Rattle.wdf_base.specs.declared.event.Event.{Event}
use Rattle.wdf_model.specs.Plans.{interrupt_of}
use Rattle.wdf_laws.specs.declared.sign.Sign.TheVariants as sign
use Rattle.wdf_laws.specs.Words.{stands}

-- the first so many events of a run of a plan
pub record Read : Type 0 where
  pub plan : Plan
  pub all : List Event
  pub number : ℕ

abbrev pub before : Read → List Event
before R = take R.number R.all

-- a device is entered after these events
abbrev pub is_device_entered : List Event → Option ℕ → Bool
is_device_entered es None = false
is_device_entered es (Some d) = stands (sign.Entered d) (sign.NotEntered d) es

-- the device of an interrupt
abbrev pub device_with : Option InterruptInfo → Option ℕ
device_with None = None
device_with (Some i) = Some i.device.0

abbrev pub device_of_interrupt : Plan → Option ℕ → Option ℕ
device_of_interrupt plan None = None
device_of_interrupt plan (Some i) = device_with (interrupt_of plan i)
