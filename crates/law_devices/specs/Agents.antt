-- Agents among which are the devices of the machine's definitions.
use Rattle.std.specs.Prelude.{◌≡◌, ℕ, Option, Some, None}
use Rattle.wdf_base.specs.Meaning.{Meaning}
use Rattle.wdf_base.specs.declared.plan.Plan.{Plan}
use Rattle.wdf_base.specs.declared.event.Event.{Event}
use Rattle.wdf_model.specs.Plans.{device_of_agent}
use Rattle.wdf_model.specs.agents.Device.{Device, device_after, device_at, device_due, device_value}
use Rattle.wdf_dev.specs.declared.any.AnyAgent.{AnyAgent}
use Rattle.wdf_dev.specs.declared.any.AnyAgent.TheVariants as any
use Rattle.wdf_idle.specs.declared.idle_agent.IdleAgent.{IdleAgent}
use Rattle.wdf_idle.specs.declared.idle_agent.IdleAgent.TheVariants as idle
use Rattle.wdf_stack.specs.declared.agents.StackAgent.{StackAgent}
use Rattle.wdf_stack.specs.declared.agents.StackAgent.TheVariants as stack

-- own: seen through `device`, the agent of each device begins as the device, hears of events as it does, and posts and
-- shows what it does
pub record HasDevices {A : Type 0} (m : Meaning A) (device : A → Option Device) : Type 0 where
  pub begins : (plan : Plan) (k d : ℕ) → device_of_agent plan k ≡ Some d → device (m.begin plan k) ≡ Some (device_at plan d k)
  pub hears : (a : A) (h : Device) (e : Event) → device a ≡ Some h → device (m.fold a e) ≡ Some (device_after h e)
  pub posts : (a : A) (h : Device) → device a ≡ Some h → m.due a ≡ device_due h
  pub shows : (a : A) (h : Device) (what : ℕ) → device a ≡ Some h → m.value a what ≡ device_value h what

-- the device that an agent of `order`, `seed N`, `run` or `watch` is, none for other agents
abbrev pub usual_device : AnyAgent → Option Device
usual_device (any.Device h) = Some h
usual_device _ = None

-- the device that an agent of `idle` is
abbrev pub idle_device : IdleAgent → Option Device
idle_device (idle.Usual a) = usual_device a
idle_device _ = None

-- the device that an agent of `stack` is
abbrev pub stack_device : StackAgent → Option Device
stack_device (stack.Device h) = Some h
stack_device _ = None
