-- The agents of the program, of its idle runs and of its stacks have the devices of the machine's definitions.
use Rattle.std.proofs.Common.{◌≡◌, ◌==◌, nat_lt, ℕ, Bool, true, false, ◌&&◌, Some, None, refl, ap, arith}
use Rattle.std.proofs.lemmas.Bool.Decides.{nat_tests}
use Rattle.wdf_base.specs.declared.plan.Plan.{Plan}
use Rattle.wdf_base.specs.declared.event.Event.{Event}
use Rattle.wdf_model.specs.Plans.{device_of_agent, first_device_agent, is_app}
use Rattle.wdf_model.specs.agents.Device.{Device, device_after, device_at, device_due, device_value}
use Rattle.wdf_dev.specs.Agents as usual
use Rattle.wdf_dev.specs.declared.any.AnyAgent.{AnyAgent}
use Rattle.wdf_dev.specs.declared.any.AnyAgent.TheVariants as any
use Rattle.wdf_idle.specs.Agents as idling
use Rattle.wdf_idle.specs.declared.idle_agent.IdleAgent.{IdleAgent}
use Rattle.wdf_idle.specs.declared.idle_agent.IdleAgent.TheVariants as idle
use Rattle.wdf_stack.specs.Agents as stacks
use Rattle.wdf_stack.specs.declared.agents.StackAgent.{StackAgent}
use Rattle.wdf_stack.specs.declared.agents.StackAgent.TheVariants as stack
use Rattle.law_devices.specs.Agents.{HasDevices, idle_device, stack_device, usual_device}

-- a device's agent comes after the manager and the apps
late_by : (plan : Plan) (k d : ℕ) (b : Bool) → nat_lt k (first_device_agent plan) ≡ b → device_of_agent plan k ≡ Some d → b ≡ false
late_by plan k d true e h = absurd (let none : None ≡ Some d = rw e at h in let z : ⊥ = cc in z)
late_by plan k d false e h = refl

late : (plan : Plan) (k d : ℕ) → device_of_agent plan k ≡ Some d → ((k == 0) ≡ false) × (is_app plan k ≡ false)
late plan k d own =
    let e : nat_lt k (first_device_agent plan) ≡ false = late_by plan k d (nat_lt k (first_device_agent plan)) refl own in
    (grind (arith, nat_tests), rw e (by (nat_lt 0 k)))
  where
    by : (b : Bool) → (b && false) ≡ false
    by true = refl
    by false = refl

-- ---- the agents of every run

usual_begins : (plan : Plan) (k d : ℕ) → device_of_agent plan k ≡ Some d → usual_device (usual.agent_at plan k) ≡ Some (device_at plan d k)
usual_begins plan k d own = let l = late plan k d own in rw (l.0, l.1, own) refl

usual_hears : (a : AnyAgent) (h : Device) (e : Event) → usual_device a ≡ Some h → usual_device (usual.agent_after a e) ≡ Some (device_after h e)
usual_hears (any.Device g) h e is = ap (λ x. Some (device_after x e)) (let same : g ≡ h = cc in same)
usual_hears (any.PnpManager p) h e is = absurd (let z : ⊥ = cc in z)
usual_hears (any.App p) h e is = absurd (let z : ⊥ = cc in z)
usual_hears (any.LowerTarget t) h e is = absurd (let z : ⊥ = cc in z)

usual_posts : (a : AnyAgent) (h : Device) → usual_device a ≡ Some h → usual.agent_due a ≡ device_due h
usual_posts (any.Device g) h is = ap device_due (let same : g ≡ h = cc in same)
usual_posts _ h is = absurd (let z : ⊥ = cc in z)

usual_shows : (a : AnyAgent) (h : Device) (what : ℕ) → usual_device a ≡ Some h → usual.agent_value a what ≡ device_value h what
usual_shows (any.Device g) h what is = ap (λ x. device_value x what) (let same : g ≡ h = cc in same)
usual_shows _ h what is = absurd (let z : ⊥ = cc in z)

pub usual_have : HasDevices usual.agent_meaning usual_device
usual_have = record { begins = usual_begins; hears = usual_hears; posts = usual_posts; shows = usual_shows }

-- ---- the agents of idle runs

idle_begins : (plan : Plan) (k d : ℕ) → device_of_agent plan k ≡ Some d → idle_device (idling.idle_agent_at plan k) ≡ Some (device_at plan d k)
idle_begins plan k d own = let l = late plan k d own in rw (l.0, l.1, own) refl

idle_hears : (a : IdleAgent) (h : Device) (e : Event) → idle_device a ≡ Some h → idle_device (idling.idle_agent_after a e) ≡ Some (device_after h e)
idle_hears (idle.Usual a) h e is = usual_hears a h e is
idle_hears (idle.Policy p) h e is = absurd (let z : ⊥ = cc in z)

idle_posts : (a : IdleAgent) (h : Device) → idle_device a ≡ Some h → idling.idle_agent_due a ≡ device_due h
idle_posts (idle.Usual a) h is = usual_posts a h is
idle_posts (idle.Policy p) h is = absurd (let z : ⊥ = cc in z)

idle_shows : (a : IdleAgent) (h : Device) (what : ℕ) → idle_device a ≡ Some h → idling.idle_agent_value a what ≡ device_value h what
idle_shows (idle.Usual a) h what is = usual_shows a h what is
idle_shows (idle.Policy p) h what is = absurd (let z : ⊥ = cc in z)

pub idle_have : HasDevices idling.idle_meaning idle_device
idle_have = record { begins = idle_begins; hears = idle_hears; posts = idle_posts; shows = idle_shows }

-- ---- the agents of stacks

stack_begins : (plan : Plan) (k d : ℕ) → device_of_agent plan k ≡ Some d → stack_device (stacks.agent_at plan k) ≡ Some (device_at plan d k)
stack_begins plan k d own = let l = late plan k d own in rw (l.0, l.1, own) refl

stack_hears : (a : StackAgent) (h : Device) (e : Event) → stack_device a ≡ Some h → stack_device (stacks.agent_after a e) ≡ Some (device_after h e)
stack_hears (stack.Device g) h e is = ap (λ x. Some (device_after x e)) (let same : g ≡ h = cc in same)
stack_hears _ h e is = absurd (let z : ⊥ = cc in z)

stack_posts : (a : StackAgent) (h : Device) → stack_device a ≡ Some h → stacks.agent_due a ≡ device_due h
stack_posts (stack.Device g) h is = ap device_due (let same : g ≡ h = cc in same)
stack_posts _ h is = absurd (let z : ⊥ = cc in z)

stack_shows : (a : StackAgent) (h : Device) (what : ℕ) → stack_device a ≡ Some h → stacks.agent_value a what ≡ device_value h what
stack_shows (stack.Device g) h what is = ap (λ x. device_value x what) (let same : g ≡ h = cc in same)
stack_shows _ h what is = absurd (let z : ⊥ = cc in z)

pub stack_have : HasDevices stacks.stack_meaning stack_device
stack_have = record { begins = stack_begins; hears = stack_hears; posts = stack_posts; shows = stack_shows }
