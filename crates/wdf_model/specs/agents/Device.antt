-- A device: its registers, the level lines of its interrupts, and its actions, as a fold of the events of the run. (own)
use Rattle.std.specs.Prelude.{if◌then◌else◌, ℕ, ◌-◌, Bool, true, false, ◌==◌, nat_lt, nat_le, ◌&&◌, List, [], ◌∷◌, map, find, fold, Option, Some, None, option_map, unwrap_or, slice_index_or}
use Rattle.std.specs.List.{filter_map}
use Rattle.wdf_base.specs.declared.plan.Plan.{Plan}
use Rattle.wdf_base.specs.declared.event.Access.{Access}
use Rattle.wdf_base.specs.declared.event.Access.TheVariants as access
use Rattle.wdf_base.specs.declared.event.Action.{Action}
use Rattle.wdf_base.specs.declared.event.Action.TheVariants as action
use Rattle.wdf_base.specs.declared.event.Post.{Post}
use Rattle.wdf_base.specs.declared.event.Post.TheVariants as post
use Rattle.wdf_base.specs.declared.event.Event.{Event}
use Rattle.wdf_base.specs.declared.event.Event.TheVariants as event
use Rattle.wdf_base.specs.declared.declared.PostLine.{PostLine}
use Rattle.wdf_base.specs.declared.declared.WhenLine.{WhenLine}
use Rattle.wdf_base.specs.declared.declared.RegisterInfo.{RegisterInfo}
use Rattle.wdf_base.specs.Plan.{posts_of}
use Rattle.wdf_base.specs.Same.{same_access}
use Rattle.wdf_model.specs.declared.entries.DeviceAction.{DeviceAction}
use Rattle.wdf_model.specs.Tables.{tick_after, entry, put, least, flag, in_order_by}
use Rattle.wdf_model.specs.Plans.{device_of_register}

-- a simulated device: what its registers hold, which level lines are up, and what it is to do when
pub record Device : Type 0 where
  pub agent : ℕ
  -- by the register's number; none for one of another device
  pub registers : List (Option ℕ)
  -- by the interrupt's id, whether its level line is 1
  pub raised : List Bool
  -- its actions
  pub actions : List DeviceAction
  pub clock : ℕ

-- what a register of device d holds at the opening, None for one of another device
abbrev pub register_of : ℕ → RegisterInfo → Option ℕ
register_of d r = if r.device.0 == d then Some r.value else None

-- what a `when` line on a register of device d does; it has no tick until the register is accessed
abbrev pub when_action : Plan → ℕ → WhenLine → Option DeviceAction
when_action plan d w =
    if device_of_register plan w.register == d then Some (record { action = w.action; trigger = Some w; tick = None; line = w.line }) else None

-- what an `at` line of a device does, due at its tick; None for a line that posts something else
abbrev pub at_action : PostLine → Option DeviceAction
at_action l = elim l.post as (λ _. Option DeviceAction) [
  | post.Act a ↦ Some (record { action = a; trigger = None; tick = Some l.tick; line = l.line })
  | _ ↦ None
]

-- one more action among actions in the order of the text
abbrev pub among : List DeviceAction → DeviceAction → List DeviceAction
among ls l = in_order_by (λ (m : DeviceAction). m.line) l ls

-- the actions of device d, whose agent has this number: with `when` and with `at`, in the order of the text
abbrev pub device_actions : Plan → ℕ → ℕ → List DeviceAction
device_actions plan d agent = fold among (filter_map (when_action plan d) plan.whens) (filter_map at_action (posts_of plan agent))

-- device d, whose agent has this number, at the opening: its registers as declared, all level lines down
abbrev pub device_at : Plan → ℕ → ℕ → Device
device_at plan d agent = record {
  agent = agent;
  registers = map (register_of d) plan.registers;
  raised = [];
  actions = device_actions plan d agent;
  clock = 0;
}

-- what register k holds, None where it is another device's
abbrev pub own_register : Device → ℕ → Option ℕ
own_register h k = slice_index_or h.registers k None

-- whether register k is the device's own, by what it holds
abbrev pub has_register : Option ℕ → Bool
has_register None = false
has_register (Some v) = true

-- register k takes value v, if it is the device's own
abbrev pub with_register : Device → ℕ → ℕ → Device
with_register h k v = if has_register (own_register h k) then record h { registers = put None h.registers k (Some v) } else h

-- a device after an action: a register takes a value, or the level line of an interrupt goes up or down
abbrev pub act_on : Device → Action → Device
act_on h (action.Set k v) = with_register h k v
act_on h (action.Raise i) = record h { raised = put false h.raised i.id.0 true }
act_on h (action.Lower i) = record h { raised = put false h.raised i.id.0 false }

-- whether access a (a read or a write) of register k triggers an action that has this `when` line; without one it is
-- never triggered
abbrev pub triggers : Access → ℕ → Option WhenLine → Bool
triggers a k None = false
triggers a k (Some w) = same_access w.access a && w.register == k

-- the ticks from the access to the action, 0 where it takes effect at once
abbrev pub delay_of : Option WhenLine → ℕ
delay_of None = 0
delay_of (Some w) = w.after

-- an action after access a of register k: one with a delay, if triggered, is due that much later; a new trigger moves
-- its tick
abbrev pub set_off : Access → ℕ → ℕ → DeviceAction → DeviceAction
set_off a k now l = if triggers a k l.trigger && nat_lt 0 (delay_of l.trigger) then record l { tick = Some (tick_after now (delay_of l.trigger)) } else l

-- a device after one of its actions is looked at for access a of register k: if triggered and without delay, it takes
-- effect at once
abbrev pub at_once : Access → ℕ → Device → DeviceAction → Device
at_once a k h l = if triggers a k l.trigger && delay_of l.trigger == 0 then act_on h l.action else h

-- each action with a delay that access a of register k triggers gets its tick
abbrev pub set_off_all : Access → ℕ → Device → Device
set_off_all a k h = record h { actions = map (set_off a k h.clock) h.actions }

-- a device after access a of register k; what an action sets triggers no other action
abbrev pub accessed : Access → ℕ → Device → Device
accessed a k h = fold (at_once a k) (set_off_all a k h) h.actions

-- a device before the actions of an access: a write stores its value v in register k first
abbrev pub stored : Access → ℕ → ℕ → Device → Device
stored access.Read k v h = h
stored access.Write k v h = with_register h k v

-- whether the tick of an action is there and reached
abbrev pub is_due_at : ℕ → Option ℕ → Bool
is_due_at now None = false
is_due_at now (Some t) = nat_le t now

-- of the actions that are due, the first in the order of the text
abbrev pub due_action : Device → Option DeviceAction
due_action h = find (λ l. is_due_at h.clock l.tick) h.actions

-- an action that is due no more
abbrev pub without_tick : DeviceAction → DeviceAction
without_tick l = record l { tick = None }

-- the actions, of which the first that is due at tick `now` is due no more
abbrev pub first_done : ℕ → List DeviceAction → List DeviceAction
first_done now [] = []
first_done now (l ∷ ls) = if is_due_at now l.tick then without_tick l ∷ ls else l ∷ first_done now ls

-- a device after it posted an action: it takes effect and is due no more; nothing changes where there is none
abbrev pub posted_action : Device → Option DeviceAction → Device
posted_action h None = h
posted_action h (Some l) = act_on (record h { actions = first_done h.clock h.actions }) l.action

-- a device after one event more: an access to a register of its own, a post of its own, or a tick
abbrev pub device_after : Device → Event → Device
device_after h (event.Register cpu a k v) = if has_register (own_register h k) then accessed a k (stored a k v h) else h
device_after h (event.Posted agent post answer) = if agent == h.agent then posted_action h (due_action h) else h
device_after h (event.Tick time) = record h { clock = time }
device_after h _ = h

-- an action, as an event posts it
abbrev pub action_post : DeviceAction → Post
action_post l = post.Act l.action

-- what a device posts now: its first action that is due
abbrev pub device_due : Device → Option Post
device_due h = option_map action_post (due_action h)

-- the tick of an action, where it is later than now
abbrev pub later_tick : ℕ → Option ℕ → Option ℕ
later_tick now None = None
later_tick now (Some t) = if nat_lt now t then Some t else None

-- the least later tick at which an action of the device is due
abbrev pub device_next : Device → Option ℕ
device_next h = least (filter_map (λ l. later_tick h.clock l.tick) h.actions)

-- what a device shows under number `what`: a register by its number, an interrupt's level line by 64 and its id; 0
-- for what isn't its own
abbrev pub device_value : Device → ℕ → ℕ
device_value h what = if nat_lt what 64 then unwrap_or (own_register h what) 0 else flag (entry false h.raised (what - 64))
