-- The stack manager, in place of the Plug and Play manager: it posts each line for the whole chain of the line's device,
-- a post when the one before has ended. It is a fold of the events of the run. (own)
use Rattle.std.specs.Prelude.{if◌then◌else◌, ℕ, zero, suc, ◌+◌, Bool, true, false, ◌==◌, nat_lt, nat_le, not, ◌&&◌, List, length, map, find, Option, Some, None, option_map, option_and_then, unwrap_or, slice_get}
use Rattle.wdf_base.specs.declared.plan.Plan.{Plan}
use Rattle.wdf_base.specs.declared.ids.Handle.{Handle}
use Rattle.wdf_base.specs.declared.value.Value.{Value}
use Rattle.wdf_base.specs.declared.call.Callback.{Callback}
use Rattle.wdf_base.specs.declared.declared.PostLine.{PostLine}
use Rattle.wdf_base.specs.declared.event.Ask.{Ask}
use Rattle.wdf_base.specs.declared.event.Ask.TheVariants as asks
use Rattle.wdf_base.specs.declared.event.Post.{Post}
use Rattle.wdf_base.specs.declared.event.Post.TheVariants as post
use Rattle.wdf_base.specs.declared.event.Stage.{Stage}
use Rattle.wdf_base.specs.declared.event.Stage.TheVariants as stage
use Rattle.wdf_base.specs.declared.event.Event.{Event}
use Rattle.wdf_base.specs.declared.event.Event.TheVariants as event
use Rattle.wdf_base.specs.Callbacks.{is_query}
use Rattle.wdf_model.specs.declared.enums.Phase.{Phase}
use Rattle.wdf_model.specs.declared.enums.Phase.TheVariants.{Off, Working, Sleeping, Removed}
use Rattle.wdf_model.specs.declared.stack.AskPost.{AskPost}
use Rattle.wdf_model.specs.declared.stack.StackDevice.{StackDevice}
use Rattle.wdf_model.specs.Plans.{device_of, devices_of}
use Rattle.wdf_model.specs.parts.Pnp.{opening_phase}
use Rattle.wdf_model.specs.agents.App.{later_line}
use Rattle.wdf_model.specs.agents.Chains.{above, below, device_handle}
use Rattle.wdf_base.specs.Values.{is_success}

-- the Plug and Play manager of stacks: each line is posted for the whole chain of its device, post after post (own)
pub record StackManager : Type 0 where
  -- what its lines post, in their order
  pub lines : List PostLine
  -- how many of them it has begun
  pub begun : ℕ
  -- the devices by id
  pub devices : List StackDevice
  -- the next post of the line under way
  pub rest : Option AskPost
  -- the post whose end it waits for
  pub awaited : Option AskPost
  -- the tick of the run
  pub clock : ℕ

-- ---- the opening

-- a device as it is at the opening
abbrev pub stack_device : Plan → ℕ → StackDevice
stack_device plan d = record {
  device = device_handle plan d;
  above = option_map (device_handle plan) (above plan d);
  below = option_map (device_handle plan) (below plan d);
  phase = opening_phase (unwrap_or (option_map (λ i. i.working) (device_of plan d)) false);
}

-- the stack manager of a plan
abbrev pub stack_manager_at : Plan → StackManager
stack_manager_at plan = record {
  lines = plan.pnp;
  begun = 0;
  devices = map (stack_device plan) (devices_of plan);
  rest = None;
  awaited = None;
  clock = 0;
}

-- ---- chains

-- a device is this one
abbrev pub is_device : ℕ → StackDevice → Bool
is_device d x = x.device.id.0 == d

-- what is known of a device
abbrev pub known : List StackDevice → ℕ → Option StackDevice
known devices d = find (is_device d) devices

-- the device above one, if there is one
abbrev pub above_in : List StackDevice → ℕ → Option Handle
above_in devices d = option_and_then (λ x. x.above) (known devices d)

-- the device below one, if there is one
abbrev pub below_in : List StackDevice → ℕ → Option Handle
below_in devices d = option_and_then (λ x. x.below) (known devices d)

-- how far a device has come
abbrev pub phase_in : List StackDevice → ℕ → Phase
phase_in devices d = unwrap_or (option_map (λ x. x.phase) (known devices d)) Removed

-- own: a start and a wake go from the bottom up
abbrev pub goes_up : Ask → Bool
goes_up asks.Start = true
goes_up asks.Wake = true
goes_up _ = false

-- own: a rebalance is for its device alone
abbrev pub is_alone : Ask → Bool
is_alone asks.Rebalance = true
is_alone _ = false

-- the device after one in the order of a list: the one above it, or the one below it
abbrev pub follower : List StackDevice → Ask → ℕ → Option Handle
follower devices a d = if is_alone a then None else if goes_up a then above_in devices d else below_in devices d

-- the device before one in that order
abbrev pub leader : List StackDevice → Ask → ℕ → Option Handle
leader devices a d = if is_alone a then None else if goes_up a then below_in devices d else above_in devices d

-- the first device of the list of a line, in at most so many steps against its order
abbrev pub first_in : List StackDevice → Ask → ℕ → Handle → Handle
first_in devices a zero d = d
first_in devices a (suc n) d = elim (leader devices a d.id.0) as (λ _. Handle) [
  | None ↦ d
  | Some e ↦ first_in devices a n e
]

-- the first post of the list of a line
abbrev pub first_post : List StackDevice → Post → Option AskPost
first_post devices (post.Ask a d) = Some (record { ask = a; device = first_in devices a (length devices) d })
first_post devices _ = None

-- own: the post after one in its list
abbrev pub post_after : List StackDevice → Ask → Handle → Option AskPost
post_after devices a d = option_map (λ e. record { ask = a; device = e }) (follower devices a d.id.0)

-- ---- the end of a post

-- a post changes nothing of a device in this phase
abbrev pub changes_nothing : Phase → Ask → Bool
changes_nothing Off asks.Start = false
changes_nothing Off asks.Remove = false
changes_nothing Off asks.Surprise = false
changes_nothing Working asks.Sleep = false
changes_nothing Working asks.Rebalance = false
changes_nothing Working asks.Remove = false
changes_nothing Working asks.Surprise = false
changes_nothing Sleeping asks.Wake = false
changes_nothing Sleeping asks.Remove = false
changes_nothing Sleeping asks.Surprise = false
changes_nothing _ _ = true

-- a device is Working
abbrev pub is_working : Phase → Bool
is_working Working = true
is_working _ = false

-- what is left of a list, unless it is dropped
abbrev pub unless_dropped : Bool → Option AskPost → Option AskPost
unless_dropped true rest = None
unless_dropped false rest = rest

-- own: a start or a wake that left its device not Working drops the rest of its list
abbrev pub drops : Ask → Phase → Bool
drops a phase = goes_up a && not (is_working phase)

-- the post that it waits for has ended
abbrev pub ended : StackManager → Bool → StackManager
ended m dropped = record m { rest = unless_dropped dropped m.rest; awaited = None }

-- ---- events

-- own: a post that changes nothing has ended at once
abbrev pub ended_at_once : StackManager → Ask → Phase → StackManager
ended_at_once m a phase = if changes_nothing phase a then ended m (drops a phase) else m

-- the first post of a list begins a line
abbrev pub lines_begun : StackManager → ℕ
lines_begun m = elim m.rest as (λ _. ℕ) [
  | Some x ↦ m.begun
  | None ↦ if nat_lt m.begun (length m.lines) then m.begun + 1 else m.begun
]

-- a post of its own
abbrev pub with_post : StackManager → Ask → Handle → StackManager
with_post m a d = record m { begun = lines_begun m; rest = post_after m.devices a d; awaited = Some (record { ask = a; device = d }) }

-- it posts
abbrev pub asked : StackManager → Ask → Handle → StackManager
asked m a d = ended_at_once (with_post m a d) a (phase_in m.devices d.id.0)

-- an agent posts
abbrev pub manager_posted : StackManager → ℕ → Post → StackManager
manager_posted m agent (post.Ask a d) = if agent == 0 then asked m a d else m
manager_posted m agent _ = m

-- the phase that a stage gives
abbrev pub phase_of_stage : Stage → Option Phase
phase_of_stage stage.Working = Some Working
phase_of_stage stage.Sleeping = Some Sleeping
phase_of_stage stage.Removed = Some Removed
phase_of_stage _ = None

-- one device comes to a phase
abbrev pub with_phase_one : ℕ → Phase → StackDevice → StackDevice
with_phase_one d phase x = if is_device d x then record x { phase = phase } else x

-- a device comes to a phase
abbrev pub with_phase : StackManager → ℕ → Phase → StackManager
with_phase m d phase = record m { devices = map (with_phase_one d phase) m.devices }

-- the post that it waits for is to this device
abbrev pub awaits : StackManager → ℕ → Bool
awaits m d = elim m.awaited as (λ _. Bool) [
  | None ↦ false
  | Some x ↦ x.device.id.0 == d
]

-- what it waits for drops the rest in this phase
abbrev pub awaited_drops : StackManager → Phase → Bool
awaited_drops m phase = elim m.awaited as (λ _. Bool) [
  | None ↦ false
  | Some x ↦ drops x.ask phase
]

-- own: a post has ended when its device is Working, Sleeping or Removed
abbrev pub came_to : StackManager → ℕ → Option Phase → StackManager
came_to m d None = m
came_to m d (Some phase) = if awaits m d then ended (with_phase m d phase) (awaited_drops m phase) else with_phase m d phase

-- own: a refused query ends its post, and drops the rest
abbrev pub query_ended : StackManager → Callback → ℕ → Value → StackManager
query_ended m c d v = if is_query c && not (is_success v) && awaits m d then ended m true else m

-- the manager after an event
abbrev pub stack_manager_after : StackManager → Event → StackManager
stack_manager_after m (event.Posted agent p answer) = manager_posted m agent p
stack_manager_after m (event.Stage d s i) = came_to m d.id.0 (phase_of_stage s)
stack_manager_after m (event.End cpu c d v) = query_ended m c d.id.0 v
stack_manager_after m (event.Tick time) = record m { clock = time }
stack_manager_after m _ = m

-- ---- what it posts

-- the first post of a line whose tick is reached
abbrev pub due_of_line : StackManager → Option PostLine → Option AskPost
due_of_line m None = None
due_of_line m (Some l) = if nat_le l.tick m.clock then first_post m.devices l.post else None

-- the next post: of the line under way, else of the next line
abbrev pub next_post : StackManager → Option AskPost
next_post m = elim m.rest as (λ _. Option AskPost) [
  | Some x ↦ Some x
  | None ↦ due_of_line m (slice_get m.lines m.begun)
]

-- a post of this form
abbrev pub ask_of : AskPost → Post
ask_of x = post.Ask x.ask x.device

-- own: nothing is due while it waits for the end of a post
abbrev pub stack_manager_due : StackManager → Option Post
stack_manager_due m = elim m.awaited as (λ _. Option Post) [
  | Some x ↦ None
  | None ↦ option_map ask_of (next_post m)
]

-- the tick of the next line, where it is later
abbrev pub stack_manager_next : StackManager → Option ℕ
stack_manager_next m = later_line m.clock (slice_get m.lines m.begun)
