-- The idle policy, in the place of the Plug and Play manager: it puts a device to sleep that nobody has used for a
-- while, and wakes it when a request arrives. A fold of the events of the run. (own, after KMDF's S0 idle)
use Rattle.std.specs.Prelude.{if◌then◌else◌, ℕ, suc, min, ◌+◌, Bool, true, false, ◌==◌, nat_lt, nat_le, not, ◌&&◌, ◌||◌, List, [], length, map, fold, count_by, Option, Some, None, is_some, option_map, unwrap_or, slice_get, find, position, codes}
use Rattle.std.specs.List.{filter_map}
use Rattle.std.specs.Str.{bytes_eq}
use Rattle.wdf_base.specs.declared.plan.Plan.{Plan}
use Rattle.wdf_base.specs.declared.ids.Handle.{Handle}
use Rattle.wdf_base.specs.declared.value.Value.{Value}
use Rattle.wdf_base.specs.declared.call.Call.{Call}
use Rattle.wdf_base.specs.declared.call.CallKind.TheVariants as call
use Rattle.wdf_base.specs.declared.call.Callback.{Callback}
use Rattle.wdf_base.specs.declared.call.Callback.TheVariants as callback
use Rattle.wdf_base.specs.declared.declared.DeviceInfo.{DeviceInfo}
use Rattle.wdf_base.specs.declared.declared.RegisterInfo.{RegisterInfo}
use Rattle.wdf_base.specs.declared.event.Access.TheVariants as access
use Rattle.wdf_base.specs.declared.event.Action.TheVariants as action
use Rattle.wdf_base.specs.declared.event.Ask.{Ask}
use Rattle.wdf_base.specs.declared.event.Ask.TheVariants as asks
use Rattle.wdf_base.specs.declared.event.Stage.TheVariants as stage
use Rattle.wdf_base.specs.declared.event.Post.{Post}
use Rattle.wdf_base.specs.declared.event.Post.TheVariants as post
use Rattle.wdf_base.specs.declared.event.Event.{Event}
use Rattle.wdf_base.specs.declared.event.Event.TheVariants as event
use Rattle.wdf_base.specs.Callbacks.{is_query}
use Rattle.wdf_model.specs.Tables.{tick_after, entry, put, lesser, same_id, first_of_list}
use Rattle.wdf_model.specs.Plans.{device_of, devices_of, first_there}
use Rattle.wdf_model.specs.State.{object_in}
use Rattle.wdf_model.specs.rules.Posts.{ARRIVALS}
use Rattle.wdf_model.specs.agents.App.{App, app_after, app_due, app_next, after_post}
use Rattle.wdf_model.specs.agents.PnpManager.{manager_at}
use Rattle.wdf_base.specs.Values.{is_success}

-- own: what the policy knows of a device that takes part
pub record IdleDevice : Type 0 where
  pub device : Handle
  -- after how many idle ticks it goes to sleep
  pub timeout : ℕ
  -- the number of its register IDLE_HOLD, if it has one
  pub hold_register : Option ℕ
  -- the ids of the objects of a run are below this
  pub room : ℕ
  -- it is Working, and nothing is asked of it
  pub awake : Bool
  -- it is Sleeping, and nothing is asked of it
  pub asleep : Bool
  -- whether it was awake, or asleep, when something was last asked of it
  pub was_awake : Bool
  pub was_asleep : Bool
  -- by a request's id, whether the request has arrived for the device and isn't completed
  pub pending : List Bool
  -- the tick at which it last became awake, the last pending request was completed, or the hold ended
  pub since : ℕ
  -- the driver keeps it awake
  pub hold : Bool

-- own: the policy: the manager's lines, and what it knows of each device that takes part
pub record IdlePolicy : Type 0 where
  -- the Plug and Play manager in whose place it is
  pub manager : App
  -- the devices that take part, by id
  pub devices : List IdleDevice

-- ---- which devices take part

-- own: the longest time until a device goes to sleep
abbrev pub LONGEST_TIMEOUT : ℕ
LONGEST_TIMEOUT = 1000000

-- own: a register of a device, with this name
abbrev pub is_register_named : Plan → ℕ → List ℕ → RegisterInfo → Bool
is_register_named plan d word r = r.device.0 == d && unwrap_or (option_map (bytes_eq word) (slice_get plan.names r.name)) false

-- own: what the register of a device with this name holds at the opening; 0 where it has none
abbrev pub opening_value : Plan → ℕ → List ℕ → ℕ
opening_value plan d word = unwrap_or (option_map (λ r. r.value) (find (is_register_named plan d word) plan.registers)) 0

-- own: the register IDLE_TIMEOUT gives the ticks, at most the longest time; with 0, or without it, the device takes no part
abbrev pub timeout_of : Plan → ℕ → ℕ
timeout_of plan d = min (opening_value plan d (codes "IDLE_TIMEOUT")) LONGEST_TIMEOUT

-- own: a declared device, at the opening
abbrev pub device_at : Plan → ℕ → DeviceInfo → IdleDevice
device_at plan d i = record {
  device = record { id = record { 0 = d }; name = i.name };
  timeout = timeout_of plan d;
  hold_register = position (is_register_named plan d (codes "IDLE_HOLD")) plan.registers;
  room = suc (length plan.declared) + plan.limit;
  awake = i.working;
  asleep = false;
  was_awake = false;
  was_asleep = false;
  pending = [];
  since = 0;
  hold = not (opening_value plan d (codes "IDLE_HOLD") == 0);
}

-- own: a device takes part that has a timeout
abbrev pub device_if_part : Plan → ℕ → Option IdleDevice
device_if_part plan d = if nat_lt 0 (timeout_of plan d) then option_map (device_at plan d) (device_of plan d) else None

-- own: the opening
abbrev pub policy_at : Plan → IdlePolicy
policy_at plan = record { manager = manager_at plan; devices = filter_map (device_if_part plan) (devices_of plan) }

-- ---- awake and asleep

-- an event is about this device
abbrev pub is_of : IdleDevice → Handle → Bool
is_of x d = d.id.0 == x.device.id.0

-- own: what takes a working device away
abbrev pub ends_awake : Ask → Bool
ends_awake asks.Sleep = true
ends_awake asks.Rebalance = true
ends_awake asks.Remove = true
ends_awake asks.Surprise = true
ends_awake _ = false

-- own: what takes a sleeping device away
abbrev pub ends_asleep : Ask → Bool
ends_asleep asks.Wake = true
ends_asleep asks.Remove = true
ends_asleep asks.Surprise = true
ends_asleep _ = false

-- KMDF: of a sleeping device it may refuse the removal alone
abbrev pub is_removal_query : Callback → Bool
is_removal_query callback.EvtDeviceQueryRemove = true
is_removal_query _ = false

-- KMDF: a callback of this device fails
abbrev pub is_refusal : IdleDevice → Handle → Value → Bool
is_refusal x o v = is_of x o && not (is_success v)

-- own: from the stage `working` until a post that takes it away; again where the driver refuses what was asked while it was awake
abbrev pub awake_after : IdleDevice → Event → Bool
awake_after x (event.Stage d stage.Working i) = x.awake || is_of x d
awake_after x (event.Posted agent (post.Ask a d) answer) = x.awake && not (is_of x d && ends_awake a)
awake_after x (event.End cpu c o v) = x.awake || (x.was_awake && is_query c && is_refusal x o v)
awake_after x _ = x.awake

-- own: from the stage `sleeping` until a post that takes it away; again where the driver refuses the removal of a device that was asleep
abbrev pub asleep_after : IdleDevice → Event → Bool
asleep_after x (event.Stage d stage.Sleeping i) = x.asleep || is_of x d
asleep_after x (event.Posted agent (post.Ask a d) answer) = x.asleep && not (is_of x d && ends_asleep a)
asleep_after x (event.End cpu c o v) = x.asleep || (x.was_asleep && is_removal_query c && is_refusal x o v)
asleep_after x _ = x.asleep

-- own: what it was before something is asked of it
abbrev pub was_awake_after : IdleDevice → Event → Bool
was_awake_after x (event.Posted agent (post.Ask a d) answer) = if is_of x d then x.awake else x.was_awake
was_awake_after x _ = x.was_awake

-- own: the same of sleep
abbrev pub was_asleep_after : IdleDevice → Event → Bool
was_asleep_after x (event.Posted agent (post.Ask a d) answer) = if is_of x d then x.asleep else x.was_asleep
was_asleep_after x _ = x.was_asleep

-- ---- pending requests

-- own: how many requests are pending
abbrev pub count_of : List Bool → ℕ
count_of pending = count_by (λ (b : Bool). b) pending

-- own: the device for which a post makes a request, if it makes one
abbrev pub arrives_for : Post → Option ℕ
arrives_for (post.Read d length) = Some d.id.0
arrives_for (post.Write d length) = Some d.id.0
arrives_for (post.Control d code length) = Some d.id.0
arrives_for _ = None

-- own: at most as many are kept as may arrive in a run; no object of a run has an id beyond the room
abbrev pub with_arrival : IdleDevice → ℕ → List Bool
with_arrival x r = if nat_lt r x.room && nat_lt (count_of x.pending) ARRIVALS then put false x.pending r true else x.pending

-- own: a completed request is kept no more
abbrev pub with_completion : List Bool → ℕ → List Bool
with_completion pending r = if entry false pending r then put false pending r false else pending

-- KMDF: WdfRequestComplete completes its request
abbrev pub pending_after_call : List Bool → Call → List Bool
pending_after_call pending c = elim c.kind as (λ _. List Bool) [
  | call.WdfRequestComplete ↦ with_completion pending (object_in c.a)
  | _ ↦ pending
]

-- own: from its arrival until the driver or the framework completes it
abbrev pub pending_after : IdleDevice → Event → List Bool
pending_after x (event.Posted agent p (Some r)) = if same_id (arrives_for p) x.device.id.0 then with_arrival x r.id.0 else x.pending
pending_after x (event.Did cpu c answer) = pending_after_call x.pending c
pending_after x (event.Complete r s) = with_completion x.pending r.id.0
pending_after x _ = x.pending

-- ---- the hold

-- own: the register IDLE_HOLD with a number other than 0 is WdfDeviceStopIdle, with 0 it is WdfDeviceResumeIdle
abbrev pub hold_after : IdleDevice → Event → Bool
hold_after x (event.Register cpu access.Write k v) = if same_id x.hold_register k then not (v == 0) else x.hold
hold_after x (event.Posted agent (post.Act (action.Set k v)) answer) = if same_id x.hold_register k then not (v == 0) else x.hold
hold_after x _ = x.hold

-- ---- a device after an event

-- own: an event changes each part by itself
abbrev pub changed : IdleDevice → Event → IdleDevice
changed x e = record x {
  awake = awake_after x e;
  asleep = asleep_after x e;
  was_awake = was_awake_after x e;
  was_asleep = was_asleep_after x e;
  pending = pending_after x e;
  hold = hold_after x e;
}

-- own: it became awake, the last pending request was completed, or the hold ended
abbrev pub starts_anew : IdleDevice → IdleDevice → Bool
starts_anew x y = (not x.awake && y.awake) || (nat_lt 0 (count_of x.pending) && count_of y.pending == 0) || (x.hold && not y.hold)

-- own: a device after an event at this tick; what starts anew makes it the tick since which it may be idle
abbrev pub idle_after : ℕ → Event → IdleDevice → IdleDevice
idle_after now e x = record (changed x e) { since = if starts_anew x (changed x e) then now else x.since }

-- ---- what is due

-- own: a sleeping device with a pending request is woken
abbrev pub is_wanted : IdleDevice → Bool
is_wanted x = x.asleep && nat_lt 0 (count_of x.pending)

-- own: nobody uses it, and nobody keeps it awake
abbrev pub is_idle : IdleDevice → Bool
is_idle x = x.awake && count_of x.pending == 0 && not x.hold

-- own: what is due for a device at this tick
abbrev pub idle_post : ℕ → IdleDevice → Option Post
idle_post now x =
    if is_wanted x then Some (post.Ask asks.Wake x.device)
    else if is_idle x && nat_le (x.since + x.timeout) now then Some (post.Ask asks.Sleep x.device)
    else None

-- own: what is due for the first device, by id, for which something is due
abbrev pub first_post : IdlePolicy → Option Post
first_post p = first_of_list (filter_map (idle_post p.manager.clock) p.devices)

-- own: a later tick at which a device will have been idle long enough
abbrev pub later_sleep : ℕ → IdleDevice → Option ℕ
later_sleep now x = if is_idle x && nat_lt now (x.since + x.timeout) then Some (tick_after x.since x.timeout) else None

-- ---- the policy

-- own: a post of its own is none of the manager's lines
abbrev pub manager_after : IdlePolicy → Event → App
manager_after p (event.Posted agent q answer) = if is_some (first_post p) then p.manager else after_post agent p.manager
manager_after p e = app_after p.manager e

-- own: the policy after an event
abbrev pub policy_after : IdlePolicy → Event → IdlePolicy
policy_after p e = record { manager = manager_after p e; devices = map (idle_after p.manager.clock e) p.devices }

-- own: its own posts come before the manager's lines
abbrev pub policy_due : IdlePolicy → Option Post
policy_due p = first_there (first_post p) (app_due p.manager)

-- own: the least later tick, of a line of the manager or of a sleep
abbrev pub policy_next : IdlePolicy → Option ℕ
policy_next p = fold lesser (app_next p.manager) (filter_map (later_sleep p.manager.clock) p.devices)
