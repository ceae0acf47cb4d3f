-- What a list of events says of a device that may sleep: whether it is awake or asleep, whether requests are pending, whether
-- the driver keeps it awake, and since when it may be idle. (own, after KMDF's S0 idle)
use Rattle.std.specs.Prelude.{if◌then◌else◌, ℕ, zero, suc, Bool, false, ◌==◌, not, ◌&&◌, ◌||◌, List, length, take, fold, Option, Some, None, is_some, position, codes}
use Rattle.std.specs.List.{list_all}
use Rattle.wdf_base.specs.declared.plan.Plan.{Plan}
use Rattle.wdf_base.specs.declared.call.Callback.TheVariants as callback
use Rattle.wdf_base.specs.declared.event.Access.TheVariants as access
use Rattle.wdf_base.specs.declared.event.Action.TheVariants as action
use Rattle.wdf_base.specs.declared.event.Ask.{Ask}
use Rattle.wdf_base.specs.declared.event.Stage.TheVariants as stage
use Rattle.wdf_base.specs.declared.event.Post.TheVariants as post
use Rattle.wdf_base.specs.declared.event.Event.{Event}
use Rattle.wdf_base.specs.declared.event.Event.TheVariants as event
use Rattle.wdf_model.specs.Tables.{same_id}
use Rattle.wdf_model.specs.Plans.{device_of}
use Rattle.wdf_model.specs.agents.IdlePolicy.{ends_asleep, ends_awake, is_register_named, opening_value}
use Rattle.wdf_laws.specs.Events.{ended_on, is_id, passed}
use Rattle.wdf_laws.specs.Laws.{is_settled, works_at_opening}

-- ---- time

-- own: a tick shows a new time
abbrev pub time_step : ℕ → Event → ℕ
time_step now (event.Tick time) = time
time_step now _ = now

-- own: the time after the events, 0 at the opening
unfoldable pub time_after : List Event → ℕ
time_after events = fold time_step 0 events

-- ---- awake and asleep

-- own: whether a device is awake, or asleep, and whether it was when something was last asked of it
pub record Rest : Type 0 where
  pub now : Bool
  pub before : Bool

-- own: what an event asks of device d
abbrev pub asked_of : ℕ → Event → Option Ask
asked_of d (event.Posted agent (post.Ask a n) answer) = if n.id.0 == d then Some a else None
asked_of d _ = None

-- own: whether something is asked that ends the rest
abbrev pub is_ended : (Ask → Bool) → Option Ask → Bool
is_ended ends None = false
is_ended ends (Some a) = ends a

-- KMDF: the driver of device d refuses to stop it
abbrev pub refuses_stop : ℕ → Event → Bool
refuses_stop d e = is_id d (ended_on callback.EvtDeviceQueryStop false e)

-- KMDF: the driver of device d refuses to let it go
abbrev pub refuses_removal : ℕ → Event → Bool
refuses_removal d e = is_id d (ended_on callback.EvtDeviceQueryRemove false e)

-- own: it begins by an event, ends by what is asked, and comes back where the driver refuses what was asked
abbrev pub rest_after : Bool → (Ask → Bool) → Bool → Option Ask → Rest → Rest
rest_after begins ends refused asked x = record {
  now = (begins || (x.now && not (is_ended ends asked))) || (x.before && refused);
  before = if is_some asked then x.now else x.before;
}

-- own: a working device is awake until sleep, rebalance, remove or surprise is asked of it
abbrev pub awake_step : ℕ → Rest → Event → Rest
awake_step d x e = rest_after (is_id d (passed stage.Working e)) ends_awake (refuses_stop d e || refuses_removal d e) (asked_of d e) x

-- own: a sleeping device is asleep until wake, remove or surprise is asked of it
abbrev pub asleep_step : ℕ → Rest → Event → Rest
asleep_step d x e = rest_after (is_id d (passed stage.Sleeping e)) ends_asleep (refuses_removal d e) (asked_of d e) x

-- own: the rest of a device after the events; one that works at the opening is awake there
unfoldable pub awake_rest : Plan → ℕ → List Event → Rest
awake_rest plan d events = fold (awake_step d) (record { now = works_at_opening (device_of plan d); before = false }) events

-- own: the same of sleep
unfoldable pub asleep_rest : ℕ → List Event → Rest
asleep_rest d events = fold (asleep_step d) (record { now = false; before = false }) events

-- own: device d is awake after the events
abbrev pub is_awake : Plan → ℕ → List Event → Bool
is_awake plan d events = (awake_rest plan d events).now

-- own: device d is asleep after the events
abbrev pub is_asleep : ℕ → List Event → Bool
is_asleep d events = (asleep_rest d events).now

-- ---- pending requests

-- own: a request has arrived for device d and isn't completed
abbrev pub has_pending : ℕ → List Event → Bool
has_pending d events = not (list_all (is_settled events d) events)

-- ---- the hold

-- own: the number of device d's register IDLE_HOLD, if it has one
abbrev pub hold_register : Plan → ℕ → Option ℕ
hold_register plan d = position (is_register_named plan d (codes "IDLE_HOLD")) plan.registers

-- own: the register is put, or set by a post: a number other than 0 holds the device awake
abbrev pub hold_step : Option ℕ → Bool → Event → Bool
hold_step register held (event.Register cpu access.Write k v) = if same_id register k then not (v == 0) else held
hold_step register held (event.Posted agent (post.Act (action.Set k v)) answer) = if same_id register k then not (v == 0) else held
hold_step register held _ = held

-- own: device d is held awake after the events
unfoldable pub is_held : Plan → ℕ → List Event → Bool
is_held plan d events = fold (hold_step (hold_register plan d)) (not (opening_value plan d (codes "IDLE_HOLD") == 0)) events

-- ---- idle

-- own: nobody uses device d, and nobody keeps it awake
abbrev pub is_idle : Plan → ℕ → List Event → Bool
is_idle plan d events = is_awake plan d events && not (has_pending d events) && not (is_held plan d events)

-- own: by the events after the first ones it became awake, its last pending request was completed, or its hold ended
abbrev pub starts_anew : Plan → ℕ → List Event → List Event → Bool
starts_anew plan d first events =
    (not (is_awake plan d first) && is_awake plan d events) || (has_pending d first && not (has_pending d events)) || (is_held plan d first && not (is_held plan d events))

-- own: the time of the last of the first k events at which it started anew, 0 for none
abbrev pub since_of_first : Plan → ℕ → List Event → ℕ → ℕ
since_of_first plan d events zero = 0
since_of_first plan d events (suc k) =
    if starts_anew plan d (take k events) (take (suc k) events) then time_after (take k events) else since_of_first plan d events k

-- own: the time since which device d may be idle
abbrev pub since : Plan → ℕ → List Event → ℕ
since plan d events = since_of_first plan d events (length events)
