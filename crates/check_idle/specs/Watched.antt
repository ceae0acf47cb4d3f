-- What the checker keeps of a device with a timeout, what an event changes of it, and the law of that device. Each part is a
-- word of the law, over the events so far. (own)
use Rattle.std.specs.Prelude.{if◌then◌else◌, ℕ, ◌+◌, Bool, true, false, ◌==◌, nat_le, not, ◌&&◌, ◌||◌, codes, List, [], ◌∷◌, ◌++◌, filter, length, Option, Some, None, is_some}
use Rattle.std.specs.List.{filter_map}
use Rattle.wdf_base.specs.declared.plan.Plan.{Plan}
use Rattle.wdf_base.specs.declared.event.Access.{Access}
use Rattle.wdf_base.specs.declared.event.Access.TheVariants as access
use Rattle.wdf_base.specs.declared.event.Action.{Action}
use Rattle.wdf_base.specs.declared.event.Action.TheVariants as action
use Rattle.wdf_base.specs.declared.event.Ask.{Ask}
use Rattle.wdf_base.specs.declared.event.Ask.TheVariants as asks
use Rattle.wdf_base.specs.declared.event.Stage.TheVariants as stage
use Rattle.wdf_base.specs.declared.event.Post.{Post}
use Rattle.wdf_base.specs.declared.event.Post.TheVariants as post
use Rattle.wdf_base.specs.declared.event.Event.{Event}
use Rattle.wdf_base.specs.declared.event.Event.TheVariants as event
use Rattle.wdf_model.specs.Tables.{same_id}
use Rattle.wdf_model.specs.Plans.{device_of}
use Rattle.wdf_model.specs.agents.IdlePolicy.{ends_asleep, ends_awake, opening_value, timeout_of}
use Rattle.wdf_laws.specs.declared.sign.Sign.TheVariants as sign
use Rattle.wdf_laws.specs.Events.{arrived, arrived_at, completed, is_id, passed, where_so}
use Rattle.wdf_laws.specs.Laws.{works_at_opening}
use Rattle.wdf_laws.specs.Words.{ever}
use Rattle.law_idle.specs.Idling.{Rest, asleep_rest, awake_rest, hold_register, is_ended, is_held, refuses_removal, refuses_stop, since}
use Rattle.law_idle.specs.Law.{is_sent_to_sleep, is_woken_by_line}

pub record Watched : Type 0 where
  -- its id
  pub device : ℕ
  -- the plan declares it: so the law asks of it at each tick
  pub declared : Bool
  -- after how many idle ticks it goes to sleep, 0 where it takes no part
  pub timeout : ℕ
  -- the number of its register IDLE_HOLD, if it has one
  pub hold_register : Option ℕ
  -- a line of the pnp block puts it to sleep, or wakes it
  pub sent : Bool
  pub called : Bool
  -- whether it is awake, or asleep, and whether it was when something was last asked of it
  pub awake : Rest
  pub asleep : Rest
  -- the requests that arrived for it and aren't completed, in the order of their arrivals
  pub pending : List ℕ
  -- the driver keeps it awake
  pub held : Bool
  -- since when it may be idle
  pub since : ℕ

-- ---- the words of the law

-- the request that an event brings to device d
abbrev pub arrival_for : ℕ → Event → Option ℕ
arrival_for d e = where_so (is_id d (arrived_at e)) (arrived e)

-- a request isn't completed by these events
abbrev pub is_open : List Event → ℕ → Bool
is_open events r = not (ever (sign.Completion r) events)

-- the requests that arrived for device d and aren't completed
abbrev pub pending_of : ℕ → List Event → List ℕ
pending_of d events = filter (is_open events) (filter_map (arrival_for d) events)

-- what is kept of device d after these events
abbrev pub watched : Plan → List Event → ℕ → Watched
watched plan events d = record {
  device = d;
  declared = is_some (device_of plan d);
  timeout = timeout_of plan d;
  hold_register = hold_register plan d;
  sent = is_sent_to_sleep plan d;
  called = is_woken_by_line plan d;
  awake = awake_rest plan d events;
  asleep = asleep_rest d events;
  pending = pending_of d events;
  held = is_held plan d events;
  since = since plan d events;
}

-- before the first event
abbrev pub opened : Plan → ℕ → Watched
opened plan d = record {
  device = d;
  declared = is_some (device_of plan d);
  timeout = timeout_of plan d;
  hold_register = hold_register plan d;
  sent = is_sent_to_sleep plan d;
  called = is_woken_by_line plan d;
  awake = record { now = works_at_opening (device_of plan d); before = false };
  asleep = record { now = false; before = false };
  pending = [];
  held = not (opening_value plan d (codes "IDLE_HOLD") == 0);
  since = 0;
}

-- ---- awake and asleep, after an event

-- what a post asks of device d
abbrev pub asked_by : ℕ → Post → Option Ask
asked_by d (post.Ask a n) = if n.id.0 == d then Some a else None
asked_by d _ = None

-- what an event asks of it
abbrev pub asked : ℕ → Event → Option Ask
asked d (event.Posted agent p answer) = asked_by d p
asked d _ = None

-- it begins by an event, ends by what is asked, and comes back where the driver refuses what was asked
abbrev pub rested : Bool → Bool → Bool → Option Ask → Rest → Rest
rested begins ends refused a x = record { now = (begins || (x.now && not ends)) || (x.before && refused); before = if is_some a then x.now else x.before }

abbrev pub awake_after : ℕ → Event → Rest → Rest
awake_after d e x = rested (is_id d (passed stage.Working e)) (is_ended ends_awake (asked d e)) (refuses_stop d e || refuses_removal d e) (asked d e) x

abbrev pub asleep_after : ℕ → Event → Rest → Rest
asleep_after d e x = rested (is_id d (passed stage.Sleeping e)) (is_ended ends_asleep (asked d e)) (refuses_removal d e) (asked d e) x

-- ---- pending requests, after an event

-- a request that arrives is kept if it isn't completed by the events before
abbrev pub with_arrival : List Event → Option ℕ → List ℕ → List ℕ
with_arrival before None rs = rs
with_arrival before (Some r) rs = if ever (sign.Completion r) before then rs else rs ++ r ∷ []

-- a request that is completed is kept no more
abbrev pub without_completed : Option ℕ → List ℕ → List ℕ
without_completed None rs = rs
without_completed (Some c) rs = filter (λ r. not (r == c)) rs

-- ---- the hold, after an event

-- a register takes a number
abbrev pub held_with : Option ℕ → Bool → ℕ → ℕ → Bool
held_with register held k v = if same_id register k then not (v == 0) else held

-- a device does something
abbrev pub held_by_action : Option ℕ → Bool → Action → Bool
held_by_action register held (action.Set k v) = held_with register held k v
held_by_action register held _ = held

abbrev pub held_by_post : Option ℕ → Bool → Post → Bool
held_by_post register held (post.Act a) = held_by_action register held a
held_by_post register held _ = held

-- the driver reads or writes a register
abbrev pub held_by_access : Option ℕ → Bool → Access → ℕ → ℕ → Bool
held_by_access register held access.Write k v = held_with register held k v
held_by_access register held access.Read k v = held

abbrev pub held_after : Option ℕ → Event → Bool → Bool
held_after register (event.Register cpu a k v) held = held_by_access register held a k v
held_after register (event.Posted agent p answer) held = held_by_post register held p
held_after register _ held = held

-- ---- a device, after an event

-- an event changes each part by itself
abbrev pub stirred : List Event → Event → Watched → Watched
stirred before e x = record x {
  awake = awake_after x.device e x.awake;
  asleep = asleep_after x.device e x.asleep;
  pending = without_completed (completed e) (with_arrival before (arrival_for x.device e) x.pending);
  held = held_after x.hold_register e x.held;
}

-- a request is pending
abbrev pub is_used : Watched → Bool
is_used x = not (length x.pending == 0)

-- it became awake, its last pending request was completed, or its hold ended
abbrev pub starts_anew : Watched → Watched → Bool
starts_anew x y = (not x.awake.now && y.awake.now) || (is_used x && not (is_used y)) || (x.held && not y.held)

-- a device after an event that comes at this time after these events
abbrev pub watched_after : List Event → ℕ → Event → Watched → Watched
watched_after before now e x = record (stirred before e x) { since = if starts_anew x (stirred before e x) then now else x.since }

-- ---- the law of a device

-- nobody uses it, and nobody keeps it awake
abbrev pub is_idle : Watched → Bool
is_idle x = x.awake.now && not (is_used x) && not x.held

-- it isn't asleep with a pending request, and hasn't been idle for its timeout or longer
abbrev pub rests_well : ℕ → Watched → Bool
rests_well now x = not (x.asleep.now && is_used x) && not (is_idle x && nat_le (x.since + x.timeout) now)

-- it goes to sleep exactly when it has been idle for its timeout, unless a line puts it to sleep
abbrev pub sleeps_in_time : ℕ → Watched → Bool
sleeps_in_time now x = x.sent || (is_idle x && now == x.since + x.timeout)

-- it is woken when it is asleep with a pending request, unless a line wakes it
abbrev pub wakes_in_time : Watched → Bool
wakes_in_time x = x.called || (x.asleep.now && is_used x)

-- what is asked of it
abbrev pub keeps_ask : ℕ → Ask → Watched → Bool
keeps_ask now asks.Sleep x = sleeps_in_time now x
keeps_ask now asks.Wake x = wakes_in_time x
keeps_ask now _ x = true

-- a post
abbrev pub keeps_post : ℕ → Post → Watched → Bool
keeps_post now (post.Ask a n) x = not (n.id.0 == x.device) || keeps_ask now a x
keeps_post now _ x = true

-- an event
abbrev pub keeps_event : ℕ → Event → Watched → Bool
keeps_event now (event.Tick time) x = not x.declared || rests_well now x
keeps_event now (event.Posted agent p answer) x = keeps_post now p x
keeps_event now _ x = true

-- an event that comes at this time keeps the law, of a device that takes part
abbrev pub keeps : ℕ → Event → Watched → Bool
keeps now e x = x.timeout == 0 || keeps_event now e x
