-- A connector: the target of a device that is connected to the device below. What is sent to it arrives there, and is done
-- as that device completes it. It is a fold of the events of the run. (own)
use Rattle.std.specs.Prelude.{if◌then◌else◌, ℕ, ◌-◌, Bool, true, false, ◌==◌, nat_lt, nat_le, not, ◌&&◌, ◌||◌, List, [], ◌∷◌, ◌++◌, length, map, filter, find, count_by, sum_by, Option, Some, None, option_map, unwrap_or}
use Rattle.std.specs.List.{filter_map}
use Rattle.wdf_base.specs.declared.plan.Plan.{Plan}
use Rattle.wdf_base.specs.declared.ids.Handle.{Handle}
use Rattle.wdf_base.specs.declared.value.Value.{Value}
use Rattle.wdf_base.specs.declared.value.Value.TheVariants.{Num, Stat}
use Rattle.wdf_base.specs.declared.value.Status.{Status}
use Rattle.wdf_base.specs.declared.value.Status.TheVariants as status
use Rattle.wdf_base.specs.declared.call.Arg.{Arg}
use Rattle.wdf_base.specs.declared.call.Arg.TheVariants.{Val}
use Rattle.wdf_base.specs.declared.call.Call.{Call}
use Rattle.wdf_base.specs.declared.call.CallKind.TheVariants as call
use Rattle.wdf_base.specs.declared.declared.PostLine.{PostLine}
use Rattle.wdf_base.specs.declared.event.Post.{Post}
use Rattle.wdf_base.specs.declared.event.Post.TheVariants as post
use Rattle.wdf_base.specs.declared.event.Event.{Event}
use Rattle.wdf_base.specs.declared.event.Event.TheVariants as event
use Rattle.wdf_base.specs.Resolved.{apps}
use Rattle.wdf_base.specs.Same.{same_value}
use Rattle.wdf_base.specs.Posts.{is_request}
use Rattle.wdf_model.specs.declared.stack.Arrival.{Arrival}
use Rattle.wdf_model.specs.declared.stack.Descent.{Descent}
use Rattle.wdf_model.specs.declared.stack.Descent.TheVariants as descent
use Rattle.wdf_model.specs.declared.stack.Forwarded.{Forwarded}
use Rattle.wdf_model.specs.Tables.{first_of_list, in_order_by, tick_after}
use Rattle.wdf_model.specs.Plans.{first_device_agent, target_of}
use Rattle.wdf_model.specs.State.{object_in}
use Rattle.wdf_base.specs.Values.{arg_is}
use Rattle.wdf_model.specs.rules.Posts.{ARRIVALS}
use Rattle.wdf_model.specs.agents.LowerTarget.{handle_in_arg}
use Rattle.wdf_model.specs.agents.Chains.{device_handle}

-- the agent of a connected target: what it was sent, what it posted at the device below, and what became of that (own)
pub record Connector : Type 0 where
  -- its number among the agents
  pub agent : ℕ
  -- the target object
  pub target : ℕ
  -- the device below
  pub lower : Handle
  -- the most requests that it keeps
  pub depth : ℕ
  -- the agents before this number are the Plug and Play manager and the apps
  pub first : ℕ
  -- how many arrivals connectors may still post
  pub room : ℕ
  -- how many arrivals it has posted
  pub posted : ℕ
  -- what the requests ask for that arrived, by rising id
  pub arrivals : List Arrival
  -- what was sent to it and isn't done, in the order of the sends
  pub sent : List Forwarded

-- ---- the opening

-- how many requests the apps of a plan post
abbrev pub request_lines : Plan → ℕ
request_lines plan = sum_by (λ a. count_by (λ (l : PostLine). is_request l.post) a.posts) (apps plan)

-- the connector of a target to this device
abbrev pub connector_at : Plan → ℕ → ℕ → ℕ → Connector
connector_at plan target lower agent = record {
  agent = agent;
  target = target;
  lower = device_handle plan lower;
  depth = unwrap_or (option_map (λ t. t.depth) (target_of plan target)) 0;
  first = first_device_agent plan;
  room = ARRIVALS - request_lines plan;
  posted = 0;
  arrivals = [];
  sent = [];
}

-- ---- what the requests ask for

-- own: what a request asks for is asked of the device below
abbrev pub passed_down : Handle → Post → Post
passed_down lower (post.Read device length) = post.Read lower length
passed_down lower (post.Write device length) = post.Write lower length
passed_down lower (post.Control device code length) = post.Control lower code length
passed_down lower p = p

-- own: a made request goes down as a control
abbrev pub made_post : Handle → Post
made_post lower = post.Control lower 0 0

-- the arrivals with one more, in place of that of its request
abbrev pub with_arrival : Arrival → List Arrival → List Arrival
with_arrival a xs = in_order_by (λ (x : Arrival). x.request.0) a (filter (λ x. not (x.request.0 == a.request.0)) xs)

-- own: an arrival is kept while fewer than 4,096 are
abbrev pub keep_arrival : Connector → Post → Option Handle → Connector
keep_arrival c p None = c
keep_arrival c p (Some r) =
    if nat_lt (length c.arrivals) ARRIVALS then record c { arrivals = with_arrival (record { request = r.id; post = passed_down c.lower p }) c.arrivals } else c

-- what a request asks for of the device below; the driver made what didn't arrive
abbrev pub post_for : Connector → ℕ → Post
post_for c r = unwrap_or (option_map (λ a. a.post) (find (λ (a : Arrival). a.request.0 == r) c.arrivals)) (made_post c.lower)

-- ---- what was sent

-- own: a request is sent to it; it keeps no more than its target's depth
abbrev pub with_sent : Connector → Option Handle → Connector
with_sent c None = c
with_sent c (Some r) =
    if nat_lt (length c.sent) c.depth
    then record c { sent = c.sent ++ record { request = r; post = post_for c r.id.0; cancelled = false; descent = descent.Waiting } ∷ [] }
    else c

-- a request is done, and here no more
abbrev pub without_request : Connector → ℕ → Connector
without_request c r = record c { sent = filter (λ f. not (f.request.id.0 == r)) c.sent }

-- one is cancelled
abbrev pub cancelled_one : ℕ → Forwarded → Forwarded
cancelled_one r f = if f.request.id.0 == r then record f { cancelled = true } else f

-- a request is cancelled
abbrev pub cancelled : Connector → ℕ → Connector
cancelled c r = record c { sent = map (cancelled_one r) c.sent }

-- one is cancelled, whichever it is
abbrev pub cancelled_any : Forwarded → Forwarded
cancelled_any f = record f { cancelled = true }

-- all that is here is cancelled
abbrev pub cancelled_all : Connector → Connector
cancelled_all c = record c { sent = map cancelled_any c.sent }

-- ---- what becomes of it below

-- the arrival of a request, by its number and its answer
abbrev pub arrived_below : ℕ → Option Handle → Descent
arrived_below number None = descent.Refused
arrived_below number (Some r) = descent.Below r.id number false

-- it has no arrival yet
abbrev pub is_waiting : Forwarded → Bool
is_waiting f = elim f.descent as (λ _. Bool) [
  | descent.Waiting ↦ true
  | _ ↦ false
]

-- own: an arrival is that of the first request that has none
abbrev pub first_arrived : Descent → List Forwarded → List Forwarded
first_arrived d [] = []
first_arrived d (f ∷ fs) = if is_waiting f then record f { descent = d } ∷ fs else f ∷ first_arrived d fs

-- a connector posts an arrival: there is room for one less
abbrev pub with_less_room : Connector → Connector
with_less_room c = record c { room = c.room - 1 }

-- its own arrival
abbrev pub with_arrived : Connector → Option Handle → Connector
with_arrived c answer = record c { posted = tick_after c.posted 1; sent = first_arrived (arrived_below (tick_after c.posted 1) answer) c.sent }

-- the request of this arrival has its cancel passed on
abbrev pub passed_on_at : ℕ → Descent → Descent
passed_on_at k (descent.Below lower number passed) = descent.Below lower number (passed || number == k)
passed_on_at k d = d

-- one has its cancel passed on, if it has this arrival
abbrev pub passed_on_one : ℕ → Forwarded → Forwarded
passed_on_one k f = record f { descent = passed_on_at k f.descent }

-- a cancel is passed on
abbrev pub with_passed_on : Connector → ℕ → Connector
with_passed_on c k = record c { sent = map (passed_on_one k) c.sent }

-- a request below is completed with a status
abbrev pub completed_at : ℕ → Status → Descent → Descent
completed_at x s (descent.Below lower number passed) = if lower.0 == x then descent.Completed s else descent.Below lower number passed
completed_at x s d = d

-- one is completed, if this is its request below
abbrev pub completed_one : ℕ → Status → Forwarded → Forwarded
completed_one x s f = record f { descent = completed_at x s f.descent }

-- a request is completed with a status
abbrev pub with_completed : Connector → ℕ → Status → Connector
with_completed c x s = record c { sent = map (completed_one x s) c.sent }

-- ---- events

-- an arrival by any agent; that of a connector takes room
abbrev pub arrival_taken : Connector → ℕ → Connector
arrival_taken c agent = if nat_le c.first agent then with_less_room c else c

-- the arrival by itself
abbrev pub arrival_own : Connector → ℕ → Option Handle → Connector
arrival_own c agent answer = if agent == c.agent then with_arrived c answer else c

-- an arrival is posted
abbrev pub arrival_posted : Connector → ℕ → Post → Option Handle → Connector
arrival_posted c agent p answer = arrival_own (arrival_taken (keep_arrival c p answer) agent) agent answer

-- the request of a cancel is cancelled, if it reached one
abbrev pub cancelled_if_any : Connector → Option Handle → Connector
cancelled_if_any c None = c
cancelled_if_any c (Some r) = cancelled c r.id.0

-- a cancel is posted; one of its own was passed on
abbrev pub cancel_posted : Connector → ℕ → ℕ → Option Handle → Connector
cancel_posted c agent k answer =
    if agent == c.agent then with_passed_on (cancelled_if_any c answer) k else cancelled_if_any c answer

-- an agent posts
abbrev pub connector_posted : Connector → ℕ → Post → Option Handle → Connector
connector_posted c agent (post.Read device length) answer = arrival_posted c agent (post.Read device length) answer
connector_posted c agent (post.Write device length) answer = arrival_posted c agent (post.Write device length) answer
connector_posted c agent (post.Control device code length) answer = arrival_posted c agent (post.Control device code length) answer
connector_posted c agent (post.Cancel k) answer = cancel_posted c agent k answer
connector_posted c agent (post.Done r s) answer = if agent == c.agent then without_request c r.id.0 else c
connector_posted c agent _ answer = c

-- a request is sent, if it is to this target and it went
abbrev pub send_called : Connector → Call → Value → Connector
send_called c k answer = if object_in k.b == c.target && same_value answer (Num 1) then with_sent c (handle_in_arg k.a) else c

-- WdfRequestCancelSentRequest cancels what is sent (KMDF)
abbrev pub cancel_called : Connector → Call → Value → Connector
cancel_called c k answer = if same_value answer (Num 1) then cancelled c (object_in k.a) else c

-- WdfIoTargetStop with 0 cancels what is sent
abbrev pub stop_called : Connector → Call → Connector
stop_called c k = if object_in k.a == c.target && arg_is k.b 0 then cancelled_all c else c

-- a request is completed with the status of an argument
abbrev pub completed_by : Connector → ℕ → Arg → Connector
completed_by c x (Val (Stat s)) = with_completed c x s
completed_by c x _ = c

-- a call that was answered
abbrev pub connector_called : Connector → Call → Value → Connector
connector_called c k answer = elim k.kind as (λ _. Connector) [
  | call.WdfRequestSend ↦ send_called c k answer
  | call.WdfRequestCancelSentRequest ↦ cancel_called c k answer
  | call.WdfIoTargetStop ↦ stop_called c k
  | call.WdfRequestComplete ↦ completed_by c (object_in k.a) k.b
  | _ ↦ c
]

-- a call that waits
abbrev pub connector_awaited : Connector → Call → Connector
connector_awaited c k = elim k.kind as (λ _. Connector) [
  | call.WdfIoTargetStop ↦ stop_called c k
  | _ ↦ c
]

-- the connector after an event
abbrev pub connector_after : Connector → Event → Connector
connector_after c (event.Did cpu k answer) = connector_called c k answer
connector_after c (event.Waiting cpu k) = connector_awaited c k
connector_after c (event.Posted agent p answer) = connector_posted c agent p answer
connector_after c (event.Complete r s) = with_completed c r.id.0 s
connector_after c _ = c

-- ---- what it posts

-- a request is done with a status
abbrev pub done_with : Forwarded → Status → Post
done_with f s = post.Done f.request s

-- own: of a request without an arrival: it is cancelled; there is no room for one more arrival; it arrives below
abbrev pub post_waiting : ℕ → Forwarded → Post
post_waiting room f =
    if f.cancelled then done_with f status.Cancelled
    else if room == 0 then done_with f status.InsufficientResources
    else f.post

-- own: of a request that arrived below: its cancel is passed on, once
abbrev pub post_below : Forwarded → ℕ → Bool → Option Post
post_below f number passed = if f.cancelled && not passed then Some (post.Cancel number) else None

-- own: the post that is due for a request. Its request below is completed, and it is done with that status. Its arrival was answered
-- `none`, and it is done with INVALID_DEVICE_STATE. It has no arrival, and is done or arrives. It is cancelled, and that is passed on.
abbrev pub post_of : ℕ → Forwarded → Option Post
post_of room f = elim f.descent as (λ _. Option Post) [
  | descent.Completed s ↦ Some (done_with f s)
  | descent.Refused ↦ Some (done_with f status.InvalidDeviceState)
  | descent.Waiting ↦ Some (post_waiting room f)
  | descent.Below lower number passed ↦ post_below f number passed
]

-- own: the post for the first request that has one, in the order of the sends
abbrev pub connector_due : Connector → Option Post
connector_due c = first_of_list (filter_map (post_of c.room) c.sent)
