-- What the events of a run say of what is sent down a stack of devices: words over a list of events, without a state. (own)
use Rattle.std.specs.Prelude.{if◌then◌else◌, ℕ, Bool, true, false, ◌==◌, nat_le, not, ◌&&◌, List, [], ◌∷◌, ◌++◌, filter, fold, map, Option, Some, None, is_some, option_map, option_and_then, unwrap_or}
use Rattle.wdf_base.specs.declared.plan.Plan.{Plan}
use Rattle.wdf_base.specs.declared.ids.Handle.{Handle}
use Rattle.wdf_base.specs.declared.value.Value.{Value}
use Rattle.wdf_base.specs.declared.value.Status.{Status}
use Rattle.wdf_base.specs.declared.value.Value.TheVariants.{Num, Stat}
use Rattle.wdf_base.specs.declared.call.Arg.{Arg}
use Rattle.wdf_base.specs.declared.call.Arg.TheVariants.{Val}
use Rattle.wdf_base.specs.declared.call.Call.{Call}
use Rattle.wdf_base.specs.declared.call.CallKind.TheVariants as call
use Rattle.wdf_base.specs.declared.declared.DeviceInfo.{DeviceInfo}
use Rattle.wdf_base.specs.declared.event.Post.{Post}
use Rattle.wdf_base.specs.declared.event.Post.TheVariants as post
use Rattle.wdf_base.specs.declared.event.Stage.{Stage}
use Rattle.wdf_base.specs.declared.event.Stage.TheVariants as stage
use Rattle.wdf_base.specs.declared.event.Event.{Event}
use Rattle.wdf_base.specs.declared.event.Event.TheVariants as event
use Rattle.wdf_base.specs.Same.{same_call_kind, same_status, same_value}
use Rattle.wdf_base.specs.Posts.{is_request}
use Rattle.wdf_model.specs.Plans.{device_of, first_device_agent, target_of_agent}
use Rattle.wdf_model.specs.State.{object_in}
use Rattle.wdf_base.specs.Values.{arg_is}
use Rattle.wdf_model.specs.agents.Chains.{connected_to}
use Rattle.wdf_laws.specs.Events.{argument_object, id_in}

-- ---- connectors

-- a target that is connected
abbrev pub if_connected : Plan → ℕ → Option ℕ
if_connected plan t = if is_some (connected_to plan t) then Some t else None

-- the connected target whose agent this is, none for another agent
abbrev pub connector_of : Plan → ℕ → Option ℕ
connector_of plan agent = option_and_then (if_connected plan) (target_of_agent plan agent)

-- ---- what is sent to a target

-- A Send to a target that answered 1, and what came of it.
pub record Passing : Type 0 where
  -- the request that was sent
  pub request : ℕ
  -- whether it was cancelled since
  pub cancelled : Bool
  -- the answer of the arrival that belongs to it, if one does: the request at the device below, or none
  pub arrival : Option (Option ℕ)

-- no arrival belongs to a Send
abbrev pub has_no_arrival : Passing → Bool
has_no_arrival s = elim s.arrival as (λ _. Bool) [
  | None ↦ true
  | Some answer ↦ false
]

-- a Send
abbrev pub sent_now : ℕ → Passing
sent_now r = record { request = r; cancelled = false; arrival = None }

-- one more Send, where a request is named
abbrev pub with_send : Option ℕ → List Passing → List Passing
with_send None ss = ss
with_send (Some r) ss = ss ++ sent_now r ∷ []

-- a Send whose request is cancelled
abbrev pub cancelled_if : (ℕ → Bool) → Passing → Passing
cancelled_if named s = if named s.request then record s { cancelled = true } else s

-- the Sends, some cancelled
abbrev pub with_cancel : (ℕ → Bool) → List Passing → List Passing
with_cancel named ss = map (cancelled_if named) ss

-- the first Send without an arrival has one
abbrev pub with_arrival : Option ℕ → List Passing → List Passing
with_arrival answer [] = []
with_arrival answer (s ∷ ss) = if has_no_arrival s then record s { arrival = Some answer } ∷ ss else s ∷ with_arrival answer ss

-- a Send of a request that is done is over
abbrev pub without_done : ℕ → List Passing → List Passing
without_done r ss = filter (λ s. not (s.request == r)) ss

-- a call is WdfIoTargetStop of this target with 0
abbrev pub stops_all : ℕ → Call → Bool
stops_all t c = same_call_kind c.kind call.WdfIoTargetStop && object_in c.a == t && arg_is c.b 0

-- a call that was answered: a Send to the target that answers 1, a cancel of a sent request that answers 1, a stop that cancels
abbrev pub passing_called : ℕ → List Passing → Call → Value → List Passing
passing_called t ss c answer = elim c.kind as (λ _. List Passing) [
  | call.WdfRequestSend ↦ if object_in c.b == t && same_value answer (Num 1) then with_send (argument_object c.a) ss else ss
  | call.WdfRequestCancelSentRequest ↦ if same_value answer (Num 1) then with_cancel (λ r. r == object_in c.a) ss else ss
  | call.WdfIoTargetStop ↦ if object_in c.a == t && arg_is c.b 0 then with_cancel (λ r. true) ss else ss
  | _ ↦ ss
]

-- a call that waits: a stop that cancels
abbrev pub passing_awaited : ℕ → List Passing → Call → List Passing
passing_awaited t ss c = if stops_all t c then with_cancel (λ r. true) ss else ss

-- an arrival by the target's agent belongs to the first Send that has none
abbrev pub passing_arrived : ℕ → ℕ → List Passing → Option Handle → List Passing
passing_arrived agent by ss answer = if by == agent then with_arrival (id_in answer) ss else ss

-- a cancel that reaches a request
abbrev pub passing_cancelled : List Passing → Option Handle → List Passing
passing_cancelled ss None = ss
passing_cancelled ss (Some r) = with_cancel (λ x. x == r.id.0) ss

-- an agent posts
abbrev pub passing_posted : ℕ → ℕ → List Passing → Post → Option Handle → List Passing
passing_posted agent by ss (post.Read device length) answer = passing_arrived agent by ss answer
passing_posted agent by ss (post.Write device length) answer = passing_arrived agent by ss answer
passing_posted agent by ss (post.Control device code length) answer = passing_arrived agent by ss answer
passing_posted agent by ss (post.Cancel k) answer = passing_cancelled ss answer
passing_posted agent by ss (post.Done r s) answer = without_done r.id.0 ss
passing_posted agent by ss _ answer = ss

-- one event more
abbrev pub passing_step : ℕ → ℕ → List Passing → Event → List Passing
passing_step t agent ss (event.Did cpu c answer) = passing_called t ss c answer
passing_step t agent ss (event.Waiting cpu c) = passing_awaited t ss c
passing_step t agent ss (event.Posted by p answer) = passing_posted agent by ss p answer
passing_step t agent ss _ = ss

-- The Sends to a target that answered 1 and whose requests weren't done since, in their order. To each belongs the arrival by the
-- target's agent that came while it was the first without one.
unfoldable pub passings : ℕ → ℕ → List Event → List Passing
passings t agent events = fold (passing_step t agent) [] events

-- ---- completions, arrivals of connectors

-- a status as an argument
abbrev pub is_status : Status → Arg → Bool
is_status s (Val (Stat x)) = same_status x s
is_status s _ = false

-- an event completes a request with a status: the driver's call, or the framework
abbrev pub completes_with : ℕ → Status → Event → Bool
completes_with r s (event.Did cpu c answer) = same_call_kind c.kind call.WdfRequestComplete && object_in c.a == r && is_status s c.b
completes_with r s (event.Complete request x) = request.id.0 == r && same_status x s
completes_with r s _ = false

-- a read, a write or a control by an agent after the apps, and so by a connector
abbrev pub is_connector_arrival : Plan → Event → Bool
is_connector_arrival plan (event.Posted agent p answer) = is_request p && nat_le (first_device_agent plan) agent
is_connector_arrival plan _ = false

-- ---- devices

-- a stage after which a device is Working, or Sleeping or Removed
abbrev pub works_after : Stage → Bool → Bool
works_after stage.Working was = true
works_after stage.Sleeping was = false
works_after stage.Removed was = false
works_after _ was = was

-- one event more
abbrev pub works_step : ℕ → Bool → Event → Bool
works_step d was (event.Stage device s i) = if device.id.0 == d then works_after s was else was
works_step d was _ = was

-- a device that works at the opening
abbrev pub works_at_opening : Option DeviceInfo → Bool
works_at_opening device = unwrap_or (option_map (λ (i : DeviceInfo). i.working) device) false

-- a device is Working, by the last of its stages `working`, `sleeping` and `removed`, or by the opening
unfoldable pub works : Plan → ℕ → List Event → Bool
works plan d events = fold (works_step d) (works_at_opening (device_of plan d)) events
