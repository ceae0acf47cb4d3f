-- What the events of a run say of the requests that are sent to a simulated target, and which agents are such targets.
use Rattle.std.specs.Prelude.{if◌then◌else◌, ◌≡◌, ◌<◌, ◌≤◌, ℕ, ◌+◌, ◌==◌, Bool, false, ◌&&◌, List, ◌∷◌, ◌++◌, length, Option, Some, None, is_some, option_map, unwrap_or}
use Rattle.std.specs.List.{list_any}
use Rattle.wdf_base.specs.Meaning.{Meaning}
use Rattle.wdf_base.specs.Same.{same_value}
use Rattle.wdf_base.specs.declared.call.Call.{Call}
use Rattle.wdf_base.specs.declared.call.CallKind.TheVariants as call
use Rattle.wdf_base.specs.declared.event.Event.{Event}
use Rattle.wdf_base.specs.declared.event.Event.TheVariants as event
use Rattle.wdf_base.specs.declared.event.Post.TheVariants as post
use Rattle.wdf_base.specs.declared.ids.Handle.{Handle}
use Rattle.wdf_base.specs.declared.plan.Plan.{Plan}
use Rattle.wdf_base.specs.declared.value.Status.{Status}
use Rattle.wdf_base.specs.declared.value.Status.TheVariants as status
use Rattle.wdf_base.specs.declared.value.Value.{Value}
use Rattle.wdf_base.specs.declared.value.Value.TheVariants.{Num}
use Rattle.wdf_model.specs.Plans.{target_of, target_of_agent}
use Rattle.wdf_model.specs.State.{object_in}
use Rattle.wdf_model.specs.agents.LowerTarget.{LowerTarget, handle_in_arg, target_after, target_at, target_due}
use Rattle.wdf_base.specs.Values.{arg_is}
use Rattle.law_idle.specs.Idling.{time_after}
use Rattle.law_stack.specs.Words.{stops_all}

-- ---- what one event says

-- the request that a call sends to target t
abbrev pub sent_by_call : ℕ → Call → Value → Option Handle
sent_by_call t c answer = elim c.kind as (λ _. Option Handle) [
  -- KMDF: WdfRequestSend answers 1 where the request is sent
  | call.WdfRequestSend ↦ if object_in c.b == t && same_value answer (Num 1) then handle_in_arg c.a else None
  | _ ↦ None
]

-- the request that an event sends to target t, if it sends one
abbrev pub sent_to : ℕ → Event → Option Handle
sent_to t (event.Did cpu c answer) = sent_by_call t c answer
sent_to t _ = None

-- an event sends a request to target t
abbrev pub sends : ℕ → Event → Bool
sends t e = is_some (sent_to t e)

-- own: the agent with number k is done with a request
abbrev pub is_done_by : ℕ → Event → Bool
is_done_by k (event.Posted agent (post.Done q s) answer) = agent == k
is_done_by k _ = false

-- own: the target that has request r is done with it
abbrev pub finishes : ℕ → Event → Bool
finishes r (event.Posted agent (post.Done q s) answer) = r == q.id.0
finishes r _ = false

-- a call cancels request r, which is at target t
abbrev pub cancelled_by_call : ℕ → ℕ → Call → Value → Bool
cancelled_by_call t r c answer = elim c.kind as (λ _. Bool) [
  -- KMDF: the driver cancels the request that it sent, and the call answers 1
  | call.WdfRequestCancelSentRequest ↦ same_value answer (Num 1) && r == object_in c.a
  -- KMDF: the driver stops the target with action 0, which cancels what was sent to it
  | call.WdfIoTargetStop ↦ object_in c.a == t && arg_is c.b 0
  | _ ↦ false
]

-- an event cancels request r, which is at target t: one row for each event that may
abbrev pub cancels : ℕ → ℕ → Event → Bool
cancels t r (event.Did cpu c answer) = cancelled_by_call t r c answer
-- KMDF: a stop with action 0 cancels as it begins to wait
cancels t r (event.Waiting cpu c) = stops_all t c
-- own: an app's cancel reaches the request
cancels t r (event.Posted agent (post.Cancel k) (Some q)) = r == q.id.0
cancels t r _ = false

-- ---- what the events say of a request at a target

-- Request h is at target t after these events. They are those before its send, the send, and those since; by none of the
-- last a target is done with it.
pub record IsAt (t : ℕ) (h : Handle) (events : List Event) : Type 0 where
  pub before : List Event
  pub send : Event
  pub since : List Event
  pub parts : events ≡ before ++ send ∷ since
  pub sent : sent_to t send ≡ Some h
  pub undone : list_any (finishes h.id.0) since ≡ false

-- it is to be cancelled: an event since its send cancels it
abbrev pub is_told : ℕ → ℕ → List Event → Bool
is_told t r since = list_any (cancels t r) since

-- the delay of target t, as the scenario declares it
abbrev pub delay_of : Plan → ℕ → ℕ
delay_of plan t = unwrap_or (option_map (λ i. i.delay) (target_of plan t)) 0

-- the most requests that target t keeps, as the scenario declares it
abbrev pub depth_of : Plan → ℕ → ℕ
depth_of plan t = unwrap_or (option_map (λ i. i.depth) (target_of plan t)) 0

-- the status with which target t is done with a request, as the scenario declares it
abbrev pub status_of : Plan → ℕ → Status
status_of plan t = unwrap_or (option_map (λ i. i.status) (target_of plan t)) status.Success

-- A request that is at target t isn't due: it isn't to be cancelled, and the delay since its send isn't over.
pub record IsNotDue (plan : Plan) (t : ℕ) (h : Handle) (events : List Event) (it : IsAt t h events) : Type 0 where
  pub fresh : is_told t h.id.0 it.since ≡ false
  pub early : time_after events < time_after it.before + delay_of plan t

-- After these events target t may be done with request h, with status s.
pub record MayBeDone (plan : Plan) (t : ℕ) (h : Handle) (s : Status) (events : List Event) : Type 0 where
  -- it was sent to the target, which wasn't done with it since
  pub it : IsAt t h events
  -- own: the status is CANCELLED where the request is to be cancelled, else the target's
  pub status : s ≡ (if is_told t h.id.0 it.since then status.Cancelled else status_of plan t)
  -- own: the target's delay since the send is over, unless the request is to be cancelled
  pub delay : is_told t h.id.0 it.since ≡ false → time_after it.before + delay_of plan t ≤ time_after events
  -- own: what was sent to the target earlier, and is there, isn't due
  pub order : (q : Handle) (other : IsAt t q events) → length other.before < length it.before → IsNotDue plan t q events other
  -- own: unless the request is to be cancelled, it overtakes none: nothing that was sent to the target earlier is there
  pub overtakes : is_told t h.id.0 it.since ≡ false → (q : Handle) (other : IsAt t q events) → length it.before ≤ length other.before

-- ---- which agents are targets

-- The agent with number k is the simulated target t of the plan, whatever type the agents have: it begins as that, hears of
-- events as that does, and posts what that does.
pub record IsTargetAgent {A : Type 0} (plan : Plan) (m : Meaning A) (k t : ℕ) : Type 0 where
  pub number : target_of_agent plan k ≡ Some t
  pub seen : A → Option LowerTarget
  pub begins : seen (m.begin plan k) ≡ Some (target_at plan t k)
  pub hears : (a : A) (u : LowerTarget) (e : Event) → seen a ≡ Some u → seen (m.fold a e) ≡ Some (target_after u e)
  pub posts : (a : A) (u : LowerTarget) → seen a ≡ Some u → m.due a ≡ target_due u
