-- Posts of agents: which may come, what they answer, and what they do.
use Rattle.std.specs.Prelude.{if◌then◌else◌, ℕ, ◌+◌, Bool, true, false, ◌==◌, nat_lt, not, ◌&&◌, ◌||◌, List, [], ◌∷◌, Option, Some, None, option_map, option_and_then, slice_get}
use Rattle.wdf_base.specs.Meaning.{Meaning}
use Rattle.wdf_base.specs.declared.plan.Plan.{Plan}
use Rattle.wdf_base.specs.declared.ids.Handle.{Handle}
use Rattle.wdf_base.specs.declared.value.Status.TheVariants as status
use Rattle.wdf_base.specs.declared.object.Kind.TheVariants as kind
use Rattle.wdf_base.specs.declared.object.Mark.TheVariants as mark
use Rattle.wdf_base.specs.declared.object.Place.{Place}
use Rattle.wdf_base.specs.declared.object.Place.TheVariants as place
use Rattle.wdf_base.specs.declared.object.RequestForm.{RequestForm}
use Rattle.wdf_base.specs.declared.object.RequestForm.TheVariants as form
use Rattle.wdf_base.specs.declared.object.RequestInfo.{RequestInfo}
use Rattle.wdf_base.specs.declared.declared.QueueInfo.{QueueInfo}
use Rattle.wdf_base.specs.declared.event.Post.{Post}
use Rattle.wdf_base.specs.declared.event.Post.TheVariants as post
use Rattle.wdf_base.specs.Same.{same_handle, same_option, same_post}
use Rattle.wdf_base.specs.Resolved.{is_handle, action_fits}
use Rattle.wdf_base.specs.Lives.{is_live}
use Rattle.wdf_base.specs.Places.{is_closing, is_done, is_sent_to}
use Rattle.wdf_model.specs.Tables.{entry}
use Rattle.wdf_model.specs.Plans.{device_of_agent, target_of_agent, has_handler, is_manual_queue, queue_for, queue_of}
use Rattle.wdf_model.specs.parts.Tree.{life_of, next_id}
use Rattle.wdf_model.specs.parts.Requests.{arrival_of, place_of}
use Rattle.wdf_model.specs.parts.Control.{accepts}
use Rattle.wdf_model.specs.parts.Pnp.{busy}
use Rattle.wdf_model.specs.parts.Targets.{is_undone}
use Rattle.wdf_model.specs.State.{State, handle_in, is_proper}
use Rattle.wdf_model.specs.Ids.{object_id}
use Rattle.wdf_model.specs.declared.deed.Deed.{Deed}
use Rattle.wdf_model.specs.declared.deed.Deed.TheVariants.{Arrive, CountArrival, Withdraw, CancelRequest, FinishSending, AskDevice}

-- ---- arrivals

-- the most requests that arrive in one run; afterwards no post that would bring one may come (own)
abbrev pub ARRIVALS : ℕ
ARRIVALS = 4096

-- a read or a write: a length of 0 matters to these alone (KMDF)
abbrev pub is_data : RequestForm → Bool
is_data form.Read = true
is_data form.Write = true
is_data form.Control = false

-- a queue takes reads and writes of length 0, as its line `zero` says; no where there is no queue
abbrev pub takes_empty : Option QueueInfo → Bool
takes_empty None = false
takes_empty (Some q) = q.zero

-- the place of a request of form f and this length, in bytes, that arrives for queue q: the first case that holds
-- (KMDF)
abbrev pub place_in_queue : {A : Type 0} → Plan → State A → RequestForm → ℕ → ℕ → Place
place_in_queue plan S f length q =
    if not (accepts S.control q) then place.Closing status.InvalidDeviceState
    else if is_data f && length == 0 && not (takes_empty (queue_of plan q)) then place.Closing status.Success
    else if not (is_manual_queue plan q || has_handler plan q f) then place.Closing status.InvalidDeviceRequest
    else place.Queued (record { 0 = q })

-- its place where its queue may be none: a request for which there is no queue is closing with
-- INVALID_DEVICE_REQUEST (KMDF)
abbrev pub place_if_any : {A : Type 0} → Plan → State A → RequestForm → ℕ → Option ℕ → Place
place_if_any plan S f length None = place.Closing status.InvalidDeviceRequest
place_if_any plan S f length (Some q) = place_in_queue plan S f length q

-- its place at a device: its queue is the one that serves its form there, else the default queue (KMDF)
abbrev pub arrival_place : {A : Type 0} → Plan → State A → RequestForm → ℕ → ℕ → Place
arrival_place plan S f length device = place_if_any plan S f length (queue_for plan device f)

-- what a request that arrives carries: where it came to, what it asks for, and who asks. Arrivals are numbered for
-- each agent from 1. (own)
abbrev pub arrival_info : {A : Type 0} → State A → ℕ → RequestForm → ℕ → ℕ → ℕ → RequestInfo
arrival_info S agent f length code device = record {
  device = record { 0 = device };
  form = f;
  length = length;
  code = code;
  origin = None;
  agent = agent;
  arrival = entry 0 S.arrivals agent + 1;
  mark = mark.Unmarked;
  cancelled = false;
  received = false;
}

-- the handle of the request that arrives next: the next id, and the name that prints as `req`
abbrev pub arriving : {A : Type 0} → State A → Handle
arriving S = record { id = record { 0 = next_id S.tree }; name = 1 }

-- the request that a post brings to a device; none where the device isn't live, and then no request is made (own)
abbrev pub arrival_answer : {A : Type 0} → State A → ℕ → Option Handle
arrival_answer S device = if is_live (life_of S.tree device) then Some (arriving S) else None

-- what such a post does: it is counted as an arrival of its agent, and a live device gets a request
abbrev pub arrival_deeds : {A : Type 0} → Plan → State A → ℕ → RequestForm → ℕ → ℕ → ℕ → List Deed
arrival_deeds plan S agent f length code device =
    CountArrival agent
    ∷ (if is_live (life_of S.tree device) then Arrive (object_id device) (arrival_info S agent f length code device) (arrival_place plan S f length device) ∷ [] else [])

-- ---- cancels

-- request r, if a cancel still reaches it: one that is completed, or is about to be, is out of reach (KMDF)
abbrev pub in_reach : {A : Type 0} → State A → ℕ → Option ℕ
in_reach S r = if is_done (place_of S.requests r) || is_closing (place_of S.requests r) then None else Some r

-- the request that a cancel with the number k reaches: that of the agent's k-th arrival. None where that made no
-- request, or it is out of reach. (own)
abbrev pub cancel_reaches : {A : Type 0} → State A → ℕ → ℕ → Option ℕ
cancel_reaches S agent k = option_and_then (in_reach S) (arrival_of S.requests agent k)

-- a waiting request r is cancelled in its queue; any other is noted as cancelled, and if it is marked its cancel is
-- due (KMDF)
abbrev pub cancel_at : Place → ℕ → List Deed
cancel_at (place.Queued q) r = Withdraw q (object_id r) ∷ []
cancel_at _ r = CancelRequest (object_id r) ∷ []

-- what a cancel does; nothing where it reaches no request
abbrev pub cancel_deeds : {A : Type 0} → State A → Option ℕ → List Deed
cancel_deeds S None = []
cancel_deeds S (Some r) = cancel_at (place_of S.requests r) r

-- ---- the tables

-- what post p of an agent answers: the request that arrives, or that is cancelled; none for other posts
abbrev pub post_answer : {A : Type 0} → Plan → State A → ℕ → Post → Option Handle
-- the request that arrives
post_answer plan S agent (post.Read device length) = arrival_answer S device.id.0
-- the same
post_answer plan S agent (post.Write device length) = arrival_answer S device.id.0
-- the same
post_answer plan S agent (post.Control device code length) = arrival_answer S device.id.0
-- the request that is cancelled, if there is one
post_answer plan S agent (post.Cancel k) = option_map (handle_in plan S) (cancel_reaches S agent k)
-- these three answer nothing
post_answer plan S agent (post.Ask a device) = None
post_answer plan S agent (post.Act action) = None
post_answer plan S agent (post.Done request s) = None

-- what post p of an agent does
abbrev pub post_deeds : {A : Type 0} → Plan → State A → ℕ → Post → List Deed
-- KMDF: a request arrives
post_deeds plan S agent (post.Read device length) = arrival_deeds plan S agent form.Read length 0 device.id.0
-- KMDF: a request arrives
post_deeds plan S agent (post.Write device length) = arrival_deeds plan S agent form.Write length 0 device.id.0
-- KMDF: a request arrives
post_deeds plan S agent (post.Control device code length) = arrival_deeds plan S agent form.Control length code device.id.0
-- KMDF: it is cancelled
post_deeds plan S agent (post.Cancel k) = cancel_deeds S (cancel_reaches S agent k)
-- own: a list of steps begins
post_deeds plan S agent (post.Ask a device) = AskDevice device.id a ∷ []
-- own: what a device does is its agent's
post_deeds plan S agent (post.Act action) = []
-- own: the target is done with it
post_deeds plan S agent (post.Done request s) = FinishSending request.id s ∷ []

-- a request may arrive: `device` is the handle of a declared device, and the run's arrivals aren't used up (own)
abbrev pub may_arrive : {A : Type 0} → Plan → State A → Handle → Bool
may_arrive plan S device = is_handle plan kind.Device device && nat_lt S.requests.arrived ARRIVALS

-- an agent may be done with a request: it is the agent of target t, the request is sent to t, and t isn't done with
-- it yet (own)
abbrev pub may_finish : {A : Type 0} → Plan → State A → Option ℕ → Handle → Bool
may_finish plan S None request = false
may_finish plan S (Some t) request = is_proper plan S request && is_sent_to t (place_of S.requests request.id.0) && is_undone S.targets request.id.0

-- post p is one that this agent may make at all, and the handles in it are proper. Agent 0 is the Plug and Play
-- manager. (own)
abbrev pub post_fits : {A : Type 0} → Plan → State A → ℕ → Post → Bool
-- own: any agent posts requests, and cancels of its own
post_fits plan S agent (post.Read device length) = may_arrive plan S device
post_fits plan S agent (post.Write device length) = may_arrive plan S device
post_fits plan S agent (post.Control device code length) = may_arrive plan S device
post_fits plan S agent (post.Cancel k) = true
-- own: the Plug and Play manager asks while the device has no step left and no running device callback
post_fits plan S agent (post.Ask a device) = agent == 0 && is_handle plan kind.Device device && not (busy S.pnp device.id.0)
-- own: a device acts on its own registers and level lines
post_fits plan S agent (post.Act action) = action_fits plan (device_of_agent plan agent) action
-- own: a target is done with what is sent to it
post_fits plan S agent (post.Done request s) = may_finish plan S (target_of_agent plan agent) request

-- the post that an agent has due in this state, none where it has none or there is no such agent
abbrev pub due_of : {A : Type 0} → Meaning A → State A → ℕ → Option Post
due_of m S agent = option_and_then m.due (slice_get S.agents agent)

-- post p of an agent may come with this answer: it is what the agent has due, it fits, and the answer is the right
-- one (own)
abbrev pub may_post : {A : Type 0} → Plan → Meaning A → State A → ℕ → Post → Option Handle → Bool
may_post plan m S agent p answer =
    same_option same_post (due_of m S agent) (Some p) && post_fits plan S agent p && same_option same_handle (post_answer plan S agent p) answer
