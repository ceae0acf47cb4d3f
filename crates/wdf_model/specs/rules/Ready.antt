-- What may follow the events of a run, and how a run ends. (own)
use Rattle.std.specs.Prelude.{if◌then◌else◌, ℕ, ◌+◌, ◌-◌, Bool, false, nat_lt, nat_le, not, ◌&&◌, ◌||◌, List, [], ◌∷◌, length, filter, fold, Option, Some, None, is_some, option_and_then, slice_get}
use Rattle.std.specs.List.{list_any}
use Rattle.wdf_base.specs.Meaning.{Meaning}
use Rattle.wdf_base.specs.declared.plan.Plan.{Plan}
use Rattle.wdf_base.specs.declared.event.Event.{Event}
use Rattle.wdf_base.specs.declared.event.Event.TheVariants as event
use Rattle.wdf_base.specs.declared.event.Fault.{Fault}
use Rattle.wdf_base.specs.declared.event.Ending.{Ending}
use Rattle.wdf_base.specs.declared.event.Ending.TheVariants as ending
use Rattle.wdf_base.specs.declared.event.Post.{Post}
use Rattle.wdf_base.specs.declared.event.Post.TheVariants as post
use Rattle.wdf_base.specs.Lives.{is_asked, is_cleaned}
use Rattle.wdf_base.specs.Places.{is_done, is_sent}
use Rattle.wdf_model.specs.declared.entries.Request.{Request}
use Rattle.wdf_model.specs.Tables.{ids_of}
use Rattle.wdf_model.specs.Plans.{devices_of}
use Rattle.wdf_model.specs.parts.Tree.{life_of}
use Rattle.wdf_model.specs.parts.Cpus.{all_frames, frame_of}
use Rattle.wdf_model.specs.parts.Requests.{has_arrived, request_of}
use Rattle.wdf_model.specs.parts.Pnp.{busy, steps_left}
use Rattle.wdf_model.specs.parts.Deferred.Timers.{any_later_timer, timer_due}
use Rattle.wdf_model.specs.parts.Deferred.Dpcs.{is_dpc_queued}
use Rattle.wdf_model.specs.parts.Deferred.WorkItems.{is_work_queued}
use Rattle.wdf_model.specs.Runs.{IsRun, Picked}
use Rattle.wdf_model.specs.State.{State, opening}
use Rattle.wdf_model.specs.rules.Posts.{due_of}
use Rattle.wdf_model.specs.rules.Steps.{after, may, spends}
use Rattle.wdf_model.specs.rules.Groups.{candidates}

-- ---- what may follow

-- some frame spends
abbrev pub any_spends : {A : Type 0} → State A → Bool
any_spends S = list_any (λ f. spends S (frame_of S.cpus f)) (all_frames S.cpus)

-- something waits for time: a frame that spends, a timer for a later tick, or an agent with a later post
abbrev pub waits_for_time : {A : Type 0} → Meaning A → State A → Bool
waits_for_time m S = any_spends S || any_later_timer S.timers S.clock || list_any (λ a. is_some (m.next a)) S.agents

-- these events, or where there are none and something waits for time, the clock's next tick
abbrev pub or_tick : {A : Type 0} → Meaning A → State A → List Event → List Event
or_tick m S (e ∷ es) = e ∷ es
or_tick m S [] = if waits_for_time m S then event.Tick (S.clock + 1) ∷ [] else []

-- the candidates that may come, in their order
abbrev pub allowed : {A : Type 0} → Plan → Meaning A → State A → List Event
allowed plan m S = filter (may plan m S) (candidates plan m S)

-- what may follow in state S; nothing once there are as many events as the scenario's limit
abbrev pub ready_in : {A : Type 0} → Plan → Meaning A → State A → List Event
ready_in plan m S = if nat_lt S.number plan.limit then or_tick m S (allowed plan m S) else []

-- the fault that an event is, none for any other event
abbrev pub fault_in : Event → Option Fault
fault_in (event.Fault cpu x line) = Some x
fault_in _ = None

-- the fault that is the last event of a run, if it is one
abbrev pub last_fault : List Event → Option Fault
last_fault run = option_and_then fault_in (slice_get run (length run - 1))

-- these events, and none after a fault
abbrev pub unless_fault : Option Fault → List Event → List Event
unless_fault None es = es
unless_fault (Some x) es = []

-- the state after the events of a run, from its opening
unfoldable pub state_after : {A : Type 0} → Plan → Meaning A → List Event → State A
state_after plan m run = fold (after plan m) (opening plan m) run

-- what may follow the events of a run
unfoldable pub ready : {A : Type 0} → Plan → Meaning A → List Event → List Event
ready plan m run = unless_fault (last_fault run) (ready_in plan m (state_after plan m run))

-- a run of a plan: each event is in what may follow the events before it
abbrev pub IsRunOf : {A : Type 0} → Plan → Meaning A → List Event → Type 0
IsRunOf plan m run = IsRun (ready plan m) run

-- the run that picks determine, from the opening to where nothing may follow
abbrev pub IsPickedRun : {A : Type 0} → Plan → Meaning A → List ℕ → List Event → Type 0
IsPickedRun plan m picks run = Picked (ready plan m) picks [] run

-- ---- what is open

-- an arrived request that isn't done, or a made one that is sent
abbrev pub is_open_request : Request → Bool
is_open_request r = (has_arrived r && not (is_done r.place)) || (not (has_arrived r) && is_sent r.place)

-- the ids of the requests that are open, rising
abbrev pub open_requests : {A : Type 0} → State A → List ℕ
open_requests S = filter (λ r. is_open_request (request_of S.requests r)) (ids_of S.requests.all)

-- the ids of the devices with steps left, rising
abbrev pub open_devices : {A : Type 0} → Plan → State A → List ℕ
open_devices plan S = filter (λ d. nat_lt 0 (length (steps_left S.pnp d))) (devices_of plan)

-- the deletion of object o was asked, and it isn't gone yet
abbrev pub is_leaving : {A : Type 0} → State A → ℕ → Bool
is_leaving S o = is_asked (life_of S.tree o) || is_cleaned (life_of S.tree o)

-- the ids of the objects that are on their way out, rising
abbrev pub open_objects : {A : Type 0} → State A → List ℕ
open_objects S = filter (is_leaving S) (ids_of S.tree.nodes)

-- o is a queued DPC or work item, or a timer whose tick is reached
abbrev pub is_open_work : {A : Type 0} → State A → ℕ → Bool
is_open_work S o = is_dpc_queued S.dpcs o || is_work_queued S.work_items o || timer_due S.timers o S.clock

-- the ids of the deferred work that waits to run, rising
abbrev pub open_work : {A : Type 0} → State A → List ℕ
open_work S = filter (is_open_work S) (ids_of S.tree.nodes)

-- a post that is due and can't come: the Plug and Play manager asks, and the device has a sequence under way
abbrev pub is_open_post : {A : Type 0} → State A → Option Post → Bool
is_open_post S (Some (post.Ask a device)) = busy S.pnp device.id.0
is_open_post S _ = false

-- something is open: a frame, a request, a device, an object, deferred work, or a post of agent 0, the Plug and
-- Play manager
abbrev pub is_open : {A : Type 0} → Plan → Meaning A → State A → Bool
is_open plan m S =
    nat_lt 0 (length (all_frames S.cpus)) || nat_lt 0 (length (open_requests S)) || nat_lt 0 (length (open_devices plan S))
    || nat_lt 0 (length (open_objects S)) || nat_lt 0 (length (open_work S)) || is_open_post S (due_of m S 0)

-- ---- endings

-- how a run ends whose last event is no fault, where nothing may follow: the limit, then something open, else
-- finished
abbrev pub ending_without_fault : {A : Type 0} → Plan → Meaning A → State A → Ending
ending_without_fault plan m S =
    if nat_le plan.limit S.number then ending.Limit else if is_open plan m S then ending.Stuck else ending.Finished

-- how a run ends where nothing may follow; a fault x counts first
abbrev pub final_ending : {A : Type 0} → Plan → Meaning A → State A → Option Fault → Ending
final_ending plan m S (Some x) = ending.Fault x
final_ending plan m S None = ending_without_fault plan m S

-- a run goes on where something may follow
abbrev pub ending_by : {A : Type 0} → Plan → Meaning A → State A → Option Fault → List Event → Ending
ending_by plan m S x (e ∷ es) = ending.Running
ending_by plan m S x [] = final_ending plan m S x

-- how a run ends, or that it goes on
unfoldable pub ending_of : {A : Type 0} → Plan → Meaning A → List Event → Ending
ending_of plan m run = ending_by plan m (state_after plan m run) (last_fault run) (ready plan m run)
