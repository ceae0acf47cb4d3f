-- The state of the machine: a part for each piece of the framework, the agents, and counts; its
-- opening; and the words that read several parts.
use Rattle.std.specs.Prelude.{if◌then◌else◌, ℕ, Bool, true, false, ◌==◌, not, ◌&&◌, ◌||◌, List, [], map, filter, Option, Some, None, is_some}
use Rattle.std.specs.List.{list_any, range_with_len}
use Rattle.wdf_base.specs.Meaning.{Meaning}
use Rattle.wdf_base.specs.declared.plan.Plan.{Plan}
use Rattle.wdf_base.specs.declared.ids.Handle.{Handle}
use Rattle.wdf_base.specs.declared.value.Status.TheVariants as status
use Rattle.wdf_base.specs.declared.value.Value.TheVariants.{Num, Obj, Stat}
use Rattle.wdf_base.specs.declared.object.Place.{Place}
use Rattle.wdf_base.specs.declared.object.Place.TheVariants as place
use Rattle.wdf_base.specs.declared.call.Arg.{Arg}
use Rattle.wdf_base.specs.declared.call.Arg.TheVariants.{Val, Class}
use Rattle.wdf_base.specs.declared.call.Callback.{Callback}
use Rattle.wdf_base.specs.declared.call.Callback.TheVariants as callback
use Rattle.wdf_base.specs.declared.frame.Pending.{Pending}
use Rattle.wdf_base.specs.declared.declared.Declared.{Declared}
use Rattle.wdf_base.specs.Places.{is_sent_to}
use Rattle.wdf_model.specs.declared.entries.Request.{Request}
use Rattle.wdf_model.specs.Tables.{ids_of, same_id}
use Rattle.wdf_model.specs.Plans.{agent_count, device_of_queue, declares, is_managed, script_on}
use Rattle.wdf_model.specs.parts.Tree.{Tree, opening_tree, declared_as, handle_of}
use Rattle.wdf_model.specs.parts.Cpus.{Cpus, opening_cpus, frame_of, all_frames}
use Rattle.wdf_model.specs.parts.Locks.{Locks, no_locks, object_lock, is_free_lock}
use Rattle.wdf_model.specs.parts.Requests.{Requests, no_requests, place_of, info_of, origin_of}
use Rattle.wdf_model.specs.parts.Queues.{Queues, opening_queues}
use Rattle.wdf_model.specs.parts.Control.{Control, opening_control, delivers, is_closed}
use Rattle.wdf_model.specs.parts.Power.{Power, opening_power, queues_up}
use Rattle.wdf_model.specs.parts.Pnp.{Pnp, opening_pnp}
use Rattle.wdf_model.specs.parts.Interrupts.{Interrupts, no_interrupts}
use Rattle.wdf_model.specs.parts.Deferred.Dpcs.{Dpcs, opening_dpcs}
use Rattle.wdf_model.specs.parts.Deferred.WorkItems.{WorkItems, no_work_items}
use Rattle.wdf_model.specs.parts.Deferred.Timers.{Timers, no_timers}
use Rattle.wdf_model.specs.parts.Targets.{Targets, opening_targets, is_forgotten}

-- the whole state between two events; A is the type of what is kept of an agent
pub record State (A : Type 0) : Type 0 where
  pub tree : Tree
  pub cpus : Cpus
  pub locks : Locks
  pub requests : Requests
  pub queues : Queues
  pub control : Control
  pub power : Power
  pub pnp : Pnp
  pub interrupts : Interrupts
  pub dpcs : Dpcs
  pub work_items : WorkItems
  pub timers : Timers
  pub targets : Targets
  -- the state of each agent, by number
  pub agents : List A
  -- how many arrivals each agent has posted, those without a request among them
  pub arrivals : List ℕ
  -- the tick
  pub clock : ℕ
  -- how many events there were
  pub number : ℕ

-- the agents, by number, as they are at the opening of the plan's run; m says what an agent is
abbrev pub opening_agents : {A : Type 0} → Plan → Meaning A → List A
opening_agents plan m = map (m.begin plan) (range_with_len 0 (agent_count plan))

-- own: the state before the first event. What is declared lives, what the text calls working has power, and nothing
-- runs or waits.
abbrev pub opening : {A : Type 0} → Plan → Meaning A → State A
opening plan m = record {
  tree = opening_tree plan;
  cpus = opening_cpus plan;
  locks = no_locks;
  requests = no_requests;
  queues = opening_queues plan;
  control = opening_control plan;
  power = opening_power plan;
  pnp = opening_pnp plan;
  interrupts = no_interrupts;
  dpcs = opening_dpcs plan;
  work_items = no_work_items;
  timers = no_timers;
  targets = opening_targets plan;
  agents = opening_agents plan m;
  arrivals = [];
  clock = 0;
  number = 0;
}

-- ---- requests and queues

-- whether the driver holds a request at this place: it is Owned, or Sent and will come back; `forgotten` says that it
-- was sent with SendAndForget (KMDF)
abbrev pub held_at : Bool → Place → Bool
held_at forgotten place.Owned = true
held_at forgotten (place.Sent t) = not forgotten
held_at forgotten _ = false

-- whether the driver holds request r, by the requests' places and what the targets say is forgotten (KMDF)
abbrev pub is_with_driver_by : Requests → Targets → ℕ → Bool
is_with_driver_by R targets r = held_at (is_forgotten targets r) (place_of R r)

-- whether the driver holds request r, wherever it came from; of an id that is no request it is false (KMDF)
abbrev pub is_with_driver : {A : Type 0} → State A → ℕ → Bool
is_with_driver S r = is_with_driver_by S.requests S.targets r

-- whether the driver holds request r, and queue q is the one from which r last became Owned (KMDF)
abbrev pub is_held_from : {A : Type 0} → State A → ℕ → ℕ → Bool
is_held_from S q r = same_id (origin_of S.requests r) q && is_with_driver S r

-- the requests from queue q that the driver holds, by rising id
abbrev pub held_from : {A : Type 0} → State A → ℕ → List ℕ
held_from S q = filter (is_held_from S q) (ids_of S.requests.all)

-- whether the device of queue q has its queues up
abbrev pub up_for : {A : Type 0} → Plan → State A → ℕ → Bool
up_for plan S q = queues_up S.power (device_of_queue plan q)

-- KMDF: queue q has power where it isn't power-managed, or its device's queues are up
abbrev pub is_powered : {A : Type 0} → Plan → State A → ℕ → Bool
is_powered plan S q = not (is_managed plan q) || up_for plan S q

-- whether queue q delivers, by its mode and by power (KMDF)
abbrev pub queue_delivers : {A : Type 0} → Plan → State A → ℕ → Bool
queue_delivers plan S q = delivers S.control q (is_powered plan S q)

-- whether a received request that is cancelled in queue q goes back to the driver, by EvtIoCanceledOnQueue: not where
-- the device is closed or the queue has no power (KMDF)
abbrev pub returns_to : {A : Type 0} → Plan → State A → ℕ → Bool
returns_to plan S q =
    declares plan callback.EvtIoCanceledOnQueue q && not (is_closed S.control (device_of_queue plan q)) && is_powered plan S q

-- where request r goes that is cancelled in queue q: back to the driver, else it is completed by the framework with
-- CANCELLED (KMDF)
abbrev pub withdrawn_place : {A : Type 0} → Plan → State A → ℕ → ℕ → Place
withdrawn_place plan S q r =
    if (info_of S.requests r).received && returns_to plan S q then place.Returning (record { 0 = q }) else place.Closing status.Cancelled

-- whether no request, arrived or made, is Sent to target t
abbrev pub nothing_at : {A : Type 0} → State A → ℕ → Bool
nothing_at S t = not (list_any (λ (r : Request). is_sent_to t r.place) S.requests.all)

-- ---- frames

-- the id of the object that an argument names, 0 for a number, a status or a class
abbrev pub object_in : Arg → ℕ
object_in (Val (Obj h)) = h.id.0
object_in (Val (Num n)) = 0
object_in (Val (Stat s)) = 0
object_in (Class c) = 0

-- whether what a frame waits for is a call about object o; false for a frame that doesn't wait
abbrev pub waits_for : ℕ → Option Pending → Bool
waits_for o None = false
waits_for o (Some p) = object_in p.call.a == o

-- whether some frame waits in a call about object o
abbrev pub is_waited_for : {A : Type 0} → State A → ℕ → Bool
is_waited_for S o = list_any (λ f. waits_for o (frame_of S.cpus f).pending) (all_frames S.cpus)

-- whether some frame holds object o as a lock: a spin lock, a wait lock or an interrupt
abbrev pub is_locked : {A : Type 0} → State A → ℕ → Bool
is_locked S o = not (is_free_lock S.locks (object_lock o))

-- what object o is in the plan: declared there, or of a class
abbrev pub declared_in : {A : Type 0} → Plan → State A → ℕ → Option Declared
declared_in plan S o = declared_as plan S.tree o

-- the number of the script of callback c on object o, None where o doesn't declare it
abbrev pub script_in : {A : Type 0} → Plan → State A → Callback → ℕ → Option ℕ
script_in plan S c o = script_on plan c (declared_in plan S o)

-- whether object o, or the class that it was made from, declares callback c
abbrev pub declares_in : {A : Type 0} → Plan → State A → Callback → ℕ → Bool
declares_in plan S c o = is_some (script_in plan S c o)

-- object o as events and values name it: its id, with the number of its name
abbrev pub handle_in : {A : Type 0} → Plan → State A → ℕ → Handle
handle_in plan S o = handle_of plan S.tree o

-- whether a handle has the number of its object's name, besides the id
abbrev pub is_proper : {A : Type 0} → Plan → State A → Handle → Bool
is_proper plan S h = h.name == (handle_in plan S h.id.0).name
