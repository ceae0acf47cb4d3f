-- What code asks of a state before it does a deed: what the deed names is there, and what it makes has
-- room. The definitions of the deeds ask for nothing; memory that is taken once does. (own)
use Rattle.std.specs.Prelude.{◌≡◌, ℕ, ◌+◌, ◌<◌, ◌≤◌, ◌^◌, true, false, ⊤, List, [], ◌∷◌, length, unwrap_or, IfSome, IsSome, Some, None, count_by, ◌==◌}
use Rattle.wdf_base.specs.declared.plan.Plan.{Plan}
use Rattle.wdf_base.specs.declared.object.Place.{Place}
use Rattle.wdf_base.specs.declared.object.Place.TheVariants as place
use Rattle.wdf_base.specs.Lives.{is_asked, is_live}
use Rattle.wdf_model.specs.declared.room.TheConstants.{EVENTS, FRAMES, OBJECTS}
use Rattle.wdf_model.specs.Tables.{contains, entry}
use Rattle.wdf_model.specs.parts.Tree.{is_full, life_of, may_destroy, next_id, references_in}
use Rattle.wdf_model.specs.parts.Cpus.{all_frames, top}
use Rattle.wdf_model.specs.parts.Locks.{is_free_lock}
use Rattle.wdf_model.specs.parts.Requests.{origin_of}
use Rattle.wdf_model.specs.parts.Queues.{front, held_in, is_waiting, waiting_in}
use Rattle.wdf_model.specs.parts.Deferred.Dpcs.{is_dpc_queued}
use Rattle.wdf_model.specs.parts.Deferred.Timers.{timed_of}
use Rattle.wdf_model.specs.parts.Targets.{sending_of, takes_more}
use Rattle.wdf_model.specs.State.{State}
use Rattle.wdf_model.specs.declared.deed.Deed.{Deed}
use Rattle.wdf_model.specs.declared.deed.Deed.TheVariants.{Create, MakeRequest, Arrive, CountArrival, Refer, Unrefer, WriteCell, Note, CleanUp, EndLife, PushFrame, GoOn, Raise, Lower, PopFrame, ParkFrame, UnparkFrame, TakeLock, Present, Receive, Requeue, Forward, GiveBack, Withdraw, MarkRequest, UnmarkRequest, CancelRequest, TakeCancel, SendRequest, FinishSending, ComeBack, CompleteRequest, SetMode, PurgeQueue, CloseDevice, RegisterQueue, NotifyQueue, AdvancePower, Acknowledge, AskStop, Resume, AskDevice, TakeStep, EndStep, EnableInterrupt, DisableInterrupt, EnqueueDpc, TakeDpc, EnqueueWork, StartTimer, FireTimer, StopTarget, StartTarget, PassTick}
use Rattle.wdf_model.specs.rules.Deeds.{do_deed}

-- own: the numbers of agents have 16 bits
abbrev pub AGENTS : ℕ
AGENTS = 2 ^ 16

-- an object that is there
abbrev pub IsThere : {A : Type 0} → State A → ℕ → Type 0
IsThere S o = o < length S.tree.nodes

-- a live parent, and room for one object more
pub record HasRoomForObject {A : Type 0} (S : State A) (parent : ℕ) : Type 0 where
  pub live : is_live (life_of S.tree parent) ≡ true
  pub counted : is_full S.tree ≡ false
  pub room : length S.tree.nodes < OBJECTS

-- a request that is there
pub record IsRequest {A : Type 0} (S : State A) (r : ℕ) : Type 0 where
  pub there : r < length S.requests.all
  pub room : r < OBJECTS

-- a queue that is there
pub record IsQueue {A : Type 0} (S : State A) (q : ℕ) : Type 0 where
  pub dispatch : q < length S.queues.dispatch
  pub control : q < length S.control.controls

-- a request that the driver may give up: the queue that it came from is there
pub record MayGiveUp {A : Type 0} (S : State A) (r : ℕ) : Type 0 where
  pub request : IsRequest S r
  pub origin : unwrap_or (origin_of S.requests r) 0 < length S.queues.dispatch

-- a request that waits nowhere may enter a queue
pub record MayEnter {A : Type 0} (S : State A) (q r : ℕ) : Type 0 where
  pub queue : IsQueue S q
  pub apart : is_waiting S.queues r ≡ false

-- a request that arrives and waits enters its queue
abbrev pub MayEnterIfQueued : {A : Type 0} → State A → Place → ℕ → Type 0
MayEnterIfQueued S (place.Queued q) r = MayEnter S q.0 r
MayEnterIfQueued S _ r = ⊤

-- a request more is held from a queue
pub record MayHold {A : Type 0} (S : State A) (q r : ℕ) : Type 0 where
  pub queue : q < length S.queues.dispatch
  pub few : held_in S.queues < EVENTS
  pub request : IsRequest S r

-- a queue whose waiting requests are there, each once, may be purged
pub record MayPurge {A : Type 0} (S : State A) (q : ℕ) : Type 0 where
  pub queue : IsQueue S q
  pub requests : (r : ℕ) → 1 ≤ count_by (λ x. x == r) (waiting_in S.queues q) → r < length S.requests.all
  pub once : (r : ℕ) → count_by (λ x. x == r) (waiting_in S.queues q) ≤ 1

-- a deed can be done
abbrev pub IsDoable : {A : Type 0} → Plan → Deed → State A → Type 0
IsDoable plan (Create k class parent) S = HasRoomForObject S parent.0
IsDoable plan (MakeRequest class parent) S = HasRoomForObject S parent.0 × (S.requests.arrived < EVENTS)
IsDoable plan (Arrive device info p) S =
    (length S.tree.nodes < OBJECTS) × (S.requests.arrived < EVENTS) × MayEnterIfQueued S p (next_id S.tree)
IsDoable plan (CountArrival agent) S = (agent < AGENTS) × (entry 0 S.arrivals agent + 1 < 2 ^ 32)
IsDoable plan (Refer o) S = IsThere S o.0 × (references_in S.tree < EVENTS)
IsDoable plan (Unrefer o) S = IsThere S o.0
IsDoable plan (WriteCell o k v) S = IsThere S o.0 × (k < 8)
IsDoable plan (Note o c) S = IsThere S o.0
IsDoable plan (CleanUp o) S = is_asked (life_of S.tree o.0) ≡ true
IsDoable plan (EndLife o) S = may_destroy S.tree o.0 ≡ true
IsDoable plan (PushFrame cpu f frame level) S =
    (cpu.0 < length S.cpus.stacks) × (f.0 < FRAMES) × (contains f.0 (all_frames S.cpus) ≡ false)
IsDoable plan (GoOn f frame) S = f.0 < length S.cpus.frames
IsDoable plan (Raise f level) S = (f.0 < FRAMES) × (length S.cpus.levels < EVENTS)
IsDoable plan (Lower f level) S = f.0 < FRAMES
IsDoable plan (PopFrame cpu) S = (cpu.0 < length S.cpus.stacks) × IsSome (top S.cpus cpu.0)
IsDoable plan (ParkFrame cpu) S = cpu.0 < length S.cpus.stacks
IsDoable plan (UnparkFrame cpu f) S = (cpu.0 < length S.cpus.stacks) × (contains f.0 S.cpus.parked ≡ true)
IsDoable plan (TakeLock l f by_call) S = (is_free_lock S.locks l ≡ true) × (f.0 < FRAMES) × (length S.locks.held < EVENTS)
IsDoable plan (Present q r) S = (front S.queues q.0 ≡ Some r.0) × MayHold S q.0 r.0
IsDoable plan (Receive q r) S = MayHold S q.0 r.0
IsDoable plan (Requeue r q) S = MayGiveUp S r.0 × MayEnter S q.0 r.0
IsDoable plan (Forward r q) S = MayGiveUp S r.0 × MayEnter S q.0 r.0
IsDoable plan (GiveBack r q) S = MayGiveUp S r.0
IsDoable plan (Withdraw q r) S = IsRequest S r.0
IsDoable plan (MarkRequest r) S = IsRequest S r.0
IsDoable plan (UnmarkRequest r) S = IsRequest S r.0
IsDoable plan (CancelRequest r) S = IsRequest S r.0
IsDoable plan (TakeCancel r) S = IsRequest S r.0
IsDoable plan (SendRequest r t forget) S =
    MayGiveUp S r.0 × (takes_more S.targets t.0 ≡ true) × (sending_of S.targets r.0 ≡ None)
IsDoable plan (FinishSending r s) S = IsRequest S r.0
IsDoable plan (ComeBack r) S = IsRequest S r.0
IsDoable plan (CompleteRequest r) S = MayGiveUp S r.0
IsDoable plan (SetMode q m) S = q.0 < length S.control.controls
IsDoable plan (PurgeQueue q) S = MayPurge S q.0
IsDoable plan (CloseDevice d) S = (d.0 < length S.control.controls) × (length plan.declared < length S.queues.dispatch)
IsDoable plan (RegisterQueue q on) S = q.0 < length S.control.controls
IsDoable plan (NotifyQueue q) S = q.0 < length S.control.controls
IsDoable plan (AdvancePower d s) S = d.0 < length S.power.devices
IsDoable plan (Acknowledge r) S = r.0 < OBJECTS
IsDoable plan (AskStop r) S = r.0 < OBJECTS
IsDoable plan (Resume r) S = r.0 < OBJECTS
IsDoable plan (AskDevice d a) S = d.0 < length S.pnp.devices
IsDoable plan (TakeStep d) S = d.0 < length S.pnp.devices
IsDoable plan (EndStep d s result) S = d.0 < length S.pnp.devices
IsDoable plan (EnableInterrupt i) S = i.0 < OBJECTS
IsDoable plan (DisableInterrupt i) S = i.0 < OBJECTS
IsDoable plan (EnqueueDpc cpu o) S = (cpu.0 < length S.dpcs.lists) × (o.0 < OBJECTS) × (is_dpc_queued S.dpcs o.0 ≡ false)
IsDoable plan (TakeDpc cpu) S = cpu.0 < length S.dpcs.lists
IsDoable plan (EnqueueWork o) S = o.0 < OBJECTS
IsDoable plan (StartTimer o ticks) S = (o.0 < OBJECTS) × (S.clock < 2 ^ 63)
IsDoable plan (FireTimer o period) S = IfSome (timed_of S.timers o.0) (λ t. t.tick + period < 2 ^ 64)
IsDoable plan (StopTarget t) S = t.0 < length S.targets.targets
IsDoable plan (StartTarget t) S = t.0 < length S.targets.targets
IsDoable plan PassTick S = S.clock + 1 < 2 ^ 64
IsDoable plan _ S = ⊤

-- each of some deeds can be done where it comes
abbrev pub AreDoable : {A : Type 0} → Plan → List Deed → State A → Type 0
AreDoable plan [] S = ⊤
AreDoable plan (d ∷ ds) S = IsDoable plan d S × AreDoable plan ds (do_deed plan d S)
