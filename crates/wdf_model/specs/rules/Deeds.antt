-- What an event does to the state, as data: a list of deeds, each an act of one part, or of a few that
-- move together.
use Rattle.std.specs.Prelude.{if◌then◌else◌, ℕ, suc, ◌+◌, Bool, true, false, List, [], ◌∷◌, map, fold, Option, Some, None}
use Rattle.wdf_base.specs.Meaning.{Meaning}
use Rattle.wdf_base.specs.declared.plan.Plan.{Plan}
use Rattle.wdf_base.specs.declared.value.Status.{Status}
use Rattle.wdf_base.specs.declared.value.Status.TheVariants as status
use Rattle.wdf_base.specs.declared.object.Kind.TheVariants as kind
use Rattle.wdf_base.specs.declared.object.Place.{Place}
use Rattle.wdf_base.specs.declared.object.Place.TheVariants as place
use Rattle.wdf_base.specs.declared.object.RequestInfo.{RequestInfo}
use Rattle.wdf_base.specs.declared.event.Event.{Event}
use Rattle.wdf_base.specs.declared.event.Event.TheVariants as event
use Rattle.wdf_base.specs.Lives.{is_live}
use Rattle.wdf_model.specs.declared.enums.Mode.TheVariants as mode
use Rattle.wdf_model.specs.declared.deed.Deed.{Deed}
use Rattle.wdf_model.specs.declared.deed.Deed.TheVariants.{Create, MakeRequest, Arrive, CountArrival, AskDeletion, Refer, Unrefer, WriteCell, Note, CleanUp, EndLife, PushFrame, GoOn, Raise, Lower, PopFrame, ParkFrame, UnparkFrame, TakeLock, ReleaseLock, Present, Receive, Requeue, Forward, GiveBack, Withdraw, MarkRequest, UnmarkRequest, CancelRequest, TakeCancel, SendRequest, FinishSending, ComeBack, CompleteRequest, SetMode, PurgeQueue, CloseReturning, CloseDevice, RegisterQueue, NotifyQueue, AdvancePower, Acknowledge, AskStop, Resume, AskDevice, TakeStep, EndStep, EnableInterrupt, DisableInterrupt, EnqueueDpc, CancelDpc, TakeDpc, EnqueueWork, CancelWork, StartTimer, StopTimer, FireTimer, StopTarget, StartTarget, PassTick}
use Rattle.wdf_model.specs.Tables.{change_at}
use Rattle.wdf_model.specs.Plans.{is_managed, queues_of, managed_queues}
use Rattle.wdf_model.specs.parts.Tree.{life_of, next_id, nearest_device, subtree}
use Rattle.wdf_model.specs.parts.Tree as tree
use Rattle.wdf_model.specs.parts.Cpus as cpus
use Rattle.wdf_model.specs.parts.Locks as locks
use Rattle.wdf_model.specs.parts.Requests.{place_of, origin_of, made_info}
use Rattle.wdf_model.specs.parts.Requests as requests
use Rattle.wdf_model.specs.parts.Queues.{Queues, waiting_in, is_empty_queue}
use Rattle.wdf_model.specs.parts.Queues as queues
use Rattle.wdf_model.specs.parts.Control as control
use Rattle.wdf_model.specs.parts.Power.{Power, holding_of, is_held}
use Rattle.wdf_model.specs.parts.Power as power
use Rattle.wdf_model.specs.parts.Pnp as pnp
use Rattle.wdf_model.specs.parts.Interrupts as interrupts
use Rattle.wdf_model.specs.parts.Deferred.Dpcs as dpcs
use Rattle.wdf_model.specs.parts.Deferred.WorkItems as work_items
use Rattle.wdf_model.specs.parts.Deferred.Timers as timers
use Rattle.wdf_model.specs.parts.Targets.{is_forgotten}
use Rattle.wdf_model.specs.parts.Targets as targets
use Rattle.wdf_model.specs.State.{State, is_with_driver, withdrawn_place}

-- ---- deletion

-- the deletion of object o is asked if it is live, and a DPC, timer or work item leaves its queue at once (KMDF,
-- own in that it only asks). What isn't live stays as it is.
abbrev pub ask_object : {A : Type 0} → State A → ℕ → State A
ask_object S o =
    if is_live (life_of S.tree o) then record S {
      tree = tree.ask_one S.tree o;
      dpcs = dpcs.cancel S.dpcs o;
      work_items = work_items.cancel S.work_items o;
      timers = timers.stop S.timers o;
    } else S

-- the deletion of object o and of all that is below it is asked (KMDF: deleting an object deletes its descendants)
abbrev pub ask_objects : {A : Type 0} → State A → ℕ → State A
ask_objects S o = fold ask_object S (subtree S.tree o)

-- ---- requests that the driver gets and gives up

-- power, when the driver gets request r from queue q: r is noted as held if q is power-managed (KMDF)
abbrev pub hold_power : Plan → Power → ℕ → ℕ → Power
hold_power plan P r q = if is_managed plan q then power.held_more P r q else P

-- power, when the driver gives up request r: what was noted of r goes, with its acknowledgement and its resume
-- (KMDF)
abbrev pub release_power : Power → ℕ → Power
release_power P r = if is_held (holding_of P r) then power.held_less P r else P

-- the queues, when the driver gives up a request that came from queue q: one request less is held from q; as they
-- were where it came from none
abbrev pub release_line : Queues → Option ℕ → Queues
release_line Q None = Q
release_line Q (Some q) = queues.let_go Q q

-- the driver gives up request r: it isn't held from its queue any more. Nothing changes where the driver doesn't
-- hold it. (KMDF)
abbrev pub give_up : {A : Type 0} → State A → ℕ → State A
give_up S r =
    if is_with_driver S r then record S {
      queues = release_line S.queues (origin_of S.requests r);
      power = release_power S.power r;
    } else S

-- request r gets place p, and its mark and its origin what goes with that
abbrev pub with_place : {A : Type 0} → State A → ℕ → Place → State A
with_place S r p = record S { requests = requests.move_to S.requests r p }

-- the place of a request that waits in queue q
abbrev pub queued : ℕ → Place
queued q = place.Queued (record { 0 = q })

-- request r enters queue q at the tail; where q was empty, notification that is registered becomes due (KMDF)
abbrev pub enter_at_tail : {A : Type 0} → State A → ℕ → ℕ → State A
enter_at_tail S q r = record S {
  queues = queues.enter S.queues q r;
  control = control.entered S.control q (is_empty_queue S.queues q);
}

-- request r enters queue q at the head; notification as at the tail (KMDF)
abbrev pub enter_at_head : {A : Type 0} → State A → ℕ → ℕ → State A
enter_at_head S q r = record S {
  queues = queues.requeue S.queues q r;
  control = control.entered S.control q (is_empty_queue S.queues q);
}

-- request r is cancelled in queue q: it is cancelled from then on, and returns to the driver or is to be completed
-- with CANCELLED (KMDF)
abbrev pub cancel_in : {A : Type 0} → Plan → State A → ℕ → ℕ → State A
cancel_in plan S q r = record S { requests = requests.move_to (requests.cancel S.requests r) r (withdrawn_place plan S q r) }

-- request r, which waits in queue q, leaves it and is cancelled in it (KMDF)
abbrev pub withdraw : {A : Type 0} → Plan → ℕ → State A → ℕ → State A
withdraw plan q S r = cancel_in plan (record S { queues = queues.take_cancelled S.queues r }) q r

-- what returns to queue q is to be completed with CANCELLED, without its EvtIoCanceledOnQueue (own)
abbrev pub close_returning : {A : Type 0} → State A → ℕ → State A
close_returning S q = record S { requests = requests.close_returning S.requests q }

-- what waits in queue q or returns to it is to be completed with CANCELLED (own)
abbrev pub close_queue : {A : Type 0} → State A → ℕ → State A
close_queue S q = record S { queues = queues.clear S.queues q; requests = requests.close S.requests q }

-- the driver gives up request r when it sends it, if it won't come back; else it holds it on
abbrev pub give_up_if : {A : Type 0} → Bool → State A → ℕ → State A
give_up_if false S r = S
give_up_if true S r = give_up S r

-- the place of a request when its target is done with it, with status s (KMDF). One that comes back stays at p,
-- which is Sent; one that was forgotten is to be completed with s.
abbrev pub finished_at : Bool → Status → Place → Place
finished_at false s p = p
finished_at true s p = place.Closing s

-- an arrived request r enters the queue that its place names, at the tail; with any other place it waits nowhere
abbrev pub enter_if_queued : {A : Type 0} → State A → Place → ℕ → State A
enter_if_queued S (place.Queued q) r = enter_at_tail S q.0 r
enter_if_queued S _ r = S

-- a request arrives at a device: it is the next object, a child of the device, and waits where its place p is a
-- queue (KMDF)
abbrev pub arrive_at : {A : Type 0} → State A → ℕ → RequestInfo → Place → State A
arrive_at S device info p =
    enter_if_queued
    (record S { tree = tree.arrive S.tree device; requests = requests.arrive S.requests (next_id S.tree) p info })
    p (next_id S.tree)

-- ---- the deeds

-- the state after one deed. A row without a comment changes one part, by that part's act; the others say what moves
-- together.
abbrev pub do_deed : {A : Type 0} → Plan → Deed → State A → State A
do_deed plan (Create k class parent) S = record S { tree = tree.create S.tree k class parent.0 }
-- KMDF: a request that the driver makes is Owned; own: its device is the nearest one at or above its parent
do_deed plan (MakeRequest class parent) S = record S {
  tree = tree.create S.tree kind.Made class parent.0;
  requests = requests.arrive S.requests (next_id S.tree) place.Owned (made_info (nearest_device S.tree parent.0));
}
-- KMDF: the object, its place, and the queue in which it waits
do_deed plan (Arrive device info p) S = arrive_at S device.0 info p
-- own: also where no request is made
do_deed plan (CountArrival agent) S = record S { arrivals = change_at 0 S.arrivals agent suc }
-- KMDF: of the object and of what is below it
do_deed plan (AskDeletion o) S = ask_objects S o.0
do_deed plan (Refer o) S = record S { tree = tree.reference S.tree o.0 }
do_deed plan (Unrefer o) S = record S { tree = tree.dereference S.tree o.0 }
do_deed plan (WriteCell o k v) S = record S { tree = tree.set S.tree o.0 k v }
do_deed plan (Note o c) S = record S { tree = tree.note_start S.tree o.0 c }
do_deed plan (CleanUp o) S = record S { tree = tree.clean S.tree o.0 }
-- KMDF: the object is gone, and what was known of it as a request with it
do_deed plan (EndLife o) S = record S { tree = tree.destroy S.tree o.0; requests = requests.forget S.requests o.0 }
do_deed plan (PushFrame cpu f frame level) S = record S { cpus = cpus.push S.cpus cpu.0 f.0 frame level.0 }
do_deed plan (GoOn f frame) S = record S { cpus = cpus.change S.cpus f.0 frame }
do_deed plan (Raise f level) S = record S { cpus = cpus.raise S.cpus f.0 level.0 }
do_deed plan (Lower f level) S = record S { cpus = cpus.lower S.cpus f.0 level.0 }
do_deed plan (PopFrame cpu) S = record S { cpus = cpus.pop S.cpus cpu.0 }
do_deed plan (ParkFrame cpu) S = record S { cpus = cpus.park S.cpus cpu.0 }
do_deed plan (UnparkFrame cpu f) S = record S { cpus = cpus.unpark S.cpus cpu.0 f.0 }
do_deed plan (TakeLock l f by_call) S = record S { locks = locks.take S.locks l f.0 by_call }
do_deed plan (ReleaseLock l) S = record S { locks = locks.release S.locks l }
-- KMDF: the front leaves the queue and is Owned; it counts as held from the queue, and for power
do_deed plan (Present q r) S = record S {
  queues = queues.take S.queues q.0;
  requests = requests.move_to S.requests r.0 place.Owned;
  power = hold_power plan S.power r.0 q.0;
}
-- KMDF: the same for one that returns, which had left the queue before
do_deed plan (Receive q r) S = record S {
  queues = queues.hold S.queues q.0;
  requests = requests.move_to S.requests r.0 place.Owned;
  power = hold_power plan S.power r.0 q.0;
}
-- KMDF: given up, and at the head of the queue
do_deed plan (Requeue r q) S = enter_at_head (with_place (give_up S r.0) r.0 (queued q.0)) q.0 r.0
-- KMDF: given up, and at the tail of the queue
do_deed plan (Forward r q) S = enter_at_tail (with_place (give_up S r.0) r.0 (queued q.0)) q.0 r.0
-- KMDF: given up, and cancelled in the queue at once; it is never on the queue's list
do_deed plan (GiveBack r q) S = cancel_in plan (give_up S r.0) q.0 r.0
-- KMDF: off the queue's list, and cancelled in the queue
do_deed plan (Withdraw q r) S = withdraw plan q.0 S r.0
do_deed plan (MarkRequest r) S = record S { requests = requests.mark S.requests r.0 }
do_deed plan (UnmarkRequest r) S = record S { requests = requests.unmark S.requests r.0 }
do_deed plan (CancelRequest r) S = record S { requests = requests.cancel S.requests r.0 }
do_deed plan (TakeCancel r) S = record S { requests = requests.take_cancel S.requests r.0 }
-- KMDF: at the target; given up too if it won't come back
do_deed plan (SendRequest r t forget) S =
    with_place (record (give_up_if forget S r.0) { targets = targets.send S.targets t.0 r.0 forget }) r.0 (place.Sent (record { 0 = t.0 }))
-- KMDF: the target's answer is noted; a request that was forgotten is to be completed with it
do_deed plan (FinishSending r s) S =
    with_place (record S { targets = targets.done S.targets r.0 s }) r.0 (finished_at (is_forgotten S.targets r.0) s (place_of S.requests r.0))
-- KMDF: no longer at the target, and Owned again
do_deed plan (ComeBack r) S = with_place (record S { targets = targets.back S.targets r.0 }) r.0 place.Owned
-- KMDF: given up and Done, and its deletion is asked
do_deed plan (CompleteRequest r) S = ask_objects (record (give_up S r.0) { requests = requests.complete S.requests r.0 }) r.0
do_deed plan (SetMode q m) S = record S { control = control.set_mode S.control q.0 m }
-- KMDF: the queue is Purged, and each request that waits is cancelled in it, the front first
do_deed plan (PurgeQueue q) S = fold (withdraw plan q.0) (record S { control = control.set_mode S.control q.0 mode.Purged }) (waiting_in S.queues q.0)
-- own: in each power-managed queue of the device
do_deed plan (CloseReturning d) S = fold close_returning S (managed_queues plan d.0)
-- own: the device's queues are Purged for good, and nothing waits in one or returns to one
do_deed plan (CloseDevice d) S = fold close_queue (record S { control = control.shut S.control d.0 }) (queues_of plan d.0)
do_deed plan (RegisterQueue q on) S = record S { control = control.notify S.control q.0 on }
do_deed plan (NotifyQueue q) S = record S { control = control.notified S.control q.0 }
do_deed plan (AdvancePower d s) S = record S { power = power.advance S.power d.0 s }
do_deed plan (Acknowledge r) S = record S { power = power.acknowledge S.power r.0 }
do_deed plan (AskStop r) S = record S { power = power.stop_asked S.power r.0 }
do_deed plan (Resume r) S = record S { power = power.resumed S.power r.0 }
do_deed plan (AskDevice d a) S = record S { pnp = pnp.ask S.pnp d.0 a }
do_deed plan (TakeStep d) S = record S { pnp = pnp.taken S.pnp d.0 }
do_deed plan (EndStep d s result) S = record S { pnp = pnp.ended S.pnp d.0 s result }
do_deed plan (EnableInterrupt i) S = record S { interrupts = interrupts.enable S.interrupts i.0 }
do_deed plan (DisableInterrupt i) S = record S { interrupts = interrupts.disable S.interrupts i.0 }
do_deed plan (EnqueueDpc cpu o) S = record S { dpcs = dpcs.enqueue S.dpcs cpu.0 o.0 }
do_deed plan (CancelDpc o) S = record S { dpcs = dpcs.cancel S.dpcs o.0 }
do_deed plan (TakeDpc cpu) S = record S { dpcs = dpcs.take S.dpcs cpu.0 }
do_deed plan (EnqueueWork o) S = record S { work_items = work_items.enqueue S.work_items o.0 }
do_deed plan (CancelWork o) S = record S { work_items = work_items.cancel S.work_items o.0 }
do_deed plan (StartTimer o ticks) S = record S { timers = timers.start S.timers o.0 S.clock ticks }
do_deed plan (StopTimer o) S = record S { timers = timers.stop S.timers o.0 }
do_deed plan (FireTimer o period) S = record S { timers = timers.fired S.timers o.0 period }
do_deed plan (StopTarget t) S = record S { targets = targets.stop S.targets t.0 }
do_deed plan (StartTarget t) S = record S { targets = targets.start S.targets t.0 }
do_deed plan PassTick S = record S { clock = S.clock + 1 }

-- the state after these deeds, done one after another
abbrev pub do_deeds : {A : Type 0} → Plan → List Deed → State A → State A
do_deeds plan [] S = S
do_deeds plan (d ∷ ds) S = do_deeds plan ds (do_deed plan d S)

-- the agents when they have heard of event e: each of them hears of it, but for what stays inside a frame (own)
abbrev pub told : {A : Type 0} → Meaning A → Event → List A → List A
told m (event.Local cpu line) agents = agents
told m (event.Log cpu v) agents = agents
told m e agents = map (λ a. m.fold a e) agents

-- the state when the agents have heard of event e and it is counted
abbrev pub counted : {A : Type 0} → Meaning A → Event → State A → State A
counted m e S = record S { agents = told m e S.agents; number = S.number + 1 }
