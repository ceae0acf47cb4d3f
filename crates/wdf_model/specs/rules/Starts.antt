-- Starts of callbacks, steps of sequences, cleanups and destructions: when each may come, and what it does.
-- (KMDF, but for what is marked own)
use Rattle.std.specs.Prelude.{if◌then◌else◌, ℕ, ◌+◌, Bool, true, false, ◌==◌, nat_lt, not, ◌&&◌, ◌||◌, List, [], ◌∷◌, ◌++◌, length, filter, replicate, Option, Some, None, is_some, unwrap_or, slice_get, option_map}
use Rattle.std.specs.List.{list_any, list_all}
use Rattle.wdf_base.specs.Meaning.{Meaning}
use Rattle.wdf_base.specs.declared.plan.Plan.{Plan}
use Rattle.wdf_base.specs.declared.ids.Handle.{Handle}
use Rattle.wdf_base.specs.declared.value.Value.{Value}
use Rattle.wdf_base.specs.declared.value.Value.TheVariants.{Num}
use Rattle.wdf_base.specs.declared.value.Status.{Status}
use Rattle.wdf_base.specs.declared.value.Status.TheVariants as status
use Rattle.wdf_base.specs.declared.object.Kind.TheVariants as kind
use Rattle.wdf_base.specs.declared.object.LockRef.{LockRef}
use Rattle.wdf_base.specs.declared.call.Callback.{Callback}
use Rattle.wdf_base.specs.declared.call.Callback.TheVariants as callback
use Rattle.wdf_base.specs.declared.rank.Rank.{Rank}
use Rattle.wdf_base.specs.declared.rank.Rank.TheVariants as rank
use Rattle.wdf_base.specs.declared.event.Stage.{Stage}
use Rattle.wdf_base.specs.declared.event.Stage.TheVariants as stage
use Rattle.wdf_base.specs.declared.event.Step.{Step}
use Rattle.wdf_base.specs.declared.event.Step.TheVariants as step
use Rattle.wdf_base.specs.declared.frame.Frame.{Frame}
use Rattle.wdf_base.specs.Callbacks.{row_of}
use Rattle.wdf_base.specs.Same.{same_callback, same_kind, same_step, same_option}
use Rattle.wdf_base.specs.Lives.{is_asked, is_cleaned, is_live}
use Rattle.wdf_base.specs.Places.{is_done, is_due, is_returning_to, is_sent, is_sent_to}
use Rattle.wdf_model.specs.declared.entries.Request.{Request}
use Rattle.wdf_model.specs.Plans.{agent_of_device, callback_irql, handler_for, interrupt_of, interrupts_of, is_managed, is_manual_queue, is_target_of, managed_queues, period_of, target_of, declared_ids}
use Rattle.wdf_model.specs.Tables.{same_id}
use Rattle.wdf_model.specs.parts.Tree.{class_of, kind_of, life_of, may_clean, may_destroy, nearest_device, started}
use Rattle.wdf_model.specs.parts.Cpus.{irql, is_empty_cpu, is_running, nobody_on}
use Rattle.wdf_model.specs.parts.Locks.{is_free_if_any, is_free_lock, lock_of_callback, object_lock}
use Rattle.wdf_model.specs.parts.Requests.{info_of, place_of, mark_of, has_arrived}
use Rattle.wdf_model.specs.parts.Queues.{front, is_free}
use Rattle.wdf_model.specs.parts.Control.{notify_due}
use Rattle.wdf_model.specs.parts.Power.{any_resume_due, resume_due, stop_was_asked, unsettled}
use Rattle.wdf_model.specs.parts.Pnp.{follows_queues_up, is_running_step, next_step}
use Rattle.wdf_model.specs.parts.Interrupts.{isr_due}
use Rattle.wdf_model.specs.parts.Deferred.Dpcs.{dpc_head, is_dpc_queued}
use Rattle.wdf_model.specs.parts.Deferred.WorkItems.{is_work_queued}
use Rattle.wdf_model.specs.parts.Deferred.Timers.{timer_due}
use Rattle.wdf_model.specs.parts.Targets.{routine_due}
use Rattle.wdf_model.specs.State.{State, declared_in, declares_in, handle_in, is_held_from, is_locked, is_waited_for, nothing_at, queue_delivers, script_in}
use Rattle.wdf_model.specs.Ids.{cpu_of, frame_id, irql_of, object_id}
use Rattle.wdf_model.specs.declared.deed.Deed.{Deed}
use Rattle.wdf_model.specs.declared.deed.Deed.TheVariants.{AskDeletion, Note, PushFrame, PopFrame, TakeLock, ReleaseLock, Present, Receive, TakeCancel, ComeBack, CloseReturning, CloseDevice, NotifyQueue, AdvancePower, AskStop, Resume, TakeStep, EndStep, EnableInterrupt, DisableInterrupt, TakeDpc, CancelWork, FireTimer}

-- ---- what agents show

-- what an agent shows under the number `what`; 0 where there is no agent
abbrev pub value_of_agent : {A : Type 0} → Meaning A → Option A → ℕ → ℕ
value_of_agent m None what = 0
value_of_agent m (Some a) what = m.value a what

-- what the agent of this device shows under the number `what`: the value of a register by its number, or an
-- interrupt's level line (own)
abbrev pub shown : {A : Type 0} → Plan → Meaning A → State A → ℕ → ℕ → ℕ
shown plan m S device what = value_of_agent m (slice_get S.agents (agent_of_device plan device)) what

-- the number under which an agent shows the level line of interrupt i; registers have those below 64 (own)
abbrev pub line_number : ℕ → ℕ
line_number i = 64 + i

-- the device of interrupt i, 0 for what is no interrupt
abbrev pub device_of_interrupt : Plan → ℕ → ℕ
device_of_interrupt plan i = unwrap_or (option_map (λ x. x.device.0) (interrupt_of plan i)) 0

-- the level line of interrupt i is raised, as its device shows it
abbrev pub line_is_up : {A : Type 0} → Plan → Meaning A → State A → ℕ → Bool
line_is_up plan m S i = shown plan m S (device_of_interrupt plan i) (line_number i) == 1

-- ---- cleanup and end of an object

-- no frame runs on object o, holds it as a lock or waits for it
abbrev pub is_unused : {A : Type 0} → State A → ℕ → Bool
is_unused S o = nobody_on S.cpus o && not (is_locked S o) && not (is_waited_for S o)

-- object o is no request that is still under way: an arrived one is completed, and a made one isn't at a target
-- (KMDF)
abbrev pub is_finished : {A : Type 0} → State A → ℕ → Bool
is_finished S o =
    (not (same_kind (kind_of S.tree o) kind.Request) || is_done (place_of S.requests o)) && (not (same_kind (kind_of S.tree o) kind.Made) || not (is_sent (place_of S.requests o)))

-- object o may be cleaned up: by the lives around it, and when it is unused, finished and no request is sent to it
-- (KMDF)
abbrev pub clean_ready : {A : Type 0} → State A → ℕ → Bool
clean_ready S o = may_clean S.tree o && is_unused S o && is_finished S o && nothing_at S o

-- object o may be destroyed: it is cleaned up, without references or children, and no frame runs on it (KMDF)
abbrev pub destroy_ready : {A : Type 0} → State A → ℕ → Bool
destroy_ready S o = may_destroy S.tree o && nobody_on S.cpus o

-- the cleanup or destroy callback c of object o keeps it no longer: it has started, which it does once, or it isn't
-- declared (KMDF)
abbrev pub callback_over : {A : Type 0} → Plan → State A → Callback → ℕ → Bool
callback_over plan S c o = not (declares_in plan S c o) || started S.tree o c

-- ---- steps of sequences

-- the wait of the step of device d after `queues_up`: no resume is due, and no EvtIoResume runs (own)
abbrev pub resumes_over : {A : Type 0} → State A → ℕ → Bool
resumes_over S d = not (any_resume_due S.power d) && not (is_running S.cpus callback.EvtIoResume d)

-- step s of device d may come: it is the next one, the callback before it has ended, and after `queues_up` the
-- resumes are over (own)
abbrev pub step_ready : {A : Type 0} → State A → ℕ → Step → Bool
step_ready S d s =
    same_option same_step (next_step S.pnp d) (Some s) && not (is_running_step S.pnp d)
    && (not (follows_queues_up S.pnp d) || resumes_over S d)

-- no EvtInterruptDpc of device d is queued or runs
abbrev pub is_quiet : {A : Type 0} → Plan → State A → ℕ → Bool
is_quiet plan S d =
    list_all (λ i. not (is_dpc_queued S.dpcs i)) (interrupts_of plan d) && not (is_running S.cpus callback.EvtInterruptDpc d)

-- each request that the driver holds from a power-managed queue of device d is acknowledged, and no frame runs on
-- such a queue
abbrev pub is_settled : {A : Type 0} → Plan → State A → ℕ → Bool
is_settled plan S d = length (unsettled S.power d) == 0 && list_all (nobody_on S.cpus) (managed_queues plan d)

-- r is an arrived request of device d that isn't done
abbrev pub is_unfinished_at : ℕ → Request → Bool
is_unfinished_at d r = has_arrived r && r.info.device.0 == d && not (is_done r.place)

-- the ids of the targets of device d, rising
abbrev pub targets_at : Plan → ℕ → List ℕ
targets_at plan d = filter (λ t. is_target_of d (target_of plan t)) (declared_ids plan)

-- all arrived requests of device d are done, and nothing is sent to its targets
abbrev pub is_drained : {A : Type 0} → Plan → State A → ℕ → Bool
is_drained plan S d = not (list_any (is_unfinished_at d) S.requests.all) && list_all (nothing_at S) (targets_at plan d)

-- the id of an object, 0 where there is none
abbrev pub handle_id : Option Handle → ℕ
handle_id None = 0
handle_id (Some h) = h.id.0

-- what stage s of device d waits for; i is the interrupt that `enabled` or `disabled` is about
abbrev pub stage_ready : {A : Type 0} → Plan → State A → ℕ → Stage → Option Handle → Bool
-- own: the driver has acknowledged what it holds, and no callback of a power-managed queue runs
stage_ready plan S d stage.Settled i = is_settled plan S d
-- own: the interrupt's lock is free
stage_ready plan S d stage.Disabled i = is_free_lock S.locks (object_lock (handle_id i))
-- own: the device's EvtInterruptDpc is over
stage_ready plan S d stage.Quiet i = is_quiet plan S d
-- own: its requests are done
stage_ready plan S d stage.Removed i = is_drained plan S d
-- the other stages wait for nothing
stage_ready plan S d _ i = true

-- stage s of device d may be passed: it is the device's next step, and its wait is over (own)
abbrev pub may_pass : {A : Type 0} → Plan → State A → ℕ → Stage → Option Handle → Bool
may_pass plan S d s i = step_ready S d (step.Pass s i) && stage_ready plan S d s i

-- what stage s of device d does beside power and phase; i is the interrupt that `enabled` or `disabled` is about
abbrev pub stage_effect : Plan → ℕ → Stage → Option Handle → List Deed
-- own: the interrupt is put on the list of enabled ones
stage_effect plan d stage.Enabled i = EnableInterrupt (object_id (handle_id i)) ∷ []
-- own: and taken off it
stage_effect plan d stage.Disabled i = DisableInterrupt (object_id (handle_id i)) ∷ []
-- own: what returns from a power-managed queue is to be completed with CANCELLED
stage_effect plan d stage.QueuesDown i = CloseReturning (object_id d) ∷ []
-- own: the device's queues are Purged for good, and what waits in them or returns is to be completed with CANCELLED
stage_effect plan d stage.Closed i = CloseDevice (object_id d) ∷ []
-- own: the device's deletion is asked
stage_effect plan d stage.Removed i = AskDeletion (object_id d) ∷ []
-- the other stages do nothing beside
stage_effect plan d _ i = []

-- what the passing of stage s of device d does: the step is taken, with its phase; then power; then the rest (own)
abbrev pub stage_deeds : Plan → ℕ → Stage → Option Handle → List Deed
stage_deeds plan d s i = TakeStep (object_id d) ∷ AdvancePower (object_id d) (step.Pass s i) ∷ stage_effect plan d s i

-- ---- starts

-- the interrupt of a step whose callback is of object o; none where o is the device itself
abbrev pub interrupt_of_step : {A : Type 0} → Plan → State A → ℕ → Option Handle
interrupt_of_step plan S o = if is_some (interrupt_of plan o) then Some (handle_in plan S o) else None

-- callback c of object o, as the step of a sequence that it is
abbrev pub step_of : {A : Type 0} → Plan → State A → Callback → ℕ → Step
step_of plan S c o = step.Run c (interrupt_of_step plan S o)

-- EvtIoStop of queue q is due for request r: r is held from q, which is power-managed, it wasn't asked for yet, and
-- `settled` is the device's next step (KMDF)
abbrev pub stop_is_due : {A : Type 0} → Plan → State A → ℕ → ℕ → Bool
stop_is_due plan S q r =
    is_managed plan q && is_held_from S q r && not (stop_was_asked S.power r)
    && same_option same_step (next_step S.pnp (nearest_device S.tree q)) (Some (step.Pass stage.Settled None))

-- queue q presents request r by callback c: q isn't manual, delivers and is free, r is its front, and c the handler
-- for r's type (KMDF)
abbrev pub presents : {A : Type 0} → Plan → State A → Callback → ℕ → ℕ → Bool
presents plan S c q r =
    not (is_manual_queue plan q) && queue_delivers plan S q && is_free S.queues q
    && same_id (front S.queues q) r && same_option same_callback (handler_for plan q (info_of S.requests r).form) (Some c)

-- when callback c of object o may start for request r, by its rank
abbrev pub rank_ready_for : {A : Type 0} → Plan → State A → Rank → Callback → ℕ → ℕ → Bool
-- KMDF: a sent request is done, and wasn't forgotten; own: the callback's object is its target
rank_ready_for plan S rank.Completion c o r = is_sent_to o (place_of S.requests r) && is_some (routine_due S.targets r)
-- KMDF: the request's mark is due, on the queue that it came from
rank_ready_for plan S rank.Cancel c o r = is_due (mark_of S.requests r) && is_held_from S o r
-- KMDF: the request returns from the queue
rank_ready_for plan S rank.CanceledOnQueue c o r = is_returning_to o (place_of S.requests r)
-- KMDF: the request is held while its queue loses power
rank_ready_for plan S rank.Stop c o r = stop_is_due plan S o r
-- KMDF: a resume is due for the held request
rank_ready_for plan S rank.Resume c o r = resume_due S.power r && is_held_from S o r
-- KMDF: the queue presents its front request
rank_ready_for plan S rank.Handler c o r = presents plan S c o r
-- no other rank is for a request
rank_ready_for plan S _ c o r = false

-- when callback c of object o may start on processor cpu without a request, by its rank
abbrev pub rank_ready : {A : Type 0} → Plan → Meaning A → State A → Rank → ℕ → Callback → ℕ → Bool
-- KMDF: the interrupt's level line is 1, and it is enabled
rank_ready plan m S rank.Isr cpu c o = isr_due S.interrupts o (line_is_up plan m S o)
-- KMDF: it is the first in this processor's list
rank_ready plan m S rank.Deferred cpu c o = same_id (dpc_head S.dpcs cpu) o
-- KMDF: its tick is reached, and no frame runs on it
rank_ready plan m S rank.Timed cpu c o = timer_due S.timers o S.clock && nobody_on S.cpus o
-- KMDF: notification is due, and the queue delivers
rank_ready plan m S rank.QueueState cpu c o = notify_due S.control o && queue_delivers plan S o
-- own: it is the next step of its device
rank_ready plan m S rank.Sequence cpu c o = step_ready S (nearest_device S.tree o) (step_of plan S c o)
-- KMDF: it is queued, and no frame runs on it
rank_ready plan m S rank.Work cpu c o = is_work_queued S.work_items o && nobody_on S.cpus o
-- KMDF: the conditions of the cleanup hold, and its callback hasn't started
rank_ready plan m S rank.Cleanup cpu c o = clean_ready S o && not (started S.tree o c)
-- KMDF: the same for the end
rank_ready plan m S rank.Destroy cpu c o = destroy_ready S o && not (started S.tree o c)
-- the other ranks are for a request
rank_ready plan m S _ cpu c o = false

-- callback c of object o is due on processor cpu, for a request or for none
abbrev pub is_ready_for : {A : Type 0} → Plan → Meaning A → State A → ℕ → Callback → ℕ → Option Handle → Bool
is_ready_for plan m S cpu c o None = rank_ready plan m S (row_of c).rank cpu c o
is_ready_for plan m S cpu c o (Some r) = rank_ready_for plan S (row_of c).rank c o r.id.0

-- no callback starts on an object o that isn't live, but for the cleanup and the destroy callback (KMDF)
abbrev pub life_fits : {A : Type 0} → State A → Callback → ℕ → Bool
life_fits S callback.EvtCleanupCallback o = is_asked (life_of S.tree o)
life_fits S callback.EvtDestroyCallback o = is_cleaned (life_of S.tree o)
life_fits S _ o = is_live (life_of S.tree o)

-- a callback of level 0 starts on an empty processor, a higher one on a processor whose level is lower (KMDF)
abbrev pub level_fits : {A : Type 0} → State A → ℕ → ℕ → Bool
level_fits S cpu level = if level == 0 then is_empty_cpu S.cpus cpu else nat_lt (irql S.cpus cpu) level

-- callback c may start on object o on processor cpu, for request r or none. It is declared and due, o's life and
-- the processor's level allow it, and the lock that it needs is free.
abbrev pub may_start : {A : Type 0} → Plan → Meaning A → State A → ℕ → Callback → ℕ → Option Handle → Bool
may_start plan m S cpu c o r =
    declares_in plan S c o && life_fits S c o && level_fits S cpu (callback_irql plan c o)
    && is_free_if_any S.locks (lock_of_callback plan c o (declared_in plan S o))
    && is_ready_for plan m S cpu c o r

-- what the start of a callback on object o for request r does of its rank's own
abbrev pub effect_for : Rank → ℕ → ℕ → List Deed
-- KMDF: it is owned again
effect_for rank.Completion o r = ComeBack (object_id r) ∷ []
-- KMDF: its cancel is taken
effect_for rank.Cancel o r = TakeCancel (object_id r) ∷ []
-- KMDF: it is owned
effect_for rank.CanceledOnQueue o r = Receive (object_id o) (object_id r) ∷ []
-- KMDF: it is asked to stop, once
effect_for rank.Stop o r = AskStop (object_id r) ∷ []
-- KMDF: its resume is due no more
effect_for rank.Resume o r = Resume (object_id r) ∷ []
-- KMDF: it is owned
effect_for rank.Handler o r = Present (object_id o) (object_id r) ∷ []
-- no other rank is for a request
effect_for _ o r = []

-- what the start of callback c on object o without a request does of its rank's own
abbrev pub effect : {A : Type 0} → Plan → State A → Rank → ℕ → Callback → ℕ → List Deed
-- KMDF: it leaves its list
effect plan S rank.Deferred cpu c o = TakeDpc (cpu_of cpu) ∷ []
-- KMDF: it leaves its queue, or is due a period later
effect plan S rank.Timed cpu c o = FireTimer (object_id o) (period_of plan (class_of S.tree o)) ∷ []
-- KMDF: notification is due no more
effect plan S rank.QueueState cpu c o = NotifyQueue (object_id o) ∷ []
-- own: the step is taken
effect plan S rank.Sequence cpu c o = TakeStep (object_id (nearest_device S.tree o)) ∷ []
-- KMDF: it leaves its queue
effect plan S rank.Work cpu c o = CancelWork (object_id o) ∷ []
-- KMDF: it is noted, so that it comes once
effect plan S rank.Cleanup cpu c o = Note (object_id o) c ∷ []
-- KMDF: the same
effect plan S rank.Destroy cpu c o = Note (object_id o) c ∷ []
-- the start of a service routine does nothing more; the other ranks are for a request
effect plan S _ cpu c o = []

-- what the start of callback c on object o does of its rank's own, with a request or without
abbrev pub start_effect : {A : Type 0} → Plan → State A → ℕ → Callback → ℕ → Option Handle → List Deed
start_effect plan S cpu c o None = effect plan S (row_of c).rank cpu c o
start_effect plan S cpu c o (Some r) = effect_for (row_of c).rank o r.id.0

-- the completion status that callback c sees: that of request r in EvtRequestCompletion, else SUCCESS
abbrev pub status_for : {A : Type 0} → State A → Callback → ℕ → Status
status_for S callback.EvtRequestCompletion r = unwrap_or (routine_due S.targets r) status.Success
status_for S _ r = status.Success

-- the number of the event that comes next, counted from 1, which is that of the frame that it begins
abbrev pub next_number : {A : Type 0} → State A → ℕ
next_number S = S.number + 1

-- the frame that the start of callback c on object o begins, for request r or none; its 16 variables start as 0
-- (own)
abbrev pub new_frame : {A : Type 0} → Plan → State A → Callback → Handle → Option Handle → Frame
new_frame plan S c o r = record {
  callback = c;
  object = o;
  device = handle_in plan S (nearest_device S.tree o.id.0);
  request = r;
  length = (info_of S.requests (handle_id r)).length;
  code = (info_of S.requests (handle_id r)).code;
  status = status_for S c (handle_id r);
  script = unwrap_or (script_in plan S c o.id.0) 0;
  at = 0;
  variables = replicate 16 (Num 0);
  counters = replicate 16 0;
  until = 0;
  pending = None;
}

-- frame f takes the lock l, not by a call; nothing where there is none
abbrev pub take_if_any : ℕ → Option LockRef → List Deed
take_if_any f None = []
take_if_any f (Some l) = TakeLock l (frame_id f) false ∷ []

-- the lock l is given back; nothing where there is none
abbrev pub release_if_any : Option LockRef → List Deed
release_if_any None = []
release_if_any (Some l) = ReleaseLock l ∷ []

-- what the start of callback c on object o does: its rank's own effect, then its frame is on top of processor cpu,
-- then its lock is taken (KMDF)
abbrev pub start_deeds : {A : Type 0} → Plan → State A → ℕ → Callback → Handle → Option Handle → List Deed
start_deeds plan S cpu c o r =
    start_effect plan S cpu c o.id.0 r
    ++ PushFrame (cpu_of cpu) (frame_id (next_number S)) (new_frame plan S c o r) (irql_of (callback_irql plan c o.id.0))
    ∷ take_if_any (next_number S) (lock_of_callback plan c o.id.0 (declared_in plan S o.id.0))

-- ---- ends

-- what the end of callback c of object o with result v means for its device: a step of a sequence gives its result,
-- any other callback nothing
abbrev pub end_of_step : {A : Type 0} → Plan → State A → Rank → Callback → ℕ → Value → List Deed
end_of_step plan S rank.Sequence c o v = EndStep (object_id (nearest_device S.tree o)) (step_of plan S c o) v ∷ []
end_of_step plan S _ c o v = []

-- what the end of callback c of object o with result v does: its lock is given back, its frame is gone, and a step
-- gives its result (KMDF)
abbrev pub end_deeds : {A : Type 0} → Plan → State A → ℕ → Callback → ℕ → Value → List Deed
end_deeds plan S cpu c o v =
    release_if_any (lock_of_callback plan c o (declared_in plan S o)) ++ PopFrame (cpu_of cpu) ∷ end_of_step plan S (row_of c).rank c o v
