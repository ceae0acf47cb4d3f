-- The wait list of a stuck run: a line for each open thing, with the first cause that holds; where
-- several things fit, the least is named. (own)
use Rattle.std.specs.Prelude.{if◌then◌else◌, ℕ, Bool, true, false, ◌==◌, nat_lt, not, ◌&&◌, ◌||◌, List, [], ◌∷◌, ◌++◌, length, map, filter, take_while, find, Option, Some, None, is_some, option_map, option_and_then, unwrap_or}
use Rattle.std.specs.List.{filter_map, flat_map, list_all, list_any, range_with_len}
use Rattle.wdf_base.specs.Meaning.{Meaning}
use Rattle.wdf_base.specs.declared.plan.Plan.{Plan}
use Rattle.wdf_base.specs.declared.ids.Handle.{Handle}
use Rattle.wdf_base.specs.declared.object.Place.{Place}
use Rattle.wdf_base.specs.declared.object.Place.TheVariants as place
use Rattle.wdf_base.specs.declared.object.LockRef.{LockRef}
use Rattle.wdf_base.specs.declared.call.Call.{Call}
use Rattle.wdf_base.specs.declared.call.CallKind.TheVariants as call
use Rattle.wdf_base.specs.declared.call.Callback.{Callback}
use Rattle.wdf_base.specs.declared.call.Callback.TheVariants as callback
use Rattle.wdf_base.specs.declared.event.Stage.{Stage}
use Rattle.wdf_base.specs.declared.event.Stage.TheVariants as stage
use Rattle.wdf_base.specs.declared.event.Step.{Step}
use Rattle.wdf_base.specs.declared.event.Step.TheVariants as step
use Rattle.wdf_base.specs.declared.event.Event.{Event}
use Rattle.wdf_base.specs.declared.event.Ending.{Ending}
use Rattle.wdf_base.specs.declared.event.Ending.TheVariants as ending
use Rattle.wdf_base.specs.declared.event.Post.{Post}
use Rattle.wdf_base.specs.declared.event.Post.TheVariants as post
use Rattle.wdf_base.specs.declared.frame.Frame.{Frame}
use Rattle.wdf_base.specs.declared.frame.Pending.{Pending}
use Rattle.wdf_base.specs.declared.wait.OpenThing.TheVariants as thing
use Rattle.wdf_base.specs.declared.wait.Cause.{Cause}
use Rattle.wdf_base.specs.declared.wait.Cause.TheVariants as cause
use Rattle.wdf_base.specs.declared.wait.WaitLine.{WaitLine}
use Rattle.wdf_base.specs.Same.{same_callback}
use Rattle.wdf_base.specs.Lives.{is_asked, is_cleaned, is_past_cleanup}
use Rattle.wdf_base.specs.Places.{is_returning_to, is_sent_to}
use Rattle.wdf_base.specs.Callbacks.{dpc_function}
use Rattle.wdf_model.specs.Ids.{frame_id}
use Rattle.wdf_model.specs.Tables.{contains, first_of_list, ids_of, least}
use Rattle.wdf_model.specs.Plans.{callback_irql, interrupts_of, is_manual_queue, managed_queues, queue_level}
use Rattle.wdf_model.specs.parts.Tree.{children, kind_of, life_of, parent_of, references_of, started, younger_siblings}
use Rattle.wdf_model.specs.parts.Cpus.{all_frames, frame_of, is_empty_cpu, is_on}
use Rattle.wdf_model.specs.parts.Locks.{holder, is_free_if_any, lock_of_callback, object_lock, scope_of}
use Rattle.wdf_model.specs.parts.Requests.{place_of, request_of}
use Rattle.wdf_model.specs.parts.Queues.{is_free, waiting_in}
use Rattle.wdf_model.specs.parts.Control.{delivers_in, mode_of}
use Rattle.wdf_model.specs.parts.Power.{resume_due, unsettled}
use Rattle.wdf_model.specs.parts.Pnp.{follows_queues_up, next_step, running_step}
use Rattle.wdf_model.specs.parts.Deferred.Dpcs.{dpc_head, dpcs_of, is_dpc_queued}
use Rattle.wdf_model.specs.parts.Deferred.WorkItems.{is_work_queued}
use Rattle.wdf_model.specs.parts.Targets.{is_undone, routine_due}
use Rattle.wdf_model.specs.State.{State, declared_in, declares_in, handle_in, held_from, object_in, waits_for, is_powered}
use Rattle.wdf_model.specs.rules.Starts.{clean_ready, destroy_ready, handle_id, is_unfinished_at, level_fits, targets_at}
use Rattle.wdf_model.specs.rules.Posts.{due_of}
use Rattle.wdf_model.specs.rules.Steps.{wait_is_over}
use Rattle.wdf_model.specs.rules.Ready.{ending_of, is_open_post, open_devices, open_objects, open_requests, open_work, state_after}

-- ---- causes

-- the first of these causes that there is
abbrev pub first_cause : List (Option Cause) → Option Cause
first_cause causes = first_of_list (filter_map (λ c. c) causes)

-- cause c where the test holds, else none
abbrev pub cause_if : Bool → Cause → Option Cause
cause_if true c = Some c
cause_if false c = None

-- the frame with the least number of these keeps it; none where there are none
abbrev pub by_frame : List ℕ → Option Cause
by_frame fs = option_map (λ f. cause.ByFrame (frame_id f)) (least fs)

-- the request with the least id of these keeps it; none where there are none
abbrev pub by_request : {A : Type 0} → Plan → State A → List ℕ → Option Cause
by_request plan S rs = option_map (λ r. cause.ByRequest (handle_in plan S r)) (least rs)

-- the numbers of the frames that pass a test, those on processors and then the parked ones
abbrev pub frames_where : {A : Type 0} → State A → (Frame → Bool) → List ℕ
frames_where S test = filter (λ f. test (frame_of S.cpus f)) (all_frames S.cpus)

-- the ids of the requests whose place passes a test, rising
abbrev pub requests_where : {A : Type 0} → State A → (Place → Bool) → List ℕ
requests_where S test = filter (λ r. test (place_of S.requests r)) (ids_of S.requests.all)

-- the frame that holds lock l, as a list; the empty list where the lock is free or there is none
abbrev pub holders_of : {A : Type 0} → State A → Option LockRef → List ℕ
holders_of S None = []
holders_of S (Some l) = filter_map (λ x. x) (holder S.locks l ∷ [])

-- the processors, from 0 up
abbrev pub all_cpus : Plan → List ℕ
all_cpus plan = range_with_len 0 plan.cpus

-- no processor can take a start of this level
abbrev pub no_cpu : {A : Type 0} → Plan → State A → ℕ → Bool
no_cpu plan S level = list_all (λ cpu. not (level_fits S cpu level)) (all_cpus plan)

-- the scope lock that callback c of object o needs is held; no where it needs none
abbrev pub scope_is_held : {A : Type 0} → Plan → State A → Callback → ℕ → Bool
scope_is_held plan S c o = not (is_free_if_any S.locks (scope_of plan c o (declared_in plan S o)))

-- ---- frames

-- the frames above frame f in a processor's stack, whose top comes first; none where f isn't in it
abbrev pub above_in : ℕ → List ℕ → List ℕ
above_in f stack = if contains f stack then take_while (λ g. not (g == f)) stack else []

-- the frames above frame f on its processor; none above a parked one
abbrev pub frames_above : {A : Type 0} → State A → ℕ → List ℕ
frames_above S f = flat_map (above_in f) S.cpus.stacks

-- the frame that holds the lock of object o keeps the call; none where the lock is free
abbrev pub by_lock : {A : Type 0} → Plan → State A → ℕ → Option Cause
by_lock plan S o = option_map (λ g. cause.ByLock (handle_in plan S o) (frame_id g)) (holder S.locks (object_lock o))

-- the least frame that runs on object o keeps it; none where no frame does
abbrev pub by_frame_on : {A : Type 0} → State A → ℕ → Option Cause
by_frame_on S o = by_frame (filter (is_on S.cpus o) (all_frames S.cpus))

-- what call c waits for, by its row
abbrev pub call_cause : {A : Type 0} → Plan → State A → Call → Option Cause
call_cause plan S c = elim c.kind as (λ _. Option Cause) [
  -- the frame that holds the lock
  | call.WdfSpinLockAcquire ↦ by_lock plan S (object_in c.a)
  -- the same
  | call.WdfWaitLockAcquire ↦ by_lock plan S (object_in c.a)
  -- the same
  | call.WdfInterruptAcquireLock ↦ by_lock plan S (object_in c.a)
  -- the requests that the driver holds from the queue
  | call.WdfIoQueueStopSynchronously ↦ by_request plan S (held_from S (object_in c.a))
  -- the same, and what waits in the queue
  | call.WdfIoQueueDrainSynchronously ↦ by_request plan S (held_from S (object_in c.a) ++ waiting_in S.queues (object_in c.a))
  -- what the driver holds from the queue, and what returns to it
  | call.WdfIoQueuePurgeSynchronously ↦ by_request plan S (held_from S (object_in c.a) ++ requests_where S (is_returning_to (object_in c.a)))
  -- what is sent to the target
  | call.WdfIoTargetStop ↦ by_request plan S (requests_where S (is_sent_to (object_in c.a)))
  -- a frame that runs on it
  | call.WdfDpcCancel ↦ by_frame_on S (object_in c.a)
  -- the same
  | call.WdfTimerStop ↦ by_frame_on S (object_in c.a)
  -- a frame that runs on it, else the work item itself, which is still queued
  | call.WdfWorkItemFlush ↦ first_cause (by_frame_on S (object_in c.a) ∷ cause_if (is_work_queued S.work_items (object_in c.a)) (cause.ByWork (handle_in plan S (object_in c.a))) ∷ [])
  -- the other calls never wait
  | _ ↦ None
]

-- what a frame's pending call waits for; none where it has none
abbrev pub pending_cause : {A : Type 0} → Plan → State A → Option Pending → Option Cause
pending_cause plan S None = None
pending_cause plan S (Some p) = call_cause plan S p.call

-- parked frame f, whose wait is over, finds no empty processor
abbrev pub parked_for_cpu : {A : Type 0} → Plan → State A → ℕ → Bool
parked_for_cpu plan S f =
    contains f S.cpus.parked && wait_is_over S (frame_of S.cpus f).pending && list_all (λ cpu. not (is_empty_cpu S.cpus cpu)) (all_cpus plan)

-- why frame f doesn't go on: a frame above it, what its call waits for, or no processor to come back to
abbrev pub frame_cause : {A : Type 0} → Plan → State A → ℕ → Option Cause
frame_cause plan S f =
    first_cause (by_frame (frames_above S f) ∷ pending_cause plan S (frame_of S.cpus f).pending ∷ cause_if (parked_for_cpu plan S f) cause.NoCpu ∷ [])

-- the line of frame f
abbrev pub frame_line : {A : Type 0} → Plan → State A → ℕ → WaitLine
frame_line plan S f = record {
  thing = thing.Waiting (frame_id f) (frame_of S.cpus f).callback (frame_of S.cpus f).object;
  cause = frame_cause plan S f;
}

-- the numbers of all frames, rising
abbrev pub frames_in_order : {A : Type 0} → State A → List ℕ
frames_in_order S = filter (λ f. contains f (all_frames S.cpus)) (ids_of S.cpus.frames)

-- ---- requests

-- the requests ahead of request r in queue q
abbrev pub ahead : {A : Type 0} → State A → ℕ → ℕ → List ℕ
ahead S q r = take_while (λ x. not (x == r)) (waiting_in S.queues q)

-- the scope lock of queue q is held; each of a queue's callbacks needs the same one, so that any of them can be
-- asked
abbrev pub queue_scope_held : {A : Type 0} → Plan → State A → ℕ → Bool
queue_scope_held plan S q = scope_is_held plan S callback.EvtIoDefault q

-- why request r still waits in queue q, the first of seven causes
abbrev pub queued_cause : {A : Type 0} → Plan → State A → ℕ → ℕ → Option Cause
queued_cause plan S q r =
    first_cause (
    cause_if (not (delivers_in (mode_of S.control q))) cause.Stopped
    ∷ cause_if (not (is_powered plan S q)) cause.Unpowered
    ∷ cause_if (is_manual_queue plan q) cause.Manual
    ∷ option_map (λ x. cause.Behind (handle_in plan S x)) (least (ahead S q r))
    ∷ cause_if (not (is_free S.queues q)) cause.Full
    ∷ cause_if (queue_scope_held plan S q) cause.ScopeHeld
    ∷ cause_if (no_cpu plan S (queue_level plan q)) cause.NoCpu
    ∷ [])

-- why the EvtIoCanceledOnQueue of queue q doesn't start for a request: the scope lock, or no processor
abbrev pub returning_cause : {A : Type 0} → Plan → State A → ℕ → Option Cause
returning_cause plan S q =
    first_cause (cause_if (queue_scope_held plan S q) cause.ScopeHeld ∷ cause_if (no_cpu plan S (queue_level plan q)) cause.NoCpu ∷ [])

-- the line of request r, by its place
abbrev pub request_line : {A : Type 0} → Plan → State A → ℕ → Place → Option WaitLine
request_line plan S r place.Owned = Some (record { thing = thing.Owned (handle_in plan S r); cause = None })
request_line plan S r (place.Sent t) = Some (record { thing = thing.Sent (handle_in plan S r) (handle_in plan S t.0); cause = None })
request_line plan S r (place.Queued q) =
    Some (record { thing = thing.Queued (handle_in plan S r) (handle_in plan S q.0); cause = queued_cause plan S q.0 r })
request_line plan S r (place.Returning q) =
    Some (record { thing = thing.Returning (handle_in plan S r) (handle_in plan S q.0); cause = returning_cause plan S q.0 })
-- a request that is about to be completed never waits, nor does a completed one
request_line plan S r (place.Closing s) = None
request_line plan S r place.Done = None

-- ---- devices

-- a frame is one of callback c, on device d or below it
abbrev pub runs_step : ℕ → Callback → Frame → Bool
runs_step d c frame = same_callback frame.callback c && frame.device.id.0 == d

-- the requests that the driver holds from queue q and whose resume is due
abbrev pub resumes_at : {A : Type 0} → Plan → State A → ℕ → List ℕ
resumes_at plan S q = filter (resume_due S.power) (held_from S q)

-- the power-managed queues of device d with a resume that is due
abbrev pub queues_to_resume : {A : Type 0} → Plan → State A → ℕ → List ℕ
queues_to_resume plan S d = filter (λ q. nat_lt 0 (length (resumes_at plan S q))) (managed_queues plan d)

-- the frames that hold the scope locks of these queues
abbrev pub scope_holders : {A : Type 0} → Plan → State A → List ℕ → List ℕ
scope_holders plan S queues = flat_map (λ q. holders_of S (scope_of plan callback.EvtIoResume q (declared_in plan S q))) queues

-- what keeps the step of device d after `queues_up`: EvtIoResume runs, or its scope lock is held
abbrev pub resume_frames : {A : Type 0} → Plan → State A → ℕ → List ℕ
resume_frames plan S d = frames_where S (runs_step d callback.EvtIoResume) ++ scope_holders plan S (queues_to_resume plan S d)

-- the DPC of an interrupt of device d is in the list of processor cpu
abbrev pub has_dpc_of : {A : Type 0} → Plan → State A → ℕ → ℕ → Bool
has_dpc_of plan S d cpu = list_any (λ i. contains i (dpcs_of S.dpcs cpu)) (interrupts_of plan d)

-- the processors in whose list the DPC of an interrupt of device d is
abbrev pub cpus_with_dpc : {A : Type 0} → Plan → State A → ℕ → List ℕ
cpus_with_dpc plan S d = filter (has_dpc_of plan S d) (all_cpus plan)

-- the scope lock that the first DPC of processor cpu needs; none where it needs none or the list is empty
abbrev pub head_lock : {A : Type 0} → Plan → State A → ℕ → Option LockRef
head_lock plan S cpu = option_and_then (λ o. scope_of plan (dpc_function (kind_of S.tree o)) o (declared_in plan S o)) (dpc_head S.dpcs cpu)

-- what keeps `quiet` of device d: EvtInterruptDpc runs, or a frame holds a lock that the first DPC of a processor
-- needs, where a DPC of the device is in that processor's list
abbrev pub quiet_frames : {A : Type 0} → Plan → State A → ℕ → List ℕ
quiet_frames plan S d =
    frames_where S (runs_step d callback.EvtInterruptDpc) ++ flat_map (λ cpu. holders_of S (head_lock plan S cpu)) (cpus_with_dpc plan S d)

-- the requests for which stage s of device d waits
abbrev pub stage_requests : {A : Type 0} → Plan → State A → ℕ → Stage → List ℕ
-- those that aren't acknowledged
stage_requests plan S d stage.Settled = unsettled S.power d
-- those of the device that aren't done, and those at its targets
stage_requests plan S d stage.Removed =
    filter (λ r. is_unfinished_at d (request_of S.requests r) || list_any (λ t. is_sent_to t (place_of S.requests r)) (targets_at plan d)) (ids_of S.requests.all)
-- the other stages wait for no request
stage_requests plan S d _ = []

-- the frames for which stage s of device d waits; i is the interrupt of `disabled`
abbrev pub stage_frames : {A : Type 0} → Plan → State A → ℕ → Stage → Option Handle → List ℕ
-- those that run on a power-managed queue
stage_frames plan S d stage.Settled i = flat_map (λ q. filter (is_on S.cpus q) (all_frames S.cpus)) (managed_queues plan d)
-- the one that holds the interrupt's lock
stage_frames plan S d stage.Disabled i = holders_of S (Some (object_lock (handle_id i)))
-- those that keep an EvtInterruptDpc from ending
stage_frames plan S d stage.Quiet i = quiet_frames plan S d
-- the other stages wait for no frame
stage_frames plan S d _ i = []

-- stage s of device d waits for a DPC that is in the list of a processor whose level is DISPATCH_LEVEL, 2, or
-- higher
abbrev pub stage_cpus : {A : Type 0} → Plan → State A → ℕ → Stage → Bool
stage_cpus plan S d stage.Quiet = list_any (λ cpu. not (level_fits S cpu 2)) (cpus_with_dpc plan S d)
-- no other stage waits for a start
stage_cpus plan S d _ = false

-- an EvtIoResume of device d is due that no processor can take
abbrev pub resume_cpus : {A : Type 0} → Plan → State A → ℕ → Bool
resume_cpus plan S d = list_any (λ q. no_cpu plan S (queue_level plan q)) (queues_to_resume plan S d)

-- the object of a step's callback: the interrupt that the step names, else device d
abbrev pub object_of_step : ℕ → Option Handle → ℕ
object_of_step d None = d
object_of_step d (Some i) = i.id.0

-- why step s of device d doesn't come: for a callback its lock or the processors; for a stage what it waits for,
-- requests first
abbrev pub step_cause : {A : Type 0} → Plan → State A → ℕ → Step → Option Cause
step_cause plan S d (step.Run c i) =
    first_cause (
    by_frame (holders_of S (lock_of_callback plan c (object_of_step d i) (declared_in plan S (object_of_step d i))))
    ∷ cause_if (no_cpu plan S (callback_irql plan c (object_of_step d i))) cause.NoCpu
    ∷ [])
step_cause plan S d (step.Pass s i) =
    first_cause (by_request plan S (stage_requests plan S d s) ∷ by_frame (stage_frames plan S d s i) ∷ cause_if (stage_cpus plan S d s) cause.NoCpu ∷ [])

-- why the step of device d after `queues_up` waits for resumes; none for any other step
abbrev pub resumes_cause : {A : Type 0} → Plan → State A → ℕ → Option Cause
resumes_cause plan S d =
    if follows_queues_up S.pnp d then first_cause (by_frame (resume_frames plan S d) ∷ cause_if (resume_cpus plan S d) cause.NoCpu ∷ [])
    else None

-- the line of device d, whose next step s doesn't come
abbrev pub next_step_line : {A : Type 0} → Plan → State A → ℕ → Step → WaitLine
next_step_line plan S d s = record {
  thing = thing.Sequence (handle_in plan S d) s;
  cause = first_cause (resumes_cause plan S d ∷ step_cause plan S d s ∷ []);
}

-- the callback of step s of device d that runs is its own cause
abbrev pub running_cause : {A : Type 0} → State A → ℕ → Step → Option Cause
running_cause S d (step.Run c i) = by_frame (frames_where S (runs_step d c))
running_cause S d (step.Pass s i) = None

-- the line of device d, where the callback of step s runs
abbrev pub running_line : {A : Type 0} → Plan → State A → ℕ → Step → WaitLine
running_line plan S d s = record { thing = thing.Sequence (handle_in plan S d) s; cause = running_cause S d s }

-- the line of device d: of the step that runs, else of the next one, else none
abbrev pub sequence_line : {A : Type 0} → Plan → State A → ℕ → Option Step → Option Step → Option WaitLine
sequence_line plan S d (Some s) next = Some (running_line plan S d s)
sequence_line plan S d None (Some s) = Some (next_step_line plan S d s)
sequence_line plan S d None None = None

-- the line of device d
abbrev pub device_line : {A : Type 0} → Plan → State A → ℕ → Option WaitLine
device_line plan S d = sequence_line plan S d (running_step S.pnp d) (next_step S.pnp d)

-- ---- objects

-- the younger siblings of object o, where the deletion of the parent was asked; they go first
abbrev pub waits_for_younger : {A : Type 0} → State A → ℕ → List ℕ
waits_for_younger S o = if is_asked (life_of S.tree (parent_of S.tree o)) then younger_siblings S.tree o else []

-- those of these objects that aren't cleaned up
abbrev pub not_cleaned : {A : Type 0} → State A → List ℕ → List ℕ
not_cleaned S os = filter (λ x. not (is_past_cleanup (life_of S.tree x))) os

-- the children and the younger siblings that must go before object o. Once o is cleaned up these are its children,
-- which must be gone; before that, those that aren't cleaned up.
abbrev pub children_first : {A : Type 0} → State A → ℕ → List ℕ
children_first S o =
    if is_cleaned (life_of S.tree o) then children S.tree o
    else not_cleaned S (children S.tree o ++ waits_for_younger S o)

-- the frames that run on object o, hold it as a lock or wait for it
abbrev pub users : {A : Type 0} → State A → ℕ → List ℕ
users S o =
    filter (is_on S.cpus o) (all_frames S.cpus) ++ holders_of S (Some (object_lock o)) ++ frames_where S (λ frame. waits_for o frame.pending)

-- the frames that keep object o: once it is cleaned up only those that run on it
abbrev pub users_that_keep : {A : Type 0} → State A → ℕ → List ℕ
users_that_keep S o = if is_cleaned (life_of S.tree o) then filter (is_on S.cpus o) (all_frames S.cpus) else users S o

-- a callback of object o's end could start, or the completion routine of the request o that was sent, and no
-- processor is left
abbrev pub object_cpus : {A : Type 0} → Plan → State A → ℕ → Bool
object_cpus plan S o =
    (((clean_ready S o && declares_in plan S callback.EvtCleanupCallback o && not (started S.tree o callback.EvtCleanupCallback))
    || (destroy_ready S o && declares_in plan S callback.EvtDestroyCallback o && not (started S.tree o callback.EvtDestroyCallback)))
    && no_cpu plan S 0)
    || (is_some (routine_due S.targets o) && no_cpu plan S 2)

-- the target at which a request is; none at other places
abbrev pub target_of_place : Place → Option ℕ
target_of_place (place.Sent t) = Some t.0
target_of_place _ = None

-- object o is a request that its target isn't done with
abbrev pub at_target : {A : Type 0} → Plan → State A → ℕ → Option Cause
at_target plan S o =
    if is_undone S.targets o then option_map (λ t. cause.AtTarget (handle_in plan S t)) (target_of_place (place_of S.requests o)) else None

-- how many references keep object o; they do once it is cleaned up
abbrev pub references_cause : {A : Type 0} → State A → ℕ → Option Cause
references_cause S o =
    cause_if (is_cleaned (life_of S.tree o) && nat_lt 0 (references_of S.tree o)) (cause.References (references_of S.tree o))

-- why object o isn't gone: references, a child or sibling, a frame, no processor, or its target, the first that
-- holds
abbrev pub object_cause : {A : Type 0} → Plan → State A → ℕ → Option Cause
object_cause plan S o =
    first_cause (
    references_cause S o
    ∷ option_map (λ x. cause.ByChild (handle_in plan S x)) (least (children_first S o))
    ∷ by_frame (users_that_keep S o)
    ∷ cause_if (object_cpus plan S o) cause.NoCpu
    ∷ at_target plan S o
    ∷ [])

-- the line of object o
abbrev pub object_line : {A : Type 0} → Plan → State A → ℕ → WaitLine
object_line plan S o = record { thing = thing.Leaving (handle_in plan S o); cause = object_cause plan S o }

-- ---- deferred work

-- the processor in whose list DPC o is; 0 where it is in none
abbrev pub cpu_of_dpc : {A : Type 0} → Plan → State A → ℕ → ℕ
cpu_of_dpc plan S o = unwrap_or (find (λ cpu. contains o (dpcs_of S.dpcs cpu)) (all_cpus plan)) 0

-- why DPC o doesn't start: the lock that it needs is held, or that of the first in its processor's list, or the
-- processor's level is too high
abbrev pub dpc_cause : {A : Type 0} → Plan → State A → ℕ → Option Cause
dpc_cause plan S o =
    first_cause (
    cause_if (scope_is_held plan S (dpc_function (kind_of S.tree o)) o || not (is_free_if_any S.locks (head_lock plan S (cpu_of_dpc plan S o)))) cause.ScopeHeld
    ∷ cause_if (not (level_fits S (cpu_of_dpc plan S o) 2)) cause.NoCpu
    ∷ [])

-- why timer or work item o doesn't start: the scope lock that its callback c needs, a frame that runs on it, or no
-- processor for this level
abbrev pub work_cause : {A : Type 0} → Plan → State A → Callback → ℕ → ℕ → Option Cause
work_cause plan S c level o =
    first_cause (cause_if (scope_is_held plan S c o) cause.ScopeHeld ∷ by_frame_on S o ∷ cause_if (no_cpu plan S level) cause.NoCpu ∷ [])

-- why deferred work o doesn't start: a DPC, else a work item, else a timer; their levels are 2, 0 and 2
abbrev pub deferred_cause : {A : Type 0} → Plan → State A → ℕ → Option Cause
deferred_cause plan S o =
    if is_dpc_queued S.dpcs o then dpc_cause plan S o
    else if is_work_queued S.work_items o then work_cause plan S callback.EvtWorkItem 0 o
    else work_cause plan S callback.EvtTimerFunc 2 o

-- the line of deferred work o
abbrev pub deferred_line : {A : Type 0} → Plan → State A → ℕ → WaitLine
deferred_line plan S o = record { thing = thing.Deferred (handle_in plan S o); cause = deferred_cause plan S o }

-- ---- agents

-- the line of the Plug and Play manager, whose due post waits for a device; no line where it doesn't
abbrev pub asking_line : {A : Type 0} → State A → Option Post → List WaitLine
asking_line S (Some (post.Ask a device)) =
    if is_open_post S (Some (post.Ask a device)) then record { thing = thing.Asking device; cause = None } ∷ [] else []
asking_line S _ = []

-- ---- the list

-- all lines: frames by number; requests, devices, objects and deferred work by id; then the Plug and Play manager
abbrev pub wait_lines : {A : Type 0} → Plan → Meaning A → State A → List WaitLine
wait_lines plan m S =
    map (frame_line plan S) (frames_in_order S)
    ++ filter_map (λ r. request_line plan S r (place_of S.requests r)) (open_requests S)
    ++ filter_map (device_line plan S) (open_devices plan S)
    ++ map (object_line plan S) (open_objects S)
    ++ map (deferred_line plan S) (open_work S)
    ++ asking_line S (due_of m S 0)

-- these lines for a stuck run, none for any other
abbrev pub if_stuck : Ending → List WaitLine → List WaitLine
if_stuck ending.Stuck ls = ls
if_stuck _ ls = []

-- the wait list of a run
unfoldable pub wait_list : {A : Type 0} → Plan → Meaning A → List Event → List WaitLine
wait_list plan m run = if_stuck (ending_of plan m run) (wait_lines plan m (state_after plan m run))
