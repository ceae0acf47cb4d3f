-- When what a line of a wait list names is so, in the state of the stuck run: a test for each form of line.
use Rattle.std.specs.Prelude.{if◌then◌else◌, ℕ, Bool, true, false, ◌==◌, nat_le, nat_lt, not, ◌&&◌, ◌||◌, List, [], ◌∷◌, Option, Some, None, is_some, option_and_then}
use Rattle.std.specs.List.{list_all, list_any, range_with_len}
use Rattle.wdf_base.specs.declared.plan.Plan.{Plan}
use Rattle.wdf_base.specs.declared.ids.Handle.{Handle}
use Rattle.wdf_base.specs.declared.object.LockRef.{LockRef}
use Rattle.wdf_base.specs.declared.call.Call.{Call}
use Rattle.wdf_base.specs.declared.call.CallKind.{CallKind}
use Rattle.wdf_base.specs.declared.call.CallKind.TheVariants as call
use Rattle.wdf_base.specs.declared.call.Callback.{Callback}
use Rattle.wdf_base.specs.declared.call.Callback.TheVariants as callback
use Rattle.wdf_base.specs.declared.event.Stage.{Stage}
use Rattle.wdf_base.specs.declared.event.Stage.TheVariants as stage
use Rattle.wdf_base.specs.declared.event.Step.{Step}
use Rattle.wdf_base.specs.declared.event.Step.TheVariants as step
use Rattle.wdf_base.specs.declared.frame.Pending.{Pending}
use Rattle.wdf_base.specs.declared.wait.Cause.{Cause}
use Rattle.wdf_base.specs.declared.wait.Cause.TheVariants as cause
use Rattle.wdf_base.specs.declared.wait.OpenThing.{OpenThing}
use Rattle.wdf_base.specs.declared.wait.OpenThing.TheVariants as thing
use Rattle.wdf_base.specs.Same.{same_callback}
use Rattle.wdf_base.specs.Lives.{is_asked, is_cleaned, is_past_cleanup}
use Rattle.wdf_base.specs.Places.{is_returning_to, is_sent_to}
use Rattle.wdf_base.specs.Callbacks.{dpc_function}
use Rattle.wdf_base.specs.Calls.{is_acquire}
use Rattle.wdf_model.specs.Tables.{contains, same_id}
use Rattle.wdf_model.specs.Plans.{callback_irql, device_of_queue, is_managed, is_manual_queue, managed_queues, queue_level}
use Rattle.wdf_model.specs.parts.Tree.{is_child, kind_of, life_of, parent_of, references_of}
use Rattle.wdf_model.specs.parts.Cpus.{all_frames, frame_of, irql, is_empty_cpu, is_on}
use Rattle.wdf_model.specs.parts.Locks.{holder, lock_of_callback, object_lock, scope_of}
use Rattle.wdf_model.specs.parts.Requests.{place_of, request_of}
use Rattle.wdf_model.specs.parts.Queues.{is_free, waiting_in}
use Rattle.wdf_model.specs.parts.Control.{delivers_in, mode_of}
use Rattle.wdf_model.specs.parts.Power.{holding_of, is_unsettled_at, queues_up}
use Rattle.wdf_model.specs.parts.Deferred.WorkItems.{is_work_queued}
use Rattle.wdf_model.specs.parts.Deferred.Dpcs.{is_dpc_queued}
use Rattle.wdf_model.specs.parts.Pnp.{follows_queues_up, is_running_step}
use Rattle.wdf_model.specs.parts.Targets.{is_undone}
use Rattle.wdf_model.specs.State.{State, declared_in, is_held_from, object_in, waits_for}
use Rattle.wdf_model.specs.rules.Starts.{handle_id, is_unfinished_at, targets_at}
use Rattle.wdf_model.specs.rules.Steps.{wait_is_over}
use Rattle.wdf_model.specs.rules.Waits.{cpu_of_dpc, cpus_with_dpc, head_lock, object_of_step, queues_to_resume}

-- ---- words for several forms of line

-- a frame is there, on a processor or parked
abbrev pub is_there : {A : Type 0} → State A → ℕ → Bool
is_there S f = contains f (all_frames S.cpus)

-- a frame is there, and runs on this object
abbrev pub runs_on : {A : Type 0} → State A → ℕ → ℕ → Bool
runs_on S o f = is_there S f && is_on S.cpus o f

-- a frame holds the lock
abbrev pub has_lock : {A : Type 0} → State A → LockRef → ℕ → Bool
has_lock S l f = same_id (holder S.locks l) f

-- some frame holds the lock, where there is one
abbrev pub is_held_lock : {A : Type 0} → State A → Option LockRef → Bool
is_held_lock S l = is_some (option_and_then (holder S.locks) l)

-- a processor is taken for a callback of this level: for level 0 some frame is on it, for another its level is as high
abbrev pub is_taken : {A : Type 0} → State A → ℕ → ℕ → Bool
is_taken S level cpu = if level == 0 then not (is_empty_cpu S.cpus cpu) else nat_le level (irql S.cpus cpu)

-- each processor of the plan is
abbrev pub all_taken : {A : Type 0} → Plan → State A → ℕ → Bool
all_taken plan S level = list_all (is_taken S level) (range_with_len 0 plan.cpus)

-- ---- frames

-- x comes before y in a list
abbrev pub is_before : ℕ → ℕ → List ℕ → Bool
is_before x y [] = false
is_before x y (z ∷ zs) = if z == x then contains y zs else is_before x y zs

-- a frame is above another on a processor
abbrev pub is_above : {A : Type 0} → State A → ℕ → ℕ → Bool
is_above S g f = list_any (is_before g f) S.cpus.stacks

-- the calls that wait until no frame runs on their object
abbrev pub waits_for_frames : CallKind → Bool
waits_for_frames call.WdfDpcCancel = true
waits_for_frames call.WdfTimerStop = true
waits_for_frames call.WdfWorkItemFlush = true
waits_for_frames _ = false

-- the call that waits until a work item isn't queued
abbrev pub waits_for_item : CallKind → Bool
waits_for_item call.WdfWorkItemFlush = true
waits_for_item _ = false

-- a request that a call waits for: it is held from the call's queue, waits in it or returns from it, or is at the
-- call's target
abbrev pub is_awaited : {A : Type 0} → State A → CallKind → ℕ → ℕ → Bool
is_awaited S call.WdfIoQueueStopSynchronously o r = is_held_from S o r
is_awaited S call.WdfIoQueueDrainSynchronously o r = is_held_from S o r || contains r (waiting_in S.queues o)
is_awaited S call.WdfIoQueuePurgeSynchronously o r = is_held_from S o r || is_returning_to o (place_of S.requests r)
is_awaited S call.WdfIoTargetStop o r = is_sent_to o (place_of S.requests r)
is_awaited S _ o r = false

-- what keeps a waiting call from being over
abbrev pub keeps_call : {A : Type 0} → State A → Call → Cause → Bool
-- the call acquires this lock, and the frame holds it
keeps_call S c (cause.ByLock l g) = is_acquire c.kind && l.id.0 == object_in c.a && has_lock S (object_lock (object_in c.a)) g.0
-- the call waits for this request
keeps_call S c (cause.ByRequest r) = is_awaited S c.kind (object_in c.a) r.id.0
-- the call waits for this frame, which runs on the call's object
keeps_call S c (cause.ByFrame g) = waits_for_frames c.kind && runs_on S (object_in c.a) g.0
-- the call waits for this work item, which is queued
keeps_call S c (cause.ByWork w) = waits_for_item c.kind && w.id.0 == object_in c.a && is_work_queued S.work_items (object_in c.a)
keeps_call S c _ = false

abbrev pub keeps_pending : {A : Type 0} → State A → Option Pending → Cause → Bool
keeps_pending S None x = false
keeps_pending S (Some p) x = keeps_call S p.call x

-- a frame that is above this one on its processor
abbrev pub keeps_below : {A : Type 0} → State A → ℕ → Cause → Bool
keeps_below S f (cause.ByFrame g) = is_above S g.0 f
keeps_below S f _ = false

-- the frame is parked, its wait is over, and each processor has a frame
abbrev pub keeps_parked : {A : Type 0} → Plan → State A → ℕ → Cause → Bool
keeps_parked plan S f cause.NoCpu = contains f S.cpus.parked && wait_is_over S (frame_of S.cpus f).pending && all_taken plan S 0
keeps_parked plan S f _ = false

-- The cause of a frame's line is so. The frame that it names is above it, or keeps what it waits for. The lock, the
-- request or the work item that it names is what its call waits for. Or no processor is left for it.
abbrev pub keeps_frame : {A : Type 0} → Plan → State A → ℕ → Cause → Bool
keeps_frame plan S f x = keeps_below S f x || keeps_pending S (frame_of S.cpus f).pending x || keeps_parked plan S f x

-- ---- requests

-- The cause of a queued request's line is so.
abbrev pub keeps_queued : {A : Type 0} → Plan → State A → ℕ → ℕ → Cause → Bool
-- the queue is stopped: its mode delivers nothing
keeps_queued plan S q r cause.Stopped = not (delivers_in (mode_of S.control q))
-- it is power-managed, and its device has its queues down
keeps_queued plan S q r cause.Unpowered = is_managed plan q && not (queues_up S.power (device_of_queue plan q))
-- it is manual
keeps_queued plan S q r cause.Manual = is_manual_queue plan q
-- the request that is named is before this one in the queue
keeps_queued plan S q r (cause.Behind x) = is_before x.id.0 r (waiting_in S.queues q)
-- the driver holds as many of its requests as it may
keeps_queued plan S q r cause.Full = not (is_free S.queues q)
-- some frame holds the lock that its callbacks need
keeps_queued plan S q r cause.ScopeHeld = is_held_lock S (scope_of plan callback.EvtIoDefault q (declared_in plan S q))
-- no processor can take its callbacks
keeps_queued plan S q r cause.NoCpu = all_taken plan S (queue_level plan q)
keeps_queued plan S q r _ = false

-- The cause of a returning request's line is so: the lock is held, or no processor can take the callback.
abbrev pub keeps_returning : {A : Type 0} → Plan → State A → ℕ → Cause → Bool
keeps_returning plan S q cause.ScopeHeld = is_held_lock S (scope_of plan callback.EvtIoDefault q (declared_in plan S q))
keeps_returning plan S q cause.NoCpu = all_taken plan S (queue_level plan q)
keeps_returning plan S q _ = false

-- ---- objects

-- a child that must go first: one that isn't gone of a cleaned object, and of another one that isn't cleaned up
abbrev pub is_child_ahead : {A : Type 0} → State A → ℕ → ℕ → Bool
is_child_ahead S o x = is_child S.tree o x && (is_cleaned (life_of S.tree o) || not (is_past_cleanup (life_of S.tree x)))

-- a younger sibling that must go first: its parent's deletion was asked too, and it isn't cleaned up
abbrev pub is_sibling_ahead : {A : Type 0} → State A → ℕ → ℕ → Bool
is_sibling_ahead S o x =
    is_asked (life_of S.tree (parent_of S.tree o)) && is_child S.tree (parent_of S.tree o) x && nat_lt o x && not (is_past_cleanup (life_of S.tree x))

-- a frame that runs on an object, holds its lock or waits for it
abbrev pub uses : {A : Type 0} → State A → ℕ → ℕ → Bool
uses S o f = runs_on S o f || has_lock S (object_lock o) f || (is_there S f && waits_for o (frame_of S.cpus f).pending)

-- The cause of a leaving object's line is so.
abbrev pub keeps_object : {A : Type 0} → Plan → State A → ℕ → Cause → Bool
-- it is cleaned up, and as many references are held as are named
keeps_object plan S o (cause.References n) = is_cleaned (life_of S.tree o) && n == references_of S.tree o && nat_lt 0 n
-- the child, or the younger sibling, must go first
keeps_object plan S o (cause.ByChild x) = is_child_ahead S o x.id.0 || is_sibling_ahead S o x.id.0
-- the frame uses it; where it is cleaned up, the frame runs on it
keeps_object plan S o (cause.ByFrame f) = uses S o f.0 && (not (is_cleaned (life_of S.tree o)) || runs_on S o f.0)
-- no processor can take a callback of it, or the routine of a request that its target is done with
keeps_object plan S o cause.NoCpu = all_taken plan S 0 || all_taken plan S 2
-- it is a request, at this target, which isn't done with it
keeps_object plan S o (cause.AtTarget t) = is_sent_to t.id.0 (place_of S.requests o) && is_undone S.targets o
keeps_object plan S o _ = false

-- ---- queued work

-- The lock that a DPC needs is held, or the one that the first DPC in its processor's list needs.
abbrev pub keeps_dpc : {A : Type 0} → Plan → State A → ℕ → Cause → Bool
keeps_dpc plan S o cause.ScopeHeld =
    is_held_lock S (scope_of plan (dpc_function (kind_of S.tree o)) o (declared_in plan S o)) || is_held_lock S (head_lock plan S (cpu_of_dpc plan S o))
-- its processor can't take it
keeps_dpc plan S o cause.NoCpu = is_taken S 2 (cpu_of_dpc plan S o)
keeps_dpc plan S o _ = false

-- A timer's or a work item's callback: its lock is held, it runs already, or no processor can take it.
abbrev pub keeps_work : {A : Type 0} → Plan → State A → Callback → ℕ → ℕ → Cause → Bool
keeps_work plan S c level o cause.ScopeHeld = is_held_lock S (scope_of plan c o (declared_in plan S o))
keeps_work plan S c level o (cause.ByFrame f) = runs_on S o f.0
keeps_work plan S c level o cause.NoCpu = all_taken plan S level
keeps_work plan S c level o _ = false

-- The cause of queued work's line is so.
abbrev pub keeps_deferred : {A : Type 0} → Plan → State A → ℕ → Cause → Bool
keeps_deferred plan S o x =
    if is_dpc_queued S.dpcs o then keeps_dpc plan S o x
    else if is_work_queued S.work_items o then keeps_work plan S callback.EvtWorkItem 0 o x
    else keeps_work plan S callback.EvtTimerFunc 2 o x

-- ---- devices

-- a frame runs this callback on a device, or on what has it as nearest device
abbrev pub runs_callback : {A : Type 0} → State A → ℕ → Callback → ℕ → Bool
runs_callback S d c f = is_there S f && same_callback (frame_of S.cpus f).callback c && (frame_of S.cpus f).device.id.0 == d

-- a frame holds the lock, where there is one
abbrev pub has_lock_if_any : {A : Type 0} → State A → Option LockRef → ℕ → Bool
has_lock_if_any S None f = false
has_lock_if_any S (Some l) f = has_lock S l f

-- a request that a stage waits for. For `settled` it is held from the device's power-managed queues and isn't
-- acknowledged. For `removed` it arrived for the device and isn't done, or it is at one of the device's targets.
abbrev pub awaits_request : {A : Type 0} → Plan → State A → ℕ → Stage → ℕ → Bool
awaits_request plan S d stage.Settled r = is_unsettled_at S.power d (holding_of S.power r)
awaits_request plan S d stage.Removed r =
    is_unfinished_at d (request_of S.requests r) || list_any (λ t. is_sent_to t (place_of S.requests r)) (targets_at plan d)
awaits_request plan S d _ r = false

-- a frame that a stage waits for. For `settled` it runs on a power-managed queue of the device. For `disabled` it holds
-- the interrupt's lock. For `quiet` it runs EvtInterruptDpc, or holds the lock that the first DPC needs on a processor
-- with a DPC of the device.
abbrev pub awaits_frame : {A : Type 0} → Plan → State A → ℕ → Stage → Option Handle → ℕ → Bool
awaits_frame plan S d stage.Settled i f = list_any (λ q. runs_on S q f) (managed_queues plan d)
awaits_frame plan S d stage.Disabled i f = has_lock S (object_lock (handle_id i)) f
awaits_frame plan S d stage.Quiet i f =
    runs_callback S d callback.EvtInterruptDpc f || list_any (λ cpu. has_lock_if_any S (head_lock plan S cpu) f) (cpus_with_dpc plan S d)
awaits_frame plan S d _ i f = false

-- a processor with a DPC of the device can't take it
abbrev pub awaits_cpu : {A : Type 0} → Plan → State A → ℕ → Stage → Bool
awaits_cpu plan S d stage.Quiet = list_any (is_taken S 2) (cpus_with_dpc plan S d)
awaits_cpu plan S d _ = false

-- what keeps a device's next step
abbrev pub keeps_next : {A : Type 0} → Plan → State A → ℕ → Step → Cause → Bool
-- its callback's lock is held by the frame, or no processor can take it
keeps_next plan S d (step.Run c i) (cause.ByFrame f) =
    has_lock_if_any S (lock_of_callback plan c (object_of_step d i) (declared_in plan S (object_of_step d i))) f.0
keeps_next plan S d (step.Run c i) cause.NoCpu = all_taken plan S (callback_irql plan c (object_of_step d i))
-- the stage waits for the request, for the frame, or for a processor
keeps_next plan S d (step.Pass s i) (cause.ByRequest r) = awaits_request plan S d s r.id.0
keeps_next plan S d (step.Pass s i) (cause.ByFrame f) = awaits_frame plan S d s i f.0
keeps_next plan S d (step.Pass s i) cause.NoCpu = awaits_cpu plan S d s
keeps_next plan S d _ _ = false

-- what keeps the step after `queues_up`: EvtIoResume runs, the lock that it needs is held, or no processor can take it
abbrev pub keeps_resumes : {A : Type 0} → Plan → State A → ℕ → Cause → Bool
keeps_resumes plan S d (cause.ByFrame f) =
    runs_callback S d callback.EvtIoResume f.0
    || list_any (λ q. has_lock_if_any S (scope_of plan callback.EvtIoResume q (declared_in plan S q)) f.0) (queues_to_resume plan S d)
keeps_resumes plan S d cause.NoCpu = list_any (λ q. all_taken plan S (queue_level plan q)) (queues_to_resume plan S d)
keeps_resumes plan S d _ = false

-- what keeps a running step: the frame runs its callback
abbrev pub keeps_running : {A : Type 0} → State A → ℕ → Step → Cause → Bool
keeps_running S d (step.Run c i) (cause.ByFrame f) = runs_callback S d c f.0
keeps_running S d _ _ = false

-- The cause of a device's line is so, for the step whose callback runs, or for the next one.
abbrev pub keeps_step : {A : Type 0} → Plan → State A → ℕ → Step → Cause → Bool
keeps_step plan S d s x =
    if is_running_step S.pnp d then keeps_running S d s x
    else (follows_queues_up S.pnp d && keeps_resumes plan S d x) || keeps_next plan S d s x

-- ---- the lines

-- what a line names is so; a request that the driver owns or sent, and the Plug and Play manager, have no cause
abbrev pub keeps : {A : Type 0} → Plan → State A → OpenThing → Cause → Bool
keeps plan S (thing.Waiting f c o) x = keeps_frame plan S f.0 x
keeps plan S (thing.Owned r) x = false
keeps plan S (thing.Sent r t) x = false
keeps plan S (thing.Queued r q) x = keeps_queued plan S q.id.0 r.id.0 x
keeps plan S (thing.Returning r q) x = keeps_returning plan S q.id.0 x
keeps plan S (thing.Sequence d s) x = keeps_step plan S d.id.0 s x
keeps plan S (thing.Leaving o) x = keeps_object plan S o.id.0 x
keeps plan S (thing.Deferred o) x = keeps_deferred plan S o.id.0 x
keeps plan S (thing.Asking d) x = false

-- a line's cause is so, where it has one
abbrev pub is_so : {A : Type 0} → Plan → State A → OpenThing → Option Cause → Bool
is_so plan S t None = true
is_so plan S t (Some x) = keeps plan S t x
