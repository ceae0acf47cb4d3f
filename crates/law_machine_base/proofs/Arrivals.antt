-- Requests arrive by arrivals alone: no other event has the deed of one.
use Rattle.std.proofs.Common.{if◌then◌else◌, ◌≡◌, ℕ, Bool, true, false, not, ◌&&◌, ◌||◌, List, [], ◌∷◌, ◌++◌, Option, Some, None, option_and_then, refl}
use Rattle.wdf_base.specs.declared.plan.Plan.{Plan}
use Rattle.wdf_base.specs.declared.ids.Handle.{Handle}
use Rattle.wdf_base.specs.declared.value.Value.{Value}
use Rattle.wdf_base.specs.declared.value.Value.TheVariants.{Num, Obj, Stat}
use Rattle.wdf_base.specs.declared.value.Status.TheVariants as status
use Rattle.wdf_base.specs.declared.object.Kind.{Kind}
use Rattle.wdf_base.specs.declared.object.Kind.TheVariants as kind
use Rattle.wdf_base.specs.declared.object.LockRef.{LockRef}
use Rattle.wdf_base.specs.declared.object.Place.{Place}
use Rattle.wdf_base.specs.declared.object.Place.TheVariants as place
use Rattle.wdf_base.specs.declared.call.Arg.{Arg}
use Rattle.wdf_base.specs.declared.call.CallKind.{CallKind}
use Rattle.wdf_base.specs.declared.call.CallKind.TheVariants as call
use Rattle.wdf_base.specs.declared.call.Callback.{Callback}
use Rattle.wdf_base.specs.declared.rank.Rank.{Rank}
use Rattle.wdf_base.specs.declared.rank.Rank.TheVariants as rank
use Rattle.wdf_base.specs.declared.event.Event.{Event}
use Rattle.wdf_base.specs.declared.event.Event.TheVariants as event
use Rattle.wdf_base.specs.declared.event.Post.{Post}
use Rattle.wdf_base.specs.declared.event.Post.TheVariants as post
use Rattle.wdf_base.specs.declared.event.Stage.{Stage}
use Rattle.wdf_base.specs.declared.event.Stage.TheVariants as stage
use Rattle.wdf_base.specs.declared.frame.Frame.{Frame}
use Rattle.wdf_base.specs.Callbacks.{row_of}
use Rattle.wdf_base.specs.declared.call.Callback.TheVariants as callback
use Rattle.wdf_base.specs.Lives.{is_live}
use Rattle.wdf_model.specs.Tables.{flag}
use Rattle.wdf_model.specs.Ids.{cpu_of, frame_id, irql_of, object_id}
use Rattle.wdf_model.specs.rules.Script.{intent_of}
use Rattle.wdf_model.specs.parts.Tree.{is_full, life_of}
use Rattle.wdf_model.specs.parts.Control.{accepts, is_purged, mode_of}
use Rattle.wdf_model.specs.parts.Interrupts.{is_enabled}
use Rattle.wdf_model.specs.parts.Deferred.Dpcs.{is_dpc_queued}
use Rattle.wdf_model.specs.parts.Deferred.Timers.{is_timer_queued}
use Rattle.wdf_model.specs.Plans.{declares, is_manual_queue, is_parallel_queue, kind_of_class, callback_irql, parent_of_class}
use Rattle.wdf_model.specs.parts.Cpus.{frame_of, top}
use Rattle.wdf_model.specs.parts.Locks.{lock_of_callback}
use Rattle.wdf_model.specs.parts.Queues.{front}
use Rattle.wdf_model.specs.parts.Requests.{arrival_of, is_cancelled, mark_answer, place_of}
use Rattle.wdf_model.specs.State.{State, declared_in, object_in, queue_delivers}
use Rattle.wdf_model.specs.declared.deed.Deed.{Deed}
use Rattle.wdf_model.specs.declared.deed.Deed.TheVariants.{Acknowledge, EnqueueDpc, EnqueueWork, Forward, GiveBack, GoOn, MarkRequest, PopFrame, PushFrame, RegisterQueue, Requeue, SendRequest, StartTimer}
use Rattle.wdf_base.specs.Values.{arg_is}
use Rattle.wdf_model.specs.rules.Calls.{Outcome, acknowledge_outcome, class_in, create_outcome, creation, forward_outcome, forwards_nowhere, mark_outcome, may_send, new_handle, number, number_in, origin_or_none, outcome, requeue_outcome, retrieve_front, retrieve_outcome, refused, second_deeds, send_outcome, success}
use Rattle.wdf_model.specs.rules.Starts.{effect, effect_for, end_of_step, new_frame, next_number, release_if_any, stage_effect, start_effect, take_if_any}
use Rattle.wdf_model.specs.rules.Posts.{cancel_at, cancel_deeds, in_reach, post_deeds}
use Rattle.wdf_model.specs.rules.Steps.{answered, deeds, did_deeds, goes_on, spending, stepped, waiting, waiting_deeds, woke_deeds}
use Rattle.wdf_base.specs.Posts.{is_request}
use Rattle.wdf_model.proofs.Tests.{both, both_left, both_right}
use Rattle.law_machine_base.proofs.KeptByDeeds.{is_arrival, none_arrives}

none_behind : (ds es : List Deed) → none_arrives ds ≡ true → none_arrives es ≡ true → none_arrives (ds ++ es) ≡ true
none_behind [] es h k = k
none_behind (d ∷ ds) es h k = both (not (is_arrival d)) (none_arrives (ds ++ es)) (both_left (not (is_arrival d)) (none_arrives ds) h) (none_behind ds es (both_right (not (is_arrival d)) (none_arrives ds) h) k)

either_none : (b : Bool) (x y : Outcome) → none_arrives x.deeds ≡ true → none_arrives y.deeds ≡ true → none_arrives (if b then x else y).deeds ≡ true
either_none true x y h k = h
either_none false x y h k = k

creation_none : (k : Kind) (class parent : ℕ) → none_arrives (creation k class parent ∷ []) ≡ true
creation_none kind.Made class parent = refl
creation_none _ class parent = refl

create_none : {A : Type 0} (plan : Plan) (S : State A) (class parent : ℕ) → none_arrives (create_outcome plan S class parent).deeds ≡ true
create_none plan S class parent =
    either_none (not (is_live (life_of S.tree parent))) (refused status.DeletePending)
    (if is_full S.tree then refused status.InsufficientResources else record { answer = Obj (new_handle plan S class); deeds = creation (kind_of_class plan class) class parent ∷ [] }) refl
    (either_none (is_full S.tree) (refused status.InsufficientResources) (record { answer = Obj (new_handle plan S class); deeds = creation (kind_of_class plan class) class parent ∷ [] }) refl
    (creation_none (kind_of_class plan class) class parent))

requeue_none : {A : Type 0} (S : State A) (r q : ℕ) → none_arrives (requeue_outcome S r q).deeds ≡ true
requeue_none S r q = either_none (is_cancelled S.requests r || is_purged (mode_of S.control q)) (success (GiveBack (object_id r) (object_id q) ∷ [])) (success (Requeue (object_id r) (object_id q) ∷ [])) refl refl

mark_none : {A : Type 0} (plan : Plan) (S : State A) (r : ℕ) → none_arrives (mark_outcome plan S r).deeds ≡ true
mark_none plan S r =
    either_none (declares plan callback.EvtRequestCancel (origin_or_none S r)) (record { answer = Stat (mark_answer S.requests r); deeds = MarkRequest (object_id r) ∷ [] }) (refused status.InvalidDeviceRequest) refl refl

forward_none : {A : Type 0} (plan : Plan) (S : State A) (r q : ℕ) → none_arrives (forward_outcome plan S r q).deeds ≡ true
forward_none plan S r q =
    either_none (forwards_nowhere plan S r q) (refused status.InvalidDeviceRequest)
    (if not (accepts S.control q) then refused status.WdfBusy else if is_cancelled S.requests r then success (GiveBack (object_id r) (object_id q) ∷ []) else success (Forward (object_id r) (object_id q) ∷ [])) refl
    (either_none (not (accepts S.control q)) (refused status.WdfBusy) (if is_cancelled S.requests r then success (GiveBack (object_id r) (object_id q) ∷ []) else success (Forward (object_id r) (object_id q) ∷ [])) refl
    (either_none (is_cancelled S.requests r) (success (GiveBack (object_id r) (object_id q) ∷ [])) (success (Forward (object_id r) (object_id q) ∷ [])) refl refl))

acknowledge_none : {A : Type 0} (S : State A) (r : ℕ) (b : Arg) → none_arrives (acknowledge_outcome S r b).deeds ≡ true
acknowledge_none S r b = either_none (arg_is b 0) (success (Acknowledge (object_id r) ∷ [])) (requeue_outcome S r (origin_or_none S r)) refl (requeue_none S r (origin_or_none S r))

send_none : {A : Type 0} (S : State A) (r t : ℕ) (forget : Bool) → none_arrives (send_outcome S r t forget).deeds ≡ true
send_none S r t forget = either_none (may_send S r t) (number 1 (SendRequest (object_id r) (object_id t) forget ∷ [])) (number 0 []) refl refl

front_none : {A : Type 0} (plan : Plan) (S : State A) (q : ℕ) (there : Option ℕ) → none_arrives (retrieve_front plan S q there).deeds ≡ true
front_none plan S q None = refl
front_none plan S q (Some r) = refl

retrieve_none : {A : Type 0} (plan : Plan) (S : State A) (q : ℕ) → none_arrives (retrieve_outcome plan S q).deeds ≡ true
retrieve_none plan S q =
    either_none (is_parallel_queue plan q) (refused status.InvalidDeviceState) (if not (queue_delivers plan S q) then refused status.WdfPaused else retrieve_front plan S q (front S.queues q)) refl
    (either_none (not (queue_delivers plan S q)) (refused status.WdfPaused) (retrieve_front plan S q (front S.queues q)) refl (front_none plan S q (front S.queues q)))

outcome_none : {A : Type 0} (plan : Plan) (S : State A) (cpu f : ℕ) (k : CallKind) (n : ℕ) (a b x : Arg) → none_arrives (outcome plan S cpu f (record { kind = k; count = n; a = a; b = b; c = x })).deeds ≡ true
outcome_none plan S cpu f call.WdfObjectCreate n a b x = create_none plan S (class_in a) (object_in b)
outcome_none plan S cpu f call.WdfSpinLockCreate n a b x = create_none plan S (class_in a) (object_in b)
outcome_none plan S cpu f call.WdfWaitLockCreate n a b x = create_none plan S (class_in a) (object_in b)
outcome_none plan S cpu f call.WdfRequestCreate n a b x = create_none plan S (class_in a) (object_in b)
outcome_none plan S cpu f call.WdfDpcCreate n a b x = create_none plan S (class_in a) (parent_of_class plan (class_in a))
outcome_none plan S cpu f call.WdfTimerCreate n a b x = create_none plan S (class_in a) (parent_of_class plan (class_in a))
outcome_none plan S cpu f call.WdfWorkItemCreate n a b x = create_none plan S (class_in a) (parent_of_class plan (class_in a))
outcome_none plan S cpu f call.WdfRequestMarkCancelableEx n a b x = mark_none plan S (object_in a)
outcome_none plan S cpu f call.WdfRequestRequeue n a b x = requeue_none S (object_in a) (origin_or_none S (object_in a))
outcome_none plan S cpu f call.WdfRequestForwardToIoQueue n a b x = forward_none plan S (object_in a) (object_in b)
outcome_none plan S cpu f call.WdfRequestStopAcknowledge n a b x = acknowledge_none S (object_in a) b
outcome_none plan S cpu f call.WdfRequestSend n a b x = send_none S (object_in a) (object_in b) (arg_is x 1)
outcome_none plan S cpu f call.WdfIoQueueRetrieveNextRequest n a b x = retrieve_none plan S (object_in a)
outcome_none plan S cpu f call.WdfIoQueueReadyNotify n a b x =
    either_none (is_manual_queue plan (object_in a) && declares plan callback.EvtIoQueueState (object_in a)) (success (RegisterQueue (object_id (object_in a)) (not (arg_is b 0)) ∷ [])) (refused status.InvalidDeviceRequest) refl refl
outcome_none plan S cpu f call.WdfInterruptQueueDpcForIsr n a b x =
    either_none (is_enabled S.interrupts (object_in a) && declares plan callback.EvtInterruptDpc (object_in a) && not (is_dpc_queued S.dpcs (object_in a))) (number 1 (EnqueueDpc (cpu_of cpu) (object_id (object_in a)) ∷ [])) (number 0 []) refl refl
outcome_none plan S cpu f call.WdfDpcEnqueue n a b x =
    either_none (is_live (life_of S.tree (object_in a)) && not (is_dpc_queued S.dpcs (object_in a))) (number 1 (EnqueueDpc (cpu_of cpu) (object_id (object_in a)) ∷ [])) (number 0 []) refl refl
outcome_none plan S cpu f call.WdfTimerStart n a b x =
    either_none (is_live (life_of S.tree (object_in a))) (number (flag (is_timer_queued S.timers (object_in a))) (StartTimer (object_id (object_in a)) (number_in b) ∷ [])) (number 0 []) refl refl
outcome_none plan S cpu f call.WdfWorkItemEnqueue n a b x = either_none (is_live (life_of S.tree (object_in a))) (success (EnqueueWork (object_id (object_in a)) ∷ [])) (success []) refl refl
outcome_none plan S cpu f _ n a b x = refl

second_none : (f : ℕ) (k : CallKind) (n : ℕ) (a b x : Arg) → none_arrives (second_deeds f (record { kind = k; count = n; a = a; b = b; c = x })) ≡ true
second_none f call.WdfSpinLockAcquire n a b x = refl
second_none f call.WdfWaitLockAcquire n a b x = refl
second_none f call.WdfInterruptAcquireLock n a b x = refl
second_none f _ n a b x = refl

effect_for_none : (k : Rank) (o r : ℕ) → none_arrives (effect_for k o r) ≡ true
effect_for_none rank.Completion o r = refl
effect_for_none rank.Cancel o r = refl
effect_for_none rank.CanceledOnQueue o r = refl
effect_for_none rank.Stop o r = refl
effect_for_none rank.Resume o r = refl
effect_for_none rank.Handler o r = refl
effect_for_none _ o r = refl

effect_none : {A : Type 0} (plan : Plan) (S : State A) (k : Rank) (cpu : ℕ) (c : Callback) (o : ℕ) → none_arrives (effect plan S k cpu c o) ≡ true
effect_none plan S rank.Deferred cpu c o = refl
effect_none plan S rank.Timed cpu c o = refl
effect_none plan S rank.QueueState cpu c o = refl
effect_none plan S rank.Sequence cpu c o = refl
effect_none plan S rank.Work cpu c o = refl
effect_none plan S rank.Cleanup cpu c o = refl
effect_none plan S rank.Destroy cpu c o = refl
effect_none plan S _ cpu c o = refl

start_effect_none : {A : Type 0} (plan : Plan) (S : State A) (cpu : ℕ) (c : Callback) (o : ℕ) (r : Option Handle) → none_arrives (start_effect plan S cpu c o r) ≡ true
start_effect_none plan S cpu c o None = effect_none plan S (row_of c).rank cpu c o
start_effect_none plan S cpu c o (Some r) = effect_for_none (row_of c).rank o r.id.0

taking_none : (f : ℕ) (l : Option LockRef) → none_arrives (take_if_any f l) ≡ true
taking_none f None = refl
taking_none f (Some l) = refl

releasing_none : (l : Option LockRef) → none_arrives (release_if_any l) ≡ true
releasing_none None = refl
releasing_none (Some l) = refl

step_none : {A : Type 0} (plan : Plan) (S : State A) (k : Rank) (c : Callback) (o : ℕ) (v : Value) → none_arrives (end_of_step plan S k c o v) ≡ true
step_none plan S rank.Sequence c o v = refl
step_none plan S _ c o v = refl

stage_none : (plan : Plan) (d : ℕ) (s : Stage) (i : Option Handle) → none_arrives (stage_effect plan d s i) ≡ true
stage_none plan d stage.Enabled i = refl
stage_none plan d stage.Disabled i = refl
stage_none plan d stage.QueuesDown i = refl
stage_none plan d stage.Closed i = refl
stage_none plan d stage.Removed i = refl
stage_none plan d _ i = refl

cancel_none : (p : Place) (r : ℕ) → none_arrives (cancel_at p r) ≡ true
cancel_none (place.Queued q) r = refl
cancel_none _ r = refl

cancel_of_none : {A : Type 0} (S : State A) (r : Option ℕ) → none_arrives (cancel_deeds S r) ≡ true
cancel_of_none S None = refl
cancel_of_none S (Some r) = cancel_none (place_of S.requests r) r

post_none : {A : Type 0} (plan : Plan) (S : State A) (agent : ℕ) (p : Post) → is_request p ≡ false → none_arrives (post_deeds plan S agent p) ≡ true
post_none plan S agent (post.Cancel k) h = cancel_of_none S (option_and_then (in_reach S) (arrival_of S.requests agent k))
post_none plan S agent (post.Ask a device) h = refl
post_none plan S agent (post.Act action) h = refl
post_none plan S agent (post.Done r s) h = refl
post_none plan S agent _ h = absurd (let z : ⊥ = cc in z)

-- an event by which a request may arrive
abbrev pub is_arrival_event : Event → Bool
is_arrival_event (event.Posted agent p answer) = is_request p
is_arrival_event _ = false

by_top_none : {A : Type 0} (S : State A) (ds : ℕ → Frame → List Deed) → ((f : ℕ) (frame : Frame) → none_arrives (ds f frame) ≡ true) → (there : Option ℕ)
    → none_arrives (elim there as (λ _. List Deed) [ None ↦ [] | Some f ↦ ds f (frame_of S.cpus f) ]) ≡ true
by_top_none S ds h None = refl
by_top_none S ds h (Some f) = h f (frame_of S.cpus f)

pub event_none : {A : Type 0} (plan : Plan) (S : State A) (e : Event) → is_arrival_event e ≡ false → none_arrives (deeds plan S e) ≡ true
event_none plan S (event.Start k c o r) h =
    none_behind (start_effect plan S k.0 c o.id.0 r) (PushFrame k (frame_id (next_number S)) (new_frame plan S c o r) (irql_of (callback_irql plan c o.id.0)) ∷ take_if_any (next_number S) (lock_of_callback plan c o.id.0 (declared_in plan S o.id.0)))
    (start_effect_none plan S k.0 c o.id.0 r) (taking_none (next_number S) (lock_of_callback plan c o.id.0 (declared_in plan S o.id.0)))
event_none plan S (event.Local k line) h = by_top_none S (λ f frame. GoOn (frame_id f) (stepped frame (intent_of plan frame)) ∷ []) (λ f frame. refl) (top S.cpus k.0)
event_none plan S (event.Log k v) h = by_top_none S (λ f frame. GoOn (frame_id f) (goes_on plan frame) ∷ []) (λ f frame. refl) (top S.cpus k.0)
event_none plan S (event.Spend k n) h = by_top_none S (λ f frame. GoOn (frame_id f) (spending plan S frame n) ∷ []) (λ f frame. refl) (top S.cpus k.0)
event_none plan S (event.Register k a r v) h = by_top_none S (λ f frame. GoOn (frame_id f) (answered plan frame (Num v)) ∷ []) (λ f frame. refl) (top S.cpus k.0)
event_none plan S (event.Did k c v) h =
    by_top_none S (did_deeds plan S k.0 c v) (λ f frame. none_behind ((outcome plan S k.0 f c).deeds ++ second_deeds f c) (GoOn (frame_id f) (answered plan frame v) ∷ [])
    (none_behind (outcome plan S k.0 f c).deeds (second_deeds f c) (outcome_none plan S k.0 f c.kind c.count c.a c.b c.c) (second_none f c.kind c.count c.a c.b c.c)) refl) (top S.cpus k.0)
event_none plan S (event.Waiting k c) h =
    by_top_none S (waiting_deeds plan S k.0 c) (λ f frame. none_behind (outcome plan S k.0 f c).deeds (GoOn (frame_id f) (waiting frame c (outcome plan S k.0 f c).answer) ∷ []) (outcome_none plan S k.0 f c.kind c.count c.a c.b c.c) refl) (top S.cpus k.0)
event_none plan S (event.Woke k c v) h =
    by_top_none S (woke_deeds plan c v) (λ f frame. none_behind (second_deeds f c) (GoOn (frame_id f) (answered plan frame v) ∷ []) (second_none f c.kind c.count c.a c.b c.c) refl) (top S.cpus k.0)
event_none plan S (event.Park k f) h = refl
event_none plan S (event.Unpark k f) h = refl
event_none plan S (event.End k c o v) h =
    none_behind (release_if_any (lock_of_callback plan c o.id.0 (declared_in plan S o.id.0))) (PopFrame k ∷ end_of_step plan S (row_of c).rank c o.id.0 v)
    (releasing_none (lock_of_callback plan c o.id.0 (declared_in plan S o.id.0))) (step_none plan S (row_of c).rank c o.id.0 v)
event_none plan S (event.Fault k x line) h = refl
event_none plan S (event.Stage d s i) h = stage_none plan d.id.0 s i
event_none plan S (event.Complete r s) h = refl
event_none plan S (event.Cleanup o) h = refl
event_none plan S (event.Destroy o) h = refl
event_none plan S (event.Posted agent p answer) h = post_none plan S agent p h
event_none plan S (event.Tick time) h = refl
