-- Each deed of an event is one that the table lets the event do: the one walk over all kinds of event and all calls.
use Rattle.std.proofs.Common.{if◌then◌else◌, ◌≡◌, ℕ, Bool, true, false, not, ◌&&◌, ◌||◌, List, [], ◌∷◌, ◌++◌, Option, Some, None, option_and_then, refl}
use Rattle.std.specs.List.{list_all}
use Rattle.wdf_base.specs.declared.plan.Plan.{Plan}
use Rattle.wdf_base.specs.declared.ids.Handle.{Handle}
use Rattle.wdf_base.specs.declared.value.Value.{Value}
use Rattle.wdf_base.specs.declared.value.Value.TheVariants.{Num, Obj, Stat}
use Rattle.wdf_base.specs.declared.value.Status.TheVariants as status
use Rattle.wdf_base.specs.declared.object.Kind.{Kind}
use Rattle.wdf_base.specs.declared.object.Kind.TheVariants as kind
use Rattle.wdf_base.specs.declared.object.LockRef.{LockRef}
use Rattle.wdf_base.specs.declared.object.Place.{Place}
use Rattle.wdf_base.specs.declared.object.RequestForm.{RequestForm}
use Rattle.wdf_base.specs.declared.object.RequestForm.TheVariants as form
use Rattle.wdf_base.specs.declared.object.Place.TheVariants as place
use Rattle.wdf_base.specs.declared.call.Arg.{Arg}
use Rattle.wdf_base.specs.declared.call.Call.{Call}
use Rattle.wdf_base.specs.declared.ids.Cpu.{Cpu}
use Rattle.wdf_base.specs.declared.call.CallKind.{CallKind}
use Rattle.wdf_base.specs.declared.call.CallKind.TheVariants as call
use Rattle.wdf_base.specs.declared.call.Callback.{Callback}
use Rattle.wdf_base.specs.declared.event.Event.{Event}
use Rattle.wdf_base.specs.declared.event.Event.TheVariants as event
use Rattle.wdf_base.specs.declared.event.Post.{Post}
use Rattle.wdf_base.specs.declared.event.Post.TheVariants as post
use Rattle.wdf_base.specs.declared.event.Stage.{Stage}
use Rattle.wdf_base.specs.declared.event.Stage.TheVariants as stage
use Rattle.wdf_base.specs.declared.frame.Frame.{Frame}
use Rattle.wdf_base.specs.Callbacks.{row_of}
use Rattle.wdf_base.specs.declared.call.Callback.TheVariants as callback
use Rattle.wdf_base.specs.Lives.{is_live}
use Rattle.wdf_base.specs.Posts.{is_request}
use Rattle.wdf_model.specs.Tables.{flag}
use Rattle.wdf_model.specs.Ids.{cpu_of, frame_id, irql_of, object_id}
use Rattle.wdf_model.specs.rules.Script.{intent_of}
use Rattle.wdf_model.specs.parts.Tree.{is_full, life_of}
use Rattle.wdf_model.specs.parts.Control.{accepts, is_purged, mode_of}
use Rattle.wdf_model.specs.parts.Interrupts.{is_enabled}
use Rattle.wdf_model.specs.parts.Deferred.Dpcs.{is_dpc_queued}
use Rattle.wdf_model.specs.parts.Deferred.Timers.{is_timer_queued}
use Rattle.wdf_model.specs.Plans.{declares, is_manual_queue, is_parallel_queue, kind_of_class, callback_irql, parent_of_class}
use Rattle.wdf_model.specs.parts.Cpus.{frame_of, top}
use Rattle.wdf_model.specs.parts.Locks.{lock_of_callback}
use Rattle.wdf_model.specs.parts.Queues.{front}
use Rattle.wdf_model.specs.parts.Requests.{arrival_of, is_cancelled, mark_answer, place_of}
use Rattle.wdf_model.specs.State.{State, declared_in, object_in, queue_delivers}
use Rattle.wdf_base.specs.Values.{arg_is}
use Rattle.wdf_model.specs.declared.deed.Deed.{Deed}
use Rattle.wdf_model.specs.declared.deed.Deed.TheVariants.{Acknowledge, Arrive, CountArrival, EnqueueDpc, EnqueueWork, Forward, GiveBack, GoOn, MarkRequest, PopFrame, PushFrame, RegisterQueue, Requeue, SendRequest, StartTimer, TakeLock}
use Rattle.wdf_model.specs.rules.Calls.{Outcome, acknowledge_outcome, class_in, create_outcome, creation, forward_outcome, forwards_nowhere, mark_outcome, may_send, new_handle, number, number_in, origin_or_none, outcome, requeue_outcome, retrieve_front, retrieve_outcome, refused, second_deeds, success}
use Rattle.wdf_model.specs.rules.Starts.{effect, effect_for, end_of_step, new_frame, next_number, release_if_any, stage_effect, start_effect, take_if_any}
use Rattle.wdf_model.specs.rules.Posts.{arrival_info, arrival_place, cancel_at, cancel_deeds, in_reach, post_deeds}
use Rattle.wdf_model.specs.rules.Steps.{answered, deeds, did_deeds, goes_on, spending, stepped, waiting, waiting_deeds, woke_deeds}
use Rattle.wdf_model.proofs.Tests.{alone, both, both_left, both_right}
use Rattle.law_machine_deeds.specs.MayDo.{gives_back, gives_to_head, makes_objects, may_do, posts}

abbrev pub all_may : Event → List Deed → Bool
all_may e ds = list_all (may_do e) ds

-- one that this event does, and no such event as the first
abbrev pub may_beside : Event → Event → Deed → Bool
may_beside plain e d = may_do e d && not (may_do plain d)

-- ---- events that do only what each of their kind does

abbrev pub some_object : Handle
some_object = record { id = record { 0 = 0 }; name = 0 }

-- a frame goes on
abbrev pub plain_frame : Event
plain_frame = event.Local (cpu_of 0) 0

-- a frame begins, with its lock
abbrev pub plain_start : Event
plain_start = event.Start (cpu_of 0) callback.EvtInterruptIsr some_object None

-- it ends, and gives the lock back
abbrev pub plain_end : Event
plain_end = event.End (cpu_of 0) callback.EvtInterruptIsr some_object (Num 0)

-- a step is taken
abbrev pub plain_stage : Event
plain_stage = event.Stage some_object stage.Settled None

-- ---- lists of deeds

pub all_after : (p : Deed → Bool) (ds es : List Deed) → list_all p ds ≡ true → list_all p es ≡ true → list_all p (ds ++ es) ≡ true
all_after p [] es h k = k
all_after p (d ∷ ds) es h k = both (p d) (list_all p (ds ++ es)) (both_left (p d) (list_all p ds) h) (all_after p ds es (both_right (p d) (list_all p ds) h) k)

-- deeds that pass a test pass any that follows from it
pub all_pass : (p q : Deed → Bool) → ((d : Deed) → p d ≡ true → q d ≡ true) → (ds : List Deed) → list_all p ds ≡ true → list_all q ds ≡ true
all_pass p q follows [] h = refl
all_pass p q follows (d ∷ ds) h = both (q d) (list_all q ds) (follows d (both_left (p d) (list_all p ds) h)) (all_pass p q follows ds (both_right (p d) (list_all p ds) h))

-- what an event may do beside another, it may do
pub all_beside : (plain e : Event) (ds : List Deed) → list_all (may_beside plain e) ds ≡ true → all_may e ds ≡ true
all_beside plain e ds h = all_pass (may_beside plain e) (may_do e) (λ d k. both_left (may_do e d) (not (may_do plain d)) k) ds h

either : (p : Deed → Bool) (b : Bool) (x y : Outcome) → list_all p x.deeds ≡ true → list_all p y.deeds ≡ true → list_all p (if b then x else y).deeds ≡ true
either p true x y h k = h
either p false x y h k = k

-- ---- calls

-- the first part of a call is all that is done where the call waits
module _ {A : Type 0} (plan : Plan) (S : State A) (on : Cpu) (cpu f n : ℕ) (a b x : Arg) where
  abbrev call_of : CallKind → Call
  call_of k = record { kind = k; count = n; a = a; b = b; c = x }

  abbrev first_may : CallKind → Deed → Bool
  first_may k d = may_beside plain_frame (event.Waiting on (call_of k)) d

  creation_may : (k : CallKind) (m : Kind) (class parent : ℕ) → makes_objects k ≡ true → list_all (first_may k) (creation m class parent ∷ []) ≡ true
  creation_may k kind.Made class parent h = alone (makes_objects k && true) (alone (makes_objects k) h)
  creation_may k _ class parent h = alone (makes_objects k && true) (alone (makes_objects k) h)

  create_may : (k : CallKind) (class parent : ℕ) → makes_objects k ≡ true → list_all (first_may k) (create_outcome plan S class parent).deeds ≡ true
  create_may k class parent h =
      either (first_may k) (not (is_live (life_of S.tree parent))) (refused status.DeletePending)
      (if is_full S.tree then refused status.InsufficientResources else record { answer = Obj (new_handle plan S class); deeds = creation (kind_of_class plan class) class parent ∷ [] }) refl
      (either (first_may k) (is_full S.tree) (refused status.InsufficientResources) (record { answer = Obj (new_handle plan S class); deeds = creation (kind_of_class plan class) class parent ∷ [] }) refl
      (creation_may k (kind_of_class plan class) class parent h))

  requeue_may : (k : CallKind) (r q : ℕ) → gives_back k ≡ true → gives_to_head k ≡ true → list_all (first_may k) (requeue_outcome S r q).deeds ≡ true
  requeue_may k r q back head =
      either (first_may k) (is_cancelled S.requests r || is_purged (mode_of S.control q)) (success (GiveBack (object_id r) (object_id q) ∷ [])) (success (Requeue (object_id r) (object_id q) ∷ [])) (alone (gives_back k && true) (alone (gives_back k) back)) (alone (gives_to_head k && true) (alone (gives_to_head k) head))

  acknowledge_may : (r : ℕ) → list_all (first_may call.WdfRequestStopAcknowledge) (acknowledge_outcome S r b).deeds ≡ true
  acknowledge_may r = either (first_may call.WdfRequestStopAcknowledge) (arg_is b 0) (success (Acknowledge (object_id r) ∷ [])) (requeue_outcome S r (origin_or_none S r)) refl (requeue_may call.WdfRequestStopAcknowledge r (origin_or_none S r) refl refl)

  mark_may : (r : ℕ) → list_all (first_may call.WdfRequestMarkCancelableEx) (mark_outcome plan S r).deeds ≡ true
  mark_may r =
      either (first_may call.WdfRequestMarkCancelableEx) (declares plan callback.EvtRequestCancel (origin_or_none S r)) (record { answer = Stat (mark_answer S.requests r); deeds = MarkRequest (object_id r) ∷ [] }) (refused status.InvalidDeviceRequest) refl refl

  forward_may : (r q : ℕ) → list_all (first_may call.WdfRequestForwardToIoQueue) (forward_outcome plan S r q).deeds ≡ true
  forward_may r q =
      either (first_may call.WdfRequestForwardToIoQueue) (forwards_nowhere plan S r q) (refused status.InvalidDeviceRequest)
      (if not (accepts S.control q) then refused status.WdfBusy else if is_cancelled S.requests r then success (GiveBack (object_id r) (object_id q) ∷ []) else success (Forward (object_id r) (object_id q) ∷ [])) refl
      (either (first_may call.WdfRequestForwardToIoQueue) (not (accepts S.control q)) (refused status.WdfBusy) (if is_cancelled S.requests r then success (GiveBack (object_id r) (object_id q) ∷ []) else success (Forward (object_id r) (object_id q) ∷ [])) refl
      (either (first_may call.WdfRequestForwardToIoQueue) (is_cancelled S.requests r) (success (GiveBack (object_id r) (object_id q) ∷ [])) (success (Forward (object_id r) (object_id q) ∷ [])) refl refl))

  front_may : (q : ℕ) (there : Option ℕ) → list_all (first_may call.WdfIoQueueRetrieveNextRequest) (retrieve_front plan S q there).deeds ≡ true
  front_may q None = refl
  front_may q (Some r) = refl

  retrieve_may : (q : ℕ) → list_all (first_may call.WdfIoQueueRetrieveNextRequest) (retrieve_outcome plan S q).deeds ≡ true
  retrieve_may q =
      either (first_may call.WdfIoQueueRetrieveNextRequest) (is_parallel_queue plan q) (refused status.InvalidDeviceState) (if not (queue_delivers plan S q) then refused status.WdfPaused else retrieve_front plan S q (front S.queues q)) refl
      (either (first_may call.WdfIoQueueRetrieveNextRequest) (not (queue_delivers plan S q)) (refused status.WdfPaused) (retrieve_front plan S q (front S.queues q)) refl (front_may q (front S.queues q)))

  kind_may : (k : CallKind) → list_all (first_may k) (outcome plan S cpu f (call_of k)).deeds ≡ true
  kind_may call.WdfObjectCreate = create_may call.WdfObjectCreate (class_in a) (object_in b) refl
  kind_may call.WdfSpinLockCreate = create_may call.WdfSpinLockCreate (class_in a) (object_in b) refl
  kind_may call.WdfWaitLockCreate = create_may call.WdfWaitLockCreate (class_in a) (object_in b) refl
  kind_may call.WdfRequestCreate = create_may call.WdfRequestCreate (class_in a) (object_in b) refl
  kind_may call.WdfDpcCreate = create_may call.WdfDpcCreate (class_in a) (parent_of_class plan (class_in a)) refl
  kind_may call.WdfTimerCreate = create_may call.WdfTimerCreate (class_in a) (parent_of_class plan (class_in a)) refl
  kind_may call.WdfWorkItemCreate = create_may call.WdfWorkItemCreate (class_in a) (parent_of_class plan (class_in a)) refl
  kind_may call.WdfRequestMarkCancelableEx = mark_may (object_in a)
  kind_may call.WdfRequestRequeue = requeue_may call.WdfRequestRequeue (object_in a) (origin_or_none S (object_in a)) refl refl
  kind_may call.WdfRequestForwardToIoQueue = forward_may (object_in a) (object_in b)
  kind_may call.WdfRequestStopAcknowledge = acknowledge_may (object_in a)
  kind_may call.WdfRequestSend =
      either (first_may call.WdfRequestSend) (may_send S (object_in a) (object_in b)) (number 1 (SendRequest (object_id (object_in a)) (object_id (object_in b)) (arg_is x 1) ∷ [])) (number 0 []) refl refl
  kind_may call.WdfIoQueueRetrieveNextRequest = retrieve_may (object_in a)
  kind_may call.WdfIoQueueReadyNotify =
      either (first_may call.WdfIoQueueReadyNotify) (is_manual_queue plan (object_in a) && declares plan callback.EvtIoQueueState (object_in a)) (success (RegisterQueue (object_id (object_in a)) (not (arg_is b 0)) ∷ [])) (refused status.InvalidDeviceRequest) refl refl
  kind_may call.WdfInterruptQueueDpcForIsr =
      either (first_may call.WdfInterruptQueueDpcForIsr) (is_enabled S.interrupts (object_in a) && declares plan callback.EvtInterruptDpc (object_in a) && not (is_dpc_queued S.dpcs (object_in a))) (number 1 (EnqueueDpc (cpu_of cpu) (object_id (object_in a)) ∷ [])) (number 0 []) refl refl
  kind_may call.WdfDpcEnqueue =
      either (first_may call.WdfDpcEnqueue) (is_live (life_of S.tree (object_in a)) && not (is_dpc_queued S.dpcs (object_in a))) (number 1 (EnqueueDpc (cpu_of cpu) (object_id (object_in a)) ∷ [])) (number 0 []) refl refl
  kind_may call.WdfTimerStart =
      either (first_may call.WdfTimerStart) (is_live (life_of S.tree (object_in a))) (number (flag (is_timer_queued S.timers (object_in a))) (StartTimer (object_id (object_in a)) (number_in b) ∷ [])) (number 0 []) refl refl
  kind_may call.WdfWorkItemEnqueue = either (first_may call.WdfWorkItemEnqueue) (is_live (life_of S.tree (object_in a))) (success (EnqueueWork (object_id (object_in a)) ∷ [])) (success []) refl refl
  kind_may _ = refl

pub outcome_may : {A : Type 0} (plan : Plan) (S : State A) (on : Cpu) (cpu f : ℕ) (c : Call) → list_all (may_beside plain_frame (event.Waiting on c)) (outcome plan S cpu f c).deeds ≡ true
outcome_may plan S on cpu f c = kind_may plan S on cpu f c.count c.a c.b c.c c.kind

-- the second part is all that is done when the call's wait is over
second_of : (on : Cpu) (f : ℕ) (v : Value) (n : ℕ) (a b x : Arg) (k : CallKind) → list_all (may_beside plain_frame (event.Woke on (record { kind = k; count = n; a = a; b = b; c = x }) v)) (second_deeds f (record { kind = k; count = n; a = a; b = b; c = x })) ≡ true
second_of on f v n a b x call.WdfSpinLockAcquire = refl
second_of on f v n a b x call.WdfWaitLockAcquire = refl
second_of on f v n a b x call.WdfInterruptAcquireLock = refl
second_of on f v n a b x _ = refl

pub second_may : (on : Cpu) (f : ℕ) (c : Call) (v : Value) → list_all (may_beside plain_frame (event.Woke on c v)) (second_deeds f c) ≡ true
second_may on f c v = second_of on f v c.count c.a c.b c.c c.kind

firsts : {A : Type 0} (plan : Plan) (S : State A) (k : Cpu) (f : ℕ) (c : Call) → all_may (event.Waiting k c) (outcome plan S k.0 f c).deeds ≡ true
firsts plan S k f c = all_beside plain_frame (event.Waiting k c) (outcome plan S k.0 f c).deeds (outcome_may plan S k k.0 f c)

seconds : (k : Cpu) (f : ℕ) (c : Call) (v : Value) → all_may (event.Woke k c v) (second_deeds f c) ≡ true
seconds k f c v = all_beside plain_frame (event.Woke k c v) (second_deeds f c) (second_may k f c v)

-- a call that doesn't wait does both
first_did : (on : Cpu) (c : Call) (v : Value) (d : Deed) → may_do (event.Waiting on c) d ≡ true → may_do (event.Did on c v) d ≡ true
first_did on c v (TakeLock l f by_call) h = absurd (let z : ⊥ = cc in z)
first_did on c v _ h = h

second_did : (on : Cpu) (c : Call) (v : Value) (d : Deed) → may_do (event.Woke on c v) d ≡ true → may_do (event.Did on c v) d ≡ true
second_did on c v (GoOn f frame) h = refl
second_did on c v (TakeLock l f by_call) h = h
second_did on c v _ h = absurd (let z : ⊥ = cc in z)

-- ---- starts and ends of callbacks

-- a rank by itself is the row of a callback: each is gone through
effect_for_may : (cpu : Cpu) (c : Callback) (o : Handle) (r : Option Handle) (n m : ℕ) → list_all (may_beside plain_start (event.Start cpu c o r)) (effect_for (row_of c).rank n m) ≡ true
effect_for_may cpu callback.EvtIoRead o r n m = refl
effect_for_may cpu _ o r n m = refl

effect_may : {A : Type 0} (plan : Plan) (S : State A) (on : Cpu) (o : Handle) (r : Option Handle) (cpu : ℕ) (c : Callback) (n : ℕ) → list_all (may_beside plain_start (event.Start on c o r)) (effect plan S (row_of c).rank cpu c n) ≡ true
effect_may plan S on o r cpu callback.EvtIoRead n = refl
effect_may plan S on o r cpu _ n = refl

pub start_effect_may : {A : Type 0} (plan : Plan) (S : State A) (on : Cpu) (cpu : ℕ) (c : Callback) (o : Handle) (n : ℕ) (q r : Option Handle) → list_all (may_beside plain_start (event.Start on c o q)) (start_effect plan S cpu c n r) ≡ true
start_effect_may plan S on cpu c o n q None = effect_may plan S on o q cpu c n
start_effect_may plan S on cpu c o n q (Some r) = effect_for_may on c o q n r.id.0

pub taking_may : (on : Cpu) (c : Callback) (o : Handle) (r : Option Handle) (f : ℕ) (l : Option LockRef) → all_may (event.Start on c o r) (take_if_any f l) ≡ true
taking_may on c o r f None = refl
taking_may on c o r f (Some l) = refl

pub releasing_may : (on : Cpu) (c : Callback) (o : Handle) (v : Value) (l : Option LockRef) → all_may (event.End on c o v) (release_if_any l) ≡ true
releasing_may on c o v None = refl
releasing_may on c o v (Some l) = refl

pub step_may : {A : Type 0} (plan : Plan) (S : State A) (on : Cpu) (c : Callback) (o : Handle) (n : ℕ) (v : Value) → list_all (may_beside plain_end (event.End on c o v)) (end_of_step plan S (row_of c).rank c n v) ≡ true
step_may plan S on callback.EvtIoRead o n v = refl
step_may plan S on _ o n v = refl

-- ---- stages and posts

pub stage_may : (plan : Plan) (o : Handle) (d : ℕ) (s : Stage) (i j : Option Handle) → list_all (may_beside plain_stage (event.Stage o s i)) (stage_effect plan d s j) ≡ true
stage_may plan o d stage.Enabled i j = refl
stage_may plan o d stage.Disabled i j = refl
stage_may plan o d stage.QueuesDown i j = refl
stage_may plan o d stage.Closed i j = refl
stage_may plan o d stage.Removed i j = refl
stage_may plan o d _ i j = refl

cancel_may : (agent : ℕ) (k : ℕ) (answer : Option Handle) (p : Place) (r : ℕ) → all_may (event.Posted agent (post.Cancel k) answer) (cancel_at p r) ≡ true
cancel_may agent k answer (place.Queued q) r = refl
cancel_may agent k answer _ r = refl

cancel_of_may : {A : Type 0} (S : State A) (agent : ℕ) (k : ℕ) (answer : Option Handle) (r : Option ℕ) → all_may (event.Posted agent (post.Cancel k) answer) (cancel_deeds S r) ≡ true
cancel_of_may S agent k answer None = refl
cancel_of_may S agent k answer (Some r) = cancel_may agent k answer (place_of S.requests r) r

arrival_may : {A : Type 0} (plan : Plan) (S : State A) (e : Event) (agent : ℕ) (f : RequestForm) (length code device : ℕ) (b : Bool) → posts is_request e ≡ true
    → all_may e (CountArrival agent ∷ (if b then Arrive (object_id device) (arrival_info S agent f length code device) (arrival_place plan S f length device) ∷ [] else [])) ≡ true
arrival_may plan S e agent f length code device true h = both (posts is_request e) (posts is_request e && true) h (alone (posts is_request e) h)
arrival_may plan S e agent f length code device false h = alone (posts is_request e) h

pub post_may : {A : Type 0} (plan : Plan) (S : State A) (agent : ℕ) (p : Post) (answer : Option Handle) → all_may (event.Posted agent p answer) (post_deeds plan S agent p) ≡ true
post_may plan S agent (post.Read device length) answer = arrival_may plan S (event.Posted agent (post.Read device length) answer) agent form.Read length 0 device.id.0 (is_live (life_of S.tree device.id.0)) refl
post_may plan S agent (post.Write device length) answer = arrival_may plan S (event.Posted agent (post.Write device length) answer) agent form.Write length 0 device.id.0 (is_live (life_of S.tree device.id.0)) refl
post_may plan S agent (post.Control device code length) answer = arrival_may plan S (event.Posted agent (post.Control device code length) answer) agent form.Control length code device.id.0 (is_live (life_of S.tree device.id.0)) refl
post_may plan S agent (post.Cancel k) answer = cancel_of_may S agent k answer (option_and_then (in_reach S) (arrival_of S.requests agent k))
post_may plan S agent (post.Ask a device) answer = refl
post_may plan S agent (post.Act action) answer = refl
post_may plan S agent (post.Done r s) answer = refl

-- ---- all events

by_top_may : {A : Type 0} (e : Event) (S : State A) (ds : ℕ → Frame → List Deed) → ((f : ℕ) (frame : Frame) → all_may e (ds f frame) ≡ true) → (there : Option ℕ)
    → all_may e (elim there as (λ _. List Deed) [ None ↦ [] | Some f ↦ ds f (frame_of S.cpus f) ]) ≡ true
by_top_may e S ds h None = refl
by_top_may e S ds h (Some f) = h f (frame_of S.cpus f)

pub event_may : {A : Type 0} (plan : Plan) (S : State A) (e : Event) → all_may e (deeds plan S e) ≡ true
event_may plan S (event.Start k c o r) =
    all_after (may_do (event.Start k c o r)) (start_effect plan S k.0 c o.id.0 r) (PushFrame k (frame_id (next_number S)) (new_frame plan S c o r) (irql_of (callback_irql plan c o.id.0)) ∷ take_if_any (next_number S) (lock_of_callback plan c o.id.0 (declared_in plan S o.id.0)))
    (all_beside plain_start (event.Start k c o r) (start_effect plan S k.0 c o.id.0 r) (start_effect_may plan S k k.0 c o o.id.0 r r)) (taking_may k c o r (next_number S) (lock_of_callback plan c o.id.0 (declared_in plan S o.id.0)))
event_may plan S (event.Local k line) = by_top_may (event.Local k line) S (λ f frame. GoOn (frame_id f) (stepped frame (intent_of plan frame)) ∷ []) (λ f frame. refl) (top S.cpus k.0)
event_may plan S (event.Log k v) = by_top_may (event.Log k v) S (λ f frame. GoOn (frame_id f) (goes_on plan frame) ∷ []) (λ f frame. refl) (top S.cpus k.0)
event_may plan S (event.Spend k n) = by_top_may (event.Spend k n) S (λ f frame. GoOn (frame_id f) (spending plan S frame n) ∷ []) (λ f frame. refl) (top S.cpus k.0)
event_may plan S (event.Register k a r v) = by_top_may (event.Register k a r v) S (λ f frame. GoOn (frame_id f) (answered plan frame (Num v)) ∷ []) (λ f frame. refl) (top S.cpus k.0)
event_may plan S (event.Did k c v) =
    by_top_may (event.Did k c v) S (did_deeds plan S k.0 c v) (λ f frame. all_after (may_do (event.Did k c v)) ((outcome plan S k.0 f c).deeds ++ second_deeds f c) (GoOn (frame_id f) (answered plan frame v) ∷ [])
    (all_after (may_do (event.Did k c v)) (outcome plan S k.0 f c).deeds (second_deeds f c)
    (all_pass (may_do (event.Waiting k c)) (may_do (event.Did k c v)) (first_did k c v) (outcome plan S k.0 f c).deeds (firsts plan S k f c))
    (all_pass (may_do (event.Woke k c v)) (may_do (event.Did k c v)) (second_did k c v) (second_deeds f c) (seconds k f c v))) refl) (top S.cpus k.0)
event_may plan S (event.Waiting k c) =
    by_top_may (event.Waiting k c) S (waiting_deeds plan S k.0 c)
    (λ f frame. all_after (may_do (event.Waiting k c)) (outcome plan S k.0 f c).deeds (GoOn (frame_id f) (waiting frame c (outcome plan S k.0 f c).answer) ∷ []) (firsts plan S k f c) refl) (top S.cpus k.0)
event_may plan S (event.Woke k c v) =
    by_top_may (event.Woke k c v) S (woke_deeds plan c v) (λ f frame. all_after (may_do (event.Woke k c v)) (second_deeds f c) (GoOn (frame_id f) (answered plan frame v) ∷ []) (seconds k f c v) refl) (top S.cpus k.0)
event_may plan S (event.Park k f) = refl
event_may plan S (event.Unpark k f) = refl
event_may plan S (event.End k c o v) =
    all_after (may_do (event.End k c o v)) (release_if_any (lock_of_callback plan c o.id.0 (declared_in plan S o.id.0))) (PopFrame k ∷ end_of_step plan S (row_of c).rank c o.id.0 v)
    (releasing_may k c o v (lock_of_callback plan c o.id.0 (declared_in plan S o.id.0))) (all_beside plain_end (event.End k c o v) (end_of_step plan S (row_of c).rank c o.id.0 v) (step_may plan S k c o o.id.0 v))
event_may plan S (event.Fault k x line) = refl
event_may plan S (event.Stage d s i) = all_beside plain_stage (event.Stage d s i) (stage_effect plan d.id.0 s i) (stage_may plan d d.id.0 s i i)
event_may plan S (event.Complete r s) = refl
event_may plan S (event.Cleanup o) = refl
event_may plan S (event.Destroy o) = refl
event_may plan S (event.Posted agent p answer) = post_may plan S agent p answer
event_may plan S (event.Tick time) = refl
