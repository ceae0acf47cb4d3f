-- What an event tells frames and cells are handles of objects that were made, with their names.
use Rattle.std.proofs.Common.{if◌then◌else◌, ◌≡◌, ℕ, ◌+◌, ◌<◌, ◌≤◌, ◌==◌, Bool, true, false, ◌&&◌, ◌||◌, not, List, [], ◌∷◌, ◌++◌, length, count_by, Option, Some, None, slice_get, refl, sym, ap, ◌∙◌, subst, arith, eqb-true, length-append}
use Rattle.wdf_base.specs.Meaning.{Meaning}
use Rattle.wdf_base.specs.Callbacks.{row_of}
use Rattle.wdf_base.specs.Kinds.{class_kind, deferred_kind}
use Rattle.wdf_base.specs.Lives.{is_asked, is_cleaned, is_live}
use Rattle.wdf_base.specs.Same.{same_call_kind}
use Rattle.wdf_base.specs.Places.{is_due, is_queued_in, is_returning_to, is_sent_to}
use Rattle.wdf_base.specs.declared.plan.Plan.{Plan}
use Rattle.wdf_base.specs.declared.ids.Cpu.{Cpu}
use Rattle.wdf_base.specs.declared.ids.Handle.{Handle}
use Rattle.wdf_base.specs.declared.object.Kind.{Kind}
use Rattle.wdf_base.specs.declared.object.Kind.TheVariants as kind
use Rattle.wdf_base.specs.declared.object.LockRef.{LockRef}
use Rattle.wdf_base.specs.declared.declared.Declared.TheVariants as declared
use Rattle.wdf_base.specs.declared.declared.ClassInfo.{ClassInfo}
use Rattle.wdf_base.specs.declared.declared.ClassInfo.TheVariants as class
use Rattle.wdf_base.specs.declared.declared.DeferredKind.{DeferredKind}
use Rattle.wdf_base.specs.declared.declared.DeferredKind.TheVariants as deferred
use Rattle.wdf_base.specs.declared.declared.PlainKind.{PlainKind}
use Rattle.wdf_base.specs.declared.declared.PlainKind.TheVariants as plain
use Rattle.wdf_base.specs.declared.call.Arg.{Arg}
use Rattle.wdf_base.specs.declared.call.Arg.TheVariants.{Class, Val}
use Rattle.wdf_base.specs.declared.call.Call.{Call}
use Rattle.wdf_base.specs.declared.call.CallKind.{CallKind}
use Rattle.wdf_base.specs.declared.call.CallKind.TheVariants as call
use Rattle.wdf_base.specs.declared.call.Callback.{Callback}
use Rattle.wdf_base.specs.declared.call.Callback.TheVariants as callback
use Rattle.wdf_base.specs.declared.rank.Rank.{Rank}
use Rattle.wdf_base.specs.declared.rank.Rank.TheVariants as rank
use Rattle.wdf_base.specs.declared.event.Event.{Event}
use Rattle.wdf_base.specs.declared.event.Event.TheVariants as event
use Rattle.wdf_base.specs.declared.frame.Frame.{Frame}
use Rattle.wdf_base.specs.declared.frame.Intent.TheVariants as intent
use Rattle.wdf_base.specs.declared.script.ExprNode.TheVariants as node
use Rattle.wdf_base.specs.declared.value.Status.TheVariants as status
use Rattle.wdf_base.specs.declared.value.Value.{Value}
use Rattle.wdf_base.specs.declared.value.Value.TheVariants.{Num}
use Rattle.wdf_model.specs.declared.deed.Deed.{Deed}
use Rattle.wdf_model.specs.declared.deed.Deed.TheVariants.{EnqueueDpc, GoOn, PushFrame, WriteCell}
use Rattle.wdf_model.specs.declared.entries.Node.{Node}
use Rattle.wdf_model.specs.Ids.{cpu_of, frame_id, irql_of, object_id}
use Rattle.wdf_model.specs.Plans.{callback_irql, declares, is_manual_queue, is_parallel_queue, kind_of_class, name_of_class, parent_of_class}
use Rattle.wdf_model.specs.Tables.{first_of_list, flag, same_id}
use Rattle.wdf_model.specs.parts.Cpus.{frame_of, top}
use Rattle.wdf_model.specs.parts.Locks.{lock_of_callback}
use Rattle.wdf_model.specs.parts.Queues.{front, waiting_in}
use Rattle.wdf_model.specs.parts.Control.{accepts, is_purged, mode_of}
use Rattle.wdf_model.specs.parts.Deferred.Dpcs.{is_dpc_queued}
use Rattle.wdf_model.specs.parts.Interrupts.{is_enabled}
use Rattle.wdf_model.specs.parts.Requests.{is_cancelled, mark_of, no_request, origin_of, place_of}
use Rattle.wdf_model.specs.parts.Targets.{is_forgotten}
use Rattle.wdf_model.specs.parts.Tree.{Tree, cell_of, gone, is_full, life_of, made_as, name_as, nearest_device, new_node, node_of}
use Rattle.wdf_model.specs.parts.Tree as tree
use Rattle.wdf_model.specs.State.{State, declared_in, handle_in, held_at, is_held_from, is_proper, is_with_driver, object_in, queue_delivers}
use Rattle.wdf_model.specs.rules.Calls.{Outcome, class_in, create_outcome, creation, forward_outcome, forwards_nowhere, is_met_then, mark_outcome, may_send, new_handle, number, number_in, origin_or_none, outcome, refused, requeue_outcome, retrieve_front, retrieve_outcome, second_deeds}
use Rattle.wdf_base.specs.Values.{arg_is}
use Rattle.wdf_model.specs.rules.Script.{intent_of}
use Rattle.wdf_model.specs.rules.Starts.{life_fits, may_start, new_frame, next_number, rank_ready_for, start_effect, take_if_any}
use Rattle.wdf_model.specs.rules.Steps.{answered, by_top, deeds, did_deeds, goes_on, is_cpu, may, spending, stepped, waiting, waiting_deeds, woke_deeds}
use Rattle.wdf_model.proofs.Counts.{count_yes}
use Rattle.wdf_model.proofs.Maps.{entry_last}
use Rattle.wdf_model.proofs.Tests.{both_left, both_right, itself}
use Rattle.law_machine_base.proofs.FitsOfEvents.{by_its_top}
use Rattle.law_machine_base.proofs.OwnEvents.{IsDid, IsWaiting, IsWoke, did_tells, waiting_tells, woke_tells}
use Rattle.law_machine_deeds.specs.MayDo.{calls, goes_on as moves_on, is_start, makes_objects}
use Rattle.law_machine_deeds.proofs.Passing.{Passes, PassesBeside, event_passes, first_of, outcome_passes, second_of, second_passes, start_effect_passes, start_of}
use Rattle.law_machine_deeds.proofs.Walk.{plain_frame, plain_start}
use Rattle.law_machine_lives.proofs.Keeping.{Known}
use Rattle.law_machine_lives.proofs.Lists.{each_behind, inside}
use Rattle.law_trace_families.proofs.Stays.{Stays}
use Rattle.law_handles.specs.Handles.{InArg, InCall, InFrame, InOption, InPending, InValue, IsNamed}
use Rattle.law_handles.proofs.Changes.{AllTell, Tells, is_telling, none_tell}
use Rattle.law_handles.proofs.Values.{InIntent, answered_in, goes_on_in, intent_in, spending_in, stepped_in, waits_in, zeros}
use Rattle.law_machine_counts.proofs.Nearest.{nearest_below}

-- ---- names stay, and a new object has the name of its class

same_made : (plan : Plan) (n m : Node) (o : ℕ) (k : Kind) → n.class ≡ m.class → made_as plan n o k ≡ made_as plan m o k
same_made plan n m o kind.Request e = refl
same_made plan n m o kind.Driver e = refl
same_made plan n m o kind.Device e = refl
same_made plan n m o kind.Queue e = refl
same_made plan n m o kind.Interrupt e = refl
same_made plan n m o kind.Target e = refl
same_made plan n m o _ e = ap (λ c. Some (declared.OfClass c)) e

pub named_still : (plan : Plan) (T U : Tree) → Stays T U → (h : Handle) → IsNamed plan T h → IsNamed plan U h
named_still plan T U s h k = (
  (let low = k.0 in let longer = s.longer in omega (arith, low, longer)),
  λ there.
      let was = s.was h.id.0 k.0 there in
      let kinds : made_as plan (node_of U h.id.0) h.id.0 (node_of U h.id.0).kind ≡ made_as plan (node_of T h.id.0) h.id.0 (node_of T h.id.0).kind =
      same_made plan (node_of U h.id.0) (node_of T h.id.0) h.id.0 (node_of U h.id.0).kind was.class ∙ ap (made_as plan (node_of T h.id.0) h.id.0) was.kind in
      k.1 was.there ∙ sym (ap (name_as plan) kinds),
)

plain_name : (plan : Plan) (n : Node) (o : ℕ) (k : PlainKind) → name_as plan (made_as plan n o (class_kind (class.Plain 0 k))) ≡ name_of_class plan n.class
plain_name plan n o plain.Object = refl
plain_name plan n o plain.SpinLock = refl
plain_name plan n o plain.WaitLock = refl
plain_name plan n o plain.Request = refl

deferred_name : (plan : Plan) (n : Node) (o : ℕ) (k : DeferredKind) → name_as plan (made_as plan n o (deferred_kind k)) ≡ name_of_class plan n.class
deferred_name plan n o deferred.Dpc = refl
deferred_name plan n o deferred.Timer = refl
deferred_name plan n o deferred.WorkItem = refl

class_named : (plan : Plan) (n : Node) (o number : ℕ) (info : Option ClassInfo) → slice_get plan.classes number ≡ info → name_as plan (made_as plan n o (kind_of_class plan number)) ≡ name_of_class plan n.class
class_named plan n o number None at = rw at refl
class_named plan n o number (Some (class.Plain name k)) at = rw at (plain_name plan n o k)
class_named plan n o number (Some (class.Deferred name k parent serialize period)) at = rw at (deferred_name plan n o k)

pub new_named : (plan : Plan) (T : Tree) (class parent : ℕ) → IsNamed plan (tree.create T (kind_of_class plan class) class parent) (record { id = record { 0 = length T.nodes }; name = name_of_class plan class })
new_named plan T class parent =
    let new : Node = new_node (kind_of_class plan class) class parent in
    let here : node_of (tree.create T (kind_of_class plan class) class parent) (length T.nodes) ≡ new = entry_last gone T.nodes new in (
      (let longer = length-append T.nodes (new ∷ []) in omega (arith, longer)),
      λ there. sym (ap (λ (n : Node). name_as plan (made_as plan n (length T.nodes) n.kind)) here ∙ class_named plan new (length T.nodes) class (slice_get plan.classes class) refl),
    )

-- ---- what is there

module _ {A : Type 0} (plan : Plan) (m : Meaning A) (S : State A) (known : Known plan S) where
  object_named : (o : ℕ) → o < length S.tree.nodes → IsNamed plan S.tree (handle_in plan S o)
  object_named o low = (low, λ there. refl)

  proper_named : (h : Handle) → is_proper plan S h ≡ true → h.id.0 < length S.tree.nodes → IsNamed plan S.tree h
  proper_named h proper low = (low, λ there. eqb-true h.name (handle_in plan S h.id.0).name proper)

  life_there : (c : Callback) (o : ℕ) → life_fits S c o ≡ true → o < length S.tree.nodes
  life_there callback.EvtCleanupCallback o h = inside gone (λ n. is_asked n.life) S.tree.nodes o refl h
  life_there callback.EvtDestroyCallback o h = inside gone (λ n. is_cleaned n.life) S.tree.nodes o refl h
  life_there _ o h = inside gone (λ n. is_live n.life) S.tree.nodes o refl h

  request_there : (r : ℕ) → r < length S.requests.all → r < length S.tree.nodes
  request_there r low = let below = known.room in omega (arith, low, below)

  held_there : (r q : ℕ) → is_held_from S q r ≡ true → r < length S.tree.nodes
  held_there r q h =
      request_there r (inside no_request (λ x. held_at (is_forgotten S.targets r) x.place) S.requests.all r refl (both_right (same_id (origin_of S.requests r) q) (is_with_driver S r) h))

  first_counts : (r : ℕ) (xs : List ℕ) → same_id (first_of_list xs) r ≡ true → 1 ≤ count_by (λ x. x == r) xs
  first_counts r [] h = absurd (let z : ⊥ = cc in z)
  first_counts r (x ∷ xs) h = let more = count_yes (λ y. y == r) x xs h in omega (arith, more)

  queued_flag : (b : Bool) → 1 ≤ flag b → b ≡ true
  queued_flag true h = refl
  queued_flag false h = absurd (omega (arith, h))

  front_there : (q r : ℕ) → same_id (front S.queues q) r ≡ true → r < length S.tree.nodes
  front_there q r h =
      let count = first_counts r (waiting_in S.queues q) h in
      let place = known.places.queued q r in
      let is : is_queued_in q (place_of S.requests r) ≡ true = queued_flag (is_queued_in q (place_of S.requests r)) (omega (arith, count, place)) in
      request_there r (inside no_request (λ x. is_queued_in q x.place) S.requests.all r refl is)

  ready_there : (k : Rank) (c : Callback) (o r : ℕ) → rank_ready_for plan S k c o r ≡ true → r < length S.tree.nodes
  ready_there rank.Completion c o r h = request_there r (inside no_request (λ x. is_sent_to o x.place) S.requests.all r refl (both_left (is_sent_to o (place_of S.requests r)) _ h))
  ready_there rank.Cancel c o r h = held_there r o (both_right (is_due (mark_of S.requests r)) (is_held_from S o r) h)
  ready_there rank.CanceledOnQueue c o r h = request_there r (inside no_request (λ x. is_returning_to o x.place) S.requests.all r refl h)
  ready_there rank.Stop c o r h = held_there r o (search (both_left, both_right))
  ready_there rank.Resume c o r h = held_there r o (both_right _ (is_held_from S o r) h)
  ready_there rank.Handler c o r h = front_there o r (search (both_left, both_right))
  ready_there _ c o r h = absurd (let z : ⊥ = cc in z)

-- ---- the nearest device of an object

-- ---- what is told

set_goes_on : (e : Event) → calls call.SetContext e ≡ true → moves_on e ≡ true
set_goes_on (event.Did cpu c v) h = refl
set_goes_on (event.Waiting cpu c) h = refl
set_goes_on _ h = absurd (let z : ⊥ = cc in z)

quiet_event : (e : Event) → is_start e ≡ false → moves_on e ≡ false → Passes (λ d. not (is_telling d)) e
quiet_event e no_start still (PushFrame cpu f frame level) h = absurd (let z : ⊥ = cc in z)
quiet_event e no_start still (GoOn f frame) h = absurd (let z : ⊥ = cc in z)
quiet_event e no_start still (WriteCell o k v) h = absurd (let on = set_goes_on e h in let z : ⊥ = cc in z)
quiet_event e no_start still _ h = refl

quiet_effect : (c : Callback) → PassesBeside (λ d. not (is_telling d)) plain_start (start_of c)
quiet_effect c (PushFrame cpu f frame level) h off = absurd (let z : ⊥ = cc in z)
quiet_effect c (GoOn f frame) h off = absurd (let z : ⊥ = cc in z)
quiet_effect c (WriteCell o k v) h off = absurd (let z : ⊥ = cc in z)
quiet_effect c _ h off = refl

quiet_call : (c : Call) → same_call_kind c.kind call.SetContext ≡ false → PassesBeside (λ d. not (is_telling d)) plain_frame (first_of c)
quiet_call c other (PushFrame cpu f frame level) h off = absurd (let z : ⊥ = cc in z)
quiet_call c other (GoOn f frame) h off = absurd (let z : ⊥ = cc in z)
quiet_call c other (WriteCell o k v) h off = absurd (let z : ⊥ = cc in z)
quiet_call c other _ h off = refl

quiet_second : (c : Call) → PassesBeside (λ d. not (is_telling d)) plain_frame (second_of c)
quiet_second c (PushFrame cpu f frame level) h off = absurd (let z : ⊥ = cc in z)
quiet_second c (GoOn f frame) h off = absurd (let z : ⊥ = cc in z)
quiet_second c (WriteCell o k v) h off = absurd (let z : ⊥ = cc in z)
quiet_second c _ h off = refl

pub met_where_made : {A : Type 0} (plan : Plan) (S : State A) (k : CallKind) (n : ℕ) (a b x : Arg) → makes_objects k ≡ true → is_met_then plan S (record { kind = k; count = n; a = a; b = b; c = x }) ≡ true
met_where_made plan S call.WdfObjectCreate n a b x h = refl
met_where_made plan S call.WdfSpinLockCreate n a b x h = refl
met_where_made plan S call.WdfWaitLockCreate n a b x h = refl
met_where_made plan S call.WdfRequestCreate n a b x h = refl
met_where_made plan S call.WdfDpcCreate n a b x h = refl
met_where_made plan S call.WdfTimerCreate n a b x h = refl
met_where_made plan S call.WdfWorkItemCreate n a b x h = refl
met_where_made plan S _ n a b x h = absurd (let z : ⊥ = cc in z)

module _ {A : Type 0} (plan : Plan) (m : Meaning A) (S : State A) (known : Known plan S) (two : 1 < length S.tree.nodes) (P : Handle → Type 0) (up : (h : Handle) → IsNamed plan S.tree h → P h)
    (frames : (f : ℕ) → InFrame P (frame_of S.cpus f)) (cells : (o k : ℕ) → InValue P (cell_of S.tree o k)) (literals : (e : ℕ) (o : Handle) → slice_get plan.exprs e ≡ Some (node.Object o) → P o) where
  -- ---- what a call answers

  either : (b : Bool) (x y : Outcome) → InValue P x.answer → InValue P y.answer → InValue P (if b then x else y).answer
  either true x y h k = h
  either false x y h k = k

  created : (class parent : ℕ) → ((create_outcome plan S class parent).deeds ≡ creation (kind_of_class plan class) class parent ∷ [] → P (new_handle plan S class)) → InValue P (create_outcome plan S class parent).answer
  created class parent new = by (is_live (life_of S.tree parent)) (is_full S.tree) refl refl
    where
      by : (live full : Bool) → is_live (life_of S.tree parent) ≡ live → is_full S.tree ≡ full → InValue P (create_outcome plan S class parent).answer
      by false full e f = rw e tt
      by true true e f = rw (e, f) tt
      by true false e f = rw (e, f) (new (rw (e, f) refl))

  fronted : (q : ℕ) (there : Option ℕ) → front S.queues q ≡ there → InValue P (retrieve_front plan S q there).answer
  fronted q None is = tt
  fronted q (Some r) is = up (handle_in plan S r) (object_named plan m S known r (front_there plan m S known q r (ap (λ o. same_id o r) is ∙ itself r)))

  retrieved : (q : ℕ) → InValue P (retrieve_outcome plan S q).answer
  retrieved q =
      either (is_parallel_queue plan q) _ (if not (queue_delivers plan S q) then refused status.WdfPaused else retrieve_front plan S q (front S.queues q)) tt
      (either (not (queue_delivers plan S q)) (refused status.WdfPaused) (retrieve_front plan S q (front S.queues q)) tt (fronted q (front S.queues q) refl))

  marks : (r : ℕ) → InValue P (mark_outcome plan S r).answer
  marks r = either (declares plan callback.EvtRequestCancel (origin_or_none S r)) _ (refused status.InvalidDeviceRequest) tt tt

  requeued : (r q : ℕ) → InValue P (requeue_outcome S r q).answer
  requeued r q = either (is_cancelled S.requests r || is_purged (mode_of S.control q)) _ _ tt tt

  forwarded : (r q : ℕ) → InValue P (forward_outcome plan S r q).answer
  forwarded r q = either (forwards_nowhere plan S r q) _ _ tt (either (not (accepts S.control q)) _ _ tt (either (is_cancelled S.requests r) _ _ tt tt))

  queued_if : (b : Bool) (d : Deed) → InValue P (if b then number 1 (d ∷ []) else number 0 []).answer
  queued_if b d = either b (number 1 (d ∷ [])) (number 0 []) tt tt

  answer_by : (cpu f : ℕ) (k : CallKind) (n : ℕ) (a b x : Arg)
      → (makes_objects k ≡ true → (class parent : ℕ) → (outcome plan S cpu f (record { kind = k; count = n; a = a; b = b; c = x })).deeds ≡ creation (kind_of_class plan class) class parent ∷ [] → P (new_handle plan S class))
      → InValue P (outcome plan S cpu f (record { kind = k; count = n; a = a; b = b; c = x })).answer
  answer_by cpu f call.WdfObjectCreate n a b x new = created (class_in a) (object_in b) (new refl (class_in a) (object_in b))
  answer_by cpu f call.WdfSpinLockCreate n a b x new = created (class_in a) (object_in b) (new refl (class_in a) (object_in b))
  answer_by cpu f call.WdfWaitLockCreate n a b x new = created (class_in a) (object_in b) (new refl (class_in a) (object_in b))
  answer_by cpu f call.WdfRequestCreate n a b x new = created (class_in a) (object_in b) (new refl (class_in a) (object_in b))
  answer_by cpu f call.WdfDpcCreate n a b x new = created (class_in a) (parent_of_class plan (class_in a)) (new refl (class_in a) (parent_of_class plan (class_in a)))
  answer_by cpu f call.WdfTimerCreate n a b x new = created (class_in a) (parent_of_class plan (class_in a)) (new refl (class_in a) (parent_of_class plan (class_in a)))
  answer_by cpu f call.WdfWorkItemCreate n a b x new = created (class_in a) (parent_of_class plan (class_in a)) (new refl (class_in a) (parent_of_class plan (class_in a)))
  answer_by cpu f call.GetContext n a b x new = cells (object_in a) (number_in b)
  answer_by cpu f call.WdfRequestMarkCancelableEx n a b x new = marks (object_in a)
  answer_by cpu f call.WdfRequestRequeue n a b x new = requeued (object_in a) (origin_or_none S (object_in a))
  answer_by cpu f call.WdfRequestForwardToIoQueue n a b x new = forwarded (object_in a) (object_in b)
  answer_by cpu f call.WdfRequestStopAcknowledge n a b x new = either (arg_is b 0) _ (requeue_outcome S (object_in a) (origin_or_none S (object_in a))) tt (requeued (object_in a) (origin_or_none S (object_in a)))
  answer_by cpu f call.WdfRequestSend n a b x new = either (may_send S (object_in a) (object_in b)) _ _ tt tt
  answer_by cpu f call.WdfIoQueueRetrieveNextRequest n a b x new = retrieved (object_in a)
  answer_by cpu f call.WdfIoQueueReadyNotify n a b x new = either (is_manual_queue plan (object_in a) && declares plan callback.EvtIoQueueState (object_in a)) _ _ tt tt
  answer_by cpu f call.WdfInterruptQueueDpcForIsr n a b x new =
      queued_if (is_enabled S.interrupts (object_in a) && declares plan callback.EvtInterruptDpc (object_in a) && not (is_dpc_queued S.dpcs (object_in a))) (EnqueueDpc (cpu_of cpu) (object_id (object_in a)))
  answer_by cpu f call.WdfDpcEnqueue n a b x new = queued_if (is_live (life_of S.tree (object_in a)) && not (is_dpc_queued S.dpcs (object_in a))) (EnqueueDpc (cpu_of cpu) (object_id (object_in a)))
  answer_by cpu f call.WdfTimerStart n a b x new = either (is_live (life_of S.tree (object_in a))) _ _ tt tt
  answer_by cpu f call.WdfWorkItemEnqueue n a b x new = either (is_live (life_of S.tree (object_in a))) _ _ tt tt
  answer_by cpu f _ n a b x new = tt

  -- ---- what its deeds tell

  outcome_tells : (cpu f : ℕ) (k : CallKind) (n : ℕ) (a b x : Arg) → InArg P x → AllTell P (outcome plan S cpu f (record { kind = k; count = n; a = a; b = b; c = x })).deeds
  outcome_tells cpu f call.SetContext n a b (Val v) third = (third, tt)
  outcome_tells cpu f call.SetContext n a b (Class c) third = (tt, tt)
  outcome_tells cpu f k n a b x third =
      none_tell P (outcome plan S cpu f (record { kind = k; count = n; a = a; b = b; c = x })).deeds
      (outcome_passes (λ d. not (is_telling d)) plan S cpu f (record { kind = k; count = n; a = a; b = b; c = x }) (quiet_call (record { kind = k; count = n; a = a; b = b; c = x }) refl))

  second_tells : (f : ℕ) (c : Call) → AllTell P (second_deeds f c)
  second_tells f c = none_tell P (second_deeds f c) (second_passes (λ d. not (is_telling d)) f c (quiet_second c))

  -- the handles in the call that a frame is about to do
  call_in : (f : ℕ) (c : Call) → intent_of plan (frame_of S.cpus f) ≡ intent.Do c → InCall P c
  call_in f c about = subst (InIntent P plan literals (frame_of S.cpus f) (frames f)) about (intent_in P plan literals (frame_of S.cpus f) (frames f))

  -- ---- frames

  by_top_tells : (ds : ℕ → Frame → List Deed) → ((f : ℕ) → AllTell P (ds f (frame_of S.cpus f))) → (there : Option ℕ) → AllTell P (elim there as (λ _. List Deed) [ None ↦ [] | Some f ↦ ds f (frame_of S.cpus f) ])
  by_top_tells ds h None = tt
  by_top_tells ds h (Some f) = h f

  new_frame_in : (c : Callback) (o : Handle) (r : Option Handle) → P o → InOption P r → InFrame P (new_frame plan S c o r)
  new_frame_in c o r h k =
      let near = nearest_below (length S.tree.nodes) [] S.tree.nodes (omega arith) (λ x. two) o.id.0 in
      record {
        own = h;
        nearest = up (handle_in plan S (nearest_device S.tree o.id.0)) (object_named plan m S known (nearest_device S.tree o.id.0) near);
        carried = k;
        variable = zeros P 16;
        waits = tt;
      }

  start_parts : (cpu : Cpu) (c : Callback) (o : Handle) (r : Option Handle) → may plan m S (event.Start cpu c o r) ≡ true → P o × InOption P r
  start_parts cpu c o None h =
      let starts : may_start plan m S cpu.0 c o.id.0 None ≡ true = both_right (is_cpu plan cpu && is_proper plan S o && true) (may_start plan m S cpu.0 c o.id.0 None) h in
      let before : (is_cpu plan cpu && is_proper plan S o && true) ≡ true = both_left (is_cpu plan cpu && is_proper plan S o && true) (may_start plan m S cpu.0 c o.id.0 None) h in
      let two_ : (is_cpu plan cpu && is_proper plan S o) ≡ true = both_left (is_cpu plan cpu && is_proper plan S o) true before in
      let lives : life_fits S c o.id.0 ≡ true = search (both_left, both_right) in
      (up o (proper_named plan m S known o (both_right (is_cpu plan cpu) (is_proper plan S o) two_) (life_there plan m S known c o.id.0 lives)), tt)
  start_parts cpu c o (Some r) h =
      let starts : may_start plan m S cpu.0 c o.id.0 (Some r) ≡ true = both_right (is_cpu plan cpu && is_proper plan S o && is_proper plan S r) (may_start plan m S cpu.0 c o.id.0 (Some r)) h in
      let before : (is_cpu plan cpu && is_proper plan S o && is_proper plan S r) ≡ true = both_left (is_cpu plan cpu && is_proper plan S o && is_proper plan S r) (may_start plan m S cpu.0 c o.id.0 (Some r)) h in
      let two_ : (is_cpu plan cpu && is_proper plan S o) ≡ true = both_left (is_cpu plan cpu && is_proper plan S o) (is_proper plan S r) before in
      let lives : life_fits S c o.id.0 ≡ true = search (both_left, both_right) in
      let due : rank_ready_for plan S (row_of c).rank c o.id.0 r.id.0 ≡ true = search both_right in (
        up o (proper_named plan m S known o (both_right (is_cpu plan cpu) (is_proper plan S o) two_) (life_there plan m S known c o.id.0 lives)),
        up r (proper_named plan m S known r (both_right (is_cpu plan cpu && is_proper plan S o) (is_proper plan S r) before) (ready_there plan m S known (row_of c).rank c o.id.0 r.id.0 due)),
      )

  start_tells : (cpu : Cpu) (c : Callback) (o : Handle) (r : Option Handle) → may plan m S (event.Start cpu c o r) ≡ true → AllTell P (deeds plan S (event.Start cpu c o r))
  start_tells cpu c o r h =
      let parts = start_parts cpu c o r h in
      each_behind (Tells P) (start_effect plan S cpu.0 c o.id.0 r)
      (PushFrame cpu (frame_id (next_number S)) (new_frame plan S c o r) (irql_of (callback_irql plan c o.id.0)) ∷ take_if_any (next_number S) (lock_of_callback plan c o.id.0 (declared_in plan S o.id.0)))
      (none_tell P (start_effect plan S cpu.0 c o.id.0 r) (start_effect_passes (λ d. not (is_telling d)) plan S cpu.0 c o.id.0 r (quiet_effect c)))
      (new_frame_in c o r parts.0 parts.1, taking (lock_of_callback plan c o.id.0 (declared_in plan S o.id.0)))
    where
      taking : (l : Option LockRef) → AllTell P (take_if_any (next_number S) l)
      taking None = tt
      taking (Some l) = (tt, tt)

  did_tells_all : (cpu : ℕ) (c : Call) (v : Value) (d : IsDid plan S cpu c v)
      → ((class parent : ℕ) → (outcome plan S cpu d.frame c).deeds ≡ creation (kind_of_class plan class) class parent ∷ [] → P (new_handle plan S class))
      → AllTell P (by_top S cpu (did_deeds plan S cpu c v))
  did_tells_all cpu c v d new =
      let is = call_in d.frame c d.about.about in
      let answer : InValue P v = subst (InValue P) (sym d.answer) (answer_by cpu d.frame c.kind c.count c.a c.b c.c (λ makes. new)) in
      subst (AllTell P) (sym (by_its_top S cpu d.frame (did_deeds plan S cpu c v) d.about.top))
      (each_behind (Tells P) ((outcome plan S cpu d.frame c).deeds ++ second_deeds d.frame c) (GoOn (frame_id d.frame) (answered plan (frame_of S.cpus d.frame) v) ∷ [])
      (each_behind (Tells P) (outcome plan S cpu d.frame c).deeds (second_deeds d.frame c) (outcome_tells cpu d.frame c.kind c.count c.a c.b c.c is.2) (second_tells d.frame c))
      (answered_in P plan literals (frame_of S.cpus d.frame) (frames d.frame) v answer, tt))

  waiting_tells_all : (cpu : ℕ) (c : Call) → IsWaiting plan S cpu c → AllTell P (by_top S cpu (waiting_deeds plan S cpu c))
  waiting_tells_all cpu c d =
      let is = call_in d.frame c d.about.about in
      let answer : InValue P (outcome plan S cpu d.frame c).answer =
      answer_by cpu d.frame c.kind c.count c.a c.b c.c (λ makes class parent same. absurd (let met = met_where_made plan S c.kind c.count c.a c.b c.c makes in let unmet = d.unmet in let z : ⊥ = cc in z)) in
      subst (AllTell P) (sym (by_its_top S cpu d.frame (waiting_deeds plan S cpu c) d.about.top))
      (each_behind (Tells P) (outcome plan S cpu d.frame c).deeds (GoOn (frame_id d.frame) (waiting (frame_of S.cpus d.frame) c (outcome plan S cpu d.frame c).answer) ∷ []) (outcome_tells cpu d.frame c.kind c.count c.a c.b c.c is.2)
      (waits_in P plan literals (frame_of S.cpus d.frame) (frames d.frame) c (outcome plan S cpu d.frame c).answer is answer, tt))

  woke_tells_all : (cpu : ℕ) (c : Call) (v : Value) → IsWoke S cpu c v → AllTell P (by_top S cpu (woke_deeds plan c v))
  woke_tells_all cpu c v d =
      let waits : InPending P (Some (record { call = c; answer = v })) = subst (InPending P) d.waits (frames d.frame).waits in
      subst (AllTell P) (sym (by_its_top S cpu d.frame (woke_deeds plan c v) d.top))
      (each_behind (Tells P) (second_deeds d.frame c) (GoOn (frame_id d.frame) (answered plan (frame_of S.cpus d.frame) v) ∷ []) (second_tells d.frame c)
      (answered_in P plan literals (frame_of S.cpus d.frame) (frames d.frame) v waits.1, tt))

  -- ---- each event

  pub event_tells : (e : Event) → may plan m S e ≡ true
      → ((cpu : ℕ) (c : Call) (v : Value) (d : IsDid plan S cpu c v) (class parent : ℕ) → e ≡ event.Did (cpu_of cpu) c v → (outcome plan S cpu d.frame c).deeds ≡ creation (kind_of_class plan class) class parent ∷ [] → P (new_handle plan S class))
      → AllTell P (deeds plan S e)
  event_tells (event.Start cpu c o r) h new = start_tells cpu c o r h
  event_tells (event.Local cpu line) h new =
      by_top_tells (λ f frame. GoOn (frame_id f) (stepped frame (intent_of plan frame)) ∷ [])
      (λ f. (stepped_in P plan literals (frame_of S.cpus f) (frames f) (intent_of plan (frame_of S.cpus f)) (intent_in P plan literals (frame_of S.cpus f) (frames f)), tt)) (top S.cpus cpu.0)
  event_tells (event.Log cpu v) h new = by_top_tells (λ f frame. GoOn (frame_id f) (goes_on plan frame) ∷ []) (λ f. (goes_on_in P plan literals (frame_of S.cpus f) (frames f), tt)) (top S.cpus cpu.0)
  event_tells (event.Spend cpu n) h new = by_top_tells (λ f frame. GoOn (frame_id f) (spending plan S frame n) ∷ []) (λ f. (spending_in P plan literals (frame_of S.cpus f) (frames f) S n, tt)) (top S.cpus cpu.0)
  event_tells (event.Register cpu a r v) h new = by_top_tells (λ f frame. GoOn (frame_id f) (answered plan frame (Num v)) ∷ []) (λ f. (answered_in P plan literals (frame_of S.cpus f) (frames f) (Num v) tt, tt)) (top S.cpus cpu.0)
  event_tells (event.Did cpu c v) h new = let d = did_tells plan m S cpu c v h in did_tells_all cpu.0 c v d (λ class parent same. new cpu.0 c v d class parent refl same)
  event_tells (event.Waiting cpu c) h new = waiting_tells_all cpu.0 c (waiting_tells plan m S cpu c h)
  event_tells (event.Woke cpu c v) h new = woke_tells_all cpu.0 c v (woke_tells plan m S cpu c v h)
  event_tells e h new = none_tell P (deeds plan S e) (event_passes (λ d. not (is_telling d)) plan S e (quiet_event e refl refl))
