-- What a call answers, and what its deeds give, are of the plan.
use Rattle.std.proofs.Common.{if◌then◌else◌, ℕ, ◌<◌, ◌^◌, Bool, true, false, not, ◌&&◌, ◌||◌, List, [], ◌∷◌, Option, Some, None, sym, subst, arith}
use Rattle.wdf_base.specs.Meaning.{Meaning}
use Rattle.wdf_base.specs.declared.plan.Plan.{Plan}
use Rattle.wdf_base.specs.declared.object.Kind.{Kind}
use Rattle.wdf_base.specs.declared.object.Kind.TheVariants as kind
use Rattle.wdf_base.specs.declared.call.Arg.{Arg}
use Rattle.wdf_base.specs.declared.call.Arg.TheVariants.{Val, Class}
use Rattle.wdf_base.specs.declared.call.Call.{Call}
use Rattle.wdf_base.specs.declared.call.CallKind.{CallKind}
use Rattle.wdf_base.specs.declared.call.CallKind.TheVariants as call
use Rattle.wdf_base.specs.declared.call.Callback.TheVariants as callback
use Rattle.wdf_base.specs.declared.value.Status.TheVariants as status
use Rattle.wdf_base.specs.declared.value.Value.TheVariants.{Obj, Stat}
use Rattle.wdf_base.specs.Lives.{is_live}
use Rattle.wdf_model.specs.Tables.{flag}
use Rattle.wdf_model.specs.Plans.{declares, is_manual_queue, is_parallel_queue, kind_of_class, parent_of_class}
use Rattle.wdf_model.specs.parts.Tree.{is_full, life_of}
use Rattle.wdf_model.specs.parts.Control.{accepts, is_purged, mode_of}
use Rattle.wdf_model.specs.parts.Interrupts.{is_enabled}
use Rattle.wdf_model.specs.parts.Deferred.Dpcs.{is_dpc_queued}
use Rattle.wdf_model.specs.parts.Deferred.Timers.{is_timer_queued}
use Rattle.wdf_model.specs.parts.Queues.{front}
use Rattle.wdf_model.specs.parts.Requests.{is_cancelled, mark_answer}
use Rattle.wdf_model.specs.parts.Targets.{is_undone}
use Rattle.wdf_model.specs.State.{State, object_in, queue_delivers}
use Rattle.wdf_model.specs.Ids.{cpu_of, object_id}
use Rattle.wdf_model.specs.declared.deed.Deed.{Deed}
use Rattle.wdf_model.specs.declared.deed.Deed.TheVariants.{Acknowledge, EnqueueDpc, EnqueueWork, Forward, GiveBack, MarkRequest, RegisterQueue, Requeue, SendRequest, StartTimer}
use Rattle.wdf_base.specs.Values.{arg_is}
use Rattle.wdf_model.specs.rules.Calls.{Outcome, acknowledge_outcome, class_in, create_outcome, creation, forward_outcome, forwards_nowhere, mark_outcome, may_send, new_handle, number, number_in, origin_or_none, outcome, refused, requeue_outcome, retrieve_front, retrieve_outcome, second_deeds, send_outcome, success, value_in}
use Rattle.wdf_model.specs.rules.Room.{AreDoable}
use Rattle.wdf_trace.specs.Events.{IsArgumentOf, IsCallOf, IsValueOf}
use Rattle.law_lines.proofs.ProperNames.{class_below, handle_name, used_parts}
use Rattle.law_lines.proofs.OfPlan.{Bounded, few_declared, requests_few}
use Rattle.law_lines.specs.Values.{HasPlanValues}
use Rattle.law_lines.proofs.Expressions.{flag_small}
use Rattle.law_lines.proofs.ByDeeds.{AllTellOf}

value_of_argument : (plan : Plan) (b : Bool) (a : Arg) → IsArgumentOf plan b a → IsValueOf plan (value_in a)
value_of_argument plan false a h = subst (λ x. IsValueOf plan (value_in x)) (sym h) (let small : 0 < 2 ^ 64 = omega arith in small)
value_of_argument plan true (Val v) h = h
value_of_argument plan true (Class c) h = omega arith

-- the answer is of the plan, where the deeds can be done, and so is what they give
pub record OutcomeOf {A : Type 0} (plan : Plan) (S : State A) (o : Outcome) : Type 0 where
  pub answers : AreDoable plan o.deeds S → IsValueOf plan o.answer
  pub tells : AllTellOf plan o.deeds

module _ {A : Type 0} (plan : Plan) (m : Meaning A) (S : State A) (b : Bounded plan S) (values : HasPlanValues plan S) where
  either : (t : Bool) (x y : Outcome) → OutcomeOf plan S x → OutcomeOf plan S y → OutcomeOf plan S (if t then x else y)
  either true x y h k = h
  either false x y h k = k

  -- a number that fits, or a status, with this done
  numbered : (n : ℕ) (ds : List Deed) → n < 2 ^ 64 → AllTellOf plan ds → OutcomeOf plan S (number n ds)
  numbered n ds h t = record { answers = λ _. h; tells = t }

  flagged : (t : Bool) (ds : List Deed) → AllTellOf plan ds → OutcomeOf plan S (number (flag t) ds)
  flagged t ds h = numbered (flag t) ds (flag_small t) h

  done : (ds : List Deed) → AllTellOf plan ds → OutcomeOf plan S (success ds)
  done ds t = record { answers = λ _. tt; tells = t }

  refusal : OutcomeOf plan S (refused status.InvalidDeviceRequest)
  refusal = record { answers = λ _. tt; tells = tt }

  creation_tells : (k : Kind) (class parent : ℕ) → AllTellOf plan (creation k class parent ∷ [])
  creation_tells kind.Made class parent = (tt, tt)
  creation_tells _ class parent = (tt, tt)

  created : (class parent : ℕ) → OutcomeOf plan S (create_outcome plan S class parent)
  created class parent =
      let there = b.room.growth.objects in
      let declared = few_declared plan b.resolved in
      let number = b.number in
      let made : Outcome = record { answer = Obj (new_handle plan S class); deeds = creation (kind_of_class plan class) class parent ∷ [] } in
      either (not (is_live (life_of S.tree parent))) (refused status.DeletePending) (if is_full S.tree then refused status.InsufficientResources else made)
      (record { answers = λ _. tt; tells = tt })
      (either (is_full S.tree) (refused status.InsufficientResources) made
      (record { answers = λ _. tt; tells = tt })
      (record {
        answers = λ _. (omega (arith, there, declared, number), class_below plan b.resolved plan.classes class (used_parts plan b.resolved).1);
        tells = creation_tells (kind_of_class plan class) class parent;
      }))

  marks : (r : ℕ) → OutcomeOf plan S (mark_outcome plan S r)
  marks r =
      either (declares plan callback.EvtRequestCancel (origin_or_none S r)) (record { answer = Stat (mark_answer S.requests r); deeds = MarkRequest (object_id r) ∷ [] }) (refused status.InvalidDeviceRequest)
      (record { answers = λ _. tt; tells = (tt, tt) }) refusal

  requeued : (r q : ℕ) → OutcomeOf plan S (requeue_outcome S r q)
  requeued r q =
      either (is_cancelled S.requests r || is_purged (mode_of S.control q)) (success (GiveBack (object_id r) (object_id q) ∷ [])) (success (Requeue (object_id r) (object_id q) ∷ []))
      (done (GiveBack (object_id r) (object_id q) ∷ []) (tt, tt)) (done (Requeue (object_id r) (object_id q) ∷ []) (tt, tt))

  forwarded : (r q : ℕ) → OutcomeOf plan S (forward_outcome plan S r q)
  forwarded r q =
      either (forwards_nowhere plan S r q) (refused status.InvalidDeviceRequest)
      (if not (accepts S.control q) then refused status.WdfBusy else if is_cancelled S.requests r then success (GiveBack (object_id r) (object_id q) ∷ []) else success (Forward (object_id r) (object_id q) ∷ [])) refusal
      (either (not (accepts S.control q)) (refused status.WdfBusy) (if is_cancelled S.requests r then success (GiveBack (object_id r) (object_id q) ∷ []) else success (Forward (object_id r) (object_id q) ∷ []))
      (record { answers = λ _. tt; tells = tt })
      (either (is_cancelled S.requests r) (success (GiveBack (object_id r) (object_id q) ∷ [])) (success (Forward (object_id r) (object_id q) ∷ []))
      (done (GiveBack (object_id r) (object_id q) ∷ []) (tt, tt)) (done (Forward (object_id r) (object_id q) ∷ []) (tt, tt))))

  acknowledged : (r : ℕ) (a : Arg) → OutcomeOf plan S (acknowledge_outcome S r a)
  acknowledged r a = either (arg_is a 0) (success (Acknowledge (object_id r) ∷ [])) (requeue_outcome S r (origin_or_none S r)) (done (Acknowledge (object_id r) ∷ []) (tt, tt)) (requeued r (origin_or_none S r))

  sent : (r t : ℕ) (forget : Bool) → OutcomeOf plan S (send_outcome S r t forget)
  sent r t forget =
      either (may_send S r t) (number 1 (SendRequest (object_id r) (object_id t) forget ∷ [])) (number 0 [])
      (numbered 1 (SendRequest (object_id r) (object_id t) forget ∷ []) (omega arith) (tt, tt)) (numbered 0 [] (omega arith) tt)

  fronted : (q : ℕ) (there : Option ℕ) → OutcomeOf plan S (retrieve_front plan S q there)
  fronted q None = record { answers = λ _. tt; tells = tt }
  fronted q (Some r) = record {
    answers = λ k. (requests_few plan m S b r k.0.1.request.there, handle_name plan S b.resolved r);
    tells = (tt, tt);
  }

  retrieved : (q : ℕ) → OutcomeOf plan S (retrieve_outcome plan S q)
  retrieved q =
      either (is_parallel_queue plan q) (refused status.InvalidDeviceState) (if not (queue_delivers plan S q) then refused status.WdfPaused else retrieve_front plan S q (front S.queues q))
      (record { answers = λ _. tt; tells = tt })
      (either (not (queue_delivers plan S q)) (refused status.WdfPaused) (retrieve_front plan S q (front S.queues q))
      (record { answers = λ _. tt; tells = tt }) (fronted q (front S.queues q)))

  queued_if : (t : Bool) (d : Deed) → AllTellOf plan (d ∷ []) → OutcomeOf plan S (if t then number 1 (d ∷ []) else number 0 [])
  queued_if t d h = either t (number 1 (d ∷ [])) (number 0 []) (numbered 1 (d ∷ []) (omega arith) h) (numbered 0 [] (omega arith) tt)

  outcome_by : (cpu f : ℕ) (k : CallKind) (n : ℕ) (a c x : Arg) → IsValueOf plan (value_in x) → OutcomeOf plan S (outcome plan S cpu f (record { kind = k; count = n; a = a; b = c; c = x }))
  outcome_by cpu f call.WdfObjectCreate n a c x third = created (class_in a) (object_in c)
  outcome_by cpu f call.WdfSpinLockCreate n a c x third = created (class_in a) (object_in c)
  outcome_by cpu f call.WdfWaitLockCreate n a c x third = created (class_in a) (object_in c)
  outcome_by cpu f call.WdfRequestCreate n a c x third = created (class_in a) (object_in c)
  outcome_by cpu f call.WdfDpcCreate n a c x third = created (class_in a) (parent_of_class plan (class_in a))
  outcome_by cpu f call.WdfTimerCreate n a c x third = created (class_in a) (parent_of_class plan (class_in a))
  outcome_by cpu f call.WdfWorkItemCreate n a c x third = created (class_in a) (parent_of_class plan (class_in a))
  outcome_by cpu f call.GetContext n a c x third = record { answers = λ _. values.cells (object_in a) (number_in c); tells = tt }
  outcome_by cpu f call.SetContext n a c x third = done _ (third, tt)
  outcome_by cpu f call.WdfSpinLockRelease n a c x third = done _ (tt, (tt, tt))
  outcome_by cpu f call.WdfWaitLockRelease n a c x third = done _ (tt, (tt, tt))
  outcome_by cpu f call.WdfInterruptReleaseLock n a c x third = done _ (tt, (tt, tt))
  outcome_by cpu f call.WdfRequestMarkCancelableEx n a c x third = marks (object_in a)
  outcome_by cpu f call.WdfRequestUnmarkCancelable n a c x third = record { answers = λ _. tt; tells = (tt, tt) }
  outcome_by cpu f call.WdfRequestIsCanceled n a c x third = flagged (is_cancelled S.requests (object_in a)) [] tt
  outcome_by cpu f call.WdfRequestRequeue n a c x third = requeued (object_in a) (origin_or_none S (object_in a))
  outcome_by cpu f call.WdfRequestForwardToIoQueue n a c x third = forwarded (object_in a) (object_in c)
  outcome_by cpu f call.WdfRequestStopAcknowledge n a c x third = acknowledged (object_in a) c
  outcome_by cpu f call.WdfRequestSend n a c x third = sent (object_in a) (object_in c) (arg_is x 1)
  outcome_by cpu f call.WdfRequestCancelSentRequest n a c x third = flagged (is_undone S.targets (object_in a)) [] tt
  outcome_by cpu f call.WdfIoQueueRetrieveNextRequest n a c x third = retrieved (object_in a)
  outcome_by cpu f call.WdfIoQueueReadyNotify n a c x third =
      either (is_manual_queue plan (object_in a) && declares plan callback.EvtIoQueueState (object_in a)) (success (RegisterQueue (object_id (object_in a)) (not (arg_is c 0)) ∷ [])) (refused status.InvalidDeviceRequest)
      (done (RegisterQueue (object_id (object_in a)) (not (arg_is c 0)) ∷ []) (tt, tt)) refusal
  outcome_by cpu f call.WdfInterruptQueueDpcForIsr n a c x third =
      queued_if (is_enabled S.interrupts (object_in a) && declares plan callback.EvtInterruptDpc (object_in a) && not (is_dpc_queued S.dpcs (object_in a))) (EnqueueDpc (cpu_of cpu) (object_id (object_in a))) (tt, tt)
  outcome_by cpu f call.WdfDpcEnqueue n a c x third =
      queued_if (is_live (life_of S.tree (object_in a)) && not (is_dpc_queued S.dpcs (object_in a))) (EnqueueDpc (cpu_of cpu) (object_id (object_in a))) (tt, tt)
  outcome_by cpu f call.WdfDpcCancel n a c x third = flagged (is_dpc_queued S.dpcs (object_in a)) _ (tt, tt)
  outcome_by cpu f call.WdfTimerStart n a c x third =
      either (is_live (life_of S.tree (object_in a))) (number (flag (is_timer_queued S.timers (object_in a))) (StartTimer (object_id (object_in a)) (number_in c) ∷ [])) (number 0 [])
      (flagged (is_timer_queued S.timers (object_in a)) (StartTimer (object_id (object_in a)) (number_in c) ∷ []) (tt, tt)) (numbered 0 [] (omega arith) tt)
  outcome_by cpu f call.WdfTimerStop n a c x third = flagged (is_timer_queued S.timers (object_in a)) _ (tt, tt)
  outcome_by cpu f call.WdfWorkItemEnqueue n a c x third =
      either (is_live (life_of S.tree (object_in a))) (success (EnqueueWork (object_id (object_in a)) ∷ [])) (success []) (done (EnqueueWork (object_id (object_in a)) ∷ []) (tt, tt)) (done [] tt)
  outcome_by cpu f call.WdfWorkItemFlush n a c x third = done [] tt
  outcome_by cpu f _ n a c x third = done _ (tt, tt)

  pub outcome_of : (cpu f : ℕ) (c : Call) → IsCallOf plan c → OutcomeOf plan S (outcome plan S cpu f c)
  outcome_of cpu f c h = outcome_by cpu f c.kind c.count c.a c.b c.c (value_of_argument plan _ c.c h.3)

second_by : (plan : Plan) (f : ℕ) (k : CallKind) (n : ℕ) (a b x : Arg) → AllTellOf plan (second_deeds f (record { kind = k; count = n; a = a; b = b; c = x }))
second_by plan f call.WdfSpinLockAcquire n a b x = (tt, tt)
second_by plan f call.WdfWaitLockAcquire n a b x = (tt, tt)
second_by plan f call.WdfInterruptAcquireLock n a b x = (tt, tt)
second_by plan f _ n a b x = tt

pub second_tells : (plan : Plan) (f : ℕ) (c : Call) → AllTellOf plan (second_deeds f c)
second_tells plan f c = second_by plan f c.kind c.count c.a c.b c.c
