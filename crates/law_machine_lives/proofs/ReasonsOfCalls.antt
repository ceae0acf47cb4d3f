-- The deeds of each call that no fault is in the way of have their reasons: the one walk over all calls.
use Rattle.std.proofs.Common.{List, ◌≤◌, if◌then◌else◌, ◌≡◌, ℕ, ◌==◌, Bool, true, false, not, ◌&&◌, ◌||◌, [], ◌∷◌, inl, inr, Option, Some, None, is_some, option_and_then, refl, ap, ◌∙◌}
use Rattle.std.proofs.lemmas.Bool.{eqb-true}
use Rattle.wdf_base.specs.declared.plan.Plan.{Plan}
use Rattle.wdf_base.specs.declared.call.Arg.{Arg}
use Rattle.wdf_base.specs.declared.call.Call.{Call}
use Rattle.wdf_base.specs.declared.call.CallKind.{CallKind}
use Rattle.wdf_base.specs.declared.call.CallKind.TheVariants as call
use Rattle.wdf_base.specs.declared.call.Callback.TheVariants as callback
use Rattle.wdf_base.specs.declared.event.Fault.TheVariants as fault
use Rattle.wdf_base.specs.declared.object.Kind.{Kind}
use Rattle.wdf_base.specs.declared.object.Kind.TheVariants as kind
use Rattle.wdf_base.specs.declared.value.Status.TheVariants as status
use Rattle.wdf_base.specs.declared.value.Value.TheVariants.{Obj, Stat}
use Rattle.wdf_base.specs.declared.declared.Declared.{Declared}
use Rattle.wdf_base.specs.declared.declared.Declared.TheVariants as declared
use Rattle.wdf_base.specs.Kinds.{declared_kind}
use Rattle.wdf_base.specs.Plan.{declared_of}
use Rattle.wdf_base.specs.Same.{same_kind}
use Rattle.wdf_base.specs.Lives.{is_live}
use Rattle.wdf_model.specs.Tables.{flag}
use Rattle.wdf_model.specs.Plans.{declares, device_of_queue, as_interrupt, interrupt_of, is_manual_queue, is_parallel_queue, kind_of_class, parent_of_class}
use Rattle.wdf_model.specs.parts.Tree.{is_full, kind_of, life_of}
use Rattle.wdf_model.specs.parts.Requests.{info_of, is_cancelled, mark_answer}
use Rattle.wdf_model.specs.parts.Queues.{front}
use Rattle.wdf_model.specs.parts.Control.{accepts, is_purged, mode_of}
use Rattle.wdf_model.specs.parts.Interrupts.{is_enabled}
use Rattle.wdf_model.specs.parts.Deferred.Dpcs.{is_dpc_queued}
use Rattle.wdf_model.specs.parts.Deferred.Timers.{is_timer_queued}
use Rattle.wdf_model.specs.State.{State, object_in, queue_delivers}
use Rattle.wdf_model.specs.Ids.{cpu_of, object_id}
use Rattle.wdf_model.specs.declared.deed.Deed.{Deed}
use Rattle.wdf_model.specs.declared.deed.Deed.TheVariants.{Acknowledge, EnqueueDpc, EnqueueWork, Forward, GiveBack, MarkRequest, RegisterQueue, Requeue, SendRequest, StartTimer}
use Rattle.wdf_base.specs.Values.{arg_is}
use Rattle.wdf_model.specs.rules.Calls.{Outcome, acknowledge_outcome, class_in, create_outcome, creation, dpc_outcome, forward_outcome, forwards_nowhere, isr_dpc_outcome, mark_outcome, may_send, new_handle, notify_outcome, number, number_in, origin_or_none, outcome, refused, requeue_outcome, retrieve_front, retrieve_outcome, second_deeds, send_outcome, success, timer_outcome, work_outcome}
use Rattle.wdf_model.specs.rules.Steps.{view_of}
use Rattle.law_machine_base.specs.OverRuns.{DeclaredAgree, is_declared_kind}
use Rattle.wdf_model.proofs.Sames.{kind_decides}
use Rattle.wdf_model.proofs.Tests.{both, both_left, both_right, either_false, first, not_false, second}
use Rattle.law_machine_base.proofs.Fits.{first_kind, wrong_kind_of_first}
use Rattle.law_machine_base.proofs.FitsOfCalls.{Clean}
use Rattle.law_machine_lives.proofs.AllOf.{all_either}
use Rattle.law_machine_lives.proofs.Reasons.{AllReasons, Reason, Receives, takes}
use Rattle.wdf_model.proofs.FrameCounts.{on}

-- a call
abbrev pub call_of : CallKind → ℕ → Arg → Arg → Arg → Call
call_of k n a b x = record { kind = k; count = n; a = a; b = b; c = x }

-- an object of the kind Interrupt is a declared one
pub interrupt_by : (d : Option Declared) → option_and_then declared_kind d ≡ Some kind.Interrupt → is_some (as_interrupt d) ≡ true
interrupt_by (Some (declared.Interrupt i)) h = refl
interrupt_by _ h = absurd (let z : ⊥ = cc in z)

module _ {A : Type 0} (plan : Plan) (H : ℕ → State A → Type 0) (S : State A) where
  abbrev Given : List Deed → Type 0
  Given ds = AllReasons plan H ds S

  either : (b : Bool) (x y : Outcome) → (b ≡ true → Given x.deeds) → (b ≡ false → Given y.deeds) → Given (if b then x else y).deeds
  either b x y h k = all_either plan (λ (d : Deed) (U : State A). Reason plan H d U) S b x y h k

  creation_given : (k : Kind) (class parent : ℕ) → kind_of_class plan class ≡ k → Given (creation k class parent ∷ [])
  creation_given kind.Made class parent h = (h, tt)
  creation_given _ class parent h = (h, tt)

  create_given : (class parent : ℕ) → Given (create_outcome plan S class parent).deeds
  create_given class parent =
      either (not (is_live (life_of S.tree parent))) (refused status.DeletePending)
      (if is_full S.tree then refused status.InsufficientResources else record { answer = Obj (new_handle plan S class); deeds = creation (kind_of_class plan class) class parent ∷ [] }) (λ _. tt)
      (λ _. either (is_full S.tree) (refused status.InsufficientResources) (record { answer = Obj (new_handle plan S class); deeds = creation (kind_of_class plan class) class parent ∷ [] }) (λ _. tt)
      (λ _. creation_given (kind_of_class plan class) class parent refl))

  requeue_given : (r : ℕ) → Given (requeue_outcome S r (origin_or_none S r)).deeds
  requeue_given r =
      either (is_cancelled S.requests r || is_purged (mode_of S.control (origin_or_none S r))) (success (GiveBack (object_id r) (object_id (origin_or_none S r)) ∷ [])) (success (Requeue (object_id r) (object_id (origin_or_none S r)) ∷ []))
      (λ _. (inl refl, tt)) (λ _. (refl, tt))

  mark_given : (r : ℕ) → Given (mark_outcome plan S r).deeds
  mark_given r =
      either (declares plan callback.EvtRequestCancel (origin_or_none S r)) (record { answer = Stat (mark_answer S.requests r); deeds = MarkRequest (object_id r) ∷ [] }) (refused status.InvalidDeviceRequest) (λ _. (tt, tt)) (λ _. tt)

  received : (r q : ℕ) → forwards_nowhere plan S r q ≡ false → Receives plan S r q
  received r q h =
      let parts = either_false (origin_or_none S r == q || not (device_of_queue plan q == (info_of S.requests r).device.0)) (not (takes plan q (info_of S.requests r).form)) h in (
        eqb-true (device_of_queue plan q) (info_of S.requests r).device.0
            (not_false (device_of_queue plan q == (info_of S.requests r).device.0) (either_false (origin_or_none S r == q) (not (device_of_queue plan q == (info_of S.requests r).device.0)) parts.0).1),
        not_false (takes plan q (info_of S.requests r).form) parts.1,
      )

  forward_given : (r q : ℕ) → Given (forward_outcome plan S r q).deeds
  forward_given r q =
      either (forwards_nowhere plan S r q) (refused status.InvalidDeviceRequest)
      (if not (accepts S.control q) then refused status.WdfBusy else if is_cancelled S.requests r then success (GiveBack (object_id r) (object_id q) ∷ []) else success (Forward (object_id r) (object_id q) ∷ [])) (λ _. tt)
      (λ here. either (not (accepts S.control q)) (refused status.WdfBusy) (if is_cancelled S.requests r then success (GiveBack (object_id r) (object_id q) ∷ []) else success (Forward (object_id r) (object_id q) ∷ [])) (λ _. tt)
      (λ _. either (is_cancelled S.requests r) (success (GiveBack (object_id r) (object_id q) ∷ [])) (success (Forward (object_id r) (object_id q) ∷ [])) (λ _. (inr (received r q here), tt)) (λ _. (received r q here, tt))))

  acknowledge_given : (r : ℕ) (b : Arg) → Given (acknowledge_outcome S r b).deeds
  acknowledge_given r b = either (arg_is b 0) (success (Acknowledge (object_id r) ∷ [])) (requeue_outcome S r (origin_or_none S r)) (λ _. (tt, tt)) (λ _. requeue_given r)

  send_given : (r t : ℕ) (forget : Bool) → Given (send_outcome S r t forget).deeds
  send_given r t forget = either (may_send S r t) (number 1 (SendRequest (object_id r) (object_id t) forget ∷ [])) (number 0 []) (λ _. (tt, tt)) (λ _. tt)

  front_given : (q : ℕ) (there : Option ℕ) → Given (retrieve_front plan S q there).deeds
  front_given q None = tt
  front_given q (Some r) = (tt, tt)

  retrieve_given : (q : ℕ) → Given (retrieve_outcome plan S q).deeds
  retrieve_given q =
      either (is_parallel_queue plan q) (refused status.InvalidDeviceState) (if not (queue_delivers plan S q) then refused status.WdfPaused else retrieve_front plan S q (front S.queues q)) (λ _. tt)
      (λ _. either (not (queue_delivers plan S q)) (refused status.WdfPaused) (retrieve_front plan S q (front S.queues q)) (λ _. tt) (λ _. front_given q (front S.queues q)))

  notify_given : (q : ℕ) (x : Arg) → Given (notify_outcome plan q x).deeds
  notify_given q x =
      either (is_manual_queue plan q && declares plan callback.EvtIoQueueState q) (success (RegisterQueue (object_id q) (not (arg_is x 0)) ∷ [])) (refused status.InvalidDeviceRequest) (λ _. (tt, tt)) (λ _. tt)

  is_interrupt : (o : ℕ) → DeclaredAgree plan S → same_kind (kind_of S.tree o) kind.Interrupt ≡ true → is_some (interrupt_of plan o) ≡ true
  is_interrupt o d h =
      let e : kind_of S.tree o ≡ kind.Interrupt = (kind_decides (kind_of S.tree o) kind.Interrupt).0 h in
      interrupt_by (declared_of plan o) (d.declared o (ap is_declared_kind e) ∙ ap Some e)

  isr_given : (cpu i : ℕ) → DeclaredAgree plan S → same_kind (kind_of S.tree i) kind.Interrupt ≡ true → Given (isr_dpc_outcome plan S cpu i).deeds
  isr_given cpu i d k =
      either (is_enabled S.interrupts i && declares plan callback.EvtInterruptDpc i && not (is_dpc_queued S.dpcs i)) (number 1 (EnqueueDpc (cpu_of cpu) (object_id i) ∷ [])) (number 0 [])
      (λ h.
      let own : declares plan callback.EvtInterruptDpc i ≡ true = search (both_left, both_right) in (
        (
          second (is_live (life_of S.tree i)) (is_some (interrupt_of plan i)) (is_interrupt i d k),
          second (same_kind (kind_of S.tree i) kind.Dpc) (same_kind (kind_of S.tree i) kind.Interrupt && declares plan callback.EvtInterruptDpc i) (both (same_kind (kind_of S.tree i) kind.Interrupt) (declares plan callback.EvtInterruptDpc i) k own),
        ),
        tt,
      )) (λ _. tt)

  dpc_given : (cpu o : ℕ) → same_kind (kind_of S.tree o) kind.Dpc ≡ true → Given (dpc_outcome S cpu o).deeds
  dpc_given cpu o k =
      either (is_live (life_of S.tree o) && not (is_dpc_queued S.dpcs o)) (number 1 (EnqueueDpc (cpu_of cpu) (object_id o) ∷ [])) (number 0 [])
      (λ h. (
        (
          first (is_live (life_of S.tree o)) (is_some (interrupt_of plan o)) (both_left (is_live (life_of S.tree o)) (not (is_dpc_queued S.dpcs o)) h),
          first (same_kind (kind_of S.tree o) kind.Dpc) (same_kind (kind_of S.tree o) kind.Interrupt && declares plan callback.EvtInterruptDpc o) k,
        ),
        tt,
      )) (λ _. tt)

  timer_given : (o n : ℕ) → same_kind (kind_of S.tree o) kind.Timer ≡ true → Given (timer_outcome S o n).deeds
  timer_given o n k = either (is_live (life_of S.tree o)) (number (flag (is_timer_queued S.timers o)) (StartTimer (object_id o) n ∷ [])) (number 0 []) (λ h. ((h, k), tt)) (λ _. tt)

  work_given : (o : ℕ) → same_kind (kind_of S.tree o) kind.WorkItem ≡ true → Given (work_outcome S o).deeds
  work_given o k = either (is_live (life_of S.tree o)) (success (EnqueueWork (object_id o) ∷ [])) (success []) (λ h. ((h, k), tt)) (λ _. tt)

  pub outcome_given : (cpu f : ℕ) (k : CallKind) (n : ℕ) (a b x : Arg) → DeclaredAgree plan S → Clean plan S cpu f (call_of k n a b x) → Given (outcome plan S cpu f (call_of k n a b x)).deeds
  outcome_given cpu f call.WdfObjectCreate n a b x d h = create_given (class_in a) (object_in b)
  outcome_given cpu f call.WdfSpinLockCreate n a b x d h = create_given (class_in a) (object_in b)
  outcome_given cpu f call.WdfWaitLockCreate n a b x d h = create_given (class_in a) (object_in b)
  outcome_given cpu f call.WdfRequestCreate n a b x d h = create_given (class_in a) (object_in b)
  outcome_given cpu f call.WdfDpcCreate n a b x d h = create_given (class_in a) (parent_of_class plan (class_in a))
  outcome_given cpu f call.WdfTimerCreate n a b x d h = create_given (class_in a) (parent_of_class plan (class_in a))
  outcome_given cpu f call.WdfWorkItemCreate n a b x d h = create_given (class_in a) (parent_of_class plan (class_in a))
  outcome_given cpu f call.GetContext n a b x d h = tt
  outcome_given cpu f call.WdfSpinLockRelease n a b x d h = (tt, (tt, tt))
  outcome_given cpu f call.WdfWaitLockRelease n a b x d h = (tt, (tt, tt))
  outcome_given cpu f call.WdfInterruptReleaseLock n a b x d h = (tt, (tt, tt))
  outcome_given cpu f call.WdfRequestMarkCancelableEx n a b x d h = mark_given (object_in a)
  outcome_given cpu f call.WdfRequestIsCanceled n a b x d h = tt
  outcome_given cpu f call.WdfRequestRequeue n a b x d h = requeue_given (object_in a)
  outcome_given cpu f call.WdfRequestForwardToIoQueue n a b x d h = forward_given (object_in a) (object_in b)
  outcome_given cpu f call.WdfRequestStopAcknowledge n a b x d h = acknowledge_given (object_in a) b
  outcome_given cpu f call.WdfRequestSend n a b x d h = send_given (object_in a) (object_in b) (arg_is x 1)
  outcome_given cpu f call.WdfRequestCancelSentRequest n a b x d h = tt
  outcome_given cpu f call.WdfIoQueueRetrieveNextRequest n a b x d h = retrieve_given (object_in a)
  outcome_given cpu f call.WdfIoQueueReadyNotify n a b x d h = notify_given (object_in a) b
  outcome_given cpu f call.WdfInterruptQueueDpcForIsr n a b x d h =
      isr_given cpu (object_in a) d (first_kind (view_of plan S cpu f) kind.Interrupt a (wrong_kind_of_first (view_of plan S cpu f) (call_of call.WdfInterruptQueueDpcForIsr n a b x) (h fault.WrongKind)))
  outcome_given cpu f call.WdfDpcEnqueue n a b x d h =
      dpc_given cpu (object_in a) (first_kind (view_of plan S cpu f) kind.Dpc a (wrong_kind_of_first (view_of plan S cpu f) (call_of call.WdfDpcEnqueue n a b x) (h fault.WrongKind)))
  outcome_given cpu f call.WdfTimerStart n a b x d h =
      timer_given (object_in a) (number_in b) (first_kind (view_of plan S cpu f) kind.Timer a (wrong_kind_of_first (view_of plan S cpu f) (call_of call.WdfTimerStart n a b x) (h fault.WrongKind)))
  outcome_given cpu f call.WdfWorkItemEnqueue n a b x d h =
      work_given (object_in a) (first_kind (view_of plan S cpu f) kind.WorkItem a (wrong_kind_of_first (view_of plan S cpu f) (call_of call.WdfWorkItemEnqueue n a b x) (h fault.WrongKind)))
  outcome_given cpu f call.WdfWorkItemFlush n a b x d h = tt
  outcome_given cpu f _ n a b x d h = (tt, tt)

  -- the second part is done by a frame that is there
  pub second_given : (f : ℕ) (k : CallKind) (n : ℕ) (a b x : Arg) → 1 ≤ on S.cpus f → Given (second_deeds f (call_of k n a b x))
  second_given f call.WdfSpinLockAcquire n a b x there = ((there, λ e. absurd (let z : ⊥ = cc in z)), tt)
  second_given f call.WdfWaitLockAcquire n a b x there = ((there, λ e. absurd (let z : ⊥ = cc in z)), tt)
  second_given f call.WdfInterruptAcquireLock n a b x there = ((there, λ e. absurd (let z : ⊥ = cc in z)), tt)
  second_given f _ n a b x there = tt
