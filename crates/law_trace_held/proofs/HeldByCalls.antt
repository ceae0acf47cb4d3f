-- A taking from a power-managed queue came, with no giving up since, exactly where power notes it: what calls make of
-- both.
use Rattle.std.proofs.Common.{if◌then◌else◌, ◌≡◌, ℕ, Bool, true, false, not, ◌&&◌, ◌||◌, List, [], ◌∷◌, ◌++◌, Option, Some, None, refl, sym, ap, subst, ◌∙◌}
use Rattle.wdf_base.specs.declared.ids.Cpu.{Cpu}
use Rattle.wdf_base.specs.declared.plan.Plan.{Plan}
use Rattle.wdf_base.specs.declared.value.Value.{Value}
use Rattle.wdf_base.specs.declared.value.Value.TheVariants.{Obj, Stat}
use Rattle.wdf_base.specs.declared.value.Status.TheVariants as status
use Rattle.wdf_base.specs.declared.object.Kind.{Kind}
use Rattle.wdf_base.specs.declared.object.Kind.TheVariants as kind
use Rattle.wdf_base.specs.declared.call.Arg.{Arg}
use Rattle.wdf_base.specs.declared.call.Call.{Call}
use Rattle.wdf_base.specs.declared.call.CallKind.{CallKind}
use Rattle.wdf_base.specs.declared.call.CallKind.TheVariants as call
use Rattle.wdf_base.specs.declared.call.Callback.TheVariants as callback
use Rattle.wdf_base.specs.declared.event.Event.{Event}
use Rattle.wdf_base.specs.declared.event.Event.TheVariants as event
use Rattle.wdf_base.specs.declared.event.Fault.TheVariants as fault
use Rattle.wdf_base.specs.Lives.{is_live}
use Rattle.wdf_model.specs.Tables.{flag, same_id}
use Rattle.wdf_model.specs.Plans.{declares, is_managed, is_manual_queue, is_parallel_queue, kind_of_class, parent_of_class}
use Rattle.wdf_model.specs.parts.Tree.{is_full, life_of}
use Rattle.wdf_model.specs.parts.Control.{accepts, is_purged, mode_of}
use Rattle.wdf_model.specs.parts.Interrupts.{is_enabled}
use Rattle.wdf_model.specs.parts.Queues.{front}
use Rattle.wdf_model.specs.parts.Requests.{is_cancelled, mark_answer, place_of}
use Rattle.wdf_model.specs.parts.Deferred.Dpcs.{is_dpc_queued}
use Rattle.wdf_model.specs.parts.Deferred.Timers.{is_timer_queued}
use Rattle.wdf_model.specs.parts.Power.{Power}
use Rattle.wdf_model.specs.parts.Targets.{is_forgotten}
use Rattle.wdf_model.specs.parts.Tree.{subtree}
use Rattle.wdf_model.specs.parts.Queues.{waiting_in}
use Rattle.wdf_model.specs.parts.Control as control
use Rattle.wdf_model.specs.declared.enums.Mode.TheVariants as mode
use Rattle.law_machine_lives.proofs.Stays.{asks_all, withdrawn_power}
use Rattle.wdf_model.specs.State.{State, object_in, queue_delivers}
use Rattle.wdf_model.specs.Ids.{cpu_of, object_id}
use Rattle.wdf_model.specs.declared.deed.Deed.TheVariants.{Acknowledge, CompleteRequest, EnqueueDpc, EnqueueWork, Forward, GiveBack, MarkRequest, RegisterQueue, Requeue, SendRequest, StartTimer}
use Rattle.wdf_model.specs.rules.Deeds.{do_deed, do_deeds, give_up}
use Rattle.wdf_model.specs.rules.Calls.{Outcome, class_in, create_outcome, creation, forwards_nowhere, may_send, new_handle, number, number_in, origin_or_none, outcome, refused, requeue_outcome, retrieve_front, success}
use Rattle.wdf_model.specs.rules.Steps.{view_of}
use Rattle.wdf_model.proofs.Tests.{both, itself, right_fails}
use Rattle.law_machine_base.proofs.Fits.{wrong_kind_of_first}
use Rattle.law_machine_base.proofs.FitsOfCalls.{Clean}
use Rattle.law_machine_base.proofs.KeptByDeeds.{KeptIn}
use Rattle.law_machine_counts.proofs.Holding.{HoldsIn}
use Rattle.wdf_laws.specs.Events.{argument_object, given_up, pair_of, taken, value_object, where_so}
use Rattle.law_trace_requests.proofs.Cancels.{named}
use Rattle.law_trace_requests.proofs.Entries.{forward_by}
use Rattle.law_machine_lives.proofs.Readers.{power_of}
use Rattle.law_machine_lives.proofs.ReasonsOfCalls.{call_of}
use Rattle.law_trace_held.proofs.Holdings.{NotesChange, NotesStay, acknowledged_notes, completed_notes, given_notes, notes_same}
use Rattle.law_trace_requests.proofs.Marks.{front_queued}
use Rattle.law_trace_held.proofs.HeldAsTold.{HeldAsTold, give_step, silent_step, take_step, unheld_noted}
use Rattle.law_machine_counts.proofs.HeldByDeeds.{queued_unheld}
use Rattle.wdf_base.specs.Values.{arg_is, is_one, is_success}

-- ---- calls that leave the notes

notes_if : (P : Power) {A : Type 0} (plan : Plan) (S : State A) (u : Bool) (o p : Outcome) → (do_deeds plan o.deeds S).power ≡ P → (do_deeds plan p.deeds S).power ≡ P → (do_deeds plan (if u then o else p).deeds S).power ≡ P
notes_if P plan S true o p h k = h
notes_if P plan S false o p h k = k

created_power : {A : Type 0} (plan : Plan) (S : State A) (k : Kind) (class parent : ℕ) → (do_deeds plan (creation k class parent ∷ []) S).power ≡ S.power
created_power plan S kind.Made class parent = refl
created_power plan S _ class parent = refl

create_power : {A : Type 0} (plan : Plan) (S : State A) (class parent : ℕ) → (do_deeds plan (create_outcome plan S class parent).deeds S).power ≡ S.power
create_power plan S class parent =
    notes_if S.power plan S (not (is_live (life_of S.tree parent))) (refused status.DeletePending)
    (if is_full S.tree then refused status.InsufficientResources else record { answer = Obj (new_handle plan S class); deeds = creation (kind_of_class plan class) class parent ∷ [] }) refl
    (notes_if S.power plan S (is_full S.tree) (refused status.InsufficientResources) (record { answer = Obj (new_handle plan S class); deeds = creation (kind_of_class plan class) class parent ∷ [] }) refl
    (created_power plan S (kind_of_class plan class) class parent))

-- a call that takes a request from a queue, or gives one up
abbrev pub is_holding_call : CallKind → Bool
is_holding_call call.WdfRequestComplete = true
is_holding_call call.WdfRequestRequeue = true
is_holding_call call.WdfRequestForwardToIoQueue = true
is_holding_call call.WdfRequestStopAcknowledge = true
is_holding_call call.WdfRequestSend = true
is_holding_call call.WdfIoQueueRetrieveNextRequest = true
is_holding_call _ = false

pub call_power : {A : Type 0} (plan : Plan) (S : State A) (cpu f : ℕ) (k : CallKind) (n : ℕ) (a b x : Arg) → is_holding_call k ≡ false → (do_deeds plan (outcome plan S cpu f (call_of k n a b x)).deeds S).power ≡ S.power
call_power plan S cpu f call.WdfRequestComplete n a b x h = absurd (let z : ⊥ = cc in z)
call_power plan S cpu f call.WdfRequestRequeue n a b x h = absurd (let z : ⊥ = cc in z)
call_power plan S cpu f call.WdfRequestForwardToIoQueue n a b x h = absurd (let z : ⊥ = cc in z)
call_power plan S cpu f call.WdfRequestStopAcknowledge n a b x h = absurd (let z : ⊥ = cc in z)
call_power plan S cpu f call.WdfRequestSend n a b x h = absurd (let z : ⊥ = cc in z)
call_power plan S cpu f call.WdfIoQueueRetrieveNextRequest n a b x h = absurd (let z : ⊥ = cc in z)
call_power plan S cpu f call.WdfObjectCreate n a b x h = (create_power plan S (class_in a) (object_in b))
call_power plan S cpu f call.WdfSpinLockCreate n a b x h = (create_power plan S (class_in a) (object_in b))
call_power plan S cpu f call.WdfWaitLockCreate n a b x h = (create_power plan S (class_in a) (object_in b))
call_power plan S cpu f call.WdfRequestCreate n a b x h = (create_power plan S (class_in a) (object_in b))
call_power plan S cpu f call.WdfDpcCreate n a b x h = (create_power plan S (class_in a) (parent_of_class plan (class_in a)))
call_power plan S cpu f call.WdfTimerCreate n a b x h = (create_power plan S (class_in a) (parent_of_class plan (class_in a)))
call_power plan S cpu f call.WdfWorkItemCreate n a b x h = (create_power plan S (class_in a) (parent_of_class plan (class_in a)))
call_power plan S cpu f call.WdfObjectDelete n a b x h = asks_all power_of (λ S T D W U. refl) (subtree S.tree (object_in a)) S
call_power plan S cpu f call.WdfIoQueuePurge n a b x h = withdrawn_power plan (object_in a) (waiting_in S.queues (object_in a)) (record S { control = control.set_mode S.control (object_in a) mode.Purged })
call_power plan S cpu f call.WdfIoQueuePurgeSynchronously n a b x h = withdrawn_power plan (object_in a) (waiting_in S.queues (object_in a)) (record S { control = control.set_mode S.control (object_in a) mode.Purged })
call_power plan S cpu f call.WdfRequestMarkCancelableEx n a b x h =
    (notes_if S.power plan S (declares plan callback.EvtRequestCancel (origin_or_none S (object_in a))) (record { answer = Stat (mark_answer S.requests (object_in a)); deeds = MarkRequest (object_id (object_in a)) ∷ [] }) (refused status.InvalidDeviceRequest) refl refl)
call_power plan S cpu f call.WdfIoQueueReadyNotify n a b x h =
    (notes_if S.power plan S (is_manual_queue plan (object_in a) && declares plan callback.EvtIoQueueState (object_in a)) (success (RegisterQueue (object_id (object_in a)) (not (arg_is b 0)) ∷ [])) (refused status.InvalidDeviceRequest) refl refl)
call_power plan S cpu f call.WdfInterruptQueueDpcForIsr n a b x h =
    (notes_if S.power plan S (is_enabled S.interrupts (object_in a) && declares plan callback.EvtInterruptDpc (object_in a) && not (is_dpc_queued S.dpcs (object_in a))) (number 1 (EnqueueDpc (cpu_of cpu) (object_id (object_in a)) ∷ [])) (number 0 []) refl refl)
call_power plan S cpu f call.WdfDpcEnqueue n a b x h =
    (notes_if S.power plan S (is_live (life_of S.tree (object_in a)) && not (is_dpc_queued S.dpcs (object_in a))) (number 1 (EnqueueDpc (cpu_of cpu) (object_id (object_in a)) ∷ [])) (number 0 []) refl refl)
call_power plan S cpu f call.WdfTimerStart n a b x h =
    (notes_if S.power plan S (is_live (life_of S.tree (object_in a))) (number (flag (is_timer_queued S.timers (object_in a))) (StartTimer (object_id (object_in a)) (number_in b) ∷ [])) (number 0 []) refl refl)
call_power plan S cpu f call.WdfWorkItemEnqueue n a b x h =
    (notes_if S.power plan S (is_live (life_of S.tree (object_in a))) (success (EnqueueWork (object_id (object_in a)) ∷ [])) (success []) refl refl)
call_power plan S cpu f _ n a b x h = refl

pub call_notes : {A : Type 0} (plan : Plan) (S : State A) (cpu f : ℕ) (k : CallKind) (n : ℕ) (a b x : Arg) → is_holding_call k ≡ false → NotesStay S.power (do_deeds plan (outcome plan S cpu f (call_of k n a b x)).deeds S).power
call_notes plan S cpu f k n a b x h = notes_same S.power (do_deeds plan (outcome plan S cpu f (call_of k n a b x)).deeds S).power (call_power plan S cpu f k n a b x h)

-- ---- calls that change them

module _ {A : Type 0} (plan : Plan) (es : List Event) (S : State A) (hold : HoldsIn plan S) (held : HeldAsTold plan es S.power) (cpu : Cpu) (c : Call) (v : Value) where
  abbrev Next : Outcome → Type 0
  Next o = HeldAsTold plan (es ++ event.Did cpu c v ∷ []) (do_deeds plan o.deeds S).power

  gives : (o : Outcome) → taken (event.Did cpu c v) ≡ None → given_up (event.Did cpu c v) ≡ Some (object_in c.a) → (do_deeds plan o.deeds S).power ≡ (give_up S (object_in c.a)).power → Next o
  gives o t g e =
      give_step plan es (event.Did cpu c v) S.power (do_deeds plan o.deeds S).power (object_in c.a) t g
      (subst (λ (O : Power). NotesChange S.power O (object_in c.a) 0) (sym e) (given_notes plan S (object_in c.a) hold)) held

  keeps : (o : Outcome) → taken (event.Did cpu c v) ≡ None → given_up (event.Did cpu c v) ≡ None → (do_deeds plan o.deeds S).power ≡ S.power → Next o
  keeps o t g e = silent_step plan es (event.Did cpu c v) S.power (do_deeds plan o.deeds S).power t g (notes_same S.power (do_deeds plan o.deeds S).power e) held

  gives_back : (q : ℕ) (u : Bool) → taken (event.Did cpu c v) ≡ None → given_up (event.Did cpu c v) ≡ Some (object_in c.a)
      → Next (if u then success (GiveBack (object_id (object_in c.a)) (object_id q) ∷ []) else success (Requeue (object_id (object_in c.a)) (object_id q) ∷ []))
  gives_back q true t g = gives (success (GiveBack (object_id (object_in c.a)) (object_id q) ∷ [])) t g refl
  gives_back q false t g = gives (success (Requeue (object_id (object_in c.a)) (object_id q) ∷ [])) t g refl

  -- the given up request is told where the answer is right
  told_where : (b : Bool) → b ≡ true → argument_object c.a ≡ Some (object_in c.a) → where_so b (argument_object c.a) ≡ Some (object_in c.a)
  told_where b e it = ap (λ u. where_so u (argument_object c.a)) e ∙ it

  forwards : (q : ℕ) (nowhere closed cancelled_ : Bool) → v ≡ (forward_by (object_in c.a) q nowhere closed cancelled_).answer → taken (event.Did cpu c v) ≡ None → (is_success v ≡ true → given_up (event.Did cpu c v) ≡ Some (object_in c.a))
      → (is_success v ≡ false → given_up (event.Did cpu c v) ≡ None) → Next (forward_by (object_in c.a) q nowhere closed cancelled_)
  forwards q true closed cancelled_ answer t well badly = keeps (refused status.InvalidDeviceRequest) t (badly (ap is_success answer)) refl
  forwards q false true cancelled_ answer t well badly = keeps (refused status.WdfBusy) t (badly (ap is_success answer)) refl
  forwards q false false true answer t well badly = gives (success (GiveBack (object_id (object_in c.a)) (object_id q) ∷ [])) t (well (ap is_success answer)) refl
  forwards q false false false answer t well badly = gives (success (Forward (object_id (object_in c.a)) (object_id q) ∷ [])) t (well (ap is_success answer)) refl

  stops : (q : ℕ) (b : Arg) (u : Bool) → arg_is b 0 ≡ u → taken (event.Did cpu c v) ≡ None → (arg_is b 0 ≡ false → given_up (event.Did cpu c v) ≡ Some (object_in c.a)) → (arg_is b 0 ≡ true → given_up (event.Did cpu c v) ≡ None)
      → Next (if u then success (Acknowledge (object_id (object_in c.a)) ∷ []) else requeue_outcome S (object_in c.a) q)
  stops q b true e t back kept =
      silent_step plan es (event.Did cpu c v) S.power (do_deed plan (Acknowledge (object_id (object_in c.a))) S).power t (kept e) (acknowledged_notes S.power (object_in c.a)) held
  stops q b false e t back kept = gives_back q (is_cancelled S.requests (object_in c.a) || is_purged (mode_of S.control q)) t (back e)

  sends : (to : ℕ) (u forget : Bool) → v ≡ (if u then number 1 (SendRequest (object_id (object_in c.a)) (object_id to) forget ∷ []) else number 0 []).answer → taken (event.Did cpu c v) ≡ None
      → (forget ≡ true → is_one v ≡ true → given_up (event.Did cpu c v) ≡ Some (object_in c.a)) → (forget ≡ false → given_up (event.Did cpu c v) ≡ None) → (is_one v ≡ false → given_up (event.Did cpu c v) ≡ None)
      → Next (if u then number 1 (SendRequest (object_id (object_in c.a)) (object_id to) forget ∷ []) else number 0 [])
  sends to false forget answer t well kept badly = keeps (number 0 []) t (badly (ap is_one answer)) refl
  sends to true true answer t well kept badly = gives (number 1 (SendRequest (object_id (object_in c.a)) (object_id to) true ∷ [])) t (well refl (ap is_one answer)) refl
  sends to true false answer t well kept badly = keeps (number 1 (SendRequest (object_id (object_in c.a)) (object_id to) false ∷ [])) t (kept refl) refl

  takes_front : {F B : ℕ → Bool} (q : ℕ) (x : Option ℕ) → KeptIn F B S → front S.queues q ≡ x → v ≡ (retrieve_front plan S q x).answer → taken (event.Did cpu c v) ≡ pair_of (value_object v) (Some q) → given_up (event.Did cpu c v) ≡ None
      → Next (retrieve_front plan S q x)
  takes_front q None k e answer t g = keeps (refused status.NoMoreEntries) (t ∙ ap (λ w. pair_of (value_object w) (Some q)) answer) g refl
  takes_front q (Some r) k e answer t g =
      let front_ : same_id (front S.queues q) r ≡ true = rw e (itself r) in
      take_step plan es (event.Did cpu c v) S.power r q (t ∙ ap (λ w. pair_of (value_object w) (Some q)) answer) g
      (unheld_noted plan S r hold (queued_unheld (is_forgotten S.targets r) q (place_of S.requests r) (front_queued S q r front_ k))) (is_managed plan q) refl held

  takes_if : {F B : ℕ → Bool} (q : ℕ) (parallel paused : Bool) → KeptIn F B S
      → v ≡ (if parallel then refused status.InvalidDeviceState else if paused then refused status.WdfPaused else retrieve_front plan S q (front S.queues q)).answer → taken (event.Did cpu c v) ≡ pair_of (value_object v) (Some q)
      → given_up (event.Did cpu c v) ≡ None → Next (if parallel then refused status.InvalidDeviceState else if paused then refused status.WdfPaused else retrieve_front plan S q (front S.queues q))
  takes_if q true paused k answer t g = keeps (refused status.InvalidDeviceState) (t ∙ ap (λ w. pair_of (value_object w) (Some q)) answer) g refl
  takes_if q false true k answer t g = keeps (refused status.WdfPaused) (t ∙ ap (λ w. pair_of (value_object w) (Some q)) answer) g refl
  takes_if q false false k answer t g = takes_front q (front S.queues q) k refl answer t g

-- ---- each call

module _ {A : Type 0} {F B : ℕ → Bool} (plan : Plan) (es : List Event) (S : State A) (kept : KeptIn F B S) (hold : HoldsIn plan S) (held : HeldAsTold plan es S.power) where
  pub did_notes : (cpu : Cpu) (f : ℕ) (k : CallKind) (n : ℕ) (a b x : Arg) (v : Value) → Clean plan S cpu.0 f (call_of k n a b x) → v ≡ (outcome plan S cpu.0 f (call_of k n a b x)).answer
      → HeldAsTold plan (es ++ event.Did cpu (call_of k n a b x) v ∷ []) (do_deeds plan (outcome plan S cpu.0 f (call_of k n a b x)).deeds S).power
  did_notes cpu f call.WdfRequestComplete n a b x v clean answer =
      give_step plan es (event.Did cpu (call_of call.WdfRequestComplete n a b x) v) S.power (do_deed plan (CompleteRequest (object_id (object_in a))) S).power (object_in a) refl
      (named (view_of plan S cpu.0 f) (call_of call.WdfRequestComplete n a b x) refl (wrong_kind_of_first (view_of plan S cpu.0 f) (call_of call.WdfRequestComplete n a b x) (clean fault.WrongKind)))
      (completed_notes plan S (object_in a) hold) held
  did_notes cpu f call.WdfRequestRequeue n a b x v clean answer =
      gives_back plan es S hold held cpu (call_of call.WdfRequestRequeue n a b x) v (origin_or_none S (object_in a)) (is_cancelled S.requests (object_in a) || is_purged (mode_of S.control (origin_or_none S (object_in a)))) refl
      (named (view_of plan S cpu.0 f) (call_of call.WdfRequestRequeue n a b x) refl (wrong_kind_of_first (view_of plan S cpu.0 f) (call_of call.WdfRequestRequeue n a b x) (clean fault.WrongKind)))
  did_notes cpu f call.WdfRequestForwardToIoQueue n a b x v clean answer =
      let it = named (view_of plan S cpu.0 f) (call_of call.WdfRequestForwardToIoQueue n a b x) refl (wrong_kind_of_first (view_of plan S cpu.0 f) (call_of call.WdfRequestForwardToIoQueue n a b x) (clean fault.WrongKind)) in
      forwards plan es S hold held cpu (call_of call.WdfRequestForwardToIoQueue n a b x) v (object_in b) (forwards_nowhere plan S (object_in a) (object_in b)) (not (accepts S.control (object_in b))) (is_cancelled S.requests (object_in a)) answer refl
      (λ well. ap (λ u. where_so u (argument_object a)) well ∙ it) (λ badly. ap (λ u. where_so u (argument_object a)) badly)
  did_notes cpu f call.WdfRequestStopAcknowledge n a b x v clean answer =
      let it = named (view_of plan S cpu.0 f) (call_of call.WdfRequestStopAcknowledge n a b x) refl (wrong_kind_of_first (view_of plan S cpu.0 f) (call_of call.WdfRequestStopAcknowledge n a b x) (clean fault.WrongKind)) in
      stops plan es S hold held cpu (call_of call.WdfRequestStopAcknowledge n a b x) v (origin_or_none S (object_in a)) b (arg_is b 0) refl refl
      (λ back. ap (λ u. where_so (not u) (argument_object a)) back ∙ it) (λ stays. ap (λ u. where_so (not u) (argument_object a)) stays)
  did_notes cpu f call.WdfRequestSend n a b x v clean answer =
      let it = named (view_of plan S cpu.0 f) (call_of call.WdfRequestSend n a b x) refl (wrong_kind_of_first (view_of plan S cpu.0 f) (call_of call.WdfRequestSend n a b x) (clean fault.WrongKind)) in
      sends plan es S hold held cpu (call_of call.WdfRequestSend n a b x) v (object_in b) (may_send S (object_in a) (object_in b)) (arg_is x 1) answer refl
      (λ forget well. ap (λ u. where_so u (argument_object a)) (both (arg_is x 1) (is_one v) forget well) ∙ it)
      (λ comes. ap (λ u. where_so (u && is_one v) (argument_object a)) comes)
      (λ badly. ap (λ u. where_so u (argument_object a)) (right_fails (arg_is x 1) (is_one v) badly))
  did_notes cpu f call.WdfIoQueueRetrieveNextRequest n a b x v clean answer =
      let it = named (view_of plan S cpu.0 f) (call_of call.WdfIoQueueRetrieveNextRequest n a b x) refl (wrong_kind_of_first (view_of plan S cpu.0 f) (call_of call.WdfIoQueueRetrieveNextRequest n a b x) (clean fault.WrongKind)) in
      takes_if plan es S hold held cpu (call_of call.WdfIoQueueRetrieveNextRequest n a b x) v (object_in a) (is_parallel_queue plan (object_in a)) (not (queue_delivers plan S (object_in a))) kept answer
      (ap (pair_of (value_object v)) it) refl
  did_notes cpu f k n a b x v clean answer =
      silent_step plan es (event.Did cpu (call_of k n a b x) v) S.power (do_deeds plan (outcome plan S cpu.0 f (call_of k n a b x)).deeds S).power refl refl (call_notes plan S cpu.0 f k n a b x refl) held
