-- What each call does can be done, where no fault is in its way.
use Rattle.std.proofs.Common.{◌≡◌, ℕ, ◌<◌, Bool, true, false, not, ◌&&◌, ◌||◌, ◌++◌, Some, is_some, refl, arith}
use Rattle.std.proofs.lemmas.Bool.Decides.{nat_tests}
use Rattle.wdf_base.specs.declared.ids.Cpu.{Cpu}
use Rattle.wdf_base.specs.declared.value.Value.{Value}
use Rattle.wdf_base.specs.declared.value.Value.TheVariants.{Num, Obj, Stat}
use Rattle.wdf_base.specs.declared.object.Kind.{Kind}
use Rattle.wdf_base.specs.declared.object.Kind.TheVariants as kind
use Rattle.wdf_base.specs.declared.call.Arg.{Arg}
use Rattle.wdf_base.specs.declared.call.Arg.TheVariants.{Val, Class}
use Rattle.wdf_base.specs.declared.call.Call.{Call}
use Rattle.wdf_base.specs.declared.call.CallKind.{CallKind}
use Rattle.wdf_base.specs.declared.call.CallKind.TheVariants as call
use Rattle.wdf_base.specs.declared.signature.Sort.TheVariants as sort
use Rattle.wdf_base.specs.declared.plan.Plan.{Plan}
use Rattle.wdf_base.specs.declared.event.Fault.TheVariants as fault
use Rattle.wdf_base.specs.Calls.{signature_of}
use Rattle.wdf_base.specs.Same.{same_kind}
use Rattle.wdf_base.specs.Lives.{is_cleaned, is_gone}
use Rattle.wdf_base.specs.Places.{is_owned}
use Rattle.wdf_model.specs.Plans.{parent_of_class}
use Rattle.wdf_model.specs.parts.Tree.{kind_of}
use Rattle.wdf_model.specs.parts.Cpus.{frame_of, top}
use Rattle.wdf_model.specs.parts.Requests.{place_of}
use Rattle.wdf_model.specs.State.{State, object_in}
use Rattle.wdf_model.specs.rules.Deeds.{do_deeds}
use Rattle.wdf_model.specs.rules.Faults.{View, any_argument, call_faults, is_script_error, is_stale, is_wrong_kind}
use Rattle.wdf_model.specs.rules.Calls.{class_in, is_met_then, number_in, origin_or_none, outcome, second_deeds}
use Rattle.wdf_model.specs.rules.Steps.{answered, by_top, did_deeds, view_of, waiting, waiting_deeds}
use Rattle.law_machine_base.specs.OverRuns.{is_declared_kind}
use Rattle.wdf_model.proofs.Tests.{either_false, not_false}
use Rattle.law_machine_base.proofs.OwnEvents.{IsDid, IsWaiting}
use Rattle.law_machine_base.proofs.Fits.{first_kind, wrong_kind_of_first}
use Rattle.law_machine_base.proofs.FitsOfCalls.{Clean}
use Rattle.law_machine_base.proofs.FitsOfEvents.{by_its_top}
use Rattle.law_machine_counts.proofs.StillDeeds.{none_behind, outcome_none, second_none}
use Rattle.wdf_model.specs.rules.Groups.{declared_end}
use Rattle.wdf_model.specs.rules.Room.{AreDoable, IsThere}
use Rattle.law_machine_room.proofs.DoableDeclared.{kind_there}
use Rattle.law_machine_room.proofs.Doable.{Fine, cpu_there, doable_after, levels_few, locks_few, may_give_up, origin_there, references_few, top_few, top_there}
use Rattle.law_machine_room.proofs.DoableFrames.{goes_on_after}
use Rattle.law_machine_room.proofs.DoableOutcomes.{acknowledge_doable, arrived_request, create_doable, dpc_doable, forward_doable, isr_doable, mark_doable, may_purge, mode_there, not_gone_there, notify_doable, queue_there, requeue_doable, retrieve_doable, send_doable, target_there, timer_doable, work_doable}
use Rattle.law_machine_base.proofs.KeptByDeeds.{owned_undone}

-- a call
abbrev made : CallKind → ℕ → Arg → Arg → Arg → Call
made k n a b x = record { kind = k; count = n; a = a; b = b; c = x }

-- ---- what the arguments are where there is no fault

stale_of_first : (v : View) (c : Call) → call_faults v c fault.StaleHandle ≡ false → is_stale v (signature_of c.kind).cleaned (signature_of c.kind).a c.a ≡ false
stale_of_first v c h =
    (either_false (is_stale v (signature_of c.kind).cleaned (signature_of c.kind).a c.a) (is_stale v (signature_of c.kind).cleaned (signature_of c.kind).b c.b)
    (either_false (is_stale v (signature_of c.kind).cleaned (signature_of c.kind).a c.a || is_stale v (signature_of c.kind).cleaned (signature_of c.kind).b c.b) (is_stale v (signature_of c.kind).cleaned (signature_of c.kind).c c.c) h).0).0

script_of_second : (c : Call) → any_argument is_script_error c ≡ false → is_script_error (signature_of c.kind).b c.b ≡ false
script_of_second c h =
    (either_false (is_script_error (signature_of c.kind).a c.a) (is_script_error (signature_of c.kind).b c.b)
    (either_false (is_script_error (signature_of c.kind).a c.a || is_script_error (signature_of c.kind).b c.b) (is_script_error (signature_of c.kind).c c.c) h).0).1

cell_number : (b : Arg) → is_script_error (sort.UpTo 7) b ≡ false → number_in b < 8
cell_number (Val (Num n)) h = grind (arith, nat_tests)
cell_number (Val (Obj o)) h = absurd (let z : ⊥ = cc in z)
cell_number (Val (Stat s)) h = absurd (let z : ⊥ = cc in z)
cell_number (Class c) h = absurd (let z : ⊥ = cc in z)

-- the first argument is an object that isn't gone
object_stays : (v : View) (cleaned_too : Bool) (a : Arg) → is_stale v cleaned_too sort.AnyObject a ≡ false → is_wrong_kind v sort.AnyObject a ≡ false → is_gone (v.life (object_in a)) ≡ false
object_stays v cleaned_too (Val (Obj o)) h k = (either_false (is_gone (v.life o.id.0)) (is_cleaned (v.life o.id.0) && not cleaned_too) h).0
object_stays v cleaned_too (Val (Num n)) h k = absurd (let z : ⊥ = cc in z)
object_stays v cleaned_too (Val (Stat s)) h k = absurd (let z : ⊥ = cc in z)
object_stays v cleaned_too (Class c) h k = absurd (let z : ⊥ = cc in z)

module _ {A : Type 0} {plan : Plan} {S : State A} (k : Fine plan S) where
  first_there : (cpu f : ℕ) (c : Call) → Clean plan S cpu f c → (signature_of c.kind).a ≡ sort.AnyObject → IsThere S (object_in c.a)
  first_there cpu f c h e =
      let stale : is_stale (view_of plan S cpu f) (signature_of c.kind).cleaned sort.AnyObject c.a ≡ false = rw e at (stale_of_first (view_of plan S cpu f) c (h fault.StaleHandle)) in
      let wrong : is_wrong_kind (view_of plan S cpu f) sort.AnyObject c.a ≡ false = rw e at (wrong_kind_of_first (view_of plan S cpu f) c (h fault.WrongKind)) in
      not_gone_there k (object_in c.a) (object_stays (view_of plan S cpu f) (signature_of c.kind).cleaned c.a stale wrong)

  -- the first argument is a declared object of this kind
  first_declared : (cpu f : ℕ) (c : Call) (x : Kind) → Clean plan S cpu f c → (signature_of c.kind).a ≡ sort.ObjectOf x → is_declared_kind x ≡ true → object_in c.a < declared_end plan
  first_declared cpu f c x h e d =
      let wrong : is_wrong_kind (view_of plan S cpu f) (sort.ObjectOf x) c.a ≡ false = rw e at (wrong_kind_of_first (view_of plan S cpu f) c (h fault.WrongKind)) in
      kind_there k (object_in c.a) x d (first_kind (view_of plan S cpu f) x c.a wrong)

  first_request : (cpu f : ℕ) (c : Call) → Clean plan S cpu f c → (signature_of c.kind).a ≡ sort.ObjectOf kind.Request → same_kind (kind_of S.tree (object_in c.a)) kind.Request ≡ true
  first_request cpu f c h e =
      let wrong : is_wrong_kind (view_of plan S cpu f) (sort.ObjectOf kind.Request) c.a ≡ false = rw e at (wrong_kind_of_first (view_of plan S cpu f) c (h fault.WrongKind)) in
      first_kind (view_of plan S cpu f) kind.Request c.a wrong

  owned : (r : ℕ) → not (is_owned (place_of S.requests r)) ≡ false → is_owned (place_of S.requests r) ≡ true
  owned r h = not_false (is_owned (place_of S.requests r)) h

  cpu_of_top : (cpu f : ℕ) → top S.cpus cpu ≡ Some f → cpu < plan.cpus
  cpu_of_top cpu f t =
      let some_ : is_some (top S.cpus cpu) ≡ true = rw t refl in
      let there = cpu_there k cpu some_ in
      let size = k.room.sizes.stacks in
      omega arith

  pub outcome_doable : (cpu f : ℕ) → top S.cpus cpu ≡ Some f → (y : CallKind) (n : ℕ) (a b x : Arg) → Clean plan S cpu f (made y n a b x)
      → AreDoable plan (outcome plan S cpu f (made y n a b x)).deeds S
  outcome_doable cpu f t call.WdfObjectCreate n a b x h = create_doable k (class_in a) (object_in b)
  outcome_doable cpu f t call.WdfSpinLockCreate n a b x h = create_doable k (class_in a) (object_in b)
  outcome_doable cpu f t call.WdfWaitLockCreate n a b x h = create_doable k (class_in a) (object_in b)
  outcome_doable cpu f t call.WdfRequestCreate n a b x h = create_doable k (class_in a) (object_in b)
  outcome_doable cpu f t call.WdfDpcCreate n a b x h = create_doable k (class_in a) (parent_of_class plan (class_in a))
  outcome_doable cpu f t call.WdfTimerCreate n a b x h = create_doable k (class_in a) (parent_of_class plan (class_in a))
  outcome_doable cpu f t call.WdfWorkItemCreate n a b x h = create_doable k (class_in a) (parent_of_class plan (class_in a))
  outcome_doable cpu f t call.WdfObjectDelete n a b x h = (tt, tt)
  outcome_doable cpu f t call.WdfObjectReference n a b x h = ((first_there cpu f (made call.WdfObjectReference n a b x) h refl, references_few k), tt)
  outcome_doable cpu f t call.WdfObjectDereference n a b x h = (first_there cpu f (made call.WdfObjectDereference n a b x) h refl, tt)
  outcome_doable cpu f t call.GetContext n a b x h = tt
  outcome_doable cpu f t call.SetContext n a b x h =
      ((first_there cpu f (made call.SetContext n a b x) h refl, cell_number b (script_of_second (made call.SetContext n a b x) (h fault.ScriptError))), tt)
  outcome_doable cpu f t call.WdfSpinLockAcquire n a b x h = ((top_few k cpu f t, levels_few k), tt)
  outcome_doable cpu f t call.WdfSpinLockRelease n a b x h = (tt, (top_few k cpu f t, tt))
  outcome_doable cpu f t call.WdfWaitLockAcquire n a b x h = ((top_few k cpu f t, levels_few k), tt)
  outcome_doable cpu f t call.WdfWaitLockRelease n a b x h = (tt, (top_few k cpu f t, tt))
  outcome_doable cpu f t call.WdfInterruptAcquireLock n a b x h = ((top_few k cpu f t, levels_few k), tt)
  outcome_doable cpu f t call.WdfInterruptReleaseLock n a b x h = (tt, (top_few k cpu f t, tt))
  outcome_doable cpu f t call.WdfRequestComplete n a b x h = (may_give_up k (object_in a) (owned_undone (place_of S.requests (object_in a)) (owned (object_in a) (h fault.NotOwned))), tt)
  outcome_doable cpu f t call.WdfRequestMarkCancelableEx n a b x h = mark_doable k (object_in a) (owned (object_in a) (h fault.NotOwned))
  outcome_doable cpu f t call.WdfRequestUnmarkCancelable n a b x h =
      (arrived_request k (object_in a) (first_request cpu f (made call.WdfRequestUnmarkCancelable n a b x) h refl), tt)
  outcome_doable cpu f t call.WdfRequestIsCanceled n a b x h = tt
  outcome_doable cpu f t call.WdfRequestRequeue n a b x h =
      requeue_doable k (object_in a) (origin_or_none S (object_in a)) (owned (object_in a) (h fault.NotOwned)) (origin_there k (object_in a))
  outcome_doable cpu f t call.WdfRequestForwardToIoQueue n a b x h = forward_doable k (object_in a) (object_in b) (owned (object_in a) (h fault.NotOwned))
  outcome_doable cpu f t call.WdfRequestStopAcknowledge n a b x h = acknowledge_doable k (object_in a) b (h fault.NotOwned)
  outcome_doable cpu f t call.WdfRequestSend n a b x h = send_doable k (object_in a) (object_in b) _ (owned (object_in a) (h fault.NotOwned))
  outcome_doable cpu f t call.WdfRequestCancelSentRequest n a b x h = tt
  outcome_doable cpu f t call.WdfIoQueueStart n a b x h = (mode_there k (object_in a) (first_declared cpu f (made call.WdfIoQueueStart n a b x) kind.Queue h refl refl), tt)
  outcome_doable cpu f t call.WdfIoQueueStop n a b x h = (mode_there k (object_in a) (first_declared cpu f (made call.WdfIoQueueStop n a b x) kind.Queue h refl refl), tt)
  outcome_doable cpu f t call.WdfIoQueueDrain n a b x h = (mode_there k (object_in a) (first_declared cpu f (made call.WdfIoQueueDrain n a b x) kind.Queue h refl refl), tt)
  outcome_doable cpu f t call.WdfIoQueuePurge n a b x h =
      (may_purge k (object_in a) (queue_there k (object_in a) (first_declared cpu f (made call.WdfIoQueuePurge n a b x) kind.Queue h refl refl)), tt)
  outcome_doable cpu f t call.WdfIoQueueStopSynchronously n a b x h =
      (mode_there k (object_in a) (first_declared cpu f (made call.WdfIoQueueStopSynchronously n a b x) kind.Queue h refl refl), tt)
  outcome_doable cpu f t call.WdfIoQueueDrainSynchronously n a b x h =
      (mode_there k (object_in a) (first_declared cpu f (made call.WdfIoQueueDrainSynchronously n a b x) kind.Queue h refl refl), tt)
  outcome_doable cpu f t call.WdfIoQueuePurgeSynchronously n a b x h =
      (may_purge k (object_in a) (queue_there k (object_in a) (first_declared cpu f (made call.WdfIoQueuePurgeSynchronously n a b x) kind.Queue h refl refl)), tt)
  outcome_doable cpu f t call.WdfIoQueueRetrieveNextRequest n a b x h = retrieve_doable k (object_in a)
  outcome_doable cpu f t call.WdfIoQueueReadyNotify n a b x h = notify_doable k (object_in a) b (first_declared cpu f (made call.WdfIoQueueReadyNotify n a b x) kind.Queue h refl refl)
  outcome_doable cpu f t call.WdfInterruptQueueDpcForIsr n a b x h =
      isr_doable k cpu (object_in a) (cpu_of_top cpu f t) (first_declared cpu f (made call.WdfInterruptQueueDpcForIsr n a b x) kind.Interrupt h refl refl)
  outcome_doable cpu f t call.WdfDpcEnqueue n a b x h = dpc_doable k cpu (object_in a) (cpu_of_top cpu f t)
  outcome_doable cpu f t call.WdfDpcCancel n a b x h = (tt, tt)
  outcome_doable cpu f t call.WdfTimerStart n a b x h = timer_doable k (object_in a) (number_in b)
  outcome_doable cpu f t call.WdfTimerStop n a b x h = (tt, tt)
  outcome_doable cpu f t call.WdfWorkItemEnqueue n a b x h = work_doable k (object_in a)
  outcome_doable cpu f t call.WdfWorkItemFlush n a b x h = tt
  outcome_doable cpu f t call.WdfIoTargetStop n a b x h = (target_there k (object_in a) (first_declared cpu f (made call.WdfIoTargetStop n a b x) kind.Target h refl refl), tt)
  outcome_doable cpu f t call.WdfIoTargetStart n a b x h = (target_there k (object_in a) (first_declared cpu f (made call.WdfIoTargetStart n a b x) kind.Target h refl refl), tt)

  -- the first part of an acquire leaves the locks alone
  second_then : (cpu f : ℕ) → top S.cpus cpu ≡ Some f → (y : CallKind) (n : ℕ) (a b x : Arg) → is_met_then plan S (made y n a b x) ≡ true
      → AreDoable plan (second_deeds f (made y n a b x)) (do_deeds plan (outcome plan S cpu f (made y n a b x)).deeds S)
  second_then cpu f t call.WdfSpinLockAcquire n a b x h = ((h, top_few k cpu f t, locks_few k), tt)
  second_then cpu f t call.WdfWaitLockAcquire n a b x h = ((h, top_few k cpu f t, locks_few k), tt)
  second_then cpu f t call.WdfInterruptAcquireLock n a b x h = ((h, top_few k cpu f t, locks_few k), tt)
  second_then cpu f t _ n a b x h = tt

  pub did_doable : (cpu : Cpu) (c : Call) (v : Value) → IsDid plan S cpu.0 c v → AreDoable plan (by_top S cpu.0 (did_deeds plan S cpu.0 c v)) S
  did_doable cpu c v d =
      rw (by_its_top S cpu.0 d.frame (did_deeds plan S cpu.0 c v) d.about.top)
      (goes_on_after plan ((outcome plan S cpu.0 d.frame c).deeds ++ second_deeds d.frame c) S d.frame (answered plan (frame_of S.cpus d.frame) v) (top_there k cpu.0 d.frame d.about.top)
      (none_behind (outcome plan S cpu.0 d.frame c).deeds (second_deeds d.frame c) (outcome_none plan S cpu.0 d.frame c) (second_none d.frame c))
      (doable_after plan (outcome plan S cpu.0 d.frame c).deeds (second_deeds d.frame c) S (outcome_doable cpu.0 d.frame d.about.top c.kind c.count c.a c.b c.c d.about.clean)
      (second_then cpu.0 d.frame d.about.top c.kind c.count c.a c.b c.c d.met)))

  pub waiting_doable : (cpu : Cpu) (c : Call) → IsWaiting plan S cpu.0 c → AreDoable plan (by_top S cpu.0 (waiting_deeds plan S cpu.0 c)) S
  waiting_doable cpu c d =
      rw (by_its_top S cpu.0 d.frame (waiting_deeds plan S cpu.0 c) d.about.top)
      (goes_on_after plan (outcome plan S cpu.0 d.frame c).deeds S d.frame (waiting (frame_of S.cpus d.frame) c (outcome plan S cpu.0 d.frame c).answer) (top_there k cpu.0 d.frame d.about.top)
      (outcome_none plan S cpu.0 d.frame c)
      (outcome_doable cpu.0 d.frame d.about.top c.kind c.count c.a c.b c.c d.about.clean))
