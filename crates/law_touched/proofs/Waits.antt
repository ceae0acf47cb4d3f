-- The waits of calls that are over in two states alike.
use Rattle.std.proofs.Common.{◌≡◌, ℕ, not, ◌&&◌, ◌||◌, ◌==◌, Option, Some, None, refl}
use Rattle.wdf_base.specs.declared.plan.Plan.{Plan}
use Rattle.wdf_base.specs.declared.call.Arg.{Arg}
use Rattle.wdf_base.specs.declared.call.Call.{Call}
use Rattle.wdf_base.specs.declared.call.CallKind.{CallKind}
use Rattle.wdf_base.specs.declared.call.CallKind.TheVariants as call
use Rattle.wdf_base.specs.declared.frame.Pending.{Pending}
use Rattle.wdf_model.specs.State.{State, nothing_at, object_in}
use Rattle.wdf_model.specs.parts.Cpus.{nobody_on}
use Rattle.wdf_model.specs.parts.Locks.{is_free_lock, object_lock}
use Rattle.wdf_model.specs.parts.Queues.{held_count, is_empty_queue}
use Rattle.wdf_model.specs.parts.Deferred.WorkItems.{is_work_queued}
use Rattle.wdf_model.specs.rules.Calls.{is_met, is_met_then, nothing_returns, purge_returns}
use Rattle.wdf_base.specs.Values.{arg_is}
use Rattle.wdf_model.specs.rules.Steps.{wait_is_over, waits_on}

module _ {A : Type 0} (S T : State A) (locks : S.locks ≡ T.locks) (requests : S.requests ≡ T.requests) (queues : S.queues ≡ T.queues) (items : S.work_items ≡ T.work_items)
    (nobody : (o : ℕ) → nobody_on S.cpus o ≡ nobody_on T.cpus o) where
  met_by : (k : CallKind) (n : ℕ) (a b x : Arg) → is_met S (record { kind = k; count = n; a = a; b = b; c = x }) ≡ is_met T (record { kind = k; count = n; a = a; b = b; c = x })
  met_by call.WdfSpinLockAcquire n a b x = λ i. is_free_lock (locks i) (object_lock (object_in a))
  met_by call.WdfWaitLockAcquire n a b x = λ i. is_free_lock (locks i) (object_lock (object_in a))
  met_by call.WdfInterruptAcquireLock n a b x = λ i. is_free_lock (locks i) (object_lock (object_in a))
  met_by call.WdfIoQueueStopSynchronously n a b x = λ i. held_count (queues i) (object_in a) == 0
  met_by call.WdfIoQueueDrainSynchronously n a b x = λ i. held_count (queues i) (object_in a) == 0 && is_empty_queue (queues i) (object_in a)
  met_by call.WdfIoQueuePurgeSynchronously n a b x = λ i. held_count (queues i) (object_in a) == 0 && nothing_returns (record S { requests = requests i }) (object_in a)
  met_by call.WdfDpcCancel n a b x = λ i. arg_is b 0 || nobody (object_in a) i
  met_by call.WdfTimerStop n a b x = λ i. arg_is b 0 || nobody (object_in a) i
  met_by call.WdfWorkItemFlush n a b x = λ i. not (is_work_queued (items i) (object_in a)) && nobody (object_in a) i
  met_by call.WdfIoTargetStop n a b x = λ i. arg_is b 2 || nothing_at (record S { requests = requests i }) (object_in a)
  met_by _ n a b x = refl

  pub met : (c : Call) → is_met S c ≡ is_met T c
  met c = met_by c.kind c.count c.a c.b c.c

  pub waits_alike : (p : Option Pending) → waits_on S p ≡ waits_on T p
  waits_alike None = refl
  waits_alike (Some p) = λ i. not (met p.call i)

  pub over_alike : (p : Option Pending) → wait_is_over S p ≡ wait_is_over T p
  over_alike None = refl
  over_alike (Some p) = met p.call

  module _ (plan : Plan) (control : S.control ≡ T.control) (power : S.power ≡ T.power) where
    then_by : (k : CallKind) (n : ℕ) (a b x : Arg) → is_met_then plan S (record { kind = k; count = n; a = a; b = b; c = x }) ≡ is_met_then plan T (record { kind = k; count = n; a = a; b = b; c = x })
    then_by call.WdfIoQueuePurgeSynchronously n a b x = λ i.
        met_by call.WdfIoQueuePurgeSynchronously n a b x i && not (purge_returns plan (record S { requests = requests i; queues = queues i; control = control i; power = power i }) (object_in a))
    then_by k n a b x = met_by k n a b x

    pub met_then : (c : Call) → is_met_then plan S c ≡ is_met_then plan T c
    met_then c = then_by c.kind c.count c.a c.b c.c
