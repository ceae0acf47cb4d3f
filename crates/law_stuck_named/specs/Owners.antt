-- What is so of the owners of requests, of queued work and of steps, at each place of every run of a resolved plan.
use Rattle.std.specs.Prelude.{◌≡◌, ℕ, true, Some}
use Rattle.wdf_base.specs.declared.plan.Plan.{Plan}
use Rattle.wdf_base.specs.declared.call.Callback.TheVariants as callback
use Rattle.wdf_base.specs.declared.event.Step.{Step}
use Rattle.wdf_base.specs.Callbacks.{dpc_function}
use Rattle.wdf_model.specs.parts.Tree.{kind_of}
use Rattle.wdf_model.specs.parts.Requests.{is_in, place_of}
use Rattle.wdf_model.specs.parts.Pnp.{next_step}
use Rattle.wdf_model.specs.parts.Deferred.Dpcs.{is_dpc_queued}
use Rattle.wdf_model.specs.parts.Deferred.WorkItems.{is_work_queued}
use Rattle.wdf_model.specs.parts.Deferred.Timers.{is_timer_queued}
use Rattle.wdf_model.specs.State.{State}
use Rattle.law_stuck_named_if.specs.Starts.{has_callback, is_live_queue, step_may_run}
use Rattle.law_stuck_named.specs.Standing.{is_live_device}

-- a queue in which a request waits, or to which one returns, is live
pub record QueuesLive {A : Type 0} (S : State A) : Type 0 where
  pub queues : (q r : ℕ) → is_in q (place_of S.requests r) ≡ true → is_live_queue S q ≡ true

-- what is queued as a work item, or as a timer, is live and has its callback
pub record WorkMayRun {A : Type 0} (plan : Plan) (S : State A) : Type 0 where
  pub items : (o : ℕ) → is_work_queued S.work_items o ≡ true → has_callback plan S callback.EvtWorkItem o ≡ true
  pub timers : (o : ℕ) → is_timer_queued S.timers o ≡ true → has_callback plan S callback.EvtTimerFunc o ≡ true

-- an object whose DPC is queued is live and has the function
pub record DpcsRun {A : Type 0} (plan : Plan) (S : State A) : Type 0 where
  pub dpcs : (o : ℕ) → is_dpc_queued S.dpcs o ≡ true → has_callback plan S (dpc_function (kind_of S.tree o)) o ≡ true

-- a device that has a step left is live, and its next step, where that is a callback, is that of a live object of it that
-- has it
pub record StepsMayRun {A : Type 0} (plan : Plan) (S : State A) : Type 0 where
  pub next : (d : ℕ) (s : Step) → next_step S.pnp d ≡ Some s → (is_live_device plan S d ≡ true) × (step_may_run plan S d s ≡ true)
