-- What is so of each line of a stuck run's wait list: where what it is about may start once the causes of its row are gone, it names one.
use Rattle.std.specs.Prelude.{◌≡◌, ℕ, true, false, is_some, Option, ⊤}
use Rattle.wdf_base.specs.declared.plan.Plan.{Plan}
use Rattle.wdf_base.specs.declared.event.Stage.TheVariants as stage
use Rattle.wdf_base.specs.declared.event.Step.{Step}
use Rattle.wdf_base.specs.declared.event.Step.TheVariants as step
use Rattle.wdf_base.specs.declared.wait.Cause.{Cause}
use Rattle.wdf_base.specs.declared.wait.OpenThing.{OpenThing}
use Rattle.wdf_base.specs.declared.wait.OpenThing.TheVariants as thing
use Rattle.wdf_model.specs.parts.Pnp.{follows_queues_up, is_running_step}
use Rattle.wdf_model.specs.parts.Deferred.Dpcs.{is_dpc_queued}
use Rattle.wdf_model.specs.State.{State}
use Rattle.wdf_model.specs.rules.Ready.{is_open_work}
use Rattle.law_stuck_named_if.specs.Starts.{dpc_may_run, is_live_queue, step_may_run}

-- the first DPC of each processor may run
abbrev pub DpcsMayRun : {A : Type 0} → Plan → State A → Type 0
DpcsMayRun plan S = (cpu : ℕ) → dpc_may_run plan S cpu ≡ true

-- what is asked of a device's step: a callback is there, `quiet` finds DPCs that may run; of the other stages nothing is said
abbrev pub StepMayCome : {A : Type 0} → Plan → State A → ℕ → Step → Type 0
StepMayCome plan S d (step.Run c i) = step_may_run plan S d (step.Run c i) ≡ true
StepMayCome plan S d (step.Pass stage.Quiet i) = DpcsMayRun plan S
StepMayCome plan S d (step.Pass s i) = false ≡ true

abbrev pub Named : {A : Type 0} → Plan → State A → OpenThing → Option Cause → Type 0
Named plan S (thing.Waiting f c o) x = is_some x ≡ true
Named plan S (thing.Queued r q) x = is_live_queue S q.id.0 ≡ true → is_some x ≡ true
Named plan S (thing.Returning r q) x = is_live_queue S q.id.0 ≡ true → is_some x ≡ true
Named plan S (thing.Sequence d s) x = is_running_step S.pnp d.id.0 ≡ false → follows_queues_up S.pnp d.id.0 ≡ false → StepMayCome plan S d.id.0 s → is_some x ≡ true
Named plan S (thing.Deferred o) x = (is_open_work S o.id.0 ≡ true) × (is_dpc_queued S.dpcs o.id.0 ≡ true → DpcsMayRun plan S → is_some x ≡ true)
Named plan S _ x = ⊤
