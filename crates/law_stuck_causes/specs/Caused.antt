-- The lines of a wait list of which it is proved that they name a cause.
use Rattle.std.specs.Prelude.{if◌then◌else◌, ℕ, Bool, true, false, not, ◌&&◌, ◌||◌, is_some}
use Rattle.std.specs.List.{list_any, range_with_len}
use Rattle.wdf_base.specs.declared.plan.Plan.{Plan}
use Rattle.wdf_base.specs.declared.call.Callback.TheVariants as callback
use Rattle.wdf_base.specs.declared.event.Stage.TheVariants as stage
use Rattle.wdf_base.specs.declared.event.Step.{Step}
use Rattle.wdf_base.specs.declared.event.Step.TheVariants as step
use Rattle.wdf_base.specs.declared.wait.OpenThing.{OpenThing}
use Rattle.wdf_base.specs.declared.wait.OpenThing.TheVariants as thing
use Rattle.wdf_base.specs.Lives.{is_cleaned, is_live}
use Rattle.wdf_model.specs.Tables.{contains}
use Rattle.wdf_model.specs.parts.Cpus.{frame_of, stack_of}
use Rattle.wdf_model.specs.parts.Tree.{life_of}
use Rattle.wdf_model.specs.parts.Pnp.{follows_queues_up, is_running_step}
use Rattle.wdf_model.specs.parts.Deferred.Dpcs.{is_dpc_queued}
use Rattle.wdf_model.specs.parts.Deferred.WorkItems.{is_work_queued}
use Rattle.wdf_model.specs.State.{State, declares_in, nothing_at}
use Rattle.wdf_model.specs.rules.Starts.{is_finished}

-- a stage other than `quiet`
abbrev pub is_stage : Step → Bool
is_stage (step.Run c i) = false
is_stage (step.Pass stage.Quiet i) = false
is_stage (step.Pass s i) = true

-- a frame is on a processor of the plan
abbrev pub is_running : {A : Type 0} → Plan → State A → ℕ → Bool
is_running plan S f = list_any (λ cpu. contains f (stack_of S.cpus cpu)) (range_with_len 0 plan.cpus)

-- a frame is parked, and waits in a call
abbrev pub is_waiting_parked : {A : Type 0} → State A → ℕ → Bool
is_waiting_parked S f = contains f S.cpus.parked && is_some (frame_of S.cpus f).pending

-- a work item or a timer that is queued, is live and has its callback
abbrev pub may_run : {A : Type 0} → Plan → State A → ℕ → Bool
may_run plan S o =
    not (is_dpc_queued S.dpcs o) && is_live (life_of S.tree o)
    && (if is_work_queued S.work_items o then declares_in plan S callback.EvtWorkItem o else declares_in plan S callback.EvtTimerFunc o)

-- Queued work, but for a DPC, that is live and has its callback. A frame that is on a processor, or is parked in a
-- call. A device whose next step is such a stage, and none that waits for resumes. An object that is cleaned up, or one
-- that is no request under way and to which no request is sent.
abbrev pub names_a_cause : {A : Type 0} → Plan → State A → OpenThing → Bool
names_a_cause plan S (thing.Waiting f c o) = is_running plan S f.0 || is_waiting_parked S f.0
names_a_cause plan S (thing.Sequence d s) = is_stage s && not (is_running_step S.pnp d.id.0) && not (follows_queues_up S.pnp d.id.0)
names_a_cause plan S (thing.Leaving o) = is_cleaned (life_of S.tree o.id.0) || (is_finished S o.id.0 && nothing_at S o.id.0)
names_a_cause plan S (thing.Deferred o) = may_run plan S o.id.0
names_a_cause plan S _ = false

-- a request that the driver owns or has sent, and the Plug and Play manager
abbrev pub has_no_cause : OpenThing → Bool
has_no_cause (thing.Owned r) = true
has_no_cause (thing.Sent r t) = true
has_no_cause (thing.Asking d) = true
has_no_cause _ = false
