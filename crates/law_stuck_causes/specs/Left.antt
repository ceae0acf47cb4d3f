-- What a finished run has left: nothing that is open.
use Rattle.std.specs.Prelude.{◌≡◌, ℕ, true, false, [], None}
use Rattle.wdf_base.specs.Meaning.{Meaning}
use Rattle.wdf_base.specs.declared.plan.Plan.{Plan}
use Rattle.wdf_base.specs.Lives.{is_asked, is_cleaned, is_gone}
use Rattle.wdf_base.specs.Places.{is_done, is_sent}
use Rattle.wdf_model.specs.Tables.{contains}
use Rattle.wdf_model.specs.Plans.{devices_of}
use Rattle.wdf_model.specs.parts.Tree.{life_of}
use Rattle.wdf_model.specs.parts.Cpus.{all_frames}
use Rattle.wdf_model.specs.parts.Requests.{has_arrived, place_of, request_of}
use Rattle.wdf_model.specs.parts.Pnp.{running_step, steps_left}
use Rattle.wdf_model.specs.parts.Deferred.Timers.{timer_due}
use Rattle.wdf_model.specs.parts.Deferred.Dpcs.{is_dpc_queued}
use Rattle.wdf_model.specs.parts.Deferred.WorkItems.{is_work_queued}
use Rattle.wdf_model.specs.State.{State}
use Rattle.wdf_model.specs.rules.Posts.{due_of}
use Rattle.wdf_model.specs.rules.Ready.{is_open_post}

pub record NothingLeft {A : Type 0} (plan : Plan) (m : Meaning A) (S : State A) : Type 0 where
  -- no frame is there, on a processor or parked
  pub frames : all_frames S.cpus ≡ []
  -- each request that arrived is completed
  pub arrived : (r : ℕ) → has_arrived (request_of S.requests r) ≡ true → is_done (place_of S.requests r) ≡ true
  -- no request is at a target, also none that the driver made
  pub sent : (r : ℕ) → is_sent (place_of S.requests r) ≡ false
  -- no deletion was asked that hasn't come to its end
  pub asked : (o : ℕ) → is_asked (life_of S.tree o) ≡ false
  pub cleaned : (o : ℕ) → is_cleaned (life_of S.tree o) ≡ false
  -- no device of the plan has a step left, and no step's callback runs
  pub steps : (d : ℕ) → contains d (devices_of plan) ≡ true → steps_left S.pnp d ≡ []
  pub running : (d : ℕ) → contains d (devices_of plan) ≡ true → running_step S.pnp d ≡ None
  -- no DPC and no work item is queued, and no timer's tick is reached
  pub dpcs : (o : ℕ) → is_gone (life_of S.tree o) ≡ false → is_dpc_queued S.dpcs o ≡ false
  pub items : (o : ℕ) → is_gone (life_of S.tree o) ≡ false → is_work_queued S.work_items o ≡ false
  pub timers : (o : ℕ) → is_gone (life_of S.tree o) ≡ false → timer_due S.timers o S.clock ≡ false
  -- the Plug and Play manager doesn't wait for a sequence to end
  pub posts : is_open_post S (due_of m S 0) ≡ false
