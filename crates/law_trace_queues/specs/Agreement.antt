-- What the requests that return to queues, and the resumes that are due, say of the power of devices.
use Rattle.std.specs.Prelude.{◌≡◌, ℕ, true, false}
use Rattle.wdf_base.specs.declared.plan.Plan.{Plan}
use Rattle.wdf_base.specs.Places.{is_returning_to}
use Rattle.wdf_model.specs.parts.Power.{holding_of, is_held_at, queues_up, resume_due}
use Rattle.wdf_model.specs.parts.Pnp.{follows_queues_up, is_running_step}
use Rattle.wdf_model.specs.parts.Requests.{place_of}
use Rattle.wdf_model.specs.State.{State, is_powered}

-- a device's queues are up, it waits at the step right after `queues_up`, and no callback of a step of it runs
pub record WaitsForResumes {A : Type 0} (S : State A) (d : ℕ) : Type 0 where
  pub up : queues_up S.power d ≡ true
  pub after : follows_queues_up S.pnp d ≡ true
  pub idle : is_running_step S.pnp d ≡ false

-- Requests return, and resumes are due, only with power.
pub record RequestsAndPowerAgree {A : Type 0} (plan : Plan) (S : State A) : Type 0 where
  -- a queue to which a request returns has power
  pub returning : (r q : ℕ) → is_returning_to q (place_of S.requests r) ≡ true → is_powered plan S q ≡ true
  -- a device waits while a resume is due for a request that is held from a power-managed queue of it
  pub resuming : (d r : ℕ) → is_held_at S.power d (holding_of S.power r) ≡ true → resume_due S.power r ≡ true → WaitsForResumes S d
