-- What is kept of a callback that is walked is so.
use Rattle.std.specs.Prelude.{◌≡◌}
use Rattle.wdf_base.specs.declared.plan.Plan.{Plan}
use Rattle.wdf_lint.specs.declared.walked.Walked.{Walked}
use Rattle.wdf_lint.specs.Abstracts.{callback_of, id_of, owner_of, plan_sends}

-- Each field of what is kept is what the plan says of the script.
pub record IsOf (plan : Plan) (w : Walked) : Type 0 where
  pub callback : w.callback ≡ callback_of plan w.script
  pub owner : w.owner ≡ owner_of plan w.script
  pub own : w.own ≡ id_of plan (owner_of plan w.script)
  pub sends : w.sends ≡ plan_sends plan
