-- The plan of a text is resolved.
use Rattle.std.proofs.Common.{ℕ, List}
use Rattle.wdf_base.specs.declared.plan.Plan.{Plan}
use Rattle.wdf_base.specs.Resolved.{IsResolved}
use Rattle.wdf_parse.proofs.ProperNames.{stands_scene, stands_properly}
use Rattle.wdf_plan.proofs.Whole.{plan_resolved}
use Rattle.wdf_top.specs.Answers.{HasPlan}

pub text_plan_resolved : (input : List ℕ) (plan : Plan) → HasPlan input plan → IsResolved plan
text_plan_resolved input plan h =
    rw h.3 (plan_resolved h.0 (stands_scene input h.0 h.1) (stands_properly input h.0 h.1) h.2)
