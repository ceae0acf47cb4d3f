-- The statements and the expressions of a plan are within their bounds.
use Rattle.std.proofs.Common.{◌≡◌, None}
use Rattle.std.proofs.lemmas.Bool.{le-leb}
use Rattle.std.specs.Prelude.{nat_le, IsTrue}
use Rattle.wdf_base.specs.declared.plan.Plan.{Plan}
use Rattle.wdf_base.specs.Resolved.{nodes_fit, statement_count}
use Rattle.wdf_scene.specs.declared.scene.Scene.{Scene}
use Rattle.wdf_scene.specs.Written.{IsScene}
use Rattle.wdf_refusals.specs.First.{first_refusal}
use Rattle.wdf_plan.specs.Plans.{plan_of}
use Rattle.wdf_plan.proofs.Accepted.{each_accepted}
use Rattle.wdf_plan.proofs.ExprFacts.{exprs_fit}
use Rattle.wdf_plan.proofs.StatementCounts.{statements_bound}

-- at most 4,096 statements count, and each node of an expression fits
pub record IsWritable (plan : Plan) : Type 0 where
  pub statements : IsTrue (nat_le (statement_count plan) 4096)
  pub exprs : IsTrue (nodes_fit plan 0 plan.exprs)

pub plan_writable : (scene : Scene) → IsScene scene → first_refusal scene ≡ None → IsWritable (plan_of scene)
plan_writable scene s e =
    let each = each_accepted scene e in
    record {
      statements = le-leb _ _ (statements_bound scene s each);
      exprs = exprs_fit scene s each;
    }
