-- The classes of a plan fit, and what can't do without a callback has one script for it.
use Rattle.std.specs.Prelude.{◌≡◌, None, IsTrue}
use Rattle.std.specs.List.{list_all}
use Rattle.wdf_base.specs.declared.plan.Plan.{Plan}
use Rattle.wdf_base.specs.Resolved.{all_differ, class_fits, same_script, declared_complete, classes_complete}
use Rattle.wdf_scene.specs.declared.scene.Scene.{Scene}
use Rattle.wdf_scene.specs.Written.{IsScene}
use Rattle.wdf_refusals.specs.First.{first_refusal}
use Rattle.wdf_plan.specs.Plans.{plan_of}
use Rattle.wdf_plan.proofs.ClassFacts.{plan_classes_fit}
use Rattle.wdf_plan.proofs.Completeness.{plan_declared, plan_classes}
use Rattle.wdf_plan.proofs.ScriptNames.{plan_differ}

-- the classes fit, no two scripts are of one callback on one object, and what has to have a callback has it
pub record IsComplete (plan : Plan) : Type 0 where
  pub classes : IsTrue (list_all (class_fits plan) plan.classes)
  pub differ : IsTrue (all_differ same_script plan.scripts)
  pub declared : IsTrue (list_all (declared_complete plan) plan.declared)
  pub complete : IsTrue (classes_complete plan 0 plan.classes)

pub plan_complete : (scene : Scene) → IsScene scene → first_refusal scene ≡ None → IsComplete (plan_of scene)
plan_complete scene s none =
    record {
      classes = plan_classes_fit scene s none;
      differ = plan_differ scene s none;
      declared = plan_declared scene s none;
      complete = plan_classes scene s none;
    }
