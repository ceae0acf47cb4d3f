-- What the lines of blocks give devices, queues and classes.
use Rattle.std.proofs.Common.{cond, drop, Some, None, refl}
use Rattle.wdf_scene.specs.declared.line.SceneLine.{SceneLine}
use Rattle.wdf_scene.specs.declared.line.SceneLine.TheVariants as line
use Rattle.wdf_scene.specs.declared.scene.Scene.{Scene}
use Rattle.wdf_blocks.specs.declared.placed.Placed.{Placed}
use Rattle.wdf_blocks.specs.Declarations.{declarations}
use Rattle.wdf_blocks.specs.Forms.{is_object, is_class}
use Rattle.wdf_plan.specs.Parts.{object_of, object_on, class_on, device_info, queue_info}
use Rattle.wdf_blocks.specs.Placed.{placed}
use Rattle.wdf_plan.specs.Plans.{plan_with, plan_of}
use Rattle.wdf_refusals.proofs.Every.{every_any}
use Rattle.law_plan.specs.Told.{placed_that, Paired, AreObjectsGiven, IsClassGiven}
use Rattle.law_plan.proofs.DeviceLines.{after_driver}
use Rattle.law_plan.proofs.Pairs.{Both, paired}

object_row : (scene : Scene) (p : Placed) (form : SceneLine) → Both (AreObjectsGiven scene) (cond (is_object form) (Some p) None) (object_of scene (declarations scene) p p.at form)
unfolding object_of is_object device_info queue_info
object_row scene p (line.Device n working) = record { scope = refl; level = refl }
object_row scene p (line.Queue n dispatch) = record { serves = refl; powered = refl; zero = refl; scope = refl; level = refl }
object_row scene p _ = tt

pub objects_given : (scene : Scene) → Paired (AreObjectsGiven scene) (placed_that is_object scene) (drop 1 (plan_of scene).declared)
objects_given scene =
    rw (after_driver scene) (paired (AreObjectsGiven scene) (λ p. cond (is_object p.form) (Some p) None) (λ p. object_on scene (declarations scene) p) (placed scene)
    (every_any (λ p. Both (AreObjectsGiven scene) (cond (is_object p.form) (Some p) None) (object_on scene (declarations scene) p)) (λ p. object_row scene p p.form) (placed scene)))

class_row : (scene : Scene) (p : Placed) (form : SceneLine) → Both (IsClassGiven scene) (cond (is_class form) (Some p) None) (class_on scene (declarations scene) p form)
unfolding class_on is_class
class_row scene p (line.DeferredClass n k parent) = refl
class_row scene p _ = tt

pub classes_given : (scene : Scene) → Paired (IsClassGiven scene) (placed_that is_class scene) (plan_of scene).classes
unfolding plan_of plan_with
classes_given scene =
    paired (IsClassGiven scene) (λ p. cond (is_class p.form) (Some p) None) (λ p. class_on scene (declarations scene) p p.form) (placed scene)
    (every_any (λ p. Both (IsClassGiven scene) (cond (is_class p.form) (Some p) None) (class_on scene (declarations scene) p p.form)) (λ p. class_row scene p p.form) (placed scene))
