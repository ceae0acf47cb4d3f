-- The object of a line is in the plan at the place that the counts give.
use Rattle.std.proofs.Common.{◌≡◌, ℕ, suc, ◌+◌, List, [], Some, slice_get, refl, arith}
use Rattle.std.specs.List.{filter_map}
use Rattle.wdf_base.specs.declared.declared.Declared.{Declared}
use Rattle.wdf_base.specs.Plan.{declared_of}
use Rattle.wdf_scene.specs.declared.scene.Scene.{Scene}
use Rattle.wdf_blocks.specs.declared.placed.Placed.{Placed}
use Rattle.wdf_blocks.specs.Declarations.{declarations}
use Rattle.wdf_blocks.specs.Forms.{is_object}
use Rattle.wdf_plan.specs.Parts.{object_on}
use Rattle.wdf_blocks.specs.Placed.{outside, nothing, counted, placed}
use Rattle.wdf_plan.specs.Plans.{all_objects, plan_with, plan_of}
use Rattle.wdf_plan.proofs.Bounds.{object_tells}
use Rattle.wdf_refusals.proofs.Every.{Every}
use Rattle.wdf_plan.proofs.Places.{indexed}

-- the objects that the lines declare
abbrev pub objects_of : Scene → List Declared
objects_of scene = filter_map (object_on scene (declarations scene)) (placed scene)

-- the object of a line is at its place
abbrev pub ObjectThere : Scene → Placed → Type 0
ObjectThere scene p =
    (x : Declared) → object_on scene (declarations scene) p ≡ Some x → slice_get (objects_of scene) p.counts.objects ≡ Some x

-- each is there
pub objects_there : (scene : Scene) → Every (ObjectThere scene) (placed scene)
unfolding placed counted
objects_there scene =
    indexed is_object (λ c. c.objects) (object_on scene (declarations scene)) (λ c f n. refl) (λ p. object_tells scene (declarations scene) p p.at p.form) (objects_of scene) [] 0 outside nothing scene.lines refl refl

-- in the plan they come after the driver and the request
pub object_place : (scene : Scene) (order : ℕ) → declared_of (plan_of scene) (order + 2) ≡ slice_get (objects_of scene) order
unfolding plan_of plan_with all_objects
object_place scene order =
    let e : order + 2 ≡ suc (suc order) = omega arith in
    rw e refl
