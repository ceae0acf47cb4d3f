-- What is declared in a device is of the device whose line opened its block.
use Rattle.std.proofs.Common.{◌≡◌, ℕ, true, cond, drop, Option, Some, None, slice_get, refl, ap, sym}
use Rattle.std.specs.Prelude.{option_and_then}
use Rattle.std.specs.Option.{unwrap_or}
use Rattle.wdf_base.specs.declared.declared.Declared.{Declared}
use Rattle.wdf_base.specs.declared.declared.RegisterInfo.{RegisterInfo}
use Rattle.wdf_base.specs.Kinds.{declared_name as object_name}
use Rattle.wdf_scene.specs.declared.line.SceneLine.{SceneLine}
use Rattle.wdf_scene.specs.declared.line.SceneLine.TheVariants as line
use Rattle.wdf_scene.specs.declared.scene.Scene.{Scene}
use Rattle.wdf_scene.specs.Naming.{declared_name}
use Rattle.wdf_scene.specs.Written.{IsScene}
use Rattle.wdf_blocks.specs.declared.placed.Placed.{Placed}
use Rattle.wdf_blocks.specs.Declarations.{declarations, declared_by}
use Rattle.wdf_refusals.specs.First.{first_refusal}
use Rattle.wdf_blocks.specs.Forms.{is_device, is_object, is_register}
use Rattle.wdf_refusals.specs.Numbers.{id_of}
use Rattle.wdf_plan.specs.Parts.{object_of, object_on, register_on, device_info, queue_info, interrupt_info, target_info}
use Rattle.wdf_blocks.specs.Placed.{placed}
use Rattle.wdf_plan.specs.Plans.{all_objects, plan_with, plan_of}
use Rattle.wdf_plan.proofs.DeviceItems.{HasItems, items_placed}
use Rattle.wdf_plan.proofs.Devices.{IsDeviceAt, IsHome, IsKnown, belongs, each_known, form_there}
use Rattle.wdf_refusals.proofs.Every.{every_map, every_at}
use Rattle.wdf_plan.proofs.ObjectPlaces.{objects_of, object_place}
use Rattle.law_plan.specs.Told.{placed_that, Paired, block_name, device_in, IsInDevice}
use Rattle.law_plan.specs.WrittenOut.{name_text, object_text}
use Rattle.law_plan.proofs.NameTexts.{LineTold, lines_told}
use Rattle.law_plan.proofs.Pairs.{Both, paired}
use Rattle.law_plan.proofs.ScriptLines.{block_step}

-- the object of a device's line has the name that the line declares
device_named : (scene : Scene) (p : Placed) (form : SceneLine) (o : Option Declared) → is_device form ≡ true → LineTold scene p form
    → ((x : Declared) → object_of scene (declarations scene) p p.at form ≡ Some x → o ≡ Some x)
    → declared_name form ≡ Some (name_text (plan_of scene) (unwrap_or (option_and_then object_name o) 0))
unfolding object_of is_device device_info declared_by declared_name
device_named scene p (line.Device n working) o is t h = rw (h _ refl) (ap (λ m. Some m) (sym (t _ refl)))
device_named scene p _ o is t h = absurd (let z : ⊥ = cc in z)

-- the name of a device is that of its line
device_told : (scene : Scene) → first_refusal scene ≡ None → (o : Option ℕ) (k order : ℕ) → o ≡ Some k → IsDeviceAt (placed scene) k order → block_name scene o ≡ Some (object_text (plan_of scene) (id_of order))
device_told scene e o k order is d =
    let items = every_at (HasItems scene) (placed scene) (items_placed scene) k d.line d.there in
    let told = every_at (λ p. LineTold scene p p.form) (placed scene) (lines_told scene e) k d.line d.there in
    let named : declared_name d.line.form ≡ Some (object_text (plan_of scene) (id_of order)) =
    rw (object_place scene order, d.counted) (device_named scene d.line d.line.form (slice_get (objects_of scene) d.line.counts.objects) d.is told items.object) in
    block_step scene o k d.line.form (object_text (plan_of scene) (id_of order)) is (form_there scene k d.line d.there) named

-- what the counts say of a line in a device
home_told : (scene : Scene) → first_refusal scene ≡ None → (p : Placed) → IsHome scene p → block_name scene p.stand.block ≡ Some (object_text (plan_of scene) (id_of p.counts.device))
home_told scene e p h = device_told scene e p.stand.block h.line p.counts.device h.block h.own

-- ---- objects

object_row : (scene : Scene) → first_refusal scene ≡ None → (p : Placed) (form : SceneLine) → (belongs form ≡ true → IsHome scene p)
    → Both (λ q d. IsInDevice (plan_of scene) scene q (device_in d)) (cond (is_object form) (Some p) None) (object_of scene (declarations scene) p p.at form)
unfolding object_of is_object queue_info interrupt_info target_info
object_row scene e p (line.Queue n dispatch) h = home_told scene e p (h refl)
object_row scene e p (line.Interrupt n level) h = home_told scene e p (h refl)
object_row scene e p (line.Target n delay status depth) h = home_told scene e p (h refl)
object_row scene e p _ h = tt

-- the objects after the driver object
pub after_driver : (scene : Scene) → drop 1 (plan_of scene).declared ≡ objects_of scene
unfolding plan_of plan_with all_objects
after_driver scene = refl

pub objects_at_home : (scene : Scene) → IsScene scene → first_refusal scene ≡ None
    → Paired (λ p d. IsInDevice (plan_of scene) scene p (device_in d)) (placed_that is_object scene) (drop 1 (plan_of scene).declared)
objects_at_home scene s e =
    rw (after_driver scene) (paired (λ p d. IsInDevice (plan_of scene) scene p (device_in d)) (λ p. cond (is_object p.form) (Some p) None) (λ p. object_on scene (declarations scene) p) (placed scene)
    (every_map (IsKnown scene) (λ p. Both (λ q d. IsInDevice (plan_of scene) scene q (device_in d)) (cond (is_object p.form) (Some p) None) (object_on scene (declarations scene) p)) (λ p h. object_row scene e p p.form h.home) (placed scene) (each_known scene s e)))

-- ---- registers

register_row : (scene : Scene) → first_refusal scene ≡ None → (p : Placed) (form : SceneLine) → (belongs form ≡ true → IsHome scene p)
    → Both (λ q r. IsInDevice (plan_of scene) scene q (Some r.device)) (cond (is_register form) (Some p) None) (register_on (declarations scene) p form)
unfolding register_on is_register
register_row scene e p (line.Register n v) h = home_told scene e p (h refl)
register_row scene e p _ h = tt

pub registers_at_home : (scene : Scene) → IsScene scene → first_refusal scene ≡ None
    → Paired (λ p (r : RegisterInfo). IsInDevice (plan_of scene) scene p (Some r.device)) (placed_that is_register scene) (plan_of scene).registers
unfolding plan_of plan_with
registers_at_home scene s e =
    paired (λ p (r : RegisterInfo). IsInDevice (plan_of scene) scene p (Some r.device)) (λ p. cond (is_register p.form) (Some p) None) (λ p. register_on (declarations scene) p p.form) (placed scene)
    (every_map (IsKnown scene) (λ p. Both (λ q (r : RegisterInfo). IsInDevice (plan_of scene) scene q (Some r.device)) (cond (is_register p.form) (Some p) None) (register_on (declarations scene) p p.form)) (λ p h. register_row scene e p p.form h.home) (placed scene) (each_known scene s e))
