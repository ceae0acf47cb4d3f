-- The objects and the registers of a plan are in their ranges, and what devices do is about their own.
use Rattle.std.proofs.Common.{◌≡◌, ℕ, ◌+◌, true, false, not, ◌||◌, List, drop, Option, Some, None, IsTrue, refl, sym, ◌∙◌}
use Rattle.std.proofs.lemmas.Bool.{and_from, or_parts, or_right, not-false, not_from_false}
use Rattle.std.specs.Prelude.{◌==◌}
use Rattle.std.specs.List.{filter_map, list_all}
use Rattle.wdf_base.specs.declared.declared.Declared.{Declared}
use Rattle.wdf_base.specs.declared.declared.DispatchKind.TheVariants as dispatch
use Rattle.wdf_base.specs.declared.declared.RegisterInfo.{RegisterInfo}
use Rattle.wdf_base.specs.declared.declared.WhenLine.{WhenLine}
use Rattle.wdf_base.specs.declared.object.Kind.TheVariants as kind
use Rattle.wdf_base.specs.declared.plan.Plan.{Plan}
use Rattle.wdf_base.specs.Plan.{declared_of}
use Rattle.wdf_base.specs.Resolved.{is_from, is_ticks, is_kind, is_working, declared_fits, register_fits, when_fits, app_count, device_ids, device_posts_fit}
use Rattle.wdf_scene.specs.declared.line.InterruptLevel.{InterruptLevel}
use Rattle.wdf_scene.specs.declared.line.InterruptLevel.TheVariants as level
use Rattle.wdf_scene.specs.declared.line.SceneLine.{SceneLine}
use Rattle.wdf_scene.specs.declared.line.SceneLine.TheVariants as line
use Rattle.wdf_scene.specs.declared.scene.Scene.{Scene}
use Rattle.wdf_scene.specs.Written.{IsScene}
use Rattle.wdf_blocks.specs.declared.declaration.Declaration.{Declaration}
use Rattle.wdf_blocks.specs.declared.declaration.Wanted.TheVariants as wanted
use Rattle.wdf_blocks.specs.declared.placed.Placed.{Placed}
use Rattle.wdf_blocks.specs.Declarations.{declarations, stands}
use Rattle.wdf_refusals.specs.First.{first_refusal}
use Rattle.wdf_refusals.specs.Limits.{over_level, over_parallel, over_depth, over_ticks}
use Rattle.wdf_plan.specs.Parts.{irql_of, object_of, object_on, queue_info, interrupt_info, target_info, register_on, when_on}
use Rattle.wdf_blocks.specs.Placed.{placed}
use Rattle.wdf_plan.specs.Plans.{all_objects, plan_with, plan_of}
use Rattle.wdf_refusals.specs.Rows.{block_is, is_working_block, wrong_callback, unknown_action, unknown_word}
use Rattle.wdf_plan.proofs.Accepted.{word_known}
use Rattle.wdf_plan.proofs.Devices.{IsDeviceAt, IsHome, IsKnown, belongs, each_known, form_there, block_tells}
use Rattle.wdf_plan.proofs.DeviceItems.{device_object, register_own, action_own}
use Rattle.wdf_plan.proofs.DevicePosts.{posts_fit}
use Rattle.wdf_refusals.proofs.Every.{Every, some_has, all_kept}
use Rattle.wdf_plan.proofs.Within.{level_within, parallel_within, depth_within, ticks_within}

-- ---- the device of a line

device_kind : (scene : Scene) (k order : ℕ) → IsDeviceAt (placed scene) k order → is_kind (plan_of scene) kind.Device (order + 2) ≡ true
device_kind scene k order d = let o = device_object scene k order d in rw o.there refl

idle_device : (scene : Scene) (k order : ℕ) → IsDeviceAt (placed scene) k order → block_is is_working_block scene (Some k) ≡ false → is_working (declared_of (plan_of scene) (order + 2)) ≡ false
idle_device scene k order d h =
    let o = device_object scene k order d in
    rw (o.there, ← o.working) (sym (block_tells is_working_block scene (Some k) k d.line.form refl (form_there scene k d.line d.there)) ∙ h)

-- ---- objects

level_fits : (n : List ℕ) (l : InterruptLevel) → over_level (line.Interrupt n l) ≡ false → (((irql_of l).0 == 0) || is_from 3 12 (irql_of l).0) ≡ true
unfolding over_level
level_fits n (level.Numbered k) h =
    or_right (k == 0) (is_from 3 12 k) (not-false (is_from 3 12 k) h)
level_fits n level.AtPassive h = refl

-- the line of an interrupt, in its device that doesn't work at the opening
interrupt_idle : (scene : Scene) (p : Placed) (n : List ℕ) (l : InterruptLevel) → IsHome scene p → wrong_callback scene p (line.Interrupt n l) ≡ false → not (is_working (declared_of (plan_of scene) (p.counts.device + 2))) ≡ true
unfolding wrong_callback
interrupt_idle scene p n l home w =
    let parts = or_parts _ (block_is is_working_block scene p.stand.device) w in
    let idle : block_is is_working_block scene (Some home.line) ≡ false = rw (← home.device) parts.1 in
    not_from_false _ (idle_device scene home.line p.counts.device home.own idle)

object_fits : (scene : Scene) (p : Placed) (form : SceneLine) (x : Declared) → (belongs form ≡ true → IsHome scene p) → wrong_callback scene p form ≡ false → over_level form ≡ false → over_parallel form ≡ false → over_depth form ≡ false → over_ticks form ≡ false → object_of scene (declarations scene) p p.at form ≡ Some x → declared_fits (plan_of scene) x ≡ true
unfolding object_of queue_info interrupt_info target_info over_parallel over_depth over_ticks
object_fits scene p (line.Device n working) x home w l q d t e = some_has (λ d. declared_fits (plan_of scene) d ≡ true) _ x e refl
object_fits scene p (line.Queue n (dispatch.Parallel k)) x home w l q d t e =
    some_has (λ d. declared_fits (plan_of scene) d ≡ true) _ x e (not-false (is_from 1 1024 k) q)
object_fits scene p (line.Queue n dispatch.Sequential) x home w l q d t e = some_has (λ d. declared_fits (plan_of scene) d ≡ true) _ x e refl
object_fits scene p (line.Queue n dispatch.Manual) x home w l q d t e = some_has (λ d. declared_fits (plan_of scene) d ≡ true) _ x e refl
object_fits scene p (line.Interrupt n i) x home w l q d t e =
    some_has (λ d. declared_fits (plan_of scene) d ≡ true) _ x e (and_from _ _ (level_fits n i l) (interrupt_idle scene p n i (home refl) w))
object_fits scene p (line.Target n delay status depth) x home w l q d t e =
    some_has (λ d. declared_fits (plan_of scene) d ≡ true) _ x e (and_from _ _ (not-false (is_ticks delay) t) (not-false (is_from 1 256 depth) d))
object_fits scene p _ x home w l q d t e = absurd (let z : ⊥ = cc in z)

known_object : (scene : Scene) (p : Placed) (x : Declared) → IsKnown scene p → object_on scene (declarations scene) p ≡ Some x → declared_fits (plan_of scene) x ≡ true
known_object scene p x k e =
    object_fits scene p p.form x k.home k.accepted.fitting (level_within scene p k.accepted) (parallel_within scene p k.accepted) (depth_within scene p k.accepted) (ticks_within scene p k.accepted) e

objects_fit : (scene : Scene) → Every (IsKnown scene) (placed scene) → list_all (declared_fits (plan_of scene)) (all_objects scene (declarations scene)) ≡ true
unfolding all_objects
objects_fit scene each =
    all_kept (object_on scene (declarations scene)) (IsKnown scene) (declared_fits (plan_of scene)) (known_object scene) (placed scene) each

-- ---- registers

register_line : (scene : Scene) (p : Placed) (form : SceneLine) (r : RegisterInfo) → (belongs form ≡ true → IsHome scene p) → register_on (declarations scene) p form ≡ Some r → register_fits (plan_of scene) r ≡ true
unfolding register_on
register_line scene p (line.Register n v) r home e =
    some_has (λ i. register_fits (plan_of scene) i ≡ true) _ r e (device_kind scene (home refl).line p.counts.device (home refl).own)
register_line scene p _ r home e = absurd (let z : ⊥ = cc in z)

registers_fit : (scene : Scene) → Every (IsKnown scene) (placed scene) → list_all (register_fits (plan_of scene)) (filter_map (λ p. register_on (declarations scene) p p.form) (placed scene)) ≡ true
registers_fit scene each =
    all_kept (λ p. register_on (declarations scene) p p.form) (IsKnown scene) (register_fits (plan_of scene)) (λ p r k e. register_line scene p p.form r k.home e) (placed scene) each

-- ---- what a device does when a register is used

when_belongs : (names : List Declaration) (number : ℕ) (device : Option ℕ) (form : SceneLine) (w : WhenLine) → when_on names number device form ≡ Some w → belongs form ≡ true
unfolding when_on
when_belongs names number device (line.When access r a after) w e = refl
when_belongs names number device _ w e = absurd (let z : ⊥ = cc in z)

when_own : (scene : Scene) (k order number : ℕ) (form : SceneLine) (w : WhenLine) → IsDeviceAt (placed scene) k order → over_ticks form ≡ false → unknown_word (declarations scene) (Some k) form ≡ false → when_on (declarations scene) number (Some k) form ≡ Some w → when_fits (plan_of scene) w ≡ true
unfolding when_on over_ticks unknown_word
when_own scene k order number (line.When access r a after) w own t known e =
    let parts = or_parts (not (stands (declarations scene) r (wanted.RegisterOf (Some k)))) (unknown_action (declarations scene) (Some k) a) known in
    some_has (λ x. when_fits (plan_of scene) x ≡ true) _ w e (and_from _ _ (not-false (is_ticks after) t) (rw (register_own scene k order r own (not-false (stands (declarations scene) r (wanted.RegisterOf (Some k))) parts.0)) (action_own scene k order a own parts.1)))
when_own scene k order number _ w own t known e = absurd (let z : ⊥ = cc in z)

known_when : (scene : Scene) (p : Placed) (w : WhenLine) → IsKnown scene p → when_on (declarations scene) p.number p.stand.device p.form ≡ Some w → when_fits (plan_of scene) w ≡ true
known_when scene p w k e =
    let h = k.home (when_belongs (declarations scene) p.number p.stand.device p.form w e) in
    when_own scene h.line p.counts.device p.number p.form w h.own (ticks_within scene p k.accepted) (rw h.device at (word_known scene p k.accepted)) (rw h.device at e)

whens_fit : (scene : Scene) → Every (IsKnown scene) (placed scene) → list_all (when_fits (plan_of scene)) (filter_map (λ p. when_on (declarations scene) p.number p.stand.device p.form) (placed scene)) ≡ true
whens_fit scene each =
    all_kept (λ p. when_on (declarations scene) p.number p.stand.device p.form) (IsKnown scene) (when_fits (plan_of scene)) (known_when scene) (placed scene) each

-- ---- the whole

-- the numbers of the objects are in their ranges, and what devices have, do and post is about their own
pub record IsFitted (plan : Plan) : Type 0 where
  pub declared : IsTrue (list_all (declared_fits plan) plan.declared)
  pub registers : IsTrue (list_all (register_fits plan) plan.registers)
  pub whens : IsTrue (list_all (when_fits plan) plan.whens)
  pub posts : IsTrue (device_posts_fit plan (device_ids 1 plan.declared) (drop (app_count plan) plan.agents))

-- a plan's objects, registers and devices
pub plan_fitted : (scene : Scene) → IsScene scene → first_refusal scene ≡ None → IsFitted (plan_of scene)
unfolding plan_of plan_with
plan_fitted scene s e =
    let each = each_known scene s e in
    record {
      declared = objects_fit scene each;
      registers = registers_fit scene each;
      whens = whens_fit scene each;
      posts = posts_fit scene each;
    }
