-- The objects and the registers of a plan are at their places, and what a device does is about its own.
use Rattle.std.proofs.Common.{◌≡◌, ℕ, ◌+◌, true, false, ◌&&◌, List, [], Option, Some, None, slice_get, refl, ap}
use Rattle.std.proofs.lemmas.Bool.{and_parts, and_from, eq-eqb, eqb-true, not-false}
use Rattle.std.specs.Prelude.{◌==◌}
use Rattle.std.specs.List.{filter_map}
use Rattle.wdf_base.specs.declared.declared.Declared.{Declared}
use Rattle.wdf_base.specs.declared.declared.Declared.TheVariants as declared
use Rattle.wdf_base.specs.declared.declared.DeviceInfo.{DeviceInfo}
use Rattle.wdf_base.specs.declared.declared.RegisterInfo.{RegisterInfo}
use Rattle.wdf_base.specs.declared.ids.Handle.{Handle}
use Rattle.wdf_base.specs.declared.object.Kind.TheVariants as kind
use Rattle.wdf_base.specs.Plan.{declared_of}
use Rattle.wdf_base.specs.Resolved.{action_fits, device_of_register, device_of_interrupt, is_handle}
use Rattle.wdf_base.specs.Same.{same_option}
use Rattle.wdf_scene.specs.declared.line.SceneAction.{SceneAction}
use Rattle.wdf_scene.specs.declared.line.SceneAction.TheVariants as action
use Rattle.wdf_scene.specs.declared.line.SceneLine.{SceneLine}
use Rattle.wdf_scene.specs.declared.line.SceneLine.TheVariants as line
use Rattle.wdf_scene.specs.declared.scene.Scene.{Scene}
use Rattle.wdf_blocks.specs.declared.declaration.Declaration.{Declaration}
use Rattle.wdf_blocks.specs.declared.declaration.Thing.{Thing}
use Rattle.wdf_blocks.specs.declared.declaration.Thing.TheVariants as thing
use Rattle.wdf_blocks.specs.declared.declaration.Wanted.{Wanted}
use Rattle.wdf_blocks.specs.declared.declaration.Wanted.TheVariants as wanted
use Rattle.wdf_blocks.specs.declared.placed.Placed.{Placed}
use Rattle.wdf_blocks.specs.Declarations.{declarations, declared_by, declared_on, is_wanted, is_interrupt, is_register, found, stands}
use Rattle.wdf_blocks.specs.Forms.{is_device, is_register as is_register_form}
use Rattle.wdf_refusals.specs.Numbers.{number_of, handle_of, action_of}
use Rattle.wdf_plan.specs.Parts.{object_of, object_on, device_info, interrupt_info, register_on}
use Rattle.wdf_blocks.specs.Placed.{outside, nothing, counted, placed}
use Rattle.wdf_plan.specs.Plans.{plan_with, plan_of}
use Rattle.wdf_refusals.specs.Rows.{is_working_block, unknown_action}
use Rattle.wdf_plan.proofs.Bounds.{register_tells}
use Rattle.wdf_plan.proofs.Devices.{IsDeviceAt, HasDevice, devices_known, same_order}
use Rattle.wdf_refusals.proofs.Every.{Every, some_has, every_map, every_both, every_kept, every_at}
use Rattle.wdf_plan.proofs.Handles.{Stands, stands_for, thing_kind, number_there, handle_fits}
use Rattle.wdf_plan.proofs.ObjectPlaces.{objects_of, ObjectThere, objects_there, object_place}
use Rattle.wdf_plan.proofs.Places.{indexed, found_has}

-- ---- items at their places

-- the register that a line declares
abbrev pub register_at : Scene → Placed → Option RegisterInfo
register_at scene p = register_on (declarations scene) p p.form

-- the object and the register of a line are where the counts say
pub record HasItems (scene : Scene) (p : Placed) : Type 0 where
  pub object : (x : Declared) → object_on scene (declarations scene) p ≡ Some x → slice_get (objects_of scene) p.counts.objects ≡ Some x
  pub register : (x : RegisterInfo) → register_at scene p ≡ Some x → slice_get (filter_map (register_at scene) (placed scene)) p.counts.registers ≡ Some x

-- the register of a line is at its place
abbrev RegisterThere : Scene → Placed → Type 0
RegisterThere scene p =
    (x : RegisterInfo) → register_at scene p ≡ Some x → slice_get (filter_map (register_at scene) (placed scene)) p.counts.registers ≡ Some x

registers_there : (scene : Scene) → Every (RegisterThere scene) (placed scene)
unfolding placed counted
registers_there scene =
    indexed is_register_form (λ c. c.registers) (register_at scene) (λ c f n. refl) (λ p. register_tells (declarations scene) p p.form) (filter_map (register_at scene) (placed scene)) [] 0 outside nothing scene.lines refl refl

pub items_placed : (scene : Scene) → Every (HasItems scene) (placed scene)
items_placed scene =
    every_map (λ p. ObjectThere scene p × RegisterThere scene p) (HasItems scene) (λ p h. record { object = h.0; register = h.1 }) (placed scene) (every_both (ObjectThere scene) (RegisterThere scene) (placed scene) (objects_there scene) (registers_there scene))

register_place : (scene : Scene) (order : ℕ) → slice_get (plan_of scene).registers order ≡ slice_get (filter_map (register_at scene) (placed scene)) order
unfolding plan_of plan_with
register_place scene order = refl

-- ---- the object of a device's line

-- the object of a device's line, with what the line says of it
pub record IsDeviceObject (o : Option Declared) (form : SceneLine) : Type 0 where
  pub info : DeviceInfo
  pub there : o ≡ Some (declared.Device info)
  pub working : is_working_block form ≡ info.working

device_step : (scene : Scene) (names : List Declaration) (p : Placed) (b : ℕ) (form : SceneLine) (o : Option Declared) → is_device form ≡ true → ((x : Declared) → object_of scene names p b form ≡ Some x → o ≡ Some x) → IsDeviceObject o form
unfolding object_of is_device device_info is_working_block
device_step scene names p b (line.Device n working) o is h =
    record { info = device_info scene names b n working; there = h _ refl; working = refl }
device_step scene names p b _ o is h = absurd (let z : ⊥ = cc in z)

-- the object of the device that line k begins
pub device_object : (scene : Scene) (k order : ℕ) (d : IsDeviceAt (placed scene) k order) → IsDeviceObject (declared_of (plan_of scene) (order + 2)) d.line.form
device_object scene k order d =
    let items = every_at (HasItems scene) (placed scene) (items_placed scene) k d.line d.there in
    rw (object_place scene order, d.counted) (device_step scene (declarations scene) d.line d.line.at d.line.form (slice_get (objects_of scene) d.line.counts.objects) d.is items.object)

-- ---- what a device's names stand for

-- what is declared in the device of line k belongs to the object of this order
record IsOwned (scene : Scene) (k order : ℕ) (d : Declaration) : Type 0 where
  register : is_register d.thing ≡ true → d.device ≡ Some k → device_of_register (plan_of scene) d.order ≡ Some (order + 2)
  interrupt : is_interrupt d.thing ≡ true → d.device ≡ Some k → device_of_interrupt (declared_of (plan_of scene) (d.order + 2)) ≡ Some (order + 2)

unowned : (scene : Scene) (k order : ℕ) (d : Declaration) → is_register d.thing ≡ false → is_interrupt d.thing ≡ false → IsOwned scene k order d
unowned scene k order d r i =
    record {
      register = λ t s. absurd (let z : ⊥ = cc in z);
      interrupt = λ t s. absurd (let z : ⊥ = cc in z);
    }

owned_line : (scene : Scene) (k order : ℕ) (p : Placed) (form : SceneLine) → (p.stand.device ≡ Some k → p.counts.device ≡ order) → ((x : Declared) → object_of scene (declarations scene) p p.at form ≡ Some x → slice_get (objects_of scene) p.counts.objects ≡ Some x) → ((x : RegisterInfo) → register_on (declarations scene) p form ≡ Some x → slice_get (filter_map (register_at scene) (placed scene)) p.counts.registers ≡ Some x) → (d : Declaration) → declared_by p form ≡ Some d → IsOwned scene k order d
unfolding object_of declared_by register_on interrupt_info
owned_line scene k order p (line.Register n v) same o r d e =
    some_has (IsOwned scene k order) _ d e (record {
      register = λ t s. rw (register_place scene p.counts.registers, r _ refl, same s) refl;
      interrupt = λ t s. absurd (let z : ⊥ = cc in z);
    })
owned_line scene k order p (line.Interrupt n l) same o r d e =
    some_has (IsOwned scene k order) _ d e (record {
      register = λ t s. absurd (let z : ⊥ = cc in z);
      interrupt = λ t s. rw (object_place scene p.counts.objects, o _ refl, same s) refl;
    })
owned_line scene k order p (line.Class n c) same o r d e =
    some_has (IsOwned scene k order) _ d e (unowned scene k order _ refl refl)
owned_line scene k order p (line.DeferredClass n c parent) same o r d e =
    some_has (IsOwned scene k order) _ d e (unowned scene k order _ refl refl)
owned_line scene k order p (line.Device n working) same o r d e =
    some_has (IsOwned scene k order) _ d e (unowned scene k order _ refl refl)
owned_line scene k order p (line.Queue n dispatch) same o r d e =
    some_has (IsOwned scene k order) _ d e (unowned scene k order _ refl refl)
owned_line scene k order p (line.Target n delay status depth) same o r d e =
    some_has (IsOwned scene k order) _ d e (unowned scene k order _ refl refl)
owned_line scene k order p (line.App n) same o r d e =
    some_has (IsOwned scene k order) _ d e (unowned scene k order _ refl refl)
owned_line scene k order p _ same o r d e = absurd (let z : ⊥ = cc in z)

all_owned : (scene : Scene) (k order : ℕ) → IsDeviceAt (placed scene) k order → Every (IsOwned scene k order) (declarations scene)
unfolding declarations
all_owned scene k order own =
    every_kept declared_on (λ p. HasItems scene p × HasDevice (placed scene) p.stand p.counts) (IsOwned scene k order) (λ p d h e. owned_line scene k order p p.form (λ s. same_order (placed scene) k p.counts.device order (h.1 k s).0 own) h.0.object h.0.register d e) (placed scene) (every_both (HasItems scene) (λ p. HasDevice (placed scene) p.stand p.counts) (placed scene) (items_placed scene) (devices_known scene))

found_owned : (scene : Scene) (k order : ℕ) → IsDeviceAt (placed scene) k order → (n : List ℕ) (w : Wanted) → (s : Stands (declarations scene) n w) → IsOwned scene k order s.declaration
unfolding found
found_owned scene k order own n w s =
    (found_has (IsOwned scene k order) (is_wanted n w) (declarations scene) (all_owned scene k order own) s.declaration s.is).0

-- what is the same number by the test is it
pub of_device : (o : Option ℕ) (k : ℕ) → same_option ◌==◌ o (Some k) ≡ true → o ≡ Some k
of_device None k e = absurd (let z : ⊥ = cc in z)
of_device (Some j) k e = ap Some (eqb-true j k e)

-- a name of a register in the device of line k
pub register_own : (scene : Scene) (k order : ℕ) (n : List ℕ) → IsDeviceAt (placed scene) k order → stands (declarations scene) n (wanted.RegisterOf (Some k)) ≡ true → device_of_register (plan_of scene) (number_of (declarations scene) n (wanted.RegisterOf (Some k))) ≡ Some (order + 2)
register_own scene k order n own h =
    let s = stands_for (declarations scene) n (wanted.RegisterOf (Some k)) h in
    let fits = and_parts (is_register s.declaration.thing) (same_option ◌==◌ s.declaration.device (Some k)) s.fits in
    rw (number_there (declarations scene) n (wanted.RegisterOf (Some k)) s) ((found_owned scene k order own n (wanted.RegisterOf (Some k)) s).register fits.0 (of_device s.declaration.device k fits.1))

interrupt_kind : (t : Thing) → is_interrupt t ≡ true → thing_kind t ≡ Some kind.Interrupt
interrupt_kind thing.Interrupt h = refl
interrupt_kind _ h = absurd (let z : ⊥ = cc in z)

-- a name of an interrupt in the device of line k
record IsOwnInterrupt (scene : Scene) (order : ℕ) (h : Handle) : Type 0 where
  handle : is_handle (plan_of scene) kind.Interrupt h ≡ true
  device : device_of_interrupt (declared_of (plan_of scene) h.id.0) ≡ Some (order + 2)

interrupt_own : (scene : Scene) (k order : ℕ) (n : List ℕ) → IsDeviceAt (placed scene) k order → stands (declarations scene) n (wanted.InterruptOf (Some k)) ≡ true → IsOwnInterrupt scene order (handle_of (declarations scene) n (wanted.InterruptOf (Some k)))
unfolding handle_of
interrupt_own scene k order n own h =
    let s = stands_for (declarations scene) n (wanted.InterruptOf (Some k)) h in
    let fits = and_parts (is_interrupt s.declaration.thing) (same_option ◌==◌ s.declaration.device (Some k)) s.fits in
    record {
      handle = handle_fits scene n (wanted.InterruptOf (Some k)) s kind.Interrupt (interrupt_kind s.declaration.thing fits.0);
      device = rw (number_there (declarations scene) n (wanted.InterruptOf (Some k)) s) ((found_owned scene k order own n (wanted.InterruptOf (Some k)) s).interrupt fits.0 (of_device s.declaration.device k fits.1));
    }

-- ---- what a device does

own_interrupt_fits : (scene : Scene) (order : ℕ) (h : Handle) → IsOwnInterrupt scene order h → (is_handle (plan_of scene) kind.Interrupt h && same_option ◌==◌ (device_of_interrupt (declared_of (plan_of scene) h.id.0)) (Some (order + 2))) ≡ true
own_interrupt_fits scene order h i =
    and_from _ _ i.handle (rw i.device (eq-eqb (order + 2) (order + 2) refl))

-- a line in the device of line k acts on what is that device's
pub action_own : (scene : Scene) (k order : ℕ) (a : SceneAction) → IsDeviceAt (placed scene) k order → unknown_action (declarations scene) (Some k) a ≡ false → action_fits (plan_of scene) (Some (order + 2)) (action_of (declarations scene) (Some k) a) ≡ true
unfolding unknown_action action_of
action_own scene k order (action.Set r v) own known =
    rw (register_own scene k order r own (not-false (stands (declarations scene) r (wanted.RegisterOf (Some k))) known)) (eq-eqb (order + 2) (order + 2) refl)
action_own scene k order (action.Raise i) own known =
    own_interrupt_fits scene order _ (interrupt_own scene k order i own (not-false (stands (declarations scene) i (wanted.InterruptOf (Some k))) known))
action_own scene k order (action.Lower i) own known =
    own_interrupt_fits scene order _ (interrupt_own scene k order i own (not-false (stands (declarations scene) i (wanted.InterruptOf (Some k))) known))
