-- A name that stands for something is the name of what it stands for.
use Rattle.std.proofs.Common.{◌≡◌, ℕ, zero, suc, ◌+◌, Bool, true, false, List, [], ◌∷◌, map, Option, Some, None, option_map, slice_get, refl, ap, sym, ◌∙◌, arith}
use Rattle.std.proofs.lemmas.Bool.{and_parts}
use Rattle.std.specs.Prelude.{option_and_then, codes, ◌==◌}
use Rattle.std.specs.List.{filter_map}
use Rattle.std.specs.Option.{unwrap_or}
use Rattle.wdf_base.specs.declared.declared.ClassInfo.{ClassInfo}
use Rattle.wdf_base.specs.declared.declared.RegisterInfo.{RegisterInfo}
use Rattle.wdf_base.specs.declared.ids.Handle.{Handle}
use Rattle.wdf_base.specs.declared.object.Kind.{Kind}
use Rattle.wdf_base.specs.declared.object.Kind.TheVariants as kind
use Rattle.wdf_base.specs.declared.plan.Plan.{Plan}
use Rattle.wdf_base.specs.Kinds.{declared_name as object_name, class_name}
use Rattle.wdf_base.specs.Plan.{declared_of}
use Rattle.wdf_base.specs.Resolved.{is_handle, is_kind, register_name}
use Rattle.wdf_base.specs.Same.{same_option}
use Rattle.wdf_scene.specs.declared.line.SceneLine.{SceneLine}
use Rattle.wdf_scene.specs.declared.line.SceneLine.TheVariants as line
use Rattle.wdf_scene.specs.declared.scene.Scene.{Scene}
use Rattle.wdf_blocks.specs.declared.declaration.Declaration.{Declaration}
use Rattle.wdf_blocks.specs.declared.declaration.Thing.{Thing}
use Rattle.wdf_blocks.specs.declared.declaration.Thing.TheVariants as thing
use Rattle.wdf_blocks.specs.declared.declaration.Wanted.{Wanted}
use Rattle.wdf_blocks.specs.declared.declaration.Wanted.TheVariants as wanted
use Rattle.wdf_blocks.specs.declared.placed.Placed.{Placed}
use Rattle.wdf_blocks.specs.Declarations.{declarations, declared_by, declared_on, suits, is_wanted, found, stands, is_object, is_register, is_class_of, is_interrupt}
use Rattle.wdf_refusals.specs.First.{first_refusal}
use Rattle.wdf_refusals.specs.Numbers.{id_of, name_number, number_of, handle_of}
use Rattle.wdf_plan.specs.Parts.{class_on, register_on}
use Rattle.wdf_blocks.specs.Placed.{placed}
use Rattle.wdf_plan.specs.Plans.{name_in, plan_with, plan_of}
use Rattle.wdf_plan.proofs.Accepted.{each_accepted}
use Rattle.wdf_plan.proofs.DeviceItems.{HasItems, items_placed, of_device, register_at}
use Rattle.wdf_plan.proofs.Distinct.{all_distinct}
use Rattle.wdf_refusals.proofs.Every.{Every, every_map, every_kept, some_has, HasPlace, have_places}
use Rattle.wdf_plan.proofs.Gathered.{every_from}
use Rattle.wdf_plan.proofs.Handles.{thing_kind, Stands, stands_for, number_there, handle_fits}
use Rattle.wdf_plan.proofs.Numbering.{numbers}
use Rattle.wdf_plan.proofs.Places.{found_has}
use Rattle.wdf_plan.proofs.Uses.{ClassThere, classes_of, classes_there}
use Rattle.law_plan.specs.WrittenOut.{name_text, object_text, register_text, class_text}

-- ---- declared names

map_there : {X Y : Type 0} (f : X → Y) (xs : List X) (k : ℕ) (x : X) → slice_get xs k ≡ Some x → slice_get (map f xs) k ≡ Some (f x)
map_there f [] k x e = absurd (let z : ⊥ = cc in z)
map_there f (y ∷ ys) zero x e = let same : y ≡ x = cc in ap (λ z. Some (f z)) same
map_there f (y ∷ ys) (suc k) x e = map_there f ys k x e

-- the number of its name stands for its name
abbrev pub IsTold : Scene → Declaration → Type 0
IsTold scene d = name_text (plan_of scene) (name_number (declarations scene) d.name) ≡ d.name

told_at : (ds : List Declaration) (d : Declaration) (n k : ℕ) → n ≡ 0 + k + 2 → slice_get ds k ≡ Some d → unwrap_or (slice_get (codes "driver" ∷ codes "req" ∷ map name_in ds) n) [] ≡ d.name
told_at ds d n k e is =
    let more : n ≡ suc (suc k) = omega arith in
    rw (more, map_there name_in ds k d is) refl

-- each declared name
pub all_told : (scene : Scene) → first_refusal scene ≡ None → Every (IsTold scene) (declarations scene)
unfolding plan_of plan_with
all_told scene e =
    let ds = declarations scene in
    every_map (HasPlace (λ i d. name_number ds d.name ≡ i + 2) 0 ds) (IsTold scene) (λ d h. told_at ds d (name_number ds d.name) h.place h.has h.is) ds (have_places (λ i d. name_number ds d.name ≡ i + 2) 0 ds (numbers ds (all_distinct scene (each_accepted scene e))))

-- the name that a line declares
abbrev pub LineTold : Scene → Placed → SceneLine → Type 0
LineTold scene p form = (d : Declaration) → declared_by p form ≡ Some d → IsTold scene d

pub lines_told : (scene : Scene) → first_refusal scene ≡ None → Every (λ p. LineTold scene p p.form) (placed scene)
unfolding declarations
lines_told scene e = every_from declared_on (IsTold scene) (placed scene) (all_told scene e)

-- what each declaration has, one has for which a name stands
stood : (scene : Scene) (P : Declaration → Type 0) (n : List ℕ) (w : Wanted) (s : Stands (declarations scene) n w) → Every P (declarations scene) → P s.declaration
unfolding found
stood scene P n w s h = (found_has P (is_wanted n w) (declarations scene) h s.declaration s.is).0

-- a name that stands for something
pub name_told : (scene : Scene) → first_refusal scene ≡ None → (n : List ℕ) (w : Wanted) → stands (declarations scene) n w ≡ true → name_text (plan_of scene) (name_number (declarations scene) n) ≡ n
name_told scene e n w h =
    let s = stands_for (declarations scene) n w h in
    let own : IsTold scene s.declaration = stood scene (IsTold scene) n w s (all_told scene e) in
    ap (λ m. name_text (plan_of scene) (name_number (declarations scene) m)) (sym s.named) ∙ (own ∙ s.named)

-- ---- objects

-- the kind of an object
record HasKind (t : Thing) : Type 0 where
  kind : Kind
  is : thing_kind t ≡ Some kind

object_kind : (t : Thing) → is_object t ≡ true → HasKind t
object_kind thing.Device h = record { kind = kind.Device; is = refl }
object_kind thing.Queue h = record { kind = kind.Queue; is = refl }
object_kind thing.Interrupt h = record { kind = kind.Interrupt; is = refl }
object_kind thing.Target h = record { kind = kind.Target; is = refl }
object_kind _ h = absurd (let z : ⊥ = cc in z)

handle_told : (plan : Plan) (k : Kind) (h : Handle) → is_handle plan k h ≡ true → object_text plan h.id ≡ name_text plan h.name
handle_told plan k h e =
    let both = and_parts (is_kind plan k h.id.0) (same_option ◌==◌ (option_and_then object_name (declared_of plan h.id.0)) (Some h.name)) e in
    rw (of_device (option_and_then object_name (declared_of plan h.id.0)) h.name both.1) refl

-- a place needs an object
abbrev pub NeedsObject : Wanted → Type 0
NeedsObject w = (d : Declaration) → suits w d ≡ true → is_object d.thing ≡ true

-- a name that stands for an object
pub object_told : (scene : Scene) → first_refusal scene ≡ None → (n : List ℕ) (w : Wanted) → NeedsObject w → stands (declarations scene) n w ≡ true → object_text (plan_of scene) (id_of (number_of (declarations scene) n w)) ≡ n
unfolding handle_of
object_told scene e n w needs h =
    let s = stands_for (declarations scene) n w h in
    let k = object_kind s.declaration.thing (needs s.declaration s.fits) in
    let fits : is_handle (plan_of scene) k.kind (handle_of (declarations scene) n w) ≡ true = handle_fits scene n w s k.kind k.is in
    handle_told (plan_of scene) k.kind (handle_of (declarations scene) n w) fits ∙ name_told scene e n w h

pub needs_device : NeedsObject wanted.Device
needs_device d h = by_thing d.thing h
  where
    by_thing : (t : Thing) → suits wanted.Device (record d { thing = t }) ≡ true → is_object t ≡ true
    by_thing thing.Device h = refl
    by_thing _ h = absurd (let z : ⊥ = cc in z)

pub needs_parent : NeedsObject wanted.Parent
needs_parent d h = by_thing d.thing h
  where
    by_thing : (t : Thing) → suits wanted.Parent (record d { thing = t }) ≡ true → is_object t ≡ true
    by_thing thing.Device h = refl
    by_thing thing.Queue h = refl
    by_thing _ h = absurd (let z : ⊥ = cc in z)

pub needs_object : NeedsObject wanted.Object
needs_object d h = h

interrupt_object : (t : Thing) → is_interrupt t ≡ true → is_object t ≡ true
interrupt_object thing.Interrupt h = refl
interrupt_object _ h = absurd (let z : ⊥ = cc in z)

pub needs_interrupt : (v : Option ℕ) → NeedsObject (wanted.InterruptOf v)
needs_interrupt v d h =
    interrupt_object d.thing (and_parts (is_interrupt d.thing) (same_option ◌==◌ d.device v) h).0

-- ---- registers

-- the register of a declaration has the number of its name
abbrev RegisterNamed : Scene → Declaration → Type 0
RegisterNamed scene d = is_register d.thing ≡ true → option_map register_name (slice_get (plan_of scene).registers d.order) ≡ Some (name_number (declarations scene) d.name)

register_step : (scene : Scene) (p : Placed) (form : SceneLine) → ((x : RegisterInfo) → register_on (declarations scene) p form ≡ Some x → slice_get (plan_of scene).registers p.counts.registers ≡ Some x) → (d : Declaration) → declared_by p form ≡ Some d → RegisterNamed scene d
unfolding register_on declared_by
register_step scene p (line.Register n v) h d e =
    some_has (RegisterNamed scene) _ d e (λ is. rw (h _ refl) refl)
register_step scene p (line.Class n c) h d e = some_has (RegisterNamed scene) _ d e (λ is. absurd (let z : ⊥ = cc in z))
register_step scene p (line.DeferredClass n c parent) h d e = some_has (RegisterNamed scene) _ d e (λ is. absurd (let z : ⊥ = cc in z))
register_step scene p (line.Device n working) h d e = some_has (RegisterNamed scene) _ d e (λ is. absurd (let z : ⊥ = cc in z))
register_step scene p (line.Queue n dispatch) h d e = some_has (RegisterNamed scene) _ d e (λ is. absurd (let z : ⊥ = cc in z))
register_step scene p (line.Interrupt n l) h d e = some_has (RegisterNamed scene) _ d e (λ is. absurd (let z : ⊥ = cc in z))
register_step scene p (line.Target n delay status depth) h d e = some_has (RegisterNamed scene) _ d e (λ is. absurd (let z : ⊥ = cc in z))
register_step scene p (line.App n) h d e = some_has (RegisterNamed scene) _ d e (λ is. absurd (let z : ⊥ = cc in z))
register_step scene p _ h d e = absurd (let z : ⊥ = cc in z)

registers_are : (scene : Scene) → (plan_of scene).registers ≡ filter_map (register_at scene) (placed scene)
unfolding plan_of plan_with
registers_are scene = refl

registers_named : (scene : Scene) → Every (RegisterNamed scene) (declarations scene)
unfolding declarations
registers_named scene =
    every_kept declared_on (HasItems scene) (RegisterNamed scene) (λ p d h e. register_step scene p p.form (λ x is. rw (registers_are scene) (h.register x is)) d e) (placed scene) (items_placed scene)

-- a name that stands for a register
pub register_told : (scene : Scene) → first_refusal scene ≡ None → (n : List ℕ) (w : Wanted) → ((d : Declaration) → suits w d ≡ true → is_register d.thing ≡ true) → stands (declarations scene) n w ≡ true → register_text (plan_of scene) (number_of (declarations scene) n w) ≡ n
register_told scene e n w needs h =
    let s = stands_for (declarations scene) n w h in
    let own : RegisterNamed scene s.declaration = stood scene (RegisterNamed scene) n w s (registers_named scene) in
    let told : IsTold scene s.declaration = stood scene (IsTold scene) n w s (all_told scene e) in
    rw (number_there (declarations scene) n w s, own (needs s.declaration s.fits)) (told ∙ s.named)

pub needs_register : (d : Declaration) → suits wanted.Register d ≡ true → is_register d.thing ≡ true
needs_register d h = h

pub needs_register_of : (v : Option ℕ) (d : Declaration) → suits (wanted.RegisterOf v) d ≡ true → is_register d.thing ≡ true
needs_register_of v d h = (and_parts (is_register d.thing) (same_option ◌==◌ d.device v) h).0

-- ---- classes

abbrev is_class_thing : Thing → Bool
is_class_thing (thing.Class k) = true
is_class_thing _ = false

-- the class of a declaration has the number of its name
abbrev ClassNamed : Scene → Declaration → Type 0
ClassNamed scene d = is_class_thing d.thing ≡ true → option_map class_name (slice_get (plan_of scene).classes d.order) ≡ Some (name_number (declarations scene) d.name)

class_step : (scene : Scene) (p : Placed) (form : SceneLine) → ((x : ClassInfo) → class_on scene (declarations scene) p form ≡ Some x → slice_get (plan_of scene).classes p.counts.classes ≡ Some x) → (d : Declaration) → declared_by p form ≡ Some d → ClassNamed scene d
unfolding class_on declared_by
class_step scene p (line.Class n c) h d e =
    some_has (ClassNamed scene) _ d e (λ is. rw (h _ refl) refl)
class_step scene p (line.DeferredClass n c parent) h d e =
    some_has (ClassNamed scene) _ d e (λ is. rw (h _ refl) refl)
class_step scene p (line.Register n v) h d e = some_has (ClassNamed scene) _ d e (λ is. absurd (let z : ⊥ = cc in z))
class_step scene p (line.Device n working) h d e = some_has (ClassNamed scene) _ d e (λ is. absurd (let z : ⊥ = cc in z))
class_step scene p (line.Queue n dispatch) h d e = some_has (ClassNamed scene) _ d e (λ is. absurd (let z : ⊥ = cc in z))
class_step scene p (line.Interrupt n l) h d e = some_has (ClassNamed scene) _ d e (λ is. absurd (let z : ⊥ = cc in z))
class_step scene p (line.Target n delay status depth) h d e = some_has (ClassNamed scene) _ d e (λ is. absurd (let z : ⊥ = cc in z))
class_step scene p (line.App n) h d e = some_has (ClassNamed scene) _ d e (λ is. absurd (let z : ⊥ = cc in z))
class_step scene p _ h d e = absurd (let z : ⊥ = cc in z)

pub classes_are : (scene : Scene) → (plan_of scene).classes ≡ classes_of scene
unfolding plan_of plan_with
classes_are scene = refl

classes_named : (scene : Scene) → Every (ClassNamed scene) (declarations scene)
unfolding declarations
classes_named scene =
    every_kept declared_on (ClassThere scene) (ClassNamed scene) (λ p d h e. class_step scene p p.form (λ x is. rw (classes_are scene) (h x is)) d e) (placed scene) (classes_there scene)

class_suits : (k : Kind) (t : Thing) → is_class_of k t ≡ true → is_class_thing t ≡ true
class_suits k (thing.Class c) h = refl
class_suits k _ h = absurd (let z : ⊥ = cc in z)

-- a name that stands for a class
pub class_told : (scene : Scene) → first_refusal scene ≡ None → (n : List ℕ) (k : Kind) → stands (declarations scene) n (wanted.ClassOf k) ≡ true → class_text (plan_of scene) (number_of (declarations scene) n (wanted.ClassOf k)) ≡ n
class_told scene e n k h =
    let w = wanted.ClassOf k in
    let s = stands_for (declarations scene) n w h in
    let own : ClassNamed scene s.declaration = stood scene (ClassNamed scene) n w s (classes_named scene) in
    let told : IsTold scene s.declaration = stood scene (IsTold scene) n w s (all_told scene e) in
    rw (number_there (declarations scene) n w s, own (class_suits k s.declaration.thing s.fits)) (told ∙ s.named)
