-- A name that stands for an object stands for one of the plan's, which has this name.
use Rattle.std.proofs.Common.{◌≡◌, ℕ, true, List, [], ◌∷◌, Option, Some, None, find, slice_get, refl, ap}
use denote.Enum.Bare.{true_same}
use Rattle.std.proofs.lemmas.Slice.Eq.{bytes_eq-Decides}
use Rattle.std.proofs.lemmas.Bool.{and_parts, eq-eqb}
use Rattle.std.specs.Option.{is_some}
use Rattle.wdf_base.specs.declared.declared.Declared.{Declared}
use Rattle.wdf_base.specs.declared.object.Kind.{Kind}
use Rattle.wdf_base.specs.declared.object.Kind.TheVariants as kind
use Rattle.wdf_base.specs.contracts.object.Kind as kind_type
use Rattle.wdf_base.specs.Kinds.{declared_kind, declared_name}
use Rattle.wdf_base.specs.Resolved.{is_kind, is_handle}
use Rattle.wdf_scene.specs.declared.line.SceneLine.{SceneLine}
use Rattle.wdf_scene.specs.declared.line.SceneLine.TheVariants as line
use Rattle.wdf_scene.specs.declared.scene.Scene.{Scene}
use Rattle.wdf_blocks.specs.declared.declaration.Declaration.{Declaration}
use Rattle.wdf_blocks.specs.declared.declaration.Thing.{Thing}
use Rattle.wdf_blocks.specs.declared.declaration.Thing.TheVariants as thing
use Rattle.wdf_blocks.specs.declared.declaration.Wanted.{Wanted}
use Rattle.wdf_blocks.specs.declared.declaration.Wanted.TheVariants as wanted
use Rattle.wdf_blocks.specs.declared.placed.Placed.{Placed}
use Rattle.wdf_blocks.specs.Declarations.{declarations, declared_by, declared_on, is_wanted, suits, has_name, is_device, found, stands}
use Rattle.wdf_refusals.specs.Numbers.{id_of, number_of, name_number, handle_of}
use Rattle.wdf_plan.specs.Parts.{object_of, device_info, queue_info, interrupt_info, target_info}
use Rattle.wdf_blocks.specs.Placed.{placed}
use Rattle.wdf_plan.specs.Plans.{plan_of}
use Rattle.wdf_refusals.proofs.Every.{Every, some_has, every_kept}
use Rattle.wdf_plan.proofs.ObjectPlaces.{objects_of, ObjectThere, objects_there, object_place}
use Rattle.wdf_plan.proofs.Places.{found_has}

-- the kind of what is declared, if it is an object
abbrev pub thing_kind : Thing → Option Kind
thing_kind thing.Device = Some kind.Device
thing_kind thing.Queue = Some kind.Queue
thing_kind thing.Interrupt = Some kind.Interrupt
thing_kind thing.Target = Some kind.Target
thing_kind _ = None

-- the object of this declaration is at its place
record IsPlaced (scene : Scene) (d : Declaration) (k : Kind) : Type 0 where
  object : Declared
  there : slice_get (objects_of scene) d.order ≡ Some object
  has_kind : declared_kind object ≡ Some k
  named : declared_name object ≡ Some (name_number (declarations scene) d.name)

-- if it declares an object
abbrev HasObject : Scene → Declaration → Type 0
HasObject scene d = (k : Kind) → thing_kind d.thing ≡ Some k → IsPlaced scene d k

line_placed : (scene : Scene) (p : Placed) (form : SceneLine) → ((x : Declared) → object_of scene (declarations scene) p p.at form ≡ Some x → slice_get (objects_of scene) p.counts.objects ≡ Some x) → (d : Declaration) → declared_by p form ≡ Some d → HasObject scene d
unfolding object_of declared_by device_info queue_info interrupt_info target_info
line_placed scene p (line.Device n working) h d e =
    some_has (HasObject scene) _ d e (λ k is. record { object = _; there = h _ refl; has_kind = is; named = refl })
line_placed scene p (line.Queue n dispatch) h d e =
    some_has (HasObject scene) _ d e (λ k is. record { object = _; there = h _ refl; has_kind = is; named = refl })
line_placed scene p (line.Interrupt n l) h d e =
    some_has (HasObject scene) _ d e (λ k is. record { object = _; there = h _ refl; has_kind = is; named = refl })
line_placed scene p (line.Target n delay status depth) h d e =
    some_has (HasObject scene) _ d e (λ k is. record { object = _; there = h _ refl; has_kind = is; named = refl })
line_placed scene p (line.Class n c) h d e =
    some_has (HasObject scene) _ d e (λ k is. absurd (let z : ⊥ = cc in z))
line_placed scene p (line.DeferredClass n c parent) h d e =
    some_has (HasObject scene) _ d e (λ k is. absurd (let z : ⊥ = cc in z))
line_placed scene p (line.Register n v) h d e =
    some_has (HasObject scene) _ d e (λ k is. absurd (let z : ⊥ = cc in z))
line_placed scene p (line.App n) h d e =
    some_has (HasObject scene) _ d e (λ k is. absurd (let z : ⊥ = cc in z))
line_placed scene p _ h d e = absurd (let z : ⊥ = cc in z)

all_placed : (scene : Scene) → Every (HasObject scene) (declarations scene)
unfolding declarations
all_placed scene =
    every_kept declared_on (ObjectThere scene) (HasObject scene) (λ p d h e. line_placed scene p p.form h d e) (placed scene) (objects_there scene)

-- a name that stands for an object of this kind
pub record Stands (names : List Declaration) (n : List ℕ) (w : Wanted) : Type 0 where
  pub declaration : Declaration
  pub is : found names n w ≡ Some declaration
  pub named : declaration.name ≡ n
  pub fits : suits w declaration ≡ true

stands_step : (names : List Declaration) (n : List ℕ) (w : Wanted) (o : Option Declaration) → find (is_wanted n w) names ≡ o → is_some o ≡ true → Stands names n w
unfolding found
stands_step names n w None e h = absurd (let z : ⊥ = cc in z)
stands_step names n w (Some d) e h =
    let f = found_has (λ x. Unit {0}) (is_wanted n w) names (every_unit names) d e in
    let both = and_parts (has_name n d) (suits w d) f.1 in
    record { declaration = d; is = e; named = (bytes_eq-Decides d.name n).0 both.0; fits = both.1 }
  where
    every_unit : (xs : List Declaration) → Every (λ x. Unit {0}) xs
    every_unit [] = tt
    every_unit (x ∷ xs) = (tt, every_unit xs)

-- the declaration that a name stands for
pub stands_for : (names : List Declaration) (n : List ℕ) (w : Wanted) → stands names n w ≡ true → Stands names n w
unfolding stands found
stands_for names n w h = stands_step names n w (find (is_wanted n w) names) refl h

-- the object that a declaration is found as
object_there : (scene : Scene) (n : List ℕ) (w : Wanted) (s : Stands (declarations scene) n w) (k : Kind) → thing_kind s.declaration.thing ≡ Some k → IsPlaced scene s.declaration k
unfolding found
object_there scene n w s k t =
    (found_has (HasObject scene) (is_wanted n w) (declarations scene) (all_placed scene) s.declaration s.is).0 k t

-- the number that a name gives
pub number_there : (names : List Declaration) (n : List ℕ) (w : Wanted) (s : Stands names n w) → number_of names n w ≡ s.declaration.order
unfolding number_of
number_there names n w s = rw s.is refl

-- the object with the id that a name gives is of this kind
pub kind_there : (scene : Scene) (n : List ℕ) (w : Wanted) (s : Stands (declarations scene) n w) (k : Kind) → thing_kind s.declaration.thing ≡ Some k → is_kind (plan_of scene) k (id_of (number_of (declarations scene) n w)).0 ≡ true
kind_there scene n w s k t =
    let o = object_there scene n w s k t in
    rw (number_there (declarations scene) n w s, object_place scene s.declaration.order, o.there, o.has_kind) (true_same kind_type.the_type k k refl)

-- so the handle is one of this kind
pub handle_fits : (scene : Scene) (n : List ℕ) (w : Wanted) (s : Stands (declarations scene) n w) (k : Kind) → thing_kind s.declaration.thing ≡ Some k → is_handle (plan_of scene) k (handle_of (declarations scene) n w) ≡ true
unfolding handle_of
handle_fits scene n w s k t =
    let o = object_there scene n w s k t in
    let name : name_number (declarations scene) s.declaration.name ≡ name_number (declarations scene) n = ap (name_number (declarations scene)) s.named in
    rw (kind_there scene n w s k t, number_there (declarations scene) n w s, object_place scene s.declaration.order, o.there, o.named) (eq-eqb _ _ name)

device_kind : (t : Thing) → is_device t ≡ true → thing_kind t ≡ Some kind.Device
device_kind thing.Device h = refl
device_kind _ h = absurd (let z : ⊥ = cc in z)

-- the handle that the name of a device gives is a device's
pub device_fits : (scene : Scene) (n : List ℕ) → stands (declarations scene) n wanted.Device ≡ true → is_handle (plan_of scene) kind.Device (handle_of (declarations scene) n wanted.Device) ≡ true
device_fits scene n h =
    let s = stands_for (declarations scene) n wanted.Device h in
    handle_fits scene n wanted.Device s kind.Device (device_kind s.declaration.thing s.fits)
