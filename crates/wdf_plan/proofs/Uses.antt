-- A class or a register that a statement names is the plan's.
use Rattle.std.proofs.Common.{◌≡◌, ℕ, ◌<◌, true, List, [], length, Option, Some, None, option_map, slice_get, refl, subst}
use Rattle.std.proofs.lemmas.Bool.{lt-ltb}
use Rattle.std.proofs.lemmas.Option.{slice_get_within}
use Rattle.std.specs.Option.{is_some}
use Rattle.std.specs.List.{filter_map}
use Rattle.wdf_base.specs.declared.declared.ClassInfo.{ClassInfo}
use Rattle.wdf_base.specs.declared.declared.RegisterInfo.{RegisterInfo}
use Rattle.wdf_base.specs.declared.object.Kind.{Kind}
use Rattle.wdf_base.specs.Kinds.{class_kind}
use Rattle.wdf_base.specs.Resolved.{is_register as is_register_number}
use Rattle.wdf_base.specs.Same.{same_option, same_kind}
use Rattle.wdf_scene.specs.declared.line.SceneLine.{SceneLine}
use Rattle.wdf_scene.specs.declared.line.SceneLine.TheVariants as line
use Rattle.wdf_scene.specs.declared.scene.Scene.{Scene}
use Rattle.wdf_blocks.specs.declared.declaration.Declaration.{Declaration}
use Rattle.wdf_blocks.specs.declared.declaration.Thing.{Thing}
use Rattle.wdf_blocks.specs.declared.declaration.Thing.TheVariants as thing
use Rattle.wdf_blocks.specs.declared.declaration.Wanted.{Wanted}
use Rattle.wdf_blocks.specs.declared.declaration.Wanted.TheVariants as wanted
use Rattle.wdf_blocks.specs.declared.placed.Placed.{Placed}
use Rattle.wdf_blocks.specs.Declarations.{declarations, declared_by, declared_on, is_wanted, is_register, is_class_of, found, stands}
use Rattle.wdf_blocks.specs.Forms.{is_class}
use Rattle.wdf_refusals.specs.Numbers.{number_of}
use Rattle.wdf_plan.specs.Parts.{class_on, register_on}
use Rattle.wdf_blocks.specs.Placed.{outside, nothing, counted, placed}
use Rattle.wdf_plan.specs.Plans.{plan_with, plan_of}
use Rattle.wdf_plan.proofs.DeviceItems.{register_at, HasItems, items_placed}
use Rattle.wdf_refusals.proofs.Every.{Every, every_kept}
use Rattle.wdf_plan.proofs.Handles.{Stands, stands_for}
use Rattle.wdf_plan.proofs.Places.{indexed, found_has}

-- ---- the classes and the registers of lines

abbrev pub class_at : Scene → Placed → Option ClassInfo
class_at scene p = class_on scene (declarations scene) p p.form

abbrev pub classes_of : Scene → List ClassInfo
classes_of scene = filter_map (class_at scene) (placed scene)

abbrev registers_of : Scene → List RegisterInfo
registers_of scene = filter_map (register_at scene) (placed scene)

-- the class of a line is at its place
abbrev pub ClassThere : Scene → Placed → Type 0
ClassThere scene p = (x : ClassInfo) → class_at scene p ≡ Some x → slice_get (classes_of scene) p.counts.classes ≡ Some x

class_is : (scene : Scene) (p : Placed) (form : SceneLine) → is_some (class_on scene (declarations scene) p form) ≡ is_class form
unfolding class_on is_class
class_is scene p (line.Class n k) = refl
class_is scene p (line.DeferredClass n k parent) = refl
class_is scene p _ = refl

pub classes_there : (scene : Scene) → Every (ClassThere scene) (placed scene)
unfolding placed counted
classes_there scene =
    indexed is_class (λ c. c.classes) (class_at scene) (λ c f n. refl) (λ p. class_is scene p p.form) (classes_of scene) [] 0 outside nothing scene.lines refl refl

-- ---- what is declared as a class or a register

-- the kind of the objects of what is declared, if it is a class
abbrev class_in : Thing → Option Kind
class_in (thing.Class k) = Some k
class_in _ = None

-- a declared class is there, with its kind
abbrev HasClass : Scene → Declaration → Type 0
HasClass scene d = (k : Kind) → class_in d.thing ≡ Some k → option_map class_kind (slice_get (classes_of scene) d.order) ≡ Some k

-- a declared register is there
abbrev HasRegister : Scene → Declaration → Type 0
HasRegister scene d = is_register d.thing ≡ true → d.order < length (registers_of scene)

same_declaration : (P : Declaration → Type 0) (a b : Declaration) → Some a ≡ Some b → P a → P b
same_declaration P a b e h = let same : a ≡ b = cc in subst P same h

class_step : (classes : List ClassInfo) (n : ℕ) (x : ClassInfo) (c k : Kind) → slice_get classes n ≡ Some x → class_kind x ≡ c → Some c ≡ Some k → option_map class_kind (slice_get classes n) ≡ Some k
class_step classes n x c k there is e = rw (there, is) e

line_class : (scene : Scene) (p : Placed) (form : SceneLine) → ((x : ClassInfo) → class_on scene (declarations scene) p form ≡ Some x → slice_get (classes_of scene) p.counts.classes ≡ Some x) → (d : Declaration) → declared_by p form ≡ Some d → HasClass scene d
unfolding class_on declared_by
line_class scene p (line.Class n c) h d e =
    same_declaration (HasClass scene) _ d e (λ k is. class_step (classes_of scene) p.counts.classes _ _ k (h _ refl) refl is)
line_class scene p (line.DeferredClass n c parent) h d e =
    same_declaration (HasClass scene) _ d e (λ k is. class_step (classes_of scene) p.counts.classes _ _ k (h _ refl) refl is)
line_class scene p (line.Device n working) h d e =
    same_declaration (HasClass scene) _ d e (λ k is. absurd (let z : ⊥ = cc in z))
line_class scene p (line.Queue n dispatch) h d e =
    same_declaration (HasClass scene) _ d e (λ k is. absurd (let z : ⊥ = cc in z))
line_class scene p (line.Interrupt n l) h d e =
    same_declaration (HasClass scene) _ d e (λ k is. absurd (let z : ⊥ = cc in z))
line_class scene p (line.Target n delay status depth) h d e =
    same_declaration (HasClass scene) _ d e (λ k is. absurd (let z : ⊥ = cc in z))
line_class scene p (line.Register n v) h d e =
    same_declaration (HasClass scene) _ d e (λ k is. absurd (let z : ⊥ = cc in z))
line_class scene p (line.App n) h d e =
    same_declaration (HasClass scene) _ d e (λ k is. absurd (let z : ⊥ = cc in z))
line_class scene p _ h d e = absurd (let z : ⊥ = cc in z)

line_register : (scene : Scene) (p : Placed) (form : SceneLine) → ((x : RegisterInfo) → register_on (declarations scene) p form ≡ Some x → slice_get (registers_of scene) p.counts.registers ≡ Some x) → (d : Declaration) → declared_by p form ≡ Some d → HasRegister scene d
unfolding register_on declared_by
line_register scene p (line.Register n v) h d e =
    same_declaration (HasRegister scene) _ d e (λ is. slice_get_within (registers_of scene) p.counts.registers _ (h _ refl))
line_register scene p (line.Class n c) h d e =
    same_declaration (HasRegister scene) _ d e (λ is. absurd (let z : ⊥ = cc in z))
line_register scene p (line.DeferredClass n c parent) h d e =
    same_declaration (HasRegister scene) _ d e (λ is. absurd (let z : ⊥ = cc in z))
line_register scene p (line.Device n working) h d e =
    same_declaration (HasRegister scene) _ d e (λ is. absurd (let z : ⊥ = cc in z))
line_register scene p (line.Queue n dispatch) h d e =
    same_declaration (HasRegister scene) _ d e (λ is. absurd (let z : ⊥ = cc in z))
line_register scene p (line.Interrupt n l) h d e =
    same_declaration (HasRegister scene) _ d e (λ is. absurd (let z : ⊥ = cc in z))
line_register scene p (line.Target n delay status depth) h d e =
    same_declaration (HasRegister scene) _ d e (λ is. absurd (let z : ⊥ = cc in z))
line_register scene p (line.App n) h d e =
    same_declaration (HasRegister scene) _ d e (λ is. absurd (let z : ⊥ = cc in z))
line_register scene p _ h d e = absurd (let z : ⊥ = cc in z)

all_classes : (scene : Scene) → Every (HasClass scene) (declarations scene)
unfolding declarations
all_classes scene =
    every_kept declared_on (ClassThere scene) (HasClass scene) (λ p d h e. line_class scene p p.form h d e) (placed scene) (classes_there scene)

all_registers : (scene : Scene) → Every (HasRegister scene) (declarations scene)
unfolding declarations
all_registers scene =
    every_kept declared_on (HasItems scene) (HasRegister scene) (λ p d h e. line_register scene p p.form h.register d e) (placed scene) (items_placed scene)

-- ---- a name that stands for a class or a register

declared_as : (scene : Scene) (P : Declaration → Type 0) (n : List ℕ) (w : Wanted) (s : Stands (declarations scene) n w) → Every P (declarations scene) → P s.declaration
unfolding found
declared_as scene P n w s h = (found_has P (is_wanted n w) (declarations scene) h s.declaration s.is).0

number_there : (names : List Declaration) (n : List ℕ) (w : Wanted) (s : Stands names n w) → number_of names n w ≡ s.declaration.order
unfolding number_of
number_there names n w s = rw s.is refl

pub register_fits : (scene : Scene) (n : List ℕ) → stands (declarations scene) n wanted.Register ≡ true → is_register_number (plan_of scene) (number_of (declarations scene) n wanted.Register) ≡ true
unfolding plan_of plan_with
register_fits scene n h =
    let s = stands_for (declarations scene) n wanted.Register h in
    rw (number_there (declarations scene) n wanted.Register s) (lt-ltb s.declaration.order (length (registers_of scene)) (declared_as scene (HasRegister scene) n wanted.Register s (all_registers scene) s.fits))

class_step_of : (classes : List ClassInfo) (order : ℕ) (k : Kind) (t : Thing) → is_class_of k t ≡ true → ((c : Kind) → class_in t ≡ Some c → option_map class_kind (slice_get classes order) ≡ Some c) → same_option same_kind (option_map class_kind (slice_get classes order)) (Some k) ≡ true
class_step_of classes order k (thing.Class c) is h = rw (h c refl) is
class_step_of classes order k _ is h = absurd (let z : ⊥ = cc in z)

pub class_fits : (scene : Scene) (n : List ℕ) (k : Kind) → stands (declarations scene) n (wanted.ClassOf k) ≡ true → same_option same_kind (option_map class_kind (slice_get (plan_of scene).classes (number_of (declarations scene) n (wanted.ClassOf k)))) (Some k) ≡ true
unfolding plan_of plan_with
class_fits scene n k h =
    let s = stands_for (declarations scene) n (wanted.ClassOf k) h in
    rw (number_there (declarations scene) n (wanted.ClassOf k) s) (class_step_of (classes_of scene) s.declaration.order k s.declaration.thing s.fits (declared_as scene (HasClass scene) n (wanted.ClassOf k) s (all_classes scene)))
