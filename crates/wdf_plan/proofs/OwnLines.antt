-- What the plan has of a line that opens a block with callbacks says which line it is.
use Rattle.std.proofs.Common.{◌≡◌, ℕ, ◌+◌, Bool, true, false, ◌&&◌, ◌⊎◌, inl, inr, List, [], Some, None, slice_get, refl, ap, sym, ◌∙◌, arith}
use Rattle.std.proofs.lemmas.Bool.{eqb-true}
use Rattle.std.specs.Prelude.{◌==◌}
use Rattle.std.specs.Bool.{beq}
use Rattle.std.specs.List.{filter_map}
use Rattle.wdf_base.specs.declared.declared.Declared.{Declared}
use Rattle.wdf_base.specs.declared.declared.Declared.TheVariants as declared
use Rattle.wdf_base.specs.Kinds.{declared_name}
use Rattle.wdf_base.specs.Same.{same_object_id, same_irql, same_status}
use Rattle.wdf_base.specs.SamePlan.{same_declared, same_dispatch, same_serves, same_scope, same_execution_level}
use Rattle.wdf_scene.specs.declared.line.SceneLine.{SceneLine}
use Rattle.wdf_scene.specs.declared.line.SceneLine.TheVariants as line
use Rattle.wdf_scene.specs.declared.scene.Scene.{Scene}
use Rattle.wdf_blocks.specs.declared.declaration.Declaration.{Declaration}
use Rattle.wdf_blocks.specs.declared.placed.Placed.{Placed}
use Rattle.wdf_blocks.specs.Declarations.{declarations, declared_by, declared_on}
use Rattle.wdf_refusals.specs.First.{first_refusal}
use Rattle.wdf_blocks.specs.Forms.{is_class}
use Rattle.wdf_refusals.specs.Numbers.{name_number}
use Rattle.wdf_plan.specs.Parts.{object_of, device_info, queue_info, interrupt_info, target_info}
use Rattle.wdf_blocks.specs.Placed.{outside, nothing, counted, placed}
use Rattle.wdf_plan.proofs.Accepted.{each_accepted}
use Rattle.wdf_plan.proofs.Distinct.{all_distinct, declares}
use Rattle.wdf_refusals.proofs.Every.{Every, every_at, some_has, HasPlace, have_places}
use Rattle.wdf_plan.proofs.Gathered.{every_from, one_value}
use Rattle.wdf_plan.proofs.Numbering.{numbers}
use Rattle.wdf_plan.proofs.Owners.{owner_at}
use Rattle.wdf_plan.proofs.Places.{indexed, place_if, place_tells}

-- ---- a class is told by its number

class_places : (scene : Scene) → Every (λ p. (n : ℕ) → place_if is_class p ≡ Some n → slice_get (filter_map (place_if is_class) (placed scene)) p.counts.classes ≡ Some n) (placed scene)
unfolding placed counted
class_places scene =
    indexed is_class (λ c. c.classes) (place_if is_class) (λ c f n. refl) (place_tells is_class) (filter_map (place_if is_class) (placed scene)) [] 0 outside nothing scene.lines refl refl

class_at : (scene : Scene) (k : ℕ) (p : Placed) → slice_get (placed scene) k ≡ Some p → is_class p.form ≡ true → slice_get (filter_map (place_if is_class) (placed scene)) p.counts.classes ≡ Some p.at
class_at scene k p there is =
    every_at (λ q. (n : ℕ) → place_if is_class q ≡ Some n → slice_get (filter_map (place_if is_class) (placed scene)) q.counts.classes ≡ Some n) (placed scene) (class_places scene) k p there p.at (rw is refl)

one_class : (scene : Scene) (j k : ℕ) (p q : Placed) → slice_get (placed scene) j ≡ Some p → slice_get (placed scene) k ≡ Some q → is_class p.form ≡ true → is_class q.form ≡ true → p.counts.classes ≡ q.counts.classes → p.at ≡ q.at
one_class scene j k p q there there' is is' e =
    one_value (slice_get (filter_map (place_if is_class) (placed scene)) q.counts.classes) p.at q.at (ap (slice_get (filter_map (place_if is_class) (placed scene))) (sym e) ∙ class_at scene j p there is) (class_at scene k q there' is')

-- ---- a declaration is told by the number of its name

-- the number of a declaration's name is its place after `driver` and `req`
abbrev IsNumbered : List Declaration → Declaration → Type 0
IsNumbered ds d = HasPlace (λ i x. name_number ds x.name ≡ i + 2) 0 ds d

lines_numbered : (scene : Scene) → first_refusal scene ≡ None → Every (λ p. (d : Declaration) → declared_on p ≡ Some d → IsNumbered (declarations scene) d) (placed scene)
unfolding declarations
lines_numbered scene none =
    every_from declared_on (IsNumbered (declarations scene)) (placed scene) (have_places (λ i x. name_number (declarations scene) x.name ≡ i + 2) 0 (declarations scene) (numbers (declarations scene) (all_distinct scene (each_accepted scene none))))

one_declaration : (ds : List Declaration) (d e : Declaration) → IsNumbered ds d → IsNumbered ds e → name_number ds d.name ≡ name_number ds e.name → d ≡ e
one_declaration ds d e h g same =
    let first : name_number ds d.name ≡ 0 + h.place + 2 = h.has in
    let second : name_number ds e.name ≡ 0 + g.place + 2 = g.has in
    let place : h.place ≡ g.place = omega (arith, first, second, same) in
    one_value (slice_get ds g.place) d e (ap (slice_get ds) (sym place) ∙ h.is) g.is

-- ---- the line of an owner

-- the line declares an object with this number of its name
record IsObjectLine (names : List Declaration) (p : Placed) (form : SceneLine) (d : Declared) : Type 0 where
  own : Declaration
  declares' : declared_by p form ≡ Some own
  name : declared_name d ≡ Some (name_number names own.name)

-- the line declares a class with this number, or an object
abbrev IsOwnerLine : List Declaration → Placed → SceneLine → Declared → Type 0
IsOwnerLine names p form d =
    ((is_class form ≡ true) × (d ≡ declared.OfClass p.counts.classes)) ⊎ IsObjectLine names p form d

owner_line : (scene : Scene) (names : List Declaration) (p : Placed) (form : SceneLine) (d : Declared) → owner_at scene names p form ≡ Some d → IsOwnerLine names p form d
unfolding object_of declared_by is_class device_info queue_info interrupt_info target_info
owner_line scene names p (line.Class n k) d e =
    some_has (IsOwnerLine names p (line.Class n k)) _ d e (inl (refl, refl))
owner_line scene names p (line.DeferredClass n k parent) d e =
    some_has (IsOwnerLine names p (line.DeferredClass n k parent)) _ d e (inl (refl, refl))
owner_line scene names p (line.Device n working) d e =
    some_has (IsOwnerLine names p (line.Device n working)) _ d e (inr (record { own = _; declares' = refl; name = refl }))
owner_line scene names p (line.Queue n dispatch) d e =
    some_has (IsOwnerLine names p (line.Queue n dispatch)) _ d e (inr (record { own = _; declares' = refl; name = refl }))
owner_line scene names p (line.Interrupt n l) d e =
    some_has (IsOwnerLine names p (line.Interrupt n l)) _ d e (inr (record { own = _; declares' = refl; name = refl }))
owner_line scene names p (line.Target n delay status depth) d e =
    some_has (IsOwnerLine names p (line.Target n delay status depth)) _ d e (inr (record { own = _; declares' = refl; name = refl }))
owner_line scene names p _ d e = absurd (let z : ⊥ = cc in z)

first_name : (n m : ℕ) (rest : Bool → Bool) → rest false ≡ false → (b : Bool) → (n == m) ≡ b → rest (n == m) ≡ true → n ≡ m
first_name n m rest strict true is h = eqb-true n m is
first_name n m rest strict false is h =
    let no : rest false ≡ true = rw is at h in
    absurd (let z : ⊥ = cc in z)

same_names : (a b : Declared) → same_declared a b ≡ true → declared_name a ≡ declared_name b
same_names declared.Driver declared.Driver h = refl
same_names (declared.Device a) (declared.Device b) h =
    ap (λ n. Some n) (first_name a.name b.name (λ t. t && beq a.working b.working && same_scope a.scope b.scope && same_execution_level a.level b.level) refl (a.name == b.name) refl h)
same_names (declared.Queue a) (declared.Queue b) h =
    ap (λ n. Some n) (first_name a.name b.name (λ t. t && same_object_id a.device b.device && same_dispatch a.dispatch b.dispatch && same_serves a.serves b.serves && beq a.powered b.powered && beq a.zero b.zero && same_scope a.scope b.scope && same_execution_level a.level b.level) refl (a.name == b.name) refl h)
same_names (declared.Interrupt a) (declared.Interrupt b) h =
    ap (λ n. Some n) (first_name a.name b.name (λ t. t && same_object_id a.device b.device && same_irql a.level b.level) refl (a.name == b.name) refl h)
same_names (declared.Target a) (declared.Target b) h =
    ap (λ n. Some n) (first_name a.name b.name (λ t. t && same_object_id a.device b.device && (a.delay == b.delay) && same_status a.status b.status && (a.depth == b.depth)) refl (a.name == b.name) refl h)
same_names (declared.OfClass a) (declared.OfClass b) h = refl
same_names _ _ h = absurd (let z : ⊥ = cc in z)

no_name : (a b : Declared) (c n : ℕ) → a ≡ declared.OfClass c → declared_name b ≡ Some n → declared_name a ≡ declared_name b → ⊥
no_name a b c n e f h =
    let none : declared_name a ≡ None = ap declared_name e in
    let both : None ≡ Some n = sym none ∙ (h ∙ f) in
    let z : ⊥ = cc in
    z

-- the declaration of a line is told by the number of its name
abbrev TellsNumber : Scene → Placed → Type 0
TellsNumber scene p = (d : Declaration) → declared_on p ≡ Some d → IsNumbered (declarations scene) d

by_names : (scene : Scene) (p q : Placed) (a b : Declared) → same_declared a b ≡ true → TellsNumber scene p → TellsNumber scene q → IsObjectLine (declarations scene) p p.form a → IsObjectLine (declarations scene) q q.form b → p.at ≡ q.at
by_names scene p q a b same tp tq h g =
    let names : Some (name_number (declarations scene) h.own.name) ≡ Some (name_number (declarations scene) g.own.name) = sym h.name ∙ (same_names a b same ∙ g.name) in
    let number : name_number (declarations scene) h.own.name ≡ name_number (declarations scene) g.own.name = cc in
    let one : h.own ≡ g.own = one_declaration (declarations scene) h.own g.own (tp h.own h.declares') (tq g.own g.declares') number in
    sym (declares p p.form h.own h.declares').1 ∙ (ap (λ (d : Declaration). d.at) one ∙ (declares q q.form g.own g.declares').1)

by_lines : (scene : Scene) → first_refusal scene ≡ None → (j k : ℕ) (p q : Placed) (a b : Declared) → slice_get (placed scene) j ≡ Some p → slice_get (placed scene) k ≡ Some q → same_declared a b ≡ true → IsOwnerLine (declarations scene) p p.form a → IsOwnerLine (declarations scene) q q.form b → p.at ≡ q.at
by_lines scene none j k p q a b there there' same (inl h) (inl g) =
    let number : (p.counts.classes == q.counts.classes) ≡ true = rw (h.1, g.1) at same in
    one_class scene j k p q there there' h.0 g.0 (eqb-true p.counts.classes q.counts.classes number)
by_lines scene none j k p q a b there there' same (inl h) (inr g) =
    absurd (no_name a b p.counts.classes _ h.1 g.name (same_names a b same))
by_lines scene none j k p q a b there there' same (inr h) (inl g) =
    absurd (no_name b a q.counts.classes _ g.1 h.name (sym (same_names a b same)))
by_lines scene none j k p q a b there there' same (inr h) (inr g) =
    let tells = lines_numbered scene none in
    by_names scene p q a b same (every_at (TellsNumber scene) (placed scene) tells j p there) (every_at (TellsNumber scene) (placed scene) tells k q there') h g

-- two lines with the same owner are one
pub one_owner : (scene : Scene) → first_refusal scene ≡ None → (j k : ℕ) (p q : Placed) (a b : Declared) → slice_get (placed scene) j ≡ Some p → slice_get (placed scene) k ≡ Some q → owner_at scene (declarations scene) p p.form ≡ Some a → owner_at scene (declarations scene) q q.form ≡ Some b → same_declared a b ≡ true → p.at ≡ q.at
one_owner scene none j k p q a b there there' e f same =
    by_lines scene none j k p q a b there there' same (owner_line scene (declarations scene) p p.form a e) (owner_line scene (declarations scene) q q.form b f)
