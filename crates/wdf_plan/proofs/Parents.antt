-- A parent is a device or a queue of the plan, at the level that its lines give.
use Rattle.std.proofs.Common.{◌≡◌, ℕ, Bool, true, false, ◌||◌, List, [], find, Some, None, slice_get, refl, ap, sym, ◌∙◌}
use Rattle.std.proofs.Math.Bool.{or-true}
use Rattle.std.proofs.lemmas.Bool.{and_parts}
use Rattle.std.proofs.lemmas.Slice.Eq.{bytes_eq-Decides}
use Rattle.std.specs.Prelude.{◌==◌}
use Rattle.std.specs.Option.{is_none}
use Rattle.std.specs.List.{list_any}
use Rattle.wdf_base.specs.declared.declared.Declared.{Declared}
use Rattle.wdf_base.specs.declared.declared.ExecutionLevel.{ExecutionLevel}
use Rattle.wdf_base.specs.declared.object.Kind.TheVariants as kind
use Rattle.wdf_base.specs.Plan.{declared_of}
use Rattle.wdf_base.specs.Resolved.{is_kind, level_of}
use Rattle.wdf_base.specs.Same.{same_option}
use Rattle.wdf_base.specs.SamePlan.{same_execution_level}
use Rattle.wdf_scene.specs.declared.line.SceneLine.{SceneLine}
use Rattle.wdf_scene.specs.declared.line.SceneLine.TheVariants as line
use Rattle.wdf_scene.specs.declared.scene.Scene.{Scene}
use Rattle.wdf_scene.specs.Blocks.{innermost, may_stand}
use Rattle.wdf_scene.specs.Written.{IsScene}
use Rattle.wdf_blocks.specs.declared.declaration.Declaration.{Declaration}
use Rattle.wdf_blocks.specs.declared.declaration.Thing.{Thing}
use Rattle.wdf_blocks.specs.declared.declaration.Thing.TheVariants as thing
use Rattle.wdf_blocks.specs.declared.declaration.Wanted.TheVariants as wanted
use Rattle.wdf_blocks.specs.declared.placed.Placed.{Placed}
use Rattle.wdf_blocks.specs.declared.placed.Stand.{Stand}
use Rattle.wdf_blocks.specs.Blocks.{effective_level}
use Rattle.wdf_blocks.specs.Declarations.{declarations, declared_by, declared_on, is_parent, is_parent_at, is_wanted, has_name, suits, found, stands}
use Rattle.wdf_refusals.specs.First.{first_refusal}
use Rattle.wdf_refusals.specs.Numbers.{id_of, number_of}
use Rattle.wdf_plan.specs.Parts.{object_of, device_info, queue_info}
use Rattle.wdf_blocks.specs.Placed.{placed}
use Rattle.wdf_plan.specs.Plans.{plan_of}
use Rattle.wdf_refusals.proofs.Every.{Every, some_has, every_map, every_kept, every_both}
use Rattle.wdf_plan.proofs.Gathered.{any_item}
use Rattle.wdf_plan.proofs.Handles.{Stands, stands_for, thing_kind, kind_there}
use Rattle.wdf_plan.proofs.ObjectPlaces.{objects_of, ObjectThere, objects_there, object_place}
use Rattle.wdf_plan.proofs.OwnNames.{IsOwn, names_own}
use Rattle.wdf_plan.proofs.Stacking.{IsPassed, every_passed}
use Rattle.wdf_plan.proofs.Stacks.{Opener, IsStacked, stand_of, none_open}

-- ---- the kind

parent_kind : (scene : Scene) (n : List ℕ) (s : Stands (declarations scene) n wanted.Parent) (t : Thing) → s.declaration.thing ≡ t → is_parent t ≡ true → (is_kind (plan_of scene) kind.Device (id_of (number_of (declarations scene) n wanted.Parent)).0 || is_kind (plan_of scene) kind.Queue (id_of (number_of (declarations scene) n wanted.Parent)).0) ≡ true
parent_kind scene n s thing.Device e h =
    rw (kind_there scene n wanted.Parent s kind.Device (ap thing_kind e)) refl
parent_kind scene n s thing.Queue e h =
    rw (kind_there scene n wanted.Parent s kind.Queue (ap thing_kind e)) (or-true _)
parent_kind scene n s _ e h = absurd (let z : ⊥ = cc in z)

-- a name that stands for a parent stands for a device or a queue of the plan
pub parent_there : (scene : Scene) (n : List ℕ) → stands (declarations scene) n wanted.Parent ≡ true → (is_kind (plan_of scene) kind.Device (id_of (number_of (declarations scene) n wanted.Parent)).0 || is_kind (plan_of scene) kind.Queue (id_of (number_of (declarations scene) n wanted.Parent)).0) ≡ true
parent_there scene n h =
    let s = stands_for (declarations scene) n wanted.Parent h in
    parent_kind scene n s s.declaration.thing refl s.fits

-- ---- the level

device_stand : (whole : List Placed) (p : Placed) (stack : List Opener) → IsStacked whole stack p → (n : List ℕ) (working : Bool) → p.form ≡ line.Device n working → p.stand.device ≡ None
device_stand whole p stack s n working e =
    let may : may_stand s.position (line.Device n working) ≡ true = rw e at s.may in
    let free : is_none (innermost s.position.blocks) ≡ true = (and_parts (s.position.headers == 3) (is_none (innermost s.position.blocks)) may).1 in
    let stack' : stack ≡ [] = none_open stack (sym (ap (λ bs. is_none (innermost bs)) s.blocks) ∙ free) in
    ap (λ (o : Stand). o.device) s.stand ∙ ap (λ xs. (stand_of xs).device) stack'

-- the object of a line is at its place, and a device is in no device
record IsLevelled (scene : Scene) (p : Placed) : Type 0 where
  there : ObjectThere scene p
  free : (n : List ℕ) (working : Bool) → p.form ≡ line.Device n working → p.stand.device ≡ None

all_levelled : (scene : Scene) → IsScene scene → Every (IsLevelled scene) (placed scene)
all_levelled scene s =
    let Passed : Placed → Type 0 = λ p. (slice_get (placed scene) p.at ≡ Some p) × IsPassed scene p.at p in
    every_map (λ p. ObjectThere scene p × Passed p) (IsLevelled scene) (λ p h. record {
      there = h.0;
      free = device_stand (placed scene) p h.1.1.stack h.1.1.stacked;
    }) (placed scene) (every_both (ObjectThere scene) Passed (placed scene) (objects_there scene) (every_passed scene s))

-- the object of a declaration has the level that its lines give
abbrev HasLevel : Scene → Declaration → Type 0
HasLevel scene d = is_parent d.thing ≡ true → level_of (slice_get (objects_of scene) d.order) ≡ Some (effective_level scene d.at d.device)

no_level : (scene : Scene) (a d : Declaration) → Some a ≡ Some d → is_parent a.thing ≡ false → HasLevel scene d
no_level scene a d e h =
    some_has (HasLevel scene) a d e (λ t. absurd (let z : ⊥ = cc in z))

line_level : (scene : Scene) (p : Placed) (form : SceneLine) → ((x : Declared) → object_of scene (declarations scene) p p.at form ≡ Some x → slice_get (objects_of scene) p.counts.objects ≡ Some x) → ((n : List ℕ) (working : Bool) → form ≡ line.Device n working → p.stand.device ≡ None) → (d : Declaration) → declared_by p form ≡ Some d → HasLevel scene d
unfolding object_of declared_by device_info queue_info
line_level scene p (line.Device n working) there free d e =
    some_has (HasLevel scene) _ d e (λ t. rw (there _ refl, free n working refl) refl)
line_level scene p (line.Queue n dispatch) there free d e =
    some_has (HasLevel scene) _ d e (λ t. rw (there _ refl) refl)
line_level scene p (line.Interrupt n l) there free d e = no_level scene _ d e refl
line_level scene p (line.Target n delay status depth) there free d e = no_level scene _ d e refl
line_level scene p (line.Class n c) there free d e = no_level scene _ d e refl
line_level scene p (line.DeferredClass n c parent) there free d e = no_level scene _ d e refl
line_level scene p (line.Register n v) there free d e = no_level scene _ d e refl
line_level scene p (line.App n) there free d e = no_level scene _ d e refl
line_level scene p _ there free d e = absurd (let z : ⊥ = cc in z)

have_levels : (scene : Scene) → IsScene scene → Every (HasLevel scene) (declarations scene)
unfolding declarations
have_levels scene s =
    every_kept declared_on (IsLevelled scene) (HasLevel scene) (λ p d h e. line_level scene p p.form h.there h.free d e) (placed scene) (all_levelled scene s)

-- where a declaration of the name is a parent at this level, the object that the name stands for has it
pub parent_level : (scene : Scene) → IsScene scene → first_refusal scene ≡ None → (n : List ℕ) (l : ExecutionLevel) → list_any (is_parent_at scene l n) (declarations scene) ≡ true → same_option same_execution_level (level_of (declared_of (plan_of scene) (id_of (number_of (declarations scene) n wanted.Parent)).0)) (Some l) ≡ true
unfolding number_of found
parent_level scene s none n l h =
    let i = any_item (λ d. IsOwn (declarations scene) d × HasLevel scene d) (is_parent_at scene l n) (declarations scene) (every_both (IsOwn (declarations scene)) (HasLevel scene) (declarations scene) (names_own scene none) (have_levels scene s)) h in
    let d = i.item in
    let both = and_parts (is_wanted n wanted.Parent d) (same_execution_level (effective_level scene d.at d.device) l) i.passes in
    let wanted' = and_parts (has_name n d) (suits wanted.Parent d) both.0 in
    let name : d.name ≡ n = (bytes_eq-Decides d.name n).0 wanted'.0 in
    let own : find (is_wanted d.name wanted.Parent) (declarations scene) ≡ Some d = i.has.0 wanted.Parent wanted'.1 in
    let is : find (is_wanted n wanted.Parent) (declarations scene) ≡ Some d = ap (λ m. find (is_wanted m wanted.Parent) (declarations scene)) (sym name) ∙ own in
    rw (is, object_place scene d.order, i.has.1 wanted'.1) both.1
