-- The parent, the level and the period of each class of a plan fit.
use Rattle.std.proofs.Common.{◌≡◌, ℕ, Bool, true, false, not, ◌&&◌, ◌||◌, List, Option, Some, None, slice_get, refl, ap, sym, ◌∙◌}
use Rattle.std.proofs.lemmas.Bool.{not-false, and_from}
use Rattle.std.specs.Prelude.{option_and_then}
use Rattle.std.specs.Option.{is_some, unwrap_or}
use Rattle.std.specs.List.{list_all, list_any}
use Rattle.wdf_base.specs.declared.declared.ClassInfo.{ClassInfo}
use Rattle.wdf_base.specs.declared.declared.DeferredKind.{DeferredKind}
use Rattle.wdf_base.specs.declared.declared.DeferredKind.TheVariants as deferred
use Rattle.wdf_base.specs.declared.object.Kind.TheVariants as kind
use Rattle.wdf_base.specs.Plan.{declared_of}
use Rattle.wdf_base.specs.Resolved.{class_fits, is_kind, level_of, period_fits, serial_level, is_ticks}
use Rattle.wdf_base.specs.Same.{same_option}
use Rattle.wdf_base.specs.SamePlan.{same_execution_level}
use Rattle.wdf_scene.specs.declared.block.Block.TheVariants as block
use Rattle.wdf_scene.specs.declared.line.SceneLine.{SceneLine}
use Rattle.wdf_scene.specs.declared.line.SceneLine.TheVariants as line
use Rattle.wdf_scene.specs.declared.scene.Scene.{Scene}
use Rattle.wdf_scene.specs.Blocks.{opened}
use Rattle.wdf_scene.specs.Written.{IsScene}
use Rattle.wdf_blocks.specs.declared.attribute.Attribute.{Attribute}
use Rattle.wdf_blocks.specs.declared.attribute.Attribute.TheVariants as attribute
use Rattle.wdf_blocks.specs.declared.declaration.Declaration.{Declaration}
use Rattle.wdf_blocks.specs.declared.declaration.Wanted.TheVariants as wanted
use Rattle.wdf_blocks.specs.declared.placed.Placed.{Placed}
use Rattle.wdf_blocks.specs.Attribute.{gives, is_device_wide}
use Rattle.wdf_blocks.specs.Blocks.{given, has_given, form_at, ticks_in}
use Rattle.wdf_blocks.specs.Declarations.{declarations, stands, is_parent_at}
use Rattle.wdf_refusals.specs.First.{first_refusal}
use Rattle.wdf_refusals.specs.Limits.{over_ticks}
use Rattle.wdf_refusals.specs.Numbers.{id_of, number_of}
use Rattle.wdf_plan.specs.Parts.{class_on, parent_order, period_of}
use Rattle.wdf_blocks.specs.Placed.{placed}
use Rattle.wdf_plan.specs.Plans.{plan_with, plan_of}
use Rattle.wdf_refusals.specs.Rows.{block_is, unknown_parent, unknown_word, lacks_parent, no_parent, is_timer_block, wrong_callback, unlike_parent, unlike_block, incompatible_level}
use Rattle.wdf_plan.proofs.Accepted.{IsAccepted, each_accepted, word_known}
use Rattle.wdf_plan.proofs.Devices.{IsKnown, each_known, form_there, block_tells}
use Rattle.wdf_refusals.proofs.Every.{Every, every_map, every_at, some_has, all_kept}
use Rattle.wdf_plan.proofs.Given.{given_stands}
use Rattle.wdf_plan.proofs.Parents.{parent_there, parent_level}
use Rattle.wdf_plan.proofs.Within.{ticks_within}

-- ---- the parent

-- the parent that a class names stands for one
record HasParent (names : List Declaration) (parent : Option (List ℕ)) : Type 0 where
  name : List ℕ
  is : parent ≡ Some name
  stands' : stands names name wanted.Parent ≡ true

both_stand : (a b : Bool) → not a ≡ false → (a && not b) ≡ false → b ≡ true
both_stand true true e f = refl
both_stand true false e f = absurd (let z : ⊥ = cc in z)
both_stand false b e f = absurd (let z : ⊥ = cc in z)

has_parent : (names : List Declaration) (parent : Option (List ℕ)) → unknown_parent names parent ≡ false → lacks_parent names parent ≡ false → HasParent names parent
unfolding unknown_parent
has_parent names None u l = absurd (let z : ⊥ = cc in z)
has_parent names (Some n) u l =
    record { name = n; is = refl; stands' = both_stand (stands names n wanted.Anything) (stands names n wanted.Parent) u l }

-- ---- what the line of the class is given

-- a line that gives the block of the class something
record IsGiving (scene : Scene) (p : Placed) (a : Attribute) (g : ℕ) : Type 0 where
  line : Placed
  gives' : gives a line.form ≡ true
  form : form_at scene g ≡ Some line.form
  home : line.stand.block ≡ Some p.at
  accepted : IsAccepted scene line

-- of the class of this line: what it gives
abbrev Gives : Scene → Placed → Type 0
Gives scene p = (a : Attribute) → is_device_wide a ≡ false → (g : ℕ) → given scene p.at a ≡ Some g → IsGiving scene p a g

class_gives : (scene : Scene) → IsScene scene → first_refusal scene ≡ None → (p : Placed) → slice_get (placed scene) p.at ≡ Some p → opened p.form ≡ Some block.Class → Gives scene p
class_gives scene s none p there opens a wide g e =
    let h = given_stands scene s p.at p block.Class a g there opens wide e in
    record {
      line = h.line;
      gives' = h.gives_it;
      form = form_there scene g h.line h.there;
      home = h.block;
      accepted = every_at (IsAccepted scene) (placed scene) (each_accepted scene none) g h.line h.there;
    }

-- ---- the period

-- the line gives a period
record IsPeriod (form : SceneLine) : Type 0 where
  ticks : ℕ
  is : form ≡ line.Period ticks

period_line : (form : SceneLine) → gives attribute.Period form ≡ true → IsPeriod form
unfolding gives
period_line (line.Period n) h = record { ticks = n; is = refl }
period_line _ h = absurd (let z : ⊥ = cc in z)

no_period : (k : DeferredKind) → period_fits k 0 ≡ true
no_period deferred.Dpc = refl
no_period _ = refl

timer_fits : (name : List ℕ) (k : DeferredKind) (parent : Option (List ℕ)) (n : ℕ) → is_timer_block (line.DeferredClass name k parent) ≡ true → is_ticks n ≡ true → period_fits k n ≡ true
unfolding is_timer_block
timer_fits name deferred.Timer parent n t h = h
timer_fits name deferred.Dpc parent n t h = absurd (let z : ⊥ = cc in z)
timer_fits name deferred.WorkItem parent n t h = absurd (let z : ⊥ = cc in z)

period_ticks : (form : SceneLine) (n : ℕ) → form ≡ line.Period n → over_ticks form ≡ false → is_ticks n ≡ true
unfolding over_ticks
period_ticks form n e h = not-false (is_ticks n) (rw e at h)

period_block : (scene : Scene) (q : Placed) (form : SceneLine) (n : ℕ) → form ≡ line.Period n → wrong_callback scene q form ≡ false → block_is is_timer_block scene q.stand.block ≡ true
unfolding wrong_callback
period_block scene q form n e h = not-false (block_is is_timer_block scene q.stand.block) (rw e at h)

period_step : (scene : Scene) (p : Placed) (name : List ℕ) (k : DeferredKind) (parent : Option (List ℕ)) → form_at scene p.at ≡ Some (line.DeferredClass name k parent) → Gives scene p → (g : Option ℕ) → given scene p.at attribute.Period ≡ g → period_fits k (unwrap_or (option_and_then ticks_in (option_and_then (form_at scene) g)) 0) ≡ true
unfolding is_device_wide ticks_in
period_step scene p name k parent own gives' None e = no_period k
period_step scene p name k parent own gives' (Some g) e =
    let h = gives' attribute.Period refl g e in
    let t = period_line h.line.form h.gives' in
    let timer = sym (block_tells is_timer_block scene h.line.stand.block p.at (line.DeferredClass name k parent) h.home own) ∙ period_block scene h.line h.line.form t.ticks t.is h.accepted.fitting in
    rw (h.form, t.is) (timer_fits name k parent t.ticks timer (period_ticks h.line.form t.ticks t.is (ticks_within scene h.line h.accepted)))

period_there : (scene : Scene) (p : Placed) (name : List ℕ) (k : DeferredKind) (parent : Option (List ℕ)) → form_at scene p.at ≡ Some (line.DeferredClass name k parent) → Gives scene p → period_fits k (period_of scene p.at) ≡ true
unfolding period_of
period_there scene p name k parent own gives' =
    period_step scene p name k parent own gives' (given scene p.at attribute.Period) refl

-- ---- the level

serialize_line : (form : SceneLine) → gives attribute.Serialize form ≡ true → form ≡ line.Serialize
unfolding gives
serialize_line line.Serialize h = refl
serialize_line _ h = absurd (let z : ⊥ = cc in z)

like_block : (scene : Scene) (q : Placed) (form : SceneLine) → form ≡ line.Serialize → incompatible_level scene (declarations scene) q form ≡ false → block_is (unlike_block scene (declarations scene)) scene q.stand.block ≡ false
unfolding incompatible_level
like_block scene q form e h = rw e at h

like_parent : (a b : Bool) → a ≡ true → (a && not b) ≡ false → b ≡ true
like_parent true true e f = refl
like_parent true false e f = absurd (let z : ⊥ = cc in z)
like_parent false b e f = absurd (let z : ⊥ = cc in z)

known_level : (scene : Scene) (name : List ℕ) (k : DeferredKind) (n : List ℕ) → stands (declarations scene) n wanted.Parent ≡ true → unlike_block scene (declarations scene) (line.DeferredClass name k (Some n)) ≡ false → list_any (is_parent_at scene (serial_level k) n) (declarations scene) ≡ true
unfolding unlike_block unlike_parent
known_level scene name k n h u =
    like_parent (stands (declarations scene) n wanted.Parent) (list_any (is_parent_at scene (serial_level k) n) (declarations scene)) h u

level_step : (scene : Scene) → IsScene scene → first_refusal scene ≡ None → (p : Placed) (name : List ℕ) (k : DeferredKind) (n : List ℕ) → form_at scene p.at ≡ Some (line.DeferredClass name k (Some n)) → stands (declarations scene) n wanted.Parent ≡ true → Gives scene p → (g : Option ℕ) → given scene p.at attribute.Serialize ≡ g → (not (is_some g) || same_option same_execution_level (level_of (declared_of (plan_of scene) (id_of (number_of (declarations scene) n wanted.Parent)).0)) (Some (serial_level k))) ≡ true
unfolding is_device_wide
level_step scene s none p name k n own h gives' None e = refl
level_step scene s none p name k n own h gives' (Some g) e =
    let i = gives' attribute.Serialize refl g e in
    let like = like_block scene i.line i.line.form (serialize_line i.line.form i.gives') i.accepted.like in
    let u = sym (block_tells (unlike_block scene (declarations scene)) scene i.line.stand.block p.at (line.DeferredClass name k (Some n)) i.home own) ∙ like in
    parent_level scene s none n (serial_level k) (known_level scene name k n h u)

level_there : (scene : Scene) → IsScene scene → first_refusal scene ≡ None → (p : Placed) (name : List ℕ) (k : DeferredKind) (n : List ℕ) → form_at scene p.at ≡ Some (line.DeferredClass name k (Some n)) → stands (declarations scene) n wanted.Parent ≡ true → Gives scene p → (not (has_given scene p.at attribute.Serialize) || same_option same_execution_level (level_of (declared_of (plan_of scene) (id_of (number_of (declarations scene) n wanted.Parent)).0)) (Some (serial_level k))) ≡ true
unfolding has_given
level_there scene s none p name k n own h gives' =
    level_step scene s none p name k n own h gives' (given scene p.at attribute.Serialize) refl

-- ---- the class of a line

-- what is known of a line that declares a class
record IsClassLine (scene : Scene) (p : Placed) (form : SceneLine) : Type 0 where
  word : unknown_word (declarations scene) p.stand.device form ≡ false
  fathered : no_parent (declarations scene) form ≡ false
  own : form_at scene p.at ≡ Some form
  gives' : opened form ≡ Some block.Class → Gives scene p

class_line : (scene : Scene) → IsScene scene → first_refusal scene ≡ None → (p : Placed) (name : List ℕ) (k : DeferredKind) (parent : Option (List ℕ)) → form_at scene p.at ≡ Some (line.DeferredClass name k parent) → Gives scene p → HasParent (declarations scene) parent → ((is_kind (plan_of scene) kind.Device (id_of (parent_order (declarations scene) parent)).0 || is_kind (plan_of scene) kind.Queue (id_of (parent_order (declarations scene) parent)).0) && period_fits k (period_of scene p.at) && (not (has_given scene p.at attribute.Serialize) || same_option same_execution_level (level_of (declared_of (plan_of scene) (id_of (parent_order (declarations scene) parent)).0)) (Some (serial_level k)))) ≡ true
class_line scene s none p name k parent own gives' h =
    let own' : form_at scene p.at ≡ Some (line.DeferredClass name k (Some h.name)) = own ∙ ap (λ o. Some (line.DeferredClass name k o)) h.is in
    rw h.is (and_from _ _ (and_from _ _ (parent_there scene h.name h.stands') (period_there scene p name k parent own gives')) (level_there scene s none p name k h.name own' h.stands' gives'))

class_fitting : (scene : Scene) → IsScene scene → first_refusal scene ≡ None → (p : Placed) (form : SceneLine) → IsClassLine scene p form → (x : ClassInfo) → class_on scene (declarations scene) p form ≡ Some x → class_fits (plan_of scene) x ≡ true
unfolding class_on unknown_word no_parent
class_fitting scene s none p (line.Class n k) i x e = some_has (λ c. class_fits (plan_of scene) c ≡ true) _ x e refl
class_fitting scene s none p (line.DeferredClass n k parent) i x e =
    some_has (λ c. class_fits (plan_of scene) c ≡ true) _ x e (class_line scene s none p n k parent i.own (i.gives' refl) (has_parent (declarations scene) parent i.word i.fathered))
class_fitting scene s none p _ i x e = absurd (let z : ⊥ = cc in z)

class_lines : (scene : Scene) → IsScene scene → first_refusal scene ≡ None → Every (λ p. IsClassLine scene p p.form) (placed scene)
class_lines scene s none =
    every_map (IsKnown scene) (λ p. IsClassLine scene p p.form) (λ p h. record {
      word = word_known scene p h.accepted;
      fathered = h.accepted.fathered;
      own = form_there scene p.at p h.there;
      gives' = class_gives scene s none p h.there;
    }) (placed scene) (each_known scene s none)

-- each class of a plan fits
pub plan_classes_fit : (scene : Scene) → IsScene scene → first_refusal scene ≡ None → list_all (class_fits (plan_of scene)) (plan_of scene).classes ≡ true
unfolding plan_of plan_with
plan_classes_fit scene s none =
    all_kept (λ p. class_on scene (declarations scene) p p.form) (λ p. IsClassLine scene p p.form) (class_fits (plan_of scene)) (λ p x h e. class_fitting scene s none p p.form h x e) (placed scene) (class_lines scene s none)
