-- Each interrupt, each target and each deferred class has the callback that it can't do without.
use Rattle.std.proofs.Common.{◌≡◌, ℕ, suc, ◌+◌, true, false, not, List, [], ◌∷◌, length, Option, Some, None, slice_get, refl, ap, sym, ◌∙◌, arith}
use Rattle.std.proofs.lemmas.Bool.{not-false, or_parts, and_from}
use Rattle.std.specs.Option.{is_some}
use Rattle.std.specs.List.{filter_map, cons_option, list_all}
use denote.Enum.Bare.{same_true, true_same}
use Rattle.wdf_base.specs.declared.call.Callback.{Callback}
use Rattle.wdf_base.specs.declared.call.Callback.TheVariants as callback
use Rattle.wdf_base.specs.declared.declared.ClassInfo.{ClassInfo}
use Rattle.wdf_base.specs.declared.declared.Declared.{Declared}
use Rattle.wdf_base.specs.declared.declared.Declared.TheVariants as declared
use Rattle.wdf_base.specs.declared.script.Script.{Script}
use Rattle.wdf_base.specs.contracts.call.Callback as enum
use Rattle.wdf_base.specs.Plan.{is_script_of}
use Rattle.wdf_base.specs.Resolved.{has_script, declared_complete, classes_complete, function_of}
use Rattle.wdf_scene.specs.declared.block.Block.{Block}
use Rattle.wdf_scene.specs.declared.block.Block.TheVariants as block
use Rattle.wdf_scene.specs.declared.line.SceneLine.{SceneLine}
use Rattle.wdf_scene.specs.declared.line.SceneLine.TheVariants as line
use Rattle.wdf_scene.specs.declared.line.NumberedLine.{NumberedLine}
use Rattle.wdf_scene.specs.declared.scene.Scene.{Scene}
use Rattle.wdf_scene.specs.Blocks.{opened}
use Rattle.wdf_scene.specs.Written.{IsScene}
use Rattle.wdf_blocks.specs.declared.attribute.Attribute.TheVariants as attribute
use Rattle.wdf_blocks.specs.declared.declaration.Declaration.{Declaration}
use Rattle.wdf_blocks.specs.declared.placed.Counts.{Counts}
use Rattle.wdf_blocks.specs.declared.placed.Placed.{Placed}
use Rattle.wdf_blocks.specs.declared.placed.Stand.{Stand}
use Rattle.wdf_blocks.specs.Attribute.{gives, gives_callback, is_device_wide}
use Rattle.wdf_blocks.specs.Blocks.{given, has_given}
use Rattle.wdf_blocks.specs.Declarations.{declarations}
use Rattle.wdf_refusals.specs.First.{first_refusal}
use Rattle.wdf_blocks.specs.Forms.{is_class}
use Rattle.wdf_plan.specs.Parts.{object_of, object_on, class_on, interrupt_info, target_info}
use Rattle.wdf_blocks.specs.Placed.{outside, nothing, one_more, counted, opened_by, placed_line, placed_from, placed}
use Rattle.wdf_plan.specs.Plans.{all_objects, plan_with, plan_of}
use Rattle.wdf_refusals.specs.Rows.{wrong_callback}
use Rattle.wdf_plan.specs.Scripts.{owner_of, script_on}
use Rattle.wdf_plan.proofs.Devices.{IsKnown, each_known}
use Rattle.wdf_refusals.proofs.Every.{Every, every_map, some_has, all_kept}
use Rattle.wdf_plan.proofs.Gathered.{one_value, any_from, place_there}
use Rattle.wdf_plan.proofs.Given.{IsGiven, given_stands}
use Rattle.wdf_plan.proofs.Owners.{IsOwner, owner_at, owner_on}
use Rattle.wdf_plan.proofs.SameOwners.{object_is}

-- ---- a callback that a block is given has its script

-- a script of this callback on this object
record IsScript (o : Option Script) (c : Callback) (d : Declared) : Type 0 where
  script : Script
  is : o ≡ Some script
  passes : is_script_of c d script ≡ true

script_there : (scene : Scene) (names : List Declaration) (p : Placed) (form : SceneLine) (c : Callback) (d : Declared) → form ≡ line.On c → owner_of scene names p p.stand.block ≡ Some d → IsScript (script_on scene names p form) c d
unfolding script_on
script_there scene names p form c d e f =
    rw (e, f) (record { script = _; is = refl; passes = rw (true_same enum.the_type c c refl, object_is d) refl })

begins : (c : Callback) (form : SceneLine) → gives (attribute.On c) form ≡ true → form ≡ line.On c
unfolding gives gives_callback
begins c (line.On d) e = ap line.On (sym (same_true enum.the_type tt c d e))
begins c _ e = absurd (let z : ⊥ = cc in z)

any_script : (scene : Scene) (c : Callback) (d : Declared) (k : ℕ) (p : Placed) → slice_get (placed scene) k ≡ Some p → IsScript (script_on scene (declarations scene) p p.form) c d → has_script (plan_of scene) c d ≡ true
unfolding plan_of plan_with
any_script scene c d k p there s =
    let f : Placed → Option Script = λ q. script_on scene (declarations scene) q q.form in
    place_there (is_script_of c d) (filter_map f (placed scene)) (any_from f (is_script_of c d) (placed scene) k p s.script there s.is s.passes)

-- the line that begins the callback is in this block, so its owner is the block's
owner_told : (scene : Scene) (b : ℕ) (q p : Placed) (d : Declared) → slice_get (placed scene) b ≡ Some q → p.stand.block ≡ Some b → (o : IsOwner scene p) → owner_at scene (declarations scene) q q.form ≡ Some d → owner_of scene (declarations scene) p p.stand.block ≡ Some d
owner_told scene b q p d there block' o e =
    let line' : o.home.line ≡ b = one_value p.stand.block o.home.line b o.home.block block' in
    let opener : o.home.opener ≡ q = one_value (slice_get (placed scene) b) o.home.opener q (rw line' at o.home.there) there in
    let owner : o.owner ≡ d = one_value (owner_at scene (declarations scene) q q.form) o.owner d (rw opener at o.own) e in
    o.owned ∙ ap (λ x. Some x) owner

given_script : (scene : Scene) → IsScene scene → first_refusal scene ≡ None → (b : ℕ) (q : Placed) (c : Callback) (d : Declared) → slice_get (placed scene) b ≡ Some q → owner_at scene (declarations scene) q q.form ≡ Some d → (g : ℕ) → IsGiven scene b g (attribute.On c) → has_script (plan_of scene) c d ≡ true
given_script scene s none b q c d there e g h =
    let form = begins c h.line.form h.gives_it in
    let o = owner_on scene s none g h.line h.there c form in
    any_script scene c d g h.line h.there (script_there scene (declarations scene) h.line h.line.form c d form (owner_told scene b q h.line d there h.block o e))

-- what a line's block is given has its script
abbrev Calls : Scene → Placed → SceneLine → Type 0
Calls scene p form = (kind : Block) → opened form ≡ Some kind → (c : Callback) → has_given scene p.at (attribute.On c) ≡ true → (d : Declared) → owner_at scene (declarations scene) p form ≡ Some d → has_script (plan_of scene) c d ≡ true

calls_step : (scene : Scene) → IsScene scene → first_refusal scene ≡ None → (p : Placed) → slice_get (placed scene) p.at ≡ Some p → (kind : Block) → opened p.form ≡ Some kind → (c : Callback) (d : Declared) → owner_at scene (declarations scene) p p.form ≡ Some d → (g : Option ℕ) → given scene p.at (attribute.On c) ≡ g → is_some g ≡ true → has_script (plan_of scene) c d ≡ true
unfolding is_device_wide
calls_step scene s none p there kind opens c d e None is h = absurd (let z : ⊥ = cc in z)
calls_step scene s none p there kind opens c d e (Some g) is h =
    given_script scene s none p.at p c d there e g (given_stands scene s p.at p kind (attribute.On c) g there opens refl is)

-- a line whose callbacks may be there, and what is called has its script
record IsCalled (scene : Scene) (p : Placed) : Type 0 where
  fits : wrong_callback scene p p.form ≡ false
  calls : Calls scene p p.form

all_called : (scene : Scene) → IsScene scene → first_refusal scene ≡ None → Every (IsCalled scene) (placed scene)
unfolding has_given
all_called scene s none =
    every_map (IsKnown scene) (IsCalled scene) (λ p h. record {
      fits = h.accepted.fitting;
      calls = λ kind opens c given' d e. calls_step scene s none p h.there kind opens c d e (given scene p.at (attribute.On c)) refl given';
    }) (placed scene) (each_known scene s none)

-- ---- objects

object_complete : (scene : Scene) (p : Placed) (form : SceneLine) → wrong_callback scene p form ≡ false → Calls scene p form → (d : Declared) → object_of scene (declarations scene) p p.at form ≡ Some d → declared_complete (plan_of scene) d ≡ true
unfolding wrong_callback object_of
object_complete scene p (line.Interrupt n l) w calls d e =
    let has = not-false (has_given scene p.at (attribute.On callback.EvtInterruptIsr)) (or_parts (not (has_given scene p.at (attribute.On callback.EvtInterruptIsr))) _ w).0 in
    some_has (λ x. declared_complete (plan_of scene) x ≡ true) _ d e (calls block.Interrupt refl callback.EvtInterruptIsr has (declared.Interrupt (interrupt_info (declarations scene) p.counts.device n l)) refl)
object_complete scene p (line.Target n delay status depth) w calls d e =
    let has = not-false (has_given scene p.at (attribute.On callback.EvtRequestCompletion)) w in
    some_has (λ x. declared_complete (plan_of scene) x ≡ true) _ d e (calls block.Target refl callback.EvtRequestCompletion has (declared.Target (target_info (declarations scene) p.counts.device n delay status depth)) refl)
object_complete scene p (line.Device n working) w calls d e =
    some_has (λ x. declared_complete (plan_of scene) x ≡ true) _ d e refl
object_complete scene p (line.Queue n dispatch) w calls d e =
    some_has (λ x. declared_complete (plan_of scene) x ≡ true) _ d e refl
object_complete scene p _ w calls d e = absurd (let z : ⊥ = cc in z)

-- each object of a plan has the callbacks that it can't do without
pub plan_declared : (scene : Scene) → IsScene scene → first_refusal scene ≡ None → list_all (declared_complete (plan_of scene)) (plan_of scene).declared ≡ true
unfolding plan_of plan_with all_objects
plan_declared scene s none =
    all_kept (object_on scene (declarations scene)) (IsCalled scene) (declared_complete (plan_of scene)) (λ p d h e. object_complete scene p p.form h.fits h.calls d e) (placed scene) (all_called scene s none)

-- ---- classes

class_step : (scene : Scene) (p : Placed) (form : SceneLine) (rest : List ClassInfo) → wrong_callback scene p form ≡ false → Calls scene p form → classes_complete (plan_of scene) (one_more p.counts.classes (is_class form)) rest ≡ true → classes_complete (plan_of scene) p.counts.classes (cons_option (class_on scene (declarations scene) p form) rest) ≡ true
unfolding wrong_callback class_on is_class
class_step scene p (line.Class n k) rest w calls h =
    let next : p.counts.classes + 1 ≡ suc p.counts.classes = omega arith in
    rw next at h
class_step scene p (line.DeferredClass n k parent) rest w calls h =
    let next : p.counts.classes + 1 ≡ suc p.counts.classes = omega arith in
    let more : classes_complete (plan_of scene) (suc p.counts.classes) rest ≡ true = rw next at h in
    let has = not-false (has_given scene p.at (attribute.On (function_of k))) w in
    and_from (has_script (plan_of scene) (function_of k) (declared.OfClass p.counts.classes)) _ (calls block.Class refl (function_of k) has (declared.OfClass p.counts.classes) refl) more
class_step scene p _ rest w calls h = h

classes_from : (scene : Scene) (k : ℕ) (o : Stand) (c : Counts) (ls : List NumberedLine) → Every (IsCalled scene) (placed_from k o c ls) → classes_complete (plan_of scene) c.classes (filter_map (λ p. class_on scene (declarations scene) p p.form) (placed_from k o c ls)) ≡ true
unfolding placed_from counted
classes_from scene k o c [] h = refl
classes_from scene k o c (l ∷ ls) h =
    let p = placed_line k o c l in
    class_step scene p l.form (filter_map (λ q. class_on scene (declarations scene) q q.form) (placed_from (suc k) (opened_by o k l.form) (counted c l.form (length l.picks)) ls)) h.0.fits h.0.calls (classes_from scene (suc k) (opened_by o k l.form) (counted c l.form (length l.picks)) ls h.1)

-- so has each class
pub plan_classes : (scene : Scene) → IsScene scene → first_refusal scene ≡ None → classes_complete (plan_of scene) 0 (plan_of scene).classes ≡ true
unfolding plan_of plan_with placed
plan_classes scene s none =
    classes_from scene 0 outside nothing scene.lines (all_called scene s none)
