-- The plan of a scene that nothing refuses is within the limits.
use Rattle.std.proofs.Common.{◌≡◌, ℕ, ◌<◌, ◌≤◌, Bool, true, false, not, cond, List, [], ◌∷◌, length, Option, Some, None, IsTrue, refl, arith}
use Rattle.std.proofs.lemmas.Bool.{leb-false, le-leb, not-false, or_parts}
use Rattle.std.proofs.lemmas.List.Sums.{sum_by-cons}
use Rattle.std.specs.Prelude.{option_and_then, nat_le}
use Rattle.std.specs.Option.{is_some}
use Rattle.std.specs.List.{filter_map, cons_option, flat_map, count_by}
use Rattle.wdf_base.specs.declared.plan.Plan.{Plan}
use Rattle.wdf_base.specs.Resolved.{is_from, device_name, app_count}
use Rattle.wdf_scene.specs.declared.line.SceneLine.{SceneLine}
use Rattle.wdf_scene.specs.declared.line.SceneLine.TheVariants as line
use Rattle.wdf_scene.specs.declared.line.NumberedLine.{NumberedLine}
use Rattle.wdf_scene.specs.declared.scene.Scene.{Scene}
use Rattle.wdf_scene.specs.Written.{IsScene}
use Rattle.wdf_blocks.specs.declared.declaration.Declaration.{Declaration}
use Rattle.wdf_blocks.specs.declared.placed.Placed.{Placed}
use Rattle.wdf_blocks.specs.Declarations.{declarations, declared_by, declared_on, declares_object, object_count}
use Rattle.wdf_refusals.specs.First.{first_refusal}
use Rattle.wdf_blocks.specs.Forms.{is_device, is_object, is_app, is_register, is_class}
use Rattle.wdf_refusals.specs.Limits.{over_cpus, over_limit, over_objects, over_picks, is_one_too_many}
use Rattle.wdf_plan.specs.Parts.{object_of, object_on, class_on, register_on, app_agent, line_picks}
use Rattle.wdf_blocks.specs.Placed.{outside, nothing, counted, placed_from, placed}
use Rattle.wdf_plan.specs.Plans.{all_objects, plan_with, plan_of}
use Rattle.wdf_plan.proofs.Accepted.{IsAccepted, each_accepted}
use Rattle.wdf_plan.proofs.AgentLists.{device_list, app_length}
use Rattle.wdf_plan.proofs.Counting.{bounded, picks_bounded, from_zero}
use Rattle.wdf_refusals.proofs.Every.{Every, every_map}
use Rattle.wdf_plan.proofs.Headers.{first_header, second_header, third_header}
use Rattle.wdf_refusals.proofs.Heads.{scene_head}
use Rattle.wdf_plan.proofs.Within.{cpus_within, limit_within, objects_within, devices_within, apps_within, registers_within, classes_within, picks_within}

-- the numbers of a plan and the lengths of its lists are within the limits
pub record IsBounded (plan : Plan) : Type 0 where
  pub cpus : IsTrue (is_from 1 8 plan.cpus)
  pub limit : IsTrue (is_from 1 200000 plan.limit)
  pub objects : IsTrue (is_from 1 4096 plan.objects)
  -- the declared objects and the driver object count
  pub counted : IsTrue (nat_le (length plan.declared) plan.objects)
  pub devices : IsTrue (nat_le (length (filter_map device_name plan.declared)) 8)
  pub apps : IsTrue (nat_le (app_count plan) 256)
  pub registers : IsTrue (nat_le (length plan.registers) 64)
  pub classes : IsTrue (nat_le (length plan.classes) 256)
  pub picks : IsTrue (nat_le (length plan.picks) 200000)

-- ---- which lines have items

-- a line that declares an object gives one
pub object_tells : (scene : Scene) (names : List Declaration) (p : Placed) (b : ℕ) (form : SceneLine) → is_some (object_of scene names p b form) ≡ is_object form
unfolding object_of is_object
object_tells scene names p b (line.Device n working) = refl
object_tells scene names p b (line.Queue n dispatch) = refl
object_tells scene names p b (line.Interrupt n l) = refl
object_tells scene names p b (line.Target n delay status depth) = refl
object_tells scene names p b _ = refl

device_tells : (scene : Scene) (names : List Declaration) (p : Placed) (b : ℕ) (form : SceneLine) → is_some (option_and_then device_name (object_of scene names p b form)) ≡ is_device form
unfolding object_of is_device
device_tells scene names p b (line.Device n working) = refl
device_tells scene names p b (line.Queue n dispatch) = refl
device_tells scene names p b (line.Interrupt n l) = refl
device_tells scene names p b (line.Target n delay status depth) = refl
device_tells scene names p b _ = refl

class_tells : (scene : Scene) (names : List Declaration) (p : Placed) (form : SceneLine) → is_some (class_on scene names p form) ≡ is_class form
unfolding class_on is_class
class_tells scene names p (line.Class n k) = refl
class_tells scene names p (line.DeferredClass n k parent) = refl
class_tells scene names p _ = refl

-- a line that declares a register gives one
pub register_tells : (names : List Declaration) (p : Placed) (form : SceneLine) → is_some (register_on names p form) ≡ is_register form
unfolding register_on is_register
register_tells names p (line.Register n v) = refl
register_tells names p _ = refl

app_tells : (scene : Scene) (names : List Declaration) (p : Placed) (form : SceneLine) → is_some (app_agent scene names p form) ≡ is_app form
unfolding app_agent is_app
app_tells scene names p (line.App n) = refl
app_tells scene names p _ = refl

-- ---- the numbers of the first three lines

-- the numbers of the first three lines
record AreWithin (scene : Scene) (a b c : NumberedLine) : Type 0 where
  cpus : over_cpus a.form ≡ false
  limit : over_limit b.form ≡ false
  objects : over_objects (declarations scene) c.form ≡ false

heads_within : (scene : Scene) (lines : List NumberedLine) (a b c : NumberedLine) (rest : List NumberedLine) → lines ≡ a ∷ b ∷ c ∷ rest → Every (IsAccepted scene) (placed_from 0 outside nothing lines) → AreWithin scene a b c
unfolding placed_from
heads_within scene lines a b c rest are each =
    let h = rw are at each in
    record { cpus = cpus_within scene _ h.0; limit = limit_within scene _ h.1.0; objects = objects_within scene _ h.1.1.0 }

cpus_bound : (form : SceneLine) (n : ℕ) → form ≡ line.Cpus n → over_cpus form ≡ false → is_from 1 8 n ≡ true
unfolding over_cpus
cpus_bound form n e h = not-false (is_from 1 8 n) (rw e at h)

limit_bound : (form : SceneLine) (n : ℕ) → form ≡ line.Limit n → over_limit form ≡ false → is_from 1 200000 n ≡ true
unfolding over_limit
limit_bound form n e h = not-false (is_from 1 200000 n) (rw e at h)

objects_bound : (names : List Declaration) (form : SceneLine) (n : ℕ) → form ≡ line.Objects n → over_objects names form ≡ false → (is_from 1 4096 n ≡ true) × (object_count names < n)
unfolding over_objects
objects_bound names form n e h =
    let both = or_parts (not (is_from 1 4096 n)) (nat_le n (object_count names)) (rw e at h) in
    (not-false (is_from 1 4096 n) both.0, leb-false n (object_count names) both.1)

-- ---- how many objects are declared

-- whether a declaration is there and passes
abbrev passes : (Declaration → Bool) → Option Declaration → Bool
passes p None = false
passes p (Some d) = p d

count_step : {X : Type 0} (p : Declaration → Bool) (a : Option X) (b : Option Declaration) (xs : List X) (ds : List Declaration) → is_some a ≡ passes p b → length xs ≡ count_by p ds → length (cons_option a xs) ≡ count_by p (cons_option b ds)
count_step p None None xs ds e f = f
count_step p (Some x) None xs ds e f = absurd (let z : ⊥ = cc in z)
count_step p None (Some d) xs ds e f = rw (sum_by-cons (λ x. cond (p x) 1 0) d ds, ← e) (omega (arith, f))
count_step p (Some x) (Some d) xs ds e f = rw (sum_by-cons (λ x. cond (p x) 1 0) d ds, ← e) (omega (arith, f))

counted_as : {P X : Type 0} (f : P → Option X) (g : P → Option Declaration) (p : Declaration → Bool) → ((x : P) → is_some (f x) ≡ passes p (g x)) → (ps : List P) → length (filter_map f ps) ≡ count_by p (filter_map g ps)
counted_as f g p e [] = refl
counted_as f g p e (x ∷ xs) =
    count_step p (f x) (g x) (filter_map f xs) (filter_map g xs) (e x) (counted_as f g p e xs)

declared_is : (scene : Scene) (names : List Declaration) (p : Placed) (b : ℕ) (form : SceneLine) → is_some (object_of scene names p b form) ≡ passes declares_object (declared_by p form)
unfolding object_of declared_by
declared_is scene names p b (line.Device n working) = refl
declared_is scene names p b (line.Queue n dispatch) = refl
declared_is scene names p b (line.Interrupt n l) = refl
declared_is scene names p b (line.Target n delay status depth) = refl
declared_is scene names p b (line.Class n k) = refl
declared_is scene names p b (line.DeferredClass n k parent) = refl
declared_is scene names p b (line.Register n v) = refl
declared_is scene names p b (line.App n) = refl
declared_is scene names p b _ = refl

object_length : (scene : Scene) (names : List Declaration) → length (filter_map (object_on scene names) (placed scene)) ≡ object_count (declarations scene)
unfolding object_count declarations
object_length scene names =
    counted_as (object_on scene names) declared_on declares_object (λ p. declared_is scene names p p.at p.form) (placed scene)

-- ---- the bounds

devices_bound : (scene : Scene) → Every (IsAccepted scene) (placed scene) → length (filter_map device_name (all_objects scene (declarations scene))) ≤ 8
unfolding placed counted
devices_bound scene each =
    rw (device_list scene (declarations scene)) (from_zero _ _ _ refl (bounded is_device (λ c. c.devices) (λ p. option_and_then device_name (object_on scene (declarations scene) p)) 8 (λ c f n. refl) (λ p. device_tells scene (declarations scene) p p.at p.form) 0 outside nothing scene.lines (omega arith) (every_map (IsAccepted scene) (λ p. is_one_too_many (is_device p.form) 8 p.counts.devices ≡ false) (devices_within scene) (placed scene) each)))

apps_bound : (scene : Scene) → Every (IsAccepted scene) (placed scene) → length (filter_map (λ p. app_agent scene (declarations scene) p p.form) (placed scene)) ≤ 256
unfolding placed counted
apps_bound scene each =
    from_zero _ _ _ refl (bounded is_app (λ c. c.apps) (λ p. app_agent scene (declarations scene) p p.form) 256 (λ c f n. refl) (λ p. app_tells scene (declarations scene) p p.form) 0 outside nothing scene.lines (omega arith) (every_map (IsAccepted scene) (λ p. is_one_too_many (is_app p.form) 256 p.counts.apps ≡ false) (apps_within scene) (placed scene) each))

registers_bound : (scene : Scene) → Every (IsAccepted scene) (placed scene) → length (filter_map (λ p. register_on (declarations scene) p p.form) (placed scene)) ≤ 64
unfolding placed counted
registers_bound scene each =
    from_zero _ _ _ refl (bounded is_register (λ c. c.registers) (λ p. register_on (declarations scene) p p.form) 64 (λ c f n. refl) (λ p. register_tells (declarations scene) p p.form) 0 outside nothing scene.lines (omega arith) (every_map (IsAccepted scene) (λ p. is_one_too_many (is_register p.form) 64 p.counts.registers ≡ false) (registers_within scene) (placed scene) each))

classes_bound : (scene : Scene) → Every (IsAccepted scene) (placed scene) → length (filter_map (λ p. class_on scene (declarations scene) p p.form) (placed scene)) ≤ 256
unfolding placed counted
classes_bound scene each =
    from_zero _ _ _ refl (bounded is_class (λ c. c.classes) (λ p. class_on scene (declarations scene) p p.form) 256 (λ c f n. refl) (λ p. class_tells scene (declarations scene) p p.form) 0 outside nothing scene.lines (omega arith) (every_map (IsAccepted scene) (λ p. is_one_too_many (is_class p.form) 256 p.counts.classes ≡ false) (classes_within scene) (placed scene) each))

picks_bound : (scene : Scene) → Every (IsAccepted scene) (placed scene) → length (flat_map line_picks scene.lines) ≤ 200000
unfolding placed
picks_bound scene each =
    from_zero _ _ _ refl (picks_bounded 0 outside nothing scene.lines (omega arith) (every_map (IsAccepted scene) (λ p. over_picks p ≡ false) (picks_within scene) (placed scene) each))

counted_bound : (scene : Scene) (n : ℕ) → object_count (declarations scene) < n → length (all_objects scene (declarations scene)) ≤ n
unfolding all_objects
counted_bound scene n h =
    let same : length (filter_map (object_on scene (declarations scene)) (placed scene)) ≡ object_count (declarations scene) = object_length scene (declarations scene) in
    omega arith

-- a plan is within the limits
pub plan_bounded : (scene : Scene) → IsScene scene → first_refusal scene ≡ None → IsBounded (plan_of scene)
unfolding plan_of plan_with placed
plan_bounded scene s e =
    let each = each_accepted scene e in
    let h = scene_head scene s in
    let w = heads_within scene scene.lines h.first h.second h.third h.rest h.are each in
    let o = objects_bound (declarations scene) h.third.form h.objects h.is_objects w.objects in
    let apps : app_count (plan_of scene) ≤ 256 = rw (app_length scene) (apps_bound scene each) in
    record {
      cpus = rw (first_header scene h) (cpus_bound h.first.form h.cpus h.is_cpus w.cpus);
      limit = rw (second_header scene h) (limit_bound h.second.form h.limit h.is_limit w.limit);
      objects = rw (third_header scene h) o.0;
      counted = rw (third_header scene h) (le-leb _ _ (counted_bound scene h.objects o.1));
      devices = le-leb _ _ (devices_bound scene each);
      apps = le-leb _ _ apps;
      registers = le-leb _ _ (registers_bound scene each);
      classes = le-leb _ _ (classes_bound scene each);
      picks = le-leb _ _ (picks_bound scene each);
    }
