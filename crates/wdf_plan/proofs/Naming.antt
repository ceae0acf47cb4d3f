-- The names of the plan of a scene that nothing refuses.
use Rattle.std.proofs.Common.{◌≡◌, ℕ, suc, ◌+◌, ◌<◌, ◌≤◌, Bool, true, false, not, ◌&&◌, List, [], ◌∷◌, ◌++◌, map, drop, length, Option, Some, None, IsTrue, slice_get, refl, ap, sym, ◌∙◌, arith, append_assoc}
use Rattle.std.proofs.lemmas.Bool.{le-leb, lt-ltb, and_parts}
use Rattle.std.proofs.lemmas.List.{drop_at, map-append, length-map}
use Rattle.std.specs.Prelude.{option_and_then, option_map, nat_le, nat_lt, codes, ◌==◌}
use Rattle.std.specs.List.{filter_map, list_all}
use Rattle.std.specs.Str.{bytes_eq}
use Rattle.wdf_base.specs.Kinds.{declared_name as object_name, class_name}
use Rattle.wdf_base.specs.declared.plan.Plan.{Plan}
use Rattle.wdf_base.specs.Resolved.{all_differ, is_name, is_reserved, device_name, target_name, posting_names, app_count, agent_name, register_name, used_names}
use Rattle.wdf_scene.specs.declared.line.SceneLine.{SceneLine}
use Rattle.wdf_scene.specs.declared.line.SceneLine.TheVariants as line
use Rattle.wdf_scene.specs.declared.scene.Scene.{Scene}
use Rattle.wdf_scene.specs.Naming.{HasProperNames, is_proper_name}
use Rattle.wdf_blocks.specs.declared.declaration.Declaration.{Declaration}
use Rattle.wdf_blocks.specs.declared.declaration.Thing.{Thing}
use Rattle.wdf_blocks.specs.declared.declaration.Thing.TheVariants as thing
use Rattle.wdf_blocks.specs.declared.placed.Placed.{Placed}
use Rattle.wdf_blocks.specs.Declarations.{declarations, declared_by, declared_on, is_object, declares_object, is_register}
use Rattle.wdf_refusals.specs.First.{first_refusal}
use Rattle.wdf_refusals.specs.Numbers.{name_number}
use Rattle.wdf_plan.specs.Parts.{object_of, object_on, device_info, queue_info, interrupt_info, target_info, class_on, register_on, app_agent, device_agent, target_agent}
use Rattle.wdf_blocks.specs.Placed.{placed}
use Rattle.wdf_plan.specs.Plans.{name_in, all_objects, all_agents, plan_with, plan_of}
use Rattle.wdf_plan.proofs.Accepted.{each_accepted}
use Rattle.wdf_plan.proofs.AgentLists.{app_length, apps_are}
use Rattle.wdf_plan.proofs.Distinct.{all_distinct, all_free, all_proper, differ, none_any, all_names, word_free}
use Rattle.wdf_refusals.proofs.Every.{Every, every_map, composed, mapped, every_append}
use Rattle.wdf_plan.proofs.Numbering.{AreNumbered, IsWithin, number_if, numbers_of, numbers, within, numbers_differ, apart, differ_append}

-- the names are names of the language, each once, and everything that is declared has its own
pub record IsNamed (plan : Plan) : Type 0 where
  pub driver : slice_get plan.names 0 ≡ Some (codes "driver")
  pub request : slice_get plan.names 1 ≡ Some (codes "req")
  pub plain : IsTrue (list_all is_name plan.names)
  pub short : IsTrue (list_all (λ n. nat_le (length n) 32) plan.names)
  pub differ : IsTrue (all_differ bytes_eq plan.names)
  pub free : IsTrue (list_all (λ n. not (is_reserved n)) (drop 2 plan.names))
  pub used : IsTrue (all_differ ◌==◌ (used_names plan))
  pub there : IsTrue (list_all (λ n. nat_le 2 n && nat_lt n (length plan.names)) (used_names plan))
  pub agents_end : drop (app_count plan) (map agent_name plan.agents) ≡ posting_names plan

-- ---- what the names of a list are declared as

-- whether a class is declared
abbrev is_class_thing : Thing → Bool
is_class_thing (thing.Class k) = true
is_class_thing _ = false

abbrev is_class_name : Declaration → Bool
is_class_name d = is_class_thing d.thing

abbrev is_register_name : Declaration → Bool
is_register_name d = is_register d.thing

-- whether an app is declared
abbrev is_app_thing : Thing → Bool
is_app_thing thing.App = true
is_app_thing _ = false

abbrev is_app_name : Declaration → Bool
is_app_name d = is_app_thing d.thing

no_object_class : (t : Thing) → is_object t ≡ true → is_class_thing t ≡ true → ⊥
no_object_class (thing.Class k) h g = let z : ⊥ = cc in z
no_object_class _ h g = let z : ⊥ = cc in z

no_register : (t : Thing) → is_object t ≡ true → is_register t ≡ true → ⊥
no_register thing.Register h g = let z : ⊥ = cc in z
no_register _ h g = let z : ⊥ = cc in z

no_class_register : (t : Thing) → is_class_thing t ≡ true → is_register t ≡ true → ⊥
no_class_register (thing.Class k) h g = let z : ⊥ = cc in z
no_class_register _ h g = let z : ⊥ = cc in z

no_object_app : (t : Thing) → is_object t ≡ true → is_app_thing t ≡ true → ⊥
no_object_app thing.App h g = let z : ⊥ = cc in z
no_object_app _ h g = let z : ⊥ = cc in z

no_class_app : (t : Thing) → is_class_thing t ≡ true → is_app_thing t ≡ true → ⊥
no_class_app (thing.Class k) h g = let z : ⊥ = cc in z
no_class_app _ h g = let z : ⊥ = cc in z

no_register_app : (t : Thing) → is_register t ≡ true → is_app_thing t ≡ true → ⊥
no_register_app thing.Register h g = let z : ⊥ = cc in z
no_register_app _ h g = let z : ⊥ = cc in z

-- ---- the numbers in each list

object_number : (scene : Scene) (names : List Declaration) (p : Placed) (b : ℕ) (form : SceneLine) → option_and_then object_name (object_of scene names p b form) ≡ option_and_then (number_if (λ d. name_number names d.name) declares_object) (declared_by p form)
unfolding object_of declared_by device_info queue_info interrupt_info target_info
object_number scene names p b (line.Device n working) = refl
object_number scene names p b (line.Queue n dispatch) = refl
object_number scene names p b (line.Interrupt n l) = refl
object_number scene names p b (line.Target n delay status depth) = refl
object_number scene names p b (line.Class n k) = refl
object_number scene names p b (line.DeferredClass n k parent) = refl
object_number scene names p b (line.Register n v) = refl
object_number scene names p b (line.App n) = refl
object_number scene names p b _ = refl

class_number : (scene : Scene) (names : List Declaration) (p : Placed) (form : SceneLine) → option_map class_name (class_on scene names p form) ≡ option_and_then (number_if (λ d. name_number names d.name) is_class_name) (declared_by p form)
unfolding class_on declared_by
class_number scene names p (line.Device n working) = refl
class_number scene names p (line.Queue n dispatch) = refl
class_number scene names p (line.Interrupt n l) = refl
class_number scene names p (line.Target n delay status depth) = refl
class_number scene names p (line.Class n k) = refl
class_number scene names p (line.DeferredClass n k parent) = refl
class_number scene names p (line.Register n v) = refl
class_number scene names p (line.App n) = refl
class_number scene names p _ = refl

register_number : (names : List Declaration) (p : Placed) (form : SceneLine) → option_map register_name (register_on names p form) ≡ option_and_then (number_if (λ d. name_number names d.name) is_register_name) (declared_by p form)
unfolding register_on declared_by
register_number names p (line.Device n working) = refl
register_number names p (line.Queue n dispatch) = refl
register_number names p (line.Interrupt n l) = refl
register_number names p (line.Target n delay status depth) = refl
register_number names p (line.Class n k) = refl
register_number names p (line.DeferredClass n k parent) = refl
register_number names p (line.Register n v) = refl
register_number names p (line.App n) = refl
register_number names p _ = refl

app_number : (scene : Scene) (names : List Declaration) (p : Placed) (form : SceneLine) → option_map agent_name (app_agent scene names p form) ≡ option_and_then (number_if (λ d. name_number names d.name) is_app_name) (declared_by p form)
unfolding app_agent declared_by
app_number scene names p (line.Device n working) = refl
app_number scene names p (line.Queue n dispatch) = refl
app_number scene names p (line.Interrupt n l) = refl
app_number scene names p (line.Target n delay status depth) = refl
app_number scene names p (line.Class n k) = refl
app_number scene names p (line.DeferredClass n k parent) = refl
app_number scene names p (line.Register n v) = refl
app_number scene names p (line.App n) = refl
app_number scene names p _ = refl

device_agent_name : (scene : Scene) (names : List Declaration) (p : Placed) (b : ℕ) (form : SceneLine) → option_map agent_name (device_agent scene names p form) ≡ option_and_then device_name (object_of scene names p b form)
unfolding object_of device_agent device_info
device_agent_name scene names p b (line.Device n working) = refl
device_agent_name scene names p b (line.Queue n dispatch) = refl
device_agent_name scene names p b (line.Interrupt n l) = refl
device_agent_name scene names p b (line.Target n delay status depth) = refl
device_agent_name scene names p b _ = refl

target_agent_name : (scene : Scene) (names : List Declaration) (p : Placed) (b : ℕ) (form : SceneLine) → option_map agent_name (target_agent names form) ≡ option_and_then target_name (object_of scene names p b form)
unfolding object_of target_agent target_info
target_agent_name scene names p b (line.Device n working) = refl
target_agent_name scene names p b (line.Queue n dispatch) = refl
target_agent_name scene names p b (line.Interrupt n l) = refl
target_agent_name scene names p b (line.Target n delay status depth) = refl
target_agent_name scene names p b _ = refl

-- the numbers of those that pass, line by line
abbrev number_on : List Declaration → (Declaration → Bool) → Placed → Option ℕ
number_on names t p = option_and_then (number_if (λ d. name_number names d.name) t) (declared_on p)

by_lines : (scene : Scene) (names : List Declaration) (t : Declaration → Bool) → numbers_of (λ d. name_number names d.name) t (declarations scene) ≡ filter_map (number_on names t) (placed scene)
unfolding declarations
by_lines scene names t =
    composed declared_on (number_if (λ d. name_number names d.name) t) (number_on names t) (λ p. refl) (placed scene)

object_numbers : (scene : Scene) (names : List Declaration) → filter_map object_name (filter_map (object_on scene names) (placed scene)) ≡ numbers_of (λ d. name_number names d.name) declares_object (declarations scene)
object_numbers scene names =
    composed (object_on scene names) object_name (number_on names declares_object) (λ p. object_number scene names p p.at p.form) (placed scene) ∙ sym (by_lines scene names declares_object)

class_numbers : (scene : Scene) (names : List Declaration) → map class_name (filter_map (λ p. class_on scene names p p.form) (placed scene)) ≡ numbers_of (λ d. name_number names d.name) is_class_name (declarations scene)
class_numbers scene names =
    mapped (λ p. class_on scene names p p.form) class_name (number_on names is_class_name) (λ p. class_number scene names p p.form) (placed scene) ∙ sym (by_lines scene names is_class_name)

register_numbers : (scene : Scene) (names : List Declaration) → map register_name (filter_map (λ p. register_on names p p.form) (placed scene)) ≡ numbers_of (λ d. name_number names d.name) is_register_name (declarations scene)
register_numbers scene names =
    mapped (λ p. register_on names p p.form) register_name (number_on names is_register_name) (λ p. register_number names p p.form) (placed scene) ∙ sym (by_lines scene names is_register_name)

app_numbers : (scene : Scene) (names : List Declaration) → map agent_name (filter_map (λ p. app_agent scene names p p.form) (placed scene)) ≡ numbers_of (λ d. name_number names d.name) is_app_name (declarations scene)
app_numbers scene names =
    mapped (λ p. app_agent scene names p p.form) agent_name (number_on names is_app_name) (λ p. app_number scene names p p.form) (placed scene) ∙ sym (by_lines scene names is_app_name)

-- ---- the names of the agents after the apps

rest_are : (scene : Scene) → drop (app_count (plan_of scene)) (map agent_name (plan_of scene).agents) ≡ posting_names (plan_of scene)
unfolding plan_of plan_with all_agents all_objects
rest_are scene =
    let names = declarations scene in
    let as' = filter_map (λ p. app_agent scene names p p.form) (placed scene) in
    let ds = filter_map (λ p. device_agent scene names p p.form) (placed scene) in
    let ts = filter_map (λ p. target_agent names p.form) (placed scene) in
    let shape : map agent_name ((as' ++ ds) ++ ts) ≡ map agent_name as' ++ (map agent_name ds ++ map agent_name ts) =
    ap (map agent_name) (append_assoc as' ds ts) ∙ (map-append agent_name as' (ds ++ ts) ∙ ap (λ x. map agent_name as' ++ x) (map-append agent_name ds ts)) in
    let long : length (map agent_name as') ≡ app_count (plan_of scene) = length-map as' agent_name ∙ sym (app_length scene) in
    let back : drop (app_count (plan_of scene)) (map agent_name as' ++ (map agent_name ds ++ map agent_name ts)) ≡ map agent_name ds ++ map agent_name ts =
    drop_at (map agent_name as') (map agent_name ds ++ map agent_name ts) (app_count (plan_of scene)) long in
    let devices : map agent_name ds ≡ filter_map device_name (filter_map (object_on scene names) (placed scene)) =
    mapped (λ p. device_agent scene names p p.form) agent_name (λ p. option_and_then device_name (object_on scene names p)) (λ p. device_agent_name scene names p p.at p.form) (placed scene) ∙ sym (composed (object_on scene names) device_name (λ p. option_and_then device_name (object_on scene names p)) (λ p. refl) (placed scene)) in
    let targets : map agent_name ts ≡ filter_map target_name (filter_map (object_on scene names) (placed scene)) =
    mapped (λ p. target_agent names p.form) agent_name (λ p. option_and_then target_name (object_on scene names p)) (λ p. target_agent_name scene names p p.at p.form) (placed scene) ∙ sym (composed (object_on scene names) target_name (λ p. option_and_then target_name (object_on scene names p)) (λ p. refl) (placed scene)) in
    ap (drop (app_count (plan_of scene))) shape ∙ (back ∙ rw (devices, targets) refl)

-- ---- the numbers that are used

-- the numbers of all that is declared
abbrev used_from : (Declaration → ℕ) → List Declaration → List ℕ
used_from num ds =
    numbers_of num declares_object ds ++ numbers_of num is_class_name ds ++ numbers_of num is_register_name ds ++ numbers_of num is_app_name ds

joined : (o c r a o' c' r' a' : List ℕ) → o ≡ o' → c ≡ c' → r ≡ r' → a ≡ a' → o ++ c ++ r ++ a ≡ o' ++ c' ++ r' ++ a'
joined o c r a o' c' r' a' e f g h = rw (e, f, g, h) refl

used_are : (scene : Scene) → used_names (plan_of scene) ≡ used_from (λ d. name_number (declarations scene) d.name) (declarations scene)
unfolding plan_of plan_with all_objects
used_are scene =
    joined _ _ _ _ _ _ _ _ (object_numbers scene (declarations scene)) (class_numbers scene (declarations scene)) (register_numbers scene (declarations scene)) (ap (map agent_name) (apps_are scene) ∙ app_numbers scene (declarations scene))

used_differ : (num : Declaration → ℕ) (ds : List Declaration) → AreNumbered num 0 ds → all_differ ◌==◌ (used_from num ds) ≡ true
used_differ num ds h =
    let o = numbers_of num declares_object ds in
    let c = numbers_of num is_class_name ds in
    let r = numbers_of num is_register_name ds in
    let a = numbers_of num is_app_name ds in
    let oc = differ_append o c (numbers_differ num declares_object 0 ds h) (numbers_differ num is_class_name 0 ds h) (apart num declares_object is_class_name (λ d. no_object_class d.thing) 0 ds h) in
    let ocr = differ_append (o ++ c) r oc (numbers_differ num is_register_name 0 ds h) (every_append _ o c (apart num declares_object is_register_name (λ d. no_register d.thing) 0 ds h) (apart num is_class_name is_register_name (λ d. no_class_register d.thing) 0 ds h)) in
    differ_append (o ++ c ++ r) a ocr (numbers_differ num is_app_name 0 ds h) (every_append _ (o ++ c) r (every_append _ o c (apart num declares_object is_app_name (λ d. no_object_app d.thing) 0 ds h) (apart num is_class_name is_app_name (λ d. no_class_app d.thing) 0 ds h)) (apart num is_register_name is_app_name (λ d. no_register_app d.thing) 0 ds h))

is_there : (len total : ℕ) (ns : List ℕ) → total ≡ suc (suc len) → Every (IsWithin 0 len) ns → list_all (λ n. nat_le 2 n && nat_lt n total) ns ≡ true
is_there len total [] e h = refl
is_there len total (n ∷ ns) e h =
    let low : 0 + 2 ≤ n = h.0.0 in
    let high : n < 0 + 2 + len = h.0.1 in
    rw (le-leb 2 n (omega arith), lt-ltb n total (omega arith), is_there len total ns e h.1) refl

used_there : (num : Declaration → ℕ) (ds : List Declaration) (total : ℕ) → AreNumbered num 0 ds → total ≡ suc (suc (length ds)) → list_all (λ n. nat_le 2 n && nat_lt n total) (used_from num ds) ≡ true
used_there num ds total h e =
    let o = numbers_of num declares_object ds in
    let c = numbers_of num is_class_name ds in
    let r = numbers_of num is_register_name ds in
    let a = numbers_of num is_app_name ds in
    is_there (length ds) total (o ++ c ++ r ++ a) e (every_append (IsWithin 0 (length ds)) (o ++ c ++ r) a (every_append (IsWithin 0 (length ds)) (o ++ c) r (every_append (IsWithin 0 (length ds)) o c (within num declares_object 0 ds h) (within num is_class_name 0 ds h)) (within num is_register_name 0 ds h)) (within num is_app_name 0 ds h))

-- ---- the whole

free_of : (w : List ℕ) (ds : List Declaration) → is_reserved w ≡ true → Every (λ d. is_reserved d.name ≡ false) ds → Every (λ d. bytes_eq w d.name ≡ false) ds
free_of w ds taken free =
    every_map (λ d. is_reserved d.name ≡ false) (λ d. bytes_eq w d.name ≡ false) (λ d h. word_free w d.name taken h) ds free

not_free : (b : Bool) → b ≡ false → not b ≡ true
not_free b e = rw e refl

-- the names of a plan
pub plan_named : (scene : Scene) → HasProperNames scene → first_refusal scene ≡ None → IsNamed (plan_of scene)
unfolding plan_of plan_with
plan_named scene proper e =
    let each = each_accepted scene e in
    let ds = declarations scene in
    let apart' = all_distinct scene each in
    let free = all_free scene each in
    let words = all_proper scene proper in
    let num : AreNumbered (λ d. name_number ds d.name) 0 ds = numbers ds apart' in
    record {
      driver = refl;
      request = refl;
      plain = all_names is_name ds (every_map (λ d. is_proper_name d.name ≡ true) (λ d. is_name d.name ≡ true) (λ d h. (and_parts (is_name d.name) (nat_le (length d.name) 32) h).0) ds words);
      short = all_names (λ n. nat_le (length n) 32) ds (every_map (λ d. is_proper_name d.name ≡ true) (λ d. nat_le (length d.name) 32 ≡ true) (λ d h. (and_parts (is_name d.name) (nat_le (length d.name) 32) h).1) ds words);
      differ = rw (none_any (codes "driver") ds (free_of (codes "driver") ds refl free), none_any (codes "req") ds (free_of (codes "req") ds refl free), differ ds apart') refl;
      free = all_names (λ n. not (is_reserved n)) ds (every_map (λ d. is_reserved d.name ≡ false) (λ d. not (is_reserved d.name) ≡ true) (λ d h. not_free (is_reserved d.name) h) ds free);
      used = rw (used_are scene) (used_differ (λ d. name_number ds d.name) ds num);
      there = rw (used_are scene) (used_there (λ d. name_number ds d.name) ds _ num (ap suc (ap suc (length-map ds name_in))));
      agents_end = rest_are scene;
    }
