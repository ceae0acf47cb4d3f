-- What each line gives the plan, written out again, is the line.
use Rattle.std.proofs.Common.{◌≡◌, ℕ, suc, ◌≤◌, Bool, true, false, not, ◌&&◌, nat_le, List, [], ◌∷◌, map, length, Option, Some, None, refl, ap, sym, ◌∙◌, arith}
use Rattle.std.proofs.lemmas.Bool.{and_parts, or_parts, not-false, leb-true, ne_eqb}
use Rattle.std.specs.Prelude.{option_map, ◌==◌, codes}
use Rattle.std.specs.List.{filter_map, flat_map, cons_option}
use Rattle.wdf_base.specs.Resolved.{is_from}
use Rattle.wdf_scene.specs.declared.line.InterruptLevel.{InterruptLevel}
use Rattle.wdf_scene.specs.declared.line.InterruptLevel.TheVariants as level
use Rattle.wdf_scene.specs.declared.line.NumberedLine.{NumberedLine}
use Rattle.wdf_scene.specs.declared.line.SceneAction.{SceneAction}
use Rattle.wdf_scene.specs.declared.line.SceneAction.TheVariants as action
use Rattle.wdf_scene.specs.declared.line.SceneLine.{SceneLine}
use Rattle.wdf_scene.specs.declared.line.SceneLine.TheVariants as line
use Rattle.wdf_scene.specs.declared.scene.Scene.{Scene}
use Rattle.wdf_scene.specs.Naming.{declared_name}
use Rattle.wdf_blocks.specs.declared.declaration.Declaration.{Declaration}
use Rattle.wdf_blocks.specs.declared.declaration.Wanted.TheVariants as wanted
use Rattle.wdf_blocks.specs.declared.placed.Counts.{Counts}
use Rattle.wdf_blocks.specs.declared.placed.Placed.{Placed}
use Rattle.wdf_blocks.specs.declared.placed.Stand.{Stand}
use Rattle.wdf_blocks.specs.Declarations.{declarations, declared_by, declared_on, stands}
use Rattle.wdf_refusals.specs.First.{first_refusal}
use Rattle.wdf_plan.specs.Flow.{numbered}
use Rattle.wdf_blocks.specs.Forms.{is_object, is_class, is_register}
use Rattle.wdf_refusals.specs.Limits.{over_level}
use Rattle.wdf_refusals.specs.Numbers.{handle_of, action_of}
use Rattle.wdf_plan.specs.Parts.{object_of, object_on, device_info, queue_info, interrupt_info, target_info, irql_of, class_on, register_on, when_on, pnp_post, app_post, device_post}
use Rattle.wdf_blocks.specs.Placed.{opened_by, counted, placed_from, placed, outside, nothing}
use Rattle.wdf_plan.specs.Plans.{name_in, plan_with, plan_of, all_objects}
use Rattle.wdf_refusals.specs.Rows.{unknown_word, unknown_action, unknown_parent, lacks_parent, no_parent}
use Rattle.wdf_plan.proofs.Accepted.{IsAccepted, each_accepted, word_known}
use Rattle.wdf_refusals.proofs.Every.{Every, every_map, every_both, every_any}
use Rattle.wdf_plan.proofs.Within.{level_within}
use Rattle.law_plan.specs.Told.{is_when, is_ask, is_app_post, is_device_post, kept_form, kept_line, forms_that, lines_that, names_declared}
use Rattle.law_plan.specs.WrittenOut.{object_text, level_text, object_line, class_line, register_line, action_text, when_line, post_line}
use Rattle.law_plan.proofs.NameTexts.{LineTold, lines_told, object_told, needs_device, needs_parent, needs_interrupt, register_told, needs_register_of}

-- ---- lists of lines

made_step : {T U : Type 0} (g : T → U) (o : Option T) (ts : List T) → map g (cons_option o ts) ≡ cons_option (option_map g o) (map g ts)
made_step g None ts = refl
made_step g (Some t) ts = refl

-- what is made of what is gathered, where each line says it
pub made : {P T U : Type 0} (f : P → Option T) (g : T → U) (h : P → Option U) (ps : List P) → Every (λ p. option_map g (f p) ≡ h p) ps → map g (filter_map f ps) ≡ filter_map h ps
made f g h [] e = refl
made f g h (p ∷ ps) e = made_step g (f p) (filter_map f ps) ∙ rw (e.0, made f g h ps e.1) refl

-- what lines say by their numbers and forms alone
pub by_lines : {T : Type 0} (h : ℕ → SceneLine → Option T) (k : ℕ) (o : Stand) (c : Counts) (ls : List NumberedLine) → filter_map (λ p. h p.number p.form) (placed_from k o c ls) ≡ filter_map (λ l. h l.number l.form) ls
unfolding placed_from
by_lines h k o c [] = refl
by_lines h k o c (l ∷ ls) =
    ap (λ ts. cons_option (h l.number l.form) ts) (by_lines h (suc k) (opened_by o k l.form) (counted c l.form (length l.picks)) ls)

pub of_scene : {T : Type 0} (h : ℕ → SceneLine → Option T) (scene : Scene) → filter_map (λ p. h p.number p.form) (placed scene) ≡ filter_map (λ l. h l.number l.form) scene.lines
unfolding placed
of_scene h scene = by_lines h 0 outside nothing scene.lines

-- ---- names

declared_same : (p : Placed) (form : SceneLine) → option_map name_in (declared_by p form) ≡ declared_name form
unfolding declared_by declared_name
declared_same p (line.App n) = refl
declared_same p _ = refl

pub names_are : (scene : Scene) → map name_in (declarations scene) ≡ names_declared scene.lines
unfolding declarations
names_are scene =
    made declared_on name_in (λ p. declared_name p.form) (placed scene) (every_any (λ p. option_map name_in (declared_on p) ≡ declared_name p.form) (λ p. declared_same p p.form) (placed scene))
    ∙ of_scene (λ n form. declared_name form) scene

-- the names of a plan
pub plan_names : (scene : Scene) → (plan_of scene).names ≡ codes "driver" ∷ codes "req" ∷ names_declared scene.lines
unfolding plan_of plan_with
plan_names scene = ap (λ ns. codes "driver" ∷ codes "req" ∷ ns) (names_are scene)

-- its picks
pub plan_picks : (scene : Scene) → (plan_of scene).picks ≡ flat_map (λ l. l.picks) scene.lines
unfolding plan_of plan_with
plan_picks scene = refl

-- ---- objects

level_step : (l : ℕ) → is_from 3 12 l ≡ true → (l == 0) ≡ false
level_step l h =
    let low : 3 ≤ l = leb-true 3 l (and_parts (nat_le 3 l) (nat_le l 12) h).0 in
    ne_eqb l 0 (λ e. absurd (omega arith))

level_same : (n : List ℕ) (l : InterruptLevel) → over_level (line.Interrupt n l) ≡ false → level_text (irql_of l) ≡ l
unfolding over_level
level_same n (level.Numbered l) h = rw (level_step l (not-false (is_from 3 12 l) h)) refl
level_same n level.AtPassive h = refl

object_row : (scene : Scene) (p : Placed) (form : SceneLine) → LineTold scene p form → over_level form ≡ false → option_map (object_line (plan_of scene)) (object_of scene (declarations scene) p p.at form) ≡ option_map Some (kept_form is_object form)
unfolding object_of declared_by device_info queue_info interrupt_info target_info is_object
object_row scene p (line.Device n working) t h = ap (λ m. Some (Some (line.Device m working))) (t _ refl)
object_row scene p (line.Queue n dispatch) t h =
    ap (λ m. Some (Some (line.Queue m dispatch))) (t _ refl)
object_row scene p (line.Interrupt n l) t h = rw (t _ refl, level_same n l h) refl
object_row scene p (line.Target n delay status depth) t h =
    ap (λ m. Some (Some (line.Target m delay status depth))) (t _ refl)
object_row scene p _ t h = refl

-- what is known of a line
pub record IsRow (scene : Scene) (p : Placed) : Type 0 where
  pub told : LineTold scene p p.form
  pub accepted : IsAccepted scene p

pub rows : (scene : Scene) → first_refusal scene ≡ None → Every (IsRow scene) (placed scene)
rows scene e =
    every_map (λ p. LineTold scene p p.form × IsAccepted scene p) (IsRow scene) (λ p h. record { told = h.0; accepted = h.1 }) (placed scene) (every_both (λ p. LineTold scene p p.form) (IsAccepted scene) (placed scene) (lines_told scene e) (each_accepted scene e))

pub some_map : {T U : Type 0} (h : T → Option U) (ts : List T) → filter_map (λ t. option_map Some (h t)) ts ≡ map Some (filter_map h ts)
some_map h [] = refl
some_map h (t ∷ ts) =
    ap (λ us. cons_option (option_map Some (h t)) us) (some_map h ts) ∙ sym (made_step Some (h t) (filter_map h ts))

pub objects_are : (scene : Scene) → first_refusal scene ≡ None → map (object_line (plan_of scene)) (plan_of scene).declared ≡ None ∷ map Some (forms_that is_object scene.lines)
unfolding plan_of plan_with all_objects
objects_are scene e =
    let names = declarations scene in
    ap (λ os. None ∷ os) (
    made (object_on scene names) (object_line (plan_of scene)) (λ p. option_map Some (kept_form is_object p.form)) (placed scene) (every_map (IsRow scene) (λ p. option_map (object_line (plan_of scene)) (object_on scene names p) ≡ option_map Some (kept_form is_object p.form)) (λ p h. object_row scene p p.form h.told (level_within scene p h.accepted)) (placed scene) (rows scene e))
    ∙ (of_scene (λ n form. option_map Some (kept_form is_object form)) scene ∙ some_map (λ l. kept_form is_object l.form) scene.lines)
    )

-- ---- classes and registers

-- the parent that a class names
record HasParent (names : List Declaration) (parent : Option (List ℕ)) : Type 0 where
  name : List ℕ
  is : parent ≡ Some name
  stands' : stands names name wanted.Parent ≡ true

both_stand : (a b : Bool) → not a ≡ false → (a && not b) ≡ false → b ≡ true
both_stand true true e f = refl
both_stand true false e f = absurd (let z : ⊥ = cc in z)
both_stand false b e f = absurd (let z : ⊥ = cc in z)

has_parent : (names : List Declaration) (parent : Option (List ℕ)) → unknown_parent names parent ≡ false → lacks_parent names parent ≡ false → HasParent names parent
unfolding unknown_parent
has_parent names None u l = absurd (let z : ⊥ = cc in z)
has_parent names (Some n) u l =
    record { name = n; is = refl; stands' = both_stand (stands names n wanted.Anything) (stands names n wanted.Parent) u l }

class_row : (scene : Scene) → first_refusal scene ≡ None → (p : Placed) (form : SceneLine) → LineTold scene p form → unknown_word (declarations scene) p.stand.device form ≡ false → no_parent (declarations scene) form ≡ false → option_map (class_line (plan_of scene)) (class_on scene (declarations scene) p form) ≡ kept_form is_class form
unfolding class_on declared_by is_class unknown_word no_parent
class_row scene e p (line.Class n k) t u f = ap (λ m. Some (line.Class m k)) (t _ refl)
class_row scene e p (line.DeferredClass n k parent) t u f =
    let h = has_parent (declarations scene) parent u f in
    rw (t _ refl, h.is, object_told scene e h.name wanted.Parent needs_parent h.stands') refl
class_row scene e p _ t u f = refl

pub classes_are : (scene : Scene) → first_refusal scene ≡ None → map (class_line (plan_of scene)) (plan_of scene).classes ≡ forms_that is_class scene.lines
unfolding plan_of plan_with
classes_are scene e =
    let names = declarations scene in
    made (λ p. class_on scene names p p.form) (class_line (plan_of scene)) (λ p. kept_form is_class p.form) (placed scene) (every_map (IsRow scene) (λ p. option_map (class_line (plan_of scene)) (class_on scene names p p.form) ≡ kept_form is_class p.form) (λ p h. class_row scene e p p.form h.told (word_known scene p h.accepted) h.accepted.fathered) (placed scene) (rows scene e))
    ∙ of_scene (λ n form. kept_form is_class form) scene

register_row : (scene : Scene) (p : Placed) (form : SceneLine) → LineTold scene p form → option_map (register_line (plan_of scene)) (register_on (declarations scene) p form) ≡ kept_form is_register form
unfolding register_on declared_by is_register
register_row scene p (line.Register n v) t = ap (λ m. Some (line.Register m v)) (t _ refl)
register_row scene p _ t = refl

pub registers_are : (scene : Scene) → first_refusal scene ≡ None → map (register_line (plan_of scene)) (plan_of scene).registers ≡ forms_that is_register scene.lines
unfolding plan_of plan_with
registers_are scene e =
    let names = declarations scene in
    made (λ p. register_on names p p.form) (register_line (plan_of scene)) (λ p. kept_form is_register p.form) (placed scene) (every_map (IsRow scene) (λ p. option_map (register_line (plan_of scene)) (register_on names p p.form) ≡ kept_form is_register p.form) (λ p h. register_row scene p p.form h.told) (placed scene) (rows scene e))
    ∙ of_scene (λ n form. kept_form is_register form) scene

-- ---- what devices do

action_same : (scene : Scene) → first_refusal scene ≡ None → (device : Option ℕ) (a : SceneAction) → unknown_action (declarations scene) device a ≡ false → action_text (plan_of scene) (action_of (declarations scene) device a) ≡ a
unfolding unknown_action action_of handle_of
action_same scene e device (action.Set r v) h =
    ap (λ m. action.Set m v) (register_told scene e r (wanted.RegisterOf device) (needs_register_of device) (not-false (stands (declarations scene) r (wanted.RegisterOf device)) h))
action_same scene e device (action.Raise i) h =
    ap (λ m. action.Raise m) (object_told scene e i (wanted.InterruptOf device) (needs_interrupt device) (not-false (stands (declarations scene) i (wanted.InterruptOf device)) h))
action_same scene e device (action.Lower i) h =
    ap (λ m. action.Lower m) (object_told scene e i (wanted.InterruptOf device) (needs_interrupt device) (not-false (stands (declarations scene) i (wanted.InterruptOf device)) h))

when_row : (scene : Scene) → first_refusal scene ≡ None → (number : ℕ) (device : Option ℕ) (form : SceneLine) → unknown_word (declarations scene) device form ≡ false → option_map (when_line (plan_of scene)) (when_on (declarations scene) number device form) ≡ kept_line is_when number form
unfolding when_on unknown_word
when_row scene e number device (line.When access r a after) u =
    let names = declarations scene in
    let both = or_parts (not (stands names r (wanted.RegisterOf device))) (unknown_action names device a) u in
    let register = register_told scene e r (wanted.RegisterOf device) (needs_register_of device) (not-false (stands names r (wanted.RegisterOf device)) both.0) in
    rw (register, action_same scene e device a both.1) refl
when_row scene e number device _ u = refl

pub whens_are : (scene : Scene) → first_refusal scene ≡ None → map (when_line (plan_of scene)) (plan_of scene).whens ≡ lines_that is_when scene.lines
unfolding plan_of plan_with
whens_are scene e =
    let names = declarations scene in
    made (λ p. when_on names p.number p.stand.device p.form) (when_line (plan_of scene)) (λ p. kept_line is_when p.number p.form) (placed scene) (every_map (IsRow scene) (λ p. option_map (when_line (plan_of scene)) (when_on names p.number p.stand.device p.form) ≡ kept_line is_when p.number p.form) (λ p h. when_row scene e p.number p.stand.device p.form (word_known scene p h.accepted)) (placed scene) (rows scene e))
    ∙ of_scene (λ n form. kept_line is_when n form) scene

-- ---- posts

device_same : (scene : Scene) → first_refusal scene ≡ None → (d : List ℕ) → not (stands (declarations scene) d wanted.Device) ≡ false → object_text (plan_of scene) (handle_of (declarations scene) d wanted.Device).id ≡ d
unfolding handle_of
device_same scene e d h =
    object_told scene e d wanted.Device needs_device (not-false (stands (declarations scene) d wanted.Device) h)

ask_row : (scene : Scene) → first_refusal scene ≡ None → (number : ℕ) (device : Option ℕ) (form : SceneLine) → unknown_word (declarations scene) device form ≡ false → option_map (post_line (plan_of scene)) (pnp_post (declarations scene) number form) ≡ option_map Some (kept_line is_ask number form)
unfolding pnp_post unknown_word
ask_row scene e number device (line.AtAsk tick ask d) u =
    ap (λ m. Some (Some (numbered number (line.AtAsk tick ask m)))) (device_same scene e d u)
ask_row scene e number device _ u = refl

pub asks_are : (scene : Scene) → first_refusal scene ≡ None → map (post_line (plan_of scene)) (plan_of scene).pnp ≡ map Some (lines_that is_ask scene.lines)
unfolding plan_of plan_with
asks_are scene e =
    let names = declarations scene in
    made (λ p. pnp_post names p.number p.form) (post_line (plan_of scene)) (λ p. option_map Some (kept_line is_ask p.number p.form)) (placed scene) (every_map (IsRow scene) (λ p. option_map (post_line (plan_of scene)) (pnp_post names p.number p.form) ≡ option_map Some (kept_line is_ask p.number p.form)) (λ p h. ask_row scene e p.number p.stand.device p.form (word_known scene p h.accepted)) (placed scene) (rows scene e))
    ∙ (of_scene (λ n form. option_map Some (kept_line is_ask n form)) scene ∙ some_map (λ l. kept_line is_ask l.number l.form) scene.lines)

pub app_row : (scene : Scene) → first_refusal scene ≡ None → (number : ℕ) (device : Option ℕ) (form : SceneLine) → unknown_word (declarations scene) device form ≡ false → option_map (post_line (plan_of scene)) (app_post (declarations scene) number form) ≡ option_map Some (kept_line is_app_post number form)
unfolding app_post unknown_word
app_row scene e number device (line.AtRead tick d n) u =
    ap (λ m. Some (Some (numbered number (line.AtRead tick m n)))) (device_same scene e d u)
app_row scene e number device (line.AtWrite tick d n) u =
    ap (λ m. Some (Some (numbered number (line.AtWrite tick m n)))) (device_same scene e d u)
app_row scene e number device (line.AtControl tick d code n) u =
    ap (λ m. Some (Some (numbered number (line.AtControl tick m code n)))) (device_same scene e d u)
app_row scene e number device _ u = refl

pub device_row : (scene : Scene) → first_refusal scene ≡ None → (number : ℕ) (device : Option ℕ) (form : SceneLine) → unknown_word (declarations scene) device form ≡ false → option_map (post_line (plan_of scene)) (device_post (declarations scene) number device form) ≡ option_map Some (kept_line is_device_post number form)
unfolding device_post unknown_word
device_row scene e number device (line.At tick a) u =
    ap (λ m. Some (Some (numbered number (line.At tick m)))) (action_same scene e device a u)
device_row scene e number device _ u = refl
