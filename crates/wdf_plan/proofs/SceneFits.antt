-- What a plan has of each line of a scene in which nothing is refused fits its type.
use Rattle.std.proofs.Common.{◌≡◌, ℕ, zero, suc, ◌+◌, ◌<◌, ◌≤◌, ◌^◌, Bool, true, false, cond, nat_le, List, [], ◌∷◌, ◌++◌, drop, length, Option, Some, None, IfSome, refl, subst, arith}
use Rattle.std.proofs.lemmas.Bool.{and_parts, leb-true, not-false}
use Rattle.std.specs.List.{filter_map, cons_option, flat_map, list_all}
use Rattle.wdf_base.specs.declared.declared.Declared.TheVariants as declared
use Rattle.wdf_base.specs.declared.script.Script.{Script}
use Rattle.wdf_base.specs.declared.script.Statement.{Statement}
use Rattle.wdf_base.specs.Resolved.{is_from, script_fits}
use Rattle.wdf_scene.specs.declared.line.InterruptLevel.TheVariants as level
use Rattle.wdf_scene.specs.declared.line.NumberedLine.{NumberedLine}
use Rattle.wdf_scene.specs.declared.line.SceneLine.{SceneLine}
use Rattle.wdf_scene.specs.declared.line.SceneLine.TheVariants as line
use Rattle.wdf_scene.specs.declared.scene.Scene.{Scene}
use Rattle.wdf_plan.specs.declared.course.Nest.{Nest}
use Rattle.wdf_blocks.specs.declared.declaration.Declaration.{Declaration}
use Rattle.wdf_blocks.specs.declared.placed.Placed.{Placed}
use Rattle.wdf_blocks.specs.Blocks.{form_at}
use Rattle.wdf_blocks.specs.Declarations.{declarations}
use Rattle.wdf_plan.specs.Fitting.{CanPlan, IsFitDeclared, IsFitNode, IsFitScript}
use Rattle.wdf_refusals.specs.Numbered.{Every}
use Rattle.wdf_refusals.specs.Limits.{over_level}
use Rattle.wdf_plan.specs.Parts.{app_agent, class_on, device_agent, interrupt_info, line_picks, object_of, object_on, target_agent}
use Rattle.wdf_blocks.specs.Placed.{placed}
use Rattle.wdf_plan.specs.Plans.{all_agents, all_objects, header_of, plan_with, plan_of}
use Rattle.wdf_plan.specs.Scripts.{nests_after, ends_callback, nodes_on, number_after, owner_of, script_on, statement_at, statements_from, statements_of}
use Rattle.wdf_blocks.specs.Variables.{variables}
use Rattle.wdf_plan.proofs.Accepted.{IsAccepted, each_accepted}
use Rattle.wdf_plan.proofs.Bounds.{IsBounded, plan_bounded}
use Rattle.wdf_refusals.proofs.Every.{every_both, every_kept, every_map}
use Rattle.wdf_plan.proofs.ExprFacts.{exprs_fit, exprs_length}
use Rattle.wdf_refusals.proofs.Fitting.{HasOrders, scene_orders}
use Rattle.wdf_plan.proofs.Gathered.{every_from}
use Rattle.wdf_plan.proofs.ItemFits.{agents_few, each_passes, nodes_small, script_small}
use Rattle.wdf_plan.proofs.Rooms.{front_few}
use Rattle.wdf_plan.proofs.ScriptFacts.{scripts_fit}
use Rattle.wdf_plan.proofs.Statements.{made}
use Rattle.wdf_plan.proofs.Within.{level_within}

-- ---- the plan of the scene, whose declarations are these

the_plan : (scene : Scene) (names : List Declaration) → names ≡ declarations scene → plan_of scene ≡ plan_with scene names
unfolding plan_of
the_plan scene names own = rw own refl

bounded : (scene : Scene) (names : List Declaration) → CanPlan scene names → IsBounded (plan_with scene names)
bounded scene names can =
    rw (← the_plan scene names can.own) (plan_bounded scene can.text can.accepted)

-- ---- the first three lines

pub cpus_small : (scene : Scene) (names : List Declaration) → CanPlan scene names → header_of (form_at scene 0) < 2 ^ 8
unfolding plan_with
cpus_small scene names can =
    let n = header_of (form_at scene 0) in
    let most = leb-true n 8 (and_parts (nat_le 1 n) (nat_le n 8) (bounded scene names can).cpus).1 in
    omega (arith, most)

pub limit_small : (scene : Scene) (names : List Declaration) → CanPlan scene names → header_of (form_at scene 1) < 2 ^ 32
unfolding plan_with
limit_small scene names can =
    let n = header_of (form_at scene 1) in
    let most = leb-true n 200000 (and_parts (nat_le 1 n) (nat_le n 200000) (bounded scene names can).limit).1 in
    omega (arith, most)

pub objects_small : (scene : Scene) (names : List Declaration) → CanPlan scene names → header_of (form_at scene 2) < 2 ^ 32
unfolding plan_with
objects_small scene names can =
    let n = header_of (form_at scene 2) in
    let most = leb-true n 4096 (and_parts (nat_le 1 n) (nat_le n 4096) (bounded scene names can).objects).1 in
    omega (arith, most)

-- ---- the lengths of lists

pub objects_few : (scene : Scene) (names : List Declaration) → CanPlan scene names → length (all_objects scene names) ≤ 4096
unfolding plan_with
objects_few scene names can =
    let b = bounded scene names can in
    let n = header_of (form_at scene 2) in
    let most = leb-true n 4096 (and_parts (nat_le 1 n) (nat_le n 4096) b.objects).1 in
    let within = leb-true (length (all_objects scene names)) n b.counted in
    omega (arith, most, within)

-- the driver object, and then the others
pub objects_room : (scene : Scene) (names : List Declaration) → CanPlan scene names → length (([] ++ declared.Driver ∷ []) ++ filter_map (object_on scene names) (placed scene)) < 2 ^ 32
unfolding all_objects
objects_room scene names can = let few = objects_few scene names can in omega (arith, few)

pub classes_few : (scene : Scene) (names : List Declaration) → CanPlan scene names → length (filter_map (λ p. class_on scene names p p.form) (placed scene)) ≤ 256
unfolding plan_with
classes_few scene names can = leb-true _ 256 (bounded scene names can).classes

pub classes_room : (scene : Scene) (names : List Declaration) → CanPlan scene names → (length (filter_map (λ p. class_on scene names p p.form) (placed scene)) < 2 ^ 32) × (length (filter_map (λ p. class_on scene names p p.form) (placed scene)) < 65535)
classes_room scene names can =
    let few = classes_few scene names can in
    (omega (arith, few), omega (arith, few))

pub agents_bound : (scene : Scene) (names : List Declaration) → CanPlan scene names → length (all_agents scene names) < 65535
unfolding plan_with
agents_bound scene names can =
    agents_few (plan_with scene names) (leb-true _ 256 (bounded scene names can).apps) (objects_few scene names can)

-- the apps, then the devices, then the targets
pub record HasRoom (scene : Scene) (names : List Declaration) : Type 0 where
  pub apps : length (filter_map (λ p. app_agent scene names p p.form) (placed scene)) < 65535
  pub devices : length (filter_map (λ p. app_agent scene names p p.form) (placed scene) ++ filter_map (λ p. device_agent scene names p p.form) (placed scene)) < 65535
  pub targets : length (filter_map (λ p. app_agent scene names p p.form) (placed scene) ++ filter_map (λ p. device_agent scene names p p.form) (placed scene) ++ filter_map (λ p. target_agent names p.form) (placed scene)) < 65535

pub agents_room : (scene : Scene) (names : List Declaration) → CanPlan scene names → HasRoom scene names
unfolding all_agents
agents_room scene names can =
    let all = agents_bound scene names can in
    let apps = filter_map (λ p. app_agent scene names p p.form) (placed scene) in
    let devices = filter_map (λ p. device_agent scene names p p.form) (placed scene) in
    let targets = filter_map (λ p. target_agent names p.form) (placed scene) in
    let front = front_few (apps ++ devices) targets 65535 all in
    record { apps = front_few apps devices 65535 front; devices = front; targets = all }

-- a length below the one bound is below the other
pub both_rooms : (n : ℕ) → n < 65535 → (n < 2 ^ 32) × (n < 65535)
both_rooms n h = (omega (arith, h), h)

pub picks_few : (scene : Scene) (names : List Declaration) → CanPlan scene names → length (flat_map line_picks scene.lines) < 2 ^ 32
unfolding plan_with
picks_few scene names can =
    let most = leb-true (length (flat_map line_picks scene.lines)) 200000 (bounded scene names can).picks in
    omega (arith, most)

pub nodes_few : (scene : Scene) (names : List Declaration) → CanPlan scene names → length (flat_map (nodes_on scene names) (placed scene)) < 2 ^ 32
unfolding plan_of plan_with
nodes_few scene names can =
    let same = exprs_length scene can.text in
    let few = can.few_nodes in
    rw can.own (omega (arith, same, few))

pub nodes_fit : (scene : Scene) (names : List Declaration) → CanPlan scene names → Every IsFitNode (flat_map (nodes_on scene names) (placed scene))
unfolding plan_of plan_with
nodes_fit scene names can =
    rw can.own (nodes_small (plan_of scene) 0 _ (exprs_fit scene can.text (each_accepted scene can.accepted)))

-- ---- what each line declares

pub devices_fit : (scene : Scene) (names : List Declaration) → CanPlan scene names → Every (λ p. p.counts.device + 2 < 2 ^ 32) (placed scene)
devices_fit scene names can =
    let few = can.few_lines in
    every_map (HasOrders (length scene.lines)) (λ p. p.counts.device + 2 < 2 ^ 32) (λ p h. omega (arith, h.device, few)) (placed scene) (scene_orders scene can.text)

object_level : (scene : Scene) (names : List Declaration) (p : Placed) (b : ℕ) (form : SceneLine) → over_level form ≡ false → IfSome (object_of scene names p b form) IsFitDeclared
unfolding object_of over_level interrupt_info
object_level scene names p b (line.Interrupt n (level.Numbered l)) h =
    let most = leb-true l 12 (and_parts (nat_le 3 l) (nat_le l 12) (not-false (is_from 3 12 l) h)).1 in
    omega (arith, most)
object_level scene names p b (line.Interrupt n level.AtPassive) h = omega arith
object_level scene names p b _ h = tt

object_fits : (scene : Scene) (names : List Declaration) → CanPlan scene names → Every (λ p. IfSome (object_on scene names p) IsFitDeclared) (placed scene)
object_fits scene names can =
    every_map (IsAccepted scene) (λ p. IfSome (object_on scene names p) IsFitDeclared) (λ p a. object_level scene names p p.at p.form (level_within scene p a)) (placed scene) (each_accepted scene can.accepted)

pub objects_fit : (scene : Scene) (names : List Declaration) → CanPlan scene names → Every (λ p. (p.counts.device + 2 < 2 ^ 32) × IfSome (object_on scene names p) IsFitDeclared) (placed scene)
objects_fit scene names can =
    every_both (λ p. p.counts.device + 2 < 2 ^ 32) (λ p. IfSome (object_on scene names p) IsFitDeclared) (placed scene) (devices_fit scene names can) (object_fits scene names can)

-- ---- scripts

-- a line has one statement at most
more_few : (b : Bool) (o : Option Statement) (rest : List Statement) (n : ℕ) → length rest ≤ n → length (cond b [] (cons_option o rest)) ≤ suc n
more_few true o rest n h = omega arith
more_few false None rest n h = omega arith
more_few false (Some s) rest n h = omega arith

statements_few : (names : List Declaration) (vars : List (List ℕ)) (blocks : List Nest) (n : ℕ) (ls : List NumberedLine) → length (statements_from names vars blocks n ls) ≤ length ls
unfolding statements_from
statements_few names vars blocks n [] = omega arith
statements_few names vars blocks n (l ∷ ls) =
    more_few (ends_callback blocks l.form) (statement_at names vars blocks n l ls) _ (length ls) (statements_few names vars (nests_after blocks n l.number l.form) (number_after n (statement_at names vars blocks n l ls)) ls)

drop_few : {T : Type 0} (k : ℕ) (xs : List T) → length (drop k xs) ≤ length xs
drop_few zero xs = omega arith
drop_few (suc k) [] = omega arith
drop_few (suc k) (x ∷ xs) = let less = drop_few k xs in omega (arith, less)

callback_few : (scene : Scene) (names : List Declaration) (k : ℕ) → length (statements_of scene names k) ≤ length scene.lines
unfolding statements_of
callback_few scene names k =
    let few = statements_few names (variables scene k) [] 0 (drop (suc k) scene.lines) in
    let less = drop_few (suc k) scene.lines in
    omega (arith, few, less)

script_few : (scene : Scene) (names : List Declaration) (p : Placed) (form : SceneLine) (t : Script) → script_on scene names p form ≡ Some t → length t.statements ≤ length scene.lines
unfolding script_on
script_few scene names p (line.On c) t e =
    let m = made (λ o. record { callback = c; owner = o; line = p.number; statements = statements_of scene names p.at }) (owner_of scene names p p.stand.block) t e in
    subst (λ x. length x.statements ≤ length scene.lines) m.makes (callback_few scene names p.at)
script_few scene names p _ t e = absurd (let z : ⊥ = cc in z)

plan_objects_fit : (scene : Scene) (names : List Declaration) → CanPlan scene names → Every IsFitDeclared (plan_with scene names).declared
unfolding plan_with all_objects
plan_objects_fit scene names can =
    (tt, every_kept (object_on scene names) (λ p. IfSome (object_on scene names p) IsFitDeclared) IsFitDeclared (λ p d h e. subst (λ o. IfSome o IsFitDeclared) e h) (placed scene) (object_fits scene names can))

-- what each line's script is, fits
some_fits : (o : Option Script) → ((t : Script) → o ≡ Some t → IsFitScript t) → IfSome o IsFitScript
some_fits None h = tt
some_fits (Some t) h = h t refl

the_scripts : (scene : Scene) (names : List Declaration) → CanPlan scene names → list_all (script_fits (plan_with scene names)) (plan_with scene names).scripts ≡ true
the_scripts scene names can =
    rw (← the_plan scene names can.own) (scripts_fit scene can.text can.accepted)

script_fit : (scene : Scene) (names : List Declaration) → CanPlan scene names → Every (λ p. IfSome (script_on scene names p p.form) IsFitScript) (placed scene)
unfolding plan_with
script_fit scene names can =
    let plan = plan_with scene names in
    let on : Placed → Option Script = λ p. script_on scene names p p.form in
    let all : list_all (script_fits plan) (filter_map on (placed scene)) ≡ true = the_scripts scene names can in
    let few = classes_few scene names can in
    let lines = can.few_lines in
    every_map (λ p. (t : Script) → on p ≡ Some t → script_fits plan t ≡ true) (λ p. IfSome (on p) IsFitScript) (λ p h. some_fits (on p) (λ t e. let short = script_few scene names p p.form t e in script_small plan t few (plan_objects_fit scene names can) (omega (arith, short, lines)) (h t e))) (placed scene) (every_from on (λ t. script_fits plan t ≡ true) (placed scene) (each_passes (script_fits plan) (filter_map on (placed scene)) all))

pub scripts_small : (scene : Scene) (names : List Declaration) → CanPlan scene names → Every (λ p. (p.counts.device + 2 < 2 ^ 32) × IfSome (script_on scene names p p.form) IsFitScript) (placed scene)
scripts_small scene names can =
    every_both (λ p. p.counts.device + 2 < 2 ^ 32) (λ p. IfSome (script_on scene names p p.form) IsFitScript) (placed scene) (devices_fit scene names can) (script_fit scene names can)
