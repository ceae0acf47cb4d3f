-- The agents of a plan are the apps, and after them the devices and the targets.
use Rattle.std.proofs.Common.{◌≡◌, ℕ, ◌+◌, ◌-◌, List, ◌++◌, length, Option, refl, ap, sym, ◌∙◌, arith, take, drop, append_assoc}
use Rattle.std.proofs.lemmas.List.{length-append, take_at, drop_at}
use Rattle.std.specs.Prelude.{option_and_then}
use Rattle.std.specs.Option.{is_some}
use Rattle.std.specs.List.{filter_map}
use Rattle.wdf_base.specs.declared.script.AgentInfo.{AgentInfo}
use Rattle.wdf_base.specs.Resolved.{device_name, target_name, app_count, apps}
use Rattle.wdf_scene.specs.declared.line.SceneLine.{SceneLine}
use Rattle.wdf_scene.specs.declared.line.SceneLine.TheVariants as line
use Rattle.wdf_scene.specs.declared.scene.Scene.{Scene}
use Rattle.wdf_blocks.specs.declared.declaration.Declaration.{Declaration}
use Rattle.wdf_blocks.specs.declared.placed.Placed.{Placed}
use Rattle.wdf_blocks.specs.Declarations.{declarations}
use Rattle.wdf_plan.specs.Parts.{object_of, object_on, app_agent, device_agent, target_agent}
use Rattle.wdf_blocks.specs.Placed.{placed}
use Rattle.wdf_plan.specs.Plans.{all_objects, all_agents, plan_with, plan_of}
use Rattle.wdf_refusals.proofs.Every.{composed, same_length}

-- each device has an agent, and so has each target
device_posts : (scene : Scene) (names : List Declaration) (p : Placed) (b : ℕ) (form : SceneLine) → is_some (device_agent scene names p form) ≡ is_some (option_and_then device_name (object_of scene names p b form))
unfolding object_of device_agent
device_posts scene names p b (line.Device n working) = refl
device_posts scene names p b (line.Queue n dispatch) = refl
device_posts scene names p b (line.Interrupt n l) = refl
device_posts scene names p b (line.Target n delay status depth) = refl
device_posts scene names p b _ = refl

target_posts : (scene : Scene) (names : List Declaration) (p : Placed) (b : ℕ) (form : SceneLine) → is_some (target_agent names form) ≡ is_some (option_and_then target_name (object_of scene names p b form))
unfolding object_of target_agent
target_posts scene names p b (line.Device n working) = refl
target_posts scene names p b (line.Queue n dispatch) = refl
target_posts scene names p b (line.Interrupt n l) = refl
target_posts scene names p b (line.Target n delay status depth) = refl
target_posts scene names p b _ = refl

-- the devices of a plan, and the targets, line by line
pub device_list : (scene : Scene) (names : List Declaration) → filter_map device_name (all_objects scene names) ≡ filter_map (λ p. option_and_then device_name (object_on scene names p)) (placed scene)
unfolding all_objects
device_list scene names =
    composed (object_on scene names) device_name (λ p. option_and_then device_name (object_on scene names p)) (λ p. refl) (placed scene)

target_list : (scene : Scene) (names : List Declaration) → filter_map target_name (all_objects scene names) ≡ filter_map (λ p. option_and_then target_name (object_on scene names p)) (placed scene)
unfolding all_objects
target_list scene names =
    composed (object_on scene names) target_name (λ p. option_and_then target_name (object_on scene names p)) (λ p. refl) (placed scene)

less_step : (a d t total d' t' : ℕ) → total ≡ (a + d) + t → d' ≡ d → t' ≡ t → total - (d' + t') ≡ a
less_step a d t total d' t' all e f = omega arith

-- after the apps come as many agents as names of devices and targets
pub app_length : (scene : Scene) → app_count (plan_of scene) ≡ length (filter_map (λ p. app_agent scene (declarations scene) p p.form) (placed scene))
unfolding plan_of plan_with all_agents
app_length scene =
    let names = declarations scene in
    let as' = filter_map (λ p. app_agent scene names p p.form) (placed scene) in
    let ds = filter_map (λ p. device_agent scene names p p.form) (placed scene) in
    let ts = filter_map (λ p. target_agent names p.form) (placed scene) in
    let dn : length (filter_map device_name (all_objects scene names)) ≡ length ds =
    ap length (device_list scene names) ∙ sym (same_length (λ p. device_agent scene names p p.form) (λ p. option_and_then device_name (object_on scene names p)) (λ p. device_posts scene names p p.at p.form) (placed scene)) in
    let tn : length (filter_map target_name (all_objects scene names)) ≡ length ts =
    ap length (target_list scene names) ∙ sym (same_length (λ p. target_agent names p.form) (λ p. option_and_then target_name (object_on scene names p)) (λ p. target_posts scene names p p.at p.form) (placed scene)) in
    let all : length (as' ++ ds ++ ts) ≡ (length as' + length ds) + length ts =
    length-append (as' ++ ds) ts ∙ ap (λ n. n + length ts) (length-append as' ds) in
    let both : length (filter_map device_name (all_objects scene names) ++ filter_map target_name (all_objects scene names)) ≡ length (filter_map device_name (all_objects scene names)) + length (filter_map target_name (all_objects scene names)) =
    length-append (filter_map device_name (all_objects scene names)) (filter_map target_name (all_objects scene names)) in
    rw both (less_step (length as') (length ds) (length ts) (length (as' ++ ds ++ ts)) (length (filter_map device_name (all_objects scene names))) (length (filter_map target_name (all_objects scene names))) all dn tn)

-- the first agents are the apps
pub apps_are : (scene : Scene) → apps (plan_of scene) ≡ filter_map (λ p. app_agent scene (declarations scene) p p.form) (placed scene)
unfolding plan_of plan_with all_agents
apps_are scene =
    let names = declarations scene in
    let as' = filter_map (λ p. app_agent scene names p p.form) (placed scene) in
    let ds = filter_map (λ p. device_agent scene names p p.form) (placed scene) in
    let ts = filter_map (λ p. target_agent names p.form) (placed scene) in
    let shape : (as' ++ ds) ++ ts ≡ as' ++ (ds ++ ts) = append_assoc as' ds ts in
    let front : take (app_count (plan_of scene)) (as' ++ (ds ++ ts)) ≡ as' = take_at as' (ds ++ ts) (app_count (plan_of scene)) (sym (app_length scene)) in
    ap (take (app_count (plan_of scene))) shape ∙ front

-- the agent of a device's line
abbrev pub agent_on : Scene → Placed → Option AgentInfo
agent_on scene p = device_agent scene (declarations scene) p p.form

-- after the apps come the agents of the devices and of the targets
pub agents_after : (scene : Scene) → drop (app_count (plan_of scene)) (plan_of scene).agents ≡ filter_map (agent_on scene) (placed scene) ++ filter_map (λ p. target_agent (declarations scene) p.form) (placed scene)
unfolding plan_of plan_with all_agents
agents_after scene =
    let names = declarations scene in
    let as' = filter_map (λ p. app_agent scene names p p.form) (placed scene) in
    let ds = filter_map (agent_on scene) (placed scene) in
    let ts = filter_map (λ p. target_agent names p.form) (placed scene) in
    let shape : (as' ++ ds) ++ ts ≡ as' ++ (ds ++ ts) = append_assoc as' ds ts in
    ap (drop (app_count (plan_of scene))) shape ∙ drop_at as' (ds ++ ts) (app_count (plan_of scene)) (sym (app_length scene))
