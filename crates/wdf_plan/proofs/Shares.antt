-- Each agent's share of all posts is what the lines of its block post.
use Rattle.std.proofs.Common.{◌≡◌, ℕ, ◌+◌, ◌<◌, arith, Bool, true, false, cond, List, [], ◌∷◌, ◌++◌, take, length, get_or, Option, Some, None, refl, ap, add-one}
use Rattle.std.proofs.Math.Seq.{take-suc}
use Rattle.std.proofs.lemmas.List.{length-take-le}
use Rattle.std.proofs.lemmas.List.Elements.{filter_map-append}
use Rattle.std.specs.Option.{option_to_list}
use Rattle.std.specs.Prelude.{option_and_then, option_map, ◌==◌}
use Rattle.std.specs.List.{filter_map, cons_option}
use Rattle.wdf_base.specs.declared.declared.PostLine.{PostLine}
use Rattle.wdf_base.specs.Same.{same_option}
use Rattle.wdf_scene.specs.declared.line.SceneLine.{SceneLine}
use Rattle.wdf_scene.specs.declared.line.SceneLine.TheVariants as line
use Rattle.wdf_scene.specs.declared.scene.Scene.{Scene}
use Rattle.wdf_blocks.specs.declared.declaration.Declaration.{Declaration}
use Rattle.wdf_blocks.specs.declared.placed.Placed.{Placed}
use Rattle.wdf_plan.specs.declared.agents.AgentSort.TheVariants as sort
use Rattle.wdf_plan.specs.declared.posts.Posted.{Posted}
use Rattle.wdf_refusals.specs.Numbers.{name_number}
use Rattle.wdf_plan.specs.Parts.{agent, app_post, app_post_in, app_agent, device_post, device_post_in, device_agent}
use Rattle.wdf_blocks.specs.Placed.{placed}
use Rattle.wdf_plan.specs.Posts.{posted, app_posted, device_posted, post_in, agent_name, agent_with}
use Rattle.wdf_refusals.proofs.Every.{composed}
use Rattle.wdf_refusals.proofs.Fitting.{gathered_few}

none_in : {T : Type 0} (t : Bool) → None ≡ cond {A = Option T} t None None
none_in true = refl
none_in false = refl

-- a post is its block's and no other's
share : (block : Option ℕ) (b : ℕ) (post : Option PostLine) → option_and_then (post_in b) (posted block post) ≡ cond (same_option ◌==◌ block (Some b)) post None
unfolding posted post_in
share block b None = none_in (same_option ◌==◌ block (Some b))
share block b (Some x) = refl

app_same : (scene : Scene) (names : List Declaration) (p : Placed) (form : SceneLine) → option_map (λ n. agent (name_number names n) (filter_map (post_in p.at) (filter_map (app_posted names) (placed scene)))) (agent_name sort.App form) ≡ app_agent scene names p form
unfolding agent_name app_agent
app_same scene names p (line.App n) =
    ap (λ posts. Some (agent (name_number names n) posts)) (composed (app_posted names) (post_in p.at) (app_post_in names p.at) (λ q. share q.stand.block p.at (app_post names q.number q.form)) (placed scene))
app_same scene names p _ = refl

device_same : (scene : Scene) (names : List Declaration) (p : Placed) (form : SceneLine) → option_map (λ n. agent (name_number names n) (filter_map (post_in p.at) (filter_map (device_posted names) (placed scene)))) (agent_name sort.Device form) ≡ device_agent scene names p form
unfolding agent_name device_agent
device_same scene names p (line.Device n working) =
    ap (λ posts. Some (agent (name_number names n) posts)) (composed (device_posted names) (post_in p.at) (device_post_in names p.at) (λ q. share q.stand.block p.at (device_post names q.number q.stand.device q.form)) (placed scene))
device_same scene names p _ = refl

pub kept_same : {P T : Type 0} (f g : P → Option T) → ((p : P) → f p ≡ g p) → (ps : List P) → filter_map f ps ≡ filter_map g ps
kept_same f g e [] = refl
kept_same f g e (p ∷ ps) = rw (e p, kept_same f g e ps) refl

pub apps_same : (scene : Scene) (names : List Declaration) → filter_map (agent_with sort.App names (filter_map (app_posted names) (placed scene))) (placed scene) ≡ filter_map (λ p. app_agent scene names p p.form) (placed scene)
unfolding agent_with
apps_same scene names =
    kept_same (agent_with sort.App names (filter_map (app_posted names) (placed scene))) (λ p. app_agent scene names p p.form) (λ p. app_same scene names p p.form) (placed scene)

pub devices_same : (scene : Scene) (names : List Declaration) → filter_map (agent_with sort.Device names (filter_map (device_posted names) (placed scene))) (placed scene) ≡ filter_map (λ p. device_agent scene names p p.form) (placed scene)
unfolding agent_with
devices_same scene names =
    kept_same (agent_with sort.Device names (filter_map (device_posted names) (placed scene))) (λ p. device_agent scene names p p.form) (λ p. device_same scene names p p.form) (placed scene)

-- ---- a share is taken post by post

as_list : {T : Type 0} (o : Option T) → cons_option o [] ≡ option_to_list o
as_list None = refl
as_list (Some x) = refl

pub share_more : (b : ℕ) (all : List Posted) (k : ℕ) (d : Posted) (so_far so_far' : List PostLine) (o : Option PostLine) → k < length all → so_far ≡ filter_map (post_in b) (take k all) → o ≡ post_in b (get_or all k d) → so_far' ≡ so_far ++ option_to_list o → so_far' ≡ filter_map (post_in b) (take (k + 1) all)
share_more b all k d so_far so_far' o h e is grown =
    rw (add-one, take-suc all k d h, filter_map-append, grown, e, is, ← as_list (post_in b (get_or all k d))) refl

-- and there is room for it
pub share_room : (b : ℕ) (all : List Posted) (k : ℕ) (d : Posted) (so_far : List PostLine) (o : Option PostLine) (n : ℕ) → k < length all → so_far ≡ filter_map (post_in b) (take k all) → o ≡ post_in b (get_or all k d) → length all < n → length (so_far ++ option_to_list o) < n
share_room b all k d so_far o n h e is few =
    let next : so_far ++ option_to_list o ≡ filter_map (post_in b) (take (k + 1) all) = share_more b all k d so_far (so_far ++ option_to_list o) o h e is refl in
    let fewer = gathered_few (post_in b) (take (k + 1) all) in
    let long : length (take (k + 1) all) ≡ k + 1 = length-take-le (k + 1) all (omega (arith, h)) in
    rw next (omega (arith, fewer, long, h, few))
