-- The posts of a plan are at most as many as its lines with `at`.
use Rattle.std.proofs.Common.{◌≡◌, ℕ, suc, ◌+◌, ◌<◌, ◌≤◌, Bool, true, false, cond, List, [], ◌∷◌, ◌++◌, length, Option, Some, None, refl, ap, ◌∙◌, arith}
use Rattle.std.proofs.lemmas.Bool.{ne_eqb, eqb-true}
use Rattle.std.proofs.lemmas.List.Sums.{sum_by-append, sum_by-cons}
use Rattle.std.specs.Prelude.{◌==◌}
use Rattle.std.specs.List.{filter_map, cons_option, sum_by}
use Rattle.wdf_base.specs.declared.declared.PostLine.{PostLine}
use Rattle.wdf_base.specs.declared.script.AgentInfo.{AgentInfo}
use Rattle.wdf_base.specs.Resolved.{post_count}
use Rattle.wdf_base.specs.Same.{same_option}
use Rattle.wdf_scene.specs.declared.line.SceneLine.{SceneLine}
use Rattle.wdf_scene.specs.declared.line.SceneLine.TheVariants as line
use Rattle.wdf_scene.specs.declared.scene.Scene.{Scene}
use Rattle.wdf_blocks.specs.declared.declaration.Declaration.{Declaration}
use Rattle.wdf_blocks.specs.declared.placed.Placed.{Placed}
use Rattle.wdf_blocks.specs.Declarations.{declarations}
use Rattle.wdf_blocks.specs.Forms.{is_post, is_app, is_device}
use Rattle.wdf_refusals.specs.Limits.{is_one_too_many}
use Rattle.wdf_plan.specs.Parts.{app_post, app_post_in, pnp_post, device_post, device_post_in, app_agent, device_agent, target_agent, stands_in}
use Rattle.wdf_blocks.specs.Placed.{outside, nothing, counted, placed}
use Rattle.wdf_plan.specs.Plans.{all_agents, plan_with, plan_of}
use Rattle.wdf_plan.proofs.Accepted.{IsAccepted}
use Rattle.wdf_plan.proofs.Counting.{bounded, from_zero}
use Rattle.wdf_refusals.proofs.Every.{Every, every_map}
use Rattle.wdf_plan.proofs.Places.{place_if, place_tells, place_is}
use Rattle.wdf_plan.proofs.Rising.{AreRising, rising_from}
use Rattle.wdf_plan.proofs.Within.{posts_within}

-- ---- sums over places

sums : (ℕ → ℕ) → List ℕ → ℕ
sums f [] = 0
sums f (b ∷ bs) = f b + sums f bs

sums_add : (f g h : ℕ → ℕ) → ((b : ℕ) → h b ≡ f b + g b) → (bs : List ℕ) → sums h bs ≡ sums f bs + sums g bs
unfolding sums
sums_add f g h e [] = refl
sums_add f g h e (b ∷ bs) =
    let here : h b ≡ f b + g b = e b in
    let rest : sums h bs ≡ sums f bs + sums g bs = sums_add f g h e bs in
    omega arith

sums_zero : (f : ℕ → ℕ) → ((b : ℕ) → f b ≡ 0) → (bs : List ℕ) → sums f bs ≡ 0
unfolding sums
sums_zero f e [] = refl
sums_zero f e (b ∷ bs) =
    let here : f b ≡ 0 = e b in
    let rest : sums f bs ≡ 0 = sums_zero f e bs in
    omega arith

-- one where the place is this one
abbrev hit : ℕ → ℕ → ℕ
hit j b = cond (j == b) 1 0

hit_none : (j k : ℕ) (bs : List ℕ) → j < k → AreRising (λ n. n) k bs → sums (hit j) bs ≡ 0
unfolding sums
hit_none j k [] less r = refl
hit_none j k (b ∷ bs) less r =
    let first : k ≤ b = r.0 in
    let other : (j == b) ≡ false = ne_eqb j b (λ e. absurd (omega arith)) in
    let rest : sums (hit j) bs ≡ 0 = hit_none j (suc b) bs (omega arith) r.1 in
    rw other (omega arith)

hit_step : (j b : ℕ) (bs : List ℕ) (t : Bool) → (j == b) ≡ t → AreRising (λ n. n) (suc b) bs → sums (hit j) bs ≤ 1 → cond t 1 0 + sums (hit j) bs ≤ 1
hit_step j b bs true e r h =
    let same : j ≡ b = eqb-true j b e in
    let rest : sums (hit j) bs ≡ 0 = hit_none j (suc b) bs (omega arith) r in
    omega arith
hit_step j b bs false e r h = omega arith

hit_once : (j k : ℕ) (bs : List ℕ) → AreRising (λ n. n) k bs → sums (hit j) bs ≤ 1
unfolding sums
hit_once j k [] r = omega arith
hit_once j k (b ∷ bs) r = hit_step j b bs (j == b) refl r.1 (hit_once j (suc b) bs r.1)

-- ---- each line is in one block

-- the items of a line in the block of line b
abbrev item_in : {X : Type 0} → (Placed → Option X) → ℕ → Placed → Option X
item_in f b p = cond (stands_in b p) (f p) None

-- one for an item that is there
abbrev one_if : {X : Type 0} → Option X → ℕ
one_if None = 0
one_if (Some x) = 1

cons_length : {X : Type 0} (o : Option X) (xs : List X) → length (cons_option o xs) ≡ one_if o + length xs
cons_length None xs = omega arith
cons_length (Some x) xs = omega arith

none_in : (X : Type 0) (t : Bool) → one_if {X = X} (cond t None None) ≡ 0
none_in X true = refl
none_in X false = refl

some_in : {X : Type 0} (t : Bool) (x : X) → one_if (cond t (Some x) None) ≡ cond t 1 0
some_in true x = refl
some_in false x = refl

sums_same : (f g : ℕ → ℕ) → ((b : ℕ) → f b ≡ g b) → (bs : List ℕ) → sums f bs ≡ sums g bs
unfolding sums
sums_same f g e [] = refl
sums_same f g e (b ∷ bs) = rw (e b, sums_same f g e bs) refl

line_once : {X : Type 0} (block : Option ℕ) (o : Option X) (k : ℕ) (bs : List ℕ) → AreRising (λ n. n) k bs → sums (λ b. one_if (cond (same_option ◌==◌ block (Some b)) o None)) bs ≤ one_if o
line_once {X} block None k bs r =
    let z : sums (λ b. one_if {X = X} (cond (same_option ◌==◌ block (Some b)) None None)) bs ≡ 0 = sums_zero (λ b. one_if {X = X} (cond (same_option ◌==◌ block (Some b)) None None)) (λ b. none_in X (same_option ◌==◌ block (Some b))) bs in
    omega arith
line_once None (Some x) k bs r =
    let z : sums (λ b. one_if (cond (same_option ◌==◌ None (Some b)) (Some x) None)) bs ≡ 0 = sums_zero (λ b. one_if (cond (same_option ◌==◌ None (Some b)) (Some x) None)) (λ b. refl) bs in
    omega arith
line_once (Some j) (Some x) k bs r =
    let z : sums (λ b. one_if (cond (j == b) (Some x) None)) bs ≡ sums (hit j) bs = sums_same (λ b. one_if (cond (j == b) (Some x) None)) (hit j) (λ b. some_in (j == b) x) bs in
    let h : sums (hit j) bs ≤ 1 = hit_once j k bs r in
    omega arith

-- over all blocks together there are at most as many items as lines with one
block_sum : {X : Type 0} (f : Placed → Option X) (k : ℕ) (bs : List ℕ) → AreRising (λ n. n) k bs → (ps : List Placed) → sums (λ b. length (filter_map (item_in f b) ps)) bs ≤ length (filter_map f ps)
block_sum f k bs r [] =
    let z : sums (λ b. 0) bs ≡ 0 = sums_zero (λ b. 0) (λ b. refl) bs in
    omega arith
block_sum f k bs r (p ∷ ps) =
    let here : sums (λ b. one_if (item_in f b p)) bs ≤ one_if (f p) = line_once p.stand.block (f p) k bs r in
    let rest : sums (λ b. length (filter_map (item_in f b) ps)) bs ≤ length (filter_map f ps) = block_sum f k bs r ps in
    let all : sums (λ b. length (cons_option (item_in f b p) (filter_map (item_in f b) ps))) bs ≡ sums (λ b. one_if (item_in f b p)) bs + sums (λ b. length (filter_map (item_in f b) ps)) bs =
    sums_add (λ b. one_if (item_in f b p)) (λ b. length (filter_map (item_in f b) ps)) (λ b. length (cons_option (item_in f b p) (filter_map (item_in f b) ps))) (λ b. cons_length (item_in f b p) (filter_map (item_in f b) ps)) bs in
    let line' : length (cons_option (f p) (filter_map f ps)) ≡ one_if (f p) + length (filter_map f ps) = cons_length (f p) (filter_map f ps) in
    omega arith

-- ---- the lines of apps and of devices

-- an agent with the posts of its block
abbrev IsBlock : (ℕ → List PostLine) → Option AgentInfo → Option ℕ → Type 0
IsBlock posts None None = Unit {0}
IsBlock posts (Some a) (Some b) = a.posts ≡ posts b
IsBlock posts _ _ = ⊥

agent_sum_step : (posts : ℕ → List PostLine) (a : Option AgentInfo) (b : Option ℕ) (as' : List AgentInfo) (bs : List ℕ) → IsBlock posts a b → sum_by (λ x. length x.posts) as' ≡ sums (λ k. length (posts k)) bs → sum_by (λ x. length x.posts) (cons_option a as') ≡ sums (λ k. length (posts k)) (cons_option b bs)
unfolding sums
agent_sum_step posts None None as' bs is e = e
agent_sum_step posts (Some a) (Some b) as' bs is e = rw (sum_by-cons (λ x. length x.posts) a as', is, e) refl
agent_sum_step posts None (Some b) as' bs is e = absurd is
agent_sum_step posts (Some a) None as' bs is e = absurd is

agent_sum : (posts : ℕ → List PostLine) (f : Placed → Option AgentInfo) (g : Placed → Option ℕ) → ((p : Placed) → IsBlock posts (f p) (g p)) → (ps : List Placed) → sum_by (λ x. length x.posts) (filter_map f ps) ≡ sums (λ k. length (posts k)) (filter_map g ps)
unfolding sums
agent_sum posts f g is [] = refl
agent_sum posts f g is (p ∷ ps) =
    agent_sum_step posts (f p) (g p) (filter_map f ps) (filter_map g ps) (is p) (agent_sum posts f g is ps)

app_block : (scene : Scene) (names : List Declaration) (p : Placed) (form : SceneLine) → IsBlock (λ b. filter_map (app_post_in names b) (placed scene)) (app_agent scene names p form) (cond (is_app form) (Some p.at) None)
unfolding app_agent is_app
app_block scene names p (line.App n) = refl
app_block scene names p _ = tt

device_block : (scene : Scene) (names : List Declaration) (p : Placed) (form : SceneLine) → IsBlock (λ b. filter_map (device_post_in names b) (placed scene)) (device_agent scene names p form) (cond (is_device form) (Some p.at) None)
unfolding device_agent is_device
device_block scene names p (line.Device n working) = refl
device_block scene names p _ = tt

apps_sum : (scene : Scene) (names : List Declaration) → sum_by (λ a. length a.posts) (filter_map (λ p. app_agent scene names p p.form) (placed scene)) ≤ length (filter_map (λ p. app_post names p.number p.form) (placed scene))
unfolding placed
apps_sum scene names =
    let e : sum_by (λ a. length a.posts) (filter_map (λ p. app_agent scene names p p.form) (placed scene)) ≡ sums (λ b. length (filter_map (app_post_in names b) (placed scene))) (filter_map (place_if is_app) (placed scene)) =
    agent_sum (λ b. filter_map (app_post_in names b) (placed scene)) (λ p. app_agent scene names p p.form) (place_if is_app) (λ p. app_block scene names p p.form) (placed scene) in
    let h : sums (λ b. length (filter_map (app_post_in names b) (placed scene))) (filter_map (place_if is_app) (placed scene)) ≤ length (filter_map (λ p. app_post names p.number p.form) (placed scene)) =
    block_sum (λ p. app_post names p.number p.form) 0 (filter_map (place_if is_app) (placed scene)) (rising_from (λ n. n) (place_if is_app) (place_is is_app) 0 outside nothing scene.lines) (placed scene) in
    omega arith

devices_sum : (scene : Scene) (names : List Declaration) → sum_by (λ a. length a.posts) (filter_map (λ p. device_agent scene names p p.form) (placed scene)) ≤ length (filter_map (λ p. device_post names p.number p.stand.device p.form) (placed scene))
unfolding placed
devices_sum scene names =
    let e : sum_by (λ a. length a.posts) (filter_map (λ p. device_agent scene names p p.form) (placed scene)) ≡ sums (λ b. length (filter_map (device_post_in names b) (placed scene))) (filter_map (place_if is_device) (placed scene)) =
    agent_sum (λ b. filter_map (device_post_in names b) (placed scene)) (λ p. device_agent scene names p p.form) (place_if is_device) (λ p. device_block scene names p p.form) (placed scene) in
    let h : sums (λ b. length (filter_map (device_post_in names b) (placed scene))) (filter_map (place_if is_device) (placed scene)) ≤ length (filter_map (λ p. device_post names p.number p.stand.device p.form) (placed scene)) =
    block_sum (λ p. device_post names p.number p.stand.device p.form) 0 (filter_map (place_if is_device) (placed scene)) (rising_from (λ n. n) (place_if is_device) (place_is is_device) 0 outside nothing scene.lines) (placed scene) in
    omega arith

no_posts : (names : List Declaration) (form : SceneLine) → (elim (target_agent names form) as (λ _. ℕ) [ None ↦ 0 | Some a ↦ length a.posts ]) ≡ 0
unfolding target_agent
no_posts names (line.Target n delay status depth) = refl
no_posts names _ = refl

target_step : (o : Option AgentInfo) (as' : List AgentInfo) → (elim o as (λ _. ℕ) [ None ↦ 0 | Some a ↦ length a.posts ]) ≡ 0 → sum_by (λ a. length a.posts) as' ≡ 0 → sum_by (λ a. length a.posts) (cons_option o as') ≡ 0
target_step None as' e f = f
target_step (Some a) as' e f = rw (sum_by-cons (λ x. length x.posts) a as', e, f) refl

targets_sum : (names : List Declaration) (ps : List Placed) → sum_by (λ a. length a.posts) (filter_map (λ p. target_agent names p.form) ps) ≡ 0
targets_sum names [] = refl
targets_sum names (p ∷ ps) =
    target_step (target_agent names p.form) (filter_map (λ q. target_agent names q.form) ps) (no_posts names p.form) (targets_sum names ps)

-- ---- each line with `at` is one post

one_post : (names : List Declaration) (number : ℕ) (device : Option ℕ) (place : ℕ) (form : SceneLine) → one_if (pnp_post names number form) + one_if (app_post names number form) + one_if (device_post names number device form) ≡ one_if (cond (is_post form) (Some place) None)
unfolding pnp_post app_post device_post is_post
one_post names number device place (line.At tick action) = refl
one_post names number device place (line.AtRead tick d n) = refl
one_post names number device place (line.AtWrite tick d n) = refl
one_post names number device place (line.AtControl tick d code n) = refl
one_post names number device place (line.AtCancel tick k) = refl
one_post names number device place (line.AtAsk tick ask d) = refl
one_post names number device place _ = refl

all_posts : (names : List Declaration) (ps : List Placed) → length (filter_map (λ p. pnp_post names p.number p.form) ps) + length (filter_map (λ p. app_post names p.number p.form) ps) + length (filter_map (λ p. device_post names p.number p.stand.device p.form) ps) ≡ length (filter_map (place_if is_post) ps)
all_posts names [] = refl
all_posts names (p ∷ ps) =
    let here = one_post names p.number p.stand.device p.at p.form in
    let rest = all_posts names ps in
    let a : length (cons_option (pnp_post names p.number p.form) (filter_map (λ q. pnp_post names q.number q.form) ps)) ≡ one_if (pnp_post names p.number p.form) + length (filter_map (λ q. pnp_post names q.number q.form) ps) = cons_length _ _ in
    let b : length (cons_option (app_post names p.number p.form) (filter_map (λ q. app_post names q.number q.form) ps)) ≡ one_if (app_post names p.number p.form) + length (filter_map (λ q. app_post names q.number q.form) ps) = cons_length _ _ in
    let c : length (cons_option (device_post names p.number p.stand.device p.form) (filter_map (λ q. device_post names q.number q.stand.device q.form) ps)) ≡ one_if (device_post names p.number p.stand.device p.form) + length (filter_map (λ q. device_post names q.number q.stand.device q.form) ps) = cons_length _ _ in
    let d : length (cons_option (place_if is_post p) (filter_map (place_if is_post) ps)) ≡ one_if (place_if is_post p) + length (filter_map (place_if is_post) ps) = cons_length _ _ in
    omega (arith, here, rest, a, b, c, d)

marks_bound : (scene : Scene) → Every (IsAccepted scene) (placed scene) → length (filter_map (place_if is_post) (placed scene)) ≤ 4096
unfolding placed counted
marks_bound scene each =
    from_zero _ _ _ refl (bounded is_post (λ c. c.posts) (place_if is_post) 4096 (λ c f n. refl) (place_tells is_post) 0 outside nothing scene.lines (omega arith) (every_map (IsAccepted scene) (λ p. is_one_too_many (is_post p.form) 4096 p.counts.posts ≡ false) (posts_within scene) (placed scene) each))

-- a plan has at most 4096 posts
pub posts_bound : (scene : Scene) → Every (IsAccepted scene) (placed scene) → post_count (plan_of scene) ≤ 4096
unfolding plan_of plan_with all_agents
posts_bound scene each =
    let names = declarations scene in
    let as' = filter_map (λ p. app_agent scene names p p.form) (placed scene) in
    let ds = filter_map (λ p. device_agent scene names p p.form) (placed scene) in
    let ts = filter_map (λ p. target_agent names p.form) (placed scene) in
    let shape : sum_by (λ a. length a.posts) ((as' ++ ds) ++ ts) ≡ (sum_by (λ a. length a.posts) as' + sum_by (λ a. length a.posts) ds) + sum_by (λ a. length a.posts) ts =
    sum_by-append (λ a. length a.posts) (as' ++ ds) ts ∙ ap (λ n. n + sum_by (λ a. length a.posts) ts) (sum_by-append (λ a. length a.posts) as' ds) in
    let all = all_posts names (placed scene) in
    let bound = marks_bound scene each in
    let apps = apps_sum scene names in
    let devices = devices_sum scene names in
    let targets = targets_sum names (placed scene) in
    rw shape (omega (arith, all, bound, apps, devices, targets))
