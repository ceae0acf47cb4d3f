-- What a device posts by its lines is about its own registers and interrupts.
use Rattle.std.proofs.Common.{◌≡◌, ℕ, suc, ◌+◌, Bool, true, false, cond, List, [], ◌∷◌, ◌++◌, drop, length, Option, Some, None, refl, sym, ◌∙◌, arith}
use Rattle.std.proofs.lemmas.Bool.{and_from, not-false}
use Rattle.std.specs.Prelude.{◌==◌}
use Rattle.std.specs.List.{filter_map, cons_option, list_all}
use Rattle.wdf_base.specs.declared.declared.Declared.{Declared}
use Rattle.wdf_base.specs.declared.declared.PostLine.{PostLine}
use Rattle.wdf_base.specs.declared.plan.Plan.{Plan}
use Rattle.wdf_base.specs.declared.script.AgentInfo.{AgentInfo}
use Rattle.wdf_base.specs.Resolved.{is_ticks, app_count, device_ids, device_posts_fit, device_post as may_post}
use Rattle.wdf_scene.specs.declared.line.NumberedLine.{NumberedLine}
use Rattle.wdf_scene.specs.declared.line.SceneLine.{SceneLine}
use Rattle.wdf_scene.specs.declared.line.SceneLine.TheVariants as line
use Rattle.wdf_scene.specs.declared.scene.Scene.{Scene}
use Rattle.wdf_blocks.specs.declared.declaration.Declaration.{Declaration}
use Rattle.wdf_blocks.specs.declared.placed.Counts.{Counts}
use Rattle.wdf_blocks.specs.declared.placed.Placed.{Placed}
use Rattle.wdf_blocks.specs.declared.placed.Stand.{Stand}
use Rattle.wdf_blocks.specs.Declarations.{declarations}
use Rattle.wdf_blocks.specs.Forms.{is_device, is_object}
use Rattle.wdf_refusals.specs.Limits.{over_ticks}
use Rattle.wdf_plan.specs.Parts.{object_of, object_on, device_post, device_post_in, stands_in, device_agent, target_agent}
use Rattle.wdf_blocks.specs.Placed.{outside, nothing, counted, opened_by, placed_line, placed_from, placed}
use Rattle.wdf_plan.specs.Plans.{all_objects, plan_of}
use Rattle.wdf_refusals.specs.Rows.{unknown_word}
use Rattle.wdf_plan.proofs.Accepted.{word_known}
use Rattle.wdf_plan.proofs.AgentLists.{agent_on, agents_after}
use Rattle.wdf_plan.proofs.Devices.{IsDeviceAt, IsKnown, belongs}
use Rattle.wdf_plan.proofs.DeviceItems.{action_own, of_device}
use Rattle.wdf_refusals.proofs.Every.{Every, every_map, some_has, all_kept}
use Rattle.wdf_plan.proofs.Within.{ticks_within}

-- ---- the posts of one device

post_belongs : (names : List Declaration) (number : ℕ) (device : Option ℕ) (form : SceneLine) (b : PostLine) → device_post names number device form ≡ Some b → belongs form ≡ true
unfolding device_post
post_belongs names number device (line.At tick a) b e = refl
post_belongs names number device _ b e = absurd (let z : ⊥ = cc in z)

post_own : (scene : Scene) (k order number : ℕ) (form : SceneLine) (b : PostLine) → IsDeviceAt (placed scene) k order → over_ticks form ≡ false → unknown_word (declarations scene) (Some k) form ≡ false → device_post (declarations scene) number (Some k) form ≡ Some b → may_post (plan_of scene) (order + 2) b ≡ true
unfolding device_post over_ticks unknown_word
post_own scene k order number (line.At tick a) b own t known e =
    some_has (λ x. may_post (plan_of scene) (order + 2) x ≡ true) _ b e (and_from _ _ (not-false (is_ticks tick) t) (action_own scene k order a own known))
post_own scene k order number _ b own t known e = absurd (let z : ⊥ = cc in z)

post_in : (scene : Scene) (k order : ℕ) (p : Placed) (b : PostLine) (here : Bool) → IsDeviceAt (placed scene) k order → IsKnown scene p → stands_in k p ≡ here → cond here (device_post (declarations scene) p.number p.stand.device p.form) None ≡ Some b → may_post (plan_of scene) (order + 2) b ≡ true
post_in scene k order p b true own known is e =
    let h = known.home (post_belongs (declarations scene) p.number p.stand.device p.form b e) in
    let both : Some k ≡ Some h.line = sym (of_device p.stand.block k is) ∙ h.block in
    let same : k ≡ h.line = cc in
    post_own scene h.line order p.number p.form b (rw same at own) (ticks_within scene p known.accepted) (rw h.device at (word_known scene p known.accepted)) (rw h.device at e)
post_in scene k order p b false own known is e = absurd (let z : ⊥ = cc in z)

-- the posts of a device's line are what that device may post
abbrev PostsFit : Scene → Placed → Type 0
PostsFit scene p =
    is_device p.form ≡ true → list_all (may_post (plan_of scene) (p.counts.objects + 2)) (filter_map (device_post_in (declarations scene) p.at) (placed scene)) ≡ true

device_line : (scene : Scene) → Every (IsKnown scene) (placed scene) → (p : Placed) → IsKnown scene p → PostsFit scene p
device_line scene each p known is =
    let own : IsDeviceAt (placed scene) p.at p.counts.objects = record { line = p; there = known.there; is = is; counted = refl } in
    all_kept (device_post_in (declarations scene) p.at) (IsKnown scene) (may_post (plan_of scene) (p.counts.objects + 2)) (λ q b k e. post_in scene p.at p.counts.objects q b (stands_in p.at q) own k refl e) (placed scene) each

-- ---- the agents of the devices come in the order of the devices

line_fits : (scene : Scene) (plan : Plan) (names : List Declaration) (p : Placed) (b : ℕ) (form : SceneLine) (id : ℕ) (rest : List Declared) (agents targets : List AgentInfo) → (is_device form ≡ true → list_all (may_post plan id) (filter_map (device_post_in names p.at) (placed scene)) ≡ true) → (is_object form ≡ true → device_posts_fit plan (device_ids (suc id) rest) (agents ++ targets) ≡ true) → (is_object form ≡ false → device_posts_fit plan (device_ids id rest) (agents ++ targets) ≡ true) → device_posts_fit plan (device_ids id (cons_option (object_of scene names p b form) rest)) (cons_option (device_agent scene names p form) agents ++ targets) ≡ true
unfolding object_of device_agent is_device is_object
line_fits scene plan names p b (line.Device n working) id rest agents targets d o other = and_from _ _ (d refl) (o refl)
line_fits scene plan names p b (line.Queue n dispatch) id rest agents targets d o other = o refl
line_fits scene plan names p b (line.Interrupt n l) id rest agents targets d o other = o refl
line_fits scene plan names p b (line.Target n delay status depth) id rest agents targets d o other = o refl
line_fits scene plan names p b _ id rest agents targets d o other = other refl

-- the ids from the next one on
abbrev Goes : Plan → Counts → List Declared → List AgentInfo → Type 0
Goes plan c rest agents = device_posts_fit plan (device_ids (c.objects + 2) rest) agents ≡ true

after_object : (plan : Plan) (c : Counts) (form : SceneLine) (n : ℕ) (rest : List Declared) (agents : List AgentInfo) → Goes plan (counted c form n) rest agents → is_object form ≡ true → device_posts_fit plan (device_ids (suc (c.objects + 2)) rest) agents ≡ true
unfolding counted
after_object plan c form n rest agents g e =
    let g' : device_posts_fit plan (device_ids (c.objects + 1 + 2) rest) agents ≡ true = rw e at g in
    let i : c.objects + 1 + 2 ≡ suc (c.objects + 2) = omega arith in
    rw i at g'

after_other : (plan : Plan) (c : Counts) (form : SceneLine) (n : ℕ) (rest : List Declared) (agents : List AgentInfo) → Goes plan (counted c form n) rest agents → is_object form ≡ false → Goes plan c rest agents
unfolding counted
after_other plan c form n rest agents g e = rw e at g

fit_from : (scene : Scene) (k : ℕ) (o : Stand) (c : Counts) (ls : List NumberedLine) (targets : List AgentInfo) → Every (PostsFit scene) (placed_from k o c ls) → list_all (λ a. length a.posts == 0) targets ≡ true → Goes (plan_of scene) c (filter_map (object_on scene (declarations scene)) (placed_from k o c ls)) (filter_map (agent_on scene) (placed_from k o c ls) ++ targets)
unfolding placed_from
fit_from scene k o c [] targets fits quiet = quiet
fit_from scene k o c (l ∷ ls) targets fits quiet =
    let behind = placed_from (suc k) (opened_by o k l.form) (counted c l.form (length l.picks)) ls in
    let rest = filter_map (object_on scene (declarations scene)) behind in
    let agents = filter_map (agent_on scene) behind in
    let g = fit_from scene (suc k) (opened_by o k l.form) (counted c l.form (length l.picks)) ls targets fits.1 quiet in
    line_fits scene (plan_of scene) (declarations scene) (placed_line k o c l) k l.form (c.objects + 2) rest agents targets fits.0 (after_object (plan_of scene) c l.form (length l.picks) rest (agents ++ targets) g) (after_other (plan_of scene) c l.form (length l.picks) rest (agents ++ targets) g)

-- ---- the whole

quiet_step : (names : List Declaration) (form : SceneLine) (agents : List AgentInfo) → list_all (λ a. length a.posts == 0) agents ≡ true → list_all (λ a. length a.posts == 0) (cons_option (target_agent names form) agents) ≡ true
unfolding target_agent
quiet_step names (line.Target n delay status depth) agents h = h
quiet_step names _ agents h = h

targets_quiet : (names : List Declaration) (ps : List Placed) → list_all (λ a. length a.posts == 0) (filter_map (λ p. target_agent names p.form) ps) ≡ true
targets_quiet names [] = refl
targets_quiet names (p ∷ ps) = quiet_step names p.form _ (targets_quiet names ps)

-- what each device posts by its lines, it may post
pub posts_fit : (scene : Scene) → Every (IsKnown scene) (placed scene) → device_posts_fit (plan_of scene) (device_ids 1 (all_objects scene (declarations scene))) (drop (app_count (plan_of scene)) (plan_of scene).agents) ≡ true
unfolding placed all_objects
posts_fit scene each =
    rw (agents_after scene) (fit_from scene 0 outside nothing scene.lines (filter_map (λ p. target_agent (declarations scene) p.form) (placed scene)) (every_map (IsKnown scene) (PostsFit scene) (device_line scene each) (placed scene) each) (targets_quiet (declarations scene) (placed scene)))
