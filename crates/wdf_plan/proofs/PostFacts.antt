-- What the Plug and Play manager and the apps post is for devices, at ticks in their bounds.
use Rattle.std.proofs.Common.{◌≡◌, ℕ, Bool, true, false, cond, Option, Some, None, IsTrue, refl}
use Rattle.std.proofs.lemmas.Bool.{le-leb, not-false, and_from}
use Rattle.std.specs.Prelude.{nat_le}
use Rattle.std.specs.List.{filter_map, list_all}
use Rattle.wdf_base.specs.declared.declared.PostLine.{PostLine}
use Rattle.wdf_base.specs.declared.script.AgentInfo.{AgentInfo}
use Rattle.wdf_base.specs.declared.plan.Plan.{Plan}
use Rattle.wdf_base.specs.Resolved.{is_ticks, apps, post_count, app_post as may_post, pnp_post as may_ask}
use Rattle.wdf_scene.specs.declared.line.SceneLine.{SceneLine}
use Rattle.wdf_scene.specs.declared.line.SceneLine.TheVariants as line
use Rattle.wdf_scene.specs.declared.scene.Scene.{Scene}
use Rattle.wdf_blocks.specs.declared.declaration.Wanted.TheVariants as wanted
use Rattle.wdf_blocks.specs.declared.placed.Placed.{Placed}
use Rattle.wdf_blocks.specs.Declarations.{declarations, stands}
use Rattle.wdf_refusals.specs.First.{first_refusal}
use Rattle.wdf_refusals.specs.Limits.{over_ticks}
use Rattle.wdf_plan.specs.Parts.{app_post, app_post_in, pnp_post, app_agent, stands_in}
use Rattle.wdf_blocks.specs.Placed.{placed}
use Rattle.wdf_plan.specs.Plans.{plan_with, plan_of}
use Rattle.wdf_refusals.specs.Rows.{unknown_word}
use Rattle.wdf_plan.proofs.Accepted.{IsAccepted, each_accepted, word_known}
use Rattle.wdf_plan.proofs.AgentLists.{apps_are}
use Rattle.wdf_refusals.proofs.Every.{Every, some_has, all_kept}
use Rattle.wdf_plan.proofs.Handles.{device_fits}
use Rattle.wdf_plan.proofs.PostCounts.{posts_bound}
use Rattle.wdf_plan.proofs.Within.{ticks_within}

-- each post is one of its poster's, at a tick within the bounds, and its handle is a device's
pub record IsPosted (plan : Plan) : Type 0 where
  pub pnp : IsTrue (list_all (may_ask plan) plan.pnp)
  pub apps : IsTrue (list_all (λ a. list_all (may_post plan) a.posts) (apps plan))
  pub limit : IsTrue (nat_le (post_count plan) 4096)

ask_fits : (scene : Scene) (number : ℕ) (device : Option ℕ) (form : SceneLine) (b : PostLine) → over_ticks form ≡ false → unknown_word (declarations scene) device form ≡ false → pnp_post (declarations scene) number form ≡ Some b → may_ask (plan_of scene) b ≡ true
unfolding pnp_post over_ticks unknown_word
ask_fits scene number device (line.AtAsk tick ask d) b t k e =
    some_has (λ x. may_ask (plan_of scene) x ≡ true) _ b e (and_from (is_ticks tick) _ (not-false (is_ticks tick) t) (device_fits scene d (not-false (stands (declarations scene) d wanted.Device) k)))
ask_fits scene number device _ b t k e = absurd (let z : ⊥ = cc in z)

app_fits : (scene : Scene) (number : ℕ) (device : Option ℕ) (form : SceneLine) (b : PostLine) → over_ticks form ≡ false → unknown_word (declarations scene) device form ≡ false → app_post (declarations scene) number form ≡ Some b → may_post (plan_of scene) b ≡ true
unfolding app_post over_ticks unknown_word
app_fits scene number device (line.AtRead tick d n) b t k e =
    some_has (λ x. may_post (plan_of scene) x ≡ true) _ b e (and_from (is_ticks tick) _ (not-false (is_ticks tick) t) (device_fits scene d (not-false (stands (declarations scene) d wanted.Device) k)))
app_fits scene number device (line.AtWrite tick d n) b t k e =
    some_has (λ x. may_post (plan_of scene) x ≡ true) _ b e (and_from (is_ticks tick) _ (not-false (is_ticks tick) t) (device_fits scene d (not-false (stands (declarations scene) d wanted.Device) k)))
app_fits scene number device (line.AtControl tick d code n) b t k e =
    some_has (λ x. may_post (plan_of scene) x ≡ true) _ b e (and_from (is_ticks tick) _ (not-false (is_ticks tick) t) (device_fits scene d (not-false (stands (declarations scene) d wanted.Device) k)))
app_fits scene number device (line.AtCancel tick n) b t k e =
    some_has (λ x. may_post (plan_of scene) x ≡ true) _ b e (and_from (is_ticks tick) _ (not-false (is_ticks tick) t) refl)
app_fits scene number device _ b t k e = absurd (let z : ⊥ = cc in z)

asks_fit : (scene : Scene) → Every (IsAccepted scene) (placed scene) → list_all (may_ask (plan_of scene)) (filter_map (λ p. pnp_post (declarations scene) p.number p.form) (placed scene)) ≡ true
asks_fit scene each =
    all_kept (λ p. pnp_post (declarations scene) p.number p.form) (IsAccepted scene) (may_ask (plan_of scene)) (λ p b a e. ask_fits scene p.number p.stand.device p.form b (ticks_within scene p a) (word_known scene p a) e) (placed scene) each

in_step : (scene : Scene) (p : Placed) (b : PostLine) (here : Bool) → IsAccepted scene p → cond here (app_post (declarations scene) p.number p.form) None ≡ Some b → may_post (plan_of scene) b ≡ true
in_step scene p b true a e = app_fits scene p.number p.stand.device p.form b (ticks_within scene p a) (word_known scene p a) e
in_step scene p b false a e = absurd (let z : ⊥ = cc in z)

posts_fit : (scene : Scene) → Every (IsAccepted scene) (placed scene) → (k : ℕ) → list_all (may_post (plan_of scene)) (filter_map (app_post_in (declarations scene) k) (placed scene)) ≡ true
posts_fit scene each k =
    all_kept (app_post_in (declarations scene) k) (IsAccepted scene) (may_post (plan_of scene)) (λ p b a e. in_step scene p b (stands_in k p) a e) (placed scene) each

app_agent_fits : (scene : Scene) (p : Placed) (form : SceneLine) (a : AgentInfo) → ((k : ℕ) → list_all (may_post (plan_of scene)) (filter_map (app_post_in (declarations scene) k) (placed scene)) ≡ true) → app_agent scene (declarations scene) p form ≡ Some a → list_all (may_post (plan_of scene)) a.posts ≡ true
unfolding app_agent
app_agent_fits scene p (line.App n) a h e = some_has (λ (x : AgentInfo). list_all (may_post (plan_of scene)) x.posts ≡ true) _ a e (h p.at)
app_agent_fits scene p _ a h e = absurd (let z : ⊥ = cc in z)

apps_fit : (scene : Scene) → Every (IsAccepted scene) (placed scene) → list_all (λ a. list_all (may_post (plan_of scene)) a.posts) (apps (plan_of scene)) ≡ true
apps_fit scene each =
    rw (apps_are scene) (all_kept (λ p. app_agent scene (declarations scene) p p.form) (IsAccepted scene) (λ a. list_all (may_post (plan_of scene)) a.posts) (λ p a q e. app_agent_fits scene p p.form a (posts_fit scene each) e) (placed scene) each)

-- what is posted in a plan fits
pub plan_posted : (scene : Scene) → first_refusal scene ≡ None → IsPosted (plan_of scene)
unfolding plan_of plan_with
plan_posted scene e =
    let each = each_accepted scene e in
    record {
      pnp = asks_fit scene each;
      apps = apps_fit scene each;
      limit = le-leb _ _ (posts_bound scene each);
    }
