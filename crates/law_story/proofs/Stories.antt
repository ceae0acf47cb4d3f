-- The text of a story is a scenario with its picks, and `order` of it makes the story's run.
use Rattle.std.proofs.Common.{◌≡◌, ℕ, suc, ◌<◌, ◌≤◌, ◌^◌, All, true, List, [], ◌∷◌, length, nat_lt, None, refl, sym, ap, ◌∙◌, subst, arith}
use Rattle.std.proofs.lemmas.Bool.{lt-ltb}
use Rattle.wdf_base.specs.declared.event.Event.{Event}
use Rattle.wdf_scene.specs.declared.line.NumberedLine.{NumberedLine}
use Rattle.wdf_scene.specs.declared.scene.Scene.{Scene}
use Rattle.wdf_scene.specs.Written.{scene_of}
use Rattle.wdf_parse.specs.StandsFor.{StandsFor}
use Rattle.wdf_refusals.specs.First.{first_refusal}
use Rattle.wdf_plan.specs.Plans.{plan_of}
use Rattle.wdf_model.specs.rules.Ready.{IsPickedRun}
use Rattle.wdf_dev.specs.Agents.{agent_meaning}
use Rattle.wdf_shrink.specs.Texts.{story_text}
use Rattle.law_bare.specs.Agents.{SameActions}
use Rattle.law_bare.specs.Lines.{bare_plan}
use Rattle.law_bare.proofs.Agents.{usual_picked}
use Rattle.law_canonical.proofs.Order.{IsRising, lines_rise}
use Rattle.law_story.specs.Spelled.{AreRising, IsSpelled}
use Rattle.law_story.specs.Stories.{IsOrdered, IsScenarioOf}
use Rattle.law_story.proofs.Again.{actions_both, again, again_picks, again_stands, are_short, like, same_actions}
use Rattle.law_story.proofs.Cuts.{HasCut, has_cut}
use Rattle.law_story.proofs.Texts.{stands_fit}
use Rattle.law_story.proofs.Written.{story_is}

-- ---- the scene of a text can be written

from_rising : (n : ℕ) (ls : List NumberedLine) → IsRising n ls → AreRising n ls
from_rising n [] h = tt
from_rising n (l ∷ ls) h = (h.0, from_rising (suc l.number) ls h.1)

pub spelled_text : (text : List ℕ) (scene : Scene) → StandsFor text scene → IsSpelled scene
spelled_text text scene stands = record {
  ws = stands.ws;
  is = stands.is;
  lines = stands.lines;
  fit = stands_fit text scene.version stands.first stands.ws stands.tokens;
  rising = from_rising 1 scene.lines (lines_rise text scene stands);
}

-- ---- picks that can be written

short_from : (picks : List ℕ) → All (λ pick. pick < 2 ^ 64) picks → are_short picks ≡ true
short_from [] h = refl
short_from (pick ∷ picks) h =
    let first : pick < 2 ^ 64 = h 0 0 (omega arith) in
    let rest : are_short picks ≡ true = short_from picks (λ k d within. h (suc k) d (omega (arith, within))) in
    let here : nat_lt pick (2 ^ 64) ≡ true = lt-ltb pick (2 ^ 64) first in
    rw here rest

-- ---- the scenario

-- the scene without its block
abbrev old_scene : (scene : Scene) → HasCut scene → Scene
old_scene scene h = scene_of scene.version h.ws

pub story_scenario : (scene : Scene) → IsSpelled scene → first_refusal scene ≡ None → (picks : List ℕ) → All (λ pick. pick < 2 ^ 64) picks → length picks ≤ 200000 → IsScenarioOf scene picks (story_text scene picks)
story_scenario scene is none' picks short few =
    let h = has_cut scene is in
    let fit = short_from picks short in
    let same = like scene.version h.known h.ws h.cut picks fit few in
    let there = again scene.version h.known h.ws h.cut picks in
    let plans : bare_plan (plan_of scene) ≡ bare_plan (plan_of there) = ap bare_plan h.plans ∙ same.plans in
    let actions : SameActions (plan_of scene) (plan_of there) = actions_both (plan_of scene) (plan_of (old_scene scene h)) (plan_of there) (same_actions (plan_of scene) (plan_of (old_scene scene h)) h.plans) same.actions in
    record {
      again = there;
      stands = subst (λ t. StandsFor t there) (sym (story_is scene h picks)) (again_stands scene.version h.known h.ws h.cut picks fit);
      accepted = same.accepted (h.accepted none');
      picks_are = again_picks scene.version h.known h.ws h.cut picks fit;
      plan_is = sym plans;
      runs = usual_picked (plan_of scene) (plan_of there) plans actions;
    }

pub ordered_by : (scene : Scene) (picks : List ℕ) (text : List ℕ) → IsScenarioOf scene picks text → (run : List Event) → IsPickedRun (plan_of scene) agent_meaning picks run → IsOrdered (plan_of scene) run text
ordered_by scene picks text s run picked =
    let made = s.runs picks run picked in
    record {
      again = s.again;
      stands = s.stands;
      accepted = s.accepted;
      made = made.0;
      ordered = subst (λ ps. IsPickedRun (plan_of s.again) agent_meaning ps made.0) (sym s.picks_are) made.1;
      events_alike = made.2;
      ends_alike = made.3;
    }
