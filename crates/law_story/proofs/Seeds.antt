-- The text of the story of a seed tells a run of the kind of the seed's.
use Rattle.std.proofs.Common.{◌≡◌, ℕ, ◌≤◌, nat_le, IsTrue, List, [], length, None, ◌∙◌, arith}
use Rattle.std.proofs.lemmas.Bool.{and_parts, leb-true}
use Rattle.wdf_base.specs.declared.event.Event.{Event}
use Rattle.wdf_base.specs.Resolved.{is_from}
use Rattle.wdf_scene.specs.declared.scene.Scene.{Scene}
use Rattle.wdf_scene.specs.Written.{IsScene}
use Rattle.wdf_refusals.specs.First.{first_refusal}
use Rattle.wdf_plan.specs.Plans.{plan_of}
use Rattle.wdf_plan.proofs.Bounds.{plan_bounded}
use Rattle.wdf_model.specs.rules.Ready.{IsPickedRun, IsRunOf, ready}
use Rattle.wdf_model.proofs.Runs.{picked_is_run, run_opens}
use Rattle.wdf_dev.specs.Agents.{agent_meaning}
use Rattle.wdf_tries.specs.declared.tried.Case.{Case}
use Rattle.wdf_tries.specs.Tries.{moved_case, moving_words, scene_for}
use Rattle.wdf_shrink.specs.Stories.{IsStoryOfSeed}
use Rattle.wdf_shrink.specs.Texts.{story_text}
use Rattle.law_machine_once.proofs.Numbers.{within_limit_of}
use Rattle.law_moved.proofs.Refusals.{moved_alike}
use Rattle.law_story.specs.Seeds.{TellsSeed}
use Rattle.law_story.specs.Spelled.{IsSpelled}
use Rattle.law_story.proofs.Moved.{spelled_moved}
use Rattle.law_story.proofs.Stories.{ordered_by, story_scenario}

-- a run has at most 200,000 events
few_events : (scene : Scene) → IsSpelled scene → first_refusal scene ≡ None → (picks : List ℕ) (run : List Event) → IsPickedRun (plan_of scene) agent_meaning picks run → length run ≤ 200000
few_events scene is none' picks run picked =
    let scene_is : IsScene scene = record { ws = is.ws; is = is.is; lines = is.lines } in
    let limit : IsTrue (is_from 1 200000 (plan_of scene).limit) = (plan_bounded scene scene_is none').limit in
    let parts = and_parts (nat_le 1 (plan_of scene).limit) (nat_le (plan_of scene).limit 200000) limit in
    let small : (plan_of scene).limit ≤ 200000 = leb-true (plan_of scene).limit 200000 parts.1 in
    let runs : IsRunOf (plan_of scene) agent_meaning run = picked_is_run (ready (plan_of scene) agent_meaning) picks [] run (run_opens (ready (plan_of scene) agent_meaning)) picked in
    let within = within_limit_of (plan_of scene) agent_meaning run runs in
    omega (arith, small, within)

pub tells_seed : (tried : Case) → IsSpelled tried.scene → first_refusal tried.scene ≡ None → (seed : ℕ) (picks : List ℕ) → IsStoryOfSeed (moved_case tried seed) seed picks → TellsSeed tried seed (story_text (scene_for tried seed) picks)
tells_seed tried is none' seed picks s =
    let scene = scene_for tried seed in
    let there : IsSpelled scene = spelled_moved tried.jitter (moving_words tried.scene seed) tried.scene is in
    let accepted : first_refusal scene ≡ None = moved_alike tried.jitter (moving_words tried.scene seed) tried.scene ∙ none' in
    let long = few_events scene there accepted picks s.story.run s.story.picked in
    let fewer = s.few_picks in
    let few : length picks ≤ 200000 = omega (arith, long, fewer) in
    let scenario = story_scenario scene there accepted picks s.short few in
    record {
      run = s.run;
      picked = s.picked;
      plain = s.story.run;
      kind_is = s.story.kind_is;
      few = s.story.few;
      ordered = ordered_by scene picks (story_text scene picks) scenario s.story.run s.story.picked;
    }
