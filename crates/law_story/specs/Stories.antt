-- What `order` makes of the text of a story. (own)
use Rattle.std.specs.Prelude.{◌≡◌, ℕ, List, map, None}
use Rattle.wdf_base.specs.declared.event.Event.{Event}
use Rattle.wdf_base.specs.declared.plan.Plan.{Plan}
use Rattle.wdf_scene.specs.declared.scene.Scene.{Scene}
use Rattle.wdf_parse.specs.StandsFor.{StandsFor}
use Rattle.wdf_refusals.specs.First.{first_refusal}
use Rattle.wdf_plan.specs.Plans.{plan_of}
use Rattle.wdf_model.specs.rules.Ready.{IsPickedRun, ending_of}
use Rattle.wdf_dev.specs.Agents.{agent_meaning}
use Rattle.law_bare.specs.Bare.{HasLikePicked, bare_event}
use Rattle.law_bare.specs.Lines.{bare_plan}

-- A text is a scenario with these picks and, but for them and the numbers of lines, with the plan of this scene: a scene stands for
-- it, and no line of it is refused.
pub record IsScenarioOf (scene : Scene) (picks : List ℕ) (text : List ℕ) : Type 0 where
  pub again : Scene
  pub stands : StandsFor text again
  pub accepted : first_refusal again ≡ None
  pub picks_are : (plan_of again).picks ≡ picks
  pub plan_is : bare_plan (plan_of again) ≡ bare_plan (plan_of scene)
  -- to each run of the scene's plan by picks there is one of the scenario's by the same picks, with the same events but for the
  -- numbers of lines, and they end alike
  pub runs : (picks : List ℕ) (run : List Event) → IsPickedRun (plan_of scene) agent_meaning picks run → HasLikePicked (plan_of scene) (plan_of again) agent_meaning picks run

-- `order` of a text makes a run with the events of this run of a plan, but for the numbers of lines, and ends as it does.
pub record IsOrdered (plan : Plan) (run : List Event) (text : List ℕ) : Type 0 where
  pub again : Scene
  pub stands : StandsFor text again
  pub accepted : first_refusal again ≡ None
  pub made : List Event
  pub ordered : IsPickedRun (plan_of again) agent_meaning (plan_of again).picks made
  pub events_alike : map bare_event run ≡ map bare_event made
  pub ends_alike : ending_of plan agent_meaning run ≡ ending_of (plan_of again) agent_meaning made
