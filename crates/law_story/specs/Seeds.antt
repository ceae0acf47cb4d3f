-- The run of a seed of a case, told by a text. (own)
use Rattle.std.specs.Prelude.{◌≡◌, ◌≤◌, ℕ, List, length}
use Rattle.wdf_base.specs.declared.event.Event.{Event}
use Rattle.wdf_model.specs.rules.Ready.{IsPickedRun}
use Rattle.wdf_dev.specs.Agents.{agent_meaning}
use Rattle.wdf_plan.specs.Plans.{plan_of}
use Rattle.wdf_run.specs.Seeds.{seed_words}
use Rattle.wdf_tries.specs.declared.tried.Case.{Case}
use Rattle.wdf_tries.specs.Tries.{kind_of, scene_for}
use Rattle.law_story.specs.Stories.{IsOrdered}

-- `order` of a text makes a run of the kind of the seed's run, with no more events: a run of the plan of the scene that the seed
-- runs is of that kind, and what `order` makes has its events but for the numbers of lines, and ends as it does.
pub record TellsSeed (tried : Case) (seed : ℕ) (text : List ℕ) : Type 0 where
  pub run : List Event
  pub picked : IsPickedRun (plan_of (scene_for tried seed)) agent_meaning (seed_words seed (plan_of (scene_for tried seed)).limit) run
  pub plain : List Event
  pub kind_is : kind_of tried.expectations (plan_of (scene_for tried seed)) agent_meaning plain ≡ kind_of tried.expectations (plan_of (scene_for tried seed)) agent_meaning run
  pub few : length plain ≤ length run
  pub ordered : IsOrdered (plan_of (scene_for tried seed)) plain text
