-- A story: picks whose run ends as it should. (own)
use Rattle.std.specs.Prelude.{ℕ, ◌≡◌, ◌<◌, ◌≤◌, ◌^◌, ◌&&◌, All, Bool, List, bytes_eq, length, nat_le}
use Rattle.wdf_base.specs.declared.event.Event.{Event}
use Rattle.wdf_model.specs.rules.Ready.{IsPickedRun}
use Rattle.wdf_dev.specs.Agents.{agent_meaning}
use Rattle.wdf_run.specs.Seeds.{seed_words}
use Rattle.wdf_plan.specs.Plans.{plan_of}
use Rattle.wdf_tries.specs.declared.tried.Case.{Case}
use Rattle.wdf_tries.specs.Tries.{kind_of}
use Rattle.wdf_shrink.specs.declared.told.Told.{Told}

-- What is told of the run that these picks make of a case: its kind, and how many events it has.
pub record IsToldOf (tried : Case) (picks : List ℕ) (told : Told) : Type 0 where
  pub run : List Event
  pub picked : IsPickedRun (plan_of tried.scene) agent_meaning picks run
  pub kind_is : told.kind ≡ kind_of tried.expectations (plan_of tried.scene) agent_meaning run
  pub events_is : told.events ≡ length run

-- what is told of a run is this kind, with no more events
abbrev pub ends_as : Told → Told → Bool
ends_as told goal = bytes_eq told.kind goal.kind && nat_le told.events goal.events

-- The run that these picks make of a case is of this kind, with at most so many events.
pub record IsStory (tried : Case) (kind : List ℕ) (most : ℕ) (picks : List ℕ) : Type 0 where
  pub run : List Event
  pub picked : IsPickedRun (plan_of tried.scene) agent_meaning picks run
  pub kind_is : kind_of tried.expectations (plan_of tried.scene) agent_meaning run ≡ kind
  pub few : length run ≤ most

-- The picks are a story of a seed: their run is of the kind of the seed's run, and has no more events. There are no more picks than
-- events, and each pick is one that a scenario can have.
pub record IsStoryOfSeed (tried : Case) (seed : ℕ) (picks : List ℕ) : Type 0 where
  pub run : List Event
  pub picked : IsPickedRun (plan_of tried.scene) agent_meaning (seed_words seed (plan_of tried.scene).limit) run
  pub story : IsStory tried (kind_of tried.expectations (plan_of tried.scene) agent_meaning run) (length run) picks
  pub few_picks : length picks ≤ length story.run
  pub short : All (λ pick. pick < 2 ^ 64) picks
