-- The tries of a range of seeds, and what they come to. (own)
use Rattle.std.specs.Prelude.{ℕ, ◌≡◌, ◌+◌, List, drop, length, Some, slice_get, sum_by}
use Rattle.wdf_base.specs.declared.plan.Plan.{Plan}
use Rattle.wdf_base.specs.declared.event.Event.{Event}
use Rattle.wdf_base.specs.Meaning.{Meaning}
use Rattle.wdf_model.specs.rules.Ready.{IsPickedRun, ending_of}
use Rattle.wdf_model.specs.rules.Waits.{wait_list}
use Rattle.wdf_dev.specs.Agents.{agent_meaning}
use Rattle.wdf_scene.specs.declared.scene.Scene.{Scene}
use Rattle.wdf_plan.specs.Plans.{plan_of}
use Rattle.wdf_run.specs.Seeds.{seed_words}
use Rattle.wdf_jitter.specs.Moved.{moved_scene}
use Rattle.wdf_expect.specs.declared.rules.Expectation.{Expectation}
use Rattle.wdf_expect.specs.Verdicts.{judged_text}
use Rattle.wdf_table.specs.declared.row.Row.{Row}
use Rattle.wdf_table.specs.Tables.{IsTallyOf}
use Rattle.wdf_kinds.specs.Kinds.{fault_line, kind_text}
use Rattle.wdf_tries.specs.declared.tried.Case.{Case}
use Rattle.wdf_tries.specs.declared.range.Hunted.{Hunted}

-- the kind of a run's ending, whatever is expected
abbrev pub ending_kind : {A : Type 0} → Plan → Meaning A → List Event → List ℕ
ending_kind plan m run = kind_text plan (ending_of plan m run) (fault_line run) (wait_list plan m run)

-- The kind of a run of a plan, by what is expected of it.
abbrev pub kind_of : {A : Type 0} → List Expectation → Plan → Meaning A → List Event → List ℕ
kind_of es plan m run = judged_text es plan run (ending_of plan m run) (fault_line run) (ending_kind plan m run)

-- the words of a seed by which the lines of a scene are moved: those after its picks, one for each line
abbrev pub moving_words : Scene → ℕ → List ℕ
moving_words scene seed = drop (plan_of scene).limit (seed_words seed ((plan_of scene).limit + length scene.lines))

-- The scene that a seed of a case runs: the case's, each `at` line moved by its word.
abbrev pub scene_for : Case → ℕ → Scene
scene_for tried seed = moved_scene tried.jitter (moving_words tried.scene seed) tried.scene

-- the case of that scene, in which nothing is moved any more
abbrev pub moved_case : Case → ℕ → Case
moved_case tried seed = record tried { scene = scene_for tried seed; jitter = 0 }

-- The try of a seed by a plan: the kind of the run that the seed's words pick, and how many events it has.
pub record IsTryBy (plan : Plan) (es : List Expectation) (seed : ℕ) (row : Row) : Type 0 where
  pub run : List Event
  pub picked : IsPickedRun plan agent_meaning (seed_words seed plan.limit) run
  pub kind_is : row.kind ≡ kind_of es plan agent_meaning run
  pub count_is : row.count ≡ 1
  pub seed_is : row.seed ≡ seed
  pub events_is : row.events ≡ length run

-- The try of a seed of a case: that by the plan of the scene that the seed runs.
abbrev pub IsTryOf : Case → ℕ → Row → Type 0
IsTryOf tried seed row = IsTryBy (plan_of (scene_for tried seed)) tried.expectations seed row

-- The tries of so many seeds, from this one on, in their order.
pub record AreTries (tried : Case) (from count : ℕ) (tries : List Row) : Type 0 where
  pub all : length tries ≡ count
  pub each : (k : ℕ) (row : Row) → slice_get tries k ≡ Some row → IsTryOf tried (from + k) row

-- how many events they have together
abbrev pub events_of : List Row → ℕ
events_of tries = sum_by (λ row. row.events) tries

-- What the tries of a range of seeds come to: their rows, and how many events they have.
pub record IsHuntOf (tried : Case) (from count : ℕ) (hunted : Hunted) : Type 0 where
  pub tries : List Row
  pub are : AreTries tried from count tries
  pub tally : IsTallyOf tries hunted.tally
  pub events : hunted.events ≡ events_of tries
