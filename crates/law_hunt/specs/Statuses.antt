-- The status of a run, by what is expected of it, and what a table's status says of the runs that it counts. (own)
use Rattle.std.specs.Prelude.{ℕ, ◌≡◌, ◌+◌, ◌<◌, Bool, true, false, List, Option, Some, None}
use Rattle.wdf_base.specs.declared.plan.Plan.{Plan}
use Rattle.wdf_base.specs.declared.event.Event.{Event}
use Rattle.wdf_base.specs.declared.event.Ending.{Ending}
use Rattle.wdf_base.specs.Meaning.{Meaning}
use Rattle.wdf_model.specs.rules.Ready.{IsPickedRun, ending_of}
use Rattle.wdf_dev.specs.Agents.{agent_meaning}
use Rattle.wdf_plan.specs.Plans.{plan_of}
use Rattle.wdf_run.specs.Seeds.{seed_words}
use Rattle.wdf_output.specs.Endings.{status_of}
use Rattle.wdf_expect.specs.declared.rules.Expectation.{Expectation}
use Rattle.wdf_expect.specs.Verdicts.{first_broken, is_expected, is_whole}
use Rattle.wdf_kinds.specs.Kinds.{fault_line}
use Rattle.wdf_tries.specs.declared.tried.Case.{Case}
use Rattle.wdf_tries.specs.Tries.{scene_for}

-- the status of a run, by whether it ended as expected, the first rule that it breaks, and its ending: 1 where it breaks one, 0
-- where it ended as expected, and else that with which `kmdfsim` ends
abbrev pub status_by : Bool → Option Expectation → Ending → ℕ
status_by expected (Some e) end = 1
status_by true None end = 0
status_by false None end = status_of end

-- the same, where this tells whether the run ended as expected
abbrev pub status_with : List Expectation → Plan → List Event → Ending → Bool → ℕ
status_with es plan run end expected = status_by expected (first_broken plan run expected (is_whole end expected) es) end

-- The status of a run of a plan, by what is expected of it.
abbrev pub run_status : {A : Type 0} → List Expectation → Plan → Meaning A → List Event → ℕ
run_status es plan m run = status_with es plan run (ending_of plan m run) (is_expected es (ending_of plan m run) (fault_line run))

-- The run of a seed of a case has this status.
pub record HasStatus (tried : Case) (seed status : ℕ) : Type 0 where
  pub run : List Event
  pub picked : IsPickedRun (plan_of (scene_for tried seed)) agent_meaning (seed_words seed (plan_of (scene_for tried seed)).limit) run
  pub status_is : run_status tried.expectations (plan_of (scene_for tried seed)) agent_meaning run ≡ status

-- each seed of a range has a run of the status 0
abbrev pub AreClean : Case → ℕ → ℕ → Type 0
AreClean tried from count = (k : ℕ) → k < count → HasStatus tried (from + k) 0

-- a seed of a range has a run of this status
abbrev pub SomeHas : Case → ℕ → ℕ → ℕ → Type 0
SomeHas tried from count status = (k : ℕ) × (k < count) × HasStatus tried (from + k) status
