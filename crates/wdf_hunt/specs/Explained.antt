-- What `explain` writes. (own)
use Rattle.std.specs.Prelude.{ℕ, ◌≡◌, ◌⊎◌, List}
use Rattle.wdf_base.specs.declared.plan.Plan.{Plan}
use Rattle.wdf_base.specs.declared.event.Ending.{Ending}
use Rattle.wdf_dev.specs.Agents.{agent_meaning}
use Rattle.wdf_plan.specs.Plans.{plan_of}
use Rattle.wdf_output.specs.Refusals.{no_memory_line}
use Rattle.wdf_output.specs.Said.{Sinking, Says}
use Rattle.wdf_replay.specs.Verdicts.{IsAccepted}
use Rattle.wdf_split.specs.Inputs.{scenario_in, trace_in}
use Rattle.wdf_top.specs.Answers.{Answering, IsRefusedWith}
use Rattle.wdf_explain_run.specs.Endings.{story}

-- The trace is accepted: it is the text of a run of the plan that has ended, and this is the story of that run.
abbrev pub IsExplainedWith : Plan → List ℕ → List ℕ → ℕ → Type 0
IsExplainedWith plan trace text status = (e : Ending) × (accepted : IsAccepted plan agent_meaning trace e) × (text ≡ story plan agent_meaning accepted.run) × (status ≡ 0)

-- the story of a trace, or the line of its refusal
abbrev pub IsExplained : Plan → List ℕ → List ℕ → ℕ → Type 0
IsExplained plan trace text status = IsExplainedWith plan trace text status ⊎ IsRefusedWith plan trace text status

-- what becomes of a trace: its story or its refusal, or the line `out of memory`; or a front of either
abbrev pub TellsExplained : Plan → List ℕ → Sinking → ℕ → Type 0
TellsExplained plan trace k answer = (text : List ℕ) × (status : ℕ) × (IsExplained plan trace text status ⊎ ((text ≡ no_memory_line) × (status ≡ 15))) × Says k text status answer

-- what becomes of a run's story: it is written, or the line `out of memory`; or a front of either
abbrev pub TellsStory : List ℕ → Sinking → ℕ → Type 0
TellsStory told k answer = (text : List ℕ) × (status : ℕ) × (((text ≡ told) × (status ≡ 0)) ⊎ ((text ≡ no_memory_line) × (status ≡ 15))) × Says k text status answer

-- `explain` writes the story of the trace after the first line `trace`, or the line of its refusal
abbrev pub explaining : Answering
explaining = record {
  scenario = scenario_in;
  writes = λ input scenario scene stands text status. IsExplained (plan_of scene) (trace_in input) text status;
}
