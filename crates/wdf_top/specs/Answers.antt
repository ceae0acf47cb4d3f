-- What an input is answered: which text is to be written, and with which status. (own)
use Rattle.std.specs.Prelude.{◌++◌, ℕ, ◌≡◌, ◌≢◌, ◌⊎◌, List, length, codes, None, Some, Err}
use Rattle.wdf_base.specs.Meaning.{Meaning}
use Rattle.wdf_base.specs.declared.plan.Plan.{Plan}
use Rattle.wdf_base.specs.declared.event.Event.{Event}
use Rattle.wdf_base.specs.declared.event.Ending.{Ending}
use Rattle.wdf_base.specs.declared.event.Ending.TheVariants as ending
use Rattle.wdf_scene.specs.declared.scene.Scene.{Scene}
use Rattle.wdf_model.specs.rules.Ready.{ending_of, IsPickedRun, IsRunOf}
use Rattle.wdf_dev.specs.Agents.{agent_meaning}
use Rattle.wdf_lines.specs.Endings.{ending_text}
use Rattle.wdf_run.specs.Seeds.{seed_words}
use Rattle.wdf_parse.specs.declared.refusal.ParseRefusal.{ParseRefusal}
use Rattle.wdf_parse.specs.Canonical.{canonical_text}
use Rattle.wdf_parse.specs.StandsFor.{StandsFor}
use Rattle.wdf_parse.specs.Texts.{reading}
use Rattle.wdf_refusals.specs.declared.refusal.PlanRefusal.{PlanRefusal}
use Rattle.wdf_refusals.specs.First.{first_refusal}
use Rattle.wdf_plan.specs.Plans.{plan_of}
use Rattle.wdf_gen.specs.Generated.{generated}
use Rattle.wdf_replay.specs.declared.verdict.Verdict.{Verdict}
use Rattle.wdf_replay.specs.declared.verdict.Verdict.TheVariants as verdicts
use Rattle.wdf_replay.specs.declared.verdict.Why.{Why}
use Rattle.wdf_run_text.specs.Texts.{text_of}
use Rattle.wdf_replay.specs.Refused.{refused_line}
use Rattle.wdf_replay.specs.Verdicts as verdict
use Rattle.wdf_output.specs.Endings.{status_of}
use Rattle.wdf_output.specs.Refusals.{parse_line, plan_line}
use Rattle.wdf_split.specs.Inputs.{scenario_in, trace_in}
use Rattle.wdf_lint.specs.Answers.{IsAnswer}
use Rattle.wdf_lint.specs.declared.static_check.LintAnswer.{LintAnswer}
use Rattle.wdf_lint_text.specs.Lines.{answer_text, answer_status}
use Rattle.wdf_summary.specs.Counts.{summary_text}
use Rattle.wdf_top.specs.Agents.{RunAgents, meaning_of}
use Rattle.wdf_top.specs.declared.run.Picks.{Picks}
use Rattle.wdf_top.specs.declared.run.Picks.TheVariants.{Listed, Seeded}

-- ---- the input's scene and plan

-- no scene stands for the input
abbrev pub HasNoScene : List ℕ → Type 0
HasNoScene input = (scene : Scene) → StandsFor input scene → ⊥

-- a scene stands for the input, and it has no plan: this is its first refusal
abbrev pub HasNoPlan : List ℕ → PlanRefusal → Type 0
HasNoPlan input refusal = (scene : Scene) × StandsFor input scene × (first_refusal scene ≡ Some refusal)

-- a scene stands for the input, and this is its plan
abbrev pub HasPlan : List ℕ → Plan → Type 0
HasPlan input plan = (scene : Scene) × StandsFor input scene × (first_refusal scene ≡ None) × (plan ≡ plan_of scene)

-- ---- runs

-- the picks of a plan's run: those of its `order` block, or the words of a seed, one for each event that a run may have
abbrev pub picks_of : Picks → Plan → List ℕ
picks_of Listed plan = plan.picks
picks_of (Seeded seed) plan = seed_words seed plan.limit

-- what picks the events of a run, one after the other
pub data Picking : Type 0 where
  -- the picks of the `order` block, or the words of a seed
  By : Picks → Picking
  -- no picks: processors as threads make the run, and it may be any
  Freely : Picking

-- the run of a plan with these agents is picked so: picks determine it; freely it is any that has ended
abbrev pub IsRunBy : {A : Type 0} → Plan → Meaning A → Picking → List Event → Type 0
IsRunBy plan m (By picks) run = IsPickedRun plan m (picks_of picks plan) run
IsRunBy plan m Freely run = IsRunOf plan m run × (ending_of plan m run ≢ ending.Running)

-- The text of a run of the plan with these agents that is picked so, from the plan's opening to its end, and its status.
pub record IsTraceOf {A : Type 0} (plan : Plan) (m : Meaning A) (by : Picking) (text : List ℕ) (status : ℕ) : Type 0 where
  pub run : List Event
  pub made : IsRunBy plan m by run
  pub text_is : text ≡ text_of plan m run
  pub status_is : status ≡ status_of (ending_of plan m run)

-- The summary of the run that the words of a number make of the plan of its generated scenario.
pub record IsSummaryOf (n : ℕ) (text : List ℕ) (status : ℕ) : Type 0 where
  pub run : List Event
  pub picked : IsPickedRun (plan_of (generated n)) agent_meaning (picks_of (Seeded n) (plan_of (generated n))) run
  pub text_is : text ≡ summary_text run (ending_of (plan_of (generated n)) agent_meaning run)
  pub status_is : status ≡ status_of (ending_of (plan_of (generated n)) agent_meaning run)

-- ---- verdicts

-- the line of a trace that is accepted: it has so many events and ended so
abbrev pub accepted_line : ℕ → Ending → List ℕ
accepted_line events e = codes "accepted " ++ ending_text events e ++ codes "\n"

-- the line of a verdict, where an accepted trace has so many events
abbrev pub verdict_line : ℕ → Verdict → List ℕ
verdict_line events (verdicts.Accepted e) = accepted_line events e
verdict_line events (verdicts.RefusedAt line y) = refused_line line y

abbrev pub verdict_status : Verdict → ℕ
verdict_status (verdicts.Accepted e) = 0
verdict_status (verdicts.RefusedAt line y) = 6

-- the trace is accepted: it is the text of a run of the plan that has ended so
abbrev pub IsAcceptedWith : Plan → List ℕ → List ℕ → ℕ → Type 0
IsAcceptedWith plan trace text status =
    (e : Ending) × (accepted : verdict.IsAccepted plan agent_meaning trace e) × (text ≡ accepted_line (length accepted.run) e) × (status ≡ 0)

-- the trace is refused at this line, its first bad one, for this reason
abbrev pub IsRefusedWith : Plan → List ℕ → List ℕ → ℕ → Type 0
IsRefusedWith plan trace text status =
    (line : ℕ) × (y : Why) × verdict.IsRefused plan agent_meaning trace line y × (text ≡ refused_line line y) × (status ≡ 6)

-- The line of the verdict on a trace, and its status.
abbrev pub IsVerdict : Plan → List ℕ → List ℕ → ℕ → Type 0
IsVerdict plan trace text status = IsAcceptedWith plan trace text status ⊎ IsRefusedWith plan trace text status

-- ---- the static check

-- What the static check finds in the scripts of a plan, and its status.
abbrev pub IsLinted : Plan → List ℕ → ℕ → Type 0
IsLinted plan text status = (found : LintAnswer) × IsAnswer plan found × (text ≡ answer_text found) × (status ≡ answer_status found)

-- ---- answers

-- why a scenario has no plan: 10 where no scene stands for it, 11 where the scene has no plan
abbrev pub IsRefused : List ℕ → List ℕ → ℕ → Type 0
IsRefused input text status =
    ((refusal : ParseRefusal) × HasNoScene input × (reading input ≡ Err refusal) × (text ≡ parse_line refusal) × (status ≡ 10))
    ⊎ ((refusal : PlanRefusal) × HasNoPlan input refusal × (text ≡ plan_line refusal) × (status ≡ 11))

-- what a form of words writes for a scene that stands for the scenario and has a plan
abbrev pub Writing : Type 1
Writing = (scenario : List ℕ) (scene : Scene) → StandsFor scenario scene → List ℕ → ℕ → Type 0

-- how a form of words answers an input: which part of it is the scenario, and what is written for its scene
pub record Answering : Type 1 where
  pub scenario : List ℕ → List ℕ
  pub writes : List ℕ → Writing

-- what an input is answered: why its scenario has no plan, or what is written for the scene
abbrev pub Answers : Answering → List ℕ → List ℕ → ℕ → Type 0
Answers a input text status =
    IsRefused (a.scenario input) text status
    ⊎ ((scene : Scene) × (stands : StandsFor (a.scenario input) scene) × (first_refusal scene ≡ None) × a.writes input (a.scenario input) scene stands text status)

-- `order`, `seed N` and `run` write the text of a run of the scene's plan
abbrev pub running : {A : Type 0} → Meaning A → Picking → Answering
running m by = record {
  scenario = λ input. input;
  writes = λ input scenario scene stands text status. IsTraceOf (plan_of scene) m by text status;
}

-- `check` writes the scene in canonical form
abbrev pub checking : Answering
checking = record {
  scenario = λ input. input;
  writes = λ input scenario scene stands text status. (text ≡ canonical_text scene.version stands.ws) × (status ≡ 0);
}

-- `replay` writes the verdict on the trace after the first line `trace`
abbrev pub judging : Answering
judging = record {
  scenario = scenario_in;
  writes = λ input scenario scene stands text status. IsVerdict (plan_of scene) (trace_in input) text status;
}

-- `lint` writes what the static check finds in the scripts of the scene's plan
abbrev pub linting : Answering
linting = record {
  scenario = λ input. input;
  writes = λ input scenario scene stands text status. IsLinted (plan_of scene) text status;
}

-- ---- forms of words

-- what a form of words that reads its input asks for
pub data Reading : Type 0 where
  -- the input's scene in canonical form
  Canonical : Reading
  -- a run of the input's plan, with these agents and picked so
  Run : RunAgents → Picking → Reading
  -- the verdict on the input's trace
  Judgement : Reading
  -- what the static check finds in the scripts of the input's plan
  Findings : Reading

-- How it answers its input.
abbrev pub answering_of : Reading → Answering
answering_of Canonical = checking
answering_of (Run a by) = running (meaning_of a) by
answering_of Judgement = judging
answering_of Findings = linting
