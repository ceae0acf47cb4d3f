-- When each status comes. (own)
use Rattle.std.specs.Prelude.{ℕ, ◌≡◌, ◌≤◌, ◌+◌, ◌⊎◌, ◌==◌, ◌||◌, Bool, List, length, Some}
use Rattle.wdf_base.specs.declared.plan.Plan.{Plan}
use Rattle.wdf_base.specs.declared.event.Event.{Event}
use Rattle.wdf_base.specs.declared.event.Ending.{Ending}
use Rattle.wdf_scene.specs.declared.scene.Scene.{Scene}
use Rattle.wdf_model.specs.rules.Ready.{ending_of, IsPickedRun}
use Rattle.wdf_dev.specs.Agents.{agent_meaning}
use Rattle.wdf_parse.specs.StandsFor.{StandsFor}
use Rattle.wdf_parse.specs.Texts.{IsRefusalOf, reading}
use Rattle.wdf_parse.specs.Laws.{IsNoScene}
use Rattle.wdf_refusals.specs.declared.refusal.PlanRefusal.TheVariants as plan
use Rattle.wdf_refusals.specs.First.{first_refusal}
use Rattle.wdf_plan.specs.Plans.{plan_of}
use Rattle.wdf_gen.specs.Generated.{generated}
use Rattle.wdf_replay.specs.declared.verdict.Why.{Why}
use Rattle.wdf_run_text.specs.Texts.{text_of}
use Rattle.wdf_replay.specs.Refused.{refused_line}
use Rattle.wdf_replay.specs.Verdicts as verdict
use Rattle.wdf_split.specs.Inputs.{scenario_in, trace_in}
use Rattle.wdf_summary.specs.Counts.{summary_text}
use Rattle.wdf_io.specs.Outside.{Rose, Gains}
use Rattle.wdf_input.specs.declared.input.TheConstants.{INPUT_LIMIT}
use Rattle.wdf_output.specs.declared.refusal.Refusal.{Refusal}
use Rattle.wdf_output.specs.declared.refusal.Refusal.TheVariants.{ReadFault, TooLarge, NoMemory, NoScene, NoPlan}
use Rattle.wdf_top.specs.declared.run.Picks.TheVariants.{Seeded}
use Rattle.wdf_top.specs.Agents.{RunAgents, meaning_of}
use Rattle.wdf_top.specs.Answers.{HasPlan, Picking, IsRunBy, Run, picks_of, accepted_line}
use Rattle.wdf_input.specs.Input.{TakesAll, TakesCount, TakesAtMost}
use Rattle.wdf_lint.specs.Answers.{IsAnswer}
use Rattle.wdf_lint.specs.declared.static_check.LintAnswer.{LintAnswer}
use Rattle.wdf_lint_text.specs.Lines.{answer_text}
use Rattle.wdf_output.specs.Said.{Sinking}
use Rattle.wdf_top.specs.Top.{Sourcing, IsRead, Service, Reads, Summary}

-- ---- statuses

-- the statuses that the program may end with
abbrev pub is_status : ℕ → Bool
is_status n = n == 0 || n == 2 || n == 3 || n == 4 || n == 5 || n == 6 || n == 7 || n == 10 || n == 11 || n == 12 || n == 13 || n == 14 || n == 15

-- a count that didn't rise in a call, and wasn't at its last value before it
abbrev pub Stayed : ℕ → ℕ → Type 0
Stayed before after = Rose before after → ⊥

-- a source says that this input is left, of at most the limit, and no read of it fails
pub record IsGiven (s : Sourcing) (input : List ℕ) : Type 0 where
  pub told : s.before ≡ Some input
  pub small : length input ≤ INPUT_LIMIT
  pub stayed : Stayed s.faults_before s.faults_after

-- this status is answered, unless the sink failed or the answer is out of memory
abbrev pub Unhindered : ℕ → ℕ → Type 0
Unhindered status answer = (answer ≡ status) ⊎ ((answer ≡ 13) ⊎ (answer ≡ 15))

-- the whole input was read, a run of its plan with these agents was picked so and ended so, and its text was written
pub record WroteRun (a : RunAgents) (by : Picking) (s : Sourcing) (k : Sinking) (e : Ending) : Type 0 where
  pub input : List ℕ
  pub whole : TakesAll s.before s.after input
  pub plan : Plan
  pub stands : HasPlan input plan
  pub run : List Event
  pub made : IsRunBy plan (meaning_of a) by run
  pub ends : ending_of plan (meaning_of a) run ≡ e
  pub written : Gains k.before k.after (text_of plan (meaning_of a) run)

-- the words of a number made a run of the plan of its generated scenario that ended so, and its summary was written
pub record WroteSummary (n : ℕ) (k : Sinking) (e : Ending) : Type 0 where
  pub run : List Event
  pub picked : IsPickedRun (plan_of (generated n)) agent_meaning (picks_of (Seeded n) (plan_of (generated n))) run
  pub ends : ending_of (plan_of (generated n)) agent_meaning run ≡ e
  pub written : Gains k.before k.after (summary_text run e)

-- the words are a form that writes a run, and the text of one was written that ended so; or they are `load N`, and the
-- summary of such a run was written
abbrev pub WroteFor : Service → Sourcing → Sinking → Ending → Type 0
WroteFor v s k e =
    ((a : RunAgents) × (by : Picking) × (v ≡ Reads (Run a by)) × WroteRun a by s k e)
    ⊎ ((n : ℕ) × (v ≡ Summary n) × WroteSummary n k e)

-- the whole input was read, a plan stands for its scenario, its trace is the text of a run that has ended, and the line
-- that says so was written
pub record WroteAccepted (s : Sourcing) (k : Sinking) : Type 0 where
  pub input : List ℕ
  pub whole : TakesAll s.before s.after input
  pub plan : Plan
  pub stands : HasPlan (scenario_in input) plan
  pub ending : Ending
  pub accepted : verdict.IsAccepted plan agent_meaning (trace_in input) ending
  pub written : Gains k.before k.after (accepted_line (length accepted.run) ending)

-- the whole input was read, a plan stands for its scenario, this line of its trace is the first bad one, for this reason,
-- and the line that says so was written
pub record WroteRefused (s : Sourcing) (k : Sinking) : Type 0 where
  pub input : List ℕ
  pub whole : TakesAll s.before s.after input
  pub plan : Plan
  pub stands : HasPlan (scenario_in input) plan
  pub line : ℕ
  pub why : Why
  pub refused : verdict.IsRefused plan agent_meaning (trace_in input) line why
  pub written : Gains k.before k.after (refused_line line why)

-- the whole input was read, a plan stands for it, this is what the static check finds in its scripts, and that was written
pub record WroteLint (s : Sourcing) (k : Sinking) (found : LintAnswer) : Type 0 where
  pub input : List ℕ
  pub whole : TakesAll s.before s.after input
  pub plan : Plan
  pub stands : HasPlan input plan
  pub is : IsAnswer plan found
  pub written : Gains k.before k.after (answer_text found)

-- ---- refusals

-- when a refusal comes, where this part of the input is the scenario
abbrev pub IsCause : (List ℕ → List ℕ) → Sourcing → Refusal → Type 0
IsCause part s ReadFault = Rose s.faults_before s.faults_after × TakesAtMost s.before s.after INPUT_LIMIT
IsCause part s TooLarge = TakesCount s.before s.after (INPUT_LIMIT + 1) × (s.faults_after ≡ s.faults_before)
IsCause part s NoMemory = (s.faults_after ≡ s.faults_before) × TakesAtMost s.before s.after INPUT_LIMIT
IsCause part s (NoScene refusal) = (input : List ℕ) × IsRead s input × IsRefusalOf (reading (part input)) refusal × IsNoScene (part input) refusal
IsCause part s (NoPlan refusal) = (input : List ℕ) × (scene : Scene) × IsRead s input × StandsFor (part input) scene × ((refusal ≡ plan.Memory) ⊎ (first_refusal scene ≡ Some refusal))

-- why a text has no plan
abbrev pub IsTextCause : List ℕ → Refusal → Type 0
IsTextCause text ReadFault = ⊥
IsTextCause text TooLarge = ⊥
IsTextCause text NoMemory = ⊥
IsTextCause text (NoScene refusal) = IsRefusalOf (reading text) refusal × IsNoScene text refusal
IsTextCause text (NoPlan refusal) = (scene : Scene) × StandsFor text scene × ((refusal ≡ plan.Memory) ⊎ (first_refusal scene ≡ Some refusal))

-- the whole of an input is its scenario
abbrev pub all_of : List ℕ → List ℕ
all_of input = input
