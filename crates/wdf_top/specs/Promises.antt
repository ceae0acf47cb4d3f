-- What the program promises of an answer to words, for each form and for words of none: what is left of the source, what
-- was written and the status. (own)
use Rattle.std.specs.Prelude.{ℕ, ◌≡◌, ◌≢◌, ◌<◌, ◌⊎◌, false, IsTrue, List, [], length, Some}
use Rattle.wdf_base.specs.declared.plan.Plan.{Plan}
use Rattle.wdf_base.specs.declared.event.Event.{Event}
use Rattle.wdf_base.specs.declared.event.Ending.TheVariants as ending
use Rattle.wdf_base.specs.declared.event.Fault.{Fault}
use Rattle.wdf_dev.specs.Agents.{agent_meaning}
use Rattle.wdf_gen.specs.Generated as scenario
use Rattle.wdf_input.specs.Input.{TakesAll, TakesAtMost, TakesCount, UsesUp}
use Rattle.wdf_io.specs.Outside.{Rose, Gains}
use Rattle.wdf_lint.specs.Answers.{IsAnswer}
use Rattle.wdf_lint.specs.Findings.{Finding}
use Rattle.wdf_lint.specs.declared.static_check.LintAnswer.TheVariants as lint
use Rattle.wdf_parse.specs.Printing.{printed}
use Rattle.wdf_refusals.specs.declared.refusal.PlanRefusal.{PlanRefusal}
use Rattle.wdf_replay.specs.declared.verdict.Why.{Why}
use Rattle.wdf_replay.specs.declared.verdict.Why.TheVariants as why
use Rattle.wdf_replay.specs.Refused.{refused_line}
use Rattle.wdf_replay.specs.Verdicts.{IsRefused, IsWhole}
use Rattle.wdf_output.specs.Refusals.{no_memory_line}
use Rattle.wdf_output.specs.Said.{Sinking, IsCutShort}
use Rattle.wdf_split.specs.Inputs.{scenario_in, trace_in}
use Rattle.wdf_top.specs.Agents.{RunAgents, meaning_of}
use Rattle.wdf_top.specs.Answers.{Answers, HasNoScene, HasNoPlan, HasPlan, IsTraceOf, IsVerdict, IsSummaryOf, IsLinted, Picking, Reading, Run, Judgement, Findings, answering_of}
use Rattle.wdf_top.specs.Causes.{is_status, IsGiven, Stayed, Unhindered, WroteAccepted, WroteFor, WroteLint, WroteRefused, WroteRun, WroteSummary}
use Rattle.wdf_top.specs.Top.{Sourcing, Service, Usage, Reads, Scenario, Summary, IsDue, Tells, TellsPlan, reads_input, scenario_by}

pub record ServicePromises (v : Service) (s : Sourcing) (k : Sinking) (answer : ℕ) : Type 0 where
  -- Which text is due with which status. It is written whole, or the sink fails and a front of it is written.
  pub told : Tells v s k answer
  -- For a form that reads, an input that is told and within the limit, and counts of faults that don't rise: the answer is
  -- out of memory, or one of two texts is written. It is why the input's scenario has no plan, or what the form writes for
  -- the scene. For `check` that is the scene in canonical form. For a run it is the text of a run of the plan with these
  -- agents, which is picked so, with its ending's status. For `replay` it is the verdict on the trace after the first line
  -- `trace`, and the scenario is what comes before that line.
  pub answered : (r : Reading) → v ≡ Reads r → (input : List ℕ) → IsGiven s input → Stayed k.faults_before k.faults_after
      → (answer ≡ 15) ⊎ ((text : List ℕ) × Answers (answering_of r) input text answer × Gains k.before k.after text)
  -- So for each plan that stands for the input, a run of it is made and its text is written.
  pub run : (a : RunAgents) (by : Picking) → v ≡ Reads (Run a by)
      → (input : List ℕ) → IsGiven s input → Stayed k.faults_before k.faults_after
      → (plan : Plan) → HasPlan input plan
      → (answer ≡ 15) ⊎ ((text : List ℕ) × IsTraceOf plan (meaning_of a) by text answer × Gains k.before k.after text)
  -- Whatever becomes of the sink, at each exit what was written is the text of one such run. Where the sink failed it is a front
  -- of that text. Or it is the line `out of memory`, or a front of it.
  pub made : (a : RunAgents) (by : Picking) → v ≡ Reads (Run a by)
      → (input : List ℕ) → IsGiven s input → (plan : Plan) → HasPlan input plan → TellsPlan plan (meaning_of a) by k answer
  -- So for each plan that stands for the scenario, the verdict on the trace is written.
  pub verdict : v ≡ Reads Judgement → (input : List ℕ) → IsGiven s input → Stayed k.faults_before k.faults_after
      → (plan : Plan) → HasPlan (scenario_in input) plan
      → (answer ≡ 15) ⊎ ((text : List ℕ) × IsVerdict plan (trace_in input) text answer × Gains k.before k.after text)
  -- Without a trace its first line is missing.
  pub no_trace : v ≡ Reads Judgement → (input : List ℕ) → IsGiven s input → Stayed k.faults_before k.faults_after
      → (plan : Plan) → HasPlan (scenario_in input) plan → trace_in input ≡ []
      → (answer ≡ 15) ⊎ ((answer ≡ 6) × Gains k.before k.after (refused_line 1 why.Missing))
  -- Where the sink's count of faults doesn't rise, `gen N` writes the text of the scenario that N generates, with status 0,
  -- or the answer is out of memory. `load N` likewise writes the summary of a run, with its ending's status. It is the run
  -- that the words of N make of that scenario's plan.
  pub generated : (n : ℕ) → v ≡ Scenario n → Stayed k.faults_before k.faults_after
      → (answer ≡ 15) ⊎ ((answer ≡ 0) × Gains k.before k.after (printed (scenario.generated n)))
  pub summed : (n : ℕ) → v ≡ Summary n → Stayed k.faults_before k.faults_after
      → (answer ≡ 15) ⊎ ((text : List ℕ) × IsSummaryOf n text answer × Gains k.before k.after text)
  -- An answer to an input comes only where the input was read to its end.
  pub whole_input : IsTrue (reads_input v) → answer ≢ 12 → answer ≢ 13 → answer ≢ 14 → answer ≢ 15 → UsesUp s.before s.after
  -- 2 comes exactly where the words are no form, unless the sink fails.
  pub usage_only : answer ≡ 2 → v ≡ Usage
  pub usage_always : v ≡ Usage → (answer ≡ 2) ⊎ (answer ≡ 13)
  -- 10 comes only where no scene stands for the scenario: for `replay` the bytes before the first line `trace`, else the
  -- input. There a given input (`IsGiven`) is answered 10, 13 or 15.
  pub no_scene_only : answer ≡ 10 → (input : List ℕ) × TakesAll s.before s.after input × HasNoScene (scenario_by v input)
  pub no_scene_always : IsTrue (reads_input v) → (input : List ℕ) → IsGiven s input
      → HasNoScene (scenario_by v input) → Unhindered 10 answer
  -- 11 comes only where a scene stands for the scenario and has no plan. There a given input is answered 11, 13 or 15.
  pub no_plan_only : answer ≡ 11 → (input : List ℕ) × (refusal : PlanRefusal) × TakesAll s.before s.after input
      × HasNoPlan (scenario_by v input) refusal
  pub no_plan_always : IsTrue (reads_input v) → (input : List ℕ) → IsGiven s input
      → (refusal : PlanRefusal) → HasNoPlan (scenario_by v input) refusal → Unhindered 11 answer
  -- 6 comes only where a line of the trace is bad, and gives the first such line with its reason. There a given input is
  -- answered 6, 13 or 15.
  pub bad_line_only : answer ≡ 6 → (v ≡ Reads Judgement) × WroteRefused s k
  pub bad_line_always : v ≡ Reads Judgement → (input : List ℕ) → IsGiven s input
      → (plan : Plan) → HasPlan (scenario_in input) plan
      → (line : ℕ) (y : Why) → IsRefused plan agent_meaning (trace_in input) line y → Unhindered 6 answer
  -- For `replay`, 0 comes only where the trace is the text of a run that has ended. The lines of each run that has ended
  -- and whose events are of the plan are accepted.
  pub accepted_only : v ≡ Reads Judgement → answer ≡ 0 → WroteAccepted s k
  pub accepted_always : v ≡ Reads Judgement → (input : List ℕ) → IsGiven s input
      → (plan : Plan) → HasPlan (scenario_in input) plan
      → (run : List Event) → IsWhole plan agent_meaning (trace_in input) run → Unhindered 0 answer
  -- For `lint`, each plan that stands for the input has what the static check finds in it written.
  pub linted : v ≡ Reads Findings → (input : List ℕ) → IsGiven s input → Stayed k.faults_before k.faults_after
      → (plan : Plan) → HasPlan input plan
      → (answer ≡ 15) ⊎ ((text : List ℕ) × IsLinted plan text answer × Gains k.before k.after text)
  -- 7 comes only for `lint`, where the static check finds something, and its findings are written. For `lint`, 0 comes only
  -- where it finds nothing. There a given input is answered 7, or 0; or 13 or 15.
  pub found_only : answer ≡ 7 → (v ≡ Reads Findings) × ((found : List Finding) × WroteLint s k (lint.Findings found))
  pub found_always : v ≡ Reads Findings → (input : List ℕ) → IsGiven s input → (plan : Plan) → HasPlan input plan
      → (found : List Finding) → IsAnswer plan (lint.Findings found) → Unhindered 7 answer
  pub clean_only : v ≡ Reads Findings → answer ≡ 0 → WroteLint s k lint.Clean
  pub clean_always : v ≡ Reads Findings → (input : List ℕ) → IsGiven s input → (plan : Plan) → HasPlan input plan
      → IsAnswer plan lint.Clean → Unhindered 0 answer
  -- For a form that writes a run, 0, 3, 4 and 5 come only where the text of such a run was written that ended so. For
  -- `load N` they come only where the summary of a run was written. For no other words do 3, 4 and 5 come.
  pub finished : (a : RunAgents) (by : Picking) → v ≡ Reads (Run a by) → answer ≡ 0 → WroteRun a by s k ending.Finished
  pub summed_finished : (n : ℕ) → v ≡ Summary n → answer ≡ 0 → WroteSummary n k ending.Finished
  pub fault : answer ≡ 3 → (f : Fault) × WroteFor v s k (ending.Fault f)
  pub stuck : answer ≡ 4 → WroteFor v s k ending.Stuck
  pub limit : answer ≡ 5 → WroteFor v s k ending.Limit
  -- No other form reads, and none reads more than one byte past the limit.
  pub unread : reads_input v ≡ false → (s.after ≡ s.before) × (s.faults_after ≡ s.faults_before)
  pub no_further : IsTrue (reads_input v) → TakesAtMost s.before s.after 1048577
  -- 12 comes only where a read failed.
  pub read_fault : answer ≡ 12 → Rose s.faults_before s.faults_after
  -- 13 exactly: where a write failed, less than the whole text was written and the status is 13. Where none failed the whole
  -- text was written and the status isn't 13.
  pub write_fault : answer ≡ 13 → Rose k.faults_before k.faults_after
  pub front : answer ≡ 13 → (text : List ℕ) × (status : ℕ) × IsDue v s text status × IsCutShort k text
  pub failed_write : k.faults_before < k.faults_after → (answer ≡ 13) × ((text : List ℕ) × (status : ℕ)
      × IsDue v s text status × IsCutShort k text)
  pub no_failed_write : Stayed k.faults_before k.faults_after → (answer ≢ 13) × ((text : List ℕ)
      × IsDue v s text answer × Gains k.before k.after text)
  pub whole_text : answer ≢ 13 → (k.faults_after ≡ k.faults_before) × ((text : List ℕ)
      × IsDue v s text answer × Gains k.before k.after text)
  -- 14 comes only where the byte past the limit was read. There, for a source that says what it has left, the answer is 14
  -- or 13.
  pub too_large_only : answer ≡ 14 → TakesCount s.before s.after 1048577
  pub too_large_always : (input : List ℕ) → s.before ≡ Some input → TakesCount s.before s.after 1048577 → (answer ≡ 14) ⊎ (answer ≡ 13)
  pub large_input : IsTrue (reads_input v) → (input : List ℕ) → s.before ≡ Some input → 1048576 < length input
      → Stayed s.faults_before s.faults_after → Unhindered 14 answer
  -- With 15, the line `out of memory` is all that is written.
  pub memory_first : answer ≡ 15 → Gains k.before k.after no_memory_line
  -- No other status comes.
  pub listed : IsTrue (is_status answer)
