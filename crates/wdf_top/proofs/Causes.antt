-- When each status comes, a lemma for each of the top call's clauses.
use Rattle.std.proofs.Common.{ℕ, ◌≡◌, ◌+◌, ◌⊎◌, inl, inr, true, false, List, refl, sym, ◌∙◌, arith, ◌≢◌}
use Rattle.wdf_base.specs.declared.plan.Plan.{Plan}
use Rattle.wdf_base.specs.declared.event.Ending.{Ending}
use Rattle.wdf_base.specs.declared.event.Ending.TheVariants as ending
use Rattle.wdf_base.specs.declared.event.Fault.{Fault}
use Rattle.wdf_model.specs.rules.Ready.{ending_of}
use Rattle.wdf_dev.specs.Agents.{agent_meaning}
use Rattle.wdf_io.specs.Outside.{Gains, Rose}
use Rattle.wdf_parse.specs.Printing.{printed}
use Rattle.wdf_gen.specs.Generated.{generated}
use Rattle.wdf_refusals.specs.declared.refusal.PlanRefusal.{PlanRefusal}
use Rattle.wdf_plan.specs.Plans.{plan_of}
use Rattle.wdf_input.specs.declared.input.TheConstants.{INPUT_LIMIT}
use Rattle.wdf_top.specs.Agents.{RunAgents, meaning_of}
use Rattle.wdf_output.specs.Endings.{status_of}
use Rattle.wdf_top.specs.Answers.{Answering, Answers, HasNoScene, HasNoPlan, HasPlan, IsTraceOf, IsSummaryOf, Picking, Canonical, Run, Judgement, Findings, answering_of}
use Rattle.wdf_top.specs.Causes.{WroteRun, WroteSummary, WroteFor, Stayed}
use Rattle.wdf_input.specs.Input.{TakesAll, TakesCount}
use Rattle.wdf_output.specs.Refusals.{no_memory_line}
use Rattle.wdf_output.specs.Said.{Sinking, IsCutShort}
use Rattle.wdf_top.specs.Top.{Sourcing, Service, IsAnswered, IsReadDue, Tells, TellsBy, Usage, Reads, Scenario, Summary, reads_input, scenario_by}
use Rattle.wdf_run.proofs.Endings.{has_ended}
use Rattle.wdf_top.proofs.Ended.{made_ends}
use Rattle.wdf_top.proofs.Given.{answered}
use Rattle.wdf_top.proofs.Statuses.{Fits, AreAnswers, is_answer_status, is_own_status, read_status, reads_answers, reads_own, reads_never, reads_no_usage, differs, third, usage_answers, scenario_never, summary_never}

-- ---- faults

-- 12 is due where a read failed
due_rose : (way : Answering) → AreAnswers way → (s : Sourcing) (text : List ℕ) (status : ℕ) → IsReadDue way s text status → status ≡ 12 → Rose s.faults_before s.faults_after
due_rose way own s text status (inl p) same = absurd (differs is_answer_status 12 status refl (own p.0 text status p.2) same)
due_rose way own s text status (inr (inl p)) same = absurd (omega (arith, p.3))
due_rose way own s text status (inr (inr (inl p))) same = p.0
due_rose way own s text status (inr (inr (inr p))) same = absurd (omega (arith, p.3))

told_rose : (way : Answering) → AreAnswers way → (s : Sourcing) (k : Sinking) (answer : ℕ) → TellsBy way s k answer → answer ≡ 12 → Rose s.faults_before s.faults_after
told_rose way own s k answer (text, status, due, inl said) same = due_rose way own s text status due (sym said.0 ∙ same)
told_rose way own s k answer (text, status, due, inr said) same = absurd (omega (arith, said.0))

pub source_rose : (v : Service) (s : Sourcing) (k : Sinking) (answer : ℕ) → Tells v s k answer → answer ≡ 12 → Rose s.faults_before s.faults_after
source_rose Usage s k answer told same = absurd (third answer 2 13 12 (usage_answers s k answer told) (λ h. omega arith) (λ h. omega arith) same)
source_rose (Reads r) s k answer told same = told_rose (answering_of r) (reads_answers r) s k answer told same
source_rose (Scenario m) s k answer told same = absurd (scenario_never m 12 s k answer (λ h. omega arith) (λ h. omega arith) (λ h. omega arith) told same)
source_rose (Summary m) s k answer told same = absurd (summary_never m 12 s k answer refl (λ h. omega arith) told same)

-- 14 is due where the byte past the limit was read
due_large : (way : Answering) → AreAnswers way → (s : Sourcing) (text : List ℕ) (status : ℕ) → IsReadDue way s text status → status ≡ 14 → TakesCount s.before s.after (INPUT_LIMIT + 1)
due_large way own s text status (inl p) same = absurd (differs is_answer_status 14 status refl (own p.0 text status p.2) same)
due_large way own s text status (inr (inl p)) same = p.0
due_large way own s text status (inr (inr (inl p))) same = absurd (omega (arith, p.3))
due_large way own s text status (inr (inr (inr p))) same = absurd (omega (arith, p.3))

told_large : (way : Answering) → AreAnswers way → (s : Sourcing) (k : Sinking) (answer : ℕ) → TellsBy way s k answer → answer ≡ 14 → TakesCount s.before s.after (INPUT_LIMIT + 1)
told_large way own s k answer (text, status, due, inl said) same = due_large way own s text status due (sym said.0 ∙ same)
told_large way own s k answer (text, status, due, inr said) same = absurd (omega (arith, said.0))

pub large_only : (v : Service) (s : Sourcing) (k : Sinking) (answer : ℕ) → Tells v s k answer → answer ≡ 14 → TakesCount s.before s.after (INPUT_LIMIT + 1)
large_only Usage s k answer told same = absurd (third answer 2 13 14 (usage_answers s k answer told) (λ h. omega arith) (λ h. omega arith) same)
large_only (Reads r) s k answer told same = told_large (answering_of r) (reads_answers r) s k answer told same
large_only (Scenario m) s k answer told same = absurd (scenario_never m 14 s k answer (λ h. omega arith) (λ h. omega arith) (λ h. omega arith) told same)
large_only (Summary m) s k answer told same = absurd (summary_never m 14 s k answer refl (λ h. omega arith) told same)

-- the line of `out of memory` is due with 15
due_memory : (way : Answering) → AreAnswers way → (s : Sourcing) (text : List ℕ) (status : ℕ) → IsReadDue way s text status → status ≡ 15 → text ≡ no_memory_line
due_memory way own s text status (inl p) same = absurd (differs is_answer_status 15 status refl (own p.0 text status p.2) same)
due_memory way own s text status (inr (inl p)) same = absurd (omega (arith, p.3))
due_memory way own s text status (inr (inr (inl p))) same = absurd (omega (arith, p.3))
due_memory way own s text status (inr (inr (inr p))) same = p.2

told_memory : (way : Answering) → AreAnswers way → (s : Sourcing) (k : Sinking) (answer : ℕ) → TellsBy way s k answer → answer ≡ 15 → Gains k.before k.after no_memory_line
told_memory way own s k answer (text, status, due, inl said) same =
    let gained : Gains k.before k.after text = said.1 in
    let line : text ≡ no_memory_line = due_memory way own s text status due (sym said.0 ∙ same) in
    rw line at gained
told_memory way own s k answer (text, status, due, inr said) same = absurd (omega (arith, said.0))

ended_no_memory : (e : Ending) → status_of e ≡ 15 → ⊥
ended_no_memory ending.Running h = omega (arith, h)
ended_no_memory _ h = omega (arith, h)

pub memory_line : (v : Service) (s : Sourcing) (k : Sinking) (answer : ℕ) → Tells v s k answer → answer ≡ 15 → Gains k.before k.after no_memory_line
memory_line Usage s k answer told same = absurd (third answer 2 13 15 (usage_answers s k answer told) (λ h. omega arith) (λ h. omega arith) same)
memory_line (Reads r) s k answer told same = told_memory (answering_of r) (reads_answers r) s k answer told same
memory_line (Scenario m) s k answer (text, status, (unread, inl h), inl said) same = absurd (omega (arith, h.1, said.0, same))
memory_line (Scenario m) s k answer (text, status, (unread, inr h), inl said) same =
    let gained : Gains k.before k.after text = said.1 in
    let line : text ≡ no_memory_line = h.0 in
    rw line at gained
memory_line (Scenario m) s k answer (text, status, due, inr said) same = absurd (omega (arith, said.0, same))
memory_line (Summary m) s k answer (text, status, (unread, inl h), inl said) same = absurd (ended_no_memory (ending_of (plan_of (generated m)) agent_meaning h.run) (sym h.status_is ∙ sym said.0 ∙ same))
memory_line (Summary m) s k answer (text, status, (unread, inr h), inl said) same =
    let gained : Gains k.before k.after text = said.1 in
    let line : text ≡ no_memory_line = h.0 in
    rw line at gained
memory_line (Summary m) s k answer (text, status, due, inr said) same = absurd (omega (arith, said.0, same))

-- ---- an input that has no plan

-- the answer to the whole input, with a status that such an answer has
pub whole_answer : (way : Answering) (n : ℕ) → is_answer_status n ≡ true → (s : Sourcing) (k : Sinking) (answer : ℕ) → TellsBy way s k answer → answer ≡ n
    → (text : List ℕ) × IsAnswered way s text n × Gains k.before k.after text
whole_answer way n is s k answer told same =
    let no : (m : ℕ) → is_answer_status m ≡ false → answer ≡ m → ⊥ = λ m fails h. differs is_answer_status m answer fails (rw same is) h in
    let whole : (text : List ℕ) × IsAnswered way s text answer × Gains k.before k.after text = answered way s k answer told (no 12 refl) (no 13 refl) (no 14 refl) (no 15 refl) in
    rw same at whole

-- 10 is answered where no scene stands for the scenario
ten_is : (way : Answering) → Fits is_own_status way → (input text : List ℕ) → Answers way input text 10 → HasNoScene (way.scenario input)
ten_is way own input text (inl (inl r)) = r.1
ten_is way own input text (inl (inr r)) = absurd (omega (arith, r.3))
ten_is way own input text (inr r) = absurd (differs is_own_status 10 10 refl (own input r.0 r.1 text 10 r.3) refl)

told_ten : (way : Answering) → Fits is_own_status way → (s : Sourcing) (k : Sinking) (answer : ℕ) → TellsBy way s k answer → answer ≡ 10
    → (input : List ℕ) × TakesAll s.before s.after input × HasNoScene (way.scenario input)
told_ten way own s k answer told same =
    let whole : (text : List ℕ) × IsAnswered way s text 10 × Gains k.before k.after text = whole_answer way 10 refl s k answer told same in
    (whole.1.0, whole.1.1.0, ten_is way own whole.1.0 whole.0 whole.1.2)

pub no_scene_only : (v : Service) (s : Sourcing) (k : Sinking) (answer : ℕ) → Tells v s k answer → answer ≡ 10
    → (input : List ℕ) × TakesAll s.before s.after input × HasNoScene (scenario_by v input)
no_scene_only Usage s k answer told same = absurd (third answer 2 13 10 (usage_answers s k answer told) (λ h. omega arith) (λ h. omega arith) same)
no_scene_only (Reads r) s k answer told same = told_ten (answering_of r) (reads_own r) s k answer told same
no_scene_only (Scenario m) s k answer told same = absurd (scenario_never m 10 s k answer (λ h. omega arith) (λ h. omega arith) (λ h. omega arith) told same)
no_scene_only (Summary m) s k answer told same = absurd (summary_never m 10 s k answer refl (λ h. omega arith) told same)

-- 11 is answered where the scenario's scene has no plan
eleven_is : (way : Answering) → Fits is_own_status way → (input text : List ℕ) → Answers way input text 11 → (refusal : PlanRefusal) × HasNoPlan (way.scenario input) refusal
eleven_is way own input text (inl (inl r)) = absurd (omega (arith, r.4))
eleven_is way own input text (inl (inr r)) = (r.0, r.1)
eleven_is way own input text (inr r) = absurd (differs is_own_status 11 11 refl (own input r.0 r.1 text 11 r.3) refl)

told_eleven : (way : Answering) → Fits is_own_status way → (s : Sourcing) (k : Sinking) (answer : ℕ) → TellsBy way s k answer → answer ≡ 11
    → (input : List ℕ) × (refusal : PlanRefusal) × TakesAll s.before s.after input × HasNoPlan (way.scenario input) refusal
told_eleven way own s k answer told same =
    let whole : (text : List ℕ) × IsAnswered way s text 11 × Gains k.before k.after text = whole_answer way 11 refl s k answer told same in
    let refused : (refusal : PlanRefusal) × HasNoPlan (way.scenario whole.1.0) refusal = eleven_is way own whole.1.0 whole.0 whole.1.2 in
    (whole.1.0, refused.0, whole.1.1.0, refused.1)

pub no_plan_only : (v : Service) (s : Sourcing) (k : Sinking) (answer : ℕ) → Tells v s k answer → answer ≡ 11
    → (input : List ℕ) × (refusal : PlanRefusal) × TakesAll s.before s.after input × HasNoPlan (scenario_by v input) refusal
no_plan_only Usage s k answer told same = absurd (third answer 2 13 11 (usage_answers s k answer told) (λ h. omega arith) (λ h. omega arith) same)
no_plan_only (Reads r) s k answer told same = told_eleven (answering_of r) (reads_own r) s k answer told same
no_plan_only (Scenario m) s k answer told same = absurd (scenario_never m 11 s k answer (λ h. omega arith) (λ h. omega arith) (λ h. omega arith) told same)
no_plan_only (Summary m) s k answer told same = absurd (summary_never m 11 s k answer refl (λ h. omega arith) told same)

-- ---- runs

-- the text of a run was written, with this status
pub record Wrote (a : RunAgents) (by : Picking) (s : Sourcing) (k : Sinking) (status : ℕ) : Type 0 where
  pub ends : Ending
  pub status_is : status ≡ status_of ends
  pub over : ends ≡ ending.Running → ⊥
  pub wrote : WroteRun a by s k ends

-- the text of a plan's run
trace_wrote : (a : RunAgents) (by : Picking) (s : Sourcing) (k : Sinking) (input text : List ℕ) (plan : Plan) (status : ℕ) → TakesAll s.before s.after input → HasPlan input plan → IsTraceOf plan (meaning_of a) by text status → Gains k.before k.after text → Wrote a by s k status
trace_wrote a by s k input text plan status whole has trace gained = record {
  ends = ending_of plan (meaning_of a) trace.run;
  status_is = trace.status_is;
  over = made_ends plan (meaning_of a) by trace.run trace.made;
  wrote = record {
    input = input;
    whole = whole;
    plan = plan;
    stands = has;
    run = trace.run;
    made = trace.made;
    ends = refl;
    written = rw trace.text_is at gained;
  };
}

answer_wrote : (a : RunAgents) (by : Picking) (s : Sourcing) (k : Sinking) (input text : List ℕ) (n : ℕ) → n ≢ 10 → n ≢ 11 → TakesAll s.before s.after input → Answers (answering_of (Run a by)) input text n → Gains k.before k.after text → Wrote a by s k n
answer_wrote a by s k input text n ten eleven whole (inl (inl r)) gained = absurd (ten r.4)
answer_wrote a by s k input text n ten eleven whole (inl (inr r)) gained = absurd (eleven r.3)
answer_wrote a by s k input text n ten eleven whole (inr (scene, stands, accepted, trace)) gained = trace_wrote a by s k input text (plan_of scene) n whole (scene, stands, accepted, refl) trace gained

run_wrote : (a : RunAgents) (by : Picking) (n : ℕ) → is_answer_status n ≡ true → n ≢ 10 → n ≢ 11 → (s : Sourcing) (k : Sinking) (answer : ℕ) → TellsBy (answering_of (Run a by)) s k answer → answer ≡ n → Wrote a by s k n
run_wrote a by n is ten eleven s k answer told same =
    let whole : (text : List ℕ) × IsAnswered (answering_of (Run a by)) s text n × Gains k.before k.after text = whole_answer (answering_of (Run a by)) n is s k answer told same in
    answer_wrote a by s k whole.1.0 whole.0 n ten eleven whole.1.1.0 whole.1.2 whole.2

-- an ending with the status 0
zero_finished : (W : Ending → Type 0) (e : Ending) → 0 ≡ status_of e → (e ≡ ending.Running → ⊥) → W e → W ending.Finished
zero_finished W ending.Running is over wrote = absurd (over refl)
zero_finished W ending.Finished is over wrote = wrote
zero_finished W (ending.Fault f) is over wrote = absurd (omega (arith, is))
zero_finished W ending.Stuck is over wrote = absurd (omega (arith, is))
zero_finished W ending.Limit is over wrote = absurd (omega (arith, is))

three_fault : (W : Ending → Type 0) (e : Ending) → 3 ≡ status_of e → W e → (f : Fault) × W (ending.Fault f)
three_fault W ending.Running is wrote = absurd (omega (arith, is))
three_fault W ending.Finished is wrote = absurd (omega (arith, is))
three_fault W (ending.Fault f) is wrote = (f, wrote)
three_fault W ending.Stuck is wrote = absurd (omega (arith, is))
three_fault W ending.Limit is wrote = absurd (omega (arith, is))

four_stuck : (W : Ending → Type 0) (e : Ending) → 4 ≡ status_of e → W e → W ending.Stuck
four_stuck W ending.Running is wrote = absurd (omega (arith, is))
four_stuck W ending.Finished is wrote = absurd (omega (arith, is))
four_stuck W (ending.Fault f) is wrote = absurd (omega (arith, is))
four_stuck W ending.Stuck is wrote = wrote
four_stuck W ending.Limit is wrote = absurd (omega (arith, is))

five_limit : (W : Ending → Type 0) (e : Ending) → 5 ≡ status_of e → W e → W ending.Limit
five_limit W ending.Running is wrote = absurd (omega (arith, is))
five_limit W ending.Finished is wrote = absurd (omega (arith, is))
five_limit W (ending.Fault f) is wrote = absurd (omega (arith, is))
five_limit W ending.Stuck is wrote = absurd (omega (arith, is))
five_limit W ending.Limit is wrote = wrote

-- the summary of a run was written, with this status
pub record Summed (n : ℕ) (k : Sinking) (status : ℕ) : Type 0 where
  pub ends : Ending
  pub status_is : status ≡ status_of ends
  pub over : ends ≡ ending.Running → ⊥
  pub wrote : WroteSummary n k ends

summary_wrote : (m n : ℕ) → n ≢ 13 → n ≢ 15 → (s : Sourcing) (k : Sinking) (answer : ℕ) → Tells (Summary m) s k answer → answer ≡ n → Summed m k n
summary_wrote m n thirteen fifteen s k answer (text, status, (unread, inr h), inl said) same = absurd (fifteen (sym same ∙ said.0 ∙ h.1))
summary_wrote m n thirteen fifteen s k answer (text, status, due, inr said) same = absurd (thirteen (sym same ∙ said.0))
summary_wrote m n thirteen fifteen s k answer (text, status, (unread, inl h), inl said) same =
    let gained : Gains k.before k.after text = said.1 in
    record {
      ends = ending_of (plan_of (generated m)) agent_meaning h.run;
      status_is = sym same ∙ said.0 ∙ h.status_is;
      over = has_ended (plan_of (generated m)) agent_meaning h.run h.picked.ends;
      wrote = record {
        run = h.run;
        picked = h.picked;
        ends = refl;
        written = rw h.text_is at gained;
      };
    }

-- only a form that writes a run, and `load N`, answer 3, 4 and 5
abbrev IsRunner : Service → Sourcing → Sinking → ℕ → Type 0
IsRunner v s k answer =
    ((a : RunAgents) × (by : Picking) × (v ≡ Reads (Run a by)) × TellsBy (answering_of (Run a by)) s k answer)
    ⊎ ((n : ℕ) × (v ≡ Summary n) × Tells (Summary n) s k answer)

run_only : (n : ℕ) → n ≢ 0 → n ≢ 2 → n ≢ 13 → n ≢ 15 → read_status Canonical n ≡ false → read_status Judgement n ≡ false → read_status Findings n ≡ false → (v : Service) (s : Sourcing) (k : Sinking) (answer : ℕ) → Tells v s k answer → answer ≡ n → IsRunner v s k answer
run_only n zero_not two thirteen fifteen check judge lint Usage s k answer told same = absurd (third answer 2 13 n (usage_answers s k answer told) (λ h. two (sym h)) (λ h. thirteen (sym h)) same)
run_only n zero_not two thirteen fifteen check judge lint (Reads Canonical) s k answer told same = absurd (reads_never Canonical n s k answer check thirteen told same)
run_only n zero_not two thirteen fifteen check judge lint (Reads (Run a by)) s k answer told same = inl (a, by, refl, told)
run_only n zero_not two thirteen fifteen check judge lint (Reads Judgement) s k answer told same = absurd (reads_never Judgement n s k answer judge thirteen told same)
run_only n zero_not two thirteen fifteen check judge lint (Reads Findings) s k answer told same = absurd (reads_never Findings n s k answer lint thirteen told same)
run_only n zero_not two thirteen fifteen check judge lint (Scenario m) s k answer told same = absurd (scenario_never m n s k answer (λ h. zero_not (sym h)) (λ h. fifteen (sym h)) (λ h. thirteen (sym h)) told same)
run_only n zero_not two thirteen fifteen check judge lint (Summary m) s k answer told same = inr (m, refl, told)

pub finished : (a : RunAgents) (by : Picking) (s : Sourcing) (k : Sinking) (answer : ℕ) → TellsBy (answering_of (Run a by)) s k answer → answer ≡ 0 → WroteRun a by s k ending.Finished
finished a by s k answer told same =
    let w : Wrote a by s k 0 = run_wrote a by 0 refl (λ h. omega arith) (λ h. omega arith) s k answer told same in
    zero_finished (WroteRun a by s k) w.ends w.status_is w.over w.wrote

pub summed_finished : (n : ℕ) (s : Sourcing) (k : Sinking) (answer : ℕ) → Tells (Summary n) s k answer → answer ≡ 0 → WroteSummary n k ending.Finished
summed_finished n s k answer told same =
    let w : Summed n k 0 = summary_wrote n 0 (λ h. omega arith) (λ h. omega arith) s k answer told same in
    zero_finished (WroteSummary n k) w.ends w.status_is w.over w.wrote

fault_of : (v : Service) (s : Sourcing) (k : Sinking) (answer : ℕ) → IsRunner v s k answer → answer ≡ 3 → (f : Fault) × WroteFor v s k (ending.Fault f)
fault_of v s k answer (inl (a, by, is, told)) same =
    let w : Wrote a by s k 3 = run_wrote a by 3 refl (λ h. omega arith) (λ h. omega arith) s k answer told same in
    let wrote : (f : Fault) × WroteRun a by s k (ending.Fault f) = three_fault (WroteRun a by s k) w.ends w.status_is w.wrote in
    (wrote.0, inl (a, by, is, wrote.1))
fault_of v s k answer (inr by_load) same =
    let w : Summed by_load.0 k 3 = summary_wrote by_load.0 3 (λ h. omega arith) (λ h. omega arith) s k answer by_load.2 same in
    let wrote : (f : Fault) × WroteSummary by_load.0 k (ending.Fault f) = three_fault (WroteSummary by_load.0 k) w.ends w.status_is w.wrote in
    (wrote.0, inr (by_load.0, by_load.1, wrote.1))

pub fault : (v : Service) (s : Sourcing) (k : Sinking) (answer : ℕ) → Tells v s k answer → answer ≡ 3 → (f : Fault) × WroteFor v s k (ending.Fault f)
fault v s k answer told same =
    fault_of v s k answer (run_only 3 (λ h. omega arith) (λ h. omega arith) (λ h. omega arith) (λ h. omega arith) refl refl refl v s k answer told same) same

stuck_of : (v : Service) (s : Sourcing) (k : Sinking) (answer : ℕ) → IsRunner v s k answer → answer ≡ 4 → WroteFor v s k ending.Stuck
stuck_of v s k answer (inl (a, by, is, told)) same =
    let w : Wrote a by s k 4 = run_wrote a by 4 refl (λ h. omega arith) (λ h. omega arith) s k answer told same in
    inl (a, by, is, four_stuck (WroteRun a by s k) w.ends w.status_is w.wrote)
stuck_of v s k answer (inr by_load) same =
    let w : Summed by_load.0 k 4 = summary_wrote by_load.0 4 (λ h. omega arith) (λ h. omega arith) s k answer by_load.2 same in
    inr (by_load.0, by_load.1, four_stuck (WroteSummary by_load.0 k) w.ends w.status_is w.wrote)

pub stuck : (v : Service) (s : Sourcing) (k : Sinking) (answer : ℕ) → Tells v s k answer → answer ≡ 4 → WroteFor v s k ending.Stuck
stuck v s k answer told same =
    stuck_of v s k answer (run_only 4 (λ h. omega arith) (λ h. omega arith) (λ h. omega arith) (λ h. omega arith) refl refl refl v s k answer told same) same

limit_of : (v : Service) (s : Sourcing) (k : Sinking) (answer : ℕ) → IsRunner v s k answer → answer ≡ 5 → WroteFor v s k ending.Limit
limit_of v s k answer (inl (a, by, is, told)) same =
    let w : Wrote a by s k 5 = run_wrote a by 5 refl (λ h. omega arith) (λ h. omega arith) s k answer told same in
    inl (a, by, is, five_limit (WroteRun a by s k) w.ends w.status_is w.wrote)
limit_of v s k answer (inr by_load) same =
    let w : Summed by_load.0 k 5 = summary_wrote by_load.0 5 (λ h. omega arith) (λ h. omega arith) s k answer by_load.2 same in
    inr (by_load.0, by_load.1, five_limit (WroteSummary by_load.0 k) w.ends w.status_is w.wrote)

pub limit : (v : Service) (s : Sourcing) (k : Sinking) (answer : ℕ) → Tells v s k answer → answer ≡ 5 → WroteFor v s k ending.Limit
limit v s k answer told same =
    limit_of v s k answer (run_only 5 (λ h. omega arith) (λ h. omega arith) (λ h. omega arith) (λ h. omega arith) refl refl refl v s k answer told same) same

-- ---- words

-- 2 is answered to words of no form
pub usage_only : (v : Service) (s : Sourcing) (k : Sinking) (answer : ℕ) → Tells v s k answer → answer ≡ 2 → v ≡ Usage
usage_only Usage s k answer told same = refl
usage_only (Reads r) s k answer told same = absurd (reads_no_usage r s k answer told same)
usage_only (Scenario n) s k answer told same = absurd (scenario_never n 2 s k answer (λ h. omega arith) (λ h. omega arith) (λ h. omega arith) told same)
usage_only (Summary n) s k answer told same = absurd (summary_never n 2 s k answer refl (λ h. omega arith) told same)

pub usage_always : (v : Service) (s : Sourcing) (k : Sinking) (answer : ℕ) → v ≡ Usage → Tells v s k answer → (answer ≡ 2) ⊎ (answer ≡ 13)
usage_always v s k answer h told = usage_answers s k answer (rw h at told)

-- a form that doesn't read leaves its source as it was
pub unread : (v : Service) (s : Sourcing) (k : Sinking) (answer : ℕ) → reads_input v ≡ false → Tells v s k answer → (s.after ≡ s.before) × (s.faults_after ≡ s.faults_before)
unread Usage s k answer h (text, status, due, said) = due.0
unread (Reads r) s k answer h told = absurd (let z : ⊥ = cc in z)
unread (Scenario n) s k answer h (text, status, due, said) = due.0
unread (Summary n) s k answer h (text, status, due, said) = due.0

-- what `gen N` writes, where the sink doesn't fail
pub generated_given : (n : ℕ) (s : Sourcing) (k : Sinking) (answer : ℕ) → Tells (Scenario n) s k answer → Stayed k.faults_before k.faults_after
    → (answer ≡ 15) ⊎ ((answer ≡ 0) × Gains k.before k.after (printed (generated n)))
generated_given n s k answer (text, status, (unread, inl h), inl said) kept =
    let gained : Gains k.before k.after text = said.1 in
    let is : text ≡ printed (generated n) = h.0 in
    inr (said.0 ∙ h.1, rw is at gained)
generated_given n s k answer (text, status, (unread, inr h), inl said) kept = inl (said.0 ∙ h.1)
generated_given n s k answer (text, status, due, inr said) kept = let cut : IsCutShort k text = said.1 in absurd (kept cut.rose)

-- what `load N` writes, where the sink doesn't fail
pub summed_given : (n : ℕ) (s : Sourcing) (k : Sinking) (answer : ℕ) → Tells (Summary n) s k answer → Stayed k.faults_before k.faults_after
    → (answer ≡ 15) ⊎ ((text : List ℕ) × IsSummaryOf n text answer × Gains k.before k.after text)
summed_given n s k answer (text, status, (unread, inl h), inl said) kept = inr (text, rw said.0 h, said.1)
summed_given n s k answer (text, status, (unread, inr h), inl said) kept = inl (said.0 ∙ h.1)
summed_given n s k answer (text, status, due, inr said) kept = let cut : IsCutShort k text = said.1 in absurd (kept cut.rose)
