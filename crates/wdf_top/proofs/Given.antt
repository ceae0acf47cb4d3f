-- What a form that reads answers to its input.
use Rattle.std.proofs.Common.{ℕ, ◌≡◌, ◌+◌, ◌<◌, ◌≤◌, ◌⊎◌, inl, inr, ◌++◌, List, [], length, Option, Some, None, sym, ap, ◌∙◌, arith, length-append, subst, ◌≢◌}
use Rattle.std.proofs.lemmas.List.{append-nil}
use Rattle.wdf_base.specs.Meaning.{Meaning}
use Rattle.wdf_base.specs.declared.plan.Plan.{Plan}
use Rattle.wdf_scene.specs.declared.scene.Scene.{Scene}
use Rattle.wdf_io.specs.Outside.{Gains, Takes}
use Rattle.wdf_parse.proofs.Uniqueness.{one_stands}
use Rattle.wdf_parse.specs.StandsFor.{StandsFor}
use Rattle.wdf_refusals.specs.declared.refusal.PlanRefusal.{PlanRefusal}
use Rattle.wdf_refusals.specs.First.{first_refusal}
use Rattle.wdf_input.specs.declared.input.TheConstants.{INPUT_LIMIT}
use Rattle.wdf_top.specs.Answers.{Answering, Answers, HasNoScene, HasNoPlan, HasPlan, IsTraceOf, Picking, answering_of, running}
use Rattle.wdf_top.specs.Causes.{IsGiven, Stayed, Unhindered}
use Rattle.wdf_input.specs.Input.{TakesAll, TakesAtMost, TakesCount, UsesUp}
use Rattle.wdf_output.specs.Refusals.{no_memory_line}
use Rattle.wdf_output.specs.Said.{Sinking, IsCutShort}
use Rattle.wdf_top.specs.Top.{Sourcing, IsAnswered, IsReadDue, Tells, TellsBy, TellsPlan, Usage, Reads, Scenario, Summary, Service, scenario_by}
use Rattle.wdf_top.proofs.Statuses.{IsReader}

-- ---- what was read

-- the answer's own status: any but those that say why there is none
due_answered : (way : Answering) (s : Sourcing) (text : List ℕ) (status : ℕ) → IsReadDue way s text status → status ≢ 12 → status ≢ 14 → status ≢ 15 → IsAnswered way s text status
due_answered way s text status (inl p) a b c = p
due_answered way s text status (inr (inl p)) a b c = absurd (b p.3)
due_answered way s text status (inr (inr (inl p))) a b c = absurd (a p.3)
due_answered way s text status (inr (inr (inr p))) a b c = absurd (c p.3)

-- the answer to the whole input, where neither a fault nor out of memory is answered
pub answered : (way : Answering) (s : Sourcing) (k : Sinking) (answer : ℕ) → TellsBy way s k answer → answer ≢ 12 → answer ≢ 13 → answer ≢ 14 → answer ≢ 15
    → (text : List ℕ) × IsAnswered way s text answer × Gains k.before k.after text
answered way s k answer (text, status, due, inr p) a b c d = absurd (b p.0)
answered way s k answer (text, status, due, inl p) a b c d = (
  text,
  rw p.0 (due_answered way s text status due (λ h. a (p.0 ∙ h)) (λ h. c (p.0 ∙ h)) (λ h. d (p.0 ∙ h))),
  p.1,
)

-- all of a source is used up
all_used : (before after : Option (List ℕ)) (input : List ℕ) → TakesAll before after input → UsesUp before after
all_used None after input all = tt
all_used (Some left) after input all = all.1

pub whole_input : (way : Answering) (s : Sourcing) (k : Sinking) (answer : ℕ) → TellsBy way s k answer → answer ≢ 12 → answer ≢ 13 → answer ≢ 14 → answer ≢ 15 → UsesUp s.before s.after
whole_input way s k answer told a b c d =
    let h : (text : List ℕ) × IsAnswered way s text answer × Gains k.before k.after text = answered way s k answer told a b c d in
    all_used s.before s.after h.1.0 h.1.1.0

-- from a source that says what it has left, no more bytes are taken than it had left
counted_within : (left bytes : List ℕ) (after : Option (List ℕ)) → Takes (Some left) after bytes → length bytes ≤ length left
counted_within left bytes None h = absurd h
counted_within left bytes (Some rest) h = omega (arith, ap length h, length-append bytes rest)

-- the same source gave no two counts of bytes
one_count : (left bytes other : List ℕ) (after : Option (List ℕ)) → Takes (Some left) after bytes → Takes (Some left) after other → length bytes ≡ length other
one_count left bytes other None h g = absurd h
one_count left bytes other (Some rest) h g = omega (arith, ap length h, ap length g, length-append bytes rest, length-append other rest)

-- what was all is what was taken
all_taken : (left input : List ℕ) (after : Option (List ℕ)) → TakesAll (Some left) after input → Takes (Some left) after input
all_taken left input after all = rw all.1 (all.0 ∙ sym (append-nil input))

-- all that was left, within the limit, is at most the limit and one
at_most_all : (before after : Option (List ℕ)) (input : List ℕ) → TakesAll before after input → length input ≤ INPUT_LIMIT → TakesAtMost before after (INPUT_LIMIT + 1)
at_most_all None after input all small = ([], omega arith, tt)
at_most_all (Some left) after input all small = (input, omega arith, all_taken left input after all)

-- the source is read no further than the byte past the limit
pub no_further : (way : Answering) (s : Sourcing) (k : Sinking) (answer : ℕ) → TellsBy way s k answer → TakesAtMost s.before s.after (INPUT_LIMIT + 1)
no_further way s k answer (text, status, inl p, said) = at_most_all s.before s.after p.0 p.1.0 p.1.1
no_further way s k answer (text, status, inr (inl p), said) = (p.0.0, omega (arith, p.0.1), p.0.2)
no_further way s k answer (text, status, inr (inr (inl p)), said) = (p.1.0, omega (arith, p.1.1), p.1.2)
no_further way s k answer (text, status, inr (inr (inr p)), said) = (p.1.0, omega (arith, p.1.1), p.1.2)

-- ---- a large input

-- few bytes aren't one more than the limit
few_only : (left : List ℕ) (after : Option (List ℕ)) → TakesAtMost (Some left) after INPUT_LIMIT → TakesCount (Some left) after (INPUT_LIMIT + 1) → ⊥
few_only left after few many =
    let same : length few.0 ≡ length many.0 = one_count left few.0 many.0 after few.2 many.2 in
    let low : length few.0 ≤ INPUT_LIMIT = few.1 in
    let high : length many.0 ≡ INPUT_LIMIT + 1 = many.1 in
    omega arith

all_within : (left input : List ℕ) (after : Option (List ℕ)) → TakesAll (Some left) after input → length input ≤ INPUT_LIMIT → TakesAtMost (Some left) after INPUT_LIMIT
all_within left input after all small = (input, small, all_taken left input after all)

-- what is due where the byte past the limit was read
due_large : (way : Answering) (s : Sourcing) (text : List ℕ) (status : ℕ) (left : List ℕ) → s.before ≡ Some left → TakesCount s.before s.after (INPUT_LIMIT + 1) → IsReadDue way s text status → status ≡ 14
due_large way s text status left told many (inl p) =
    let all : TakesAll (Some left) s.after p.0 = rw told at p.1.0 in
    let more : TakesCount (Some left) s.after (INPUT_LIMIT + 1) = rw told at many in
    absurd (few_only left s.after (all_within left p.0 s.after all p.1.1) more)
due_large way s text status left told many (inr (inl p)) = p.3
due_large way s text status left told many (inr (inr (inl p))) =
    let few : TakesAtMost (Some left) s.after INPUT_LIMIT = rw told at p.1 in
    let more : TakesCount (Some left) s.after (INPUT_LIMIT + 1) = rw told at many in
    absurd (few_only left s.after few more)
due_large way s text status left told many (inr (inr (inr p))) =
    let few : TakesAtMost (Some left) s.after INPUT_LIMIT = rw told at p.1 in
    let more : TakesCount (Some left) s.after (INPUT_LIMIT + 1) = rw told at many in
    absurd (few_only left s.after few more)

told_large : (way : Answering) (s : Sourcing) (k : Sinking) (answer : ℕ) (left : List ℕ) → s.before ≡ Some left → TakesCount s.before s.after (INPUT_LIMIT + 1) → TellsBy way s k answer → (answer ≡ 14) ⊎ (answer ≡ 13)
told_large way s k answer left told many (text, status, due, inl said) = inl (said.0 ∙ due_large way s text status left told many due)
told_large way s k answer left told many (text, status, due, inr said) = inr said.0

-- where nothing was read, no byte was
unread_few : (left : List ℕ) (after : Option (List ℕ)) → after ≡ Some left → TakesCount (Some left) after (INPUT_LIMIT + 1) → ⊥
unread_few left after same many =
    let taken : left ≡ many.0 ++ left = rw same at many.2 in
    let count : length many.0 ≡ INPUT_LIMIT + 1 = many.1 in
    omega (arith, ap length taken, length-append many.0 left)

-- the byte past the limit was read: 14 is answered, unless the sink fails
pub large_always : (v : Service) (s : Sourcing) (k : Sinking) (answer : ℕ) → Tells v s k answer → (left : List ℕ) → s.before ≡ Some left → TakesCount s.before s.after (INPUT_LIMIT + 1) → (answer ≡ 14) ⊎ (answer ≡ 13)
large_always Usage s k answer (text, status, due, said) left told many = absurd (unread_few left s.after (due.0.0 ∙ told) (rw told at many))
large_always (Reads r) s k answer h left told many = told_large (answering_of r) s k answer left told many h
large_always (Scenario n) s k answer (text, status, due, said) left told many = absurd (unread_few left s.after (due.0.0 ∙ told) (rw told at many))
large_always (Summary n) s k answer (text, status, due, said) left told many = absurd (unread_few left s.after (due.0.0 ∙ told) (rw told at many))

-- what is due where more is left than the limit
due_over : (way : Answering) (s : Sourcing) (text : List ℕ) (status : ℕ) (left : List ℕ) → s.before ≡ Some left → INPUT_LIMIT < length left → Stayed s.faults_before s.faults_after → IsReadDue way s text status → (status ≡ 14) ⊎ (status ≡ 15)
due_over way s text status left told over stayed (inl p) =
    let all : TakesAll (Some left) s.after p.0 = rw told at p.1.0 in
    let same : length left ≡ length p.0 = ap length all.0 in
    let small : length p.0 ≤ INPUT_LIMIT = p.1.1 in
    absurd (omega arith)
due_over way s text status left told over stayed (inr (inl p)) = inl p.3
due_over way s text status left told over stayed (inr (inr (inl p))) = absurd (stayed p.0)
due_over way s text status left told over stayed (inr (inr (inr p))) = inr p.3

pub over_always : (way : Answering) (s : Sourcing) (k : Sinking) (answer : ℕ) → TellsBy way s k answer → (left : List ℕ) → s.before ≡ Some left → INPUT_LIMIT < length left → Stayed s.faults_before s.faults_after → Unhindered 14 answer
over_always way s k answer (text, status, due, inr said) left told over stayed = inr (inl said.0)
over_always way s k answer (text, status, due, inl said) left told over stayed =
    elim (due_over way s text status left told over stayed due) [
      | inl h ↦ inl (said.0 ∙ h)
      | inr h ↦ inr (inr (said.0 ∙ h))
    ]

-- ---- an input that is given

-- where the input is given, what is due is its answer, or the line `out of memory`
due_or_memory : (way : Answering) (s : Sourcing) (text : List ℕ) (status : ℕ) (input : List ℕ) → IsGiven s input → IsReadDue way s text status
    → ((text ≡ no_memory_line) × (status ≡ 15)) ⊎ Answers way input text status
due_or_memory way s text status input given (inl p) =
    let whole : TakesAll (Some input) s.after p.0 = rw given.told at p.1.0 in
    inr (rw whole.0 p.2)
due_or_memory way s text status input given (inr (inl p)) =
    let taken : Takes (Some input) s.after p.0.0 = rw given.told at p.0.2 in
    let within : length p.0.0 ≤ length input = counted_within input p.0.0 s.after taken in
    let many : length p.0.0 ≡ INPUT_LIMIT + 1 = p.0.1 in
    let small : length input ≤ INPUT_LIMIT = given.small in
    absurd (omega arith)
due_or_memory way s text status input given (inr (inr (inl p))) = absurd (given.stayed p.0)
due_or_memory way s text status input given (inr (inr (inr p))) = inl (p.2, p.3)

-- so memory was wanting, or it is the answer
due_given : (way : Answering) (s : Sourcing) (text : List ℕ) (status : ℕ) (input : List ℕ) → IsGiven s input → IsReadDue way s text status → (status ≡ 15) ⊎ Answers way input text status
due_given way s text status input given due =
    elim (due_or_memory way s text status input given due) [
      | inl h ↦ inl h.1
      | inr h ↦ inr h
    ]

-- What is written for an input that is given, where the sink doesn't fail: its answer, with its status, unless memory was wanting.
pub answers_given : (way : Answering) (s : Sourcing) (k : Sinking) (answer : ℕ) → TellsBy way s k answer
    → (input : List ℕ) → IsGiven s input → Stayed k.faults_before k.faults_after
    → (answer ≡ 15) ⊎ ((text : List ℕ) × Answers way input text answer × Gains k.before k.after text)
answers_given way s k answer (text, status, due, inr p) input given kept = let cut : IsCutShort k text = p.1 in absurd (kept cut.rose)
answers_given way s k answer (text, status, due, inl p) input given kept =
    elim (due_given way s text status input given due) [
      | inl h ↦ inl (p.0 ∙ h)
      | inr h ↦ inr (text, rw p.0 h, p.1)
    ]

-- a status that each answer to the input has
pub unless_given : (way : Answering) (n : ℕ) (s : Sourcing) (k : Sinking) (answer : ℕ) → TellsBy way s k answer
    → (input : List ℕ) → IsGiven s input → ((text : List ℕ) (status : ℕ) → Answers way input text status → status ≡ n) → Unhindered n answer
unless_given way n s k answer (text, status, due, inr p) input given each = inr (inl p.0)
unless_given way n s k answer (text, status, due, inl p) input given each =
    elim (due_given way s text status input given due) [
      | inl h ↦ inr (inr (p.0 ∙ h))
      | inr h ↦ inl (p.0 ∙ each text status h)
    ]

-- ---- no scene

no_scene_status : (way : Answering) (input : List ℕ) → HasNoScene (way.scenario input) → (text : List ℕ) (status : ℕ) → Answers way input text status → status ≡ 10
no_scene_status way input none_stands text status (inl (inl r)) = r.4
no_scene_status way input none_stands text status (inl (inr r)) = absurd (none_stands r.1.0 r.1.1)
no_scene_status way input none_stands text status (inr r) = absurd (none_stands r.0 r.1)

pub no_scene_always : (way : Answering) (s : Sourcing) (k : Sinking) (answer : ℕ) → TellsBy way s k answer → (input : List ℕ) → IsGiven s input → HasNoScene (way.scenario input) → Unhindered 10 answer
no_scene_always way s k answer told input given none_stands = unless_given way 10 s k answer told input given (no_scene_status way input none_stands)

-- ---- no plan

-- the scene of an input that has no plan has none
pub two_plans : (input : List ℕ) (refusal : PlanRefusal) → HasNoPlan input refusal → (scene : Scene) → StandsFor input scene → first_refusal scene ≡ None → ⊥
two_plans input refusal refused scene stands accepted =
    let same : refused.0 ≡ scene = one_stands input refused.0 scene refused.1 stands in
    let first : first_refusal scene ≡ Some refusal = rw same at refused.2 in
    let both : None ≡ Some refusal = sym accepted ∙ first in
    let z : ⊥ = cc in z

no_plan_status : (way : Answering) (input : List ℕ) (refusal : PlanRefusal) → HasNoPlan (way.scenario input) refusal → (text : List ℕ) (status : ℕ) → Answers way input text status → status ≡ 11
no_plan_status way input refusal refused text status (inl (inl r)) = absurd (r.1 refused.0 refused.1)
no_plan_status way input refusal refused text status (inl (inr r)) = r.3
no_plan_status way input refusal refused text status (inr r) = absurd (two_plans (way.scenario input) refusal refused r.0 r.1 r.2)

pub no_plan_always : (way : Answering) (s : Sourcing) (k : Sinking) (answer : ℕ) → TellsBy way s k answer → (input : List ℕ) → IsGiven s input → (refusal : PlanRefusal) → HasNoPlan (way.scenario input) refusal → Unhindered 11 answer
no_plan_always way s k answer told input given refusal refused = unless_given way 11 s k answer told input given (no_plan_status way input refusal refused)

-- ---- a plan

-- what is answered to an input that has a plan is the text of a run of it
plan_traced : {A : Type 0} (m : Meaning A) (by : Picking) (input : List ℕ) (plan : Plan) → HasPlan input plan → (text : List ℕ) (status : ℕ) → Answers (running m by) input text status → IsTraceOf plan m by text status
plan_traced m by input plan has text status (inl (inl r)) = absurd (r.1 has.0 has.1)
plan_traced m by input plan has text status (inl (inr r)) = absurd (two_plans input r.0 r.1 has.0 has.1 has.2)
plan_traced m by input plan has text status (inr (scene, stands, accepted, trace)) =
    let same : scene ≡ has.0 = one_stands input scene has.0 stands has.1 in
    rw (has.3, ← same) trace

pub run_given : {A : Type 0} (m : Meaning A) (by : Picking) (s : Sourcing) (k : Sinking) (answer : ℕ) → TellsBy (running m by) s k answer
    → (input : List ℕ) → IsGiven s input → Stayed k.faults_before k.faults_after
    → (plan : Plan) → HasPlan input plan
    → (answer ≡ 15) ⊎ ((text : List ℕ) × IsTraceOf plan m by text answer × Gains k.before k.after text)
run_given m by s k answer told input given kept plan has =
    elim (answers_given (running m by) s k answer told input given kept) [
      | inl h ↦ inl h
      | inr h ↦ inr (h.0, plan_traced m by input plan has h.0 answer h.1, h.2)
    ]

-- at each exit the text of a run of the plan, or a front of it; or so of the line `out of memory`
pub made_given : {A : Type 0} (m : Meaning A) (by : Picking) (s : Sourcing) (k : Sinking) (answer : ℕ) → TellsBy (running m by) s k answer
    → (input : List ℕ) → IsGiven s input → (plan : Plan) → HasPlan input plan → TellsPlan plan m by k answer
made_given m by s k answer (text, status, due, said) input given plan has =
    elim (due_or_memory (running m by) s text status input given due) [
      | inl h ↦ (text, status, inr h, said)
      | inr h ↦ (text, status, inl (plan_traced m by input plan has text status h), said)
    ]

-- ---- a form that reads

pub whole_input_by : (v : Service) (s : Sourcing) (k : Sinking) (answer : ℕ) → IsReader v s k answer → answer ≢ 12 → answer ≢ 13 → answer ≢ 14 → answer ≢ 15 → UsesUp s.before s.after
whole_input_by v s k answer r = whole_input r.by s k answer r.told

pub no_further_by : (v : Service) (s : Sourcing) (k : Sinking) (answer : ℕ) → IsReader v s k answer → TakesAtMost s.before s.after (INPUT_LIMIT + 1)
no_further_by v s k answer r = no_further r.by s k answer r.told

pub over_by : (v : Service) (s : Sourcing) (k : Sinking) (answer : ℕ) → IsReader v s k answer → (left : List ℕ) → s.before ≡ Some left → INPUT_LIMIT < length left → Stayed s.faults_before s.faults_after → Unhindered 14 answer
over_by v s k answer r = over_always r.by s k answer r.told

pub no_scene_by : (v : Service) (s : Sourcing) (k : Sinking) (answer : ℕ) → IsReader v s k answer → (input : List ℕ) → IsGiven s input → HasNoScene (scenario_by v input) → Unhindered 10 answer
no_scene_by v s k answer r input given none_stands = no_scene_always r.by s k answer r.told input given (subst HasNoScene (sym (r.part input)) none_stands)

pub no_plan_by : (v : Service) (s : Sourcing) (k : Sinking) (answer : ℕ) → IsReader v s k answer → (input : List ℕ) → IsGiven s input → (refusal : PlanRefusal) → HasNoPlan (scenario_by v input) refusal → Unhindered 11 answer
no_plan_by v s k answer r input given refusal refused = no_plan_always r.by s k answer r.told input given refusal (subst (λ text. HasNoPlan text refusal) (sym (r.part input)) refused)
