-- What a form that reads says, from what was read and from what became of the plan.
use Rattle.std.proofs.Common.{ℕ, ◌≡◌, ◌≤◌, ◌⊎◌, inl, inr, List, [], length, Option, Some, None, refl, subst, sym, ◌∙◌, arith}
use Rattle.std.proofs.lemmas.List.{append-nil}
use Rattle.wdf_scene.specs.declared.scene.Scene.{Scene}
use Rattle.wdf_base.specs.Meaning.{Meaning}
use Rattle.wdf_base.specs.declared.plan.Plan.{Plan}
use Rattle.wdf_base.specs.declared.event.Event.{Event}
use Rattle.wdf_model.specs.rules.Ready.{IsPickedRun, ending_of}
use Rattle.wdf_dev.specs.Agents.{agent_meaning}
use Rattle.wdf_parse.specs.declared.refusal.ParseRefusal.TheVariants as parse
use Rattle.wdf_parse.specs.Canonical.{canonical_text}
use Rattle.wdf_parse.specs.StandsFor.{StandsFor}
use Rattle.wdf_refusals.specs.declared.refusal.PlanRefusal.{PlanRefusal}
use Rattle.wdf_refusals.specs.declared.refusal.PlanRefusal.TheVariants as plan
use Rattle.wdf_refusals.specs.First.{first_refusal}
use Rattle.wdf_plan.specs.Plans.{plan_of}
use Rattle.wdf_input.specs.declared.input.TheConstants.{INPUT_LIMIT}
use Rattle.wdf_top.specs.declared.run.Picks.TheVariants.{Seeded}
use Rattle.wdf_output.specs.declared.refusal.Refusal.{Refusal}
use Rattle.wdf_output.specs.declared.refusal.Refusal.TheVariants.{ReadFault, TooLarge, NoMemory, NoScene, NoPlan}
use Rattle.wdf_run_text.specs.Texts.{text_of}
use Rattle.wdf_output.specs.Endings.{status_of}
use Rattle.wdf_top.specs.Answers.{Answering, HasPlan, IsRunBy, IsTraceOf, IsVerdict, Picking, picks_of, IsLinted, running, checking, judging, linting}
use Rattle.wdf_top.specs.Causes.{IsCause, IsTextCause}
use Rattle.wdf_input.specs.Input.{TakesAll, TakesAtMost}
use Rattle.wdf_output.specs.Refusals.{refusal_line, refusal_status, parse_line, plan_line, read_fault_line, too_large_line, no_memory_line}
use Rattle.wdf_output.specs.Said.{Sinking, Says}
use Rattle.wdf_split.specs.Inputs.{scenario_in, trace_in}
use Rattle.wdf_summary.specs.Counts.{summary_text}
use Rattle.wdf_gen.specs.Generated.{generated}
use Rattle.wdf_top.specs.Top.{Sourcing, IsRead, TellsBy, TellsFindings, TellsPlan, TellsVerdict, TellsSummary}

-- all that was left, within the limit, is at most the limit
within_limit : (before after : Option (List ℕ)) (input : List ℕ) → TakesAll before after input → length input ≤ INPUT_LIMIT → TakesAtMost before after INPUT_LIMIT
within_limit None after input all small = ([], omega arith, tt)
within_limit (Some left) after input all small = (input, small, rw all.1 (all.0 ∙ sym (append-nil input)))

-- memory was wanting after the whole input
wanting : (a : Answering) (s : Sourcing) (k : Sinking) (answer : ℕ) (input : List ℕ) → IsRead s input → Says k no_memory_line 15 answer → TellsBy a s k answer
wanting a s k answer input is_read said =
    (no_memory_line, 15, inr (inr (inr (is_read.2, within_limit s.before s.after input is_read.0 is_read.1, refl, refl))), said)

-- an input whose scene has a plan is answered as the plan is
pub run_told : {A : Type 0} (m : Meaning A) (by : Picking) (s : Sourcing) (k : Sinking) (plan : Plan) (answer : ℕ) → ((input : List ℕ) × IsRead s input × HasPlan input plan) → TellsPlan plan m by k answer → TellsBy (running m by) s k answer
run_told m by s k plan answer (input, is_read, has) (text, status, inl due, said) =
    let due_of : IsTraceOf (plan_of has.0) m by text status = rw has.3 at due in
    (text, status, inl (input, is_read, inr (has.0, has.1, has.2, due_of)), said)
run_told m by s k plan answer (input, is_read, has) (text, status, inr wants, said) =
    wanting (running m by) s k answer input is_read (rw (wants.0, wants.1) at said)

-- so is one whose scripts were checked
pub lint_told : (s : Sourcing) (k : Sinking) (plan : Plan) (answer : ℕ) → ((input : List ℕ) × IsRead s input × HasPlan input plan) → TellsFindings plan k answer → TellsBy linting s k answer
lint_told s k plan answer (input, is_read, has) (text, status, inl due, said) =
    let due_of : IsLinted (plan_of has.0) text status = rw has.3 at due in
    (text, status, inl (input, is_read, inr (has.0, has.1, has.2, due_of)), said)
lint_told s k plan answer (input, is_read, has) (text, status, inr wants, said) =
    wanting linting s k answer input is_read (rw (wants.0, wants.1) at said)

-- a scene that has a plan is written
pub check_told : (s : Sourcing) (k : Sinking) (text : List ℕ) (answer : ℕ)
    → ((input : List ℕ) × (scene : Scene) × (stands : StandsFor input scene) × IsRead s input × (first_refusal scene ≡ None) × (text ≡ canonical_text scene.version stands.ws))
    → Says k text 0 answer → TellsBy checking s k answer
check_told s k text answer h said = (text, 0, inl (h.0, h.3, inr (h.1, h.2, h.4, (h.5, refl))), said)

-- a scene that has no plan is told
plan_told : (a : Answering) (s : Sourcing) (k : Sinking) (input : List ℕ) (scene : Scene) (refusal : PlanRefusal) (answer : ℕ)
    → IsRead s input → StandsFor (a.scenario input) scene → first_refusal scene ≡ Some refusal → Says k (plan_line refusal) 11 answer → TellsBy a s k answer
plan_told a s k input scene refusal answer is_read stands first said =
    (plan_line refusal, 11, inl (input, is_read, inl (inr (refusal, (scene, stands, first), refl, refl))), said)

-- the first refusal of a scene, where it isn't out of memory
refusal_is : (scene : Scene) (refusal : PlanRefusal) → (refusal ≡ plan.Memory → ⊥) → (refusal ≡ plan.Memory) ⊎ (first_refusal scene ≡ Some refusal) → first_refusal scene ≡ Some refusal
refusal_is scene refusal other (inl h) = absurd (other h)
refusal_is scene refusal other (inr h) = h

-- a refusal is told
pub refusal_told : (a : Answering) (s : Sourcing) (k : Sinking) (refusal : Refusal) (answer : ℕ) → IsCause a.scenario s refusal → Says k (refusal_line refusal) (refusal_status refusal) answer → TellsBy a s k answer
refusal_told a s k ReadFault answer cause said = (read_fault_line, 12, inr (inr (inl (cause.0, cause.1, refl, refl))), said)
refusal_told a s k TooLarge answer cause said = (too_large_line, 14, inr (inl (cause.0, cause.1, refl, refl)), said)
refusal_told a s k NoMemory answer cause said = (no_memory_line, 15, inr (inr (inr (cause.0, cause.1, refl, refl))), said)
refusal_told a s k (NoScene (parse.NotAscii line)) answer (input, is_read, first, none_stands) said =
    (parse_line (parse.NotAscii line), 10, inl (input, is_read, inl (inl (parse.NotAscii line, none_stands, first, refl, refl))), said)
refusal_told a s k (NoScene (parse.BadToken line col)) answer (input, is_read, first, none_stands) said =
    (parse_line (parse.BadToken line col), 10, inl (input, is_read, inl (inl (parse.BadToken line col, none_stands, first, refl, refl))), said)
refusal_told a s k (NoScene (parse.BadLine line)) answer (input, is_read, first, none_stands) said =
    (parse_line (parse.BadLine line), 10, inl (input, is_read, inl (inl (parse.BadLine line, none_stands, first, refl, refl))), said)
refusal_told a s k (NoScene (parse.Unclosed line)) answer (input, is_read, first, none_stands) said =
    (parse_line (parse.Unclosed line), 10, inl (input, is_read, inl (inl (parse.Unclosed line, none_stands, first, refl, refl))), said)
refusal_told a s k (NoScene (parse.NumberTooLarge line col)) answer (input, is_read, first, none_stands) said =
    (parse_line (parse.NumberTooLarge line col), 10, inl (input, is_read, inl (inl (parse.NumberTooLarge line col, none_stands, first, refl, refl))), said)
refusal_told a s k (NoScene parse.Memory) answer (input, is_read, first, none_stands) said = wanting a s k answer input is_read said
refusal_told a s k (NoPlan (plan.UnknownName line)) answer (input, scene, is_read, stands, first) said =
    plan_told a s k input scene (plan.UnknownName line) answer is_read stands (refusal_is scene (plan.UnknownName line) (λ h. cc) first) said
refusal_told a s k (NoPlan (plan.TwiceNamed line other)) answer (input, scene, is_read, stands, first) said =
    plan_told a s k input scene (plan.TwiceNamed line other) answer is_read stands (refusal_is scene (plan.TwiceNamed line other) (λ h. cc) first) said
refusal_told a s k (NoPlan (plan.WrongCallback line)) answer (input, scene, is_read, stands, first) said =
    plan_told a s k input scene (plan.WrongCallback line) answer is_read stands (refusal_is scene (plan.WrongCallback line) (λ h. cc) first) said
refusal_told a s k (NoPlan (plan.OverLimit line limit)) answer (input, scene, is_read, stands, first) said =
    plan_told a s k input scene (plan.OverLimit line limit) answer is_read stands (refusal_is scene (plan.OverLimit line limit) (λ h. cc) first) said
refusal_told a s k (NoPlan (plan.IncompatibleLevel line)) answer (input, scene, is_read, stands, first) said =
    plan_told a s k input scene (plan.IncompatibleLevel line) answer is_read stands (refusal_is scene (plan.IncompatibleLevel line) (λ h. cc) first) said
refusal_told a s k (NoPlan (plan.NoParent line)) answer (input, scene, is_read, stands, first) said =
    plan_told a s k input scene (plan.NoParent line) answer is_read stands (refusal_is scene (plan.NoParent line) (λ h. cc) first) said
refusal_told a s k (NoPlan plan.Memory) answer (input, scene, is_read, stands, first) said = wanting a s k answer input is_read said

-- the text of a run of a plan was said
pub trace_told : {A : Type 0} (plan : Plan) (m : Meaning A) (by : Picking) (p : Plan) (run : List Event) (k : Sinking) (answer : ℕ) → p ≡ plan → IsRunBy plan m by run
    → Says k (text_of p m run) (status_of (ending_of p m run)) answer → TellsPlan plan m by k answer
trace_told plan m by p run k answer same made said = (
  text_of plan m run,
  status_of (ending_of plan m run),
  inl (record { run = run; made = made; text_is = refl; status_is = refl }),
  subst (λ q. Says k (text_of q m run) (status_of (ending_of q m run)) answer) same said,
)

-- the verdict on the input's trace was said
pub judged_told : (s : Sourcing) (k : Sinking) (plan : Plan) (answer : ℕ) (input : List ℕ) → HasPlan (scenario_in input) plan → TellsVerdict plan (trace_in input) k answer → IsRead s input → TellsBy judging s k answer
judged_told s k plan answer input has (text, status, inl due, said) is_read =
    let due_of : IsVerdict (plan_of has.0) (trace_in input) text status = rw has.3 at due in
    (text, status, inl (input, is_read, inr (has.0, has.1, has.2, due_of)), said)
judged_told s k plan answer input has (text, status, inr wants, said) is_read =
    wanting judging s k answer input is_read (rw (wants.0, wants.1) at said)

-- why the input's scenario has no plan
pub cause_of_text : (part : List ℕ → List ℕ) (s : Sourcing) (input : List ℕ) (refusal : Refusal) → IsRead s input → IsTextCause (part input) refusal → IsCause part s refusal
cause_of_text part s input (NoScene refusal) is_read cause = (input, is_read, cause.0, cause.1)
cause_of_text part s input (NoPlan refusal) is_read cause = (input, cause.0, is_read, cause.1, cause.2)
cause_of_text part s input _ is_read cause = absurd cause

-- the summary of the run that a number's words make of its plan was said
pub summary_told : (n : ℕ) (p : Plan) (run : List Event) (k : Sinking) (answer : ℕ) → p ≡ plan_of (generated n) → IsPickedRun (plan_of (generated n)) agent_meaning (picks_of (Seeded n) (plan_of (generated n))) run
    → Says k (summary_text run (ending_of p agent_meaning run)) (status_of (ending_of p agent_meaning run)) answer → TellsSummary n k answer
summary_told n p run k answer same picked said = (
  summary_text run (ending_of (plan_of (generated n)) agent_meaning run),
  status_of (ending_of (plan_of (generated n)) agent_meaning run),
  inl (record { run = run; picked = picked; text_is = refl; status_is = refl }),
  subst (λ q. Says k (summary_text run (ending_of q agent_meaning run)) (status_of (ending_of q agent_meaning run)) answer) same said,
)
