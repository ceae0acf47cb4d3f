-- What is said of a trace that was judged.
use Rattle.std.proofs.Common.{ℕ, ◌≡◌, inl, inr, List, refl, sym, ap, ◌∙◌}
use Rattle.wdf_base.specs.declared.plan.Plan.{Plan}
use Rattle.wdf_base.specs.declared.event.Event.{Event}
use Rattle.wdf_base.specs.declared.event.Ending.{Ending}
use Rattle.wdf_dev.specs.Agents.{agent_meaning}
use Rattle.wdf_plan.specs.Plans.{plan_of}
use Rattle.wdf_input.specs.declared.input.TheConstants.{INPUT_LIMIT}
use Rattle.wdf_input.proofs.Taken.{all_within}
use Rattle.wdf_output.specs.declared.refusal.Refusal.{Refusal}
use Rattle.wdf_output.specs.declared.refusal.Refusal.TheVariants.{ReadFault, TooLarge, NoMemory, NoScene, NoPlan}
use Rattle.wdf_output.specs.Said.{Sinking, Says}
use Rattle.wdf_replay.specs.declared.verdict.Why.{Why}
use Rattle.wdf_replay.specs.declared.verdict.Verdict.TheVariants.{Accepted}
use Rattle.wdf_replay.specs.Verdicts.{IsLeft, IsRefused}
use Rattle.wdf_split.specs.Inputs.{scenario_in, trace_in}
use Rattle.wdf_replay.specs.Refused.{refused_line}
use Rattle.wdf_top.specs.Answers.{HasPlan}
use Rattle.wdf_top.specs.Causes.{IsCause}
use Rattle.wdf_top.specs.Top.{Sourcing, IsRead, TellsBy}
use Rattle.wdf_top.proofs.Due.{refusal_told}
use Rattle.wdf_explain_run.specs.Endings.{story}
use Rattle.wdf_hunt.specs.Sums.{IsReadCauseOf}
use Rattle.wdf_hunt.specs.Explained.{IsExplained, TellsExplained, TellsStory, explaining}

-- the story of the run that is left on the core was said
pub story_told : (plan p : Plan) (trace : List ℕ) (e : Ending) (left : List Event) (k : Sinking) (answer : ℕ) → p ≡ plan → IsLeft plan agent_meaning trace (Accepted e) left
    → TellsStory (story p agent_meaning left) k answer → TellsExplained plan trace k answer
story_told plan p trace e left k answer is (accepted, same) (text, status, inl (text_is, status_is), said) =
    (text, status, inl (inl (e, accepted, text_is ∙ ap (λ q. story q agent_meaning left) is ∙ ap (λ es. story plan agent_meaning es) (sym same), status_is)), said)
story_told plan p trace e left k answer is (accepted, same) (text, status, inr wants, said) = (text, status, inr wants, said)

-- the line of a bad trace was said
pub bad_told : (plan : Plan) (trace : List ℕ) (line : ℕ) (y : Why) (k : Sinking) (answer : ℕ) → IsRefused plan agent_meaning trace line y → Says k (refused_line line y) 6 answer → TellsExplained plan trace k answer
bad_told plan trace line y k answer refused said = (refused_line line y, 6, inl (inr (line, y, refused, refl, refl)), said)

-- what is said of the trace of an input is what is said of the input
pub explained_told : (s : Sourcing) (k : Sinking) (plan : Plan) (answer : ℕ) (input : List ℕ) → HasPlan (scenario_in input) plan → TellsExplained plan (trace_in input) k answer → IsRead s input → TellsBy explaining s k answer
explained_told s k plan answer input has (text, status, inl due, said) is_read =
    let due_of : IsExplained (plan_of has.0) (trace_in input) text status = rw has.3 at due in
    (text, status, inl (input, is_read, inr (has.0, has.1, has.2, due_of)), said)
explained_told s k plan answer input has (text, status, inr wants, said) is_read =
    refusal_told explaining s k NoMemory answer (is_read.2, all_within s.before s.after input INPUT_LIMIT is_read.0 is_read.1) (rw (wants.0, wants.1) at said)

-- why an input wasn't read is why it isn't explained
pub cause_unread : (part : List ℕ → List ℕ) (s : Sourcing) (refusal : Refusal) → IsReadCauseOf s refusal → IsCause part s refusal
cause_unread part s ReadFault cause = cause
cause_unread part s TooLarge cause = cause
cause_unread part s NoMemory cause = cause
cause_unread part s (NoScene refusal) cause = absurd cause
cause_unread part s (NoPlan refusal) cause = absurd cause
