-- From what becomes of an input's parts to what becomes of the whole.
use Rattle.std.proofs.Common.{ℕ, List, ◌≡◌, Result, Ok, Err, IfOk, IfErr, inl, inr}
use Rattle.wdf_base.specs.declared.plan.Plan.{Plan}
use Rattle.wdf_base.specs.Resolved.{IsResolved}
use Rattle.wdf_parse.proofs.ProperNames.{stands_scene, stands_properly}
use Rattle.wdf_plan.proofs.Whole.{plan_resolved}
use Rattle.wdf_split.specs.Inputs.{scenario_in, trace_in}
use Rattle.wdf_output.specs.declared.refusal.Refusal.{Refusal}
use Rattle.wdf_output.specs.declared.refusal.Refusal.TheVariants.{ReadFault, TooLarge, NoMemory, NoScene, NoPlan}
use Rattle.wdf_view.specs.declared.bad.Bad.{Bad}
use Rattle.wdf_view.specs.declared.bad.Bad.TheVariants.{Unread, BadTrace}
use Rattle.wdf_view.specs.declared.read.TheConstants.{RUN_LIMIT}
use Rattle.wdf_input.proofs.Taken.{all_within}
use Rattle.wdf_view.specs.Causes.{HasPlan, IsAcceptedBy, IsTextCause, IsTraceCause, IsInputCause, IsShown, IsShownFrom, IsCause, IsRead, IsReadCause, Sourcing}

-- the plan of a text is resolved
pub text_plan_resolved : (text : List ℕ) (plan : Plan) → HasPlan text plan → IsResolved plan
text_plan_resolved text plan h =
    rw h.3 (plan_resolved h.0 (stands_scene text h.0 h.1) (stands_properly text h.0 h.1) h.2)

-- why a scenario has no plan is why its input isn't shown
pub text_input : (input : List ℕ) (refusal : Refusal) → IsTextCause (scenario_in input) refusal → IsInputCause input (Unread refusal)
text_input input ReadFault cause = cause
text_input input TooLarge cause = cause
text_input input NoMemory cause = tt
text_input input (NoScene refusal) cause = cause
text_input input (NoPlan refusal) cause = cause

-- why the trace of its plan isn't shown is why an input isn't
pub trace_input : (input : List ℕ) (plan : Plan) (bad : Bad) → HasPlan (scenario_in input) plan → IsTraceCause plan (trace_in input) bad → IsInputCause input bad
trace_input input plan (Unread ReadFault) has cause = absurd cause
trace_input input plan (Unread TooLarge) has cause = absurd cause
trace_input input plan (Unread NoMemory) has cause = tt
trace_input input plan (Unread (NoScene refusal)) has cause = absurd cause
trace_input input plan (Unread (NoPlan refusal)) has cause = absurd cause
trace_input input plan (BadTrace line y) has cause = (plan, has, cause)

-- an input that wasn't read isn't shown
pub read_cause : (s : Sourcing) (refusal : Refusal) → IsReadCause s refusal → IsCause s (Unread refusal)
read_cause s ReadFault cause = cause
read_cause s TooLarge cause = inl cause
read_cause s NoMemory cause = cause
read_cause s (NoScene refusal) cause = absurd cause
read_cause s (NoPlan refusal) cause = absurd cause

-- an input that was read isn't shown for one of these reasons
input_cause : (s : Sourcing) (input : List ℕ) (bad : Bad) → IsRead s input → IsInputCause input bad → IsCause s bad
input_cause s input (Unread ReadFault) is_read cause = absurd cause
input_cause s input (Unread TooLarge) is_read cause = inr (input, is_read, cause)
input_cause s input (Unread NoMemory) is_read cause = (is_read.2, all_within s.before s.after input RUN_LIMIT is_read.0 is_read.1)
input_cause s input (Unread (NoScene refusal)) is_read cause = (input, is_read, cause)
input_cause s input (Unread (NoPlan refusal)) is_read cause = (input, is_read, cause)
input_cause s input (BadTrace line y) is_read cause = (input, is_read, cause)

-- ---- of the answers

-- an input whose trace is accepted is shown
pub shown_of : {T : Type 0} (input : List ℕ) (plan : Plan) (r : Result T Bad) → HasPlan (scenario_in input) plan
    → IfOk r (λ _. IsAcceptedBy plan (trace_in input)) → IfOk r (λ _. IsShown input)
shown_of input plan (Ok page) has accepted = (plan, has, accepted)
shown_of input plan (Err bad) has accepted = tt

pub cause_of : {T : Type 0} (input : List ℕ) (plan : Plan) (r : Result T Bad) → HasPlan (scenario_in input) plan
    → IfErr r (IsTraceCause plan (trace_in input)) → IfErr r (IsInputCause input)
cause_of input plan (Ok page) has cause = tt
cause_of input plan (Err bad) has cause = trace_input input plan bad has cause

-- what becomes of an input that was read is what becomes of the source
pub shown_from : {T : Type 0} (s : Sourcing) (input : List ℕ) (r : Result T Bad) → IsRead s input
    → IfOk r (λ _. IsShown input) → IfOk r (λ _. IsShownFrom s)
shown_from s input (Ok page) is_read shown = (input, is_read, shown)
shown_from s input (Err bad) is_read shown = tt

pub cause_from : {T : Type 0} (s : Sourcing) (input : List ℕ) (r : Result T Bad) → IsRead s input
    → IfErr r (IsInputCause input) → IfErr r (IsCause s)
cause_from s input (Ok page) is_read cause = tt
cause_from s input (Err bad) is_read cause = input_cause s input bad is_read cause

-- what holds anyway holds where there is a page
pub always_ok : {T E : Type 0} (P : Type 0) (r : Result T E) → P → IfOk r (λ _. P)
always_ok P (Ok page) h = h
always_ok P (Err bad) h = tt

-- memory may be refused at any time
pub memory_cause : {T : Type 0} (plan : Plan) (trace : List ℕ) (r : Result T Bad) → IfErr r (λ bad. bad ≡ Unread NoMemory) → IfErr r (IsTraceCause plan trace)
memory_cause plan trace (Ok page) h = tt
memory_cause plan trace (Err bad) h = rw h tt
