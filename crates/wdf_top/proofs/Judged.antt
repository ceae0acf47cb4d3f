-- The verdict on an input's trace, a lemma for each of the top call's clauses.
use Rattle.std.proofs.Common.{ℕ, ◌≡◌, ◌+◌, ◌⊎◌, inl, inr, List, [], ◌∷◌, ◌++◌, length, refl, sym, ap, subst, ◌∙◌, arith, length-append, map}
use Rattle.wdf_base.specs.Resolved.{IsResolved}
use Rattle.wdf_base.specs.declared.plan.Plan.{Plan}
use Rattle.wdf_base.specs.declared.event.Event.{Event}
use Rattle.wdf_base.specs.declared.event.Ending.{Ending}
use Rattle.wdf_base.specs.declared.event.Ending.TheVariants as ending
use Rattle.wdf_model.specs.rules.Ready.{ending_of}
use Rattle.wdf_model.specs.rules.Waits.{wait_list}
use Rattle.wdf_dev.specs.Agents.{agent_meaning}
use Rattle.wdf_io.specs.Outside.{Gains}
use Rattle.wdf_input.specs.Input.{TakesAll}
use Rattle.wdf_parse.proofs.Uniqueness.{one_stands}
use Rattle.wdf_plan.specs.Plans.{plan_of}
use Rattle.wdf_lines.specs.Endings.{ending_text}
use Rattle.wdf_replay.specs.declared.verdict.Why.{Why}
use Rattle.wdf_replay.specs.declared.verdict.Why.TheVariants as why
use Rattle.wdf_replay.specs.declared.verdict.Verdict.{Verdict}
use Rattle.wdf_replay.specs.declared.verdict.Verdict.TheVariants as verdict
use Rattle.wdf_run_text.specs.Lines.{fed}
use Rattle.wdf_run_text.specs.Texts.{event_lines, fed_wait, lines_so_far}
use Rattle.wdf_replay.specs.Refused.{refused_line}
use Rattle.wdf_replay.specs.Verdicts.{GivesVerdict, IsAccepted, IsBad, IsLeft, IsRefused, IsWhole}
use Rattle.wdf_replay.proofs.Complete.{complete}
use Rattle.wdf_replay.proofs.RunLines.{end_lines_over}
use Rattle.wdf_split.specs.Inputs.{scenario_in, trace_in}
use Rattle.wdf_output.specs.Said.{Sinking, Says}
use Rattle.wdf_top.specs.Answers.{Answers, HasPlan, IsVerdict, Canonical, Run, Judgement, Findings, accepted_line, judging, verdict_line, verdict_status}
use Rattle.wdf_top.specs.Causes.{IsGiven, Stayed, Unhindered, WroteAccepted, WroteRefused}
use Rattle.wdf_top.specs.Top.{Sourcing, Service, IsAnswered, Tells, TellsBy, TellsVerdict, Usage, Reads, Scenario, Summary}
use Rattle.wdf_top.proofs.Causes.{whole_answer}
use Rattle.wdf_top.proofs.Given.{answers_given, two_plans, unless_given}
use Rattle.wdf_top.proofs.Resolving.{text_plan_resolved}
use Rattle.wdf_top.proofs.Statuses.{reads_never, scenario_never, summary_never, third, usage_answers}

-- the verdict was said, with the number of the events that are left on the core
pub verdict_told : (plan : Plan) (trace : List ℕ) (v : Verdict) (left : List Event) (k : Sinking) (answer : ℕ) → GivesVerdict plan agent_meaning trace v → IsLeft plan agent_meaning trace v left
    → Says k (verdict_line (length left) v) (verdict_status v) answer → TellsVerdict plan trace k answer
verdict_told plan trace (verdict.Accepted e) left k answer gives (accepted, same) said =
    (accepted_line (length accepted.run) e, 0, inl (inl (e, accepted, refl, refl)), subst (λ (es : List Event). Says k (accepted_line (length es) e) 0 answer) (sym same) said)
verdict_told plan trace (verdict.RefusedAt line y) left k answer gives no_run said =
    (refused_line line y, 6, inl (inr (line, y, gives, refl, refl)), said)

-- ---- at most one verdict

whole_of : (plan : Plan) (trace : List ℕ) (e : Ending) → (accepted : IsAccepted plan agent_meaning trace e) → IsWhole plan agent_meaning trace accepted.run
whole_of plan trace e accepted = record {
  is_run = accepted.is_run;
  over = λ h. accepted.over (sym accepted.ended ∙ h);
  valid = accepted.valid;
  lines = accepted.lines;
}

-- a trace whose lines are those of a run that has ended isn't refused
pub whole_not_refused : (plan : Plan) (trace : List ℕ) (run : List Event) (line : ℕ) (y : Why) → IsResolved plan → IsWhole plan agent_meaning trace run → IsRefused plan agent_meaning trace line y → ⊥
whole_not_refused plan trace run line y resolved whole refused =
    let same : verdict.RefusedAt line y ≡ verdict.Accepted (ending_of plan agent_meaning run) = complete plan agent_meaning resolved trace run (verdict.RefusedAt line y) whole refused in
    let z : ⊥ = cc in z

-- ---- what is written

-- what is answered to an input whose scenario has a plan is the verdict on its trace
judged_plan : (input : List ℕ) (plan : Plan) → HasPlan (scenario_in input) plan → (text : List ℕ) (status : ℕ) → Answers judging input text status → IsVerdict plan (trace_in input) text status
judged_plan input plan has text status (inl (inl r)) = absurd (r.1 has.0 has.1)
judged_plan input plan has text status (inl (inr r)) = absurd (two_plans (scenario_in input) r.0 r.1 has.0 has.1 has.2)
judged_plan input plan has text status (inr (scene, stands, accepted, judged)) =
    let same : scene ≡ has.0 = one_stands (scenario_in input) scene has.0 stands has.1 in
    rw (has.3, ← same) judged

pub verdict_given : (s : Sourcing) (k : Sinking) (answer : ℕ) → TellsBy judging s k answer
    → (input : List ℕ) → IsGiven s input → Stayed k.faults_before k.faults_after
    → (plan : Plan) → HasPlan (scenario_in input) plan
    → (answer ≡ 15) ⊎ ((text : List ℕ) × IsVerdict plan (trace_in input) text answer × Gains k.before k.after text)
verdict_given s k answer told input given kept plan has =
    elim (answers_given judging s k answer told input given kept) [
      | inl h ↦ inl h
      | inr h ↦ inr (h.0, judged_plan input plan has h.0 answer h.1, h.2)
    ]

-- ---- no trace

-- of a trace without lines the first line is missing
missing_bad : (plan : Plan) (run : List Event) (told line : ℕ) (y : Why) (left : List (List ℕ)) → [] ≡ lines_so_far plan agent_meaning run told ++ left → line ≡ length (lines_so_far plan agent_meaning run told) + 1
    → IsBad plan agent_meaning run told y left → (line ≡ 1) × (y ≡ why.Missing)
missing_bad plan run told line y (l ∷ ls) good number bad =
    absurd (omega (arith, ap length good, length-append (lines_so_far plan agent_meaning run told) (l ∷ ls)))
missing_bad plan run told line y [] good number bad =
    (omega (arith, ap length good, length-append (lines_so_far plan agent_meaning run told) [], number), bad.0)

no_trace_verdict : (plan : Plan) (text : List ℕ) (status : ℕ) → IsVerdict plan [] text status → (text ≡ refused_line 1 why.Missing) × (status ≡ 6)
no_trace_verdict plan text status (inl (e, accepted, text_is, status_is)) =
    let run = accepted.run in
    let over : ending_of plan agent_meaning run ≡ ending.Running → ⊥ = λ h. accepted.over (sym accepted.ended ∙ h) in
    let ends : List (List ℕ) = fed (ending_text (length run) (ending_of plan agent_meaning run)) ∷ map (fed_wait plan) (wait_list plan agent_meaning run) in
    let lines : [] ≡ event_lines plan 1 run ++ ends = accepted.lines ∙ ap (λ ls. event_lines plan 1 run ++ ls) (end_lines_over plan agent_meaning run over) in
    absurd (omega (arith, ap length lines, length-append (event_lines plan 1 run) ends))
no_trace_verdict plan text status (inr (line, y, refused, text_is, status_is)) =
    let is : (line ≡ 1) × (y ≡ why.Missing) = missing_bad plan refused.run refused.told line y refused.left refused.good refused.number refused.bad in
    (rw (text_is, is.0, is.1) refl, status_is)

missing_given_by : (k : Sinking) (answer : ℕ) (plan : Plan) → (answer ≡ 15) ⊎ ((text : List ℕ) × IsVerdict plan [] text answer × Gains k.before k.after text)
    → (answer ≡ 15) ⊎ ((answer ≡ 6) × Gains k.before k.after (refused_line 1 why.Missing))
missing_given_by k answer plan (inl h) = inl h
missing_given_by k answer plan (inr (text, judged, gained)) =
    let is : (text ≡ refused_line 1 why.Missing) × (answer ≡ 6) = no_trace_verdict plan text answer judged in
    inr (is.1, rw is.0 at gained)

pub missing_given : (s : Sourcing) (k : Sinking) (answer : ℕ) → TellsBy judging s k answer
    → (input : List ℕ) → IsGiven s input → Stayed k.faults_before k.faults_after
    → (plan : Plan) → HasPlan (scenario_in input) plan → trace_in input ≡ []
    → (answer ≡ 15) ⊎ ((answer ≡ 6) × Gains k.before k.after (refused_line 1 why.Missing))
missing_given s k answer told input given kept plan has none_there =
    missing_given_by k answer plan (rw none_there at (verdict_given s k answer told input given kept plan has))

-- ---- 0 and 6

-- a line that is refused is answered with 6
refused_status : (plan : Plan) (trace : List ℕ) (line : ℕ) (y : Why) → IsResolved plan → IsRefused plan agent_meaning trace line y → (text : List ℕ) (status : ℕ) → IsVerdict plan trace text status → status ≡ 6
refused_status plan trace line y resolved refused text status (inl h) = absurd (whole_not_refused plan trace _ line y resolved (whole_of plan trace h.0 h.1) refused)
refused_status plan trace line y resolved refused text status (inr h) = h.4

pub refused_always : (s : Sourcing) (k : Sinking) (answer : ℕ) → TellsBy judging s k answer → (input : List ℕ) → IsGiven s input → (plan : Plan) → HasPlan (scenario_in input) plan
    → (line : ℕ) (y : Why) → IsRefused plan agent_meaning (trace_in input) line y → Unhindered 6 answer
refused_always s k answer told input given plan has line y refused =
    unless_given judging 6 s k answer told input given
    (λ text status answers. refused_status plan (trace_in input) line y (text_plan_resolved (scenario_in input) plan has) refused text status (judged_plan input plan has text status answers))

-- a trace whose lines are those of a run that has ended is answered with 0
accepted_status : (plan : Plan) (trace : List ℕ) (run : List Event) → IsResolved plan → IsWhole plan agent_meaning trace run → (text : List ℕ) (status : ℕ) → IsVerdict plan trace text status → status ≡ 0
accepted_status plan trace run resolved whole text status (inl h) = h.3
accepted_status plan trace run resolved whole text status (inr h) = absurd (whole_not_refused plan trace run h.0 h.1 resolved whole h.2)

pub accepted_always : (s : Sourcing) (k : Sinking) (answer : ℕ) → TellsBy judging s k answer → (input : List ℕ) → IsGiven s input → (plan : Plan) → HasPlan (scenario_in input) plan
    → (run : List Event) → IsWhole plan agent_meaning (trace_in input) run → Unhindered 0 answer
accepted_always s k answer told input given plan has run whole =
    unless_given judging 0 s k answer told input given
    (λ text status answers. accepted_status plan (trace_in input) run (text_plan_resolved (scenario_in input) plan has) whole text status (judged_plan input plan has text status answers))

wrote_refused : (s : Sourcing) (k : Sinking) (input text : List ℕ) → TakesAll s.before s.after input → Answers judging input text 6 → Gains k.before k.after text → WroteRefused s k
wrote_refused s k input text whole (inl (inl r)) gained = absurd (omega (arith, r.4))
wrote_refused s k input text whole (inl (inr r)) gained = absurd (omega (arith, r.3))
wrote_refused s k input text whole (inr (scene, stands, accepted, inl h)) gained = absurd (omega (arith, h.3))
wrote_refused s k input text whole (inr (scene, stands, accepted, inr (line, y, refused, text_is, status_is))) gained = record {
  input = input;
  whole = whole;
  plan = plan_of scene;
  stands = (scene, stands, accepted, refl);
  line = line;
  why = y;
  refused = refused;
  written = rw text_is at gained;
}

wrote_accepted : (s : Sourcing) (k : Sinking) (input text : List ℕ) → TakesAll s.before s.after input → Answers judging input text 0 → Gains k.before k.after text → WroteAccepted s k
wrote_accepted s k input text whole (inl (inl r)) gained = absurd (omega (arith, r.4))
wrote_accepted s k input text whole (inl (inr r)) gained = absurd (omega (arith, r.3))
wrote_accepted s k input text whole (inr (scene, stands, accepted, inr h)) gained = absurd (omega (arith, h.4))
wrote_accepted s k input text whole (inr (scene, stands, accepted, inl (e, is_accepted, text_is, status_is))) gained = record {
  input = input;
  whole = whole;
  plan = plan_of scene;
  stands = (scene, stands, accepted, refl);
  ending = e;
  accepted = is_accepted;
  written = rw text_is at gained;
}

pub accepted_only : (s : Sourcing) (k : Sinking) (answer : ℕ) → TellsBy judging s k answer → answer ≡ 0 → WroteAccepted s k
accepted_only s k answer told same =
    let all : (text : List ℕ) × IsAnswered judging s text 0 × Gains k.before k.after text = whole_answer judging 0 refl s k answer told same in
    wrote_accepted s k all.1.0 all.0 all.1.1.0 all.1.2 all.2

judged_refused : (s : Sourcing) (k : Sinking) (answer : ℕ) → TellsBy judging s k answer → answer ≡ 6 → WroteRefused s k
judged_refused s k answer told same =
    let all : (text : List ℕ) × IsAnswered judging s text 6 × Gains k.before k.after text = whole_answer judging 6 refl s k answer told same in
    wrote_refused s k all.1.0 all.0 all.1.1.0 all.1.2 all.2

-- only `replay` answers 6
pub refused_only : (v : Service) (s : Sourcing) (k : Sinking) (answer : ℕ) → Tells v s k answer → answer ≡ 6 → (v ≡ Reads Judgement) × WroteRefused s k
refused_only Usage s k answer told same = absurd (third answer 2 13 6 (usage_answers s k answer told) (λ h. omega arith) (λ h. omega arith) same)
refused_only (Reads Canonical) s k answer told same = absurd (reads_never Canonical 6 s k answer refl (λ h. omega arith) told same)
refused_only (Reads (Run a by)) s k answer told same = absurd (reads_never (Run a by) 6 s k answer refl (λ h. omega arith) told same)
refused_only (Reads Judgement) s k answer told same = (refl, judged_refused s k answer told same)
refused_only (Reads Findings) s k answer told same = absurd (reads_never Findings 6 s k answer refl (λ h. omega arith) told same)
refused_only (Scenario n) s k answer told same = absurd (scenario_never n 6 s k answer (λ h. omega arith) (λ h. omega arith) (λ h. omega arith) told same)
refused_only (Summary n) s k answer told same = absurd (summary_never n 6 s k answer refl (λ h. omega arith) told same)
