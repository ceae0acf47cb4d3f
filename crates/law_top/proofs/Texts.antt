-- `replay` accepts the texts of runs, by the laws on texts; and what `check` writes for each plan.
use Rattle.std.proofs.Common.{◌≡◌, ◌⊎◌, inl, inr, ℕ, ◌≤◌, Bool, true, false, List, [], ◌∷◌, length, None, refl, sym, ap, ◌∙◌, subst, arith, length-append}
use Rattle.wdf_base.specs.declared.plan.Plan.{Plan}
use Rattle.wdf_base.specs.declared.event.Event.{Event}
use Rattle.wdf_scene.specs.declared.scene.Scene.{Scene}
use Rattle.wdf_parse.specs.Canonical.{canonical_text}
use Rattle.wdf_parse.specs.StandsFor.{StandsFor}
use Rattle.wdf_parse.proofs.Uniqueness.{one_stands}
use Rattle.wdf_refusals.specs.First.{first_refusal}
use Rattle.wdf_plan.specs.Plans.{plan_of}
use Rattle.wdf_io.specs.Outside.{Gains}
use Rattle.wdf_dev.specs.Agents.{agent_meaning}
use Rattle.wdf_output.specs.Said.{Sinking}
use Rattle.wdf_run_text.specs.Lines.{joined_lines, trace_lines}
use Rattle.wdf_run_text.specs.Texts.{text_of}
use Rattle.wdf_run_text.proofs.Cutting.{lines_join}
use Rattle.wdf_replay.specs.Verdicts.{IsWhole}
use Rattle.wdf_split.specs.Inputs.{before_mark, is_mark, scenario_in, trace_in}
use Rattle.wdf_top.specs.Answers.{Answers, Canonical, HasPlan, IsRefused, Judgement, checking}
use Rattle.wdf_top.specs.Causes.{IsGiven, Stayed, Unhindered}
use Rattle.wdf_top.specs.Promises.{ServicePromises}
use Rattle.wdf_top.specs.Top.{Reads, Sourcing}
use Rattle.law_text.specs.Marks.{EndsInFeed, IsParted, put_together}
use Rattle.law_text.proofs.Parted.{parted_scene}
use Rattle.law_replay.specs.Claims.{IsEndedRun}
use Rattle.law_canonical.proofs.Canonical.{canonical_again, canonical_is, has_plan_too}
use Rattle.law_top.specs.Written.{WroteCanonical, WroteText}
use Rattle.law_replay.proofs.Whole.{whole_by_text}

-- ---- a scenario is no longer than its input

lines_shorter : (ls : List (List ℕ)) → length (joined_lines (before_mark ls)) ≤ length (joined_lines ls)
lines_shorter [] = omega arith
lines_shorter (line ∷ ls) = by (is_mark line) refl (lines_shorter ls)
  where
    by : (b : Bool) → is_mark line ≡ b → length (joined_lines (before_mark ls)) ≤ length (joined_lines ls) → length (joined_lines (before_mark (line ∷ ls))) ≤ length (joined_lines (line ∷ ls))
    by true e rest = rw e (omega arith)
    by false e rest = rw e (omega (arith, rest, length-append line (joined_lines (before_mark ls)), length-append line (joined_lines ls)))

scenario_shorter : (input : List ℕ) → length (scenario_in input) ≤ length input
unfolding scenario_in
scenario_shorter input = omega (arith, lines_shorter (trace_lines input), ap length (lines_join input))

-- ---- accepted

pub text_accepted : (s : Sourcing) (k : Sinking) (answer : ℕ) → ServicePromises (Reads Judgement) s k answer → (input : List ℕ) → IsGiven s input → (plan : Plan) → HasPlan (scenario_in input) plan
    → (run : List Event) → IsEndedRun plan agent_meaning run → trace_in input ≡ text_of plan agent_meaning run → Unhindered 0 answer
text_accepted s k answer p input given plan has run ended text =
    let small : length input ≤ 1048576 = given.small in
    let short : length (scenario_in input) ≤ 1048576 = omega (arith, small, scenario_shorter input) in
    let same = sym has.3 in
    let ended_here = subst (λ P. IsEndedRun P agent_meaning run) has.3 ended in
    let text_here = text ∙ ap (λ P. text_of P agent_meaning run) has.3 in
    let whole = (whole_by_text (scenario_in input) has.0 run (trace_in input) short has.1 has.2).1 (ended_here.0, ended_here.1, text_here) in
    p.accepted_always refl input given plan has run (subst (λ P. IsWhole P agent_meaning (trace_in input) run) same whole)

pub written_accepted : (s : Sourcing) (k : Sinking) (answer : ℕ) → ServicePromises (Reads Judgement) s k answer → (scenario : List ℕ) (plan : Plan) → HasPlan scenario plan → EndsInFeed scenario
    → (run : List Event) → IsEndedRun plan agent_meaning run → IsGiven s (put_together scenario (text_of plan agent_meaning run)) → Unhindered 0 answer
written_accepted s k answer p scenario plan has feed run ended given =
    let parts : IsParted scenario (text_of plan agent_meaning run) = parted_scene scenario (text_of plan agent_meaning run) has.0 has.1 feed in
    text_accepted s k answer p (put_together scenario (text_of plan agent_meaning run)) given plan (subst (λ t. HasPlan t plan) (sym parts.0) has) run ended parts.1

-- ---- checked

-- an input with a plan isn't refused
not_refused : (input text : List ℕ) (status : ℕ) (plan : Plan) → HasPlan input plan → IsRefused input text status → ⊥
not_refused input text status plan has (inl none) = none.1 has.0 has.1
not_refused input text status plan has (inr refused) =
    let same : has.0 ≡ refused.1.0 = one_stands input has.0 refused.1.0 has.1 refused.1.1 in
    let z : ⊥ = cc (sym has.2 ∙ ap first_refusal same ∙ refused.1.2) in z

checked_by : (input text : List ℕ) (k : Sinking) (answer : ℕ) (plan : Plan) → HasPlan input plan → Answers checking input text answer → Gains k.before k.after text → WroteCanonical input k answer
checked_by input text k answer plan has (inl refused) gains = absurd (not_refused input text answer plan has refused)
checked_by input text k answer plan has (inr a) gains = (a.0, a.1, a.3.1, subst (Gains k.before k.after) a.3.0 gains)

pub plan_checked : (s : Sourcing) (k : Sinking) (answer : ℕ) → ServicePromises (Reads Canonical) s k answer → (input : List ℕ) → IsGiven s input → Stayed k.faults_before k.faults_after
    → (plan : Plan) → HasPlan input plan → (answer ≡ 15) ⊎ WroteCanonical input k answer
plan_checked s k answer p input given stayed plan has =
    elim (p.answered Canonical refl input given stayed) [
      | inl lacking ↦ inl lacking
      | inr wrote ↦ inr (checked_by input wrote.0 k answer plan has wrote.1 wrote.2)
    ]

again_by : (input text : List ℕ) (scene : Scene) (stands : StandsFor input scene) (k : Sinking) (answer : ℕ) → first_refusal scene ≡ None
    → Answers checking (canonical_text scene.version stands.ws) text answer → Gains k.before k.after text → WroteText (canonical_text scene.version stands.ws) k answer
again_by input text scene stands k answer none (inl refused) gains =
    let too = has_plan_too input scene stands none in
    absurd (not_refused (canonical_text scene.version stands.ws) text answer (plan_of too.0) (too.0, too.1, too.2, refl) refused)
again_by input text scene stands k answer none (inr a) gains =
    (a.3.1, subst (Gains k.before k.after) (a.3.0 ∙ canonical_again (canonical_text scene.version stands.ws) scene a.0 (canonical_is input scene stands) a.1) gains)

pub checked_again : (input : List ℕ) (scene : Scene) (stands : StandsFor input scene) → first_refusal scene ≡ None → (s : Sourcing) (k : Sinking) (answer : ℕ) → ServicePromises (Reads Canonical) s k answer
    → IsGiven s (canonical_text scene.version stands.ws) → Stayed k.faults_before k.faults_after → (answer ≡ 15) ⊎ WroteText (canonical_text scene.version stands.ws) k answer
checked_again input scene stands none s k answer p given stayed =
    elim (p.answered Canonical refl (canonical_text scene.version stands.ws) given stayed) [
      | inl lacking ↦ inl lacking
      | inr wrote ↦ inr (again_by input wrote.0 scene stands k answer none wrote.1 wrote.2)
    ]
