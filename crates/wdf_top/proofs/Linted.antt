-- What the static check finds in an input's scripts, a lemma for each of the promises.
use Rattle.std.proofs.Common.{ℕ, ◌≡◌, ◌⊎◌, inl, inr, List, [], ◌∷◌, length, Some, None, refl, sym, ◌∙◌, arith, slice_get}
use Rattle.wdf_base.specs.declared.plan.Plan.{Plan}
use Rattle.wdf_lint.specs.Answers.{IsAnswer}
use Rattle.wdf_lint.specs.Findings.{Finding, IsFinding, IsFindings, IsWalkTo, Spot}
use Rattle.wdf_lint.specs.Steps.{breaks}
use Rattle.wdf_lint.specs.declared.state.Abstract.{Abstract}
use Rattle.wdf_lint.specs.declared.static_check.LintAnswer.{LintAnswer}
use Rattle.wdf_lint.specs.declared.static_check.LintAnswer.TheVariants as lint
use Rattle.wdf_lint_text.specs.Lines.{answer_status}
use Rattle.wdf_input.specs.Input.{TakesAll}
use Rattle.wdf_io.specs.Outside.{Gains}
use Rattle.wdf_output.specs.Said.{Sinking}
use Rattle.wdf_parse.proofs.Uniqueness.{one_stands}
use Rattle.wdf_plan.specs.Plans.{plan_of}
use Rattle.wdf_top.specs.Answers.{Answers, Canonical, Findings, HasPlan, IsLinted, Judgement, Run, linting}
use Rattle.wdf_top.specs.Causes.{IsGiven, Stayed, Unhindered, WroteLint}
use Rattle.wdf_top.specs.Top.{IsAnswered, Reads, Scenario, Service, Sourcing, Summary, Tells, TellsBy, Usage}
use Rattle.wdf_top.proofs.Causes.{whole_answer}
use Rattle.wdf_top.proofs.Given.{answers_given, two_plans, unless_given}
use Rattle.wdf_top.proofs.Statuses.{reads_never, scenario_never, summary_never, third, usage_answers}

-- what is answered to an input that has a plan is what the static check finds in it
plan_linted : (input : List ℕ) (plan : Plan) → HasPlan input plan → (text : List ℕ) (status : ℕ) → Answers linting input text status → IsLinted plan text status
plan_linted input plan has text status (inl (inl r)) = absurd (r.1 has.0 has.1)
plan_linted input plan has text status (inl (inr r)) = absurd (two_plans input r.0 r.1 has.0 has.1 has.2)
plan_linted input plan has text status (inr (scene, stands, accepted, linted)) =
    let same : scene ≡ has.0 = one_stands input scene has.0 stands has.1 in
    rw (has.3, ← same) linted

pub linted_given : (s : Sourcing) (k : Sinking) (answer : ℕ) → TellsBy linting s k answer
    → (input : List ℕ) → IsGiven s input → Stayed k.faults_before k.faults_after
    → (plan : Plan) → HasPlan input plan
    → (answer ≡ 15) ⊎ ((text : List ℕ) × IsLinted plan text answer × Gains k.before k.after text)
linted_given s k answer told input given kept plan has =
    elim (answers_given linting s k answer told input given kept) [
      | inl h ↦ inl h
      | inr h ↦ inr (h.0, plan_linted input plan has h.0 answer h.1, h.2)
    ]

-- ---- a plan isn't clean that has a finding

not_walked : (plan : Plan) (s : Spot) (walk : List Abstract) → IsAnswer plan lint.Clean → IsWalkTo plan s walk → ⊥
not_walked plan s [] clean goes = goes
not_walked plan s (a ∷ before) clean (walk, at, x, broken, rule) =
    let none_broken : breaks plan s.script a ≡ None = clean.0 s.script a (before, walk) in
    let z : ⊥ = cc in z

not_found : (plan : Plan) (s : Spot) (f : Finding) → IsAnswer plan lint.Clean → IsFinding plan s f → ⊥
not_found plan s f clean (inl size) = clean.1 s.script size.big
not_found plan s f clean (inr of) = not_walked plan s of.walk clean of.best.goes

none_at : (plan : Plan) (f : Finding) (fs : List Finding) (spots : List Spot) → length spots ≡ length (f ∷ fs)
    → ((n : ℕ) (s : Spot) (g : Finding) → slice_get spots n ≡ Some s → slice_get (f ∷ fs) n ≡ Some g → IsFinding plan s g)
    → IsAnswer plan lint.Clean → ⊥
none_at plan f fs [] many each clean = omega (arith, many)
none_at plan f fs (s ∷ ss) many each clean = not_found plan s f clean (each 0 s f refl refl)

never_both : (plan : Plan) (fs : List Finding) → IsAnswer plan lint.Clean → IsAnswer plan (lint.Findings fs) → ⊥
never_both plan [] clean found = found.0 refl
never_both plan (f ∷ fs) clean found =
    let all : IsFindings plan (f ∷ fs) = found.1 in none_at plan f fs all.spots all.many all.each clean

-- ---- 7 and 0

found_status : (plan : Plan) (fs : List Finding) → IsAnswer plan (lint.Findings fs) → (text : List ℕ) (status : ℕ) → IsLinted plan text status → status ≡ 7
found_status plan fs is text status (lint.Clean, clean, text_is, status_is) = absurd (never_both plan fs clean is)
found_status plan fs is text status (lint.Findings other, found, text_is, status_is) = status_is

clean_status : (plan : Plan) → IsAnswer plan lint.Clean → (text : List ℕ) (status : ℕ) → IsLinted plan text status → status ≡ 0
clean_status plan is text status (lint.Clean, clean, text_is, status_is) = status_is
clean_status plan is text status (lint.Findings other, found, text_is, status_is) = absurd (never_both plan other is found)

pub found_always : (s : Sourcing) (k : Sinking) (answer : ℕ) → TellsBy linting s k answer → (input : List ℕ) → IsGiven s input → (plan : Plan) → HasPlan input plan
    → (found : List Finding) → IsAnswer plan (lint.Findings found) → Unhindered 7 answer
found_always s k answer told input given plan has found is =
    unless_given linting 7 s k answer told input given (λ text status answers. found_status plan found is text status (plan_linted input plan has text status answers))

pub clean_always : (s : Sourcing) (k : Sinking) (answer : ℕ) → TellsBy linting s k answer → (input : List ℕ) → IsGiven s input → (plan : Plan) → HasPlan input plan
    → IsAnswer plan lint.Clean → Unhindered 0 answer
clean_always s k answer told input given plan has is =
    unless_given linting 0 s k answer told input given (λ text status answers. clean_status plan is text status (plan_linted input plan has text status answers))

wrote_found : (s : Sourcing) (k : Sinking) (input text : List ℕ) → TakesAll s.before s.after input → Answers linting input text 7 → Gains k.before k.after text → (found : List Finding) × WroteLint s k (lint.Findings found)
wrote_found s k input text whole (inl (inl r)) gained = absurd (omega (arith, r.4))
wrote_found s k input text whole (inl (inr r)) gained = absurd (omega (arith, r.3))
wrote_found s k input text whole (inr (scene, stands, accepted, (lint.Clean, clean, text_is, status_is))) gained = absurd (omega (arith, status_is))
wrote_found s k input text whole (inr (scene, stands, accepted, (lint.Findings fs, found, text_is, status_is))) gained = (
  fs,
  record { input = input; whole = whole; plan = plan_of scene; stands = (scene, stands, accepted, refl); is = found; written = rw text_is at gained },
)

wrote_clean : (s : Sourcing) (k : Sinking) (input text : List ℕ) → TakesAll s.before s.after input → Answers linting input text 0 → Gains k.before k.after text → WroteLint s k lint.Clean
wrote_clean s k input text whole (inl (inl r)) gained = absurd (omega (arith, r.4))
wrote_clean s k input text whole (inl (inr r)) gained = absurd (omega (arith, r.3))
wrote_clean s k input text whole (inr (scene, stands, accepted, (lint.Findings fs, found, text_is, status_is))) gained = absurd (omega (arith, status_is))
wrote_clean s k input text whole (inr (scene, stands, accepted, (lint.Clean, clean, text_is, status_is))) gained =
    record { input = input; whole = whole; plan = plan_of scene; stands = (scene, stands, accepted, refl); is = clean; written = rw text_is at gained }

pub clean_only : (s : Sourcing) (k : Sinking) (answer : ℕ) → TellsBy linting s k answer → answer ≡ 0 → WroteLint s k lint.Clean
clean_only s k answer told same =
    let all : (text : List ℕ) × IsAnswered linting s text 0 × Gains k.before k.after text = whole_answer linting 0 refl s k answer told same in
    wrote_clean s k all.1.0 all.0 all.1.1.0 all.1.2 all.2

lint_found : (s : Sourcing) (k : Sinking) (answer : ℕ) → TellsBy linting s k answer → answer ≡ 7 → (found : List Finding) × WroteLint s k (lint.Findings found)
lint_found s k answer told same =
    let all : (text : List ℕ) × IsAnswered linting s text 7 × Gains k.before k.after text = whole_answer linting 7 refl s k answer told same in
    wrote_found s k all.1.0 all.0 all.1.1.0 all.1.2 all.2

-- only `lint` answers 7
pub found_only : (v : Service) (s : Sourcing) (k : Sinking) (answer : ℕ) → Tells v s k answer → answer ≡ 7 → (v ≡ Reads Findings) × ((found : List Finding) × WroteLint s k (lint.Findings found))
found_only Usage s k answer told same = absurd (third answer 2 13 7 (usage_answers s k answer told) (λ h. omega arith) (λ h. omega arith) same)
found_only (Reads Canonical) s k answer told same = absurd (reads_never Canonical 7 s k answer refl (λ h. omega arith) told same)
found_only (Reads (Run a by)) s k answer told same = absurd (reads_never (Run a by) 7 s k answer refl (λ h. omega arith) told same)
found_only (Reads Judgement) s k answer told same = absurd (reads_never Judgement 7 s k answer refl (λ h. omega arith) told same)
found_only (Reads Findings) s k answer told same = (refl, lint_found s k answer told same)
found_only (Scenario n) s k answer told same = absurd (scenario_never n 7 s k answer (λ h. omega arith) (λ h. omega arith) (λ h. omega arith) told same)
found_only (Summary n) s k answer told same = absurd (summary_never n 7 s k answer refl (λ h. omega arith) told same)

-- ---- the sink

answer_no_sink : (found : LintAnswer) → answer_status found ≡ 13 → ⊥
answer_no_sink lint.Clean h = omega (arith, h)
answer_no_sink (lint.Findings fs) h = omega (arith, h)

pub lint_no_sink : (plan : Plan) (text : List ℕ) (status : ℕ) → IsLinted plan text status → status ≡ 13 → ⊥
lint_no_sink plan text status (found, is, text_is, status_is) h = answer_no_sink found (sym status_is ∙ h)
