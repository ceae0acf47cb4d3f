-- The accepted traces are the texts of runs that have ended, and the texts tell the runs.
use Rattle.std.proofs.Common.{◌≡◌, ℕ, List, None, sym, ap, subst, ◌∙◌}
use Rattle.wdf_base.specs.Meaning.{Meaning}
use Rattle.wdf_base.specs.Resolved.{IsResolved}
use Rattle.wdf_base.specs.declared.plan.Plan.{Plan}
use Rattle.wdf_base.specs.declared.event.Event.{Event}
use Rattle.wdf_base.specs.declared.event.Ending.{Ending}
use Rattle.wdf_base.specs.declared.event.Ending.TheVariants as ending
use Rattle.wdf_scene.specs.declared.scene.Scene.{Scene}
use Rattle.wdf_parse.specs.StandsFor.{StandsFor}
use Rattle.wdf_refusals.specs.First.{first_refusal}
use Rattle.wdf_plan.specs.Plans.{plan_of}
use Rattle.wdf_model.specs.rules.Ready.{ending_of}
use Rattle.wdf_dev.specs.Agents.{agent_meaning}
use Rattle.wdf_run_text.specs.Texts.{text_of}
use Rattle.wdf_replay.specs.declared.verdict.Verdict.{Verdict}
use Rattle.wdf_replay.specs.declared.verdict.Verdict.TheVariants as verdict
use Rattle.wdf_replay.specs.Verdicts.{GivesVerdict, IsAccepted}
use Rattle.wdf_replay.proofs.Complete.{complete}
use Rattle.law_lines.specs.Agents.{HasFittingAgents}
use Rattle.law_lines.specs.Fitting.{HasFittingNumbers}
use Rattle.law_lines.proofs.OneRun.{same_text}
use Rattle.law_replay.specs.Claims.{IsPlanOf, IsEndedRun, AcceptsTexts, TextsTellRuns}
use Rattle.law_replay.proofs.Whole.{events_of_text, text_resolved, whole_exactly}
use Rattle.law_replay.proofs.Fitting.{agents_of_plan}
use Rattle.law_replay.proofs.Plans.{plan_fits}

-- a trace with such a verdict is the text of a run
abbrev IsTextTo : {A : Type 0} → Plan → Meaning A → List ℕ → Ending → Type 0
IsTextTo plan m trace e = (run : List Event) × IsEndedRun plan m run × (ending_of plan m run ≡ e) × (trace ≡ text_of plan m run)

accepted_text : {A : Type 0} (plan : Plan) (m : Meaning A) (trace : List ℕ) (e : Ending) → IsAccepted plan m trace e → IsTextTo plan m trace e
accepted_text plan m trace e a = (a.run, (a.is_run, λ h. a.over (sym a.ended ∙ h)), a.ended, a.text)

by_verdict : {A : Type 0} (plan : Plan) (m : Meaning A) (trace : List ℕ) (v : Verdict) (e : Ending) → GivesVerdict plan m trace v → v ≡ verdict.Accepted e → IsTextTo plan m trace e
by_verdict plan m trace (verdict.Accepted x) e gives is = let same : x ≡ e = cc in subst (IsTextTo plan m trace) same (accepted_text plan m trace x gives)
by_verdict plan m trace (verdict.RefusedAt line y) e gives is = absurd (let z : ⊥ = cc in z)

pub accepts_texts : {A : Type 0} (plan : Plan) (m : Meaning A) → IsResolved plan → HasFittingNumbers plan → HasFittingAgents plan m → AcceptsTexts plan m
accepts_texts plan m h fit agents trace v gives e = (
  by_verdict plan m trace v e gives,
  λ t.
      let whole = (whole_exactly plan m t.0 trace h fit agents).1 (t.1.0, t.1.1, t.3) in
      complete plan m h trace t.0 v whole gives ∙ ap (λ x. verdict.Accepted x) t.2,
)

-- ---- the plan of a text

of_scene : (text : List ℕ) (scene : Scene) → StandsFor text scene → first_refusal scene ≡ None → HasFittingNumbers (plan_of scene) → AcceptsTexts (plan_of scene) agent_meaning
of_scene text scene stands none fit = accepts_texts (plan_of scene) agent_meaning (text_resolved text scene stands none) fit (agents_of_plan (plan_of scene) fit)

pub accepts_texts_of_plan : (text : List ℕ) (plan : Plan) → IsPlanOf text plan → AcceptsTexts plan agent_meaning
accepts_texts_of_plan text plan p =
    subst (λ P. AcceptsTexts P agent_meaning) (sym p.1.3) (of_scene text p.1.0 p.1.1 p.1.2 (plan_fits text p.1.0 p.0 p.1.1))

tells_of_scene : (text : List ℕ) (plan : Plan) (scene : Scene) → IsPlanOf text plan → StandsFor text scene → first_refusal scene ≡ None → TextsTellRuns (plan_of scene) agent_meaning
tells_of_scene text plan scene p stands none a b ended_a ended_b same =
    same_text (plan_of scene) agent_meaning (text_resolved text scene stands none) a b ended_a.0 ended_b.0 ended_a.1 ended_b.1
    (events_of_text text scene a p.0 stands none ended_a.0) (events_of_text text scene b p.0 stands none ended_b.0) same

pub tells_runs : (text : List ℕ) (plan : Plan) → IsPlanOf text plan → TextsTellRuns plan agent_meaning
tells_runs text plan p = subst (λ P. TextsTellRuns P agent_meaning) (sym p.1.3) (tells_of_scene text plan p.1.0 p p.1.1 p.1.2)
