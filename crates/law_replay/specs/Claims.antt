-- What the laws on traces claim. (own)
use Rattle.std.specs.Prelude.{◌≡◌, ◌≢◌, ◌↔◌, ◌≤◌, ℕ, List, None, length}
use Rattle.wdf_base.specs.Meaning.{Meaning}
use Rattle.wdf_base.specs.declared.plan.Plan.{Plan}
use Rattle.wdf_base.specs.declared.event.Event.{Event}
use Rattle.wdf_base.specs.declared.event.Ending.{Ending}
use Rattle.wdf_base.specs.declared.event.Ending.TheVariants as ending
use Rattle.wdf_scene.specs.declared.scene.Scene.{Scene}
use Rattle.wdf_parse.specs.StandsFor.{StandsFor}
use Rattle.wdf_refusals.specs.First.{first_refusal}
use Rattle.wdf_plan.specs.Plans.{plan_of}
use Rattle.wdf_model.specs.rules.Ready.{IsRunOf, ending_of}
use Rattle.wdf_run_text.specs.Texts.{text_of}
use Rattle.wdf_replay.specs.declared.verdict.Verdict.{Verdict}
use Rattle.wdf_replay.specs.declared.verdict.Verdict.TheVariants as verdict
use Rattle.wdf_replay.specs.Verdicts.{GivesVerdict}
use Rattle.wdf_split.specs.Inputs.{trace_in}
use Rattle.law_text.specs.Marks.{IsParted, put_together}

-- the plan of a text that is no longer than the program reads: a scene stands for the text, and nothing in it is refused
abbrev pub IsPlanOf : List ℕ → Plan → Type 0
IsPlanOf text plan = (length text ≤ 1048576) × ((scene : Scene) × StandsFor text scene × (first_refusal scene ≡ None) × (plan ≡ plan_of scene))

-- a run that has ended
abbrev pub IsEndedRun : {A : Type 0} → Plan → Meaning A → List Event → Type 0
IsEndedRun plan m run = IsRunOf plan m run × (ending_of plan m run ≢ ending.Running)

-- A trace has one verdict: it is accepted with one ending, or refused at one line for one reason, and never both.
abbrev pub HasOneVerdict : {A : Type 0} → Plan → Meaning A → Type 0
HasOneVerdict plan m = (trace : List ℕ) (v w : Verdict) → GivesVerdict plan m trace v → GivesVerdict plan m trace w → v ≡ w

-- A trace is accepted with an ending exactly where it is the text of a run that has ended so.
abbrev pub AcceptsTexts : {A : Type 0} → Plan → Meaning A → Type 0
AcceptsTexts plan m = (trace : List ℕ) (v : Verdict) → GivesVerdict plan m trace v → (e : Ending)
    → (v ≡ verdict.Accepted e) ↔ ((run : List Event) × IsEndedRun plan m run × (ending_of plan m run ≡ e) × (trace ≡ text_of plan m run))

-- The bytes determine the run: two runs that have ended with one text are one.
abbrev pub TextsTellRuns : {A : Type 0} → Plan → Meaning A → Type 0
TextsTellRuns plan m = (a b : List Event) → IsEndedRun plan m a → IsEndedRun plan m b → text_of plan m a ≡ text_of plan m b → a ≡ b

-- What is written is accepted: let a scenario end in a line feed, and put after it a line `trace` and the text of a run of its
-- plan that has ended, all within the program's limit. That input has this scenario and this trace, and each verdict on it is
-- that it is accepted, with the run's ending.
abbrev pub IsAcceptedAgain : {A : Type 0} → List ℕ → Plan → Meaning A → Type 0
IsAcceptedAgain scenario plan m = (run : List Event) → IsEndedRun plan m run → IsParted scenario (text_of plan m run)
    × ((v : Verdict) → GivesVerdict plan m (trace_in (put_together scenario (text_of plan m run))) v → v ≡ verdict.Accepted (ending_of plan m run))
