-- A trace is accepted with a run exactly where it is the text of the run, which has ended.
use Rattle.std.proofs.Common.{◌≡◌, ◌↔◌, ℕ, ◌≤◌, List, None, length}
use Rattle.wdf_base.specs.Meaning.{Meaning}
use Rattle.wdf_base.specs.Resolved.{IsResolved}
use Rattle.wdf_base.specs.declared.plan.Plan.{Plan}
use Rattle.wdf_base.specs.declared.event.Event.{Event}
use Rattle.wdf_base.specs.declared.event.Ending.TheVariants as ending
use Rattle.wdf_scene.specs.declared.scene.Scene.{Scene}
use Rattle.wdf_parse.specs.StandsFor.{StandsFor}
use Rattle.wdf_parse.proofs.ProperNames.{stands_properly, stands_scene}
use Rattle.wdf_refusals.specs.First.{first_refusal}
use Rattle.wdf_plan.specs.Plans.{plan_of}
use Rattle.wdf_plan.proofs.Whole.{plan_resolved}
use Rattle.wdf_model.specs.rules.Ready.{IsRunOf, ending_of}
use Rattle.wdf_dev.specs.Agents.{agent_meaning}
use Rattle.wdf_run_text.specs.Texts.{text_of, HasEventsOf}
use Rattle.wdf_replay.specs.Verdicts.{IsWhole}
use Rattle.law_replay.proofs.Cut.{lines_text, text_whole}
use Rattle.law_lines.specs.Agents.{HasFittingAgents}
use Rattle.law_lines.specs.Fitting.{HasFittingNumbers}
use Rattle.law_lines.proofs.OverRuns.{events_of_plan}
use Rattle.law_replay.proofs.Fitting.{agents_of_plan}
use Rattle.law_replay.proofs.Plans.{plan_fits}

pub whole_exactly : {A : Type 0} (plan : Plan) (m : Meaning A) (run : List Event) (trace : List ℕ) → IsResolved plan → HasFittingNumbers plan → HasFittingAgents plan m
    → IsWhole plan m trace run ↔ (IsRunOf plan m run × (ending_of plan m run ≡ ending.Running → ⊥) × (trace ≡ text_of plan m run))
whole_exactly plan m run trace h fit agents = (
  λ w. (w.is_run, w.over, lines_text plan m run trace w.over w.lines),
  λ t. text_whole plan m run trace h t.0 t.1 (events_of_plan plan m run h fit agents t.0) t.2,
)

pub text_resolved : (text : List ℕ) (scene : Scene) → StandsFor text scene → first_refusal scene ≡ None → IsResolved (plan_of scene)
text_resolved text scene stands none = plan_resolved scene (stands_scene text scene stands) (stands_properly text scene stands) none

pub events_of_text : (text : List ℕ) (scene : Scene) (run : List Event) → length text ≤ 1048576 → StandsFor text scene → first_refusal scene ≡ None
    → IsRunOf (plan_of scene) agent_meaning run → HasEventsOf (plan_of scene) run
events_of_text text scene run short stands none is_run =
    let fit = plan_fits text scene short stands in
    events_of_plan (plan_of scene) agent_meaning run (text_resolved text scene stands none) fit (agents_of_plan (plan_of scene) fit) is_run

pub whole_by_text : (text : List ℕ) (scene : Scene) (run : List Event) (trace : List ℕ) → length text ≤ 1048576 → StandsFor text scene → first_refusal scene ≡ None
    → IsWhole (plan_of scene) agent_meaning trace run
    ↔ (IsRunOf (plan_of scene) agent_meaning run × (ending_of (plan_of scene) agent_meaning run ≡ ending.Running → ⊥) × (trace ≡ text_of (plan_of scene) agent_meaning run))
whole_by_text text scene run trace short stands none =
    let fit = plan_fits text scene short stands in
    whole_exactly (plan_of scene) agent_meaning run trace (text_resolved text scene stands none) fit (agents_of_plan (plan_of scene) fit)
