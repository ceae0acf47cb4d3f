-- The runs of a text and of its canonical text are the same but for line numbers.
use Rattle.std.proofs.Common.{◌≡◌, ℕ, List, [], map, None, sym, ap, ◌∙◌, subst}
use Rattle.wdf_base.specs.declared.event.Event.{Event}
use Rattle.wdf_base.specs.declared.plan.Plan.{Plan}
use Rattle.wdf_scene.specs.declared.scene.Scene.{Scene}
use Rattle.wdf_parse.specs.Canonical.{canonical_text}
use Rattle.wdf_parse.specs.StandsFor.{StandsFor}
use Rattle.wdf_parse.proofs.Uniqueness.{one_stands}
use Rattle.wdf_refusals.specs.First.{first_refusal}
use Rattle.wdf_plan.specs.Plans.{plan_of}
use Rattle.wdf_model.specs.rules.Ready.{IsPickedRun, ending_of, ready}
use Rattle.wdf_model.proofs.Runs.{picked_once}
use Rattle.wdf_dev.specs.Agents.{agent_meaning}
use Rattle.wdf_output.specs.Endings.{status_of}
use Rattle.wdf_output.specs.Said.{Sinking}
use Rattle.wdf_run.specs.Seeds.{seed_words}
use Rattle.wdf_top.specs.Agents.{Usual}
use Rattle.wdf_top.specs.Answers.{By, HasPlan, picks_of}
use Rattle.wdf_top.specs.Top.{Sourcing}
use Rattle.wdf_top.specs.declared.run.Picks.{Picks}
use Rattle.wdf_top.specs.declared.run.Picks.TheVariants.{Listed, Seeded}
use Rattle.wdf_serve.specs.Runs.{WroteSomeRun}
use Rattle.law_bare.specs.Bare.{bare_event}
use Rattle.law_canonical.specs.Canonical.{RunAlike}
use Rattle.law_canonical.proofs.Canonical.{has_runs_too}
use Rattle.law_top.specs.Written.{AreAlike}

picks_same : (picks : Picks) (one two : Plan) → RunAlike one two → picks_of picks one ≡ picks_of picks two
picks_same Listed one two alike = alike.picks
picks_same (Seeded seed) one two alike = ap (seed_words seed) alike.limit

runs_by : (picks : Picks) (one two : Plan) (xs ys : List Event) → RunAlike one two → IsPickedRun one agent_meaning (picks_of picks one) xs → IsPickedRun two agent_meaning (picks_of picks two) ys
    → (map bare_event xs ≡ map bare_event ys) × (ending_of one agent_meaning xs ≡ ending_of two agent_meaning ys)
runs_by picks one two xs ys alike p q =
    let like = alike.picked (picks_of picks one) xs p in
    let there = subst (λ ns. IsPickedRun two agent_meaning ns like.0) (picks_same picks one two alike) like.1 in
    let same : like.0 ≡ ys = picked_once (ready two agent_meaning) (picks_of picks two) [] like.0 ys there q in
    (like.2 ∙ ap (map bare_event) same, like.3 ∙ ap (ending_of two agent_meaning) same)

plan_is : (input : List ℕ) (scene : Scene) (plan : Plan) → StandsFor input scene → HasPlan input plan → plan ≡ plan_of scene
plan_is input scene plan stands has = has.3 ∙ ap plan_of (one_stands input has.0 scene has.1 stands)

pub run_again : (picks : Picks) (s t : Sourcing) (k l : Sinking) (status another : ℕ) (one : WroteSomeRun Usual (By picks) s k status) (two : WroteSomeRun Usual (By picks) t l another)
    → (scene : Scene) (stands : StandsFor one.input scene) → two.input ≡ canonical_text scene.version stands.ws → AreAlike one.run two.run status another
run_again picks s t k l status another one two scene stands text =
    let none : first_refusal scene ≡ None = ap first_refusal (sym (one_stands one.input one.stands.0 scene one.stands.1 stands)) ∙ one.stands.2 in
    let again = has_runs_too one.input scene stands none in
    let there : StandsFor two.input again.0 = subst (λ x. StandsFor x again.0) (sym text) again.1 in
    let first : RunAlike (plan_of scene) two.plan = subst (RunAlike (plan_of scene)) (sym (plan_is two.input again.0 two.plan there two.stands)) again.3 in
    let alike : RunAlike one.plan two.plan = subst (λ P. RunAlike P two.plan) (sym (plan_is one.input scene one.plan stands one.stands)) first in
    let runs = runs_by picks one.plan two.plan one.run two.run alike one.made two.made in
    (runs.0, one.status_is ∙ ap status_of runs.1 ∙ sym two.status_is)
