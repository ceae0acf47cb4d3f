-- A canonical text is its own canonical form.
use Rattle.std.proofs.Common.{◌≡◌, ℕ, List, [], ◌∷◌, ◌++◌, map, flat_map, None, refl, sym, ap, ◌∙◌, subst}
use Rattle.wdf_scene.specs.declared.line.NumberedLine.{NumberedLine}
use Rattle.wdf_scene.specs.declared.line.SceneExpr.{SceneExpr}
use Rattle.wdf_scene.specs.declared.scene.Scene.{Scene}
use Rattle.wdf_parse.specs.Canonical.{canonical_text}
use Rattle.wdf_parse.specs.Laws.{IsReadBack}
use Rattle.wdf_parse.specs.Printing.{printed, scene_line_text, version_text}
use Rattle.wdf_parse.specs.StandsFor.{StandsFor, without_number, without_numbers}
use Rattle.wdf_parse.proofs.ReadBack.{printed_canonical, read_back}
use Rattle.wdf_parse.proofs.Uniqueness.{one_stands, stands_read}
use Rattle.wdf_refusals.specs.First.{first_refusal}
use Rattle.wdf_plan.specs.Plans.{plan_of}
use Rattle.wdf_base.specs.declared.plan.Plan.{Plan}
use Rattle.law_bare.specs.Lines.{bare_plan}
use Rattle.law_bare.proofs.Agents.{usual_picked, usual_run}
use Rattle.law_canonical.specs.Canonical.{HasPlanToo, HasRunsToo, IsCanonical, RunAlike}
use Rattle.law_canonical.proofs.Order.{IsRising, actions_alike, lines_rise}
use Rattle.law_canonical.proofs.Plans.{plans_alike}
use Rattle.law_canonical.proofs.Refusals.{refusals_alike}

-- ---- line numbers aren't printed

lines_alike : (exprs : List SceneExpr) (ls : List NumberedLine) → flat_map (scene_line_text exprs) (map without_number ls) ≡ flat_map (scene_line_text exprs) ls
lines_alike exprs [] = refl
lines_alike exprs (l ∷ ls) = ap (λ (t : List ℕ). scene_line_text exprs l ++ t) (lines_alike exprs ls)

unnumbered : (s : Scene) → printed (without_numbers s) ≡ printed s
unfolding printed
unnumbered s = ap (λ (t : List ℕ). version_text s.version ++ t) (lines_alike s.exprs s.lines)

-- the canonical text is what is printed
canonical_printed : (text : List ℕ) (s : Scene) (stands : StandsFor text s) → canonical_text s.version stands.ws ≡ printed s
canonical_printed text s stands = sym (ap printed stands.is ∙ printed_canonical s.version stands.ws stands.lines.written)

pub canonical_is : (input : List ℕ) (scene : Scene) (stands : StandsFor input scene) → IsCanonical (canonical_text scene.version stands.ws) scene
canonical_is input scene stands =
    let back : IsReadBack scene = read_back input scene (stands_read input scene stands) in
    let text_is : canonical_text scene.version stands.ws ≡ printed scene = canonical_printed input scene stands in
    let same_text : printed back.again ≡ printed scene = sym (unnumbered back.again) ∙ ap printed back.same ∙ unnumbered scene in
    subst (λ t. IsCanonical t scene) (sym text_is)
    (record { again = back.again; stands = back.stands; same = back.same; canonical = canonical_printed (printed scene) back.again back.stands ∙ same_text })

pub has_plan_too : (input : List ℕ) (scene : Scene) (stands : StandsFor input scene) → first_refusal scene ≡ None → HasPlanToo (canonical_text scene.version stands.ws) scene
has_plan_too input scene stands none = let is = canonical_is input scene stands in (is.again, is.stands, refusals_alike scene is.again (sym is.same) none, plans_alike is.again scene is.same)

-- the canonical text of whatever scene stands for a canonical text is that text
pub canonical_again : (text : List ℕ) (scene again : Scene) → IsCanonical text scene → (stands : StandsFor text again) → canonical_text again.version stands.ws ≡ text
canonical_again text scene again is stands =
    canonical_printed text again stands ∙ ap printed (one_stands text again is.again stands is.stands) ∙ sym (canonical_printed text is.again is.stands) ∙ is.canonical

-- two scenes that are the same but for line numbers, which rise, have the same runs but for them
pub runs_alike : (a b : Scene) → without_numbers a ≡ without_numbers b → IsRising 1 a.lines → IsRising 1 b.lines → RunAlike (plan_of a) (plan_of b)
runs_alike a b same r t =
    let plans = plans_alike a b same in
    let bare : bare_plan (plan_of a) ≡ bare_plan (plan_of b) = ap (λ (P : Plan). record P { picks = [] }) plans in
    let actions = actions_alike a b same r t in
    record { picks = ap (λ (P : Plan). P.picks) plans; limit = ap (λ (P : Plan). P.limit) plans; picked = usual_picked (plan_of a) (plan_of b) bare actions; runs = usual_run (plan_of a) (plan_of b) bare actions }

pub has_runs_too : (input : List ℕ) (scene : Scene) (stands : StandsFor input scene) → first_refusal scene ≡ None → HasRunsToo (canonical_text scene.version stands.ws) scene
has_runs_too input scene stands none =
    let is = canonical_is input scene stands in
    let text = canonical_text scene.version stands.ws in
    (is.again, is.stands, refusals_alike scene is.again (sym is.same) none, runs_alike scene is.again (sym is.same) (lines_rise input scene stands) (lines_rise text is.again is.stands))
