-- When a text is its own canonical form. (own)
use Rattle.std.specs.Prelude.{◌≡◌, ℕ, List, None}
use Rattle.wdf_base.specs.declared.event.Event.{Event}
use Rattle.wdf_base.specs.declared.plan.Plan.{Plan}
use Rattle.wdf_scene.specs.declared.scene.Scene.{Scene}
use Rattle.wdf_parse.specs.Canonical.{canonical_text}
use Rattle.wdf_parse.specs.StandsFor.{StandsFor, without_numbers}
use Rattle.wdf_refusals.specs.First.{first_refusal}
use Rattle.wdf_plan.specs.Plans.{plan_of}
use Rattle.wdf_model.specs.rules.Ready.{IsPickedRun, IsRunOf}
use Rattle.wdf_dev.specs.Agents.{agent_meaning}
use Rattle.law_bare.specs.Bare.{HasLikePicked, HasLikeRun}
use Rattle.law_bare.specs.Lines.{without_lines}

-- a text is its own canonical form: it is the canonical text of the scene that stands for it, which is this one but for line
-- numbers
pub record IsCanonical (text : List ℕ) (scene : Scene) : Type 0 where
  pub again : Scene
  pub stands : StandsFor text again
  pub same : without_numbers again ≡ without_numbers scene
  pub canonical : canonical_text again.version stands.ws ≡ text

-- a scene stands for a text, no line of it is refused, and its plan is that of this scene but for line numbers
abbrev pub HasPlanToo : List ℕ → Scene → Type 0
HasPlanToo text scene = (again : Scene) × StandsFor text again × (first_refusal again ≡ None) × (without_lines (plan_of again) ≡ without_lines (plan_of scene))

-- Two plans have the same picks and limit, and the same runs with the agents of `wdf_dev` but for line numbers: to each run by some picks
-- of one there is a run of the other by the same picks, and to each run at all a run.
pub record RunAlike (one two : Plan) : Type 0 where
  pub picks : one.picks ≡ two.picks
  pub limit : one.limit ≡ two.limit
  pub picked : (picks : List ℕ) (run : List Event) → IsPickedRun one agent_meaning picks run → HasLikePicked one two agent_meaning picks run
  pub runs : (run : List Event) → IsRunOf one agent_meaning run → HasLikeRun one two agent_meaning run

-- a scene stands for a text, no line of it is refused, and its plan and that of this scene have the same runs but for line
-- numbers
abbrev pub HasRunsToo : List ℕ → Scene → Type 0
HasRunsToo text scene = (again : Scene) × StandsFor text again × (first_refusal again ≡ None) × RunAlike (plan_of scene) (plan_of again)
