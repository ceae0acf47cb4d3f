-- The most events of a run are those of the scene.
use Rattle.std.proofs.Common.{◌≡◌, ℕ, List, Option, Some, None, option_map, refl, sym, ap, ◌∙◌}
use Rattle.wdf_scene.specs.declared.line.SceneLine.{SceneLine}
use Rattle.wdf_scene.specs.declared.scene.Scene.{Scene}
use Rattle.wdf_blocks.specs.Blocks.{form_at}
use Rattle.wdf_plan.specs.Plans.{header_in, header_of, plan_of, plan_with}
use Rattle.wdf_jitter.specs.Moved.{moved_scene}
use Rattle.law_moved.proofs.Untimed.{by_form, scene_alike, untimed, untimed_scene}
use Rattle.law_moved.proofs.Scenes.{form_alike}

header_alike : (form : SceneLine) → header_in (untimed form) ≡ header_in form
unfolding header_in
header_alike form = by_form header_in (λ t u a. refl) (λ t u d n. refl) (λ t u d n. refl) (λ t u d c n. refl) (λ t u k. refl) (λ t u a d. refl) form

pub header_of_any : (o : Option SceneLine) → header_of (option_map untimed o) ≡ header_of o
header_of_any None = refl
header_of_any (Some form) = header_alike form

limit_alike : (s : Scene) → (plan_of (untimed_scene s)).limit ≡ (plan_of s).limit
unfolding plan_of plan_with
limit_alike s = ap header_of (form_alike s 1) ∙ header_of_any (form_at s 1)

pub moved_limit : (most : ℕ) (words : List ℕ) (scene : Scene) → (plan_of (moved_scene most words scene)).limit ≡ (plan_of scene).limit
moved_limit most words scene = sym (limit_alike (moved_scene most words scene)) ∙ ap (λ s. (plan_of s).limit) (scene_alike most words scene) ∙ limit_alike scene
