-- Where nothing is moved, a seed runs the case's scene.
use Rattle.std.proofs.Common.{ℕ, ◌≡◌, ap, ◌∙◌, sym}
use Rattle.wdf_plan.specs.Plans.{plan_of}
use Rattle.wdf_jitter.specs.Moved.{moved_scene}
use Rattle.wdf_jitter.proofs.Unmoved.{scene_stays}
use Rattle.wdf_tries.specs.declared.tried.Case.{Case}
use Rattle.wdf_tries.specs.Tries.{moving_words, scene_for}

pub unmoved_plan : (tried : Case) (seed : ℕ) → tried.jitter ≡ 0 → plan_of tried.scene ≡ plan_of (scene_for tried seed)
unmoved_plan tried seed none =
    let words = moving_words tried.scene seed in
    ap plan_of (sym (ap (λ most. moved_scene most words tried.scene) none ∙ scene_stays words tried.scene))
