-- The first three lines, written out from a plan.
use Rattle.std.proofs.Common.{◌≡◌, ℕ, List, [], ◌∷◌, take, map, refl}
use Rattle.wdf_scene.specs.declared.line.NumberedLine.{NumberedLine}
use Rattle.wdf_scene.specs.declared.line.SceneLine.TheVariants as line
use Rattle.wdf_scene.specs.declared.scene.Scene.{Scene}
use Rattle.wdf_scene.specs.Written.{IsScene}
use Rattle.wdf_plan.specs.Plans.{plan_with, plan_of}
use Rattle.wdf_plan.proofs.Headers.{first_header, second_header, third_header}
use Rattle.wdf_refusals.proofs.Heads.{scene_head}
use Rattle.law_plan.specs.WrittenOut.{head_lines}

heads_of : (lines : List NumberedLine) (a b c : NumberedLine) (rest : List NumberedLine) (x y z : ℕ) → lines ≡ a ∷ b ∷ c ∷ rest → a.form ≡ line.Cpus x → b.form ≡ line.Limit y → c.form ≡ line.Objects z → line.Cpus x ∷ line.Limit y ∷ line.Objects z ∷ [] ≡ take 3 (map (λ l. l.form) lines)
heads_of lines a b c rest x y z e f g h = rw (e, f, g, h) refl

pub heads_are : (scene : Scene) → IsScene scene → head_lines (plan_of scene) ≡ take 3 (map (λ l. l.form) scene.lines)
unfolding plan_of plan_with
heads_are scene s =
    let h = scene_head scene s in
    rw (first_header scene h, second_header scene h, third_header scene h) (heads_of scene.lines h.first h.second h.third h.rest h.cpus h.limit h.objects h.are h.is_cpus h.is_limit h.is_objects)
