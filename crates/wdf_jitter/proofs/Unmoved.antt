-- By 0 ticks nothing is moved.
use Rattle.std.proofs.Common.{ℕ, suc, ◌≡◌, ◌+◌, ◌-◌, ◌%◌, min, List, [], ◌∷◌, refl, ap, ◌∙◌, arith}
use Rattle.wdf_scene.specs.declared.line.NumberedLine.{NumberedLine}
use Rattle.wdf_scene.specs.declared.line.SceneLine.{SceneLine}
use Rattle.wdf_scene.specs.declared.line.SceneLine.TheVariants as line
use Rattle.wdf_scene.specs.declared.scene.Scene.{Scene}
use Rattle.wdf_jitter.specs.declared.moved.TheConstants.{LAST_TICK}
use Rattle.wdf_jitter.specs.Moved.{moved_tick, moved_form, moved_lines, moved_scene}

tick_stays : (word tick : ℕ) → moved_tick 0 word tick ≡ tick
tick_stays word tick =
    let none : word % suc 0 ≡ 0 = omega arith in
    let least : (m : ℕ) → min 0 m ≡ 0 = λ m. omega arith in
    ap (λ n. tick + min n (LAST_TICK - tick)) none ∙ ap (λ n. tick + n) (least (LAST_TICK - tick)) ∙ (let e : tick + 0 ≡ tick = omega arith in e)

form_stays : (word : ℕ) (form : SceneLine) → moved_form 0 word form ≡ form
form_stays word (line.At tick action) = ap (λ t. line.At t action) (tick_stays word tick)
form_stays word (line.AtRead tick d n) = ap (λ t. line.AtRead t d n) (tick_stays word tick)
form_stays word (line.AtWrite tick d n) = ap (λ t. line.AtWrite t d n) (tick_stays word tick)
form_stays word (line.AtControl tick d code n) = ap (λ t. line.AtControl t d code n) (tick_stays word tick)
form_stays word (line.AtCancel tick k) = ap (λ t. line.AtCancel t k) (tick_stays word tick)
form_stays word (line.AtAsk tick ask d) = ap (λ t. line.AtAsk t ask d) (tick_stays word tick)
form_stays word form = refl

lines_stay : (words : List ℕ) (lines : List NumberedLine) → moved_lines 0 words lines ≡ lines
lines_stay words [] = refl
lines_stay [] (l ∷ lines) = refl
lines_stay (word ∷ words) (l ∷ lines) =
    ap (λ form. record l { form = form } ∷ moved_lines 0 words lines) (form_stays word l.form) ∙ ap (λ ls. l ∷ ls) (lines_stay words lines)

-- A scene that is moved by 0 ticks is the scene.
pub scene_stays : (words : List ℕ) (scene : Scene) → moved_scene 0 words scene ≡ scene
scene_stays words scene = ap (λ ls. record scene { lines = ls }) (lines_stay words scene.lines)
