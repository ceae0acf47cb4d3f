-- A scene without the ticks of its `at` lines is the same for the scene and for a moved one.
use Rattle.std.proofs.Common.{ℕ, suc, ◌≡◌, ◌+◌, ◌-◌, ◌≤◌, ◌%◌, cond, Bool, true, false, min, List, [], ◌∷◌, map, refl, sym, ap, ◌∙◌, arith}
use Rattle.std.proofs.lemmas.Bool.Decides.{nat_tests}
use Rattle.wdf_base.specs.Resolved.{is_ticks}
use Rattle.wdf_scene.specs.declared.line.NumberedLine.{NumberedLine}
use Rattle.wdf_scene.specs.declared.line.SceneAction.{SceneAction}
use Rattle.wdf_scene.specs.declared.line.SceneLine.{SceneLine}
use Rattle.wdf_scene.specs.declared.line.SceneLine.TheVariants as line
use Rattle.wdf_base.specs.declared.event.Ask.{Ask}
use Rattle.wdf_scene.specs.declared.scene.Scene.{Scene}
use Rattle.wdf_jitter.specs.Moved.{moved_tick, moved_form, moved_lines, moved_scene}

-- a tick that a line may name as 0, and any other as it is
abbrev pub plain_tick : ℕ → ℕ
plain_tick t = cond (is_ticks t) 0 t

-- a form with its tick so
abbrev pub untimed : SceneLine → SceneLine
untimed (line.At t action) = line.At (plain_tick t) action
untimed (line.AtRead t d n) = line.AtRead (plain_tick t) d n
untimed (line.AtWrite t d n) = line.AtWrite (plain_tick t) d n
untimed (line.AtControl t d code n) = line.AtControl (plain_tick t) d code n
untimed (line.AtCancel t k) = line.AtCancel (plain_tick t) k
untimed (line.AtAsk t ask d) = line.AtAsk (plain_tick t) ask d
untimed form = form

abbrev pub untimed_line : NumberedLine → NumberedLine
untimed_line l = record l { form = untimed l.form }

abbrev pub untimed_scene : Scene → Scene
untimed_scene s = record s { lines = map untimed_line s.lines }

-- ---- a moved tick

kept_by : (r t : ℕ) (b : Bool) → is_ticks t ≡ b → plain_tick (t + min r (1000000 - t)) ≡ plain_tick t
kept_by r t true h =
    let within : t ≤ 1000000 = grind (arith, nat_tests) in
    let still : t + min r (1000000 - t) ≤ 1000000 = omega arith in
    let also : is_ticks (t + min r (1000000 - t)) ≡ true = grind (arith, nat_tests) in
    ap (λ b. cond b 0 (t + min r (1000000 - t))) also ∙ ap (λ b. cond b 0 t) (sym h)
kept_by r t false h =
    let past : 1000001 ≤ t = grind (arith, nat_tests) in
    let same : t + min r (1000000 - t) ≡ t = omega arith in
    ap plain_tick same

tick_alike : (most word t : ℕ) → plain_tick (moved_tick most word t) ≡ plain_tick t
tick_alike most word t = kept_by (word % suc most) t (is_ticks t) refl

-- whether a line may name it is the same
ticks_by : (t : ℕ) (b : Bool) → is_ticks t ≡ b → is_ticks (cond b 0 t) ≡ is_ticks t
ticks_by t true h = sym h
ticks_by t false h = refl

pub ticks_alike : (t : ℕ) → is_ticks (plain_tick t) ≡ is_ticks t
ticks_alike t = ticks_by t (is_ticks t) refl

-- ---- a moved scene

form_alike : (most word : ℕ) (form : SceneLine) → untimed (moved_form most word form) ≡ untimed form
form_alike most word (line.At t action) = ap (λ n. line.At n action) (tick_alike most word t)
form_alike most word (line.AtRead t d n) = ap (λ m. line.AtRead m d n) (tick_alike most word t)
form_alike most word (line.AtWrite t d n) = ap (λ m. line.AtWrite m d n) (tick_alike most word t)
form_alike most word (line.AtControl t d code n) = ap (λ m. line.AtControl m d code n) (tick_alike most word t)
form_alike most word (line.AtCancel t k) = ap (λ m. line.AtCancel m k) (tick_alike most word t)
form_alike most word (line.AtAsk t ask d) = ap (λ m. line.AtAsk m ask d) (tick_alike most word t)
form_alike most word form = refl

lines_alike : (most : ℕ) (words : List ℕ) (lines : List NumberedLine) → map untimed_line (moved_lines most words lines) ≡ map untimed_line lines
lines_alike most words [] = refl
lines_alike most [] (l ∷ lines) = refl
lines_alike most (word ∷ words) (l ∷ lines) =
    ap (λ form. record l { form = form } ∷ map untimed_line (moved_lines most words lines)) (form_alike most word l.form) ∙ ap (λ ls. untimed_line l ∷ ls) (lines_alike most words lines)

pub scene_alike : (most : ℕ) (words : List ℕ) (s : Scene) → untimed_scene (moved_scene most words s) ≡ untimed_scene s
scene_alike most words s = ap (λ ls. record s { lines = ls }) (lines_alike most words s.lines)

-- ---- what doesn't see the tick

-- what is the same of two `at` lines that differ in their tick alone is the same without ticks
pub by_form : {X : Type 0} (g : SceneLine → X)
    → ((t u : ℕ) (action : SceneAction) → g (line.At t action) ≡ g (line.At u action))
    → ((t u : ℕ) (d : List ℕ) (n : ℕ) → g (line.AtRead t d n) ≡ g (line.AtRead u d n))
    → ((t u : ℕ) (d : List ℕ) (n : ℕ) → g (line.AtWrite t d n) ≡ g (line.AtWrite u d n))
    → ((t u : ℕ) (d : List ℕ) (code n : ℕ) → g (line.AtControl t d code n) ≡ g (line.AtControl u d code n))
    → ((t u k : ℕ) → g (line.AtCancel t k) ≡ g (line.AtCancel u k))
    → ((t u : ℕ) (ask : Ask) (d : List ℕ) → g (line.AtAsk t ask d) ≡ g (line.AtAsk u ask d))
    → (form : SceneLine) → g (untimed form) ≡ g form
by_form g at read write control cancel asks (line.At t action) = at (plain_tick t) t action
by_form g at read write control cancel asks (line.AtRead t d n) = read (plain_tick t) t d n
by_form g at read write control cancel asks (line.AtWrite t d n) = write (plain_tick t) t d n
by_form g at read write control cancel asks (line.AtControl t d code n) = control (plain_tick t) t d code n
by_form g at read write control cancel asks (line.AtCancel t k) = cancel (plain_tick t) t k
by_form g at read write control cancel asks (line.AtAsk t ask d) = asks (plain_tick t) t ask d
by_form g at read write control cancel asks form = refl
