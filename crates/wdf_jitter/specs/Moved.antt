-- A scene whose `at` lines are moved to later ticks. (own)
use Rattle.std.specs.Prelude.{ℕ, suc, ◌+◌, ◌-◌, ◌%◌, min, List, [], ◌∷◌}
use Rattle.wdf_scene.specs.declared.line.NumberedLine.{NumberedLine}
use Rattle.wdf_scene.specs.declared.line.SceneLine.{SceneLine}
use Rattle.wdf_scene.specs.declared.line.SceneLine.TheVariants as line
use Rattle.wdf_scene.specs.declared.scene.Scene.{Scene}
use Rattle.wdf_jitter.specs.declared.moved.TheConstants.{LAST_TICK}

-- A tick that a word moves: 0 to `most` ticks later, and not past the last tick that a line may name.
abbrev pub moved_tick : ℕ → ℕ → ℕ → ℕ
moved_tick most word tick = tick + min (word % suc most) (LAST_TICK - tick)

-- The form of a line that a word moves, where it is an `at` line; no other form is changed.
abbrev pub moved_form : ℕ → ℕ → SceneLine → SceneLine
moved_form most word (line.At tick action) = line.At (moved_tick most word tick) action
moved_form most word (line.AtRead tick d n) = line.AtRead (moved_tick most word tick) d n
moved_form most word (line.AtWrite tick d n) = line.AtWrite (moved_tick most word tick) d n
moved_form most word (line.AtControl tick d code n) = line.AtControl (moved_tick most word tick) d code n
moved_form most word (line.AtCancel tick k) = line.AtCancel (moved_tick most word tick) k
moved_form most word (line.AtAsk tick ask d) = line.AtAsk (moved_tick most word tick) ask d
moved_form most word form = form

abbrev pub moved_line : ℕ → ℕ → NumberedLine → NumberedLine
moved_line most word l = record l { form = moved_form most word l.form }

-- Lines, each moved by its word. A line that has no word stays.
abbrev pub moved_lines : ℕ → List ℕ → List NumberedLine → List NumberedLine
moved_lines most words [] = []
moved_lines most [] (l ∷ lines) = l ∷ lines
moved_lines most (word ∷ words) (l ∷ lines) = moved_line most word l ∷ moved_lines most words lines

-- The scene with each line moved by its word.
abbrev pub moved_scene : ℕ → List ℕ → Scene → Scene
moved_scene most words scene = record scene { lines = moved_lines most words scene.lines }
