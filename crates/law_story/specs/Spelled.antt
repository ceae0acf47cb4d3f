-- A scene that can be written as a text. (own)
use Rattle.std.specs.Prelude.{◌≡◌, ℕ, suc, ◌≤◌, Bool, List, [], ◌∷◌, IsTrue}
use Rattle.std.specs.List.{list_all}
use Rattle.wdf_scene.specs.declared.line.NumberedLine.{NumberedLine}
use Rattle.wdf_scene.specs.declared.scene.Scene.{Scene}
use Rattle.wdf_scene.specs.Written.{WrittenLine, AreLines, scene_of}
use Rattle.wdf_tokens.specs.WellFormed.{is_token}
use Rattle.wdf_scene_lines.specs.Spelling.{written_tokens}

-- each token of a line has a spelling: its numbers are below 2 ^ 64, and its words are words
abbrev pub is_spelled : WrittenLine → Bool
is_spelled w = list_all is_token (written_tokens w.written)

-- the numbers of lines rise from this one on
abbrev pub AreRising : ℕ → List NumberedLine → Type 0
AreRising base [] = Unit {0}
AreRising base (l ∷ ls) = (base ≤ l.number) × AreRising (suc l.number) ls

-- A scene that can be written: its lines are lines of the language, each comes where it may and can be spelled, and their
-- numbers rise. The scene of a text is one, and so is a moved one.
pub record IsSpelled (scene : Scene) : Type 0 where
  pub ws : List WrittenLine
  pub is : scene ≡ scene_of scene.version ws
  pub lines : AreLines scene.version ws
  pub fit : IsTrue (list_all is_spelled ws)
  pub rising : AreRising 1 scene.lines
