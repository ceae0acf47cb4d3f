-- What a scene says, by number, and how a pick is added to it.
use Rattle.std.specs.Prelude.{◌≡◌, ℕ, ◌-◌, List, [], ◌∷◌, ◌++◌, length, Option, Some, None, slice_get, IsSomeAnd}
use Rattle.wdf_scene.specs.declared.line.NumberedLine.{NumberedLine}
use Rattle.wdf_scene.specs.declared.line.SceneLine.TheVariants as line
use Rattle.wdf_scene.specs.declared.scene.Scene.{Scene}
use Rattle.wdf_scene.specs.Change.{changed_at}

-- the numbers of a line that is there
abbrev pub line_picks : Option NumberedLine → List ℕ
line_picks None = []
line_picks (Some l) = l.picks

-- the numbers that follow the word of the picks line k
abbrev pub picks_of : Scene → ℕ → List ℕ
picks_of scene k = line_picks (slice_get scene.lines k)

-- the last line
abbrev pub last_line : Scene → Option NumberedLine
last_line scene = slice_get scene.lines (length scene.lines - 1)

-- the last line is a picks line
abbrev pub EndsInPicks : Scene → Type 0
EndsInPicks scene = IsSomeAnd (last_line scene) (λ l. l.form ≡ line.Picks)

-- the numbers of the last line
abbrev pub last_picks : Scene → List ℕ
last_picks scene = line_picks (last_line scene)

-- the line with one number more
abbrev pub line_with_pick : ℕ → NumberedLine → NumberedLine
line_with_pick n l = record l { picks = l.picks ++ n ∷ [] }

-- the scene with one number more in its last line
abbrev pub with_pick : Scene → ℕ → Scene
with_pick scene n = record scene { lines = changed_at (line_with_pick n) (length scene.lines - 1) scene.lines }
