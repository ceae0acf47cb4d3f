-- The text of a story: the scenario in canonical form, with an `order` block of its picks in place of its own. (own)
use Rattle.std.specs.Prelude.{if◌then◌else◌, ℕ, ◌==◌, Bool, true, false, not, ◌||◌, List, [], ◌∷◌, ◌++◌, codes, decimal, length}
use Rattle.wdf_scene.specs.declared.line.NumberedLine.{NumberedLine}
use Rattle.wdf_scene.specs.declared.line.SceneExpr.{SceneExpr}
use Rattle.wdf_scene.specs.declared.line.SceneLine.{SceneLine}
use Rattle.wdf_scene.specs.declared.line.SceneLine.TheVariants as line
use Rattle.wdf_scene.specs.declared.scene.Scene.{Scene}
use Rattle.wdf_parse.specs.Printing.{scene_line_text, version_text}

-- the first line of an `order` block
abbrev pub is_order : SceneLine → Bool
is_order line.Order = true
is_order _ = false

-- the last line of a block
abbrev pub is_end : SceneLine → Bool
is_end line.End = true
is_end _ = false

-- whether the line after this one is in the `order` block, where this one is in it or not
abbrev pub inside_after : Bool → SceneLine → Bool
inside_after inside form = if inside then not (is_end form) else is_order form

-- the canonical text of a line outside the `order` block, and none of a line of it
abbrev pub outside_text : List SceneExpr → Bool → NumberedLine → List ℕ
outside_text exprs inside l = if inside || is_order l.form then [] else scene_line_text exprs l

-- the canonical text of the lines outside the `order` block
abbrev pub outside_texts : List SceneExpr → Bool → List NumberedLine → List ℕ
outside_texts exprs inside [] = []
outside_texts exprs inside (l ∷ ls) = outside_text exprs inside l ++ outside_texts exprs (inside_after inside l.form) ls

-- picks, a blank before each
abbrev pub picks_text : List ℕ → List ℕ
picks_text [] = []
picks_text (pick ∷ picks) = codes " " ++ decimal pick ++ picks_text picks

-- an `order` block of these picks
abbrev pub block_text : List ℕ → List ℕ
block_text picks = codes "order\npicks" ++ picks_text picks ++ codes "\nend\n"

-- the same; none where there are no picks
abbrev pub order_text : List ℕ → List ℕ
order_text picks = if length picks == 0 then [] else block_text picks

-- The text of a scene with an `order` block of these picks, in place of its own.
abbrev pub story_text : Scene → List ℕ → List ℕ
story_text scene picks = version_text scene.version ++ outside_texts scene.exprs false scene.lines ++ order_text picks
