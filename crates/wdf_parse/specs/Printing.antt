-- How a scene is printed: the tokens of each line with one space between them.
use Rattle.std.specs.Prelude.{ℕ, ◌==◌, List, [], ◌∷◌, ◌++◌, flat_map, if◌then◌else◌}
use Rattle.wdf_scene.specs.declared.line.NumberedLine.{NumberedLine}
use Rattle.wdf_scene.specs.declared.line.SceneExpr.{SceneExpr}
use Rattle.wdf_scene.specs.declared.scene.Scene.{Scene}
use Rattle.wdf_tokens.specs.declared.keyword.Keyword.TheVariants as keyword
use Rattle.wdf_tokens.specs.declared.token.Token.TheVariants as token
use Rattle.wdf_tokens.specs.WordTokens.{word}
use Rattle.wdf_tokens.specs.TokenTexts.{line_text}
use Rattle.wdf_scene_lines.specs.LineTokens.{line_tokens}

-- the text of a line of a scene
abbrev pub scene_line_text : List SceneExpr → NumberedLine → List ℕ
scene_line_text exprs l = line_text (line_tokens exprs l.form l.picks)

-- the line `version 2`, where the scene has this version
abbrev pub version_text : ℕ → List ℕ
version_text v = if v == 2 then line_text (word keyword.Version ∷ token.Number 2 ∷ []) else []

-- the text of a scene
unfoldable pub printed : Scene → List ℕ
printed s = version_text s.version ++ flat_map (scene_line_text s.exprs) s.lines
