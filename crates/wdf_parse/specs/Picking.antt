-- A line is added to a scene, with its picks.
use Rattle.std.specs.Prelude.{ℕ, Option, Some, None, List, [], ◌∷◌, ◌++◌, if◌then◌else◌}
use Rattle.wdf_scene.specs.declared.line.SceneLine.{SceneLine}
use Rattle.wdf_scene.specs.declared.scene.Scene.{Scene}
use Rattle.wdf_scene.specs.Blocks.{may_stand}
use Rattle.wdf_tokens.specs.declared.token.Token.{Token}
use Rattle.wdf_scene_lines.specs.declared.statements.Form.{Form}
use Rattle.wdf_scene_lines.specs.Building.{form_line, form_picks}
use Rattle.wdf_parse.specs.declared.reader.Reader.{Reader}
use Rattle.wdf_parse.specs.Standing.{standing_after}

-- the scene with one line more
abbrev pub with_line : Scene → ℕ → SceneLine → List ℕ → Scene
with_line s number form ns = record s { lines = s.lines ++ record { number = number; form = form; picks = ns } ∷ [] }

-- the line is placed, if it may come there
abbrev pub placed : Reader → ℕ → SceneLine → List ℕ → Reader
placed r number form ns = record { builder = with_line r.builder number form ns; place = standing_after r.place number form }

abbrev pub form_taken : Reader → ℕ → SceneLine → List ℕ → Option Reader
form_taken r number form ns = if may_stand r.place.position form then Some (placed r number form ns) else None

abbrev pub read_taken : Reader → ℕ → Option Form → List Token → Option Reader
read_taken r number None ts = None
read_taken r number (Some f) ts = form_taken r number (form_line f) (form_picks f ts)
