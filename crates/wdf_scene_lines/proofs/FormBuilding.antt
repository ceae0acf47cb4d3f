-- A line without picks is a form.
use Rattle.std.proofs.Common.{◌≡◌, List, Option, Some, None, option_map, refl}
use Rattle.wdf_scene.specs.declared.line.SceneLine.{SceneLine}
use Rattle.wdf_scene.specs.declared.scene.Scene.{Scene}
use Rattle.wdf_scene.specs.Written.{Written}
use Rattle.wdf_tokens.specs.declared.keyword.Keyword.{Keyword}
use Rattle.wdf_tokens.specs.declared.keyword.Keyword.TheVariants as keyword
use Rattle.wdf_tokens.specs.declared.token.Token.{Token}
use Rattle.wdf_scene_lines.specs.declared.statements.Form.TheVariants as form
use Rattle.wdf_scene_lines.specs.Reading.{read_by, read_unpicked}
use Rattle.wdf_scene_lines.specs.Building.{IsLineRead, IsFormRead}

pub read_by_unpicked : (k : Keyword) (ts : List Token) → (k ≡ keyword.Picks → ⊥) → read_by k ts ≡ read_unpicked k ts
read_by_unpicked keyword.Picks ts h = absurd (h refl)
read_by_unpicked _ ts h = refl

pub form_of_line : (w : Option Written) (line : Option SceneLine) (ts : List Token) (old new : Scene) → IsLineRead w line old new → IsFormRead w (option_map (λ l. form.Line l) line) ts old new
form_of_line None None ts old new h = tt
form_of_line None (Some line) ts old new h = absurd h
form_of_line (Some w) None ts old new h = absurd h
form_of_line (Some w) (Some line) ts old new h = record { line_is = h.form_is; picks_are = h.unpicked; built = h.built }
