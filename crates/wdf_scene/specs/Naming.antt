-- The names that a scene declares.
use Rattle.std.specs.Prelude.{ℕ, Bool, true, ◌&&◌, nat_le, List, length, Option, Some, None, IsTrue}
use Rattle.std.specs.List.{list_all}
use Rattle.wdf_base.specs.Resolved.{is_name}
use Rattle.wdf_scene.specs.declared.line.NumberedLine.{NumberedLine}
use Rattle.wdf_scene.specs.declared.line.SceneLine.{SceneLine}
use Rattle.wdf_scene.specs.declared.line.SceneLine.TheVariants as line
use Rattle.wdf_scene.specs.declared.scene.Scene.{Scene}

-- the name that a line declares
unfoldable pub declared_name : SceneLine → Option (List ℕ)
declared_name (line.Class n k) = Some n
declared_name (line.DeferredClass n k parent) = Some n
declared_name (line.Device n working) = Some n
declared_name (line.Interrupt n level) = Some n
declared_name (line.Queue n dispatch) = Some n
declared_name (line.Target n delay status depth) = Some n
declared_name (line.App n) = Some n
declared_name (line.Register n v) = Some n
declared_name _ = None

-- a name of the language, of at most 32 bytes
abbrev pub is_proper_name : List ℕ → Bool
is_proper_name n = is_name n && nat_le (length n) 32

abbrev pub is_proper_if_there : Option (List ℕ) → Bool
is_proper_if_there None = true
is_proper_if_there (Some n) = is_proper_name n

-- what the line declares has such a name
abbrev pub names_properly : NumberedLine → Bool
names_properly l = is_proper_if_there (declared_name l.form)

-- each declared name is one of the language
pub record HasProperNames (scene : Scene) : Type 0 where
  pub each : IsTrue (list_all names_properly scene.lines)
