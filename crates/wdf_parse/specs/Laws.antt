-- What holds of a text and its scene.
use Rattle.std.specs.Prelude.{◌≡◌, ℕ, List}
use Rattle.wdf_scene.specs.declared.scene.Scene.{Scene}
use Rattle.wdf_parse.specs.declared.refusal.ParseRefusal.{ParseRefusal}
use Rattle.wdf_parse.specs.declared.refusal.ParseRefusal.TheVariants as refusal
use Rattle.wdf_parse.specs.Printing.{printed}
use Rattle.wdf_parse.specs.StandsFor.{StandsFor, without_numbers}

-- the scene that stands for a scene's printed text is the same but for line numbers
pub record IsReadBack (s : Scene) : Type 0 where
  pub again : Scene
  pub stands : StandsFor (printed s) again
  pub same : without_numbers again ≡ without_numbers s

-- a refusal says that no scene stands for the text
abbrev pub IsNoScene : List ℕ → ParseRefusal → Type 0
IsNoScene text refusal.Memory = Unit {0}
IsNoScene text e = (scene : Scene) → StandsFor text scene → ⊥
