-- The `order` block of a scene, and the scene without it. (own)
use Rattle.std.specs.Prelude.{◌≡◌, ℕ, List, [], ◌∷◌, ◌++◌, map}
use Rattle.wdf_scene.specs.declared.line.NumberedLine.{NumberedLine}
use Rattle.wdf_scene.specs.declared.line.SceneLine.TheVariants as line
use Rattle.wdf_scene.specs.declared.scene.Scene.{Scene}

-- a `picks` line
pub record PicksLine : Type 0 where
  pub number : ℕ
  pub picks : List ℕ

abbrev pub picks_line : PicksLine → NumberedLine
picks_line p = record { number = p.number; form = line.Picks; picks = p.picks }

-- the lines of an `order` block: its first line, its `picks` lines, its `end`
abbrev pub order_block : ℕ → List PicksLine → ℕ → List NumberedLine
order_block first ps last =
    record { number = first; form = line.Order; picks = [] } ∷ (map picks_line ps ++ record { number = last; form = line.End; picks = [] } ∷ [])

-- A scene has an `order` block, and this is the scene without it: the lines before it and after it, as they are.
pub record IsWithoutOrder (scene bare : Scene) : Type 0 where
  pub before : List NumberedLine
  pub after : List NumberedLine
  pub first : ℕ
  pub picked : List PicksLine
  pub last : ℕ
  pub whole : scene.lines ≡ before ++ (order_block first picked last ++ after)
  pub bare_is : bare ≡ record scene { lines = before ++ after }
