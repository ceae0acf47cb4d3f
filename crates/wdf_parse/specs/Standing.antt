-- Where a text is between two lines, with the lines that opened the blocks.
use Rattle.std.specs.Prelude.{ℕ, List, [], ◌∷◌, Option, Some, None}
use Rattle.wdf_scene.specs.declared.line.SceneLine.{SceneLine}
use Rattle.wdf_scene.specs.Blocks.{Position, front, moved, blocks_after, openers_after}

-- a position, and the lines that opened its blocks, innermost first
pub record Standing : Type 0 where
  pub position : Position
  pub openers : List ℕ

-- before the first line of a text of this version
abbrev pub start : ℕ → Standing
start v = record { position = front v; openers = [] }

-- only the open blocks change
abbrev pub shifted : Standing → ℕ → SceneLine → Standing
shifted s number form = record {
  position = record s.position { blocks = blocks_after s.position.blocks form };
  openers = openers_after s.openers number form;
}

-- after a line that may come there
abbrev pub standing_after : Standing → ℕ → SceneLine → Standing
standing_after s number form = record { position = moved s.position form; openers = openers_after s.openers number form }

-- the number in front
abbrev pub first_number : List ℕ → Option ℕ
first_number [] = None
first_number (n ∷ ns) = Some n
