-- What stays true of the counts in a walk over the lines, and which lines are kept as placed.
use Rattle.std.specs.Prelude.{◌≡◌, ℕ, ◌*◌, ◌<◌, ◌≤◌, ◌^◌, List, length}
use Rattle.wdf_scene.specs.declared.line.NumberedLine.{NumberedLine}
use Rattle.wdf_blocks.specs.declared.placed.Stand.{Stand}
use Rattle.wdf_scene.specs.declared.scene.Scene.{Scene}
use Rattle.wdf_blocks.specs.declared.placed.Counts.{Counts}
use Rattle.wdf_blocks.specs.declared.placed.Placed.{Placed}
use Rattle.wdf_blocks.specs.Placed.{placed}

-- line k is one of the lines or after them, and nothing was counted more often than there are lines before it
pub record IsWithin (lines : List NumberedLine) (k : ℕ) (o : Stand) (c : Counts) : Type 0 where
  pub lines_fit : length lines < 2 ^ 32
  pub there : k ≤ length lines
  pub nested : o.nested ≤ k
  pub devices : c.devices ≤ k
  pub objects : c.objects ≤ k
  pub apps : c.apps ≤ k
  pub registers : c.registers ≤ k
  pub classes : c.classes ≤ k
  pub statements : c.statements ≤ k
  pub posts : c.posts ≤ k
  pub picks : c.picks ≤ k * 2 ^ 32

-- these are the lines of the scene, and where they are
pub record ArePlaced (scene : Scene) (lines : List Placed) : Type 0 where
  pub all : lines ≡ placed scene
