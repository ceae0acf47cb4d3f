-- How a scene grows while it is written.
use Rattle.std.specs.Prelude.{◌+◌, List, ◌++◌, length}
use Rattle.wdf_scene.specs.declared.scene.Scene.{Scene}
use Rattle.wdf_scene.specs.Written.{Written, lines_at, exprs_at}
use Rattle.wdf_gen.specs.Generated.{numbered}

-- the scene with some lines more, which have the next numbers
unfoldable pub extended : Scene → List Written → Scene
extended s ws = record s {
  lines = s.lines ++ lines_at (length s.exprs) (numbered (length s.lines + 1) ws);
  exprs = s.exprs ++ exprs_at (length s.exprs) (numbered (length s.lines + 1) ws);
}
