use Rattle.std.proofs.Common.{◌≡◌, ◌++◌, take, flat_map}
use Rattle.wdf_parse.specs.Printing.{version_text, scene_line_text}
use Rattle.wdf_parse.proofs.printing.print_scene.Given as goal

abbrev pub invariant-loop-line : goal.invariant-loop-line
invariant-loop-line l = l.out.items ≡ version_text l.scene.version ++ flat_map (scene_line_text l.scene.exprs) (take l.line-index l.scene.lines)
