use Rattle.std.proofs.Common.{◌≡◌, take, map}
use Rattle.wdf_scene.specs.declared.line.SceneLine.TheVariants as line
use Rattle.wdf_scene_lines.specs.Reading.{number_in}
use Rattle.wdf_parse.specs.Picking.{with_line}
use Rattle.wdf_parse.proofs.reader.add_picks.Given as goal

abbrev pub invariant-loop-token : goal.invariant-loop-token
invariant-loop-token l = l.builder ≡ with_line l.fn.builder l.fn.number line.Picks (map number_in (take l.token-index l.tokens))
