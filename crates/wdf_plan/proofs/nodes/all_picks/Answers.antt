use Rattle.std.proofs.Common.{◌∙◌, ap}
use Rattle.wdf_scene.specs.declared.line.NumberedLine.{NumberedLine}
use Rattle.wdf_plan.specs.Parts.{line_picks}
use Rattle.wdf_plan.proofs.Rooms.{flat_room}
use Rattle.wdf_plan.proofs.nodes.all_picks.Goals as goal

pub add_picks-requires : goal.add_picks-requires
add_picks-requires c =
    flat_room line_picks c.args.lines.now c.loop-line.line-index c.line-item.result c.loop-line.picks c.as_slice.result.now _ c.loop-line.invariant (c.as_slice.ensures.value ∙ ap (λ (l : NumberedLine). l.picks) c.line-item.is) c.loop-line-test.true c.requires
