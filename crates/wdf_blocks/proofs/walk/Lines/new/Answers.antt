use Rattle.std.proofs.Common.{arith, ◌+◌, ◌<◌, ◌^◌, length}
use Rattle.wdf_blocks.proofs.Walks.{placed_room}
use Rattle.wdf_blocks.proofs.walk.Lines.new.Goals as goal

pub push-requires : goal.push-requires
push-requires c =
    let lines = rw c.as_slice-lines.ensures.value at c.as_slice-lines.ensures.fits in
    let room : length c.loop-line.placed + 1 < 2 ^ 32 = placed_room c.args.scene.now c.loop-line.placed _ _ c.in-Some.line lines c.loop-line.invariant c.in-Some.ensures in
    (omega arith, (room, room))
