use Rattle.std.proofs.Common.{arith, length, ◌++◌, ◌<◌, ◌^◌}
use Rattle.std.specs.Option.{option_to_list}
use Rattle.wdf_plan.proofs.Shares.{share_more, share_room}
use Rattle.wdf_plan.proofs.posts.posts_in.Goals as goal

pub add_found-requires : goal.add_found-requires
add_found-requires c =
    let room : length (c.loop-posted.posts ++ option_to_list c.post_in.result) < 2 ^ 32 = share_room c.args.block c.args.all.now c.loop-posted.posted-index _ _ _ _ c.loop-posted-test.true c.loop-posted.invariant c.post_in.ensures c.requires in
    (omega arith, (room, room))

pub loop-posted-preserved : goal.loop-posted-preserved
loop-posted-preserved c =
    share_more c.args.block c.args.all.now c.loop-posted.posted-index _ _ _ _ c.loop-posted-test.true c.loop-posted.invariant c.post_in.ensures c.in_ok-add_found.ensures
