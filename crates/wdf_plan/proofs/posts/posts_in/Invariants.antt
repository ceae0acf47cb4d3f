use Rattle.std.proofs.Common.{◌≡◌, take}
use Rattle.std.specs.List.{filter_map}
use Rattle.wdf_plan.specs.Posts.{post_in}
use Rattle.wdf_plan.proofs.posts.posts_in.Given as goal

abbrev pub invariant-loop-posted : goal.invariant-loop-posted
invariant-loop-posted l = l.posts ≡ filter_map (post_in l.block) (take l.posted-index l.all)
