-- One rank more.
use Rattle.std.proofs.Common.{◌∙◌}
use Rattle.wdf_ready.specs.Blocks.{joined}
use Rattle.wdf_ready.proofs.Grouping.{one_rank}
use Rattle.wdf_ready.proofs.groups.push_ranks.Goals as goal

pub loop-rank-preserved : goal.loop-rank-preserved
loop-rank-preserved c =
    c.in_ok-push_rank.ensures
    ∙ one_rank c.args.plan.now (joined c.args.objects.now c.loop-rank.made.items) (joined c.args.objects.now c.args.made.now.items) c.args.cpu c.loop-rank.rank-index _ c.loop-rank-test.true c.loop-rank.invariant
