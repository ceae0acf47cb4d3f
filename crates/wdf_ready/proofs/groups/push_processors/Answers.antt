-- One processor more.
use Rattle.std.proofs.Common.{◌∙◌}
use Rattle.wdf_ready.specs.Blocks.{joined}
use Rattle.wdf_ready.proofs.Grouping.{one_processor}
use Rattle.wdf_ready.proofs.groups.push_processors.Goals as goal

pub loop-cpu-preserved : goal.loop-cpu-preserved
loop-cpu-preserved c =
    c.in_ok-push_processor.ensures
    ∙ one_processor c.args.plan.now (joined c.args.objects.now c.loop-cpu.made.items) (joined c.args.objects.now c.args.made.now.items) c.loop-cpu.cpu c.loop-cpu.invariant
