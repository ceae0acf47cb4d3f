-- One post more.
use Rattle.std.proofs.Common.{add-one, refl}
use Rattle.wdf_base.specs.Plan.{posts_of}
use Rattle.wdf_model.proofs.Runs.{take_next}
use Rattle.wdf_stack.proofs.stack_manager.lines_of.Goals as goal

pub loop-k-preserved : goal.loop-k-preserved
loop-k-preserved c =
    rw (c.in_ok-push.ensures, c.loop-k.invariant, add-one, take_next (posts_of c.args.plan.now 0) c.loop-k.k c.post.result c.post.ensures) refl
