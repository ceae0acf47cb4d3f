-- The handlers of one id more.
use Rattle.wdf_plan_index.specs.Handlers.{handlers_at}
use Rattle.wdf_plan_index.proofs.Handling.{one_more}
use Rattle.wdf_plan_index.proofs.handlers.handlers_of.Goals as goal

pub loop-k-preserved : goal.loop-k-preserved
loop-k-preserved c = rw (c.in_ok-push-2.ensures.items, c.loop-k.invariant, c.handlers_at-in-loop-k.ensures) (one_more (handlers_at c.args.plan.now) c.loop-k.k)
