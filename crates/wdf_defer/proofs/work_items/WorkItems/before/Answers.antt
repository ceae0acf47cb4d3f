use Rattle.std.proofs.Common.{◌∙◌, subst}
use Rattle.wdf_model.specs.parts.Deferred.WorkItems.{WorkItems}
use Rattle.wdf_defer.specs.WorkItems.{AreInOrder}
use Rattle.wdf_defer.proofs.QueuedWork.{counted_below, in_order_of}
use Rattle.wdf_defer.proofs.work_items.WorkItems.before.Goals as goal

pub returns-clause-count : goal.returns-clause-count
returns-clause-count c = rw (← c.self.view_is) (c.before-count.ensures ∙ counted_below c.self.inside.queued c.args.o.0)

pub returns-clause-rising : goal.returns-clause-rising
returns-clause-rising c = subst (λ (W : WorkItems). AreInOrder W) c.self.view_is (in_order_of c.self.inside.queued)
